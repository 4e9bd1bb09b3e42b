-- The symbols of encoded formulas: signs, in their order, and what each stands for.
use Rattle.std.specs.Prelude.{ℕ, Bool, nat_eq, List, [], ◌∷◌, map}
use Rattle.std.specs.List.{position_or_len}
use Rattle.std.specs.declared.cmp.Ordering.{Ordering}
use Rattle.std.specs.Ordering.{nat_cmp}
use Rattle.std.specs.Cmp.Lexicographic.{pointwise, slice_cmp}
use Rattle.std.specs.BTreeSet.{replace_key}
use Rattle.indexmap.specs.IndexSet.{insert_key}
use Rattle.hol_terms.specs.declared.konst.Konst.{Konst}
use Rattle.hol_terms.specs.declared.konst.Konst.TheVariants as konst
use Rattle.hol_terms.specs.declared.term.Term.{roll-Term}
use Rattle.hol_terms.specs.declared.term.Term.TheOpen.{Term-F}
use Rattle.lambda_lift.specs.declared.table.Aux.{Aux}
use Rattle.lambda_lift.specs.Keys.{ty_key, kind_of, number_of as number_in_kind, type_of}
use Rattle.lambda_lift.specs.Tables.{expand}
use Rattle.tagged_terms.specs.declared.symbol.Symbol.{Symbol}
use Rattle.tagged_terms.specs.declared.symbol.Symbol.TheVariants as symbol
use Rattle.fol_encode.specs.declared.sign.Sign.{Sign}
use Rattle.fol_encode.specs.declared.sign.Sign.TheVariants as sign

-- ---- their order: by these lists of numbers, of which the first numbers that differ decide. Tags stand first, by their types (a type's list
-- begins with 0 where it is a base type, with 1 where it is a function type, whose parts follow), then application, the logical constants by
-- their kinds and types, the named ones as they are declared, and the auxiliary ones by their numbers

abbrev pub class_of : Konst → ℕ
class_of (konst.Named n) = 3
class_of (konst.Aux n) = 4
class_of _ = 2

abbrev pub konst_key : Konst → List ℕ
konst_key k = class_of k ∷ kind_of k ∷ number_in_kind k ∷ ty_key (type_of k)

abbrev pub sign_key : Sign → List ℕ
sign_key (sign.Tag a) = 0 ∷ ty_key a
sign_key sign.Apply = 1 ∷ []
sign_key (sign.Constant k a) = konst_key k

abbrev pub sign_cmp : Sign → Sign → Ordering
sign_cmp s t = slice_cmp nat_cmp (sign_key s) (sign_key t)

-- signs with more, in their order
abbrev pub in_order : List Sign → List Sign → List Sign
in_order known [] = known
in_order known (s ∷ ss) = in_order (replace_key sign_cmp known s) ss

-- the same sign, as a test
abbrev pub is_sign : Sign → Sign → Bool
is_sign s t = pointwise nat_eq (sign_key s) (sign_key t)

-- signs with more behind them, each once
abbrev pub once : List Sign → List Sign → List Sign
once known [] = known
once known (s ∷ ss) = once (insert_key is_sign known s) ss

-- ---- their numbers

-- the number of a sign: its place
abbrev pub number_of : List Sign → Sign → ℕ
number_of signs s = position_or_len (is_sign s) signs

-- ---- what they stand for

-- an auxiliary constant stands for its closed term
abbrev pub symbol_of : List Aux → Sign → Symbol
symbol_of table (sign.Tag a) = symbol.Tag a
symbol_of table sign.Apply = symbol.Apply
symbol_of table (sign.Constant k a) = symbol.Constant (expand table (roll-Term (Term-F.Con k))) a

abbrev pub symbols_of : List Aux → List Sign → List Symbol
symbols_of table signs = map (symbol_of table) signs
