-- Tables of closed terms, each with an auxiliary constant that stands for it: the one of its place.
use Rattle.std.specs.Prelude.{ℕ, if◌then◌else◌, List, [], ◌∷◌, ◌++◌, map, slice_get, Option, Some, None, unwrap_or}
use Rattle.std.specs.List.{list_any, position_or_len}
use Rattle.hol_terms.specs.declared.ty.Ty.{Ty}
use Rattle.hol_terms.specs.declared.konst.Konst.{Konst}
use Rattle.hol_terms.specs.declared.konst.Konst.TheVariants as konst
use Rattle.hol_terms.specs.declared.sig.Sig.{Sig}
use Rattle.hol_terms.specs.declared.term.Term.{Term, roll-Term}
use Rattle.hol_terms.specs.declared.term.Term.TheOpen.{Term-F}
use Rattle.hol_terms.specs.declared.term.Term.TheFolds.{fold-Term}
use Rattle.hol_terms.specs.Types.{bool_ty}
use Rattle.hol_terms.specs.Typing.{type_of_term}
use Rattle.lambda_lift.specs.declared.table.Aux.{Aux}
use Rattle.lambda_lift.specs.Keys.{is_same}

-- the closed terms in order
abbrev pub closed_terms : List Aux → List Term
closed_terms table = map (λ e. e.closed) table

-- the number of a closed term: that of an equal one, or else the next
abbrev pub place : List Aux → Term → ℕ
place table t = position_or_len (is_same t) (closed_terms table)

-- the table with a closed term of this type in it: one that is there stays as it is
abbrev pub with_entry : List Aux → Ty → Term → List Aux
with_entry table a t = if list_any (is_same t) (closed_terms table) then table else table ++ record { ty = a; closed = t } ∷ []

-- the type of a term; bool where it has none
abbrev pub own_ty : Sig → Term → Ty
own_ty sig t = unwrap_or (type_of_term sig t) bool_ty

-- each auxiliary constant of the table replaced by its closed term
abbrev pub expanded_at : ℕ → Option Aux → Term
expanded_at k None = roll-Term (Term-F.Con (konst.Aux k))
expanded_at k (Some e) = e.closed

abbrev pub expanded_konst : List Aux → Konst → Term
expanded_konst table (konst.Aux k) = expanded_at k (slice_get table k)
expanded_konst table k = roll-Term (Term-F.Con k)

abbrev pub expand_step : List Aux → Term-F Term → Term
expand_step table (Term-F.Bound i) = roll-Term (Term-F.Bound i)
expand_step table (Term-F.Free n a) = roll-Term (Term-F.Free n a)
expand_step table (Term-F.Con k) = expanded_konst table k
expand_step table (Term-F.App f x) = roll-Term (Term-F.App f x)
expand_step table (Term-F.Lam a b) = roll-Term (Term-F.Lam a b)

abbrev pub expand : List Aux → Term → Term
expand table = fold-Term Term (expand_step table)
