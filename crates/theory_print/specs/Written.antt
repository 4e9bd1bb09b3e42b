-- How a term is written: with brackets where what stands in a place is no part of the place's sort.
use Rattle.std.specs.Prelude.{ℕ, ◌+◌, ◌-◌, nat_le, if◌then◌else◌, List, [], ◌∷◌, ◌++◌, slice_get, Option, Some, None}
use Rattle.hol_terms.specs.declared.ty.Ty.{Ty}
use Rattle.hol_terms.specs.declared.term.Term.{Term}
use Rattle.theory_syntax.specs.declared.tokens.Quant.{Quant}
use Rattle.theory_syntax.specs.declared.tree.Op.{Op}
use Rattle.theory_syntax.specs.declared.tree.Op.TheVariants as op
use Rattle.theory_syntax.specs.Grammar.{Whole}
use Rattle.theory_terms.specs.declared.decl.Decl.{Decl}
use Rattle.theory_terms.specs.Signature.{Declared}
use Rattle.theory_print.specs.declared.sort.Sort.{Sort}
use Rattle.theory_print.specs.declared.sort.Sort.TheVariants as sort
use Rattle.theory_print.specs.Lexemes.{Lexeme, Name, Truth, Binder, Sign, Equal, Tilde, Open, Close, Colon, Dot}
use Rattle.theory_print.specs.Types.{type_lexemes}
use Rattle.theory_print.specs.Shapes.{Shape, Variable, Constant, Truth as Truth_, Apply, Equals, Not, Join, Bind, Part, Whole as Whole_, part_of}
use Rattle.theory_print.specs.Names.{variable}

-- the sorts of the grammar from the inside out: each holds those before it
abbrev pub sign_rank : Op → ℕ
sign_rank op.And = 4
sign_rank op.Or = 5
sign_rank op.Imp = 6

abbrev pub rank : Sort → ℕ
rank sort.Atom = 0
rank sort.App = 1
rank sort.Eq = 2
rank sort.Neg = 3
rank (sort.Chain o) = sign_rank o
rank sort.Formula = 7

-- what stands on the left of a sign, and on its right
abbrev pub left_of : Op → Sort
left_of op.And = sort.Neg
left_of op.Or = sort.Chain op.And
left_of op.Imp = sort.Chain op.Or

abbrev pub right_of : Op → Sort
right_of op.And = sort.Chain op.And
right_of op.Or = sort.Chain op.Or
right_of op.Imp = sort.Formula

-- in brackets, where what has the first sort is no part of the second
abbrev pub within : Sort → Sort → List Lexeme → List Lexeme
within own wanted xs = if nat_le (rank own) (rank wanted) then xs else Open ∷ xs ++ Close ∷ []

-- the name of a constant, nothing where there is none
abbrev pub constant_name : Option Decl → List ℕ
constant_name None = []
constant_name (Some d) = d.name

-- a binder in so many others, up to its dot
abbrev pub binder_lexemes : ℕ → Declared → ℕ → Quant → Ty → List Lexeme
binder_lexemes k known d q a = Binder q ∷ Name (variable k d) ∷ Colon ∷ type_lexemes known.types a Whole ++ Dot ∷ []

-- the lexemes of a shape in so many binders, where a part of this sort is wanted
abbrev pub lexemes : ℕ → Declared → Shape → ℕ → Sort → List Lexeme
lexemes k known (Variable i) d s = Name (variable k (d - (i + 1))) ∷ []
lexemes k known (Constant c) d s = Name (constant_name (slice_get known.consts c)) ∷ []
lexemes k known (Truth_ b) d s = Truth b ∷ []
lexemes k known (Apply f x) d s = within sort.App s (lexemes k known f d sort.App ++ lexemes k known x d sort.Atom)
lexemes k known (Equals a b) d s = within sort.Eq s (lexemes k known a d sort.App ++ Equal ∷ lexemes k known b d sort.App)
lexemes k known (Not a) d s = within sort.Neg s (Tilde ∷ lexemes k known a d sort.Neg)
lexemes k known (Join o a b) d s = within (sort.Chain o) s (lexemes k known a d (left_of o) ++ Sign o ∷ lexemes k known b d (right_of o))
lexemes k known (Bind q a b) d s =
    within sort.Formula s (Binder q ∷ Name (variable k d) ∷ Colon ∷ type_lexemes known.types a Whole ++ Dot ∷ lexemes k known b (d + 1) sort.Formula)

abbrev pub written : ℕ → Declared → Part → Option (List Lexeme)
written k known (Whole_ p) = Some (lexemes k known p 0 sort.Formula)
written k known _ = None

-- the lexemes of a term that stands alone, where it can be written
abbrev pub sentence_lexemes : ℕ → Declared → Term → Option (List Lexeme)
sentence_lexemes k known t = written k known (part_of t)
