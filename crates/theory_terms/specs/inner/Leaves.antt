-- What the private table of leaves keeps.
use Rattle.std.specs.Prelude.{◌≡◌, ℕ, List, slice_get, Option, Some}
use Rattle.std.specs.Option.{ForSome}
use Rattle.hol_terms.specs.declared.konst.Konst.{Konst}
use Rattle.hol_terms.specs.declared.konst.Konst.TheVariants as konst
use Rattle.hol_terms.specs.declared.term.Term.{Term}
use Rattle.hol_terms.specs.declared.term.Term.TheVariants as term

-- the bound variable of this index
abbrev pub variable : ℕ → Term
variable i = term.Bound i

-- the constant that is declared at this place
abbrev pub declared : ℕ → Term
declared i = term.Con (konst.Named i)

-- each term stands at its number
abbrev pub AreLeaves : (ℕ → Term) → List Term → Type 0
AreLeaves leaf held = (i : ℕ) (t : Term) → slice_get held i ≡ Some t → t ≡ leaf i

-- where a term is held, it is this constant
abbrev pub IsSign : Konst → Option Term → Type 0
IsSign k held = ForSome held (λ t. t ≡ term.Con k)
