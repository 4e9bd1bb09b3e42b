-- What a substitution, a function from variables to terms, makes of terms and literals, and which variables they have.
use Rattle.std.specs.Prelude.{ℕ, Bool, ◌==◌, List, map}
use Rattle.std.specs.List.{list_any}
use Rattle.fo_terms.specs.declared.term.FoTerm.{FoTerm, Var, Fun}
use Rattle.fo_terms.specs.declared.term.FoTerm.TheOpen.{FoTerm-F}
use Rattle.fo_terms.specs.declared.term.FoTerm.TheFolds.{fold-FoTerm}
use Rattle.fo_terms.specs.declared.atom.Atom.{Atom}
use Rattle.fo_terms.specs.declared.atom.Atom.TheVariants.{Holds, Eq}
use Rattle.fo_terms.specs.declared.literal.Literal.{Literal}

-- the two kinds of term, as functions
abbrev pub var : ℕ → FoTerm
var x = Var x

abbrev pub fun : ℕ → List FoTerm → FoTerm
fun f args = Fun f args

abbrev pub put_step : (ℕ → FoTerm) → FoTerm-F FoTerm → FoTerm
put_step v (FoTerm-F.Var x) = v x
put_step v (FoTerm-F.Fun f args) = Fun f args

-- the term with `v x` in place of each variable `x`
abbrev pub put : (ℕ → FoTerm) → FoTerm → FoTerm
put v = fold-FoTerm FoTerm (put_step v)

abbrev pub put_atom : (ℕ → FoTerm) → Atom → Atom
put_atom v (Holds t) = Holds (put v t)
put_atom v (Eq s t) = Eq (put v s) (put v t)

abbrev pub put_literal : (ℕ → FoTerm) → Literal → Literal
put_literal v l = record { positive = l.positive; atom = put_atom v l.atom }

-- the substitution put through all literals of a clause
abbrev pub put_literals : (ℕ → FoTerm) → List Literal → List Literal
put_literals v ls = map (put_literal v) ls

abbrev pub occurs_step : ℕ → FoTerm-F Bool → Bool
occurs_step x (FoTerm-F.Var y) = x == y
occurs_step x (FoTerm-F.Fun f args) = list_any (λ b. b) args

-- whether the variable stands in the term
abbrev pub occurs_in : ℕ → FoTerm → Bool
occurs_in x = fold-FoTerm Bool (occurs_step x)

abbrev pub occurs_in_any : ℕ → List FoTerm → Bool
occurs_in_any x ts = list_any (λ b. b) (map (occurs_in x) ts)
