-- Tests whether two terms, atoms, literals are the same.
use Rattle.std.specs.Prelude.{ℕ, Bool, true, false, ◌==◌, ◌&&◌, if◌then◌else◌, List, [], ◌∷◌}
use Rattle.fo_terms.specs.declared.term.FoTerm.{FoTerm, out-FoTerm}
use Rattle.fo_terms.specs.declared.term.FoTerm.TheOpen.{FoTerm-F}
use Rattle.fo_terms.specs.declared.term.FoTerm.TheFolds.{fold-FoTerm}
use Rattle.fo_terms.specs.declared.atom.Atom.{Atom}
use Rattle.fo_terms.specs.declared.atom.Atom.TheVariants.{Holds, Eq}
use Rattle.fo_terms.specs.declared.literal.Literal.{Literal}

-- each test gives true at its item, and there are as many
abbrev pub all_pass : {X : Type 0} → List (X → Bool) → List X → Bool
all_pass [] [] = true
all_pass [] (x ∷ xs) = false
all_pass (p ∷ ps) [] = false
all_pass (p ∷ ps) (x ∷ xs) = p x && all_pass ps xs

abbrev pub is_var : ℕ → FoTerm-F FoTerm → Bool
is_var x (FoTerm-F.Var y) = x == y
is_var x (FoTerm-F.Fun g ts) = false

abbrev pub is_fun : ℕ → List (FoTerm → Bool) → FoTerm-F FoTerm → Bool
is_fun f tests (FoTerm-F.Var y) = false
is_fun f tests (FoTerm-F.Fun g ts) = f == g && all_pass tests ts

abbrev pub is_term_step : FoTerm-F (FoTerm → Bool) → FoTerm → Bool
is_term_step (FoTerm-F.Var x) t = is_var x (out-FoTerm t)
is_term_step (FoTerm-F.Fun f tests) t = is_fun f tests (out-FoTerm t)

-- whether the two terms are the same
abbrev pub is_term : FoTerm → FoTerm → Bool
is_term = fold-FoTerm (FoTerm → Bool) is_term_step

abbrev pub is_atom : Atom → Atom → Bool
is_atom (Holds s) (Holds t) = is_term s t
is_atom (Holds s) (Eq c d) = false
is_atom (Eq a b) (Holds t) = false
is_atom (Eq a b) (Eq c d) = is_term a c && is_term b d

abbrev pub is_sign : Bool → Bool → Bool
is_sign true b = b
is_sign false b = if b then false else true

abbrev pub is_literal : Literal → Literal → Bool
is_literal l m = is_sign l.positive m.positive && is_atom l.atom m.atom
