-- Literals that no substitutions make the same.
use Rattle.std.specs.Prelude.{◌≡◌, ℕ, true, false}
use Rattle.fo_terms.specs.declared.term.FoTerm.{FoTerm}
use Rattle.fo_terms.specs.declared.atom.Atom.TheVariants.{Holds, Eq}
use Rattle.fo_terms.specs.declared.literal.Literal.{Literal}
use Rattle.fo_terms.specs.Substitution.{put}

-- substitutions, one for each, make the two terms the same
abbrev pub Meet : FoTerm → FoTerm → Type 0
Meet s t = (v : ℕ → FoTerm) × (w : ℕ → FoTerm) × (put v s ≡ put w t)

-- the literal is no negated term that meets this one
abbrev pub MeetsNone : FoTerm → Literal → Type 0
MeetsNone s m = (t : FoTerm) → m ≡ record { positive = false; atom = Holds t } → Meet s t → ⊥

-- the one is no term, or the other no negated one, that meet
abbrev pub NoneMeets : Literal → Literal → Type 0
NoneMeets l m = (s : FoTerm) → l ≡ record { positive = true; atom = Holds s } → MeetsNone s m

-- the literal is no equation
abbrev pub LacksEquations : Literal → Type 0
LacksEquations l = (a b : FoTerm) → l ≡ record { positive = true; atom = Eq a b } → ⊥
