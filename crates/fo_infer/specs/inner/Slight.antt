-- Terms so small that no most general unifier of two of them makes one too heavy for a machine number.
use Rattle.std.specs.Prelude.{ℕ, ◌<◌, ◌≤◌, List, [], ◌∷◌}
use Rattle.fo_terms.specs.declared.term.FoTerm.{FoTerm}
use Rattle.fo_terms.specs.Weight.{size_of}
use Rattle.fo_terms.specs.Normal.{variables_of}
use Rattle.fo_terms.specs.declared.atom.Atom.{Atom}
use Rattle.fo_terms.specs.declared.atom.Atom.TheVariants.{Holds, Eq}
use Rattle.fo_terms.specs.Substitution.{put}
use Rattle.fo_unify.specs.declared.subst.Bind.{Bind}
use Rattle.fo_unify.specs.Lookup.{term_of}
use Rattle.fo_unify.specs.Unifier.{IsMostGeneral}
use Rattle.fo_order.specs.KnuthBendix.{Above}

-- each of the numbers is below n
abbrev pub AreBelow : ℕ → List ℕ → Type 0
AreBelow n [] = Unit {0}
AreBelow n (y ∷ ys) = (y < n) × AreBelow n ys

-- it weighs at most 64, and its variables are below 8
abbrev pub Slight : FoTerm → Type 0
Slight t = (size_of t ≤ 64) × AreBelow 8 (variables_of t)

-- both sides of an equation are
abbrev pub SlightAtom : Atom → Type 0
SlightAtom (Holds t) = Slight t
SlightAtom (Eq s t) = Slight s × Slight t

-- under each most general unifier of s and a slight term it is less than t
abbrev pub StaysLess : FoTerm → FoTerm → Type 0
StaysLess s t = (u : FoTerm) (binds : List Bind) → Slight u → IsMostGeneral ((s, u) ∷ []) binds → Above (put (term_of binds) t) (put (term_of binds) s)
