-- Unifiers that are known to exist.
use Rattle.std.specs.Prelude.{◌≡◌, ℕ, List, [], ◌∷◌, Some}
use Rattle.fo_terms.specs.declared.term.FoTerm.{FoTerm}
use Rattle.fo_terms.specs.declared.atom.Atom.{Atom}
use Rattle.fo_terms.specs.declared.atom.Atom.TheVariants.{Eq}
use Rattle.fo_unify.specs.declared.subst.Bind.{Bind}
use Rattle.fo_unify.specs.Unifier.{Unifies, IsMostGeneral}
use Rattle.fo_unify.specs.Unified.{Unified}
use Rattle.fo_infer.specs.Paths.{at_atom_path}
use Rattle.fo_infer.specs.Inferences.{atom_equations}

-- a substitution makes the sides of each equation equal
abbrev pub HasUnifier : List (FoTerm × FoTerm) → Type 0
HasUnifier es = (v : ℕ → FoTerm) × Unifies v es

-- most general, and made by the rules of unification
pub record IsUnifier (es : List (FoTerm × FoTerm)) (binds : List Bind) : Type 0 where
  pub general : IsMostGeneral es binds
  pub made : Unified es binds

-- two atoms of one kind have one
pub record AtomsUnify (a b : Atom) : Type 0 where
  pub equations : List (FoTerm × FoTerm)
  pub kinds : atom_equations a b ≡ Some equations
  pub unifier : HasUnifier equations

-- the sides of an equation have one
pub record SidesUnify (a : Atom) : Type 0 where
  pub s : FoTerm
  pub t : FoTerm
  pub is : a ≡ Eq s t
  pub unifier : HasUnifier ((s, t) ∷ [])

-- a term and the subterm of an atom at a path have one
pub record SubtermUnifies (s : FoTerm) (a : Atom) (path : List ℕ) : Type 0 where
  pub subterm : FoTerm
  pub at : at_atom_path path a ≡ Some subterm
  pub unifier : HasUnifier ((s, subterm) ∷ [])
