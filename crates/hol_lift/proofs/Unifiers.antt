-- Unifiers that are known to exist are found.
use Rattle.std.proofs.Common.{◌≡◌, ℕ, List, [], ◌∷◌, Some, None, sym, subst, ◌∙◌}
use Rattle.std.specs.Prelude.{Result, IfOk}
use Rattle.fo_terms.specs.declared.term.FoTerm.{FoTerm}
use Rattle.fo_terms.specs.declared.atom.Atom.{Atom}
use Rattle.fo_terms.specs.declared.atom.Atom.TheVariants.{Holds, Eq}
use Rattle.fo_unify.specs.declared.subst.Subst.{Subst}
use Rattle.fo_infer.specs.Paths.{at_atom_path}
use Rattle.fo_infer.specs.Inferences.{atom_equations}
use Rattle.clause_instances.proofs.Answered.{if_ok_map}
use Rattle.hol_lift.specs.inner.Unifying.{HasUnifier, IsUnifier, AtomsUnify, SidesUnify, SubtermUnifies}

some_same : (es fs : List (FoTerm × FoTerm)) → Some es ≡ Some fs → es ≡ fs
some_same es fs h = cc

-- the equations of two atoms
module _ (a b : Atom) (es : List (FoTerm × FoTerm)) (kinds : atom_equations a b ≡ Some es) where
  pub atoms_have : AtomsUnify a b → HasUnifier es
  atoms_have h = subst HasUnifier (some_same h.equations es (sym h.kinds ∙ kinds)) h.unifier

  pub atoms_found : {E : Type 0} (r : Result Subst E) → IfOk r (λ u. IsUnifier es u.binds) → IfOk r (λ u. (fs : List (FoTerm × FoTerm)) → atom_equations a b ≡ Some fs → IsUnifier fs u.binds)
  atoms_found r h = if_ok_map r (λ u. IsUnifier es u.binds) (λ u. (fs : List (FoTerm × FoTerm)) → atom_equations a b ≡ Some fs → IsUnifier fs u.binds) (λ u k fs is. subst (λ z. IsUnifier z u.binds) (some_same es fs (sym kinds ∙ is)) k) h

no_equations : {A : Type 0} {x : A} → None ≡ Some x → ⊥
no_equations h = cc

pub not_holds_eq : (a b : Atom) (s x y : FoTerm) → a ≡ Holds s → b ≡ Eq x y → AtomsUnify a b → ⊥
not_holds_eq a b s x y ha hb u = no_equations ((λ i. atom_equations (sym ha i) (sym hb i)) ∙ u.kinds)

pub not_eq_holds : (a b : Atom) (s t x : FoTerm) → a ≡ Eq s t → b ≡ Holds x → AtomsUnify a b → ⊥
not_eq_holds a b s t x ha hb u = no_equations ((λ i. atom_equations (sym ha i) (sym hb i)) ∙ u.kinds)

-- the sides of one
sides_same : (s t x y : FoTerm) → Eq s t ≡ Eq x y → ◌≡◌ {A = FoTerm × FoTerm} (s, t) (x, y)
sides_same s t x y h = cc

pub sides_have : (a : Atom) (s t : FoTerm) → a ≡ Eq s t → SidesUnify a → HasUnifier ((s, t) ∷ [])
sides_have a s t is h = subst (λ z. HasUnifier (z ∷ [])) (sides_same h.s h.t s t (sym h.is ∙ is)) h.unifier

pub sides_found : {E : Type 0} (a : Atom) (s t : FoTerm) (r : Result Subst E) → a ≡ Eq s t → IfOk r (λ u. IsUnifier ((s, t) ∷ []) u.binds) → IfOk r (λ u. (x y : FoTerm) → a ≡ Eq x y → IsUnifier ((x, y) ∷ []) u.binds)
sides_found a s t r is h = if_ok_map r (λ u. IsUnifier ((s, t) ∷ []) u.binds) (λ u. (x y : FoTerm) → a ≡ Eq x y → IsUnifier ((x, y) ∷ []) u.binds) (λ u k x y e. subst (λ z. IsUnifier (z ∷ []) u.binds) (sides_same s t x y (sym is ∙ e)) k) h

pub not_equation : (a : Atom) (s : FoTerm) → a ≡ Holds s → SidesUnify a → ⊥
not_equation a s is h = kind (sym is ∙ h.is)
  where
    kind : Holds s ≡ Eq h.s h.t → ⊥
    kind e = cc

-- the subterm at a path
pub subterm_has : (s u : FoTerm) (a : Atom) (path : List ℕ) → Some u ≡ at_atom_path path a → SubtermUnifies s a path → HasUnifier ((s, u) ∷ [])
subterm_has s u a path at h = subst (λ z. HasUnifier ((s, z) ∷ [])) (same (sym h.at ∙ sym at)) h.unifier
  where
    same : {x y : FoTerm} → Some x ≡ Some y → x ≡ y
    same e = cc
