-- Induction over terms, by their two constructors.
use Rattle.std.proofs.Common.{ℕ, List, [], ◌∷◌, map, sym, subst}
use Rattle.fo_terms.specs.declared.term.FoTerm.TheVariants.{rolls-Var, rolls-Fun}
use Rattle.fo_terms.specs.declared.term.FoTerm.{FoTerm, roll-FoTerm}
use Rattle.fo_terms.specs.declared.term.FoTerm.TheOpen.{FoTerm-F}
use Rattle.fo_terms.specs.declared.term.FoTerm.TheFolds.{map-FoTerm, ind-FoTerm}
use Rattle.fo_terms.specs.Substitution.{var, fun}

-- the fact holds of each item
abbrev pub Each : {X : Type 0} → (X → Type 0) → List X → Type 0
Each P [] = Unit {0}
Each P (x ∷ xs) = P x × Each P xs

each_of : (P : FoTerm → Type 0) (ys : List ((t : FoTerm) × P t)) → Each P (map (λ e. e.0) ys)
each_of P [] = tt
each_of P (y ∷ ys) = (y.1, each_of P ys)

module _ (P : FoTerm → Type 0)
    (at_var : (x : ℕ) → P (var x))
    (at_fun : (f : ℕ) (args : List FoTerm) → Each P args → P (fun f args)) where
  at : (y : FoTerm-F ((t : FoTerm) × P t)) → P (roll-FoTerm (map-FoTerm ((t : FoTerm) × P t) FoTerm (λ e. e.0) y))
  at (FoTerm-F.Var x) = subst P (sym (rolls-Var x)) (at_var x)
  at (FoTerm-F.Fun f ys) = subst P (sym (rolls-Fun f (map (λ e. e.0) ys))) (at_fun f (map (λ e. e.0) ys) (each_of P ys))

  pub by_cases : (t : FoTerm) → P t
  by_cases = ind-FoTerm P (λ x y is. subst (λ z. P (roll-FoTerm z)) is (at y))
