-- The value of a term, by its constructor.
use Rattle.std.proofs.Common.{◌≡◌, ℕ, List, ◌∷◌, slice_get, sym, ◌∙◌, ap, Some}
use Rattle.hol_terms.specs.declared.ty.Ty.{Ty}
use Rattle.hol_terms.specs.declared.konst.Konst.{Konst}
use Rattle.hol_terms.specs.declared.sig.Sig.{Sig}
use Rattle.hol_terms.specs.declared.term.Term.{Term, roll-Term}
use Rattle.hol_terms.specs.declared.term.Term.TheOpen.{Term-F}
use Rattle.hol_terms.specs.declared.term.Term.TheFolds.{fold-roll-Term}
use Rattle.hol_terms.specs.Typing.{type_in}
use Rattle.hol_terms.proofs.TermCases as term
use Rattle.model_truth.specs.declared.model.Model.{Model}
use Rattle.model_truth.specs.Sizes.{or_else}
use Rattle.model_truth.specs.Values.{Valuation, Value, function, at, konst_value, typed, itself, value_step, meaning, value_in}

module _ (sig : Sig) (m : Model) (v : Valuation) where
  pub itself_is : (t : Term) → (meaning sig m v t).0 ≡ t
  itself_is t =
      term.by_cases (λ s. (meaning sig m v s).0 ≡ s) (λ i. ap (λ g. g.0) (fold-roll-Term (Term × Value) (λ y. (itself y, value_step sig m v y)) (Term-F.Bound i)))
      (λ n a. ap (λ g. g.0) (fold-roll-Term (Term × Value) (λ y. (itself y, value_step sig m v y)) (Term-F.Free n a)))
      (λ k. ap (λ g. g.0) (fold-roll-Term (Term × Value) (λ y. (itself y, value_step sig m v y)) (Term-F.Con k)))
      (λ f x hf hx. ap (λ g. g.0) (fold-roll-Term (Term × Value) (λ y. (itself y, value_step sig m v y)) (Term-F.App f x)) ∙ (λ i. roll-Term (Term-F.App (hf i) (hx i))))
      (λ a b hb. ap (λ g. g.0) (fold-roll-Term (Term × Value) (λ y. (itself y, value_step sig m v y)) (Term-F.Lam a b)) ∙ (λ i. roll-Term (Term-F.Lam a (hb i)))) t

  pub value-bound : (i : ℕ) (types : List Ty) (values : List ℕ) → value_in sig m v (roll-Term (Term-F.Bound i)) types values ≡ or_else 0 (slice_get values i)
  value-bound i types values = ap (λ g. g.1 types values) (fold-roll-Term (Term × Value) (λ y. (itself y, value_step sig m v y)) (Term-F.Bound i))

  pub value-free : (n : ℕ) (a : Ty) (types : List Ty) (values : List ℕ) → value_in sig m v (roll-Term (Term-F.Free n a)) types values ≡ v n a
  value-free n a types values = ap (λ g. g.1 types values) (fold-roll-Term (Term × Value) (λ y. (itself y, value_step sig m v y)) (Term-F.Free n a))

  pub value-con : (k : Konst) (types : List Ty) (values : List ℕ) → value_in sig m v (roll-Term (Term-F.Con k)) types values ≡ konst_value m k
  value-con k types values = ap (λ g. g.1 types values) (fold-roll-Term (Term × Value) (λ y. (itself y, value_step sig m v y)) (Term-F.Con k))

  pub value-app : (f x : Term) (types : List Ty) (values : List ℕ) →
      value_in sig m v (roll-Term (Term-F.App f x)) types values ≡ typed (type_in sig (roll-Term (Term-F.App f x)) types) (λ b. at m b (value_in sig m v f types values) (value_in sig m v x types values))
  value-app f x types values =
      ap (λ g. g.1 types values) (fold-roll-Term (Term × Value) (λ y. (itself y, value_step sig m v y)) (Term-F.App f x))
      ∙ (λ i. typed (type_in sig (roll-Term (Term-F.App (itself_is f i) (itself_is x i))) types) (λ b. at m b (value_in sig m v f types values) (value_in sig m v x types values)))

  pub value-lam : (a : Ty) (t : Term) (types : List Ty) (values : List ℕ) →
      value_in sig m v (roll-Term (Term-F.Lam a t)) types values ≡ typed (type_in sig t (a ∷ types)) (λ b. function m a b (λ x. value_in sig m v t (a ∷ types) (x ∷ values)))
  value-lam a t types values =
      ap (λ g. g.1 types values) (fold-roll-Term (Term × Value) (λ y. (itself y, value_step sig m v y)) (Term-F.Lam a t))
      ∙ (λ i. typed (type_in sig (itself_is t i) (a ∷ types)) (λ b. function m a b (λ x. value_in sig m v t (a ∷ types) (x ∷ values))))

  -- where the type is known
  pub app_at : (f x : Term) (types : List Ty) (values : List ℕ) (b : Ty) → type_in sig (roll-Term (Term-F.App f x)) types ≡ Some b →
      value_in sig m v (roll-Term (Term-F.App f x)) types values ≡ at m b (value_in sig m v f types values) (value_in sig m v x types values)
  app_at f x types values b h = value-app f x types values ∙ ap (λ o. typed o (λ b. at m b (value_in sig m v f types values) (value_in sig m v x types values))) h

  pub lam_at : (a : Ty) (t : Term) (types : List Ty) (values : List ℕ) (b : Ty) → type_in sig t (a ∷ types) ≡ Some b →
      value_in sig m v (roll-Term (Term-F.Lam a t)) types values ≡ function m a b (λ x. value_in sig m v t (a ∷ types) (x ∷ values))
  lam_at a t types values b h = value-lam a t types values ∙ ap (λ o. typed o (λ b. function m a b (λ x. value_in sig m v t (a ∷ types) (x ∷ values)))) h

-- ---- two terms, valuations and lists of binders at once
module _ (sig : Sig) (m : Model) (v w : Valuation) (c d : List Ty) (cv dv : List ℕ) where
  pub same_app : (f x g y : Term) → type_in sig (roll-Term (Term-F.App f x)) c ≡ type_in sig (roll-Term (Term-F.App g y)) d → value_in sig m v f c cv ≡ value_in sig m w g d dv →
      value_in sig m v x c cv ≡ value_in sig m w y d dv → value_in sig m v (roll-Term (Term-F.App f x)) c cv ≡ value_in sig m w (roll-Term (Term-F.App g y)) d dv
  same_app f x g y e p q = value-app sig m v f x c cv ∙ (λ i. typed (e i) (λ b. at m b (p i) (q i))) ∙ sym (value-app sig m w g y d dv)

  pub same_lam : (a : Ty) (s t : Term) → type_in sig s (a ∷ c) ≡ type_in sig t (a ∷ d) → ((x : ℕ) → value_in sig m v s (a ∷ c) (x ∷ cv) ≡ value_in sig m w t (a ∷ d) (x ∷ dv)) →
      value_in sig m v (roll-Term (Term-F.Lam a s)) c cv ≡ value_in sig m w (roll-Term (Term-F.Lam a t)) d dv
  same_lam a s t e p = value-lam sig m v a s c cv ∙ (λ i. typed (e i) (λ b. function m a b (λ x. p x i))) ∙ sym (value-lam sig m w a t d dv)
