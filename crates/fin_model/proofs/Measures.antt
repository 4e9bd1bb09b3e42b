-- What is measured in a term, by its constructor.
use Rattle.std.proofs.Common.{◌≡◌, ℕ, ◌<◌, ◌≤◌, Bool, true, false, ◌&&◌, refl, sym, ◌∙◌, ap, arith, List, ◌∷◌, Some, nat_le}
use Rattle.std.proofs.lemmas.Bool.{leb-true, le-leb}
use Rattle.hol_terms.specs.declared.ty.Ty.{Ty}
use Rattle.hol_terms.specs.declared.konst.Konst.{Konst}
use Rattle.hol_terms.specs.declared.sig.Sig.{Sig}
use Rattle.hol_terms.specs.declared.term.Term.{Term}
use Rattle.hol_terms.specs.declared.term.Term.TheOpen.{Term-F}
use Rattle.hol_terms.specs.declared.term.Term.TheFolds.{fold-roll-Term}
use Rattle.hol_terms.specs.Typing.{type_in}
use Rattle.hol_terms.proofs.TermCases as term
use Rattle.hol_terms.proofs.Both.{both_true, and_true}
use Rattle.kernel_rules.specs.Connectives.{constant, apply, lambda}
use Rattle.model_truth.specs.declared.model.Model.{Model}
use Rattle.model_truth.specs.Sizes.{size}
use Rattle.fin_model.specs.Limits.{Measure, product, is_small, is_small_type, head_of, stays_small, parts_stay, measure_step, measure, is_within}
use Rattle.fin_model.specs.inner.Evaluation.{index, variable}

module _ (sig : Sig) (m : Model) where
  pub measure-app : (f x : Term) → measure sig m (apply f x) ≡ measure_step sig m (Term-F.App (measure sig m f) (measure sig m x))
  measure-app f x = fold-roll-Term Measure (measure_step sig m) (Term-F.App f x)

  pub measure-lam : (a : Ty) (b : Term) → measure sig m (lambda a b) ≡ measure_step sig m (Term-F.Lam a (measure sig m b))
  measure-lam a b = fold-roll-Term Measure (measure_step sig m) (Term-F.Lam a b)

  pub measure-bound : (i : ℕ) → measure sig m (index i) ≡ measure_step sig m (Term-F.Bound i)
  measure-bound i = fold-roll-Term Measure (measure_step sig m) (Term-F.Bound i)

  pub measure-free : (n : ℕ) (a : Ty) → measure sig m (variable n a) ≡ measure_step sig m (Term-F.Free n a)
  measure-free n a = fold-roll-Term Measure (measure_step sig m) (Term-F.Free n a)

  pub measure-con : (k : Konst) → measure sig m (constant k) ≡ measure_step sig m (Term-F.Con k)
  measure-con k = fold-roll-Term Measure (measure_step sig m) (Term-F.Con k)

  pub measured_term : (t : Term) → (measure sig m t).term ≡ t
  measured_term t =
      term.by_cases (λ s. (measure sig m s).term ≡ s) (λ i. ap (λ g. g.term) (measure-bound i)) (λ n a. ap (λ g. g.term) (measure-free n a)) (λ k. ap (λ g. g.term) (measure-con k))
      (λ f x hf hx. ap (λ g. g.term) (measure-app f x) ∙ (λ i. apply (hf i) (hx i))) (λ a b hb. ap (λ g. g.term) (measure-lam a b) ∙ ap (lambda a) hb) t

  -- ---- measured terms
  pub within-bound : (i : ℕ) (types : List Ty) → is_within sig m (index i) types ≡ stays_small sig m (index i) types
  within-bound i types = ap (λ g. g.alone types) (measure-bound i)

  pub within-free : (n : ℕ) (a : Ty) (types : List Ty) → is_within sig m (variable n a) types ≡ stays_small sig m (variable n a) types
  within-free n a types = ap (λ g. g.alone types) (measure-free n a)

  pub within-con : (k : Konst) (types : List Ty) → is_within sig m (constant k) types ≡ stays_small sig m (constant k) types
  within-con k types = ap (λ g. g.alone types) (measure-con k)

  pub within-app : (f x : Term) (types : List Ty) → is_within sig m (apply f x) types ≡ (stays_small sig m (apply f x) types && parts_stay (head_of f) (measure sig m f) (measure sig m x) types)
  within-app f x types =
      ap (λ g. g.alone types) (measure-app f x)
      ∙ (λ i. stays_small sig m (apply (measured_term f i) (measured_term x i)) types && parts_stay (head_of (measured_term f i)) (measure sig m f) (measure sig m x) types)

  pub within-lam : (a : Ty) (b : Term) (types : List Ty) → is_within sig m (lambda a b) types ≡ (stays_small sig m (lambda a b) types && (is_small m a && is_within sig m b (a ∷ types)))
  within-lam a b types =
      ap (λ g. g.alone types) (measure-lam a b) ∙ (λ i. stays_small sig m (lambda a (measured_term b i)) types && (is_small m a && is_within sig m b (a ∷ types)))

  -- ---- in the place of a property
  pub property-lam : (a : Ty) (b : Term) (types : List Ty) → (measure sig m (lambda a b)).property types ≡ (is_small m a && is_within sig m b (a ∷ types))
  property-lam a b types = ap (λ g. g.property types) (measure-lam a b)

  pub property-bound : (i : ℕ) (types : List Ty) → (measure sig m (index i)).property types ≡ is_within sig m (index i) types
  property-bound i types = ap (λ g. g.property types) (measure-bound i) ∙ sym (within-bound i types)

  pub property-free : (n : ℕ) (a : Ty) (types : List Ty) → (measure sig m (variable n a)).property types ≡ is_within sig m (variable n a) types
  property-free n a types = ap (λ g. g.property types) (measure-free n a) ∙ sym (within-free n a types)

  pub property-con : (k : Konst) (types : List Ty) → (measure sig m (constant k)).property types ≡ is_within sig m (constant k) types
  property-con k types = ap (λ g. g.property types) (measure-con k) ∙ sym (within-con k types)

  pub property-app : (f x : Term) (types : List Ty) → (measure sig m (apply f x)).property types ≡ is_within sig m (apply f x) types
  property-app f x types = ap (λ g. g.property types) (measure-app f x) ∙ sym (ap (λ g. g.alone types) (measure-app f x))

  -- ---- the first of two arguments
  pub argument-app : (f x : Term) (types : List Ty) → (measure sig m (apply f x)).argument types ≡ is_within sig m x types
  argument-app f x types = ap (λ g. g.argument types) (measure-app f x)

  -- ---- small types and few values
  pub small_so : (a : Ty) → size m a ≤ 65536 → is_small m a ≡ true
  small_so a h = le-leb (size m a) 65536 h

  pub so_small : (a : Ty) → is_small m a ≡ true → size m a ≤ 65536
  so_small a h = leb-true (size m a) 65536 h

  pub big_so : (a : Ty) → 65536 < size m a → is_small m a ≡ false
  big_so a h = chosen (is_small m a) refl
    where
      chosen : (b : Bool) → is_small m a ≡ b → is_small m a ≡ false
      chosen true e = absurd (let k = so_small a e in omega arith)
      chosen false e = e

  pub stays_so : (t : Term) (types : List Ty) (a : Ty) → type_in sig t types ≡ Some a → size m a ≤ 65536 → product m types ≤ 4096 → stays_small sig m t types ≡ true
  stays_so t types a e h k =
      ap (λ o. is_small_type m o && nat_le (product m types) 4096) e ∙ and_true (is_small m a) (nat_le (product m types) 4096) (small_so a h) (le-leb (product m types) 4096 k)

  pub stays_not : (t : Term) (types : List Ty) (a : Ty) → type_in sig t types ≡ Some a → 65536 < size m a → stays_small sig m t types ≡ false
  stays_not t types a e h = ap (λ o. is_small_type m o && nat_le (product m types) 4096) e ∙ ap (λ b. b && nat_le (product m types) 4096) (big_so a h)

  pub so_stays : (t : Term) (types : List Ty) (a : Ty) → type_in sig t types ≡ Some a → stays_small sig m t types ≡ true → (size m a ≤ 65536) × (product m types ≤ 4096)
  so_stays t types a e h =
      let both = both_true (is_small m a) (nat_le (product m types) 4096) (sym (ap (λ o. is_small_type m o && nat_le (product m types) 4096) e) ∙ h) in
      (so_small a both.0, leb-true (product m types) 4096 both.1)

  -- all that is within the limits stays small
  abbrev StaysSmall : Term → Type 0
  StaysSmall t = (types : List Ty) → is_within sig m t types ≡ true → stays_small sig m t types ≡ true

  pub within_stays : (t : Term) → StaysSmall t
  within_stays t =
      term.by_cases StaysSmall (λ i types h. sym (within-bound i types) ∙ h) (λ n a types h. sym (within-free n a types) ∙ h) (λ k types h. sym (within-con k types) ∙ h)
      (λ f x _ _ types h. (both_true (stays_small sig m (apply f x) types) (parts_stay (head_of f) (measure sig m f) (measure sig m x) types) (sym (within-app f x types) ∙ h)).0)
      (λ a b _ types h. (both_true (stays_small sig m (lambda a b) types) (is_small m a && is_within sig m b (a ∷ types)) (sym (within-lam a b types) ∙ h)).0) t

  -- a body under too many values is not within the limits
  pub many_not : (t : Term) (types : List Ty) → 4096 < product m types → is_within sig m t types ≡ false
  many_not t types h = chosen (is_within sig m t types) refl
    where
      chosen : (b : Bool) → is_within sig m t types ≡ b → is_within sig m t types ≡ false
      chosen true e =
          absurd (let k = leb-true (product m types) 4096 (both_true (is_small_type m (type_in sig t types)) (nat_le (product m types) 4096) (within_stays t types e)).1 in omega arith)
      chosen false e = e
