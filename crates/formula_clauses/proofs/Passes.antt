-- What the parts of a walk answer, put together.
use Rattle.std.proofs.Common.{◌≡◌, ℕ, Bool, true, false, not, ◌&&◌, List, ◌∷◌, refl, sym, ap, subst, ◌∙◌, if◌then◌else◌}
use Rattle.std.specs.Prelude.{Result, Ok, Err}
use Rattle.std.specs.Result.{IsErr, IsErrAnd}
use Rattle.hol_terms.specs.declared.ty.Ty.{Ty}
use Rattle.hol_terms.specs.declared.term.Term.{Term}
use Rattle.lambda_lift.specs.declared.table.Aux.{Aux}
use Rattle.formula_clauses.specs.declared.fault.ClauseFault.{ClauseFault}
use Rattle.formula_clauses.specs.declared.fault.ClauseFault.TheVariants.{TooLarge, NoMemory}
use Rattle.formula_clauses.specs.declared.choosing.Opened.{Opened}
use Rattle.hol_formulas.specs.declared.formula.Junction.{Junction}
use Rattle.hol_formulas.specs.declared.formula.Junction.TheVariants as junctions
use Rattle.hol_formulas.specs.declared.formula.Quantifier.{Quantifier}
use Rattle.hol_formulas.specs.declared.formula.Formula as formula
use Rattle.hol_formulas.specs.declared.formula.Formula.{Formula}
use Rattle.formula_clauses.specs.Walks.{Clauses, joined, appended, Progress, Walked, Pass, Walk, leaf, both, junction_pass, opened, quantified_pass, walked}
use Rattle.formula_clauses.specs.inner.Measures.{progress, Measured, Opens, first_sign, is_iff}
use Rattle.formula_clauses.proofs.WalkSteps.{at_two}

pub told : {X : Type 0} (r : Result X ClauseFault) (x : ClauseFault) → IsErr r → IsErrAnd r (λ y. y ≡ x) → r ≡ Err x
told (Ok a) x h g = cc
told (Err y) x h g = ap Err g

-- ---- one after the other

pub measured_is : (w w' : Walked) (r : Result ℕ ClauseFault) (t : List Aux) → w ≡ w' → Measured w' r t → Measured w r t
measured_is w w' r t is h = subst (λ (z : Walked). Measured z r t) (sym is) h

pub fault_is : (w : Walked) (r : Result ℕ ClauseFault) (x : ClauseFault) (t t' : List Aux) → r ≡ Err x → Measured w (Err x) t → Measured w r t'
fault_is w r TooLarge t t' is h = subst (λ (z : Result ℕ ClauseFault). Measured w z t') (sym is) h
fault_is w r NoMemory t t' is h = subst (λ (z : Result ℕ ClauseFault). Measured w z t') (sym is) tt

module _ (make : Clauses → Clauses → Clauses) (x y : Pass) (p : Progress) where
  pub both_stops : (f : ClauseFault) (t : List Aux) → Measured (x p) (Err f) t → Measured (both make x y p) (Err f) t
  both_stops TooLarge t h = ap (λ b. b && (y (x p).after).small) h
  both_stops NoMemory t h = tt

  pub both_goes : (q : Progress) → (x p).after ≡ q → (x p).small ≡ true → (r : Result ℕ ClauseFault) (t : List Aux) → Measured (y q) r t → Measured (both make x y p) r t
  both_goes q after small (Ok n) t h = (ap (λ z. (y z).after) after ∙ h.0, (λ i. small i && (y (after i)).small) ∙ h.1)
  both_goes q after small (Err TooLarge) t h = (λ i. small i && (y (after i)).small) ∙ h
  both_goes q after small (Err NoMemory) t h = tt

-- ---- the connectives

module _ (a b : Walk) (s : Bool) (e : List Term) (p : Progress) where
  pub first_stops : (j : Junction) (f : ClauseFault) (t : List Aux) → Measured (a (first_sign j s) e p) (Err f) t → Measured (junction_pass j a b s e p) (Err f) t
  first_stops junctions.And f t h = both_stops (if s then appended else joined) (a s e) (b s e) p f t h
  first_stops junctions.Or f t h = both_stops (if s then joined else appended) (a s e) (b s e) p f t h
  first_stops junctions.Imp f t h = both_stops (if s then joined else appended) (a (not s) e) (b s e) p f t h
  first_stops junctions.Iff f t h =
      both_stops appended (both joined (a (not s) e) (b true e)) (both joined (a s e) (b false e)) p f t (both_stops joined (a (not s) e) (b true e) p f t h)

  pub second_ends : (j : Junction) (n : ℕ) (t : List Aux) (r : Result ℕ ClauseFault) (t' : List Aux) → is_iff j ≡ false → Measured (a (first_sign j s) e p) (Ok n) t →
      Measured (b s e (progress n t)) r t' → Measured (junction_pass j a b s e p) r t'
  second_ends junctions.And n t r t' no_iff h g = both_goes (if s then appended else joined) (a s e) (b s e) p (progress n t) h.0 h.1 r t' g
  second_ends junctions.Or n t r t' no_iff h g = both_goes (if s then joined else appended) (a s e) (b s e) p (progress n t) h.0 h.1 r t' g
  second_ends junctions.Imp n t r t' no_iff h g = both_goes (if s then joined else appended) (a (not s) e) (b s e) p (progress n t) h.0 h.1 r t' g
  second_ends junctions.Iff n t r t' no_iff h g = cc

  module _ (n1 : ℕ) (t1 : List Aux) (h1 : Measured (a (not s) e p) (Ok n1) t1) where
    half : (r : Result ℕ ClauseFault) (t : List Aux) → Measured (b true e (progress n1 t1)) r t → Measured (both joined (a (not s) e) (b true e) p) r t
    half r t h = both_goes joined (a (not s) e) (b true e) p (progress n1 t1) h1.0 h1.1 r t h

    pub third_stops : (f : ClauseFault) (t : List Aux) → Measured (b true e (progress n1 t1)) (Err f) t → Measured (junction_pass junctions.Iff a b s e p) (Err f) t
    third_stops f t h = both_stops appended (both joined (a (not s) e) (b true e)) (both joined (a s e) (b false e)) p f t (half (Err f) t h)

    module _ (n2 : ℕ) (t2 : List Aux) (h2 : Measured (b true e (progress n1 t1)) (Ok n2) t2) where
      rest : (r : Result ℕ ClauseFault) (t : List Aux) → Measured (both joined (a s e) (b false e) (progress n2 t2)) r t → Measured (junction_pass junctions.Iff a b s e p) r t
      rest r t h =
          let l = half (Ok n2) t2 h2 in
          both_goes appended (both joined (a (not s) e) (b true e)) (both joined (a s e) (b false e)) p (progress n2 t2) l.0 l.1 r t h

      pub fourth_stops : (f : ClauseFault) (t : List Aux) → Measured (a s e (progress n2 t2)) (Err f) t → Measured (junction_pass junctions.Iff a b s e p) (Err f) t
      fourth_stops f t h = rest (Err f) t (both_stops joined (a s e) (b false e) (progress n2 t2) f t h)

      pub last_ends : (n3 : ℕ) (t3 : List Aux) (r : Result ℕ ClauseFault) (t : List Aux) → Measured (a s e (progress n2 t2)) (Ok n3) t3 → Measured (b false e (progress n3 t3)) r t →
          Measured (junction_pass junctions.Iff a b s e p) r t
      last_ends n3 t3 r t h g = rest r t (both_goes joined (a s e) (b false e) (progress n2 t2) (progress n3 t3) h.0 h.1 r t g)

pub iff_is : (j : Junction) → is_iff j ≡ true → j ≡ junctions.Iff
iff_is junctions.And h = cc
iff_is junctions.Or h = cc
iff_is junctions.Imp h = cc
iff_is junctions.Iff h = refl

-- ---- quantifiers

pub opening_stops : (q : Quantifier) (a : Ty) (u : Term) (b : Walk) (s : Bool) (e : List Term) (p : Progress) (f : ClauseFault) (t : List Aux) → Opens (opened q a u s e p) (Err f) t →
    Measured (quantified_pass q a u b s e p) (Err f) t
opening_stops q a u b s e p TooLarge t h = let o = opened q a u s e p in ap (λ z. z && (b s (o.value ∷ e) o.after).small) h
opening_stops q a u b s e p NoMemory t h = tt

pub inside_ends : (q : Quantifier) (a : Ty) (u : Term) (b : Walk) (s : Bool) (e : List Term) (p : Progress) (o : Opened) (t : List Aux) (r : Result ℕ ClauseFault) (t' : List Aux) →
    Opens (opened q a u s e p) (Ok o) t → Measured (b s (o.value ∷ e) (progress o.next t)) r t' → Measured (quantified_pass q a u b s e p) r t'
inside_ends q a u b s e p o t (Ok n) t' h g = ((λ i. (b s (h.0 i ∷ e) (h.1 i)).after) ∙ g.0, (λ i. h.2 i && (b s (h.0 i ∷ e) (h.1 i)).small) ∙ g.1)
inside_ends q a u b s e p o t (Err TooLarge) t' h g = (λ i. h.2 i && (b s (h.0 i ∷ e) (h.1 i)).small) ∙ g
inside_ends q a u b s e p o t (Err NoMemory) t' h g = tt

-- ---- as code calls them

-- a call on a part, which it got by another name
pub on_part : (f0 f : Formula) (s0 s : Bool) (e : List Term) (p : Progress) (r : Result ℕ ClauseFault) (t : List Aux) → f0 ≡ f → s0 ≡ s → Measured (walked f0 s0 e p) r t → Measured (walked f s e p) r t
on_part f0 f s0 s e p r t hf hs h = subst (λ z. Measured (walked f z e p) r t) hs (subst (λ g. Measured (walked g s0 e p) r t) hf h)

module _ (f : Formula) (s : Bool) (e : List Term) (p : Progress) where
  pub leaf_ends : (cs : Clauses) → walked f s e p ≡ leaf cs p → ((walked f s e p).after ≡ p) × ((walked f s e p).small ≡ true)
  leaf_ends cs is = (ap (λ (w : Walked). w.after) is, ap (λ (w : Walked). w.small) is)

  module _ (j : Junction) (a b : Formula) (is : f ≡ formula.Two j a b) where
    pub two_is : (r : Result ℕ ClauseFault) (t : List Aux) → Measured (junction_pass j (walked a) (walked b) s e p) r t → Measured (walked f s e p) r t
    two_is r t h = measured_is _ _ r t (at_two s e p f j a b is) h

    pub iff_two : (r : Result ℕ ClauseFault) (t : List Aux) → j ≡ junctions.Iff → Measured (junction_pass junctions.Iff (walked a) (walked b) s e p) r t → Measured (walked f s e p) r t
    iff_two r t same h = two_is r t (subst (λ k. Measured (junction_pass k (walked a) (walked b) s e p) r t) (sym same) h)
