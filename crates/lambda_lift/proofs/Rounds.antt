-- Equations as they are made, one after another.
use Rattle.std.proofs.Common.{◌≡◌, ℕ, zero, suc, ◌+◌, ◌-◌, ◌^◌, ◌<◌, List, [], ◌∷◌, ◌++◌, slice_get, refl, sym, ap, ◌∙◌, arith, append_assoc}
use Rattle.std.specs.Prelude.{Some, None}
use Rattle.std.proofs.lemmas.List.{append-nil}
use Rattle.hol_terms.specs.declared.sig.Sig.{Sig}
use Rattle.hol_terms.specs.declared.term.Term.{Term}
use Rattle.lambda_lift.specs.declared.table.Aux.{Aux}
use Rattle.lambda_lift.specs.Walks.{Stage, Walked, reading}
use Rattle.lambda_lift.specs.Equations.{equation}
use Rattle.lambda_lift.specs.Lifting.{Equated, begins_with, next_equation, equated, lifted_formula, lifted_equation, entry_at, lifted, outcome_of}
use Rattle.lambda_lift.specs.Views.{stage, ends}

-- these equations, and then the others
abbrev pub listed : List Term → Equated → Equated
listed out rest = record { equations = out ++ rest.equations; table = rest.table }

listed_more : (out : List Term) (r : Term) (rest : Equated) → listed out (begins_with r rest) ≡ listed (out ++ r ∷ []) rest
listed_more out r rest = ap (λ es. record { equations = es; table = rest.table }) (sym (append_assoc out (r ∷ []) rest.equations))

listed_end : (out : List Term) (table : List Aux) → listed out (record { equations = []; table = table }) ≡ record { equations = out; table = table }
listed_end out table = ap (λ es. record { equations = es; table = table }) (append-nil out)

module _ (sig : Sig) where
  ended : (n at : ℕ) (table : List Aux) (met : List ℕ) → slice_get met at ≡ None → equated sig n at (stage table met) ≡ record { equations = []; table = table }
  unfolding equated
  ended zero at table met h = refl
  ended (suc n) at table met h = ap (next_equation sig (stage table met) (equated sig n (at + 1))) h

  spent : (at : ℕ) (table : List Aux) (met : List ℕ) → equated sig zero at (stage table met) ≡ record { equations = []; table = table }
  unfolding equated
  spent at table met = refl

  one_round : (n at : ℕ) (table table' : List Aux) (met met' : List ℕ) (k : ℕ) (r : Term) → slice_get met at ≡ Some k → lifted_equation sig k (stage table met) ≡ ends r table' met' →
      equated sig (suc n) at (stage table met) ≡ begins_with r (equated sig n (at + 1) (stage table' met'))
  unfolding equated
  one_round n at table table' met met' k r h e =
      ap (next_equation sig (stage table met) (equated sig n (at + 1))) h ∙ ap (λ (w : Walked). begins_with w.term (equated sig n (at + 1) w.after)) e

  module _ (all : Equated) (most : ℕ) where
    pub round : (at : ℕ) (table table' : List Aux) (met met' : List ℕ) (k : ℕ) (r : Term) (out out' : List Term) → at < most → all ≡ listed out (equated sig (most - at) at (stage table met)) →
        slice_get met at ≡ Some k → lifted_equation sig k (stage table met) ≡ ends r table' met' → out' ≡ out ++ r ∷ [] →
        all ≡ listed out' (equated sig (most - (at + 1)) (at + 1) (stage table' met'))
    round at table table' met met' k r out out' within so h e pushed =
        let left : most - at ≡ suc (most - (at + 1)) = omega arith in
        so ∙ ap (λ n. listed out (equated sig n at (stage table met))) left ∙ ap (listed out) (one_round (most - (at + 1)) at table table' met met' k r h e)
        ∙ listed_more out r (equated sig (most - (at + 1)) (at + 1) (stage table' met')) ∙ ap (λ es. listed es (equated sig (most - (at + 1)) (at + 1) (stage table' met'))) (sym pushed)

    pub none_left : (at : ℕ) (table : List Aux) (met : List ℕ) (out : List Term) → all ≡ listed out (equated sig (most - at) at (stage table met)) → slice_get met at ≡ None → all ≡ record { equations = out; table = table }
    none_left at table met out so h = so ∙ ap (listed out) (ended (most - at) at table met h) ∙ listed_end out table

    pub all_spent : (at : ℕ) (table : List Aux) (met : List ℕ) (out : List Term) → at ≡ most → all ≡ listed out (equated sig (most - at) at (stage table met)) → all ≡ record { equations = out; table = table }
    all_spent at table met out e so =
        let nothing : most - at ≡ zero = omega arith in
        so ∙ ap (λ n. listed out (equated sig n at (stage table met))) nothing ∙ ap (listed out) (spent at table met) ∙ listed_end out table

  pub from_none : (most : ℕ) (s : Stage) → equated sig most 0 s ≡ listed [] (equated sig (most - 0) 0 s)
  from_none most s = let same : most ≡ most - 0 = omega arith in ap (λ n. equated sig n 0 s) same

  pub equation_lifted : (k : ℕ) (table table' : List Aux) (met met' : List ℕ) (raw r : Term) → raw ≡ equation k (entry_at table k) → (reading sig raw).formula [] (stage table met) ≡ ends r table' met' →
      lifted_equation sig k (stage table met) ≡ ends r table' met'
  unfolding lifted_formula
  equation_lifted k table table' met met' raw r is e = (λ i. (reading sig (sym is i)).formula [] (stage table met)) ∙ e

  pub all_lifted : (t b : Term) (table table' table'' : List Aux) (met : List ℕ) (es : List Term) → (reading sig t).formula [] (stage table []) ≡ ends b table' met →
      equated sig (2 ^ 64 - 1) 0 (stage table' met) ≡ record { equations = es; table = table'' } → lifted sig table t ≡ record { body = b; equations = es; table = table'' }
  unfolding lifted lifted_formula
  all_lifted t b table table' table'' met es e rest =
      ap (outcome_of sig) e ∙ ap (λ (q : Equated). record { body = b; equations = q.equations; table = q.table }) rest
