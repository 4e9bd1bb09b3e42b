-- The walk that refutes: what a formula's parts give it.
use Rattle.std.proofs.Common.{◌≡◌, ℕ, ◌+◌, Bool, true, false, not, if◌then◌else◌, IsTrue, List, [], ◌∷◌, ap, subst, refl, sym, ◌∙◌}
use Rattle.std.specs.Prelude.{Result, Ok, Err, IfOk}
use Rattle.hol_terms.specs.declared.ty.Ty.{Ty}
use Rattle.hol_terms.specs.declared.term.Term.{Term}
use Rattle.hol_terms.specs.declared.sig.Sig.{Sig}
use Rattle.hol_terms.specs.declared.term.Term.{roll-Term}
use Rattle.hol_terms.specs.declared.term.Term.TheOpen.{Term-F}
use Rattle.hol_terms.specs.Types.{bool_ty}
use Rattle.hol_terms.specs.Formulas.{IsFormula}
use Rattle.hol_terms.specs.Substitution.{instantiated}
use Rattle.hol_terms.proofs.Equations.{type-free, aux_free-free}
use Rattle.hol_terms.proofs.TypedParts.{checked_so}
use Rattle.hol_kernel.specs.Conditions.{IsGiven}
use Rattle.hol_derived.proofs.ContextLaws.{given_from}
use Rattle.hol_refutations.proofs.Failures.{failure_formula}
use Rattle.hol_formulas.specs.declared.formula.Quantifier.TheVariants as quantifiers
use Rattle.hyp_sets.specs.Sets.{TermSet, only}
use Rattle.kernel_rules.specs.Connectives.{neg, lambda, equal, left_of, right_of, body_of}
use Rattle.hol_kernel.specs.Logs.{Logged}
use Rattle.hol_kernel.specs.Growth.{Extends}
use Rattle.hol_formulas.specs.declared.formula.Junction.{Junction}
use Rattle.hol_formulas.specs.declared.formula.Junction.TheVariants as junctions
use Rattle.hol_formulas.specs.declared.formula.Quantifier.{Quantifier}
use Rattle.hol_formulas.specs.declared.formula.Formula as formula
use Rattle.hol_formulas.specs.declared.formula.Formula.{Formula}
use Rattle.formula_clauses.specs.Walks.{Clauses, joined, appended, is_universal, property}
use Rattle.formula_clauses.specs.inner.Measures.{first_sign, is_iff, is_product}
use Rattle.hol_clausify.specs.declared.refuting.Refutations.{Refutations}
use Rattle.hol_clausify.specs.Places.{junction, quantifier}
use Rattle.hol_clausify.specs.Refutations.{Refuted, refuted, chosen_value, junction_pass, quantified_pass, value, next_behind, under_quantifier}
use Rattle.hol_clausify.specs.inner.Matching.{matches}
use Rattle.hol_clausify.specs.inner.Refuting.{placed, AllRefuted, Refutes}
use Rattle.hol_clausify.proofs.Refuted.{all_stay}
use Rattle.hol_clausify.proofs.Formed.{denied_formula, sides_formulas, property_of_quantifier, instance_formula}
use Rattle.hol_clausify.proofs.Matching.{put_matches, right_of_quantifier}
use Rattle.hol_clausify.proofs.NamedValues.{value_given}
use Rattle.hol_clausify.proofs.RefutedSteps.{at_not, at_two, at_quantified, not_like, two_like, quantified_like, refutes_as, junction_refutes, iff_refutes, opened_refuted}

pub both_ok : {E A : Type 0} (result : Result A E) (P Q R : A → Type 0) → IfOk result P → IfOk result Q → ((r : A) → P r → Q r → R r) → IfOk result R
both_ok (Ok r) P Q R p q f = f r p q
both_ok (Err e) P Q R p q f = p

pub same_part : (log : Logged) (g h : Formula) (s s' : Bool) (u v : Term) (n : ℕ) (r : Refutations) → g ≡ h → s ≡ s' → u ≡ v → Refutes log (only (placed s u)) (refuted g s u n) r → Refutes log (only (placed s' v)) (refuted h s' v n) r
same_part log g h s s' u v n r e1 e2 e3 w =
    subst (λ z. Refutes log (only (placed s' z)) (refuted h s' z n) r) e3
    (subst (λ z. Refutes log (only (placed z u)) (refuted h z u n) r) e2 (subst (λ z. Refutes log (only (placed s u)) (refuted z s u n) r) e1 w))

module _ (f : Formula) (t : Term) (m : IsTrue (matches f t)) (s : Bool) (n : ℕ) where
  pub not_refutes : (log new : Logged) (a g : Formula) (u v : Term) (inner r : Refutations) → f ≡ formula.Not a → g ≡ a → u ≡ right_of t → v ≡ right_of t → Refutes log (only (placed (not s) u)) (refuted g (not s) u n) inner → r.next ≡ inner.next →
      ((cs : Clauses) → AllRefuted log (only (placed (not s) v)) cs inner.thms → AllRefuted new (only (placed s (neg v))) cs r.thms) → Refutes new (only (placed s t)) (refuted f s t n) r
  not_refutes log new a g u v inner r is eg eu ev h next gives =
      let part = same_part log g a (not s) (not s) u (right_of t) n inner eg refl eu h in
      let w = refuted a (not s) (right_of t) n in
      refutes_as new (only (placed s t)) r (refuted f s t n) w (at_not s t n f a is)
      record {
        next = part.next ∙ sym next;
        refuted =
            subst (λ z. AllRefuted new (only (placed s z)) w.clauses r.thms) (ap neg ev ∙ sym (not_like f t m a is).0)
            (gives w.clauses (subst (λ z. AllRefuted log (only (placed (not s) z)) w.clauses inner.thms) (sym ev) part.refuted));
      }

  pub two_refutes : (log1 log2 new : Logged) (j : Junction) (a b ga gb : Formula) (s1 : Bool) (t1 t2 t3 t4 : Term) (one two r : Refutations) → f ≡ formula.Two j a b → is_iff j ≡ false → ga ≡ a → gb ≡ b → s1 ≡ first_sign j s →
      t1 ≡ left_of t → t2 ≡ right_of t → t3 ≡ left_of t → t4 ≡ right_of t → Extends log1 log2 → Refutes log1 (only (placed s1 t1)) (refuted ga s1 t1 n) one → Refutes log2 (only (placed s t2)) (refuted gb s t2 one.next) two → r.next ≡ two.next →
      ((cs ds : Clauses) → AllRefuted log2 (only (placed (first_sign j s) t3)) cs one.thms → AllRefuted log2 (only (placed s t4)) ds two.thms →
      AllRefuted new (only (placed s (junction j t3 t4))) ((if is_product j s then joined else appended) cs ds) r.thms) → Refutes new (only (placed s t)) (refuted f s t n) r
  two_refutes log1 log2 new j a b ga gb s1 t1 t2 t3 t4 one two r is off ea eb es e1 e2 e3 e4 kept h1 h2 next gives =
      let s0 = first_sign j s in
      let o = same_part log1 ga a s1 s0 t1 (left_of t) n one ea es e1 h1 in
      let p = same_part log2 gb b s s t2 (right_of t) one.next two eb refl e2 h2 in
      let cs = (refuted a s0 (left_of t) n).clauses in
      let ds = (refuted b s (right_of t) one.next).clauses in
      refutes_as new (only (placed s t)) r (refuted f s t n) (junction_pass j (refuted a) (refuted b) s (left_of t) (right_of t) n) (at_two s t n f j a b is)
      (junction_refutes new (only (placed s t)) r j s (refuted a) (refuted b) (left_of t) (right_of t) n one.next two.next off o.next p.next next
      (subst (λ z. AllRefuted new (only (placed s z)) ((if is_product j s then joined else appended) cs ds) r.thms) ((λ i. junction j (e3 i) (e4 i)) ∙ sym (two_like f t m j a b is).0)
      (gives cs ds (all_stay log1 log2 (only (placed s0 t3)) cs one.thms kept (subst (λ z. AllRefuted log1 (only (placed s0 z)) cs one.thms) (sym e3) o.refuted))
      (subst (λ z. AllRefuted log2 (only (placed s z)) ds two.thms) (sym e4) p.refuted))))

  pub equal_refutes : (log1 log2 log3 log4 new : Logged) (j : Junction) (a b ga gb ha hb : Formula) (s1 : Bool) (t1 t2 t3 t4 t5 t6 : Term) (one two three four r : Refutations) → f ≡ formula.Two j a b → j ≡ junctions.Iff → ga ≡ a → gb ≡ b → ha ≡ a → hb ≡ b →
      s1 ≡ first_sign j s → t1 ≡ left_of t → t2 ≡ right_of t → t3 ≡ left_of t → t4 ≡ right_of t → t5 ≡ left_of t → t6 ≡ right_of t → Extends log1 log4 → Extends log2 log4 → Extends log3 log4 →
      Refutes log1 (only (placed s1 t1)) (refuted ga s1 t1 n) one → Refutes log2 (only (placed true t2)) (refuted gb true t2 one.next) two → Refutes log3 (only (placed s t3)) (refuted ha s t3 two.next) three →
      Refutes log4 (only (placed false t4)) (refuted hb false t4 three.next) four → r.next ≡ four.next →
      ((cs ds es fs : Clauses) → AllRefuted log4 (only (placed (not s) t5)) cs one.thms → AllRefuted log4 (only t6) ds two.thms → AllRefuted log4 (only (placed s t5)) es three.thms → AllRefuted log4 (only (neg t6)) fs four.thms →
      AllRefuted new (only (placed s (equal bool_ty t5 t6))) (appended (joined cs ds) (joined es fs)) r.thms) → Refutes new (only (placed s t)) (refuted f s t n) r
  equal_refutes log1 log2 log3 log4 new j a b ga gb ha hb s1 t1 t2 t3 t4 t5 t6 one two three four r is iff ea eb ea' eb' es e1 e2 e3 e4 e5 e6 k1 k2 k3 h1 h2 h3 h4 next gives =
      let l = left_of t in
      let u = right_of t in
      let o = same_part log1 ga a s1 (not s) t1 l n one ea (es ∙ ap (λ k. first_sign k s) iff) e1 h1 in
      let p = same_part log2 gb b true true t2 u one.next two eb refl e2 h2 in
      let q = same_part log3 ha a s s t3 l two.next three ea' refl e3 h3 in
      let x = same_part log4 hb b false false t4 u three.next four eb' refl e4 h4 in
      let cs = (refuted a (not s) l n).clauses in
      let ds = (refuted b true u one.next).clauses in
      let es' = (refuted a s l two.next).clauses in
      let fs = (refuted b false u three.next).clauses in
      refutes_as new (only (placed s t)) r (refuted f s t n) (junction_pass junctions.Iff (refuted a) (refuted b) s l u n) (at_two s t n f j a b is ∙ ap (λ k. junction_pass k (refuted a) (refuted b) s l u n) iff)
      (iff_refutes new (only (placed s t)) r s (refuted a) (refuted b) l u n one.next two.next three.next four.next o.next p.next q.next x.next next
      (subst (λ z. AllRefuted new (only (placed s z)) (appended (joined cs ds) (joined es' fs)) r.thms) ((λ i. equal bool_ty (e5 i) (e6 i)) ∙ ap (λ k. junction k l u) (sym iff) ∙ sym (two_like f t m j a b is).0)
      (gives cs ds es' fs (all_stay log1 log4 (only (placed (not s) t5)) cs one.thms k1 (subst (λ z. AllRefuted log1 (only (placed (not s) z)) cs one.thms) (sym e5) o.refuted))
      (all_stay log2 log4 (only t6) ds two.thms k2 (subst (λ z. AllRefuted log2 (only z) ds two.thms) (sym e6) p.refuted))
      (all_stay log3 log4 (only (placed s t5)) es' three.thms k3 (subst (λ z. AllRefuted log3 (only (placed s z)) es' three.thms) (sym e5) q.refuted))
      (subst (λ z. AllRefuted log4 (only (neg z)) fs four.thms) (sym e6) x.refuted))))

  pub quantified_refutes : (log new : Logged) (q : Quantifier) (a : Ty) (u : Term) (b g : Formula) (body part v : Term) (k : ℕ) (inner r : Refutations) → f ≡ formula.Quantified q a u b → g ≡ b → body ≡ under_quantifier t → part ≡ instantiated body v →
      value q a s body n ≡ v → next_behind q s n ≡ k → Refutes log (only (placed s part)) (refuted g s part k) inner → r.next ≡ inner.next →
      ((cs : Clauses) → AllRefuted log (only (placed s part)) cs inner.thms → AllRefuted new (only (placed s (quantifier q a (lambda a body)))) cs r.thms) → Refutes new (only (placed s t)) (refuted f s t n) r
  quantified_refutes log new q a u b g body part v k inner r is eg ebody epart evalue enext h next gives =
      let p = same_part log g b s s part part k inner eg refl refl h in
      let w = refuted b s part k in
      refutes_as new (only (placed s t)) r (refuted f s t n) w
      (at_quantified s t n f q a u b is ∙ ap (λ z. quantified_pass q a (refuted b) s z n) (sym ebody) ∙ opened_refuted q a (refuted b) s body part v n k epart evalue enext)
      record {
        next = p.next ∙ sym next;
        refuted = subst (λ z. AllRefuted new (only (placed s z)) w.clauses r.thms) (ap (λ z. quantifier q a (lambda a z)) ebody ∙ sym (quantified_like f t m q a u b is).0) (gives w.clauses p.refuted);
      }

-- ---- what a call needs
pub given_variable : (sig : Sig) (q : Quantifier) (a : Ty) (b : Term) (n : ℕ) → IsFormula sig (quantifier q a (lambda a b)) → IsGiven sig (roll-Term (Term-F.Free n a)) a
given_variable sig q a b n h =
    let fits = (property_of_quantifier sig q a (lambda a b) h).0 in
    given_from sig (roll-Term (Term-F.Free n a)) a (type-free sig n a [] ∙ checked_so sig.types a a fits) (aux_free-free n a)

pub given_chosen : (sig : Sig) (q : Quantifier) (a : Ty) (b : Term) → IsFormula sig (quantifier q a (lambda a b)) → IsGiven sig (chosen_value a (property q a b)) a
given_chosen sig quantifiers.All a b h = value_given sig a (lambda a (neg b)) (failure_formula sig a b h)
given_chosen sig quantifiers.Ex a b h = value_given sig a (lambda a b) h

module _ (sig : Sig) (f : Formula) (t : Term) (m : IsTrue (matches f t)) (h : IsFormula sig t) where
  same_place : (a g : Formula) (u v : Term) → g ≡ a → u ≡ v → IsFormula sig v → IsTrue (matches a v) → IsFormula sig u × IsTrue (matches g u)
  same_place a g u v eg eu hv mv = (subst (IsFormula sig) (sym eu) hv, subst (λ z. IsTrue (matches z u)) (sym eg) (subst (λ z. IsTrue (matches a z)) (sym eu) mv))

  pub under_not : (a g : Formula) (u : Term) → f ≡ formula.Not a → g ≡ a → u ≡ right_of t → IsFormula sig u × IsTrue (matches g u)
  under_not a g u is eg eu =
      let w = not_like f t m a is in same_place a g u (right_of t) eg eu (denied_formula sig (right_of t) (subst (IsFormula sig) w.0 h)) w.1

  pub junction_whole : (j : Junction) (a b : Formula) (u v : Term) → f ≡ formula.Two j a b → u ≡ left_of t → v ≡ right_of t → IsFormula sig (junction j u v)
  junction_whole j a b u v is eu ev = subst (IsFormula sig) ((two_like f t m j a b is).0 ∙ (λ i. junction j (sym eu i) (sym ev i))) h

  pub under_left : (j : Junction) (a b g : Formula) (u : Term) → f ≡ formula.Two j a b → g ≡ a → u ≡ left_of t → IsFormula sig u × IsTrue (matches g u)
  under_left j a b g u is eg eu = same_place a g u (left_of t) eg eu (sides_formulas sig j (left_of t) (right_of t) (junction_whole j a b (left_of t) (right_of t) is refl refl)).0 (two_like f t m j a b is).1

  pub under_right : (j : Junction) (a b g : Formula) (u : Term) → f ≡ formula.Two j a b → g ≡ b → u ≡ right_of t → IsFormula sig u × IsTrue (matches g u)
  under_right j a b g u is eg eu = same_place b g u (right_of t) eg eu (sides_formulas sig j (left_of t) (right_of t) (junction_whole j a b (left_of t) (right_of t) is refl refl)).1 (two_like f t m j a b is).2

  pub quantified_whole : (q : Quantifier) (a : Ty) (u : Term) (b : Formula) (body : Term) → f ≡ formula.Quantified q a u b → body ≡ under_quantifier t → IsFormula sig (quantifier q a (lambda a body))
  quantified_whole q a u b body is eb = subst (IsFormula sig) ((quantified_like f t m q a u b is).0 ∙ ap (λ z. quantifier q a (lambda a z)) (sym eb)) h

  pub property_is : (q : Quantifier) (a : Ty) (u : Term) (b : Formula) (p body : Term) → f ≡ formula.Quantified q a u b → p ≡ right_of t → body ≡ under_quantifier t → p ≡ lambda a body
  property_is q a u b p body is ep eb =
      ep ∙ ap right_of (quantified_like f t m q a u b is).0 ∙ right_of_quantifier q a (lambda a (under_quantifier t)) ∙ ap (lambda a) (sym eb)

  pub under_value : (q : Quantifier) (a : Ty) (u : Term) (b g : Formula) (body part v : Term) → f ≡ formula.Quantified q a u b → g ≡ b → body ≡ under_quantifier t → part ≡ instantiated body v → IsGiven sig v a → IsFormula sig part × IsTrue (matches g part)
  under_value q a u b g body part v is eg eb ep given =
      same_place b g part (instantiated body v) eg ep (instance_formula sig q a body v (quantified_whole q a u b body is eb) given)
      (put_matches v b body 0 (subst (λ z. IsTrue (matches b z)) (sym eb) (quantified_like f t m q a u b is).1))
