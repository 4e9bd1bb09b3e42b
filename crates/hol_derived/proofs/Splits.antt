-- What the steps of a case distinction give.
use Rattle.std.proofs.Common.{◌≡◌, ℕ, IsTrue, sym, ◌∙◌, ap, subst, refl}
use Rattle.std.specs.FinSet as set
use Rattle.hol_terms.specs.declared.term.Term.{Term}
use Rattle.hol_terms.specs.Formulas.{IsFormula}
use Rattle.hyp_sets.specs.Sets.{TermSet, only}
use Rattle.kernel_rules.specs.Connectives.{falsum, neg, disj, left_of, right_of, is_disj}
use Rattle.kernel_rules.specs.Rules.{seq}
use Rattle.kernel_rules.proofs.Parts.{right_of-apply, left_of-two, is_disj-disj}
use Rattle.kernel_rules.proofs.TypedTerms.{neg_formula, disj_formula}
use Rattle.hol_kernel.specs.Logs.{Logged, IsThm, thm}
use Rattle.hol_kernel.specs.Growth.{Extends, Gives}
use Rattle.hol_kernel.proofs.Growing.{thm_stays}
use Rattle.hol_derived.proofs.Unions.{both_out, none_joined}

-- `p | ~p`
abbrev pub either : Term → Term
either p = disj p (neg p)

-- what is a formula in a log stays one where it grows
pub formula_stays : (old new : Logged) (t : Term) → Extends old new → IsFormula old.env.sig t → IsFormula new.env.sig t
formula_stays old new t kept h = subst (λ e. IsFormula e.sig t) (sym kept.env) h

pub neg_stays : (old new : Logged) (t own : Term) → Extends old new → own ≡ neg t → IsFormula old.env.sig t → IsFormula new.env.sig own
neg_stays old new t own kept e h = subst (IsFormula new.env.sig) (sym e) (neg_formula new.env.sig t (formula_stays old new t kept h))

pub either_formula : (log : Logged) (t own : Term) → own ≡ either t → IsFormula log.env.sig t → IsFormula log.env.sig own
either_formula log t own e h = subst (IsFormula log.env.sig) (sym e) (disj_formula log.env.sig t (neg t) h (neg_formula log.env.sig t h))

pub denial_formula : (log : Logged) (t own : Term) → own ≡ neg (either t) → IsFormula log.env.sig t → IsFormula log.env.sig own
denial_formula log t own e h = subst (IsFormula log.env.sig) (sym e) (neg_formula log.env.sig (either t) (either_formula log t (either t) refl h))

-- a theorem of a log that grows twice
pub twice_stays : (a b c : Logged) (i : ℕ) → Extends a b → Extends b c → IsThm a i → thm c i ≡ thm a i
twice_stays a b c i f g h = g.earlier i (thm_stays a b i f h) ∙ f.earlier i h

module _ (old one two : Logged) (against holds both : ℕ) (p other : Term) (k1 : Extends old one) (k2 : Extends one two) (is_thm : IsThm old against) (other_is : other ≡ neg p)
    (g1 : Gives one holds (seq (only p) p)) (g2 : Gives two both (seq (thm one holds).hyps (disj (thm one holds).concl other))) where
  both_is : thm two both ≡ seq (only p) (either p)
  both_is = g2.is ∙ (λ i. seq ((g1.is i).hyps) (disj ((g1.is i).concl) (other_is i)))

  pub clash_fits : (thm old against).concl ≡ neg (either p) → (thm two against).concl ≡ neg (thm two both).concl
  clash_fits denies = ap (λ q. q.concl) (twice_stays old one two against k1 k2 is_thm) ∙ denies ∙ sym (ap (λ q. neg q.concl) both_is)

  pub clash_is : seq (set.union (thm two against).hyps (thm two both).hyps) falsum ≡ seq (set.union (thm old against).hyps (only p)) falsum
  clash_is = λ i. seq (set.union ((twice_stays old one two against k1 k2 is_thm i).hyps) ((both_is i).hyps)) falsum

pub denied_is : (one two : Logged) (refuted absent : ℕ) (p : Term) (n : TermSet) → Gives one refuted (seq n falsum) → Gives two absent (seq (set.remove (thm one refuted).hyps p) (neg p)) →
    seq (thm two absent).hyps (disj p (thm two absent).concl) ≡ seq (set.remove n p) (either p)
denied_is one two refuted absent p n g1 g2 = (λ i. seq ((g2.is i).hyps) (disj p ((g2.is i).concl))) ∙ (λ i. seq (set.remove ((g1.is i).hyps) p) (either p))

module _ (one two : Logged) (against other : ℕ) (p : Term) (k2 : Extends one two) (g1 : Gives one against (seq (only (neg (either p))) (neg (either p))))
    (g2 : Gives two other (seq (set.remove (set.union (thm one against).hyps (only p)) p) (either p))) where
  against_is : thm two against ≡ seq (only (neg (either p))) (neg (either p))
  against_is = k2.earlier against g1.is_thm ∙ g1.is

  pub middle_fits : (thm two against).concl ≡ neg (thm two other).concl
  middle_fits = ap (λ q. q.concl) against_is ∙ sym (ap (λ q. neg q.concl) g2.is)

  pub middle_is : (three : Logged) (refuted : ℕ) → Gives three refuted (seq (set.union (thm two against).hyps (thm two other).hyps) falsum) → seq (set.remove (thm three refuted).hyps (neg (either p))) (either p) ≡ seq set.empty (either p)
  middle_is three refuted g3 =
      (λ i. seq (set.remove ((g3.is i).hyps) (neg (either p))) (either p)) ∙ (λ i. seq (set.remove (set.union ((against_is i).hyps) ((g2.is i).hyps)) (neg (either p))) (either p))
      ∙ (λ i. seq (set.remove (set.union (only (neg (either p))) (set.remove (set.union ((g1.is i).hyps) (only p)) p)) (neg (either p))) (either p)) ∙ ap (λ s. seq s (either p)) (both_out (neg (either p)) p)

module _ (old one : Logged) (e yes no : ℕ) (p : Term) (kept : Extends old one) (is_yes : IsThm old yes) (is_no : IsThm old no) (g : Gives one e (seq set.empty (either p))) where
  pub cases_fits : IsTrue (is_disj (thm one e).concl)
  cases_fits = ap (λ q. is_disj q.concl) g.is ∙ is_disj-disj p (neg p)

  pub cases_alike : (thm old yes).concl ≡ (thm old no).concl → (thm one yes).concl ≡ (thm one no).concl
  cases_alike same = ap (λ q. q.concl) (kept.earlier yes is_yes) ∙ same ∙ sym (ap (λ q. q.concl) (kept.earlier no is_no))

  left_is : left_of (thm one e).concl ≡ p
  left_is = ap (λ q. left_of q.concl) g.is ∙ left_of-two _ p (neg p)

  right_is : right_of (thm one e).concl ≡ neg p
  right_is = ap (λ q. right_of q.concl) g.is ∙ right_of-apply _ (neg p)

  pub cases_is : seq (set.union (set.union (thm one e).hyps (set.remove (thm one yes).hyps (left_of (thm one e).concl))) (set.remove (thm one no).hyps (right_of (thm one e).concl))) (thm one yes).concl
      ≡ seq (set.union (set.remove (thm old yes).hyps p) (set.remove (thm old no).hyps (neg p))) (thm old yes).concl
  cases_is =
      (λ i. seq (set.union (set.union ((g.is i).hyps) (set.remove ((kept.earlier yes is_yes i).hyps) (left_is i))) (set.remove ((kept.earlier no is_no i).hyps) (right_is i))) ((kept.earlier yes is_yes i).concl))
      ∙ ap (λ s. seq (set.union s (set.remove (thm old no).hyps (neg p))) (thm old yes).concl) (none_joined (set.remove (thm old yes).hyps p))
