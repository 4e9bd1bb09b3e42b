-- Theorems of both parents' instances, and what is joined of them.
use Rattle.std.proofs.Common.{◌≡◌, ℕ, Bool, List, ◌++◌, sym, ap, subst, ◌∙◌}
use Rattle.std.specs.Prelude.{Result, IfOk, slice_set}
use Rattle.std.specs.List.{remove}
use Rattle.fo_terms.specs.declared.term.FoTerm.{FoTerm}
use Rattle.fo_terms.specs.declared.literal.Literal.{Literal}
use Rattle.fo_terms.specs.Substitution.{put_literals}
use Rattle.tagged_terms.specs.Readings.{Signs}
use Rattle.hyp_sets.specs.Sets.{Among}
use Rattle.kernel_rules.specs.declared.step.ThmId.{ThmId}
use Rattle.kernel_rules.specs.Connectives.{falsum}
use Rattle.hol_kernel.specs.Logs.{Logged, IsThm, thm}
use Rattle.hol_kernel.specs.Growth.{Extends}
use Rattle.hol_kernel.proofs.Growing.{thm_stays}
use Rattle.hol_terms.specs.declared.literal.TypedLiteral.{TypedLiteral}
use Rattle.hol_clauses.specs.Literals.{allowed}
use Rattle.clause_instances.specs.Theorems.{clause_of, Lands}
use Rattle.clause_instances.proofs.Answered.{if_ok_map}
use Rattle.hol_lift.specs.inner.Typed.{Last, Joins, Rewrites, rewritten}
use Rattle.hol_lift.specs.inner.Pairs.{Resolved, Paramodulated}

-- a conclusion stays in a longer log
pub concl_stays : (old mid : Logged) (th : ℕ) → Extends old mid → IsThm old th → (thm old th).concl ≡ falsum → (thm mid th).concl ≡ falsum
concl_stays old mid th kept is_thm h = ap (λ q. q.concl) (kept.earlier th is_thm) ∙ h

pub lands_on : (old mid new : Logged) (th r : ℕ) (p c : List TypedLiteral) → Extends mid new → Lands old mid th p r c → Lands old new th p r c
lands_on old mid new th r p c kept l = record {
  is_thm = thm_stays mid new r kept l.is_thm;
  concl = concl_stays mid new r kept l.is_thm l.concl;
  lifts = λ base free h. subst (λ q. Among q.hyps (allowed base c)) (sym (kept.earlier r l.is_thm)) (l.lifts base free h);
}

pub lands_from : (old mid new : Logged) (th r : ℕ) (p c : List TypedLiteral) → Extends old mid → IsThm old th → Lands mid new th p r c → Lands old new th p r c
lands_from old mid new th r p c kept is_thm l = record {
  is_thm = l.is_thm;
  concl = l.concl;
  lifts = λ base free h. l.lifts base free (subst (λ q. Among q.hyps (allowed base p)) (sym (kept.earlier th is_thm)) h);
}

module _ (old mid new : Logged) (left right one other r : ℕ) (p q ps qs c : List TypedLiteral) where
  pub joins_both : Lands old mid left p one ps → Lands old mid right q other qs → Joins mid new one ps other qs r c → Joins old new left p right q r c
  joins_both l m j = record { is_thm = j.is_thm; concl = j.concl; lifts = λ base free h k. j.lifts base free (l.lifts base free h) (m.lifts base free k) }

module _ (old mid new : Logged) (signs : Signs) (left right one other : ℕ) (u w : ℕ → FoTerm) (p q : List Literal) (l : Lands old mid left (clause_of signs p) one (clause_of signs (put_literals u p))) (m : Lands old mid right (clause_of signs q) other (clause_of signs (put_literals w q)))
    (i j : ℕ) (ps qs : List TypedLiteral) (ps_is : ps ≡ clause_of signs (put_literals u p)) (qs_is : qs ≡ clause_of signs (put_literals w q)) {E : Type 0} (r : Result ThmId E) where
  pub resolved_both : IfOk r (λ s. (c : List TypedLiteral) → Last (remove ps i ++ remove qs j) c → Joins mid new one ps other qs s.0 c) → IfOk r (λ s. Resolved old new signs left u p i right w q j s.0)
  resolved_both h =
      if_ok_map r (λ s. (c : List TypedLiteral) → Last (remove ps i ++ remove qs j) c → Joins mid new one ps other qs s.0 c) (λ s. Resolved old new signs left u p i right w q j s.0)
      (λ s f c last.
      let g = subst (λ z. Last (remove z i ++ remove qs j) c → Joins mid new one z other qs s.0 c) ps_is (f c) in
      let k = subst (λ z. Last (remove (clause_of signs (put_literals u p)) i ++ remove z j) c → Joins mid new one (clause_of signs (put_literals u p)) other z s.0 c) qs_is g in
      joins_both old mid new left right one other s.0 (clause_of signs p) (clause_of signs q) (clause_of signs (put_literals u p)) (clause_of signs (put_literals w q)) c l m (k last)) h

  pub paramodulated_both : (swapped : Bool) (path : List ℕ) → IfOk r (λ s. (e : Rewrites ps i swapped qs j path) (c : List TypedLiteral) → Last (remove ps i ++ slice_set qs j (rewritten e.equation swapped path e.into)) c → Joins mid new one ps other qs s.0 c)
      → IfOk r (λ s. Paramodulated old new signs left u p i swapped right w q j path s.0)
  paramodulated_both swapped path h =
      if_ok_map r (λ s. Given ps qs s.0) (λ s. Paramodulated old new signs left u p i swapped right w q j path s.0)
      (λ s f e c last.
      joins_both old mid new left right one other s.0 (clause_of signs p) (clause_of signs q) (clause_of signs (put_literals u p)) (clause_of signs (put_literals w q)) c l m
      (subst (λ z. Given (clause_of signs (put_literals u p)) z s.0) qs_is (subst (λ z. Given z qs s.0) ps_is f) e c last)) h
    where
      Given : List TypedLiteral → List TypedLiteral → ℕ → Type 0
      Given ps qs r = (e : Rewrites ps i swapped qs j path) (c : List TypedLiteral) → Last (remove ps i ++ slice_set qs j (rewritten e.equation swapped path e.into)) c → Joins mid new one ps other qs r c
