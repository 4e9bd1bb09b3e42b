-- A theorem that is cut with another.
use Rattle.std.proofs.Common.{◌≡◌, ℕ, sym, ◌∙◌, ap, subst}
use Rattle.std.specs.Prelude.{Result, IfOk}
use Rattle.std.specs.FinSet as set
use Rattle.hol_terms.specs.declared.term.Term.{Term}
use Rattle.kernel_rules.specs.declared.step.ThmId.{ThmId}
use Rattle.kernel_rules.specs.declared.sequent.Sequent.{Sequent}
use Rattle.kernel_rules.specs.Connectives.{imp, right_of}
use Rattle.kernel_rules.specs.Rules.{seq}
use Rattle.kernel_rules.proofs.Parts.{right_of-apply}
use Rattle.hol_kernel.specs.Logs.{Logged, IsThm, thm}
use Rattle.hol_kernel.specs.Growth.{Extends, Gives}
use Rattle.hol_kernel.specs.Conditions.{IsImp}
use Rattle.hol_derived.proofs.Unions.{union_turned}

-- what is given, by another name of the sequent
pub gives_as : {E : Type 0} (r : Result ThmId E) (new : Logged) (p q : Sequent) → p ≡ q → IfOk r (λ th. Gives new th.0 p) → IfOk r (λ th. Gives new th.0 q)
gives_as r new p q e h = subst (λ s. IfOk r (λ th. Gives new th.0 s)) e h

module _ (old mid : Logged) (a c r : ℕ) (t : Term) (t_is : t ≡ (thm old a).concl) (kept : Extends old mid) (is_thm : IsThm old a)
    (gives : Gives mid r (seq (set.remove (thm old c).hyps t) (imp t (thm old c).concl))) where
  stays : thm mid a ≡ thm old a
  stays = kept.earlier a is_thm

  right_is : right_of (thm mid r).concl ≡ (thm old c).concl
  right_is = ap (λ q. right_of q.concl) gives.is ∙ right_of-apply _ (thm old c).concl

  pub cut_fits : IsImp (thm mid r).concl (thm mid a).concl
  cut_fits = ap (λ q. q.concl) gives.is ∙ ap (λ z. imp z (thm old c).concl) (t_is ∙ sym (ap (λ q. q.concl) stays)) ∙ ap (imp (thm mid a).concl) (sym right_is)

  pub cut_is : seq (set.union (thm mid r).hyps (thm mid a).hyps) (right_of (thm mid r).concl) ≡ seq (set.union (thm old a).hyps (set.remove (thm old c).hyps (thm old a).concl)) (thm old c).concl
  cut_is =
      (λ i. seq (set.union ((gives.is i).hyps) ((stays i).hyps)) (right_is i)) ∙ (λ i. seq (set.union (set.remove (thm old c).hyps (t_is i)) (thm old a).hyps) (thm old c).concl)
      ∙ ap (λ s. seq s (thm old c).concl) (union_turned (set.remove (thm old c).hyps (thm old a).concl) (thm old a).hyps)
