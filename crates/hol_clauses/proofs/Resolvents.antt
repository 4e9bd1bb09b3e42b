-- What the steps of a resolution and of a cut with reflexivity give.
use Rattle.std.proofs.Common.{◌≡◌, ℕ, ◌∙◌, ap}
use Rattle.std.specs.FinSet as set
use Rattle.hol_terms.specs.declared.term.Term.{Term}
use Rattle.hyp_sets.specs.Sets.{TermSet}
use Rattle.kernel_rules.specs.Connectives.{falsum, neg}
use Rattle.kernel_rules.specs.Rules.{seq}
use Rattle.hol_kernel.specs.Logs.{Logged, IsThm, thm}
use Rattle.hol_kernel.specs.Growth.{Extends, Gives}
use Rattle.hol_derived.proofs.Unions.{none_joined}

module _ (old one : Logged) (th with : ℕ) (kept : Extends old one) (is_thm : IsThm old th) where
  stays : thm one th ≡ thm old th
  stays = kept.earlier th is_thm

  pub resolved_is : (a : Term) (d : TermSet) → (thm old th).concl ≡ falsum → Gives one with (seq d (neg a)) →
      seq (set.union (thm one with).hyps (set.remove (thm one th).hyps (thm one with).concl)) (thm one th).concl ≡ seq (set.union d (set.remove (thm old th).hyps (neg a))) falsum
  resolved_is a d is_false g =
      (λ i. seq (set.union ((g.is i).hyps) (set.remove ((stays i).hyps) ((g.is i).concl))) ((stays i).concl)) ∙ ap (seq (set.union d (set.remove (thm old th).hyps (neg a)))) is_false

  pub reflexive_is : (e : Term) → Gives one with (seq set.empty e) →
      seq (set.union (thm one with).hyps (set.remove (thm one th).hyps (thm one with).concl)) (thm one th).concl ≡ seq (set.remove (thm old th).hyps e) (thm old th).concl
  reflexive_is e g =
      (λ i. seq (set.union ((g.is i).hyps) (set.remove ((stays i).hyps) ((g.is i).concl))) ((stays i).concl)) ∙ ap (λ s. seq s (thm old th).concl) (none_joined (set.remove (thm old th).hyps e))
