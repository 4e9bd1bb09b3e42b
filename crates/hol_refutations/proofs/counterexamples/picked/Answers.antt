use Rattle.std.proofs.Common.{◌∙◌, ap}
use Rattle.hyp_sets.specs.Sets.{only}
use Rattle.kernel_rules.specs.Connectives.{neg, all, chosen, right_of, head_ty, is_some_of, applied_to, lambda}
use Rattle.kernel_rules.specs.Rules.{seq}
use Rattle.kernel_rules.proofs.Parts.{right_of-apply, head_ty-one, is_some_of-some}
use Rattle.hol_kernel.proofs.Growing.{extends_trans}
use Rattle.hol_kernel.proofs.Making.{err_free}
use Rattle.hol_derived.proofs.Cuts.{gives_as}
use Rattle.hol_terms.specs.declared.konst.Konst.TheVariants as konst
use Rattle.kernel_rules.specs.Connectives.{constant}
use Rattle.hol_refutations.proofs.Failures.{denied_at}
use Rattle.hol_refutations.proofs.counterexamples.picked.Goals as goal

pub counterexample-requires : goal.counterexample-requires
counterexample-requires c = c.requires

pub choose-requires-clause-a : goal.choose-requires-clause-a
choose-requires-clause-a c = c.in_ok-fails.ensures.gives.is_thm

pub choose-requires-clause-fits : goal.choose-requires-clause-fits
choose-requires-clause-fits c = ap (λ q. is_some_of q.concl) c.in_ok-fails.ensures.gives.is ∙ is_some_of-some c.args.ty.now (lambda c.args.ty.now (neg c.args.body.now))

pub returns-in_err-fails-clause-kept : goal.returns-in_err-fails-clause-kept
returns-in_err-fails-clause-kept c = c.counterexample.ensures.kept

pub returns-in_err-fails-clause-facts : goal.returns-in_err-fails-clause-facts
returns-in_err-fails-clause-facts c = c.counterexample.ensures.facts

pub returns-in_err-fails-clause-gives : goal.returns-in_err-fails-clause-gives
returns-in_err-fails-clause-gives c = err_free c.from_residual.result _ c.from_residual.ensures.0

pub returns-clause-kept : goal.returns-clause-kept
returns-clause-kept c = extends_trans _ _ _ c.counterexample.ensures.kept c.choose.ensures.kept

pub returns-clause-facts : goal.returns-clause-facts
returns-clause-facts c = c.choose.ensures.facts ∙ c.counterexample.ensures.facts

pub returns-clause-gives : goal.returns-clause-gives
returns-clause-gives c = gives_as c.choose.result c.choose.new.self _ _ (ap (λ q. seq q.hyps (applied_to (right_of q.concl) (chosen (head_ty q.concl) (right_of q.concl)))) c.in_ok-fails.ensures.gives.is ∙ ((λ i. seq (only (neg (all c.args.ty.now (lambda c.args.ty.now c.args.body.now)))) (applied_to (right_of-apply (constant (konst.Ex c.args.ty.now)) (lambda c.args.ty.now (neg c.args.body.now)) i) (chosen (head_ty-one (konst.Ex c.args.ty.now) (lambda c.args.ty.now (neg c.args.body.now)) i) (right_of-apply (constant (konst.Ex c.args.ty.now)) (lambda c.args.ty.now (neg c.args.body.now)) i)))) ∙ ap (seq (only (neg (all c.args.ty.now (lambda c.args.ty.now c.args.body.now))))) (denied_at c.args.ty.now c.args.body.now (chosen c.args.ty.now (lambda c.args.ty.now (neg c.args.body.now)))))) c.choose.ensures.gives
