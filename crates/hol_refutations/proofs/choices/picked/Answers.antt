use Rattle.std.proofs.Common.{◌∙◌, ap}
use Rattle.hyp_sets.specs.Sets.{only}
use Rattle.kernel_rules.specs.Connectives.{some, chosen, right_of, head_ty, is_some_of, applied_to}
use Rattle.kernel_rules.specs.Rules.{seq}
use Rattle.kernel_rules.proofs.Parts.{right_of-apply, head_ty-one, is_some_of-some}
use Rattle.hol_kernel.proofs.Growing.{extends_trans}
use Rattle.hol_kernel.proofs.Making.{err_free}
use Rattle.hol_derived.proofs.Cuts.{gives_as}
use Rattle.hol_terms.specs.declared.konst.Konst.TheVariants as konst
use Rattle.kernel_rules.specs.Connectives.{constant}
use Rattle.hol_refutations.proofs.choices.picked.Goals as goal

pub supposed_some-requires : goal.supposed_some-requires
supposed_some-requires c = c.requires

pub choose-requires-clause-a : goal.choose-requires-clause-a
choose-requires-clause-a c = c.in_ok-whole.ensures.gives.is_thm

pub choose-requires-clause-fits : goal.choose-requires-clause-fits
choose-requires-clause-fits c = ap (λ q. is_some_of q.concl) c.in_ok-whole.ensures.gives.is ∙ is_some_of-some c.args.ty.now c.args.f.now

pub returns-in_err-whole-clause-kept : goal.returns-in_err-whole-clause-kept
returns-in_err-whole-clause-kept c = c.supposed_some.ensures.kept

pub returns-in_err-whole-clause-facts : goal.returns-in_err-whole-clause-facts
returns-in_err-whole-clause-facts c = c.supposed_some.ensures.facts

pub returns-in_err-whole-clause-gives : goal.returns-in_err-whole-clause-gives
returns-in_err-whole-clause-gives c = err_free c.from_residual.result _ c.from_residual.ensures.0

pub returns-clause-kept : goal.returns-clause-kept
returns-clause-kept c = extends_trans _ _ _ c.supposed_some.ensures.kept c.choose.ensures.kept

pub returns-clause-facts : goal.returns-clause-facts
returns-clause-facts c = c.choose.ensures.facts ∙ c.supposed_some.ensures.facts

pub returns-clause-gives : goal.returns-clause-gives
returns-clause-gives c = gives_as c.choose.result c.choose.new.self _ _ (ap (λ q. seq q.hyps (applied_to (right_of q.concl) (chosen (head_ty q.concl) (right_of q.concl)))) c.in_ok-whole.ensures.gives.is ∙ (λ i. seq (only (some c.args.ty.now c.args.f.now)) (applied_to (right_of-apply (constant (konst.Ex c.args.ty.now)) c.args.f.now i) (chosen (head_ty-one (konst.Ex c.args.ty.now) c.args.f.now i) (right_of-apply (constant (konst.Ex c.args.ty.now)) c.args.f.now i))))) c.choose.ensures.gives
