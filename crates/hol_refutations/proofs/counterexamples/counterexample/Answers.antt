use Rattle.std.proofs.Common.{refl, sym, ◌∙◌, ap, subst, IsTrue}
use Rattle.std.specs.FinSet as set
use Rattle.kernel_rules.specs.Connectives.{neg, all, some, lambda}
use Rattle.kernel_rules.specs.Rules.{seq}
use Rattle.hol_kernel.proofs.Growing.{extends_refl, extends_trans}
use Rattle.hol_kernel.proofs.Making.{err_free}
use Rattle.hol_derived.proofs.Cuts.{gives_as}
use Rattle.hol_derived.proofs.Splits.{formula_stays}
use Rattle.hol_terms.specs.declared.term.Term.{Free}
use Rattle.hol_terms.specs.Substitution.{instantiated}
use Rattle.hyp_sets.specs.Sets.{absent}
use Rattle.hol_refutations.proofs.Steps.{denied_seq}
use Rattle.hol_refutations.proofs.Failures.{left_lacks, failure_alone}
use Rattle.hol_refutations.proofs.counterexamples.counterexample.Goals as goal

pub instance-requires : goal.instance-requires
instance-requires c = c.requires

pub denied-requires : goal.denied-requires
denied-requires c = c.in_ok-one.ensures.gives.is_thm

pub everywhere-requires-clause-whole : goal.everywhere-requires-clause-whole
everywhere-requires-clause-whole c = formula_stays c.args.log.now c.denied.new.log (all c.args.ty.now (lambda c.args.ty.now c.args.body.now)) (extends_trans _ _ _ c.instance.ensures.kept c.denied.ensures.kept) c.requires

pub everywhere-requires-clause-fresh : goal.everywhere-requires-clause-fresh
everywhere-requires-clause-fresh c = c.in_ok-n.ensures

pub everywhere-requires-clause-th : goal.everywhere-requires-clause-th
everywhere-requires-clause-th c = c.in_ok-clash.ensures.gives.is_thm

pub everywhere-requires-clause-refuted : goal.everywhere-requires-clause-refuted
everywhere-requires-clause-refuted c = ap (λ q. q.concl) c.in_ok-clash.ensures.gives.is

pub everywhere-requires-clause-lacks : goal.everywhere-requires-clause-lacks
everywhere-requires-clause-lacks c = subst (λ q. IsTrue (absent c.in_ok-n.n c.args.ty.now (set.remove q.hyps (neg (instantiated c.args.body.now (Free c.in_ok-n.n c.args.ty.now)))))) (sym (c.in_ok-clash.ensures.gives.is ∙ ap denied_seq c.in_ok-one.ensures.gives.is)) (left_lacks c.in_ok-n.n c.args.ty.now c.args.body.now (neg (instantiated c.args.body.now (Free c.in_ok-n.n c.args.ty.now))) c.in_ok-n.ensures)

pub denied-requires-2 : goal.denied-requires-2
denied-requires-2 c = c.in_ok-whole.ensures.gives.is_thm

pub concluded-requires-clause-whole : goal.concluded-requires-clause-whole
concluded-requires-clause-whole c = formula_stays c.args.log.now c.denied-2.new.log (all c.args.ty.now (lambda c.args.ty.now c.args.body.now)) (extends_trans _ _ _ (extends_trans _ _ _ (extends_trans _ _ _ c.instance.ensures.kept c.denied.ensures.kept) c.everywhere.ensures.kept) c.denied-2.ensures.kept) c.requires

pub concluded-requires-clause-th : goal.concluded-requires-clause-th
concluded-requires-clause-th c = c.in_ok-against.ensures.gives.is_thm

pub concluded-requires-clause-refuted : goal.concluded-requires-clause-refuted
concluded-requires-clause-refuted c = ap (λ q. q.concl) c.in_ok-against.ensures.gives.is

pub returns-in_err-n-clause-kept : goal.returns-in_err-n-clause-kept
returns-in_err-n-clause-kept c = extends_refl c.args.log.now

pub returns-in_err-n-clause-facts : goal.returns-in_err-n-clause-facts
returns-in_err-n-clause-facts c = refl

pub returns-in_err-n-clause-gives : goal.returns-in_err-n-clause-gives
returns-in_err-n-clause-gives c = err_free c.from_residual.result _ c.from_residual.ensures.0

pub returns-in_err-one-clause-kept : goal.returns-in_err-one-clause-kept
returns-in_err-one-clause-kept c = c.instance.ensures.kept

pub returns-in_err-one-clause-facts : goal.returns-in_err-one-clause-facts
returns-in_err-one-clause-facts c = c.instance.ensures.facts

pub returns-in_err-one-clause-gives : goal.returns-in_err-one-clause-gives
returns-in_err-one-clause-gives c = err_free c.from_residual-in_err-one.result _ c.from_residual-in_err-one.ensures.0

pub returns-in_err-clash-clause-kept : goal.returns-in_err-clash-clause-kept
returns-in_err-clash-clause-kept c = extends_trans _ _ _ c.instance.ensures.kept c.denied.ensures.kept

pub returns-in_err-clash-clause-facts : goal.returns-in_err-clash-clause-facts
returns-in_err-clash-clause-facts c = c.denied.ensures.facts ∙ c.instance.ensures.facts

pub returns-in_err-clash-clause-gives : goal.returns-in_err-clash-clause-gives
returns-in_err-clash-clause-gives c = err_free c.from_residual-in_err-clash.result _ c.from_residual-in_err-clash.ensures.0

pub returns-in_err-whole-clause-kept : goal.returns-in_err-whole-clause-kept
returns-in_err-whole-clause-kept c = extends_trans _ _ _ (extends_trans _ _ _ c.instance.ensures.kept c.denied.ensures.kept) c.everywhere.ensures.kept

pub returns-in_err-whole-clause-facts : goal.returns-in_err-whole-clause-facts
returns-in_err-whole-clause-facts c = c.everywhere.ensures.facts ∙ (c.denied.ensures.facts ∙ c.instance.ensures.facts)

pub returns-in_err-whole-clause-gives : goal.returns-in_err-whole-clause-gives
returns-in_err-whole-clause-gives c = err_free c.from_residual-in_err-whole.result _ c.from_residual-in_err-whole.ensures.0

pub returns-in_err-against-clause-kept : goal.returns-in_err-against-clause-kept
returns-in_err-against-clause-kept c = extends_trans _ _ _ (extends_trans _ _ _ (extends_trans _ _ _ c.instance.ensures.kept c.denied.ensures.kept) c.everywhere.ensures.kept) c.denied-2.ensures.kept

pub returns-in_err-against-clause-facts : goal.returns-in_err-against-clause-facts
returns-in_err-against-clause-facts c = c.denied-2.ensures.facts ∙ (c.everywhere.ensures.facts ∙ (c.denied.ensures.facts ∙ c.instance.ensures.facts))

pub returns-in_err-against-clause-gives : goal.returns-in_err-against-clause-gives
returns-in_err-against-clause-gives c = err_free c.from_residual-in_err-against.result _ c.from_residual-in_err-against.ensures.0

pub returns-clause-kept : goal.returns-clause-kept
returns-clause-kept c = extends_trans _ _ _ (extends_trans _ _ _ (extends_trans _ _ _ (extends_trans _ _ _ c.instance.ensures.kept c.denied.ensures.kept) c.everywhere.ensures.kept) c.denied-2.ensures.kept) c.concluded.ensures.kept

pub returns-clause-facts : goal.returns-clause-facts
returns-clause-facts c = c.concluded.ensures.facts ∙ (c.denied-2.ensures.facts ∙ (c.everywhere.ensures.facts ∙ (c.denied.ensures.facts ∙ c.instance.ensures.facts)))

pub returns-clause-gives : goal.returns-clause-gives
returns-clause-gives c = gives_as c.concluded.result c.concluded.new.log _ _ (ap (λ q. seq (set.remove q.hyps (neg (some c.args.ty.now (lambda c.args.ty.now (neg c.args.body.now))))) (some c.args.ty.now (lambda c.args.ty.now (neg c.args.body.now)))) (c.in_ok-against.ensures.gives.is ∙ ap denied_seq (c.in_ok-whole.ensures.gives.is ∙ ap (λ q. seq (set.remove q.hyps (neg (instantiated c.args.body.now (Free c.in_ok-n.n c.args.ty.now)))) (all c.args.ty.now (lambda c.args.ty.now c.args.body.now))) (c.in_ok-clash.ensures.gives.is ∙ ap denied_seq c.in_ok-one.ensures.gives.is))) ∙ ap (λ s. seq s (some c.args.ty.now (lambda c.args.ty.now (neg c.args.body.now)))) (failure_alone c.args.ty.now (lambda c.args.ty.now c.args.body.now) (lambda c.args.ty.now (neg c.args.body.now)) (neg (instantiated c.args.body.now (Free c.in_ok-n.n c.args.ty.now))))) c.concluded.ensures.gives
