use Rattle.std.proofs.Common.{◌∙◌, ap}
use Rattle.std.specs.FinSet as set
use Rattle.hyp_sets.specs.Sets.{only}
use Rattle.kernel_rules.specs.Connectives.{neg, equal}
use Rattle.kernel_rules.specs.Rules.{seq}
use Rattle.hol_kernel.specs.Logs.{thm}
use Rattle.hol_kernel.proofs.Growing.{extends_trans, thm_stays}
use Rattle.hol_kernel.proofs.Making.{err_free}
use Rattle.hol_derived.proofs.Cuts.{gives_as}
use Rattle.hol_derived.proofs.Splits.{formula_stays}
use Rattle.hol_terms.specs.Types.{bool_ty}
use Rattle.hol_refutations.proofs.Steps.{gives_is, cut_is}
use Rattle.hol_refutations.proofs.equality.equal_first.Goals as goal

pub classical-requires-clause-t : goal.classical-requires-clause-t
classical-requires-clause-t c = c.requires.a

pub classical-requires-clause-a : goal.classical-requires-clause-a
classical-requires-clause-a c = c.requires.left

pub classical-requires-clause-fits : goal.classical-requires-clause-fits
classical-requires-clause-fits c = c.requires.left_false

pub carried-requires-clause-whole : goal.carried-requires-clause-whole
carried-requires-clause-whole c = formula_stays c.args.log.now c.classical.new.self (equal bool_ty c.args.a.now c.args.b.now) c.classical.ensures.kept c.requires.whole

pub carried-requires-clause-th : goal.carried-requires-clause-th
carried-requires-clause-th c = c.in_ok-held.ensures.gives.is_thm

pub carried-requires-clause-is : goal.carried-requires-clause-is
carried-requires-clause-is c = ap (λ q. q.concl) c.in_ok-held.ensures.gives.is

pub cut-requires-clause-a : goal.cut-requires-clause-a
cut-requires-clause-a c = c.in_ok-there.ensures.gives.is_thm

pub cut-requires-clause-c : goal.cut-requires-clause-c
cut-requires-clause-c c = thm_stays _ _ _ (extends_trans _ _ _ c.classical.ensures.kept c.carried.ensures.kept) c.requires.right

pub returns-in_err-held-clause-kept : goal.returns-in_err-held-clause-kept
returns-in_err-held-clause-kept c = c.classical.ensures.kept

pub returns-in_err-held-clause-facts : goal.returns-in_err-held-clause-facts
returns-in_err-held-clause-facts c = c.classical.ensures.facts

pub returns-in_err-held-clause-gives : goal.returns-in_err-held-clause-gives
returns-in_err-held-clause-gives c = err_free c.from_residual.result _ c.from_residual.ensures.0

pub returns-in_err-there-clause-kept : goal.returns-in_err-there-clause-kept
returns-in_err-there-clause-kept c = extends_trans _ _ _ c.classical.ensures.kept c.carried.ensures.kept

pub returns-in_err-there-clause-facts : goal.returns-in_err-there-clause-facts
returns-in_err-there-clause-facts c = c.carried.ensures.facts ∙ c.classical.ensures.facts

pub returns-in_err-there-clause-gives : goal.returns-in_err-there-clause-gives
returns-in_err-there-clause-gives c = err_free c.from_residual-in_err-there.result _ c.from_residual-in_err-there.ensures.0

pub returns-clause-kept : goal.returns-clause-kept
returns-clause-kept c = extends_trans _ _ _ (extends_trans _ _ _ c.classical.ensures.kept c.carried.ensures.kept) c.cut.ensures.kept

pub returns-clause-facts : goal.returns-clause-facts
returns-clause-facts c = c.cut.ensures.facts ∙ (c.carried.ensures.facts ∙ c.classical.ensures.facts)

pub returns-clause-gives : goal.returns-clause-gives
returns-clause-gives c = gives_as c.cut.result c.cut.new.log _ _ (cut_is c.args.log.now c.carried.new.log c.in_ok-there.there.0 c.args.right.0 (set.union (only (equal bool_ty c.args.a.now c.args.b.now)) (set.remove (thm c.args.log.now c.args.left.0).hyps (neg c.args.a.now))) c.args.b.now (gives_is _ _ _ _ c.in_ok-there.ensures.gives (ap (λ q. seq (set.union (only (equal bool_ty c.args.a.now c.args.b.now)) q.hyps) c.args.b.now) c.in_ok-held.ensures.gives.is)) (extends_trans _ _ _ c.classical.ensures.kept c.carried.ensures.kept) c.requires.right c.requires.right_false) c.cut.ensures.gives
