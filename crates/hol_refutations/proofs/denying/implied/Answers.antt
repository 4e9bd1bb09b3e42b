use Rattle.std.proofs.Common.{◌∙◌, ap}
use Rattle.std.specs.FinSet as set
use Rattle.kernel_rules.specs.Connectives.{imp}
use Rattle.kernel_rules.specs.Rules.{seq}
use Rattle.hol_kernel.proofs.Growing.{extends_trans}
use Rattle.hol_kernel.proofs.Making.{err_free}
use Rattle.hol_derived.proofs.Cuts.{gives_as}
use Rattle.hol_derived.proofs.Splits.{formula_stays}
use Rattle.hol_refutations.proofs.denying.implied.Goals as goal

pub classical-requires-clause-t : goal.classical-requires-clause-t
classical-requires-clause-t c = c.requires.b

pub classical-requires-clause-a : goal.classical-requires-clause-a
classical-requires-clause-a c = c.requires.th

pub classical-requires-clause-fits : goal.classical-requires-clause-fits
classical-requires-clause-fits c = c.requires.refuted

pub imp_intro-requires-clause-t : goal.imp_intro-requires-clause-t
imp_intro-requires-clause-t c = formula_stays c.args.log.now c.classical.new.self c.args.a.now c.classical.ensures.kept c.requires.a

pub imp_intro-requires-clause-a : goal.imp_intro-requires-clause-a
imp_intro-requires-clause-a c = c.in_ok-then.ensures.gives.is_thm

pub returns-in_err-then-clause-kept : goal.returns-in_err-then-clause-kept
returns-in_err-then-clause-kept c = c.classical.ensures.kept

pub returns-in_err-then-clause-facts : goal.returns-in_err-then-clause-facts
returns-in_err-then-clause-facts c = c.classical.ensures.facts

pub returns-in_err-then-clause-gives : goal.returns-in_err-then-clause-gives
returns-in_err-then-clause-gives c = err_free c.from_residual.result _ c.from_residual.ensures.0

pub returns-clause-kept : goal.returns-clause-kept
returns-clause-kept c = extends_trans _ _ _ c.classical.ensures.kept c.imp_intro.ensures.kept

pub returns-clause-facts : goal.returns-clause-facts
returns-clause-facts c = c.imp_intro.ensures.facts ∙ c.classical.ensures.facts

pub returns-clause-gives : goal.returns-clause-gives
returns-clause-gives c = gives_as c.imp_intro.result c.imp_intro.new.self _ _ (ap (λ q. seq (set.remove q.hyps c.args.a.now) (imp c.args.a.now q.concl)) c.in_ok-then.ensures.gives.is) c.imp_intro.ensures.gives
