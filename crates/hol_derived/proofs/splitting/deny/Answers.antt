use Rattle.std.proofs.Common.{refl, ap}
use Rattle.hyp_sets.specs.Sets.{only}
use Rattle.kernel_rules.specs.Rules.{seq}
use Rattle.hol_kernel.proofs.Growing.{extends_refl}
use Rattle.hol_kernel.proofs.Making.{err_free}
use Rattle.hol_derived.proofs.Cuts.{gives_as}
use Rattle.hol_derived.proofs.Splits.{denial_formula}
use Rattle.hol_derived.proofs.splitting.deny.Goals as goal

pub returns-in_err-against-clause-kept : goal.returns-in_err-against-clause-kept
returns-in_err-against-clause-kept c = extends_refl c.args.log.now

pub returns-in_err-against-clause-gives : goal.returns-in_err-against-clause-gives
returns-in_err-against-clause-gives c = err_free c.from_residual.result _ c.from_residual.ensures.0

pub assume_own-requires : goal.assume_own-requires
assume_own-requires c = denial_formula c.args.log.now c.args.p.now c.in_ok-against.against c.in_ok-against.ensures c.requires

pub returns-clause-kept : goal.returns-clause-kept
returns-clause-kept c = c.assume_own.ensures.kept

pub returns-clause-gives : goal.returns-clause-gives
returns-clause-gives c = gives_as c.assume_own.result c.assume_own.new.self _ _ (ap (λ t. seq (only t) t) c.in_ok-against.ensures) c.assume_own.ensures.gives

pub returns-in_err-against-clause-facts : goal.returns-in_err-against-clause-facts
returns-in_err-against-clause-facts c = refl

pub returns-clause-facts : goal.returns-clause-facts
returns-clause-facts c = c.assume_own.ensures.facts
