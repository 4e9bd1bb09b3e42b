use Rattle.std.proofs.Common.{◌≡◌, Some, ap, subst}
use Rattle.kernel_rules.specs.Derivations.{derived}
use Rattle.hol_kernel.proofs.log.Log.into_steps.Goals as goal

pub returns-clause-value : goal.returns-clause-value
returns-clause-value c = ap (λ l. l.steps) c.self.view_is

pub returns-clause-follows : goal.returns-clause-follows
returns-clause-follows c = subst (λ l. derived l.env c.self.inside.steps ≡ Some l.sequents) c.self.view_is c.self.invariant
