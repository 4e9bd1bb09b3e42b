use Rattle.std.proofs.Common.{◌≡◌, length, Some, sym, ◌∙◌, ap, subst}
use Rattle.kernel_rules.specs.Derivations.{derived}
use Rattle.kernel_rules.proofs.OverSignature.{derived_over}
use Rattle.hol_kernel.proofs.Following.{as_many}
use Rattle.hol_kernel.proofs.log.Log.len.Goals as goal

pub returns-clause-count : goal.returns-clause-count
returns-clause-count c = c.len.ensures ∙ ap (λ l. length l.steps) c.self.view_is

pub returns-clause-theorems : goal.returns-clause-theorems
returns-clause-theorems c = c.len.ensures ∙ sym (as_many c.self.inside.env.now c.self.inside.steps c.self.inside.sequents c.self.invariant) ∙ ap (λ l. length l.sequents) c.self.view_is

pub returns-clause-follows : goal.returns-clause-follows
returns-clause-follows c = subst (λ l. derived l.env l.steps ≡ Some l.sequents) c.self.view_is c.self.invariant

pub returns-clause-formulas : goal.returns-clause-formulas
returns-clause-formulas c = derived_over c.args.self.now.env c.args.self.now.steps c.args.self.now.sequents (subst (λ l. derived l.env l.steps ≡ Some l.sequents) c.self.view_is c.self.invariant)
