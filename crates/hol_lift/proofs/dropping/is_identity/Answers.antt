use Rattle.std.proofs.Common.{sym, ◌∙◌}
use Rattle.kernel_rules.specs.Connectives.{is_equal}
use Rattle.hol_terms.proofs.Both.{true_or_false}
use Rattle.hol_lift.proofs.Identities.{identity_from, identity_equal, identity_sides}
use Rattle.hol_lift.proofs.dropping.is_identity.Goals as goal

pub returns-then-not-is_equation : goal.returns-then-not-is_equation
returns-then-not-is_equation c = (λ h. absurd cc, λ h. absurd (true_or_false (is_equal c.args.t.now) (identity_equal c.args.t.now h) (sym c.is_equation.ensures ∙ c.if-not-is_equation.true)))

pub returns : goal.returns
returns c = (
  λ h. identity_from c.args.t.now c.left.result.now c.right.result.now (sym c.is_equation.ensures ∙ c.if-not-is_equation.false) c.left.ensures c.right.ensures (c.same.ensures.0 h),
  λ h. c.same.ensures.1 (identity_sides c.args.t.now c.left.result.now c.right.result.now c.left.ensures c.right.ensures h),
)
