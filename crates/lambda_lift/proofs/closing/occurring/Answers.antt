use Rattle.std.proofs.Common.{◌∙◌, ap, map, false, ◌++◌}
use Rattle.lambda_lift.specs.Scopes.{scope_types}
use Rattle.lambda_lift.proofs.Occurring.{marked_blanks}
use Rattle.lambda_lift.proofs.closing.occurring.Goals as goal

pub returns-clause-marks : goal.returns-clause-marks
returns-clause-marks c = marked_blanks (scope_types c.args.scope.now) c.args.t.now c.put_blanks.new.out c.mark.new.marks (c.in_ok-put_blanks.ensures ∙ ap (λ l. l ++ map (λ a. false) (scope_types c.args.scope.now)) c.begin-marks.ensures) c.in_ok-mark.ensures
