use Rattle.std.proofs.Common.{◌∙◌, ◌&&◌, [], sym, ap}
use Rattle.std.proofs.lemmas.Result.{IfOk-weaker}
use Rattle.lambda_lift.specs.Lifting.{lifted}
use Rattle.formula_clauses.specs.Fits.{fits, walk_fits}
use Rattle.formula_clauses.proofs.fitting.fits.Goals as goal

pub returns-then-not-has_at_most : goal.returns-then-not-has_at_most
unfolding fits
returns-then-not-has_at_most c = ap (λ b. b && walk_fits c.args.goal (lifted c.args.sig.now [] c.args.formula.now)) c.if-not-has_at_most.ensures

pub returns : goal.returns
unfolding fits
returns c =
    let start = ap (λ table. lifted c.args.sig.now table c.args.formula.now) (sym c.begin-table.ensures) in
    IfOk-weaker c.fits_lifted.result _ _
    (λ b e. e ∙ sym (ap (λ l. walk_fits c.args.goal l) (start ∙ c.in_ok-lifted.ensures))
    ∙ ap (λ h. h && walk_fits c.args.goal (lifted c.args.sig.now [] c.args.formula.now)) c.if-not-has_at_most.ensures)
    c.fits_lifted.ensures
