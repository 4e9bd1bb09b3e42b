use Rattle.std.proofs.Common.{◌∙◌, sym}
use Rattle.fin_model.proofs.Telling.{none_given}
use Rattle.logic_tests.proofs.models.evaluated.Goals as goal

pub eval-requires-clause-free : goal.eval-requires-clause-free
eval-requires-clause-free c =
    none_given c.args.sig.now c.args.model.now c.begin-free.result c.args.t.now (sym c.fits_model.ensures ∙ c.if-not-fits_model.false) c.begin-free.ensures
