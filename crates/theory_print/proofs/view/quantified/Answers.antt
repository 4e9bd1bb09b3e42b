use Rattle.std.proofs.Common.{sym, ap, ◌∙◌}
use Rattle.theory_print.specs.Shapes.{part_of}
use Rattle.theory_print.specs.Views.{bind_whole}
use Rattle.theory_print.proofs.Forms.{bind_application}
use Rattle.theory_print.proofs.view.quantified.Goals as goal

pub returns-in-App-clause-shape : goal.returns-in-App-clause-shape
returns-in-App-clause-shape c = sym (ap (λ t. bind_whole c.args.q (part_of t)) c.in-App.is ∙ bind_application c.args.q _ _)
