use Rattle.std.proofs.Common.{◌∙◌}
use Rattle.fin_model.proofs.Found.{one_is_found}
use Rattle.fin_model.proofs.constants.one.Goals as goal

pub returns-in_default : goal.returns-in_default
returns-in_default c =
    c.told.ensures ∙ one_is_found c.args.model.now c.args.k.now c.args.count c.args.x c.sought.result c.first_digit.result c.requires.bools c.requires.count c.in_default.not-Not c.sought.ensures c.first_digit.ensures
