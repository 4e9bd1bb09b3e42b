use Rattle.std.proofs.Common.{◌∙◌}
use Rattle.tstp_print.proofs.vocabulary.has.Goals as goal

pub returns : goal.returns
returns c = λ names h. c.contains_key.ensures ∙ h c.args.name.now
