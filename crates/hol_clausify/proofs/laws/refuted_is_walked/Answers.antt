use Rattle.hol_clausify.proofs.Quantifying.{refuted_is_walked}
use Rattle.hol_clausify.proofs.laws.refuted_is_walked.Goals as goal

pub returns : goal.returns
returns c = refuted_is_walked c.args.f.now c.args.positive c.args.types.now c.args.next c.args.table.now c.args.scope.now c.args.more.now
