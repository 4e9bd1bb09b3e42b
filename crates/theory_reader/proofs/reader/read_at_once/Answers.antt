use Rattle.std.proofs.Common.{subst, sym}
use Rattle.theory_reader.specs.Reading.{ReadsItems}
use Rattle.theory_reader.proofs.Answered.{answered}
use Rattle.theory_reader.proofs.reader.read_at_once.Goals as goal

pub returns-in-Ok : goal.returns-in-Ok
returns-in-Ok c =
    answered c.args.text.now c.as_slice.result.now (subst (ReadsItems c.args.text.now) (sym c.as_slice.ensures) c.in-Ok.ensures) c.declared.result c.declared.ensures
