use Rattle.std.proofs.Common.{arith}
use Rattle.metis_core.proofs.Parted.{only_one, written}
use Rattle.metis_core.proofs.units.as_unit.Goals as goal

pub returns : goal.returns
returns c = (
  c.at.result.now,
  written c.write.new.out c.at.result.now (omega (arith, c.len-2.ensures, c.if-len-ne1-2.false)) c.in_ok-write.ensures,
  only_one c.args.clause.now.literals c.at.result.now (omega (arith, c.len.ensures, c.if-len-ne1.false)) c.at.ensures,
)
