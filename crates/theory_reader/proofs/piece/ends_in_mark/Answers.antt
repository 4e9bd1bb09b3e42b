use Rattle.std.proofs.Common.{◌-◌, length, refl, sym}
use Rattle.theory_reader.proofs.Apart.{mark_at}
use Rattle.theory_reader.proofs.piece.ends_in_mark.Goals as goal

pub returns-in-Mark : goal.returns-in-Mark
returns-in-Mark c = λ t.
    mark_at c.args.end c.args.cut.now (length c.args.cut.now - 1) c.in-Some.last.now refl (sym c.in-Some.ensures.value) (c.ends_at.ensures t) c.in-Mark.is
