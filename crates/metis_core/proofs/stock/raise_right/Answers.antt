use Rattle.std.proofs.Common.{arith}
use Rattle.metis_core.proofs.Indexes.{clause_at}
use Rattle.metis_core.proofs.Raisings.{raised_at, raised_set}
use Rattle.metis_core.proofs.stock.raise_right.Goals as goal

pub raise-requires : goal.raise-requires
raise-requires c =
    let old = c.args.stock.now in
    raised_at old.lines old.raised.items c.args.right c.at.result.now.clause c.index_mut.result.now c.requires.right (clause_at old.lines c.args.right c.at.result.now c.at.ensures) c.index_mut.ensures.value c.requires.sound.raised

pub returns-clause-sound : goal.returns-clause-sound
returns-clause-sound c =
    let old = c.args.stock.now in
    let sound = c.requires.sound in
    record {
      index = sound.index;
      active = sound.active;
      waiting = sound.waiting;
      parted = sound.parted;
      marks = sound.marks;
      ready = sound.ready;
      reach = sound.reach;
      raised = raised_set old.lines old.raised.items c.args.right c.at.result.now.clause c.raise.new.all (omega (arith, c.requires.right, sound.raised.as_many)) (clause_at old.lines c.args.right c.at.result.now c.at.ensures) c.in_ok-raise.ensures sound.raised;
      few = sound.few;
    }
