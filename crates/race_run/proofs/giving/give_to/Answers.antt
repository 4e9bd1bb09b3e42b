use Rattle.race_run.proofs.Outcomes.{kept-there}
use Rattle.race_run.proofs.Stepping.{reap-slots, settles-behind}
use Rattle.race_run.proofs.giving.give_to.Goals as goal

pub settle_as-requires-clause-right : goal.settle_as-requires-clause-right
settle_as-requires-clause-right g c κs within =
    rw c.reap.ensures.ends (kept-there (g.W.Work.answers g.N.Name.terms.key) _ c.args.judged.slot _ c.args.judged.outcome c.requires.right)

pub returns-clause-settled : goal.returns-clause-settled
returns-clause-settled g c none =
    let down = reap-slots c.args.board.now.race c.reap.new.self.race c.args.judged.slot c.reap.ensures.event.step in
    settles-behind c.args.judged.slot _ _ _ _ down.1 c.settle_as.ensures.slots
