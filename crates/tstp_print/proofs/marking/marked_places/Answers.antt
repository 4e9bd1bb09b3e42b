use Rattle.tstp_print.proofs.Places.{place_more}
use Rattle.tstp_print.proofs.marking.marked_places.Goals as goal

pub loop-n-preserved : goal.loop-n-preserved
loop-n-preserved c =
    place_more c.args.marks.now c.loop-n.n c.at.result.now c.loop-n.out c.push_if.new.out c.at.ensures c.loop-n.invariant c.in_ok-push_if.ensures
