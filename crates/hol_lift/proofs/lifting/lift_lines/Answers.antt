use Rattle.std.proofs.Common.{Some, ap, ◌∙◌}
use Rattle.tagged_terms.specs.Readings.{signs_of}
use Rattle.hol_lift.proofs.Upto.{upto_ready, upto_step}
use Rattle.hol_lift.proofs.lifting.lift_lines.Goals as goal

pub lift_wanted-requires-clause-ready : goal.lift_wanted-requires-clause-ready
lift_wanted-requires-clause-ready c = λ h. (c.args.log.now, upto_ready c.args.log.now (signs_of c.args.symbols.now) c.args.clauses.now c.args.thms.now c.args.lines.now c.args.marks.now c.loop-k.log c.loop-k.made c.loop-k.k c.at.result.now c.loop-k.invariant c.requires.inputs c.requires.follow c.requires.marks c.at.ensures (c.at-in-loop-k.ensures ∙ ap Some h))

pub loop-k-preserved : goal.loop-k-preserved
loop-k-preserved c = upto_step c.args.log.now (signs_of c.args.symbols.now) c.args.clauses.now c.args.thms.now c.args.lines.now c.args.marks.now c.loop-k.log c.lift_wanted.new.log c.loop-k.made c.push.new.self c.loop-k.k c.at.result.now c.at-in-loop-k.result.now c.in_ok-th.th c.loop-k.invariant c.lift_wanted.ensures.kept c.lift_wanted.ensures.facts c.requires.inputs c.requires.follow c.requires.marks c.at.ensures c.at-in-loop-k.ensures c.in_ok-push.ensures.ok c.in_ok-th.ensures.gives
