use Rattle.hol_kernel.proofs.Growing.{extends_trans}
use Rattle.goal_proofs.proofs.Lifted.{inputs_refute}
use Rattle.goal_proofs.proofs.refuting.refute.Goals as goal

pub refuted-requires-clause-refutes : goal.refuted-requires-clause-refutes
refuted-requires-clause-refutes c =
    inputs_refute c.args.log.now.env c.sources.new.log.env c.args.facts.now c.in_ok-sourced.sourced.listing c.args.r.now.lines c.sources.ensures.kept.env c.in_ok-sourced.ensures.listing c.requires.refutes

pub returns-clause-kept : goal.returns-clause-kept
returns-clause-kept c = extends_trans c.args.log.now c.sources.new.log c.refuted.new.log c.sources.ensures.kept c.refuted.ensures.kept
