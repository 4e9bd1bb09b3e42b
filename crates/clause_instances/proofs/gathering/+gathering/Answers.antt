use Rattle.tagged_terms.specs.Readings.{signs_of}
use Rattle.tagged_lines.specs.Tags.{term_variables}
use Rattle.clause_instances.proofs.Gathered.{gather_more, under_other, under_this, gathered_below}
use Rattle.std.proofs.Common.{◌∙◌}
use Rattle.clause_instances.proofs.gathering.+gathering.Goals as goal

pub gather-returns-in-None : goal.gather-returns-in-None
gather-returns-in-None t c =
    gathered_below (signs_of c.args.symbols.now) c.args.seen.now c.gather_all.new.seen c.args.t.now c.in-Fun.f c.in-Fun.args c.as_slice.result.now c.gather_all.result c.in-Fun.is c.as_slice.ensures
    (under_other (signs_of c.args.symbols.now) c.in-Fun.f c.in-Fun.args c.in-None.ensures) c.gather_all.ensures

pub gather-returns-in-None-only_variable : goal.gather-returns-in-None-only_variable
gather-returns-in-None-only_variable t c =
    gathered_below (signs_of c.args.symbols.now) c.args.seen.now c.gather_all-in-None-only_variable.new.seen c.args.t.now c.in-Fun.f c.in-Fun.args c.as_slice-in-None-only_variable.result.now c.gather_all-in-None-only_variable.result c.in-Fun.is
    c.as_slice-in-None-only_variable.ensures
    (under_this (signs_of c.args.symbols.now) c.in-Fun.f c.in-Some.s.now c.in-Fun.args c.in-Some.ensures (λ x e. c.in-None-only_variable.ensures x (c.as_slice-in-Some.ensures ∙ e)))
    c.gather_all-in-None-only_variable.ensures

pub gather_all-loop-t-preserved : goal.gather_all-loop-t-preserved
gather_all-loop-t-preserved t c =
    gather_more (term_variables (signs_of c.args.symbols.now)) c.args.seen.now c.loop-t.seen c.gather.new.seen c.args.terms.now c.loop-t.t-index c.t-item.result c.loop-t-test.true c.t-item.is c.loop-t.invariant c.in_ok-gather.ensures
