use Rattle.std.proofs.Common.{◌+◌, ◌∙◌, ap, sym, subst, take}
use Rattle.std.specs.Prelude.{MatchBool}
use Rattle.mepo_filter.specs.inner.Tables.{weight_in}
use Rattle.mepo_filter.specs.inner.Steps.{Goes, Stops}
use Rattle.mepo_filter.proofs.Onward.{goes_on, stops_there}
use Rattle.mepo_filter.proofs.round.rounds.Goals as goal

pub returns-then-not-goes : goal.returns-then-not-goes
returns-then-not-goes g c =
    let weigh = weight_in c.args.weights.now in
    let none : Stops weigh c.args.flat.now (c.loop-done.done + 1) c.loop-done.state c.advance.new.state =
    subst (λ b. MatchBool b
    (Goes weigh c.args.slice.now c.args.flat.now (c.loop-done.done + 1) c.loop-done.state c.advance.new.state)
    (Stops weigh c.args.flat.now (c.loop-done.done + 1) c.loop-done.state c.advance.new.state)) c.if-not-goes.true c.in_ok-goes.ensures in
    c.cut-then-not-goes.ensures
    ∙ ap (take c.args.slice.now.facts) (sym (stops_there weigh c.args.slice.now c.args.flat.now c.args.count c.loop-done.done c.loop-done.state c.advance.new.state c.loop-done-test.true none))
    ∙ c.loop-done.invariant.rest

pub loop-done-preserved : goal.loop-done-preserved
loop-done-preserved g c =
    let weigh = weight_in c.args.weights.now in
    let more : Goes weigh c.args.slice.now c.args.flat.now (c.loop-done.done + 1) c.loop-done.state c.advance.new.state =
    subst (λ b. MatchBool b
    (Goes weigh c.args.slice.now c.args.flat.now (c.loop-done.done + 1) c.loop-done.state c.advance.new.state)
    (Stops weigh c.args.flat.now (c.loop-done.done + 1) c.loop-done.state c.advance.new.state)) c.if-not-goes.false c.in_ok-goes.ensures in
    record {
      ready = more.ready;
      rest = ap (take c.args.slice.now.facts) (sym (goes_on weigh c.args.slice.now c.args.flat.now c.args.count c.loop-done.done c.loop-done.state c.advance.new.state c.loop-done-test.true more))
          ∙ c.loop-done.invariant.rest;
    }
