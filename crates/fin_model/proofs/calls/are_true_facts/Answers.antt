use Rattle.std.proofs.Common.{◌+◌, ◌∷◌, [], drop, get_or, sym, subst, arith, Bool}
use Rattle.std.specs.Prelude.{All}
use Rattle.model_truth.specs.Truth.{FactIsTrue}
use Rattle.fin_model.specs.Refutation.{facts_within}
use Rattle.fin_model.proofs.Telling.{SoFar, begun, gone_on, gone_wrong, at_end, facts_next, left_nothing, one_tells, err_tells, refused}
use Rattle.std.proofs.Common.{Ok, Err}
use Rattle.fin_model.proofs.calls.are_true_facts.Goals as goal

pub loop-n-init : goal.loop-n-init
loop-n-init c = begun c.args.env.now c.args.model.now c.args.facts.now

pub is_true_fact-requires : goal.is_true_fact-requires
is_true_fact-requires c = c.requires

pub returns-in_err-own : goal.returns-in_err-own
returns-in_err-own c =
    err_tells (All (FactIsTrue c.args.env.now c.args.model.now) c.args.facts.now) (facts_within c.args.env.now c.args.model.now c.args.facts.now) c.from_residual.result c.in_err-own.field-0.0 c.from_residual.ensures.1
    (refused (All (FactIsTrue c.args.env.now c.args.model.now) (get_or c.args.facts.now c.loop-n.n-index 0 ∷ [])) (All (FactIsTrue c.args.env.now c.args.model.now) c.args.facts.now) (facts_within c.args.env.now c.args.model.now (get_or c.args.facts.now c.loop-n.n-index 0 ∷ [])) (facts_within c.args.env.now c.args.model.now c.args.facts.now) c.in_err-own.field-0.0
    (gone_wrong c.args.env.now c.args.model.now c.loop-n.all (get_or c.args.facts.now c.loop-n.n-index 0 ∷ []) (drop (c.loop-n.n-index + 1) c.args.facts.now) c.args.facts.now
    (facts_next c.args.env.now c.args.model.now c.loop-n.all c.args.facts.now c.args.facts.now c.loop-n.n-index c.loop-n.invariant c.loop-n-test.true))
    (one_tells c.args.env.now c.args.model.now (get_or c.args.facts.now c.loop-n.n-index 0) (Err c.in_err-own.field-0.0) c.in_err-own.ensures))

pub loop-n-preserved : goal.loop-n-preserved
loop-n-preserved c =
    subst (λ (b : Bool). SoFar c.args.env.now c.args.model.now b (drop (c.loop-n.n-index + 1) c.args.facts.now) c.args.facts.now) (sym c.both-all.ensures)
    (gone_on c.args.env.now c.args.model.now c.loop-n.all c.in_ok-own.own (get_or c.args.facts.now c.loop-n.n-index 0 ∷ []) (drop (c.loop-n.n-index + 1) c.args.facts.now) c.args.facts.now
    (facts_next c.args.env.now c.args.model.now c.loop-n.all c.args.facts.now c.args.facts.now c.loop-n.n-index c.loop-n.invariant c.loop-n-test.true)
    (one_tells c.args.env.now c.args.model.now (get_or c.args.facts.now c.loop-n.n-index 0) (Ok c.in_ok-own.own) c.in_ok-own.ensures))

pub returns : goal.returns
returns c = at_end c.args.env.now c.args.model.now c.loop-n.all (drop c.loop-n.n-index c.args.facts.now) c.args.facts.now (left_nothing c.args.env.now c.args.model.now c.args.facts.now c.loop-n.n-index (omega arith)) c.loop-n.invariant
