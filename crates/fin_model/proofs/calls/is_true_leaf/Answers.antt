use Rattle.std.proofs.Common.{sym, subst, List, ℕ, true, Ok}
use Rattle.std.specs.Prelude.{All}
use Rattle.kernel_rules.specs.declared.step.Step.{Step}
use Rattle.kernel_rules.specs.Derivations.{leaf}
use Rattle.model_truth.specs.Truth.{FactIsTrue}
use Rattle.fin_model.specs.Refutation.{Tells, facts_within}
use Rattle.fin_model.proofs.Telling.{one_tells, none_tells, no_leaf}
use Rattle.fin_model.proofs.calls.is_true_leaf.Goals as goal

pub is_true_fact-requires : goal.is_true_fact-requires
is_true_fact-requires c = c.requires

pub returns-in-Fact : goal.returns-in-Fact
returns-in-Fact c =
    subst (λ (s : Step). Tells (All (FactIsTrue c.args.env.now c.args.model.now) (leaf s)) (facts_within c.args.env.now c.args.model.now (leaf s)) c.is_true_fact.result) (sym c.in-Fact.is) (one_tells c.args.env.now c.args.model.now c.in-Fact.n c.is_true_fact.result c.is_true_fact.ensures)

pub returns-in_default : goal.returns-in_default
returns-in_default c =
    subst (λ (l : List ℕ). Tells (All (FactIsTrue c.args.env.now c.args.model.now) l) (facts_within c.args.env.now c.args.model.now l) (Ok true)) (sym (no_leaf c.args.step.now c.in_default.not-Fact)) (none_tells c.args.env.now c.args.model.now)
