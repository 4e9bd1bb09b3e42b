use Rattle.std.proofs.Common.{◌∙◌}
use Rattle.sledge_engine.proofs.Fitted.{few_facts, visible_by}
use Rattle.sledge_engine.proofs.preparing.plan_race.Goals as goal

pub visible_facts-requires : goal.visible_facts-requires
visible_facts-requires g c = few_facts c.args.theory.now c.args.goal c.args.env.now c.requires.env

pub plan_slots-requires-clause-visible : goal.plan_slots-requires-clause-visible
plan_slots-requires-clause-visible g c κs within = c.in_ok-visible.ensures ∙ visible_by c.args.theory.now c.args.goal c.args.env.now c.requires.env

pub returns : goal.returns
returns g c = record { visible_are = c.in_ok-visible.ensures ∙ visible_by c.args.theory.now c.args.goal c.args.env.now c.requires.env; plan = c.in_ok-plan.ensures }
