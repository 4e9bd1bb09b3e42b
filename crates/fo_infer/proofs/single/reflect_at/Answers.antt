use Rattle.std.proofs.Common.{Some, ap, ◌∙◌}
use Rattle.fo_infer.proofs.Factorings.{no_equation, reflect_answer}
use Rattle.fo_infer.proofs.single.reflect_at.Goals as goal

pub returns-in-None : goal.returns-in-None
returns-in-None c = no_equation c.args.p.now c.args.i c.at.result.now c.at.ensures c.in-None.ensures

pub returns-in_ok-unifier-in-Some : goal.returns-in_ok-unifier-in-Some
returns-in_ok-unifier-in-Some c =
    reflect_answer c.args.p.now c.args.i c.in-Some.s.now c.in-Some.t.now (c.at.ensures ∙ ap Some c.in-Some.ensures) c.in_ok-unifier-in-Some.unifier c.in_ok-unifier-in-Some.ensures
