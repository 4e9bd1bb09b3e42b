use Rattle.std.proofs.Common.{◌≤◌, sym, subst, length}
use Rattle.theory_reader.proofs.Envs.{stands_behind}
use Rattle.mepo_filter.proofs.gathering.gather.Goals as goal

pub gather_from-requires-clause-behind : goal.gather_from-requires-clause-behind
gather_from-requires-clause-behind c =
    subst (λ fs. c.at-stated.result.now.before ≤ length fs) (sym c.as_slice.ensures)
    (stands_behind c.args.theory.now.facts c.args.theory.now.goals c.args.goal c.at-stated.result.now c.args.theory.now.places_exist c.at-stated.ensures)
