use Rattle.std.proofs.Common.{◌≤◌, sym, subst, length}
use Rattle.theory_reader.proofs.Envs.{stands_behind, few_assumes}
use Rattle.theory_reader.proofs.theory.Theory.visible_named.Goals as goal

pub seen_place-requires-clause-assumes : goal.seen_place-requires-clause-assumes
seen_place-requires-clause-assumes c =
    few_assumes c.args.self.now.facts c.args.self.now.goals c.args.goal c.in-Some.stated.now c.args.self.now.limits_hold (sym c.in-Some.ensures.value)

pub seen_place-requires-clause-before : goal.seen_place-requires-clause-before
seen_place-requires-clause-before c =
    let behind = stands_behind c.args.self.now.facts c.args.self.now.goals c.args.goal c.in-Some.stated.now c.args.self.now.places_exist (sym c.in-Some.ensures.value) in
    subst (λ fs. c.in-Some.stated.now.before ≤ length fs) (sym c.as_slice.ensures) behind
