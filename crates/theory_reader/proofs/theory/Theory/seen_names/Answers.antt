use Rattle.std.proofs.Common.{◌≤◌, IsTrue, subst, sym, length}
use Rattle.theory_reader.specs.Names.{distinct}
use Rattle.theory_reader.specs.Sound.{fact_names, seen_from}
use Rattle.theory_reader.proofs.Envs.{stands_behind}
use Rattle.theory_reader.proofs.SeenNames.{seen_differ}
use Rattle.theory_reader.proofs.theory.Theory.seen_names.Goals as goal

pub names_beside-requires-clause-differ : goal.names_beside-requires-clause-differ
names_beside-requires-clause-differ c =
    let t = c.args.self.now in
    subst (λ fs. IsTrue (distinct (fact_names (seen_from fs c.at.result.now)))) (sym c.as_slice.ensures)
    (seen_differ t.types t.consts t.facts t.goals c.args.goal c.at.result.now t.names_differ c.at.ensures)

pub names_beside-requires-clause-behind : goal.names_beside-requires-clause-behind
names_beside-requires-clause-behind c =
    let behind = stands_behind c.args.self.now.facts c.args.self.now.goals c.args.goal c.at.result.now c.args.self.now.places_exist c.at.ensures in
    subst (λ fs. c.at.result.now.before ≤ length fs) (sym c.as_slice.ensures) behind
