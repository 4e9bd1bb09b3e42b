use Rattle.std.proofs.Common.{◌++◌, IsTrue, subst, sym, take}
use Rattle.theory_reader.specs.Names.{distinct}
use Rattle.theory_reader.specs.Sound.{fact_names}
use Rattle.theory_reader.proofs.SeenNames as pieces
use Rattle.theory_reader.proofs.seen.names_beside.Goals as goal

pub add_facts-requires : goal.add_facts-requires
add_facts-requires c =
    let front = fact_names (take c.args.goal.now.before c.args.facts.now) in
    let all = subst (λ ns. IsTrue (distinct ns)) (pieces.seen_parts c.args.facts.now c.args.goal.now) c.requires.differ in
    subst (λ ns. IsTrue (distinct (ns ++ front))) (sym c.begin-names.ensures) (pieces.distinct_front front (fact_names c.args.goal.now.assumes) all)
