use Rattle.std.proofs.Common.{◌∙◌, ap, arith, ◌<◌, length}
use Rattle.theory_terms.specs.Words.{place}
use Rattle.theory_reader.proofs.SeenNames as pieces
use Rattle.theory_reader.proofs.seen.add_facts.Goals as goal

pub add-requires : goal.add-requires
add-requires c =
    let less : c.loop-fact.fact-index < length c.args.facts.now = omega arith in
    ap (λ w. place w c.loop-fact.names) c.as_slice.ensures ∙ ap (λ ns. place c.fact-item.result.name ns) c.loop-fact.invariant ∙
    pieces.fresh_named (λ f. f.name) c.args.names.now c.args.facts.now c.loop-fact.fact-index c.fact-item.result c.requires less c.fact-item.is
