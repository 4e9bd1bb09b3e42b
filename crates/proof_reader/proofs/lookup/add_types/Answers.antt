use Rattle.std.proofs.Common.{◌∙◌, ap, arith, ◌<◌, length}
use Rattle.theory_terms.specs.Words.{place}
use Rattle.proof_reader.proofs.NamePieces as pieces
use Rattle.proof_reader.proofs.lookup.add_types.Goals as goal

pub add-requires : goal.add-requires
add-requires c =
    let less : c.loop-name.name-index < length c.args.types.now = omega arith in
    ap (λ w. place w c.loop-name.names) c.as_slice.ensures ∙ ap (λ ns. place c.name-item.result ns) c.loop-name.invariant ∙
    pieces.fresh_type c.args.names.now c.args.types.now c.loop-name.name-index c.name-item.result c.requires less c.name-item.is
