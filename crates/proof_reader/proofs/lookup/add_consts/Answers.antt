use Rattle.std.proofs.Common.{◌∙◌, ap, arith, ◌<◌, length}
use Rattle.theory_terms.specs.Words.{place}
use Rattle.theory_reader.proofs.SeenNames as pieces
use Rattle.proof_reader.proofs.lookup.add_consts.Goals as goal

pub add-requires : goal.add-requires
add-requires c =
    let less : c.loop-decl.decl-index < length c.args.consts.now = omega arith in
    ap (λ w. place w c.loop-decl.names) c.as_slice.ensures ∙ ap (λ ns. place c.decl-item.result.name ns) c.loop-decl.invariant ∙
    pieces.fresh_named (λ d. d.name) c.args.names.now c.args.consts.now c.loop-decl.decl-index c.decl-item.result c.requires less c.decl-item.is
