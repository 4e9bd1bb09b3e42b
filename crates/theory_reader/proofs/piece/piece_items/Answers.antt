use Rattle.std.proofs.Common.{◌≡◌, List, length, map, refl, sym, ap, subst, ◌∙◌}
use Rattle.std.specs.List.{All}
use Rattle.text_kit.specs.Tokens.{IsWithin}
use Rattle.theory_syntax.specs.declared.tokens.Tok.{Tok}
use Rattle.theory_syntax.specs.Reading as syntax
use Rattle.theory_reader.specs.Toks.{toks_of}
use Rattle.theory_reader.specs.inner.Pieces.{moved, StandsApart}
use Rattle.theory_reader.proofs.Apart.{piece_cuts, stands_within, within_moved}
use Rattle.theory_reader.proofs.piece.piece_items.Goals as goal

pub toks-requires : goal.toks-requires
toks-requires c =
    let text = c.args.text.now in
    let piece = c.part-piece.result.now in
    let same : c.as_slice-3.result.now ≡ map (moved c.args.from) c.in_ok-cut.cut =
    c.as_slice-3.ensures ∙ c.in_ok-cut-2.ensures ∙ ap (map (moved c.args.from)) c.as_slice-2.ensures in
    subst (All (IsWithin (length text))) (sym same)
    (within_moved c.args.from (length piece) (length text) c.in_ok-cut.cut
    (stands_within text c.args.from c.args.to c.requires.from c.requires.to piece c.part-piece.ensures) c.in_ok-cut.ensures.within)

pub returns : goal.returns
returns c =
    let text = c.args.text.now in
    let piece = c.part-piece.result.now in
    let cut = c.in_ok-cut.cut in
    let same : c.as_slice-3.result.now ≡ map (moved c.args.from) cut =
    c.as_slice-3.ensures ∙ c.in_ok-cut-2.ensures ∙ ap (map (moved c.args.from)) c.as_slice-2.ensures in
    let said : c.as_slice-4.result.now ≡ toks_of text (map (moved c.args.from) cut) = c.as_slice-4.ensures ∙ c.in_ok-said.ensures ∙ ap (toks_of text) same in
    let apart : StandsApart (length text) c.args.to piece cut = subst (StandsApart (length text) c.args.to piece) c.as_slice.ensures (c.if-not-stands_apart.ensures refl) in record {
      tokens = map (moved c.args.from) cut;
      cut = piece_cuts text c.args.from c.args.to c.requires.from c.requires.to piece c.part-piece.ensures cut c.in_ok-cut.ensures.cut apart;
      derived = subst (λ (ts : List Tok). syntax.Reads 256 ts c.in_ok-read.field-0) said c.in_ok-read.ensures.found;
    }
