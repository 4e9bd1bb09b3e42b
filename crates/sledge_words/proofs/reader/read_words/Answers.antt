use Rattle.std.proofs.Common.{◌≡◌, ◌∙◌, map, drop, string_bytes, sym, ap}
use Rattle.std.specs.Prelude.{Some, slice_get}
use Rattle.std.specs.Option.{option_map, option_and_then}
use Rattle.sledge_words.specs.Options.{command_of}
use Rattle.sledge_words.specs.Pieces.{Before, parts_from}
use Rattle.sledge_words.specs.inner.Split.{parts_of}
use Rattle.sledge_words.proofs.Whole.{whole, unfit}
use Rattle.sledge_words.proofs.reader.read_words.Goals as goal

pub returns-in-None-values : goal.returns-in-None-values
returns-in-None-values c = λ _ l h.
    let words = map string_bytes c.args.words.now in
    let named : option_and_then command_of (slice_get words 0) ≡ Some c.in-Some.command = sym c.in-Some.ensures in
    let cut : parts_from (drop 1 words) 1 Before ≡ Some (parts_of c.in-Some-2.parts) =
    ap (λ l. parts_from l 1 Before) (sym c.behind_first.ensures) ∙ sym c.in_ok-parts_of_words-in-Some.ensures ∙ ap (option_map parts_of) c.in-Some-2.is in
    unfit words c.in-Some.command (parts_of c.in-Some-2.parts) l named cut c.in-None-values.ensures h

pub returns-in_ok-line-in-Some-values : goal.returns-in_ok-line-in-Some-values
returns-in_ok-line-in-Some-values c =
    let words = map string_bytes c.args.words.now in
    let named : option_and_then command_of (slice_get words 0) ≡ Some c.in-Some.command = sym c.in-Some.ensures in
    let cut : parts_from (drop 1 words) 1 Before ≡ Some (parts_of c.in-Some-2.parts) =
    ap (λ l. parts_from l 1 Before) (sym c.behind_first.ensures) ∙ sym c.in_ok-parts_of_words-in-Some.ensures ∙ ap (option_map parts_of) c.in-Some-2.is in
    whole words c.in-Some.command (parts_of c.in-Some-2.parts) c.in-Some-values.number c.in-Some-values.values c.in_ok-line-in-Some-values.field-0 named cut
    c.in-Some-values.ensures c.in_ok-line-in-Some-values.ensures
