use Rattle.std.proofs.Common.{◌≡◌, ◌==◌, ◌<◌, ◌∙◌, false, length, sym, ap, arith}
use Rattle.std.specs.List.{list_any, position_or_len}
use Rattle.std.specs.Prelude.{None}
use Rattle.std.proofs.lemmas.Str.Pattern.{split_once_first}
use Rattle.sledge_words.specs.Options.{flag_of}
use Rattle.sledge_words.specs.Pieces.{opened}
use Rattle.sledge_words.proofs.Splits.{none_passes, said_option}
use Rattle.sledge_words.proofs.pieces.word_said.Goals as goal

pub returns-in-None : goal.returns-in-None
returns-in-None c =
    let word = c.args.word.now in
    let ascii : 61 < 128 = omega arith in
    let none : list_any (λ b. b == 61) word ≡ false = none_passes (λ b. b == 61) word (split_once_first 61 word None c.in-None.ensures.cases ascii) in
    c.opened.ensures ∙ ap opened (c.flag_of-in-None.ensures ∙ ap flag_of c.as_bytes-in-None.ensures.value) ∙
    sym (said_option word (sym c.if-is_plain.ensures) (sym c.if-eq.ensures) none)
