use Rattle.std.proofs.Common.{◌≡◌, drop, map, string_bytes}
use Rattle.sledge_words.specs.Pieces.{Before, parts_from}
use Rattle.sledge_words.specs.inner.Split.{parts_of, standing_of, behind}
use Rattle.sledge_words.proofs.pieces.parts_of_words.Given as goal

abbrev pub invariant-loop-word : goal.invariant-loop-word
invariant-loop-word l =
    behind (parts_of l.parts) (parts_from (map string_bytes (drop l.word-index l.words)) l.place (standing_of l.standing)) ≡ parts_from (map string_bytes l.words) 1 Before
