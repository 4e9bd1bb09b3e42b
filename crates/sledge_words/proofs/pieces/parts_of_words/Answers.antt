use Rattle.std.proofs.Common.{◌≡◌, subst}
use Rattle.sledge_words.specs.inner.Split.{parts_of, standing_of, Reads}
use Rattle.sledge_words.proofs.Splits.{goes_on}
use Rattle.sledge_words.proofs.pieces.parts_of_words.Goals as goal

pub loop-word-preserved : goal.loop-word-preserved
loop-word-preserved c =
    let reads = subst (Reads (parts_of c.loop-word.parts) (parts_of c.read_word.new.parts) (standing_of c.loop-word.standing) c.loop-word.place c.as_str.result.now)
    c.in-Some.is c.in_ok-read_word.ensures in
    goes_on c.args.words.now c.loop-word.word-index c.word-item.result c.as_str.result.now (parts_of c.loop-word.parts) (standing_of c.loop-word.standing) c.loop-word.place _
    c.loop-word-test.true c.word-item.is c.as_str.ensures.value c.loop-word.invariant (parts_of c.read_word.new.parts) (standing_of c.in-Some.next) reads
