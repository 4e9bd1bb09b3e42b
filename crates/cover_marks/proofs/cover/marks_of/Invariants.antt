use Rattle.std.proofs.Common.{◌≡◌, take, map}
use Rattle.cover_marks.specs.Marks.{literal_marks}
use Rattle.cover_marks.specs.inner.Union.{IsUnion}
use Rattle.cover_marks.proofs.cover.marks_of.Given as goal

abbrev pub invariant-loop-l : goal.invariant-loop-l
invariant-loop-l l = record {
  words : l.words ≡ map literal_marks (take l.l-index l.c.literals);
  union : IsUnion l.words l.all;
}
