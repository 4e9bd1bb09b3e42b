use Rattle.std.proofs.Common.{◌≡◌, take, map}
use Rattle.cover_marks.specs.Marks.{literal_marks}
use Rattle.cover_marks.specs.inner.Union.{IsUnion}
use Rattle.cover_marks.proofs.cover.marks_of_flat.Given as goal

abbrev pub invariant-loop-i : goal.invariant-loop-i
invariant-loop-i l = record {
  words : l.words ≡ map literal_marks (take l.i l.c);
  union : IsUnion l.words l.all;
}
