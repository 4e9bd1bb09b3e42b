use Rattle.std.proofs.Common.{◌≡◌, drop, map}
use Rattle.sledge_words.specs.Lines.{value_of}
use Rattle.sledge_words.specs.inner.Split.{given_of}
use Rattle.sledge_words.proofs.settings.value_of.Given as goal

abbrev pub invariant-loop-g : goal.invariant-loop-g
invariant-loop-g l = value_of l.flag (map given_of (drop l.g-index l.given)) ≡ value_of l.flag (map given_of l.given)
