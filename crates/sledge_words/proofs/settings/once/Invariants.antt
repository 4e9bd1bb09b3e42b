use Rattle.std.proofs.Common.{◌≡◌, drop, map}
use Rattle.sledge_words.specs.Lines.{once}
use Rattle.sledge_words.specs.inner.Split.{given_of}
use Rattle.sledge_words.proofs.settings.once.Given as goal

abbrev pub invariant-loop-i : goal.invariant-loop-i
invariant-loop-i l = once (map given_of (drop l.i l.given)) ≡ once (map given_of l.given)
