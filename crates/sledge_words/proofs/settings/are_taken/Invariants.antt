use Rattle.std.proofs.Common.{◌≡◌, drop, map}
use Rattle.std.specs.List.{list_all}
use Rattle.sledge_words.specs.Options.{takes}
use Rattle.sledge_words.specs.inner.Split.{given_of}
use Rattle.sledge_words.proofs.settings.are_taken.Given as goal

abbrev pub invariant-loop-g : goal.invariant-loop-g
invariant-loop-g l = list_all (λ g. takes l.command g.flag) (map given_of (drop l.g-index l.given)) ≡ list_all (λ g. takes l.command g.flag) (map given_of l.given)
