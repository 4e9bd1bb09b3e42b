use Rattle.std.proofs.Common.{◌≡◌, drop, map}
use Rattle.std.specs.List.{list_any}
use Rattle.sledge_words.specs.Lines.{same_flag}
use Rattle.sledge_words.specs.inner.Split.{given_of}
use Rattle.sledge_words.proofs.settings.is_given.Given as goal

abbrev pub invariant-loop-g : goal.invariant-loop-g
invariant-loop-g l = list_any (λ h. same_flag l.flag h.flag) (map given_of (drop l.g-index l.given)) ≡ list_any (λ h. same_flag l.flag h.flag) (map given_of l.given)
