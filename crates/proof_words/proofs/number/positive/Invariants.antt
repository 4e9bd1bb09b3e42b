use Rattle.std.proofs.Common.{length, ◌-◌, ◌^◌, ◌≡◌, ◌<◌, ◌≤◌, take, decimal}
use Rattle.proof_words.proofs.number.positive.Given as goal

abbrev pub invariant-digits : goal.invariant-digits
invariant-digits l = (0 < l.at) × (l.at ≤ length l.word) × (0 < l.value) × (l.value < 2 ^ 64) × (take l.at l.word ≡ decimal l.value)

abbrev pub decreases-digits : goal.decreases-digits
decreases-digits l = length l.word - l.at
