use Rattle.std.proofs.Common.{length, ◌-◌, ◌≡◌, ◌+◌, ◌≤◌, nat_eq, drop}
use Rattle.std.specs.List.{common_prefix_len}
use Rattle.proof_words.proofs.shared.common.Given as goal

abbrev pub invariant-same : goal.invariant-same
invariant-same l =
    (l.at ≤ length l.word) × (l.at ≤ length l.other)
    × (common_prefix_len nat_eq l.word l.other ≡ l.at + common_prefix_len nat_eq (drop l.at l.word) (drop l.at l.other))

abbrev pub decreases-same : goal.decreases-same
decreases-same l = length l.word - l.at
