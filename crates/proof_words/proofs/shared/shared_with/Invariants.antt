use Rattle.std.proofs.Common.{◌≡◌, max, map, drop}
use Rattle.proof_words.specs.inner.Steps.{most_shared}
use Rattle.proof_words.proofs.shared.shared_with.Given as goal

abbrev pub invariant-loop-other : goal.invariant-loop-other
invariant-loop-other l = max l.most (most_shared l.word (map (λ v. v.now) (drop l.other-index l.words))) ≡ most_shared l.word (map (λ v. v.now) l.words)
