-- What the rounds over gathered facts give is what is chosen of the theory's.
use Rattle.std.proofs.Common.{◌≡◌, ℕ, ◌∙◌, ap, Bool, List, length, take}
use Rattle.theory_reader.specs.declared.theory.Theory.{Theory}
use Rattle.mepo_filter.specs.declared.chosen.Chosen.{Chosen}
use Rattle.mepo_filter.specs.declared.round.State.{State}
use Rattle.mepo_filter.specs.declared.slice.Slice.{Slice}
use Rattle.mepo_filter.specs.Scores.{Candidate, weight_among}
use Rattle.mepo_filter.specs.Rounds.{Round, rounds}
use Rattle.mepo_filter.specs.Mepo.{mepo, candidates, goal_constants}
use Rattle.mepo_filter.specs.inner.Tables.{is_in}
use Rattle.mepo_filter.specs.inner.Places.{candidates_at}
use Rattle.mepo_filter.specs.inner.Steps.{round_at}

abbrev begun : (ℕ → Bool) → ℕ → List Candidate → Round
begun r m l = record { number = 1; relevant = r; mark = m; left = l }

pub whole : (t : Theory) (visible : List ℕ) (goal : ℕ) (s : Slice) (weigh : ℕ → ℕ) (count : ℕ) (flat : List ℕ) (start : State) (chosen : List Chosen) →
    chosen ≡ take s.facts (rounds weigh s count (round_at flat 1 start)) → weigh ≡ weight_among (candidates t visible goal) → count ≡ length visible →
    is_in start.relevant ≡ goal_constants t goal → start.mark ≡ s.mark → candidates_at flat start.left.items ≡ candidates t visible goal →
    chosen ≡ mepo t visible goal s
unfolding mepo
whole t visible goal s weigh count flat start chosen is weights counted relevant mark left =
    is
    ∙ ap (λ w. take s.facts (rounds w s count (round_at flat 1 start))) weights
    ∙ ap (λ n. take s.facts (rounds (weight_among (candidates t visible goal)) s n (round_at flat 1 start))) counted
    ∙ ap (λ r. take s.facts (rounds (weight_among (candidates t visible goal)) s (length visible) r))
    (ap (λ r. begun r start.mark (candidates_at flat start.left.items)) relevant
    ∙ ap (λ m. begun (goal_constants t goal) m (candidates_at flat start.left.items)) mark
    ∙ ap (λ l. begun (goal_constants t goal) s.mark l) left)
