-- What is left of the rounds behind one of them.
use Rattle.std.proofs.Common.{◌≡◌, ℕ, ◌+◌, ◌-◌, ◌<◌, suc, List, ◌++◌, sym, ap, ◌∙◌, append_assoc, append-nil, arith}
use Rattle.std.specs.Prelude.{map}
use Rattle.mepo_filter.specs.declared.chosen.Chosen.{Chosen}
use Rattle.mepo_filter.specs.declared.round.State.{State}
use Rattle.mepo_filter.specs.declared.slice.Slice.{Slice}
use Rattle.mepo_filter.specs.Ranking.{ranked}
use Rattle.mepo_filter.specs.Rounds.{Round, rounds, taken, chosen_in, next, unless_none}
use Rattle.mepo_filter.specs.inner.Steps.{Goes, Stops, round_at}

-- one round fewer is left
one_fewer : (n done : ℕ) → done < n → n - done ≡ suc (n - (done + 1))
one_fewer n done h = omega arith

module _ (weigh : ℕ → ℕ) (s : Slice) (flat : List ℕ) (n done : ℕ) (old new : State) (within : done < n) where
  pub goes_on : Goes weigh s flat (done + 1) old new →
      old.chosen.items ++ rounds weigh s (n - done) (round_at flat (done + 1) old)
      ≡ new.chosen.items ++ rounds weigh s (n - (done + 1)) (round_at flat (done + 1 + 1) new)
  goes_on h =
      let r : Round = round_at flat (done + 1) old in
      let first : List Chosen = ranked (map (chosen_in weigh r) (taken weigh r)) in
      ap (λ k. old.chosen.items ++ rounds weigh s k r) (one_fewer n done within)
      ∙ ap (λ l. old.chosen.items ++ l) (h.some (first ++ rounds weigh s (n - (done + 1)) (next weigh s r)))
      ∙ sym (append_assoc old.chosen.items first (rounds weigh s (n - (done + 1)) (next weigh s r)))
      ∙ ap (λ l. l ++ rounds weigh s (n - (done + 1)) (next weigh s r)) (sym h.chosen)
      ∙ ap (λ q. new.chosen.items ++ rounds weigh s (n - (done + 1)) q) (sym h.next)

  pub stops_there : Stops weigh flat (done + 1) old new →
      old.chosen.items ++ rounds weigh s (n - done) (round_at flat (done + 1) old) ≡ new.chosen.items
  stops_there h =
      let r : Round = round_at flat (done + 1) old in
      ap (λ k. old.chosen.items ++ rounds weigh s k r) (one_fewer n done within)
      ∙ ap (λ ts. old.chosen.items ++ unless_none ts (ranked (map (chosen_in weigh r) (taken weigh r)) ++ rounds weigh s (n - (done + 1)) (next weigh s r))) h.none
      ∙ append-nil old.chosen.items ∙ sym h.chosen
