use Rattle.std.proofs.Common.{◌≡◌, ◌+◌, ℕ, length}
use Rattle.std.specs.VecDeque.{deque_len}
use Rattle.clause_ring.specs.inner.Ages.{waiting, places}
use Rattle.clause_ring.proofs.ages.Ages.pop.Given as goal

abbrev pub invariant-picked : goal.invariant-picked
invariant-picked l = record {
  waiting_is : waiting l.self-inside.aged.items ≡ waiting l.fn.self.aged;
  places_are : (w : ℕ) → places w l.self-inside.gone l.self-inside.aged.items ≡ places w l.fn.self.gone l.fn.self.aged;
  came : l.self-inside.gone + deque_len l.self-inside.aged ≡ l.fn.self.gone + length l.fn.self.aged;
}

abbrev pub decreases-picked : goal.decreases-picked
decreases-picked l = deque_len l.self-inside.aged
