use Rattle.std.proofs.Common.{◌≡◌, ◌≢◌, ◌+◌}
use Rattle.metis_core.specs.declared.turn.Turn.TheVariants.{More}
use Rattle.metis_core.specs.Searched.{IsOpen}
use Rattle.metis_core.proofs.search.Search.turn.Given as goal

abbrev pub invariant-loop-made : goal.invariant-loop-made
invariant-loop-made l = record {
  given : l.self.given ≡ l.fn.self.given;
  again : l.fn.self.reached ≢ More → l.self ≡ l.fn.self;
  open' : l.self.reached ≡ More → IsOpen l.self;
  picks : l.self.reached ≡ More → l.self.picks ≡ l.fn.self.picks + l._made;
}
