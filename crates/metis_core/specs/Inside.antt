-- A search as the code holds it.
use Rattle.std.specs.Prelude.{◌≡◌, ◌≤◌}
use Rattle.metis_core.specs.declared.search.Search.TheInside.{Inside}
use Rattle.metis_core.specs.declared.turn.Turn.TheVariants.{More}
use Rattle.metis_core.specs.Searched.{Searched, Stands}
use Rattle.metis_core.specs.Held.{IsRunning}

abbrev pub view_of : Inside → Searched
view_of s = record { given = s.given; picks = s.picks; lines = s.stock.lines; active = s.stock.active; waiting = s.stock.waiting; reached = s.reached }

-- it stands where the definition has it, and while it goes on its stock is sound
pub record IsSearch (s : Inside) : Type 0 where
  pub stands : Stands (view_of s)
  pub running : s.reached ≡ More → IsRunning s.given s.stock
  pub age : 1 ≤ s.given.age
  pub within : s.picks ≤ s.given.budget
