-- What each call changes of how a launcher stands.
use Rattle.std.specs.Prelude.{ℕ, ◌≡◌, ◌+◌, ◌≤◌, [], ◌∷◌, ◌++◌, option_map}
use Rattle.race_core.specs.declared.slot.Order.{Order}
use Rattle.race_core.specs.Standings.{Standing}

-- a start with this order succeeded
pub record Starts (order : Order) (before now : Standing) : Type 0 where
  pub starts : now.starts ≡ before.starts + 1
  pub orders : now.orders ≡ option_map (λ earlier. earlier ++ order ∷ []) before.orders
  pub kills : now.kills ≡ before.kills
  pub waits : now.waits ≡ before.waits
  pub faults : before.faults ≤ now.faults
  pub last : now.last ≡ before.last

-- nothing was done; the launcher may have failed
pub record Refuses (before now : Standing) : Type 0 where
  pub starts : now.starts ≡ before.starts
  pub orders : now.orders ≡ before.orders
  pub kills : now.kills ≡ before.kills
  pub waits : now.waits ≡ before.waits
  pub faults : before.faults ≤ now.faults
  pub last : now.last ≡ before.last

-- this child was killed
pub record Kills (id : ℕ) (before now : Standing) : Type 0 where
  pub starts : now.starts ≡ before.starts
  pub orders : now.orders ≡ before.orders
  pub kills : now.kills ≡ before.kills ++ id ∷ []
  pub waits : now.waits ≡ before.waits
  pub faults : before.faults ≤ now.faults
  pub last : now.last ≡ before.last

-- this child was waited for
pub record Waits (id : ℕ) (before now : Standing) : Type 0 where
  pub starts : now.starts ≡ before.starts
  pub orders : now.orders ≡ before.orders
  pub kills : now.kills ≡ before.kills
  pub waits : now.waits ≡ before.waits ++ id ∷ []
  pub faults : before.faults ≤ now.faults
  pub last : now.last ≡ before.last

-- the clock gave this moment, and never goes back
pub record Ticks (moment : ℕ) (before now : Standing) : Type 0 where
  pub starts : now.starts ≡ before.starts
  pub orders : now.orders ≡ before.orders
  pub kills : now.kills ≡ before.kills
  pub waits : now.waits ≡ before.waits
  pub faults : before.faults ≤ now.faults
  pub later : before.last ≤ moment
  pub last : now.last ≡ moment
