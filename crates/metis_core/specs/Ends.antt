-- The search is one definite function of what it is given.
use Rattle.std.specs.Prelude.{◌≡◌, ℕ}
use Rattle.metis_core.specs.declared.given.Given.{Given}
use Rattle.metis_core.specs.State.{State}
use Rattle.metis_core.specs.Offer.{End}
use Rattle.metis_core.specs.Search.{Run, Search}

-- after so many picks there is one state at most
abbrev pub OneState : Given → Type 0
OneState given = (n : ℕ) (s t : State) → Run given n s → Run given n t → s ≡ t

-- there is one end at most, after one number of picks, in one state
abbrev pub OneEnd : Given → Type 0
OneEnd given = (e f : End) (n m : ℕ) (s t : State) → Search given e n s → Search given f m t → (e ≡ f) × (n ≡ m) × (s ≡ t)
