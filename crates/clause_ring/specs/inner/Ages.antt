-- The list of entries by age. Some in it were picked already.
use Rattle.std.specs.Prelude.{ℕ, ◌≡◌, ◌+◌, ◌==◌, ◌&&◌, Bool, true, false, List, [], ◌∷◌, ◌++◌, slice_get, slice_set, Some, if◌then◌else◌}
use Rattle.clause_ring.specs.declared.ages.Aged.{Aged}
use Rattle.clause_ring.specs.declared.entry.Entry.{Entry}

-- entries by age, and how many stood before the first of them
pub record Line : Type 0 where
  pub gone : ℕ
  pub aged : List Aged

-- the entries that weren't picked
abbrev pub waiting : List Aged → List Entry
waiting [] = []
waiting (a ∷ more) = if a.waits then a.entry ∷ waiting more else waiting more

-- it waits, and weighs this much
abbrev pub waits_at : ℕ → Aged → Bool
waits_at w a = a.waits && (a.entry.weight == w)

-- the places of the entries of this weight that wait, where the place of the first entry is `at`
abbrev pub places : ℕ → ℕ → List Aged → List ℕ
places w at [] = []
places w at (a ∷ more) = if waits_at w a then at ∷ places w (at + 1) more else places w (at + 1) more

abbrev pub places_in : ℕ → Line → List ℕ
places_in w l = places w l.gone l.aged

-- an entry that waits
abbrev pub waiter : Entry → Aged
waiter e = record { entry = e; waits = true }

-- one entry came, at the end
pub record Comes (before : Line) (e : Entry) (now : Line) : Type 0 where
  pub gone : now.gone ≡ before.gone
  pub aged : now.aged ≡ before.aged ++ waiter e ∷ []

-- the entry at this place waits no more
pub record IsTaken (before : List Aged) (at : ℕ) (e : Entry) (now : List Aged) : Type 0 where
  pub waited : Bool
  pub stood : slice_get before at ≡ Some (record { entry = e; waits = waited })
  pub now_is : now ≡ slice_set before at (record { entry = e; waits = false })

-- the oldest that waits left, and with it all that stood before it
pub record Leaves (before : Line) (e : Entry) (now : Line) : Type 0 where
  pub waiting_is : waiting before.aged ≡ e ∷ waiting now.aged
  pub place : ℕ
  pub places_are : (w : ℕ) → places_in w before ≡ (if e.weight == w then place ∷ places_in w now else places_in w now)

-- none waits
pub record IsOver (before now : Line) : Type 0 where
  pub none : waiting before.aged ≡ []
  pub same : (w : ℕ) → places_in w now ≡ places_in w before
  pub none_now : waiting now.aged ≡ []
