-- The code's stock of clauses as a state of a search, and what calls tell of it.
use Rattle.std.specs.Prelude.{◌≡◌, ℕ, Bool, MatchBool, ◌<◌, ◌≤◌, ◌⊎◌, List, [], ◌∷◌, ◌++◌, length, All, Result, Ok, Err}
use Rattle.fo_infer.specs.declared.made.Rule.{Rule}
use Rattle.fo_infer.specs.declared.refutation.Line.{Line}
use Rattle.fo_infer.specs.declared.refutation.Origin.{Origin}
use Rattle.fo_infer.specs.declared.refutation.Origin.TheVariants.{Alone, Pair}
use Rattle.fo_infer.specs.Lines.{FollowFrom}
use Rattle.metis_core.specs.declared.given.Given.{Given}
use Rattle.metis_core.specs.declared.premises.Premises.{Premises}
use Rattle.metis_core.specs.declared.premises.Premises.TheVariants.{One, Two}
use Rattle.metis_core.specs.declared.stock.Stock.{Stock}
use Rattle.metis_core.specs.declared.stop.Stop.{Stop}
use Rattle.metis_core.specs.declared.stop.Stop.TheVariants.{Found, Full, NoMemory}
use Rattle.clause_ring.specs.declared.entry.Entry.{Entry}
use Rattle.metis_core.specs.State.{State, without}
use Rattle.metis_core.specs.Pick.{IsOldest, IsLightest}
use Rattle.metis_core.specs.Offer.{Passed, on, over, found, spent, most_kept}
use Rattle.metis_core.specs.Search.{position_of}
use Rattle.metis_core.specs.Stock.{IsIndex, AreMarks, AreReady, clauses}
use Rattle.metis_core.specs.Units.{AreParted}
use Rattle.metis_core.specs.Raised.{AreRaised}
use Rattle.metis_core.specs.Reach.{AreReach}

-- the state that the stock holds
abbrev pub state_of : Stock → State
state_of stock = record { kept = clauses stock.lines; active = stock.active; waiting = stock.waiting }

-- numbers are those of kept clauses, of which there are not too many, and each is found by its print
pub record IsSound (stock : Stock) : Type 0 where
  pub index : IsIndex stock.places stock.lines
  pub active : All (λ n. n < length stock.lines) stock.active
  pub waiting : All (λ e. e.number < length stock.lines) stock.waiting
  pub parted : AreParted stock.lines stock.active stock.rest stock.units
  pub marks : AreMarks stock.lines stock.rest stock.marks
  pub ready : AreReady stock.lines stock.rest stock.ready
  pub reach : AreReach stock.positions stock.lines stock.active stock.reach
  pub raised : AreRaised stock.lines stock.raised.items
  pub few : length stock.lines ≤ most_kept

-- besides, each line follows by its origin, and equations are put where they are to be
pub record IsRunning (given : Given) (stock : Stock) : Type 0 where
  pub sound : IsSound stock
  pub follow : FollowFrom (position_of given.positions) given.inputs [] stock.lines
  pub same : stock.positions ≡ given.positions

-- a call's answer on how the search goes on, where the stock then holds the state s; want of memory tells nothing
abbrev pub Told : Result (Unit {0}) Stop → State → (Passed → Type 0) → Type 0
Told (Ok u) s P = P (on s)
Told (Err (Found line)) s P = P (over found s)
Told (Err Full) s P = P (over spent s)
Told (Err NoMemory) s P = Unit {0}

-- the offered line is put behind the others or they stay as they are; the empty clause is handed back
abbrev pub AddsLine : Result (Unit {0}) Stop → List Line → List Line → Line → Type 0
AddsLine (Ok u) old new line = (new ≡ old) ⊎ (new ≡ old ++ line ∷ [])
AddsLine (Err (Found last)) old new line = (new ≡ old) × (last ≡ line) × (line.clause.literals ≡ [])
AddsLine (Err Full) old new line = new ≡ old
AddsLine (Err NoMemory) old new line = Unit {0}

-- the empty clause, where it is handed back, follows from the lines
abbrev pub Ends : Given → Result (Unit {0}) Stop → List Line → Type 0
Ends given (Ok u) lines = Unit {0}
Ends given (Err (Found last)) lines = FollowFrom (position_of given.positions) given.inputs [] (lines ++ last ∷ []) × (last.clause.literals ≡ [])
Ends given (Err Full) lines = Unit {0}
Ends given (Err NoMemory) lines = Unit {0}

-- where an inference of these premises comes from
abbrev pub origin_of : Premises → Rule → Origin
origin_of (One n) rule = Alone n rule
origin_of (Two n m) rule = Pair n m rule

-- the premises are kept clauses
abbrev pub ArePremises : ℕ → Premises → Type 0
ArePremises count (One n) = n < count
ArePremises count (Two n m) = (n < count) × (m < count)

-- a waiting clause became active, the oldest or the lightest one
pub record Activates (oldest : Bool) (old new : Stock) (number : ℕ) : Type 0 where
  pub entry : Entry
  pub picked : MatchBool oldest (IsOldest old.waiting entry) (IsLightest old.waiting entry)
  pub is : number ≡ entry.number
  pub waiting : new.waiting ≡ without number old.waiting
  pub active : new.active ≡ old.active ++ number ∷ []
  pub lines : new.lines ≡ old.lines
  pub positions : new.positions ≡ old.positions
  pub sound : IsSound new
