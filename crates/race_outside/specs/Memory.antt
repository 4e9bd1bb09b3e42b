-- What contracts see of the forms in memory.
use Rattle.std.specs.Prelude.{ℕ, ◌&&◌, ◌==◌, max, List, [], ◌∷◌, Option, Some, None, true}
use Rattle.race_core.specs.Standings.{Standing}
use Rattle.race_outside.specs.declared.child.Child.{Child}
use Rattle.race_outside.specs.declared.held.Held.{Held}
use Rattle.race_outside.specs.Pipes.{Told}
use Rattle.race_outside.specs.Shelves.{is_none_listed}

-- a shelf in memory: its files, the numbers of the fetches that fail, the fetches so far, and how many failed
pub record MemoryFiles : Type 0 where
  pub files : List Held
  pub fails : List ℕ
  pub calls : ℕ
  pub faults : ℕ

-- a shelf in memory that never fails where it holds the name
pub record SureFiles : Type 0 where
  pub files : List Held
  pub faults : ℕ

-- a sink in memory: what it took, the numbers of the puts that fail, the puts so far, and how many failed
pub record MemoryText : Type 0 where
  pub taken : List ℕ
  pub fails : List ℕ
  pub calls : ℕ
  pub faults : ℕ

-- the bytes of a pipe in memory: all, and those that weren't read
pub record Flow : Type 0 where
  pub whole : List ℕ
  pub left : List ℕ

-- a pipe in memory: its id, its bytes, the numbers of the reads that fail, the reads so far, and how many failed
pub record MemoryFlow : Type 0 where
  pub number : ℕ
  pub flow : Flow
  pub fails : List ℕ
  pub calls : ℕ
  pub faults : ℕ

-- a pipe in memory that never fails
pub record SureFlow : Type 0 where
  pub number : ℕ
  pub flow : Flow

-- a launcher in memory: its children by their ids, the numbers of the starts that fail, the starts so far, the moments to come, and how it stands
pub record MemoryLaunches : Type 0 where
  pub children : List Child
  pub fails : List ℕ
  pub calls : ℕ
  pub moments : List ℕ
  pub standing : Standing

-- a launcher in memory that never fails: what its children print, by their ids, and how it stands
pub record SureLaunches : Type 0 where
  pub children : List (List ℕ)
  pub standing : Standing

-- what is told of a child of a list; one beyond the list prints nothing
abbrev pub told_of : Option Child → Told
told_of None = record { whole = Some []; sound = true }
told_of (Some child) = record { whole = Some child.bytes; sound = is_none_listed child.fails }

-- what is told of a child that never fails
abbrev pub told_sure : Option (List ℕ) → Told
told_sure None = record { whole = Some []; sound = true }
told_sure (Some bytes) = record { whole = Some bytes; sound = true }

-- the pipe of a child of a list, of which nothing was read
abbrev pub flow_of : ℕ → Option Child → MemoryFlow
flow_of id None = record { number = id; flow = record { whole = []; left = [] }; fails = []; calls = 0; faults = 0 }
flow_of id (Some child) = record { number = id; flow = record { whole = child.bytes; left = child.bytes }; fails = child.fails; calls = 0; faults = 0 }

-- the pipe of a child that never fails
abbrev pub sure_flow_of : ℕ → Option (List ℕ) → SureFlow
sure_flow_of id None = record { number = id; flow = record { whole = []; left = [] } }
sure_flow_of id (Some bytes) = record { number = id; flow = record { whole = bytes; left = bytes } }

-- what a pipe in memory tells: it is sound where no read of it fails
abbrev pub told_by : MemoryFlow → Told
told_by p = record { whole = Some p.flow.whole; sound = is_none_listed p.fails && (p.faults == 0) }

-- the moment that a clock gives next: the first to come, raised to the last one
abbrev pub next_moment : ℕ → List ℕ → ℕ
next_moment last [] = last
next_moment last (m ∷ ms) = max last m

-- a launcher that has done nothing
abbrev pub unused : Standing
unused = record { starts = 0; orders = Some []; kills = []; waits = []; faults = 0; last = 0 }
