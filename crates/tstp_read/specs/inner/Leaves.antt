-- The leaves of what the reader has read.
use Rattle.std.specs.Prelude.{◌≡◌, ℕ, List, Bool, true, Contains, Option, Some, None}
use Rattle.tstp_read.specs.declared.sources.Parent.{Parent}
use Rattle.tstp_read.specs.declared.statements.Entry.{Entry}
use Rattle.tstp_read.specs.declared.answer.UsedFault.{UsedFault}
use Rattle.tstp_read.specs.declared.answer.UsedFault.TheVariants as fault
use Rattle.tstp_read.specs.Reached as reached

abbrev pub HasEntry : Entry → Parent → Type 0
HasEntry e p = Contains e.parents p

abbrev pub RefutesEntry : Entry → Type 0
RefutesEntry e = e.refutes ≡ true

abbrev pub named : Entry → List ℕ
named e = e.name

abbrev pub AreEntryLeaves : List Entry → Entry → List (List ℕ) → Type 0
AreEntryLeaves es root names = reached.AreLeaves Entry named HasEntry es root names

abbrev pub IsEntryRoot : List Entry → Entry → Type 0
IsEntryRoot es root = reached.IsRoot Entry RefutesEntry es root

abbrev pub HasNoRoot : List Entry → Type 0
HasNoRoot es = reached.NoRoot Entry RefutesEntry es

pub record Found (es : List Entry) (names : List (List ℕ)) : Type 0 where
  pub root : Entry
  pub is_root : IsEntryRoot es root
  pub leaves : AreEntryLeaves es root names

-- the leaves that are reached from the root; nothing where there is no root
abbrev pub FindsLeaves : List Entry → Option (List (List ℕ)) → Type 0
FindsLeaves es None = HasNoRoot es
FindsLeaves es (Some names) = Found es names

-- nothing is found for want of a root; want of memory is free
abbrev pub FailsToFind : List Entry → UsedFault → Type 0
FailsToFind es fault.NoProof = HasNoRoot es
FailsToFind es fault.NoMemory = Unit {0}
FailsToFind es _ = ⊥
