-- How the private search for leaves goes on.
use Rattle.std.specs.Prelude.{◌≡◌, ◌≢◌, ℕ, ◌+◌, ◌≤◌, ◌⊎◌, Bool, List, [], ◌∷◌, ◌++◌, length, map, Contains, Option, Some, None, if◌then◌else◌, unwrap_or}
use Rattle.std.specs.Ordering.{nat_cmp, is_eq}
use Rattle.std.specs.Cmp.Lexicographic.{slice_cmp}
use Rattle.std.specs.BTreeMap.{BTreeMap}
use Rattle.std.specs.BTreeSet.{BTreeSet}
use Rattle.std.specs.Global.{Vec}
use Rattle.tstp_read.specs.declared.sources.Parent.{Parent}
use Rattle.tstp_read.specs.declared.sources.Parent.TheVariants as parent
use Rattle.tstp_read.specs.declared.statements.Entry.{Entry}
use Rattle.tstp_read.specs.inner.Machine.{joined}

-- names with what the sources of their statements give
abbrev pub Table : Type 0
Table = List (List ℕ × List Parent)

abbrev pub same : List ℕ → List ℕ → Bool
same a b = is_eq (slice_cmp nat_cmp a b)

abbrev pub look : Table → List ℕ → Option (List Parent)
look [] n = None
look (e ∷ es) n = if same n e.0 then Some e.1 else look es n

abbrev pub weight : Table → ℕ
weight [] = 0
weight (e ∷ es) = length e.1 + weight es

abbrev pub listed : Option (List Parent) → List Parent
listed None = []
listed (Some ps) = ps

-- the name's parents are these now, and nothing else has changed
pub record Puts (old new : Table) (n : List ℕ) (ps : List Parent) : Type 0 where
  pub here : look new n ≡ Some ps
  pub others : (m : List ℕ) → m ≢ n → look new m ≡ look old m
  pub lighter : weight new + length (listed (look old n)) ≤ weight old + length ps

-- the name is among the names now, and nothing else has changed
pub record Adds (old new : List (List ℕ)) (n : List ℕ) : Type 0 where
  pub here : Contains new n
  pub stays : (m : List ℕ) → Contains old m → Contains new m
  pub only : (m : List ℕ) → Contains new m → (m ≡ n) ⊎ Contains old m

-- what the sources of all statements of a name give; nothing where there is none
abbrev pub gathered : List ℕ → List Entry → Option (List Parent)
gathered n [] = None
gathered n (e ∷ es) = if same n e.name then Some (joined (listed (gathered n es)) e.parents) else gathered n es

abbrev pub IsTable : List Entry → Table → Type 0
IsTable es t = (n : List ℕ) → look t n ≡ gathered n es

-- a search: the table, the leaves found, and what is still to be looked at
pub record Search : Type 0 where
  pub table : Table
  pub names : List (List ℕ)
  pub todo : List Parent

-- a reference to these parents is looked at
abbrev pub Goes : List (List ℕ) → List (List ℕ) → List Parent → List Parent → List ℕ → Option (List Parent) → Type 0
Goes names new_names todo new_todo n None = Adds names new_names n × (new_todo ≡ todo)
Goes names new_names todo new_todo n (Some ps) = (new_names ≡ names) × (new_todo ≡ joined todo ps)

abbrev pub Follows : Search → Search → List ℕ → Option (List Parent) → Type 0
Follows old new n found = Goes old.names new.names old.todo new.todo n found

abbrev pub Visits : Search → Search → Parent → Type 0
Visits old new (parent.Leaf n) = Adds old.names new.names n × (new.table ≡ old.table) × (new.todo ≡ old.todo)
Visits old new (parent.Reference n) = Puts old.table new.table n [] × Follows old new n (look old.table n)

-- the map as a table, and the set as names
abbrev pub entries_table : List (Vec ℕ × List Parent) → Table
entries_table [] = []
entries_table (e ∷ es) = (e.0.items, e.1) ∷ entries_table es

abbrev pub table_of : BTreeMap (Vec ℕ) (List Parent) → Table
table_of m = entries_table m.entries

abbrev pub keys_names : List (Vec ℕ) → List (List ℕ)
keys_names ks = map (λ k. k.items) ks

abbrev pub names_of : BTreeSet (Vec ℕ) → List (List ℕ)
names_of s = keys_names s.keys

abbrev pub search_of : BTreeMap (Vec ℕ) (List Parent) → BTreeSet (Vec ℕ) → List Parent → Search
search_of table names todo = record { table = table_of table; names = names_of names; todo = todo }

-- an entry's parents are behind those of its name, and nothing else has changed
pub record Notes (old new : Table) (e : Entry) : Type 0 where
  pub here : look new e.name ≡ Some (joined (listed (look old e.name)) e.parents)
  pub others : (m : List ℕ) → m ≢ e.name → look new m ≡ look old m

abbrev pub with_todo : Search → List Parent → Search
with_todo s rest = record { table = s.table; names = s.names; todo = rest }

-- the last one that is to be looked at is looked at, until nothing is left
pub data Searches : Search → Search → Type 0 where
  idle : {s : Search} → s.todo ≡ [] → Searches s s
  turn : {s t u : Search} (rest : List Parent) (p : Parent) → s.todo ≡ rest ++ p ∷ [] → Visits (with_todo s rest) t p → Searches t u → Searches s u

abbrev pub starting : BTreeMap (Vec ℕ) (List Parent) → List Parent → Search
starting table todo = record { table = table_of table; names = []; todo = todo }
