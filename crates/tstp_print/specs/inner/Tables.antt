-- Sets of names, and tables of the numbers of new symbols.
use Rattle.std.specs.Prelude.{◌≡◌, ℕ, List, is_some, Some, slice_get}
use Rattle.std.specs.List.{list_any}
use Rattle.std.specs.Str.{bytes_eq}
use Rattle.std.specs.Ordering.{nat_cmp}
use Rattle.std.specs.Cmp.Lexicographic.{slice_cmp}
use Rattle.std.specs.BTreeMap.{BTreeMap, get_by}
use Rattle.std.specs.declared.vec.Vec.{Vec}
use Rattle.std.specs.declared.alloc.Global.{Global}
use Rattle.tstp_print.specs.Names.{new_number}

-- the set holds exactly these names
abbrev pub Holds : BTreeMap (Vec ℕ Global) (Unit {0}) → List (List ℕ) → Type 0
Holds set names = (name : List ℕ) → is_some (get_by (λ k. slice_cmp nat_cmp name k.items) set) ≡ list_any (λ n. bytes_eq n name) names

-- the numbers of the first new symbols
abbrev pub NumbersNew : List (List ℕ) → List ℕ → Type 0
NumbersNew names numbers = (n k : ℕ) → slice_get numbers n ≡ Some k → k ≡ new_number names n
