-- The facts that a command names.
use Rattle.std.specs.Prelude.{ℕ, ◌≡◌, Bool, false, IsTrue, List, [], ◌∷◌, ◌++◌, Option, filter, get_or, map, All}
use Rattle.std.specs.List.{list_any, position}
use Rattle.std.specs.Str.{bytes_eq}
use Rattle.theory_reader.specs.declared.statement.Fact.{Fact}
use Rattle.theory_reader.specs.declared.theory.Theory.{Theory}
use Rattle.theory_reader.specs.Sound.{fact_names}
use Rattle.theory_reader.specs.Seen.{seen}
use Rattle.slot_work.specs.Visible.{fact_fits, places_from}

-- the name is one of these
abbrev pub is_named : List (List ℕ) → List ℕ → Bool
is_named names name = list_any (bytes_eq name) names

-- the fact has one of these names
abbrev pub has_name : List (List ℕ) → Fact → Bool
has_name names f = is_named names f.name

-- the numbers of the named facts beside a goal, ascending
abbrev pub chosen : List (List ℕ) → Theory → ℕ → List ℕ
chosen names t goal = places_from 0 (has_name names) (seen t goal)

-- the names at these places of a list
abbrev pub names_at : List (List ℕ) → List ℕ → List (List ℕ)
names_at names numbers = map (λ n. get_or names n []) numbers

-- the number of the goal of this name
abbrev pub goal_place : Theory → List ℕ → Option ℕ
goal_place t name = position (λ g. bytes_eq name g.name) t.goals

-- the facts that a goal may be proved from: of those beside it the ones that fit
abbrev pub visible_facts : Theory → ℕ → List Fact
visible_facts t goal = filter (fact_fits t) (seen t goal)

-- each name is one of these
abbrev pub AllNamed : List (List ℕ) → List (List ℕ) → Type 0
AllNamed there names = All (λ name. IsTrue (is_named there name)) names

-- the first name that isn't
pub record IsFirstOther (there names : List (List ℕ)) (name : List ℕ) : Type 0 where
  pub before : List (List ℕ)
  pub rest : List (List ℕ)
  pub is : names ≡ before ++ name ∷ rest
  pub named : AllNamed there before
  pub other : is_named there name ≡ false

-- each name is that of a fact which the goal may be proved from
abbrev pub AllVisible : Theory → ℕ → List (List ℕ) → Type 0
AllVisible t goal names = AllNamed (fact_names (visible_facts t goal)) names

-- the first name that isn't
abbrev pub IsFirstHidden : Theory → ℕ → List (List ℕ) → List ℕ → Type 0
IsFirstHidden t goal names name = IsFirstOther (fact_names (visible_facts t goal)) names name
