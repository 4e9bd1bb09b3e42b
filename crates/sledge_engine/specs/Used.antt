-- The facts that steps use.
use Rattle.std.specs.Prelude.{ℕ, ◌+◌, ◌==◌, if◌then◌else◌, Bool, List, [], ◌∷◌}
use Rattle.std.specs.List.{list_any}
use Rattle.kernel_rules.specs.declared.step.Step.{Step}
use Rattle.kernel_rules.specs.Derivations.{leaves}
use Rattle.theory_reader.specs.declared.theory.Theory.{Theory}
use Rattle.theory_reader.specs.Sound.{fact_names}
use Rattle.theory_reader.specs.Seen.{seen}

-- the number is one of these
abbrev pub is_listed : List ℕ → ℕ → Bool
is_listed numbers n = list_any (λ m. m == n) numbers

-- the names, counted from `i`, whose numbers are among these
abbrev pub listed_from : ℕ → List ℕ → List (List ℕ) → List (List ℕ)
listed_from i numbers [] = []
listed_from i numbers (name ∷ names) = if is_listed numbers i then name ∷ listed_from (i + 1) numbers names else listed_from (i + 1) numbers names

-- the names of the facts of fact steps, each once, in file order
abbrev pub used_names : Theory → ℕ → List Step → List (List ℕ)
used_names t goal steps = listed_from 0 (leaves steps) (fact_names (seen t goal))
