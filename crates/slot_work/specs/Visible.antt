-- Which facts and goals fit, and the facts that a goal may be proved from.
use Rattle.std.specs.Prelude.{ℕ, ◌+◌, Bool, true, false, if◌then◌else◌, List, [], ◌∷◌, slice_get}
use Rattle.std.specs.Option.{option_map_or}
use Rattle.hol_terms.specs.declared.sig.Sig.{Sig}
use Rattle.theory_terms.specs.Signature.{sig_of}
use Rattle.theory_reader.specs.declared.statement.Fact.{Fact}
use Rattle.theory_reader.specs.declared.theory.Theory.{Theory}
use Rattle.theory_reader.specs.Declarations.{known}
use Rattle.theory_reader.specs.Seen.{declarations, seen}
use Rattle.formula_clauses.specs.Fits.{fits}

abbrev pub signature : Theory → Sig
signature t = sig_of (known (declarations t))

abbrev pub fact_fits : Theory → Fact → Bool
fact_fits t f = fits (signature t) f.formula false

-- the goal with this number
abbrev pub goal_fits : Theory → ℕ → Bool
goal_fits t n = option_map_or (λ g. fits (signature t) g.formula true) (slice_get t.goals n) false

-- the places, counted from `i`, of the items that pass
abbrev pub places_from : {X : Type 0} → ℕ → (X → Bool) → List X → List ℕ
places_from i p [] = []
places_from i p (x ∷ xs) = if p x then i ∷ places_from (i + 1) p xs else places_from (i + 1) p xs

-- the numbers of the facts that a goal may be proved from: of those beside it the ones that fit
abbrev pub visible : Theory → ℕ → List ℕ
visible t goal = places_from 0 (fact_fits t) (seen t goal)
