-- The numbers of named facts are among those of the visible ones, and a search can be made with them.
use Rattle.std.proofs.Common.{ℕ, suc, zero, ◌≡◌, ◌∙◌, ◌+◌, Bool, true, false, List, [], ◌∷◌, refl, sym, if◌then◌else◌, IsTrue, Some, slice_get}
use Rattle.hol_terms.specs.declared.env.Env.{Env}
use Rattle.theory_reader.specs.declared.statement.Fact.{Fact}
use Rattle.theory_reader.specs.declared.theory.Theory.{Theory}
use Rattle.theory_reader.specs.Seen.{IsEnvOf, seen}
use Rattle.fact_minimise.specs.Sublists.{IsSublist, none, with_first, without_first}
use Rattle.goal_search.specs.Fitting.{CanSearch}
use Rattle.slot_work.specs.Visible.{fact_fits, goal_fits, places_from, visible}
use Rattle.slot_work.proofs.Turning.{sublist_can}
use Rattle.sledge_engine.specs.Choice.{AllVisible, chosen, has_name}
use Rattle.sledge_engine.proofs.Named.{named_fits}

-- where one test implies another, the places of the items that pass it are among those that pass the other
sub_places : {X : Type 0} (q p : X → Bool) (i : ℕ) (xs : List X) → ((k : ℕ) (x : X) → slice_get xs k ≡ Some x → q x ≡ true → p x ≡ true) →
    IsSublist (places_from i q xs) (places_from i p xs)
sub_places q p i [] implied = none
sub_places q p i (x ∷ xs) implied = at (q x) (p x) refl refl (sub_places q p (i + 1) xs (λ k y is passed. implied (suc k) y is passed))
  where
    at : (b c : Bool) → q x ≡ b → p x ≡ c → IsSublist (places_from (i + 1) q xs) (places_from (i + 1) p xs) →
        IsSublist (if b then i ∷ places_from (i + 1) q xs else places_from (i + 1) q xs) (if c then i ∷ places_from (i + 1) p xs else places_from (i + 1) p xs)
    at true true is fits rest = with_first rest
    at true false is fits rest = absurd (let e = sym fits ∙ implied zero x refl is in cc)
    at false true is fits rest = without_first rest
    at false false is fits rest = rest

pub chosen_visible : (t : Theory) (goal : ℕ) (names : List (List ℕ)) → AllVisible t goal names → IsSublist (chosen names t goal) (visible t goal)
chosen_visible t goal names all = sub_places (has_name names) (fact_fits t) 0 (seen t goal) (λ k f is named. named_fits t goal names all k f is named)

-- the goal and the named facts, each of them visible, can be searched with
pub chosen_can : (t : Theory) (goal : ℕ) (e : Env) (names : List (List ℕ)) → IsEnvOf t goal e → IsTrue (goal_fits t goal) → AllVisible t goal names → CanSearch e (chosen names t goal)
chosen_can t goal e names is fits all = sublist_can t goal e (chosen names t goal) is fits (chosen_visible t goal names all)
