-- No more facts are seen than numbers of 32 bits count.
use Rattle.std.proofs.Common.{ℕ, ◌≡◌, ◌<◌, ◌≤◌, ◌^◌, nat_le, List, [], length, take, Bool, refl, Some, None, slice_get, IsTrue, subst, arith, length-append}
use Rattle.std.specs.Prelude.{Option}
use Rattle.std.specs.Option.{option_map_or}
use Rattle.std.specs.List.{list_all}
use Rattle.std.proofs.lemmas.List.{length-take}
use Rattle.std.proofs.lemmas.List.Sums.{AllPass-from_list_all}
use Rattle.std.proofs.lemmas.Option.{slice_get_within, get_or_from_slice_get}
use Rattle.std.proofs.lemmas.Bool.Decides.{nat_tests}
use Rattle.hol_terms.proofs.Both.{both_true}
use Rattle.theory_reader.specs.declared.statement.Fact.{Fact}
use Rattle.theory_reader.specs.declared.statement.Goal.{Goal}
use Rattle.theory_reader.specs.declared.theory.Theory.{Theory}
use Rattle.theory_reader.specs.Sound.{seen_from}
use Rattle.theory_reader.specs.Seen.{seen}

pub passes : {X : Type 0} (p : X → Bool) (xs : List X) (n : ℕ) (x : X) → IsTrue (list_all p xs) → slice_get xs n ≡ Some x → IsTrue (p x)
passes p xs n x all is =
    subst (λ y. IsTrue (p y)) (get_or_from_slice_get xs n x x is) (AllPass-from_list_all p xs all n x (slice_get_within xs n x is))

within : (m n : ℕ) → IsTrue (nat_le m n) → m ≤ n
within m n h = grind (arith, nat_tests)

seen_of : (facts : List Fact) (o : Option Goal) → length facts ≤ 20000 → ((g : Goal) → o ≡ Some g → length g.assumes ≤ 64) →
    length (option_map_or (seen_from facts) o []) ≤ 20064
seen_of facts None few each = omega arith
seen_of facts (Some g) few each =
    let assumed = each g refl in
    let joined = length-append (take g.before facts) g.assumes in
    let taken = length-take g.before facts in
    omega (arith, assumed, joined, taken)

pub few_seen : (t : Theory) (goal : ℕ) → length (seen t goal) < 2 ^ 32
few_seen t goal =
    let facts = nat_le (length t.facts) 20000 in
    let assumed = list_all (λ h. nat_le (length h.assumes) 64) t.goals in
    let both = both_true facts assumed t.limits_hold in
    let all = seen_of t.facts (slice_get t.goals goal) (within (length t.facts) 20000 both.0)
    (λ g is. within (length g.assumes) 64 (passes (λ h. nat_le (length h.assumes) 64) t.goals goal g both.1 is)) in
    omega (arith, all)
