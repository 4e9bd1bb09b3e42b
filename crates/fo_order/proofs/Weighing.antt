-- The weight of one of several terms.
use Rattle.std.proofs.Common.{◌≡◌, ℕ, zero, suc, ◌+◌, ◌-◌, ◌<◌, ◌≤◌, List, [], ◌∷◌, map, sum, take, drop, length, get_or, Some, slice_get, refl, sym, ap, ◌∙◌, arith, add-one, length-drop}
use Rattle.std.proofs.lemmas.List.{take_all}
use Rattle.fo_terms.specs.declared.term.FoTerm.{FoTerm}
use Rattle.fo_terms.specs.Weight.{size_of, size_of_all}
use Rattle.fo_terms.proofs.Substitution.{sum_cons}

split_at : (ts : List FoTerm) (i : ℕ) (d : FoTerm) → i < length ts → size_of_all ts ≡ size_of_all (take i ts) + (size_of (get_or ts i d) + size_of_all (drop (suc i) ts))
split_at [] i d within = absurd (omega arith)
split_at (t ∷ ts) zero d within = let whole = sum_cons (size_of t) (map size_of ts) in omega arith
split_at (t ∷ ts) (suc i) d within =
    let inside : i < length ts = omega arith in
    let rest = split_at ts i d inside in
    let whole = sum_cons (size_of t) (map size_of ts) in
    let front = sum_cons (size_of t) (map size_of (take i ts)) in
    omega arith

-- all of them weigh those before it, itself, and those behind it
pub split_size : (ts : List FoTerm) (i : ℕ) (d : FoTerm) → i < length ts
    → size_of_all ts ≡ size_of_all (take i ts) + (size_of (get_or ts i d) + size_of_all (take (length ts - (i + 1)) (drop (i + 1) ts)))
split_size ts i d within =
    let over : length (drop (i + 1) ts) ≤ length ts - (i + 1) = (let size = length-drop (i + 1) ts in omega arith) in
    let rest : size_of_all (take (length ts - (i + 1)) (drop (i + 1) ts)) ≡ size_of_all (drop (i + 1) ts) = ap size_of_all (take_all (length ts - (i + 1)) (drop (i + 1) ts) over) in
    let next : size_of_all (drop (i + 1) ts) ≡ size_of_all (drop (suc i) ts) = rw add-one refl in
    let split = split_at ts i d within in
    omega arith

pub item_is : (ts : List FoTerm) (i : ℕ) (t : FoTerm) → slice_get ts i ≡ Some t → get_or ts i t ≡ t
item_is [] i t is = cc
item_is (s ∷ ts) zero t is = cc
item_is (s ∷ ts) (suc i) t is = item_is ts i t is
