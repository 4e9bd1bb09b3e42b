-- One fact more is gathered.
use Rattle.std.proofs.Common.{◌≡◌, ℕ, ◌+◌, ◌-◌, ◌≤◌, List, [], ◌∷◌, ◌++◌, length, take, drop, refl, ap, ◌∙◌, arith, length-append, length-drop, drop_at}
use Rattle.std.specs.Prelude.{All, slice_range, if◌then◌else◌}
use Rattle.std.proofs.lemmas.List.{map-append, take_all, take-append-le, drop-append-le}
use Rattle.std.proofs.lemmas.List.Elements.{All-head, All-tail, All-weaker, All-push}
use Rattle.std.proofs.lemmas.List.Sums.{sum_by-append}
use mathlib.Core.Path.{fun_ext}
use Rattle.mepo_filter.specs.declared.placing.Place.{Place}
use Rattle.mepo_filter.specs.Constants.{occurs_in}
use Rattle.mepo_filter.specs.Scores.{Candidate, frequency}
use Rattle.mepo_filter.specs.inner.Tables.{all_met}
use Rattle.mepo_filter.specs.inner.Places.{IsWithin, candidate_at, candidates_at, constants_at}

-- more at the end leaves what stands before
range-kept : (xs ys : List ℕ) (s e : ℕ) → s ≤ e → e ≤ length xs → slice_range (xs ++ ys) s e ≡ slice_range xs s e
range-kept xs ys s e order within =
    ap (take (e - s)) (drop-append-le s xs ys (omega arith))
    ∙ take-append-le (e - s) (drop s xs) ys (omega (arith, length-drop s xs))

range-end : (xs ys : List ℕ) → slice_range (xs ++ ys) (length xs) (length (xs ++ ys)) ≡ ys
range-end xs ys =
    ap (take (length (xs ++ ys) - length xs)) (drop_at xs ys (length xs) refl)
    ∙ take_all (length (xs ++ ys) - length xs) ys (omega (arith, length-append xs ys))

kept : (xs ys : List ℕ) (ps : List Place) → All (IsWithin (length xs)) ps → candidates_at (xs ++ ys) ps ≡ candidates_at xs ps
kept xs ys [] within = refl
kept xs ys (p ∷ ps) within =
    let here : IsWithin (length xs) p = All-head (IsWithin (length xs)) p ps within in
    let same : constants_at (xs ++ ys) p ≡ constants_at xs p = range-kept xs ys p.start p.end here.0 here.1 in
    ap (λ (cs : List ℕ). record { fact = p.fact; constants = cs } ∷ candidates_at (xs ++ ys) ps) same
    ∙ ap (λ l. candidate_at xs p ∷ l) (kept xs ys ps (All-tail (IsWithin (length xs)) p ps within))

pub added-candidates : (xs ys zs : List ℕ) (ps : List Place) (p : Place) → zs ≡ xs ++ ys → All (IsWithin (length xs)) ps →
    p.start ≡ length xs → p.end ≡ length zs →
    candidates_at zs (ps ++ p ∷ []) ≡ candidates_at xs ps ++ record { fact = p.fact; constants = ys } ∷ []
added-candidates xs ys zs ps p is within start end =
    let own : constants_at zs p ≡ ys =
    ap (λ n. slice_range zs n p.end) start ∙ ap (λ n. slice_range zs (length xs) n) end
    ∙ ap (λ l. slice_range l (length xs) (length l)) is ∙ range-end xs ys in
    map-append (candidate_at zs) ps (p ∷ [])
    ∙ ap (λ (cs : List ℕ). candidates_at zs ps ++ record { fact = p.fact; constants = cs } ∷ []) own
    ∙ ap (λ l. l ++ record { fact = p.fact; constants = ys } ∷ []) (ap (λ l. candidates_at l ps) is ∙ kept xs ys ps within)

pub added-within : (xs ys zs : List ℕ) (ps : List Place) (p : Place) → zs ≡ xs ++ ys → All (IsWithin (length xs)) ps →
    p.start ≡ length xs → p.end ≡ length zs → All (IsWithin (length zs)) (ps ++ p ∷ [])
added-within xs ys zs ps p is within start end =
    let longer : length zs ≡ length xs + length ys = ap length is ∙ length-append xs ys in
    All-push (IsWithin (length zs)) ps p
    (All-weaker (IsWithin (length xs)) (IsWithin (length zs)) (λ q h. (h.0, omega (arith, h.1))) ps within)
    (omega arith, omega arith)

pub frequency-push : (cs : List Candidate) (f : Candidate) → all_met (frequency cs) (occurs_in f.constants) ≡ frequency (cs ++ f ∷ [])
frequency-push cs f = fun_ext (λ (d : ℕ). omega (arith, sum_by-append (λ (g : Candidate). if occurs_in g.constants d then 1 else 0) cs (f ∷ [])))
