-- What each call of a ring keeps.
use Rattle.std.proofs.Common.{◌≡◌, ℕ, zero, suc, ◌+◌, ◌-◌, ◌<◌, ◌≤◌, Bool, true, false, List, [], ◌∷◌, ◌++◌, length, get_or, set, refl, sym, ap, ◌∙◌, subst, arith, eq-eqb, get_or-set_same, get_or-set_other, length-append}
use Rattle.std.specs.Prelude.{◌==◌, if◌then◌else◌, All, Option, Some, None, MatchOption, slice_get}
use Rattle.std.proofs.lemmas.Bool.{eqb-true, eqb-false, ne_eqb}
use Rattle.std.proofs.lemmas.Option.{get_or_from_slice_get, slice_get_read}
use Rattle.std.proofs.lemmas.List.{length-set}
use Rattle.std.proofs.lemmas.List.Elements.{All-nil, All-cons, All-head, All-tail, All-append}
use Rattle.std.proofs.Math.Seq.{get_or-append_seam, set-append_seam}
use Rattle.clause_ring.specs.declared.ages.Aged.{Aged}
use Rattle.clause_ring.specs.declared.entry.Entry.{Entry}
use Rattle.clause_ring.specs.Picks.{TakesLightest, IsNoHeavier}
use Rattle.clause_ring.specs.inner.Ages.{Line, waiting, places, places_in, waiter, Comes, Leaves, IsTaken, IsOver}
use Rattle.clause_ring.specs.inner.Buckets.{AreEmpty, IsFirstFilled}
use Rattle.clause_ring.specs.inner.Rings.{IsRing, Ascends}
use Rattle.clause_ring.proofs.Places.{stands-first, none-weighs, none-placed, picked, waiting-append, waiting-waiter, waiting-picked, places-picked, places-other, places-comes, places-stay}
use Rattle.clause_ring.proofs.Orders.{All-without, Ascends-without, Ascends-push, lightest}

filled-step : (b : Bool) (buckets : List (List ℕ)) (w v : ℕ) (x : List ℕ) (wanted : ℕ → List ℕ) → (v == w) ≡ b → w < length buckets → x ≡ wanted w
    → ((v ≡ w → ⊥) → get_or buckets v [] ≡ wanted v) → get_or (set buckets w x) v [] ≡ wanted v
filled-step true buckets w v x wanted is within here others =
    let e = eqb-true v w is in
    ap (λ n. get_or (set buckets w x) n []) e ∙ get_or-set_same buckets w x [] within ∙ here ∙ ap wanted (sym e)
filled-step false buckets w v x wanted is within here others =
    let no = eqb-false v w is in
    get_or-set_other buckets w v x [] no ∙ others no

-- a bucket is exchanged, and the others stay
pub filled : (buckets : List (List ℕ)) (w : ℕ) (x : List ℕ) (wanted : ℕ → List ℕ) → w < length buckets → x ≡ wanted w
    → ((v : ℕ) → v < 513 → (v ≡ w → ⊥) → get_or buckets v [] ≡ wanted v) → (v : ℕ) → v < 513 → get_or (set buckets w x) v [] ≡ wanted v
filled buckets w x wanted within here others v lt = filled-step (v == w) buckets w v x wanted refl within here (others v lt)

line-is : (l : Line) (gone : ℕ) (aged : List Aged) → l.gone ≡ gone → l.aged ≡ aged → l ≡ record { gone = gone; aged = aged }
line-is l gone aged g a = ap (λ n. (let x : Line = record { gone = n; aged = l.aged } in x)) g ∙ ap (λ l'. (let x : Line = record { gone = gone; aged = l' } in x)) a

-- an entry came
pub comes : (buckets : List (List ℕ)) (line now : Line) (e : Entry) (bucket : List ℕ) → IsRing buckets line → Comes line e now → e.weight ≤ 512
    → All (λ other. other.number < e.number) (waiting line.aged) → bucket ≡ get_or buckets e.weight [] ++ (line.gone + length line.aged) ∷ [] → IsRing (set buckets e.weight bucket) now
comes buckets line now e bucket ring come light newest is =
    let P : Line → Type 0 = λ l. IsRing (set buckets e.weight bucket) l in
    let added : waiting (line.aged ++ waiter e ∷ []) ≡ waiting line.aged ++ e ∷ [] = waiting-append line.aged (waiter e ∷ []) in
    let within : e.weight < length buckets = omega (arith, ring.many) in
    subst P (sym (line-is now line.gone (line.aged ++ waiter e ∷ []) come.gone come.aged)) (record {
      many = length-set buckets e.weight bucket ∙ ring.many;
      filled = filled buckets e.weight bucket (λ v. places v line.gone (line.aged ++ waiter e ∷ [])) within
          (is ∙ ap (λ l. l ++ (line.gone + length line.aged) ∷ []) (ring.filled e.weight (omega arith)) ∙ sym (places-comes e.weight line.gone line.aged e refl))
          (λ v lt apart. ring.filled v lt ∙ sym (places-stay v line.gone line.aged e (λ s. apart (sym s))));
      light = (let Q : List Entry → Type 0 = λ es. All (λ (x : Entry). x.weight < 513) es in subst Q (sym added) (All-append (λ (x : Entry). x.weight < 513) (waiting line.aged) (e ∷ []) ring.light (All-cons (λ (x : Entry). x.weight < 513) e [] (omega arith) (All-nil (λ (x : Entry). x.weight < 513)))));
      ascends = (let Q : List Entry → Type 0 = λ es. Ascends es in subst Q (sym added) (Ascends-push (waiting line.aged) e ring.ascends newest));
    })

pub waits-more : (line now : Line) (e : Entry) → Comes line e now → waiting now.aged ≡ waiting line.aged ++ e ∷ []
waits-more line now e come = ap waiting come.aged ∙ waiting-append line.aged (waiter e ∷ [])

-- the place of the oldest left its bucket
popped-step : (bucket rest : List ℕ) (place : ℕ) (b : Bool) → b ≡ true → bucket ≡ (if b then place ∷ rest else rest) → bucket ≡ place ∷ rest
popped-step bucket rest place true is e = e
popped-step bucket rest place false is e = cc

other-step : (rest bucket : List ℕ) (place : ℕ) (b : Bool) → b ≡ false → bucket ≡ (if b then place ∷ rest else rest) → bucket ≡ rest
other-step rest bucket place true is e = cc
other-step rest bucket place false is e = e

pub first-place : (buckets : List (List ℕ)) (line now : Line) (e : Entry) → IsRing buckets line → (leave : Leaves line e now) → e.weight < 513 → get_or buckets e.weight [] ≡ leave.place ∷ places_in e.weight now
first-place buckets line now e ring leave light =
    popped-step _ _ leave.place (e.weight == e.weight) (eq-eqb e.weight e.weight refl) (ring.filled e.weight light ∙ leave.places_are e.weight)

pub oldest-light : (buckets : List (List ℕ)) (line now : Line) (e : Entry) → IsRing buckets line → Leaves line e now → e.weight < 513
oldest-light buckets line now e ring leave =
    let Q : List Entry → Type 0 = λ es. All (λ (x : Entry). x.weight < 513) es in
    All-head (λ (x : Entry). x.weight < 513) e (waiting now.aged) (subst Q leave.waiting_is ring.light)

pub leaves : (buckets : List (List ℕ)) (line now : Line) (e : Entry) (bucket : List ℕ) → IsRing buckets line → Leaves line e now → bucket ≡ places_in e.weight now → IsRing (set buckets e.weight bucket) now
leaves buckets line now e bucket ring leave is =
    let light = oldest-light buckets line now e ring leave in
    let Q : List Entry → Type 0 = λ es. All (λ (x : Entry). x.weight < 513) es in
    let U : List Entry → Type 0 = λ es. Ascends es in
    let up = subst U leave.waiting_is ring.ascends in
    record {
      many = length-set buckets e.weight bucket ∙ ring.many;
      filled = filled buckets e.weight bucket (λ v. places_in v now) (omega (arith, ring.many)) is
          (λ v lt apart. ring.filled v lt ∙ other-step (places_in v now) (places_in v line) leave.place (e.weight == v) (ne_eqb e.weight v (λ s. apart (sym s))) (leave.places_are v));
      light = All-tail (λ (x : Entry). x.weight < 513) e (waiting now.aged) (subst Q leave.waiting_is ring.light);
      ascends = up.1;
    }

-- nothing waited
pub over : (buckets : List (List ℕ)) (line now : Line) → IsRing buckets line → IsOver line now → IsRing buckets now
over buckets line now ring none =
    let Q : List Entry → Type 0 = λ es. All (λ (x : Entry). x.weight < 513) es in
    let U : List Entry → Type 0 = λ es. Ascends es in
    record {
      many = ring.many;
      filled = λ v lt. ring.filled v lt ∙ sym (none.same v);
      light = subst Q (sym none.none_now) (All-nil (λ (x : Entry). x.weight < 513));
      ascends = subst U (sym none.none_now) tt;
    }

-- the first of the lightest was taken
pub record IsPicked (buckets : List (List ℕ)) (line : Line) (w : ℕ) (rest : List ℕ) (e : Entry) (now : Line) : Type 0 where
  pub ring : IsRing (set buckets w rest) now
  pub takes : TakesLightest (waiting line.aged) e (waiting now.aged)

pick-core : (buckets : List (List ℕ)) (gone : ℕ) (older : List Aged) (e : Entry) (newer : List Aged) (rest : List ℕ)
    → IsRing buckets (record { gone = gone; aged = older ++ waiter e ∷ newer }) → AreEmpty buckets e.weight → e.weight < 513 → places e.weight gone older ≡ []
    → rest ≡ places e.weight (gone + length older + 1) newer
    → IsPicked buckets (record { gone = gone; aged = older ++ waiter e ∷ newer }) e.weight rest e (record { gone = gone; aged = older ++ picked e ∷ newer })
pick-core buckets gone older e newer rest ring lighter light none is =
    let before = waiting-waiter older e newer in
    let after = waiting-picked older e newer in
    let Q : List Entry → Type 0 = λ es. All (λ (x : Entry). x.weight < 513) es in
    let U : List Entry → Type 0 = λ es. Ascends es in
    let up = subst U before ring.ascends in
    let here : rest ≡ places e.weight gone (older ++ picked e ∷ newer) =
    is ∙ sym (ap (λ l. l ++ places e.weight (gone + length older + 1) newer) none) ∙ sym (places-picked e.weight gone older e newer) in
    let fewer : (v : ℕ) → v < e.weight → All (λ (x : Entry). x.weight ≡ v → ⊥) (waiting older ++ e ∷ waiting newer) =
    λ v lt.
    let F : List Entry → Type 0 = λ es. All (λ (x : Entry). x.weight ≡ v → ⊥) es in
    subst F before (none-weighs v gone (older ++ waiter e ∷ newer) (sym (ring.filled v (omega (arith, lt, light))) ∙ lighter v lt)) in
    let least = lightest (waiting older) e (waiting newer) fewer (none-weighs e.weight gone older none) up in
    record {
      ring = record {
        many = length-set buckets e.weight rest ∙ ring.many;
        filled = filled buckets e.weight rest (λ v. places v gone (older ++ picked e ∷ newer)) (omega (arith, ring.many)) here
            (λ v lt apart. ring.filled v lt ∙ sym (places-other v gone older e newer (λ s. apart (sym s))));
        light = subst Q (sym after) (All-without (λ (x : Entry). x.weight < 513) (waiting older) e (waiting newer) (subst Q before ring.light));
        ascends = subst U (sym after) (Ascends-without (waiting older) e (waiting newer) up);
      };
      takes = record {
        without = record { older = waiting older; newer = waiting newer; stood = before; stay = after };
        lightest = (let N : List Entry → Type 0 = λ es. All (IsNoHeavier e) es in subst N (sym before) least);
      };
    }

entry-is : (older : List Aged) (entry : Entry) (newer : List Aged) (aged : List Aged) (at : ℕ) (e : Entry) (b : Bool) → aged ≡ older ++ waiter entry ∷ newer → at ≡ length older
    → slice_get aged at ≡ Some (record { entry = e; waits = b }) → e ≡ entry
entry-is older entry newer aged at e b is place stood =
    let x : Aged = record { entry = e; waits = b } in
    let found = get_or_from_slice_get aged at x x stood in
    let same = ap (λ l. get_or l at x) is ∙ ap (λ n. get_or (older ++ waiter entry ∷ newer) n x) place ∙ get_or-append_seam older (waiter entry) newer x in
    ap (λ (a : Aged). a.entry) (sym found ∙ same)

now-is : (older : List Aged) (entry : Entry) (newer : List Aged) (aged now : List Aged) (at : ℕ) (e : Entry) → aged ≡ older ++ waiter entry ∷ newer → at ≡ length older → e ≡ entry
    → now ≡ set aged at (picked e) → now ≡ older ++ picked entry ∷ newer
now-is older entry newer aged now at e is place same set_is =
    set_is ∙ ap (λ l. set l at (picked e)) is ∙ ap (λ n. set (older ++ waiter entry ∷ newer) n (picked e)) place
    ∙ set-append_seam older (waiter entry) newer (picked e) ∙ ap (λ x. older ++ picked x ∷ newer) same

-- the first of the lightest was taken
pub picks : (buckets : List (List ℕ)) (line now : Line) (w place : ℕ) (rest : List ℕ) (e : Entry) → IsRing buckets line → w < 513 → AreEmpty buckets w
    → get_or buckets w [] ≡ place ∷ rest → now.gone ≡ line.gone → IsTaken line.aged (place - line.gone) e now.aged → IsPicked buckets line w rest e now
picks buckets line now w place rest e ring light lighter held gone taken =
    let s = stands-first w line.gone line.aged place rest (sym (ring.filled w light) ∙ held) in
    let at : place - line.gone ≡ length s.older = omega (arith, s.place_is) in
    let same = entry-is s.older s.entry s.newer line.aged (place - line.gone) e taken.waited s.stood at taken.stood in
    let line_is = line-is line line.gone (s.older ++ waiter s.entry ∷ s.newer) refl s.stood in
    let now_is = line-is now line.gone (s.older ++ picked s.entry ∷ s.newer) gone (now-is s.older s.entry s.newer line.aged now.aged (place - line.gone) e s.stood at same taken.now_is) in
    let L : Line = record { gone = line.gone; aged = s.older ++ waiter s.entry ∷ s.newer } in
    let N : Line = record { gone = line.gone; aged = s.older ++ picked s.entry ∷ s.newer } in
    let R : Line → Type 0 = λ l. IsRing buckets l in
    let E : ℕ → Type 0 = λ v. AreEmpty buckets v in
    let core = pick-core buckets line.gone s.older s.entry s.newer rest (subst R line_is ring) (subst E (sym s.weight) lighter) (omega (arith, s.weight))
    (ap (λ v. places v line.gone s.older) s.weight ∙ s.none) (s.rest_is ∙ ap (λ v. places v (line.gone + length s.older + 1) s.newer) (sym s.weight)) in
    let P₁ : ℕ → Type 0 = λ v. IsPicked buckets L v rest s.entry N in
    let P₂ : Entry → Type 0 = λ x. IsPicked buckets L w rest x N in
    let P₃ : Line → Type 0 = λ l. IsPicked buckets l w rest e N in
    let P₄ : Line → Type 0 = λ l. IsPicked buckets line w rest e l in
    subst P₄ (sym now_is) (subst P₃ (sym line_is) (subst P₂ (sym same) (subst P₁ s.weight core)))

-- the place that the pick takes is one of the list
pub place-stands : (buckets : List (List ℕ)) (line : Line) (w place : ℕ) (rest : List ℕ) → IsRing buckets line → w < 513 → get_or buckets w [] ≡ place ∷ rest
    → (line.gone ≤ place) × (place < line.gone + length line.aged)
place-stands buckets line w place rest ring light held =
    let s = stands-first w line.gone line.aged place rest (sym (ring.filled w light) ∙ held) in
    let many = ap length s.stood ∙ length-append s.older (waiter s.entry ∷ s.newer) in
    (omega (arith, s.place_is), omega (arith, s.place_is, many))

-- where all buckets are empty, nothing waits
none-at : (es : List Entry) → All (λ (x : Entry). x.weight < 513) es → ((v : ℕ) → v < 513 → All (λ (x : Entry). x.weight ≡ v → ⊥) es) → es ≡ []
none-at [] light none = refl
none-at (e ∷ es) light none =
    absurd (All-head (λ (x : Entry). x.weight ≡ e.weight → ⊥) e es (none e.weight (All-head (λ (x : Entry). x.weight < 513) e es light)) refl)

pub none-waits : (buckets : List (List ℕ)) (line : Line) → IsRing buckets line → AreEmpty buckets (length buckets) → waiting line.aged ≡ []
none-waits buckets line ring empty =
    none-at (waiting line.aged) ring.light (λ v lt. none-weighs v line.gone line.aged (sym (ring.filled v lt) ∙ empty v (omega (arith, ring.many))))

pub all-empty : (buckets : List (List ℕ)) (line : Line) → IsRing buckets line → waiting line.aged ≡ [] → AreEmpty buckets (length buckets)
all-empty buckets line ring none v lt = ring.filled v (omega (arith, lt, ring.many)) ∙ none-placed v line.gone line.aged none

-- what stands at a place in range, whatever is taken for one out of range
pub held : (buckets : List (List ℕ)) (w : ℕ) (x : List ℕ) → w < length buckets → x ≡ get_or buckets w x → get_or buckets w [] ≡ x
held buckets w x within is = get_or_from_slice_get buckets w x [] (slice_get_read buckets (length buckets) w x refl within is)

pub popped : (r : Option ℕ) (old now : List ℕ) (place : ℕ) (rest : List ℕ) → MatchOption r ((old ≡ []) × (now ≡ [])) (λ p. old ≡ p ∷ now) → old ≡ place ∷ rest → now ≡ rest
popped None old now place rest h e = (let k = h.0 in cc)
popped (Some p) old now place rest h e = cc

first-step : (x : List ℕ) (buckets : List (List ℕ)) (w : ℕ) → get_or buckets w [] ≡ x → (x ≡ [] → ⊥) → AreEmpty buckets w → IsFirstFilled buckets w
first-step [] buckets w is some lighter = absurd (some refl)
first-step (p ∷ rest) buckets w is some lighter = record { lighter = lighter; first = p; rest = rest; held = is }

-- a bucket in range that isn't empty is the first
pub first-filled : (buckets : List (List ℕ)) (w : ℕ) (x : List ℕ) → w < length buckets → x ≡ get_or buckets w x → (x ≡ [] → ⊥) → AreEmpty buckets w → IsFirstFilled buckets w
first-filled buckets w x within is some lighter = first-step x buckets w (held buckets w x within is) some lighter

get_or-past : (buckets : List (List ℕ)) (w first : ℕ) (rest : List ℕ) → get_or buckets w [] ≡ first ∷ rest → w < length buckets
get_or-past [] w first rest is = cc
get_or-past (b ∷ buckets) zero first rest is = omega arith
get_or-past (b ∷ buckets) (suc w) first rest is = (let l = get_or-past buckets w first rest is in omega (arith, l))

pub filled-within : (buckets : List (List ℕ)) (w : ℕ) → IsFirstFilled buckets w → w < length buckets
filled-within buckets w f = get_or-past buckets w f.first f.rest f.held
