-- Places of entries that wait, along the list by age.
use Rattle.std.proofs.Common.{◌≡◌, ℕ, ◌+◌, Bool, true, false, List, [], ◌∷◌, ◌++◌, length, refl, sym, ap, ◌∙◌, arith, eq-eqb}
use Rattle.std.specs.Prelude.{◌==◌, ◌&&◌, if◌then◌else◌, All}
use Rattle.std.proofs.lemmas.Bool.{eqb-true, eqb-false, ne_eqb}
use Rattle.std.proofs.lemmas.List.{append-nil}
use Rattle.std.proofs.lemmas.List.Elements.{All-nil, All-cons}
use Rattle.clause_ring.specs.declared.ages.Aged.{Aged}
use Rattle.clause_ring.specs.declared.entry.Entry.{Entry}
use Rattle.clause_ring.specs.inner.Ages.{waiting, places, waits_at, waiter}

put-append : (b : Bool) (e : Entry) (us vs ws : List Entry) → us ≡ vs ++ ws → (if b then e ∷ us else us) ≡ (if b then e ∷ vs else vs) ++ ws
put-append true e us vs ws is = ap (λ l. e ∷ l) is
put-append false e us vs ws is = is

pub waiting-append : (xs ys : List Aged) → waiting (xs ++ ys) ≡ waiting xs ++ waiting ys
waiting-append [] ys = refl
waiting-append (x ∷ xs) ys = put-append x.waits x.entry _ _ _ (waiting-append xs ys)

place-append : (b : Bool) (at : ℕ) (us vs ws : List ℕ) → us ≡ vs ++ ws → (if b then at ∷ us else us) ≡ (if b then at ∷ vs else vs) ++ ws
place-append true at us vs ws is = ap (λ l. at ∷ l) is
place-append false at us vs ws is = is

pub places-append : (w at : ℕ) (xs ys : List Aged) → places w at (xs ++ ys) ≡ places w at xs ++ places w (at + length xs) ys
places-append w at [] ys = let e : at + 0 ≡ at = omega arith in sym (ap (λ n. places w n ys) e)
places-append w at (x ∷ xs) ys =
    let e : (at + 1) + length xs ≡ at + length (x ∷ xs) = omega arith in
    place-append (waits_at w x) at _ _ _ (places-append w (at + 1) xs ys ∙ ap (λ n. places w (at + 1) xs ++ places w n ys) e)

-- the first place is that of an entry that waits and weighs as much, and none before it does
pub record Stands (w at : ℕ) (aged : List Aged) (place : ℕ) (rest : List ℕ) : Type 0 where
  pub older : List Aged
  pub entry : Entry
  pub newer : List Aged
  pub stood : aged ≡ older ++ waiter entry ∷ newer
  pub place_is : place ≡ at + length older
  pub weight : entry.weight ≡ w
  pub none : places w at older ≡ []
  pub rest_is : rest ≡ places w (at + length older + 1) newer

both-left : (a b : Bool) → (a && b) ≡ true → a ≡ true
both-left true b e = refl
both-left false b e = e

both-right : (a b : Bool) → (a && b) ≡ true → b ≡ true
both-right true b e = e
both-right false b e = cc

here : (w at : ℕ) (a : Aged) (more : List Aged) (place : ℕ) (rest : List ℕ) → waits_at w a ≡ true → at ∷ places w (at + 1) more ≡ place ∷ rest → Stands w at (a ∷ more) place rest
here w at a more place rest is e = record {
  older = [];
  entry = a.entry;
  newer = more;
  stood = (let b = both-left a.waits (a.entry.weight == w) is in ap (λ (b : Bool). (let x : Aged = record { entry = a.entry; waits = b } in x) ∷ more) b);
  place_is = (let p : at ≡ place = cc in omega arith);
  weight = eqb-true a.entry.weight w (both-right a.waits (a.entry.weight == w) is);
  none = refl;
  rest_is = (let r : rest ≡ places w (at + 1) more = cc in let n : at + 1 ≡ at + 0 + 1 = omega arith in r ∙ ap (λ k. places w k more) n);
}

later : (w at : ℕ) (a : Aged) (more : List Aged) (place : ℕ) (rest : List ℕ) → waits_at w a ≡ false → Stands w (at + 1) more place rest → Stands w at (a ∷ more) place rest
later w at a more place rest is s =
    let n : (at + 1) + length s.older ≡ at + length (a ∷ s.older) = omega arith in
    record {
      older = a ∷ s.older;
      entry = s.entry;
      newer = s.newer;
      stood = ap (λ l. a ∷ l) s.stood;
      place_is = s.place_is ∙ n;
      weight = s.weight;
      none = ap (λ b. if b then at ∷ places w (at + 1) s.older else places w (at + 1) s.older) is ∙ s.none;
      rest_is = s.rest_is ∙ ap (λ k. places w (k + 1) s.newer) n;
    }

stands-here : (b : Bool) (w at : ℕ) (a : Aged) (more : List Aged) (place : ℕ) (rest : List ℕ) → waits_at w a ≡ b → (if b then at ∷ places w (at + 1) more else places w (at + 1) more) ≡ place ∷ rest → ((n : ℕ) → places w n more ≡ place ∷ rest → Stands w n more place rest) → Stands w at (a ∷ more) place rest
stands-here true w at a more place rest is e go = here w at a more place rest is e
stands-here false w at a more place rest is e go = later w at a more place rest is (go (at + 1) e)

pub stands-first : (w at : ℕ) (aged : List Aged) (place : ℕ) (rest : List ℕ) → places w at aged ≡ place ∷ rest → Stands w at aged place rest
stands-first w at [] place rest e = cc
stands-first w at (a ∷ more) place rest e = stands-here (waits_at w a) w at a more place rest refl e (λ n f. stands-first w n more place rest f)

none-waits : (waits : Bool) (w : ℕ) (e : Entry) (es : List Entry) → (waits && (e.weight == w)) ≡ false → All (λ (x : Entry). x.weight ≡ w → ⊥) es → All (λ (x : Entry). x.weight ≡ w → ⊥) (if waits then e ∷ es else es)
none-waits true w e es is all = All-cons (λ (x : Entry). x.weight ≡ w → ⊥) e es (eqb-false e.weight w is) all
none-waits false w e es is all = all

none-here : (b : Bool) (w at : ℕ) (a : Aged) (more : List Aged) → waits_at w a ≡ b → (if b then at ∷ places w (at + 1) more else places w (at + 1) more) ≡ [] → ((n : ℕ) → places w n more ≡ [] → All (λ (e : Entry). e.weight ≡ w → ⊥) (waiting more)) → All (λ (e : Entry). e.weight ≡ w → ⊥) (waiting (a ∷ more))
none-here true w at a more is e go = cc
none-here false w at a more is e go = none-waits a.waits w a.entry (waiting more) is (go (at + 1) e)

-- a weight none of whose entries has a place is that of no entry that waits
pub none-weighs : (w at : ℕ) (aged : List Aged) → places w at aged ≡ [] → All (λ (e : Entry). e.weight ≡ w → ⊥) (waiting aged)
none-weighs w at [] e = All-nil (λ (e : Entry). e.weight ≡ w → ⊥)
none-weighs w at (a ∷ more) e = none-here (waits_at w a) w at a more refl e (λ n f. none-weighs w n more f)

no-place : (b same : Bool) (at : ℕ) (e : Entry) (es : List Entry) (ps : List ℕ) → (if b then e ∷ es else es) ≡ [] → (es ≡ [] → ps ≡ []) → (if b && same then at ∷ ps else ps) ≡ []
no-place true same at e es ps none rest = cc
no-place false same at e es ps none rest = rest none

-- where no entry waits, none has a place
pub none-placed : (w at : ℕ) (aged : List Aged) → waiting aged ≡ [] → places w at aged ≡ []
none-placed w at [] none = refl
none-placed w at (a ∷ more) none = no-place a.waits (a.entry.weight == w) at a.entry (waiting more) (places w (at + 1) more) none (λ rest. none-placed w (at + 1) more rest)

-- an entry that was picked
abbrev pub picked : Entry → Aged
picked e = record { entry = e; waits = false }

pub waiting-waiter : (older : List Aged) (e : Entry) (newer : List Aged) → waiting (older ++ waiter e ∷ newer) ≡ waiting older ++ e ∷ waiting newer
waiting-waiter older e newer = waiting-append older (waiter e ∷ newer)

pub waiting-picked : (older : List Aged) (e : Entry) (newer : List Aged) → waiting (older ++ picked e ∷ newer) ≡ waiting older ++ waiting newer
waiting-picked older e newer = waiting-append older (picked e ∷ newer)

passed-over : (b : Bool) (place : ℕ) (rest : List ℕ) → b ≡ false → (if b then place ∷ rest else rest) ≡ rest
passed-over true place rest is = cc
passed-over false place rest is = refl

pub places-picked : (w at : ℕ) (older : List Aged) (e : Entry) (newer : List Aged) → places w at (older ++ picked e ∷ newer) ≡ places w at older ++ places w (at + length older + 1) newer
places-picked w at older e newer = places-append w at older (picked e ∷ newer)

-- a pick of an entry of another weight leaves the places
pub places-other : (w at : ℕ) (older : List Aged) (e : Entry) (newer : List Aged) → (e.weight ≡ w → ⊥) → places w at (older ++ picked e ∷ newer) ≡ places w at (older ++ waiter e ∷ newer)
places-other w at older e newer apart =
    places-picked w at older e newer
    ∙ sym (ap (λ l. places w at older ++ l) (passed-over (e.weight == w) (at + length older) (places w (at + length older + 1) newer) (ne_eqb e.weight w apart)))
    ∙ sym (places-append w at older (waiter e ∷ newer))

one-more : (b : Bool) (place : ℕ) (before : List ℕ) → b ≡ true → before ++ (if b then place ∷ [] else []) ≡ before ++ place ∷ []
one-more true place before is = refl
one-more false place before is = cc

-- an entry that comes adds its place to those of its weight, and none to the others
pub places-comes : (w at : ℕ) (aged : List Aged) (e : Entry) → e.weight ≡ w → places w at (aged ++ waiter e ∷ []) ≡ places w at aged ++ (at + length aged) ∷ []
places-comes w at aged e is = places-append w at aged (waiter e ∷ []) ∙ one-more (e.weight == w) (at + length aged) (places w at aged) (eq-eqb e.weight w is)

pub places-stay : (w at : ℕ) (aged : List Aged) (e : Entry) → (e.weight ≡ w → ⊥) → places w at (aged ++ waiter e ∷ []) ≡ places w at aged
places-stay w at aged e apart =
    places-append w at aged (waiter e ∷ [])
    ∙ ap (λ l. places w at aged ++ l) (passed-over (e.weight == w) (at + length aged) [] (ne_eqb e.weight w apart))
    ∙ append-nil (places w at aged)
