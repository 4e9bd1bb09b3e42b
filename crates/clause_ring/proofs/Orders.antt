-- Lists of entries whose numbers ascend, and the lightest entry of one.
use Rattle.std.proofs.Common.{◌≡◌, ℕ, ◌<◌, ◌≤◌, Bool, true, false, List, [], ◌∷◌, ◌++◌, get_or, refl, sym, arith, inl, inr}
use Rattle.std.specs.Prelude.{◌==◌, All}
use Rattle.std.proofs.lemmas.Bool.{eqb-true, eqb-false}
use Rattle.std.proofs.lemmas.List.Elements.{All-nil, All-cons, All-head, All-tail, All-append}
use Rattle.clause_ring.specs.declared.entry.Entry.{Entry}
use Rattle.clause_ring.specs.Picks.{IsNoHeavier}
use Rattle.clause_ring.specs.inner.Rings.{Ascends}

pub All-left : (P : Entry → Type 0) (xs ys : List Entry) → All P (xs ++ ys) → All P xs
All-left P [] ys all = All-nil P
All-left P (x ∷ xs) ys all = All-cons P x xs (All-head P x (xs ++ ys) all) (All-left P xs ys (All-tail P x (xs ++ ys) all))

pub All-right : (P : Entry → Type 0) (xs ys : List Entry) → All P (xs ++ ys) → All P ys
All-right P [] ys all = all
All-right P (x ∷ xs) ys all = All-right P xs ys (All-tail P x (xs ++ ys) all)

pub All-without : (P : Entry → Type 0) (xs : List Entry) (e : Entry) (ys : List Entry) → All P (xs ++ e ∷ ys) → All P (xs ++ ys)
All-without P xs e ys all = All-append P xs ys (All-left P xs (e ∷ ys) all) (All-tail P e ys (All-right P xs (e ∷ ys) all))

pub Ascends-without : (xs : List Entry) (e : Entry) (ys : List Entry) → Ascends (xs ++ e ∷ ys) → Ascends (xs ++ ys)
Ascends-without [] e ys up = up.1
Ascends-without (x ∷ xs) e ys up = (All-without (λ y. x.number < y.number) xs e ys up.0, Ascends-without xs e ys up.1)

pub Ascends-behind : (xs : List Entry) (e : Entry) (ys : List Entry) → Ascends (xs ++ e ∷ ys) → All (λ y. e.number < y.number) ys
Ascends-behind [] e ys up = up.0
Ascends-behind (x ∷ xs) e ys up = Ascends-behind xs e ys up.1

pub Ascends-push : (xs : List Entry) (e : Entry) → Ascends xs → All (λ x. x.number < e.number) xs → Ascends (xs ++ e ∷ [])
Ascends-push [] e up all = (All-nil (λ y. e.number < y.number), tt)
Ascends-push (x ∷ xs) e up all =
    let lt = All-head (λ y. y.number < e.number) x xs all in (
      All-append (λ y. x.number < y.number) xs (e ∷ []) up.0 (All-cons (λ y. x.number < y.number) e [] lt (All-nil (λ y. x.number < y.number))),
      Ascends-push xs e up.1 (All-tail (λ y. y.number < e.number) x xs all),
    )

-- where no entry has one of the lesser weights, each has this weight at least
pub heavier : (w : ℕ) (es : List Entry) → ((v : ℕ) → v < w → All (λ (e : Entry). e.weight ≡ v → ⊥) es) → All (λ (e : Entry). w ≤ e.weight) es
heavier w es none k d within =
    let no : (get_or es k d).weight < w → ⊥ = λ lt. none (get_or es k d).weight lt k d within refl in
    omega (arith, no)

older-heavier : (e : Entry) (es : List Entry) → All (λ (x : Entry). e.weight ≤ x.weight) es → All (λ (x : Entry). x.weight ≡ e.weight → ⊥) es → All (IsNoHeavier e) es
older-heavier e es least other k d within =
    let le = least k d within in
    let no = other k d within in
    inl (omega (arith, le, no))

newer-step : (b : Bool) (e x : Entry) → (x.weight == e.weight) ≡ b → e.weight ≤ x.weight → e.number < x.number → IsNoHeavier e x
newer-step true e x is le lt = inr (sym (eqb-true x.weight e.weight is), omega arith)
newer-step false e x is le lt = (let no = eqb-false x.weight e.weight is in inl (omega (arith, no)))

newer-heavier : (e : Entry) (es : List Entry) → All (λ (x : Entry). e.weight ≤ x.weight) es → All (λ (x : Entry). e.number < x.number) es → All (IsNoHeavier e) es
newer-heavier e es least above k d within = newer-step ((get_or es k d).weight == e.weight) e (get_or es k d) refl (least k d within) (above k d within)

pub lightest : (older : List Entry) (e : Entry) (newer : List Entry) → ((v : ℕ) → v < e.weight → All (λ (x : Entry). x.weight ≡ v → ⊥) (older ++ e ∷ newer))
    → All (λ (x : Entry). x.weight ≡ e.weight → ⊥) older → Ascends (older ++ e ∷ newer) → All (IsNoHeavier e) (older ++ e ∷ newer)
lightest older e newer none apart up =
    let all = heavier e.weight (older ++ e ∷ newer) none in
    let behind = All-right (λ (x : Entry). e.weight ≤ x.weight) older (e ∷ newer) all in
    All-append (IsNoHeavier e) older (e ∷ newer)
    (older-heavier e older (All-left (λ (x : Entry). e.weight ≤ x.weight) older (e ∷ newer) all) apart)
    (All-cons (IsNoHeavier e) e newer (inr (refl, omega arith)) (newer-heavier e newer (All-tail (λ (x : Entry). e.weight ≤ x.weight) e newer behind) (Ascends-behind older e newer up)))
