-- What a pick takes out of the waiting clauses, and what it leaves.
use Rattle.std.proofs.Common.{◌≡◌, ◌≢◌, ℕ, suc, ◌<◌, ◌≤◌, Bool, true, false, not, ◌==◌, cond, List, [], ◌∷◌, ◌++◌, length, subst, sym, ap, ◌∙◌, refl, arith, rules, Contains, All, Option, Some, None, MatchBool, remove, length-append}
use Rattle.std.specs.Prelude.{MatchOption}
use Rattle.std.proofs.lemmas.List.Quantifiers.{all_pairs_remove}
use Rattle.std.proofs.lemmas.List.Elements.{All-weaker, All-head, All-tail, All-cons, All-contains, Contains-append_right}
use Rattle.clause_ring.specs.declared.entry.Entry.{Entry}
use Rattle.clause_ring.specs.Picks.{Without, TakesLightest}
use Rattle.metis_core.specs.State.{without}
use Rattle.metis_core.specs.Pick.{AreAscending, IsLightest, IsOldest}

-- ---- an entry that stands between others leaves

unequal : (x y : ℕ) → y < x → (x == y) ≡ false
unequal x y less = let apart : x ≢ y = λ e. omega arith in search (rules, apart)

unequal' : (x y : ℕ) → x < y → (x == y) ≡ false
unequal' x y less = let apart : x ≢ y = λ e. omega arith in search (rules, apart)

equal : (x : ℕ) → (x == x) ≡ true
equal x = search rules

-- no entry has a number that all are above
nothing_leaves : (n : ℕ) (xs : List Entry) → All (λ e. n < e.number) xs → without n xs ≡ xs
nothing_leaves n [] above = refl
nothing_leaves n (x ∷ xs) above =
    ap (λ b. cond (not b) (x ∷ without n xs) (without n xs)) (unequal x.number n (All-head (λ e. n < e.number) x xs above))
    ∙ ap (λ l. x ∷ l) (nothing_leaves n xs (All-tail (λ e. n < e.number) x xs above))

ascending_head : (x : Entry) (xs : List Entry) → AreAscending (x ∷ xs) → All (λ e. x.number < e.number) xs
ascending_head x xs asc = λ k d less. asc 0 (suc k) d (omega arith) (omega arith)

ascending_tail : (x : Entry) (xs : List Entry) → AreAscending (x ∷ xs) → AreAscending xs
ascending_tail x xs asc = λ i j d before within. asc (suc i) (suc j) d (omega arith) (omega arith)

stands : (older : List Entry) (e : Entry) (newer : List Entry) → Contains (older ++ e ∷ newer) e
stands older e newer = Contains-append_right older (e ∷ newer) e (0, omega arith, refl)

leaves_between : (older : List Entry) (e : Entry) (newer : List Entry) → AreAscending (older ++ e ∷ newer) → without e.number (older ++ e ∷ newer) ≡ older ++ newer
leaves_between [] e newer asc =
    ap (λ b. cond (not b) (e ∷ without e.number newer) (without e.number newer)) (equal e.number)
    ∙ nothing_leaves e.number newer (ascending_head e newer asc)
leaves_between (x ∷ older) e newer asc =
    let rest = older ++ e ∷ newer in
    let before : x.number < e.number = All-contains (λ y. x.number < y.number) rest e (ascending_head x rest asc) (stands older e newer) in
    ap (λ b. cond (not b) (x ∷ without e.number rest) (without e.number rest)) (unequal' x.number e.number before)
    ∙ ap (λ l. x ∷ l) (leaves_between older e newer (ascending_tail x rest asc))

removed : (older : List Entry) (e : Entry) (newer : List Entry) → remove (older ++ e ∷ newer) (length older) ≡ older ++ newer
removed [] e newer = refl
removed (x ∷ older) e newer = ap (λ l. x ∷ l) (removed older e newer)

ascends_between : (older : List Entry) (e : Entry) (newer : List Entry) → AreAscending (older ++ e ∷ newer) → AreAscending (older ++ newer)
ascends_between older e newer asc =
    let within : length older < length (older ++ e ∷ newer) = omega (arith, length-append older (e ∷ newer)) in
    subst AreAscending (removed older e newer) (all_pairs_remove (λ x y. x.number < y.number) (older ++ e ∷ newer) (length older) within asc)

-- ---- what a pick takes

module _ (before now : List Entry) (asc : AreAscending before) where
  module _ (e : Entry) (out : Without before e now) where
    held : Contains before e
    held = subst (λ l. Contains l e) (sym out.stood) (stands out.older e out.newer)

    leaves : now ≡ without e.number before
    leaves = out.stay ∙ sym (leaves_between out.older e out.newer (subst AreAscending out.stood asc)) ∙ ap (without e.number) (sym out.stood)

    ascends : AreAscending now
    ascends = subst AreAscending (sym out.stay) (ascends_between out.older e out.newer (subst AreAscending out.stood asc))

  first_out : (e : Entry) → before ≡ e ∷ now → Without before e now
  first_out e is = record { older = []; newer = now; stood = is; stay = refl }

  least_number : (e : Entry) → before ≡ e ∷ now → All (λ d. e.number ≤ d.number) before
  least_number e is =
      let later = ascending_head e now (subst AreAscending is asc) in
      subst (All (λ d. e.number ≤ d.number)) (sym is)
      (All-cons (λ d. e.number ≤ d.number) e now (omega arith) (All-weaker (λ d. e.number < d.number) (λ d. e.number ≤ d.number) (λ d less. omega arith) now later))

  -- the first entry is the oldest
  pub takes_old : (oldest : Bool) (r : Option Entry) → oldest ≡ true → MatchOption r ((before ≡ []) × (now ≡ [])) (λ e. before ≡ e ∷ now)
      → MatchOption r ((before ≡ []) × (now ≡ [])) (λ e. MatchBool oldest (IsOldest before e) (IsLightest before e) × (now ≡ without e.number before))
  takes_old oldest None told none = none
  takes_old true (Some e) told is = ((held e (first_out e is), least_number e is), leaves e (first_out e is))
  takes_old false (Some e) told is = cc

  pub takes_light : (oldest : Bool) (r : Option Entry) → oldest ≡ false → MatchOption r ((before ≡ []) × (now ≡ [])) (λ e. TakesLightest before e now)
      → MatchOption r ((before ≡ []) × (now ≡ [])) (λ e. MatchBool oldest (IsOldest before e) (IsLightest before e) × (now ≡ without e.number before))
  takes_light oldest None told none = none
  takes_light true (Some e) told takes = cc
  takes_light false (Some e) told takes = ((held e takes.without, takes.lightest), leaves e takes.without)

  pub ascends_old : (r : Option Entry) → MatchOption r ((before ≡ []) × (now ≡ [])) (λ e. before ≡ e ∷ now) → AreAscending now
  ascends_old None none = subst AreAscending (none.0 ∙ sym none.1) asc
  ascends_old (Some e) is = ascends e (first_out e is)

  pub ascends_light : (r : Option Entry) → MatchOption r ((before ≡ []) × (now ≡ [])) (λ e. TakesLightest before e now) → AreAscending now
  ascends_light None none = subst AreAscending (none.0 ∙ sym none.1) asc
  ascends_light (Some e) takes = ascends e takes.without
