-- Where nothing waits, the active clauses are closed.
use Rattle.std.proofs.Common.{◌≡◌, ℕ, zero, suc, ◌<◌, ◌⊎◌, inl, inr, Bool, true, false, not, ◌==◌, cond, List, [], ◌∷◌, ◌++◌, length, map, subst, sym, ap, ◌∙◌, refl, arith, rules, Contains, Some, slice_get, option_map, ◌≤◌}
use Rattle.std.proofs.lemmas.List.{length_push}
use Rattle.std.proofs.lemmas.List.Elements.{Contains-append_left, Contains-push, Contains-push_cases}
use Rattle.std.proofs.lemmas.Option.{get_or_from_slice_get, slice_get_within, slice_get-get_or, slice_get-map}
use Rattle.fo_terms.specs.declared.clause.Clause.{Clause}
use Rattle.fo_terms.specs.Weight.{clause_size}
use Rattle.fo_infer.specs.declared.made.Made.{Made}
use Rattle.fo_infer.specs.Inferences.{Alone, BetweenAt}
use Rattle.metis_core.specs.declared.given.Given.{Given}
use Rattle.metis_core.specs.declared.given.Positions.{Positions}
use Rattle.metis_core.specs.declared.premises.Premises.{Premises}
use Rattle.metis_core.specs.declared.premises.Premises.TheVariants.{One, Two}
use Rattle.clause_ring.specs.declared.entry.Entry.{Entry}
use Rattle.metis_core.specs.State.{State, nothing, keeping, activating, without, IsActive}
use Rattle.metis_core.specs.Offer.{Barred, tautology, heavy, subsumed, known, Passed, on, over, saturated, Offer, barred, kept, Through, done, next, ends}
use Rattle.metis_core.specs.Search.{position_of, normal_forms, Infers, Inferred, pairs, Run, inputs, pick, Search, at_inputs, at_pick, nothing_waits}
use Rattle.metis_core.specs.Closed.{Redundant, Closed, tautology as is_tautological, heavy as is_heavy, subsumed as is_subsumed, active as is_active}
use Rattle.fo_infer.proofs.OneLists.{one_alone, one_between}
use Rattle.metis_core.proofs.Following.{item_stays}
use Rattle.metis_core.proofs.Stocks.{item_before}

-- ---- members of lists

member_cases : {A : Type 0} (x y : A) (xs : List A) → Contains (x ∷ xs) y → (x ≡ y) ⊎ Contains xs y
member_cases x y xs (zero, less, at) = inl at
member_cases x y xs (suc k, less, at) = inr (k, omega arith, at)

member_first : {A : Type 0} (x : A) (xs : List A) → Contains (x ∷ xs) x
member_first x xs = (0, omega arith, refl)

member_later : {A : Type 0} (x y : A) (xs : List A) → Contains xs y → Contains (x ∷ xs) y
member_later x y xs (k, less, at) = (suc k, omega arith, at)

none_member : {A : Type 0} (x : A) → Contains [] x → ⊥
none_member x (k, less, at) = omega arith

place_of : {A : Type 0} (xs : List A) (x : A) → Contains xs x → (n : ℕ) × (slice_get xs n ≡ Some x)
place_of xs x (k, less, at) = (k, slice_get-get_or xs k x less ∙ ap Some at)

member_at : {A : Type 0} (xs : List A) (x : A) (n : ℕ) → slice_get xs n ≡ Some x → Contains xs x
member_at xs x n is = (n, slice_get_within xs n x is, get_or_from_slice_get xs n x x is)

-- an entry of another number stays
stays_without : (n : ℕ) (d : Entry) (waiting : List Entry) → (d.number == n) ≡ false → Contains waiting d → Contains (without n waiting) d
stays_without n d [] apart held = absurd (none_member d held)
stays_without n d (e ∷ waiting) apart held = at (stays_without n d waiting apart) (e.number == n) refl (member_cases e d waiting held)
  where
    shape : (b : Bool) → (e.number == n) ≡ b → without n (e ∷ waiting) ≡ cond (not b) (e ∷ without n waiting) (without n waiting)
    shape b is = ap (λ b. cond (not b) (e ∷ without n waiting) (without n waiting)) is

    at : (Contains waiting d → Contains (without n waiting) d) → (b : Bool) → (e.number == n) ≡ b → (e ≡ d) ⊎ Contains waiting d → Contains (without n (e ∷ waiting)) d
    at rest true is (inl same) = absurd (let wrong : (d.number == n) ≡ true = ap (λ x. x.number == n) (sym same) ∙ is in cc)
    at rest true is (inr later) = subst (λ l. Contains l d) (sym (shape true is)) (rest later)
    at rest false is (inl same) = subst (λ l. Contains l d) (sym (shape false is)) (subst (λ x. Contains (e ∷ without n waiting) x) same (member_first e (without n waiting)))
    at rest false is (inr later) = subst (λ l. Contains l d) (sym (shape false is)) (member_later e d (without n waiting) (rest later))

-- ---- a state that came later

record Extends (s t : State) : Type 0 where
  kept_stays : (n : ℕ) (c : Clause) → slice_get s.kept n ≡ Some c → slice_get t.kept n ≡ Some c
  active_stays : (n : ℕ) → Contains s.active n → Contains t.active n

itself : (s : State) → Extends s s
itself s = record { kept_stays = λ n c is. is; active_stays = λ n held. held }

after_both : (s t u : State) → Extends s t → Extends t u → Extends s u
after_both s t u first later = record { kept_stays = λ n c is. later.kept_stays n c (first.kept_stays n c is); active_stays = λ n held. later.active_stays n (first.active_stays n held) }

barred_stays : (s t : State) (c : Clause) → Extends s t → Barred s c → Barred t c
barred_stays s t c later (tautology h) = tautology h
barred_stays s t c later (heavy h) = heavy h
barred_stays s t c later (subsumed p (n, held, is) sub) = subsumed p (n, later.active_stays n held, later.kept_stays n p is) sub
barred_stays s t c later (known held) = let at = place_of s.kept c held in known (member_at t.kept c at.0 (later.kept_stays at.0 c at.1))

-- each kept clause is active or waits
abbrev Held : State → Type 0
Held s = (n : ℕ) (c : Clause) → slice_get s.kept n ≡ Some c → Contains s.active n ⊎ ((e : Entry) × Contains s.waiting e × (e.number ≡ n))

-- the inferences of these premises were offered
abbrev Done : Positions → State → Premises → Type 0
Done positions s premises = (made : List Made) × Infers positions s premises made × ((m : Made) → Contains made m → Barred s m.clause)

infers_stays : (positions : Positions) (s t : State) (premises : Premises) (made : List Made) → Extends s t → Infers positions s premises made → Infers positions t premises made
infers_stays positions s t (One n) made later (p, is, list) = (p, later.kept_stays n p is, list)
infers_stays positions s t (Two n m) made later (p, q, left, right, list) = (p, q, later.kept_stays n p left, later.kept_stays m q right, list)

done_stays : (positions : Positions) (s t : State) (premises : Premises) → Extends s t → Done positions s premises → Done positions t premises
done_stays positions s t premises later (made, list, all) = (made, infers_stays positions s t premises made later list, λ m held. barred_stays s t m.clause later (all m held))

-- ---- what is offered is barred from then on

record Offered (cs : List Clause) (s t : State) : Type 0 where
  extends : Extends s t
  barred_now : (c : Clause) → Contains cs c → Barred t c
  active_same : t.active ≡ s.active
  held_still : Held s → Held t

held_keeping : (s : State) (c : Clause) → Held s → Held (keeping s c)
held_keeping s c held n d is = at (cases n)
  where
    cases : (n : ℕ) → (n < length s.kept) ⊎ (length s.kept ≤ n)
    cases n = grind arith

    new : Entry
    new = record { weight = clause_size c; number = length s.kept }

    push : Contains s.active n ⊎ ((e : Entry) × Contains s.waiting e × (e.number ≡ n)) → Contains s.active n ⊎ ((e : Entry) × Contains (keeping s c).waiting e × (e.number ≡ n))
    push (inl a) = inl a
    push (inr (e, w, same)) = inr (e, Contains-append_left s.waiting (record { weight = clause_size c; number = length s.kept } ∷ []) e w, same)

    at : (n < length s.kept) ⊎ (length s.kept ≤ n) → Contains s.active n ⊎ ((e : Entry) × Contains (keeping s c).waiting e × (e.number ≡ n))
    at (inl less) = push (held n d (item_before s.kept d c n less is))
    at (inr past) =
        let last : n ≡ length s.kept = (let within = slice_get_within (s.kept ++ c ∷ []) n d is in omega (arith, length_push s.kept c)) in
        inr (record { weight = clause_size c; number = length s.kept }, Contains-push s.waiting (record { weight = clause_size c; number = length s.kept }), sym last)

offer_one_settles : (s t : State) (c : Clause) → Offer s c (on t) → Extends s t × Barred t c × (t.active ≡ s.active) × (Held s → Held t)
offer_one_settles s t c (barred some bar) = (itself s, bar, refl, λ h. h)
offer_one_settles s t c (kept some keep room) =
    (record { kept_stays = λ n d is. item_stays s.kept (c ∷ []) n d is; active_stays = λ n held. held }, known (Contains-push s.kept c), refl, held_keeping s c)

offers_settle : (cs : List Clause) (s t : State) → Through Offer s cs (on t) → Offered cs s t
offers_settle [] s t done = record { extends = itself s; barred_now = λ c held. absurd (none_member c held); active_same = refl; held_still = λ h. h }
offers_settle (c ∷ cs) s t (next {t = u} step rest) =
    let here = offer_one_settles s u c step in
    let later = offers_settle cs u t rest in
    record {
      extends = after_both s u t here.0 later.extends;
      barred_now = λ d held. now c cs u t d later.extends here.1 later.barred_now (member_cases c d cs held);
      active_same = later.active_same ∙ here.2;
      held_still = λ h. later.held_still (here.3 h);
    }
  where
    now : (c : Clause) (cs : List Clause) (u t : State) (d : Clause) → Extends u t → Barred u c → ((d : Clause) → Contains cs d → Barred t d) → (c ≡ d) ⊎ Contains cs d → Barred t d
    now c cs u t d extends bar all (inl same) = barred_stays u t d extends (subst (Barred u) same bar)
    now c cs u t d extends bar all (inr held) = all d held

-- ---- all inferences of the given clause

record InferredAll (positions : Positions) (ps : List Premises) (s t : State) : Type 0 where
  extends : Extends s t
  done_now : (p : Premises) → Contains ps p → Done positions t p
  active_same : t.active ≡ s.active
  held_still : Held s → Held t

infer_one_settles : (positions : Positions) (s t : State) (p : Premises) → Inferred positions s p (on t) → Extends s t × Done positions t p × (t.active ≡ s.active) × (Held s → Held t)
infer_one_settles positions s t p (made, list, offers) =
    let all = offers_settle (map (λ m. m.clause) made) s t offers in
    (all.extends, (made, infers_stays positions s t p made all.extends list, λ m held. all.barred_now m.clause (mapped made m held)), all.active_same, all.held_still)
  where
    mapped : (made : List Made) (m : Made) → Contains made m → Contains (map (λ m. m.clause) made) m.clause
    mapped made m held = let at = place_of made m held in member_at (map (λ m. m.clause) made) m.clause at.0 (slice_get-map (λ m. m.clause) made at.0 ∙ ap (option_map (λ m. m.clause)) at.1)

infers_settle : (positions : Positions) (ps : List Premises) (s t : State) → Through (Inferred positions) s ps (on t) → InferredAll positions ps s t
infers_settle positions [] s t done = record { extends = itself s; done_now = λ p held. absurd (none_member p held); active_same = refl; held_still = λ h. h }
infers_settle positions (p ∷ ps) s t (next {t = u} step rest) =
    let here = infer_one_settles positions s u p step in
    let later = infers_settle positions ps u t rest in
    record {
      extends = after_both s u t here.0 later.extends;
      done_now = λ q held. now q later.extends here.1 later.done_now (member_cases p q ps held);
      active_same = later.active_same ∙ here.2;
      held_still = λ h. later.held_still (here.3 h);
    }
  where
    now : (q : Premises) → Extends u t → Done positions u p → ((q : Premises) → Contains ps q → Done positions t q) → (p ≡ q) ⊎ Contains ps q → Done positions t q
    now q extends first all (inl same) = done_stays positions u t q extends (subst (Done positions u) same first)
    now q extends first all (inr held) = all q held

-- ---- the pairs of the given clause

pair_left : (g : ℕ) (active : List ℕ) (a : ℕ) → Contains active a → Contains (pairs g active) (Two a g)
pair_left g [] a held = absurd (none_member a held)
pair_left g (b ∷ active) a held = at (member_cases b a active held) (pair_left g active a)
  where
    at : (b ≡ a) ⊎ Contains active a → (Contains active a → Contains (pairs g active) (Two a g)) → Contains (pairs g (b ∷ active)) (Two a g)
    at (inl same) rest = subst (λ x. Contains (pairs g (b ∷ active)) (Two x g)) same (member_first (Two b g) (Two g b ∷ pairs g active))
    at (inr held) rest = member_later (Two b g) (Two a g) (Two g b ∷ pairs g active) (member_later (Two g b) (Two a g) (pairs g active) (rest held))

pair_right : (g : ℕ) (active : List ℕ) (a : ℕ) → Contains active a → Contains (pairs g active) (Two g a)
pair_right g [] a held = absurd (none_member a held)
pair_right g (b ∷ active) a held = at (member_cases b a active held) (pair_right g active a)
  where
    at : (b ≡ a) ⊎ Contains active a → (Contains active a → Contains (pairs g active) (Two g a)) → Contains (pairs g (b ∷ active)) (Two g a)
    at (inl same) rest =
        subst (λ x. Contains (pairs g (b ∷ active)) (Two g x)) same (member_later (Two b g) (Two g b) (Two g b ∷ pairs g active) (member_first (Two g b) (pairs g active)))
    at (inr held) rest = member_later (Two b g) (Two g a) (Two g b ∷ pairs g active) (member_later (Two g b) (Two g a) (pairs g active) (rest held))

pair_last : (g : ℕ) (active : List ℕ) → Contains (pairs g active) (Two g g)
pair_last g [] = member_first (Two g g) []
pair_last g (b ∷ active) = member_later (Two b g) (Two g g) (Two g b ∷ pairs g active) (member_later (Two g b) (Two g g) (pairs g active) (pair_last g active))

-- ---- along a run

record Good (given : Given) (s : State) : Type 0 where
  held : Held s
  inputs_done : (c : Clause) → Contains (normal_forms given.inputs) c → Barred s c
  alone_done : (n : ℕ) → Contains s.active n → Done given.positions s (One n)
  pairs_done : (n m : ℕ) → Contains s.active n → Contains s.active m → Done given.positions s (Two n m)

activates : (s : State) (n : ℕ) → Extends s (activating s n)
activates s n = record { kept_stays = λ k c is. is; active_stays = λ k held. Contains-append_left s.active (n ∷ []) k held }

held_activating : (s : State) (g : ℕ) → Held s → Held (activating s g)
held_activating s g held n c is = at (held n c is)
  where
    goes : (e : Entry) → Contains s.waiting e → e.number ≡ n → (b : Bool) → (e.number == g) ≡ b → Contains (activating s g).active n ⊎ ((d : Entry) × Contains (activating s g).waiting d × (d.number ≡ n))
    goes e w same true test = inl (subst (Contains (s.active ++ g ∷ [])) (sym (equal_from e.number g test) ∙ same) (Contains-push s.active g))
      where
        equal_from : (x y : ℕ) → (x == y) ≡ true → x ≡ y
        equal_from x y h = search (rules, h)
    goes e w same false test = inr (e, stays_without g e s.waiting test w, same)

    at : Contains s.active n ⊎ ((e : Entry) × Contains s.waiting e × (e.number ≡ n)) → Contains (activating s g).active n ⊎ ((d : Entry) × Contains (activating s g).waiting d × (d.number ≡ n))
    at (inl a) = inl (Contains-append_left s.active (g ∷ []) n a)
    at (inr (e, w, same)) = goes e w same (e.number == g) refl

good_pick : (given : Given) (s t : State) (g : ℕ) → Good given s → Through (Inferred given.positions) (activating s g) (One g ∷ pairs g s.active) (on t) → Good given t
good_pick given s t g good steps =
    let all = infers_settle given.positions (One g ∷ pairs g s.active) (activating s g) t steps in
    let extends = after_both s (activating s g) t (activates s g) all.extends in
    let done_old = λ (p : Premises) (d : Done given.positions s p). done_stays given.positions s t p extends d in
    let now = λ (p : Premises) (h : Contains (pairs g s.active) p). all.done_now p (member_later (One g) p (pairs g s.active) h) in
    record {
      held = all.held_still (held_activating s g good.held);
      inputs_done = λ c h. barred_stays s t c extends (good.inputs_done c h);
      alone_done = λ n h. alone n (all.done_now (One g) (member_first (One g) (pairs g s.active))) (λ a. done_old (One n) (good.alone_done n a)) (Contains-push_cases s.active g n (subst (λ l. Contains l n) all.active_same h));
      pairs_done = λ n m h k. both n m (λ a b. done_old (Two n m) (good.pairs_done n m a b)) now
          (Contains-push_cases s.active g n (subst (λ l. Contains l n) all.active_same h)) (Contains-push_cases s.active g m (subst (λ l. Contains l m) all.active_same k));
    }
  where
    alone : (n : ℕ) → Done given.positions t (One g) → (Contains s.active n → Done given.positions t (One n)) → Contains s.active n ⊎ (g ≡ n) → Done given.positions t (One n)
    alone n new old (inl a) = old a
    alone n new old (inr same) = subst (λ k. Done given.positions t (One k)) same new

    both : (n m : ℕ) → (Contains s.active n → Contains s.active m → Done given.positions t (Two n m)) → ((p : Premises) → Contains (pairs g s.active) p → Done given.positions t p)
        → Contains s.active n ⊎ (g ≡ n) → Contains s.active m ⊎ (g ≡ m) → Done given.positions t (Two n m)
    both n m old new (inl a) (inl b) = old a b
    both n m old new (inl a) (inr same) = subst (λ k. Done given.positions t (Two n k)) same (new (Two n g) (pair_left g s.active n a))
    both n m old new (inr same) (inl b) = subst (λ k. Done given.positions t (Two k m)) same (new (Two g m) (pair_right g s.active m b))
    both n m old new (inr same) (inr same') =
        subst (λ k. Done given.positions t (Two k m)) same (subst (λ k. Done given.positions t (Two g k)) same' (new (Two g g) (pair_last g s.active)))

good : (given : Given) (n : ℕ) (s : State) → Run given n s → Good given s
good given n s (inputs offers) =
    let all = offers_settle (normal_forms given.inputs) nothing s offers in
    record {
      held = all.held_still (λ k c is. cc);
      inputs_done = all.barred_now;
      alone_done = λ k held. absurd (none_member k (subst (λ l. Contains l k) all.active_same held));
      pairs_done = λ k m held also. absurd (none_member k (subst (λ l. Contains l k) all.active_same held));
    }
good given n t (pick {n = k} {s = s} run (e, picked, steps)) = good_pick given s t e.number (good given k s run) steps

-- ---- at the end

module _ (s : State) (held : Held s) (none : s.waiting ≡ []) where
  active_now : (n : ℕ) (c : Clause) → slice_get s.kept n ≡ Some c → Contains s.active n
  active_now n c is = at (held n c is)
    where
      at : Contains s.active n ⊎ ((e : Entry) × Contains s.waiting e × (e.number ≡ n)) → Contains s.active n
      at (inl a) = a
      at (inr (e, w, same)) = absurd (none_member e (subst (λ l. Contains l e) none w))

  redundant : (c : Clause) → Barred s c → Redundant s c
  redundant c (tautology h) = is_tautological h
  redundant c (heavy h) = is_heavy h
  redundant c (subsumed p a sub) = is_subsumed p a sub
  redundant c (known h) = let at = place_of s.kept c h in is_active (at.0, active_now at.0 c at.1, at.1)

pub closed : (given : Given) (n : ℕ) (s : State) → Run given n s → s.waiting ≡ [] → Closed given s
closed given n s run none =
    let all = good given n s run in
    record {
      inputs = λ c h. redundant s all.held none c (all.inputs_done c h);
      alone = λ p made m a list h. alone p made m a list h (all.alone_done a.0 a.1) all.held;
      pairs = λ p q made m a b list h. both p q made m a b list h (all.pairs_done a.0 b.0 a.1 b.1) all.held;
    }
  where
    some_same : (x y : Clause) → Some x ≡ Some y → x ≡ y
    some_same x y e = cc

    alone : (p : Clause) (made : List Made) (m : Made) (a : IsActive s p) → Alone p made → Contains made m → Done given.positions s (One a.0) → Held s → Redundant s m.clause
    alone p made m a list h (made', (q, is, list'), all) held =
        let same : made' ≡ made = one_alone p made' made (subst (λ c. Alone c made') (some_same q p (sym is ∙ a.2)) list') list in
        redundant s held none m.clause (all m (subst (λ l. Contains l m) (sym same) h))

    both : (p q : Clause) (made : List Made) (m : Made) (a : IsActive s p) (b : IsActive s q) → BetweenAt (position_of given.positions) p q made → Contains made m
        → Done given.positions s (Two a.0 b.0) → Held s → Redundant s m.clause
    both p q made m a b list h (made', (p', q', left, right, list'), all) held =
        let same : made' ≡ made = one_between p q (position_of given.positions) made' made
        (subst (λ c. BetweenAt (position_of given.positions) c q made') (some_same p' p (sym left ∙ a.2)) (subst (λ c. BetweenAt (position_of given.positions) p' c made') (some_same q' q (sym right ∙ b.2)) list')) list in
        redundant s held none m.clause (all m (subst (λ l. Contains l m) (sym same) h))

-- ---- only a look at the waiting clauses saturates a search

never_offered : (s t : State) (c : Clause) → Offer s c (over saturated t) → ⊥
never_offered s t c h = elim h [ ]

never_walked : {A : Type 0} (Step : State → A → Passed → Type 0) → ((s t : State) (x : A) → Step s x (over saturated t) → ⊥) → (xs : List A) (s t : State) → Through Step s xs (over saturated t) → ⊥
never_walked Step never [] s t h = elim h [ ]
never_walked Step never (x ∷ xs) s t (next {t = u} step rest) = never_walked Step never xs u t rest
never_walked Step never (x ∷ xs) s t (ends step) = never s t x step

never_inferred : (positions : Positions) (s t : State) (p : Premises) → Inferred positions s p (over saturated t) → ⊥
never_inferred positions s t p (made, list, offers) = never_walked Offer never_offered (map (λ m. m.clause) made) s t offers

pub saturated_closed : (given : Given) (n : ℕ) (s : State) → Search given saturated n s → Closed given s
saturated_closed given n s (at_inputs offers) = absurd (never_walked Offer never_offered (normal_forms given.inputs) nothing s offers)
saturated_closed given n s (at_pick {s = u} run left (e, picked, steps)) =
    absurd (never_walked (Inferred given.positions) (never_inferred given.positions) (One e.number ∷ pairs e.number u.active) (activating u e.number) s steps)
saturated_closed given n s (nothing_waits run within none) = closed given n s run none
