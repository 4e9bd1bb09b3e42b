-- The stock stays sound.
use Rattle.std.proofs.Common.{◌≡◌, ◌≢◌, ℕ, ◌+◌, ◌<◌, ◌≤◌, ◌⊎◌, inl, inr, Bool, true, false, ◌==◌, cond, List, [], ◌∷◌, ◌++◌, length, get_or, subst, sym, ap, ◌∙◌, refl, arith, rules, Contains, All, Some, slice_get, IsTrue}
use Rattle.std.proofs.lemmas.List.{length-map, length_push, get_or_default, get_or_append_left, get_or_push}
use Rattle.std.proofs.lemmas.List.Elements.{All-weaker, All-push, Contains-push, Contains-append_left}
use Rattle.std.proofs.lemmas.Option.{get_or_from_slice_get, slice_get_within, slice_get-get_or}
use Rattle.fo_terms.specs.declared.clause.Clause.{Clause}
use Rattle.fo_infer.specs.declared.refutation.Line.{Line}
use Rattle.fo_terms.specs.Weight.{clause_size}
use Rattle.fo_terms.specs.Normal.{is_tautology}
use Rattle.fo_infer.specs.Subsumption.{Subsumes}
use Rattle.metis_core.specs.Offer.{Barred, tautology, heavy, subsumed, known}
use Rattle.clause_ring.specs.declared.entry.Entry.{Entry}
use Rattle.metis_core.specs.declared.stock.Stock.{Stock}
use Rattle.metis_core.specs.State.{State, IsActive}
use Rattle.metis_core.specs.Print.{clause_print}
use Rattle.metis_core.specs.Stock.{Places, places_at, Notes, IsIndex, clauses}
use Rattle.metis_core.specs.Units.{IsAmong}

-- ---- lists with one more item

pub item_before : {A : Type 0} (xs : List A) (x y : A) (n : ℕ) → n < length xs → slice_get (xs ++ y ∷ []) n ≡ Some x → slice_get xs n ≡ Some x
item_before xs x y n less is =
    let within : n < length (xs ++ y ∷ []) = slice_get_within (xs ++ y ∷ []) n x is in
    slice_get-get_or xs n x less ∙ ap Some (sym (get_or_append_left xs (y ∷ []) x n less) ∙ get_or_from_slice_get (xs ++ y ∷ []) n x x is)

pub item_last : {A : Type 0} (xs : List A) (x y : A) (n : ℕ) → n ≡ length xs → slice_get (xs ++ y ∷ []) n ≡ Some x → x ≡ y
item_last xs x y n last is = sym (get_or_from_slice_get (xs ++ y ∷ []) n x x is) ∙ get_or_push xs y x n (sym last)

-- ---- the index

test_true : (x y : ℕ) → x ≡ y → (x == y) ≡ true
test_true x y e = search (rules, e)

module _ (m m' : Places) (lines : List Line) (line : Line) (noted : Notes m m' (clause_print line.clause) (length lines)) where
  noted_kept : (q n : ℕ) (test : Bool) → (clause_print line.clause == q) ≡ test → Contains (places_at m q) n → Contains (places_at m' q) n
  noted_kept q n true is held =
      subst (λ l. Contains l n) (sym (noted q ∙ ap (λ b. cond b (places_at m q ++ length lines ∷ []) (places_at m q)) is))
      (Contains-append_left (places_at m q) (length lines ∷ []) n held)
  noted_kept q n false is held = subst (λ l. Contains l n) (sym (noted q ∙ ap (λ b. cond b (places_at m q ++ length lines ∷ []) (places_at m q)) is)) held

  pub index_grows : IsIndex m lines → IsIndex m' (lines ++ line ∷ [])
  index_grows index n l is = at (cases n)
    where
      cases : (n : ℕ) → (n < length lines) ⊎ (length lines ≤ n)
      cases n = grind arith

      at : (n < length lines) ⊎ (length lines ≤ n) → Contains (places_at m' (clause_print l.clause)) n
      at (inl less) = noted_kept (clause_print l.clause) n (clause_print line.clause == clause_print l.clause) refl (index n l (item_before lines l line n less is))
      at (inr past) =
          let last : n ≡ length lines = (let within = slice_get_within (lines ++ line ∷ []) n l is in omega (arith, length_push lines line)) in
          let same : l ≡ line = item_last lines l line n last is in
          subst (λ d. Contains (places_at m' (clause_print d.clause)) n) (sym same)
          (subst (λ k. Contains (places_at m' (clause_print line.clause)) k) (sym last)
          (subst (λ l. Contains l (length lines)) (sym (noted (clause_print line.clause) ∙ ap (λ b. cond b (places_at m (clause_print line.clause) ++ length lines ∷ []) (places_at m (clause_print line.clause))) (test_true _ _ refl)))
          (Contains-push (places_at m (clause_print line.clause)) (length lines))))

-- ---- numbers stay below the number of lines

pub below_grows : (xs : List ℕ) (n m : ℕ) → n ≤ m → All (λ x. x < n) xs → All (λ x. x < m) xs
below_grows xs n m le below = All-weaker (λ x. x < n) (λ x. x < m) (λ x less. omega arith) xs below

pub entries_grow : (xs : List Entry) (e : Entry) (n : ℕ) → e.number ≡ n → All (λ x. x.number < n) xs → All (λ x. x.number < n + 1) (xs ++ e ∷ [])
entries_grow xs e n is below =
    All-push (λ x. x.number < n + 1) xs e (All-weaker (λ x. x.number < n) (λ x. x.number < n + 1) (λ x less. omega arith) xs below) (omega arith)

-- ---- one of the rest

module _ (stock : Stock) (c : Clause) where
  pub none_among : (i : ℕ) → length stock.rest ≤ i
      → ((k : ℕ) → k < i → (p : Clause) → slice_get (clauses stock.lines) (get_or stock.rest k 0) ≡ Some p → Subsumes p c → ⊥)
      → (p : Clause) → IsAmong stock.rest stock.lines p → Subsumes p c → ⊥
  none_among i past none p among sub =
      let at : get_or stock.rest among.1.0 0 ≡ among.0 = get_or_default stock.rest among.1.0 0 among.0 among.1.1 ∙ among.1.2 in
      none among.1.0 (let less = among.1.1 in omega arith) p (ap (slice_get (clauses stock.lines)) at ∙ among.2) sub

-- ---- what keeps a clause out

-- what nothing else keeps out is subsumed
pub subsumed_else : (s : State) (c : Clause) → (IsTrue (is_tautology c.literals) → ⊥) → clause_size c ≤ 512 → (Contains s.kept c → ⊥)
    → Barred s c → (p : Clause) × IsActive s p × Subsumes p c
subsumed_else s c sound light new (tautology h) = absurd (sound h)
subsumed_else s c sound light new (heavy h) = absurd (omega arith)
subsumed_else s c sound light new (subsumed p active sub) = (p, active, sub)
subsumed_else s c sound light new (known h) = absurd (new h)

-- while no clause is active, it is known
pub known_else : (s : State) (c : Clause) → (IsTrue (is_tautology c.literals) → ⊥) → clause_size c ≤ 512 → s.active ≡ [] → Barred s c → Contains s.kept c
known_else s c sound light idle (tautology h) = absurd (sound h)
known_else s c sound light idle (heavy h) = absurd (omega arith)
known_else s c sound light idle (subsumed p active sub) = absurd (let less = active.1.1 in let none = ap length idle in omega arith)
known_else s c sound light idle (known h) = h

pub light_from : (s : State) (c : Clause) → (Barred s c → ⊥) → clause_size c ≤ 512
light_from s c keep = at (cases (clause_size c))
  where
    cases : (n : ℕ) → (n ≤ 512) ⊎ (512 < n)
    cases n = grind arith

    at : (clause_size c ≤ 512) ⊎ (512 < clause_size c) → clause_size c ≤ 512
    at (inl le) = le
    at (inr less) = absurd (keep (heavy less))

pub nonempty : {A : Type 0} (xs : List A) (n : ℕ) → n ≡ length xs → n ≢ 0 → xs ≢ []
nonempty xs n is apart e = apart (is ∙ ap length e)

pub held_as_many : (lines : List Line) → length (clauses lines) ≡ length lines
held_as_many lines = length-map lines (λ l. l.clause)
