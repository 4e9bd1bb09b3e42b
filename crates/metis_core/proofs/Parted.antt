-- The active clauses, those of one literal in a tree and the rest beside it.
use Rattle.std.proofs.Common.{◌≡◌, ℕ, ◌<◌, ◌≤◌, ◌⊎◌, inl, inr, List, [], ◌∷◌, ◌++◌, length, get_or, subst, sym, ap, ◌∙◌, arith, Contains, All, Option, Some, IfSome, slice_get}
use Rattle.std.proofs.lemmas.List.{map-append}
use Rattle.std.proofs.lemmas.List.Elements.{All-contains, All-nil, All-cons, Contains-get_or, Contains-push, Contains-push_cases, Contains-append_left}
use Rattle.fo_terms.specs.declared.literal.Literal.{Literal}
use Rattle.fo_terms.specs.declared.clause.Clause.{Clause}
use Rattle.fo_terms.specs.Substitution.{put_literal}
use Rattle.fo_infer.specs.declared.refutation.Line.{Line}
use Rattle.fo_infer.specs.Subsumption.{Subsumes}
use Rattle.unit_tree.specs.declared.token.Edge.{Edge}
use Rattle.metis_core.specs.declared.stock.Stock.{Stock}
use Rattle.metis_core.specs.State.{IsActive}
use Rattle.metis_core.specs.Stock.{clauses}
use Rattle.metis_core.specs.Held.{state_of}
use Rattle.metis_core.specs.Units.{HoldsUnit, SubsumesSome, IsUnit, IsAmong, AreParted}
use Rattle.metis_core.proofs.Following.{item_stays}
use Rattle.metis_core.proofs.Stocks.{item_before, held_as_many}
use Rattle.metis_core.proofs.Indexes.{some_same}

one_of : {A : Type 0} (xs : List A) (x : A) → Contains xs x → 1 ≤ length xs
one_of xs x at = let within = at.1 in omega arith

-- ---- the rest are active

pub rest_below : (lines : List Line) (active rest : List ℕ) (units : Option (List (List Edge))) (P : ℕ → Type 0) → AreParted lines active rest units → All P active → All P rest
rest_below lines active rest units P parted below = λ k d less. All-contains P active (get_or rest k d) below (parted.others (get_or rest k d) (Contains-get_or rest k d less))

-- ---- what is subsumed

module _ (stock : Stock) (parted : AreParted stock.lines stock.active stock.rest stock.units) where
  -- by a unit
  pub unit_subsumes : (ls : List Literal) → SubsumesSome stock.units ls → (p : Clause) × IsActive (state_of stock) p × Subsumes p (record { literals = ls })
  unit_subsumes ls (l, held, (v, at)) = (
    record { literals = l ∷ [] },
    parted.held l held,
    (one_of ls (put_literal v l) at, (v, All-cons (λ m. Contains ls (put_literal v m)) l [] at (All-nil (λ m. Contains ls (put_literal v m))))),
  )

  -- by one of the rest
  pub among_subsumes : (c : Clause) → ((p : Clause) × IsAmong stock.rest stock.lines p × Subsumes p c) → (p : Clause) × IsActive (state_of stock) p × Subsumes p c
  among_subsumes c (p, (n, at, is), sub) = (p, (n, parted.others n at, is), sub)

  unit_found : (p c : Clause) → IsUnit stock.units p → Subsumes p c → SubsumesSome stock.units c.literals
  unit_found p c (l, held, is) (fits, (v, all)) =
      (l, held, (v, All-contains (λ m. Contains c.literals (put_literal v m)) p.literals l all (subst (λ ls. Contains ls l) (sym is) (Contains-push [] l))))

  -- by nothing else
  pub none_subsumes : (c : Clause) → (SubsumesSome stock.units c.literals → ⊥) → (((p : Clause) × IsAmong stock.rest stock.lines p × Subsumes p c) → ⊥)
      → ((p : Clause) × IsActive (state_of stock) p × Subsumes p c) → ⊥
  none_subsumes c no_unit none (p, (n, at, is), sub) = by (parted.every n p at is)
    where
      by : Contains stock.rest n ⊎ IsUnit stock.units p → ⊥
      by (inl among) = none (p, (n, among, is), sub)
      by (inr unit) = no_unit (unit_found p c unit sub)

-- ---- one line more

pub parted_grows : (lines : List Line) (line : Line) (active rest : List ℕ) (units : Option (List (List Edge))) → All (λ n. n < length lines) active
    → AreParted lines active rest units → AreParted (lines ++ line ∷ []) active rest units
parted_grows lines line active rest units below parted = record {
  held = λ l held. (
      let there = parted.held l held in
      (there.0, there.1, subst (λ cs. slice_get cs there.0 ≡ Some (record { literals = l ∷ [] })) (sym more) (item_stays (clauses lines) (line.clause ∷ []) there.0 (record { literals = l ∷ [] }) there.2))
      );
  others = parted.others;
  every = λ n p at is.
      let less : n < length (clauses lines) = (let few = All-contains (λ k. k < length lines) active n below at in let many = held_as_many lines in omega arith) in
      parted.every n p at (item_before (clauses lines) p line.clause n less (subst (λ cs. slice_get cs n ≡ Some p) more is));
}
  where
    more : clauses (lines ++ line ∷ []) ≡ clauses lines ++ line.clause ∷ []
    more = map-append (λ l. l.clause) lines (line ∷ [])

-- ---- one active clause more

module _ (lines : List Line) (active rest : List ℕ) (units : Option (List (List Edge))) (n : ℕ) (parted : AreParted lines active rest units) where
  -- a unit
  pub parted_unit : (next : Option (List (List Edge))) (c : Clause) (l : Literal) → slice_get (clauses lines) n ≡ Some c → c.literals ≡ l ∷ []
      → ((m : Literal) → HoldsUnit units m → HoldsUnit next m) → ((m : Literal) → HoldsUnit next m → HoldsUnit units m ⊎ (m ≡ l)) → HoldsUnit next l
      → AreParted lines (active ++ n ∷ []) rest next
  parted_unit next c l at is keeps adds new = record {
    held = λ m held. held_at m (adds m held);
    others = λ k among. Contains-append_left active (n ∷ []) k (parted.others k among);
    every = λ k p some there. every_at k p there (Contains-push_cases active n k some);
  }
    where
      unit : c ≡ record { literals = l ∷ [] }
      unit = λ j. record { literals = is j }

      held_at : (m : Literal) → HoldsUnit units m ⊎ (m ≡ l) → (k : ℕ) × Contains (active ++ n ∷ []) k × (slice_get (clauses lines) k ≡ Some (record { literals = m ∷ [] }))
      held_at m (inl old) = let there = parted.held m old in (there.0, Contains-append_left active (n ∷ []) there.0 there.1, there.2)
      held_at m (inr same) = (n, Contains-push active n, at ∙ ap Some unit ∙ ap (λ k. Some (record { literals = k ∷ [] })) (sym same))

      unit_stays : (p : Clause) → IsUnit units p → IsUnit next p
      unit_stays p (m, held, one) = (m, keeps m held, one)

      every_old : (k : ℕ) (p : Clause) → Contains rest k ⊎ IsUnit units p → Contains rest k ⊎ IsUnit next p
      every_old k p (inl among) = inl among
      every_old k p (inr held) = inr (unit_stays p held)

      every_at : (k : ℕ) (p : Clause) → slice_get (clauses lines) k ≡ Some p → Contains active k ⊎ (n ≡ k) → Contains rest k ⊎ IsUnit next p
      every_at k p there (inl old) = every_old k p (parted.every k p old there)
      every_at k p there (inr same) =
          let whole : c ≡ p = some_same c p (sym at ∙ ap (slice_get (clauses lines)) same ∙ there) in
          inr (l, new, ap (λ d. d.literals) (sym whole) ∙ is)

  -- one of the rest
  pub parted_rest : AreParted lines (active ++ n ∷ []) (rest ++ n ∷ []) units
  parted_rest = record {
    held = λ l held. (let there = parted.held l held in (there.0, Contains-append_left active (n ∷ []) there.0 there.1, there.2));
    others = λ k among. others_at k (Contains-push_cases rest n k among);
    every = λ k p some there. every_at k p there (Contains-push_cases active n k some);
  }
    where
      others_at : (k : ℕ) → Contains rest k ⊎ (n ≡ k) → Contains (active ++ n ∷ []) k
      others_at k (inl old) = Contains-append_left active (n ∷ []) k (parted.others k old)
      others_at k (inr same) = subst (Contains (active ++ n ∷ [])) same (Contains-push active n)

      old_at : (k : ℕ) (p : Clause) → Contains rest k ⊎ IsUnit units p → Contains (rest ++ n ∷ []) k ⊎ IsUnit units p
      old_at k p (inl among) = inl (Contains-append_left rest (n ∷ []) k among)
      old_at k p (inr unit) = inr unit

      every_at : (k : ℕ) (p : Clause) → slice_get (clauses lines) k ≡ Some p → Contains active k ⊎ (n ≡ k) → Contains (rest ++ n ∷ []) k ⊎ IsUnit units p
      every_at k p there (inl old) = old_at k p (parted.every k p old there)
      every_at k p there (inr same) = inl (subst (Contains (rest ++ n ∷ [])) same (Contains-push rest n))

-- ---- a unit as cells

pub only_one : {A : Type 0} (xs : List A) (x : A) → length xs ≡ 1 → slice_get xs 0 ≡ Some x → xs ≡ x ∷ []
only_one [] x e at = absurd (omega arith)
only_one (y ∷ []) x e at = cc
only_one (y ∷ z ∷ xs) x e at = absurd (omega arith)

pub written : {A : Type 0} (xs : List A) (x : A) → length xs ≡ 1 → (xs ≡ []) ⊎ (xs ≡ x ∷ []) → xs ≡ x ∷ []
written xs x e (inl none) = absurd (let short = ap length none in omega arith)
written xs x e (inr is) = is

pub only_right : {A B C : Type 0} → (A → ⊥) → A ⊎ B → C ⊎ B
only_right none (inl a) = absurd (none a)
only_right none (inr b) = inr b

pub made_unit : (made : Option (List Literal)) (unit ls : List Literal) → made ≡ Some unit → IfSome made (λ u. (l : Literal) × (u ≡ l ∷ []) × (ls ≡ l ∷ []))
    → (l : Literal) × (unit ≡ l ∷ []) × (ls ≡ l ∷ [])
made_unit made unit ls is given = subst (λ o. IfSome o (λ u. (l : Literal) × (u ≡ l ∷ []) × (ls ≡ l ∷ []))) is given
