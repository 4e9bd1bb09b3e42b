-- Lists of variables that pass a test, and marks.
use Rattle.std.proofs.Common.{◌≡◌, ◌≢◌, ℕ, zero, suc, ◌+◌, ◌-◌, ◌<◌, ◌≤◌, Bool, true, false, ◌&&◌, ◌||◌, ◌==◌, nat_lt, if◌then◌else◌, List, [], ◌∷◌, map, length, slice_set, get_or, refl, sym, ap, ◌∙◌, rules, arith, add-one}
use Rattle.std.proofs.lemmas.Grind.{common_steps}
use Rattle.std.proofs.lemmas.Bool.Decides.{nat_tests}
use Rattle.std.proofs.lemmas.Option.{unwrap_or-slice_get}
use Rattle.std.proofs.lemmas.List.{get_or-set_same, get_or-set_other, length-set}
use Rattle.hol_terms.specs.declared.ty.Ty.{Ty}
use Rattle.hol_terms.specs.declared.term.Term.{Term, roll-Term}
use Rattle.hol_terms.specs.declared.term.Term.TheOpen.{Term-F}
use Rattle.hol_terms.specs.declared.term.Term.TheFolds.{the_lemmas}
use Rattle.lambda_lift.specs.Closing.{variables, lambda_of, occurs_behind, occurs_in, renamed, lambdas, ty_at, closed_over, applied_to}
use Rattle.lambda_lift.specs.inner.Marks.{passes, MarksMore, index_in}

module _ (p : ℕ → Bool) where
  pub taken : (v : ℕ) → p v ≡ true → variables p (v + 1) ≡ v ∷ variables p v
  taken v h = rw (add-one, h) refl

  pub passed : (v : ℕ) → p v ≡ false → variables p (v + 1) ≡ variables p v
  passed v h = rw (add-one, h) refl

  step : (n : ℕ) (b : Bool) → length (variables p n) ≤ n → length (if b then n ∷ variables p n else variables p n) ≤ suc n
  step n true h = omega arith
  step n false h = omega arith

  pub fewer : (n : ℕ) → length (variables p n) ≤ n
  fewer zero = omega arith
  fewer (suc n) = step n (p n) (fewer n)

module _ (p q : ℕ → Bool) where
  pub variables_agree : (n : ℕ) → ((v : ℕ) → v < n → p v ≡ q v) → variables p n ≡ variables q n
  variables_agree zero h = refl
  variables_agree (suc n) h =
      let here : p n ≡ q n = h n (omega arith) in
      let rest : variables p n ≡ variables q n = variables_agree n (λ v l. h v (omega arith)) in
      (λ i. if here i then n ∷ rest i else rest i)

  below : (n v : ℕ) → nat_lt v n ≡ true → ((v : ℕ) → v < n → p v ≡ q v) → (variables p v ≡ variables q v) × (p v ≡ q v)
  below n v l h =
      let within : v < n = search (rules, l) in
      (variables_agree v (λ u m. h u (omega arith)), h v within)

  by : (n v : ℕ) (b : Bool) → nat_lt v n ≡ b → ((v : ℕ) → v < n → p v ≡ q v) →
      (if b && p v then length (variables p v) else v + length (variables p n)) ≡ (if b && q v then length (variables q v) else v + length (variables q n))
  by n v true l h =
      let e = below n v l h in
      let all = variables_agree n h in
      (λ i. if e.1 i then length (e.0 i) else v + length (all i))
  by n v false l h = let all = variables_agree n h in ap (λ vs. v + length vs) all

  pub lambda_agrees : (n v : ℕ) → ((v : ℕ) → v < n → p v ≡ q v) → lambda_of p n v ≡ lambda_of q n v
  lambda_agrees n v h = by n v (nat_lt v n) refl h

-- ---- marks

or_true : (b : Bool) → (b || true) ≡ true
or_true true = refl
or_true false = refl

or_false : (b : Bool) → (b || false) ≡ b
or_false true = refl
or_false false = refl

pub occurs_bound : (v i d : ℕ) → occurs_behind v (roll-Term (Term-F.Bound i)) d ≡ (i == d + v)
occurs_bound v i d = search (rules, the_lemmas)

module _ (i d : ℕ) (old : List Bool) (above : d ≤ i) (within : i - d < length old) where
  each : (v : ℕ) (b : Bool) → (v == i - d) ≡ b → passes (slice_set old (i - d) true) v ≡ (passes old v || occurs_behind v (roll-Term (Term-F.Bound i)) d)
  each v true e =
      let at : v ≡ i - d = grind (arith, nat_tests) in
      let there : (i == d + v) ≡ true = grind (arith, nat_tests) in
      unwrap_or-slice_get (slice_set old (i - d) true) v false ∙ ap (λ u. get_or (slice_set old (i - d) true) u false) at ∙ get_or-set_same old (i - d) true false within
      ∙ sym (ap (λ b. passes old v || b) (occurs_bound v i d ∙ there) ∙ or_true (passes old v))
  each v false e =
      let off : v ≢ i - d = grind (arith, nat_tests) in
      let not_there : (i == d + v) ≡ false = grind (arith, nat_tests) in
      unwrap_or-slice_get (slice_set old (i - d) true) v false ∙ get_or-set_other old (i - d) v true false off ∙ sym (unwrap_or-slice_get old v false)
      ∙ sym (ap (λ b. passes old v || b) (occurs_bound v i d ∙ not_there) ∙ or_false (passes old v))

  pub marked_bound : MarksMore (roll-Term (Term-F.Bound i)) d old (slice_set old (i - d) true)
  marked_bound = (length-set old (i - d) true, λ v l. each v (v == i - d) refl)

blank_passes : {X : Type 0} (xs : List X) (v : ℕ) → passes (map (λ x. false) xs) v ≡ false
blank_passes [] v = search (rules, common_steps)
blank_passes (x ∷ xs) zero = refl
blank_passes (x ∷ xs) (suc v) = blank_passes xs v

pub marked_blanks : {X : Type 0} (xs : List X) (t : Term) (old new : List Bool) → old ≡ map (λ x. false) xs → MarksMore t 0 old new → (v : ℕ) → v < length new → passes new v ≡ occurs_in t v
marked_blanks xs t old new is more v within =
    more.1 v (omega (arith, more.0)) ∙ ap (λ b. b || occurs_in t v) (ap (λ bs. passes bs v) is ∙ blank_passes xs v)

pub as_closed : (binders : List Ty) (t : Term) (marks : List Bool) (places : List ℕ) (total : ℕ) → length marks ≡ length binders →
    ((v : ℕ) → v < length marks → passes marks v ≡ occurs_in t v) → ((v : ℕ) → index_in places total v ≡ lambda_of (passes marks) (length marks) v) →
    lambdas (map (ty_at binders) (variables (passes marks) (length marks))) (renamed (index_in places total) t 0) ≡ closed_over binders t
as_closed binders t marks places total sized agree each =
    let vs : variables (passes marks) (length marks) ≡ variables (occurs_in t) (length marks) = variables_agree (passes marks) (occurs_in t) (length marks) agree in
    let to : (v : ℕ) → index_in places total v ≡ lambda_of (occurs_in t) (length marks) v = λ v. each v ∙ lambda_agrees (passes marks) (occurs_in t) (length marks) v agree in
    (λ i. lambdas (map (ty_at binders) (vs i)) (renamed (λ v. to v i) t 0))
    ∙ (λ i. lambdas (map (ty_at binders) (variables (occurs_in t) (sized i))) (renamed (lambda_of (occurs_in t) (sized i)) t 0))

-- ---- a term applied to the variables that pass

module _ (p : ℕ → Bool) (f : Term) where
  pub applied_taken : (v : ℕ) → 0 < v → p (v - 1) ≡ true → applied_to f (variables p v) ≡ applied_to (roll-Term (Term-F.App f (roll-Term (Term-F.Bound (v - 1))))) (variables p (v - 1))
  applied_taken v h e =
      let down : v ≡ (v - 1) + 1 = omega arith in
      ap (λ n. applied_to f (variables p n)) down ∙ ap (applied_to f) (taken p (v - 1) e)

  pub applied_passed : (v : ℕ) → 0 < v → p (v - 1) ≡ false → applied_to f (variables p v) ≡ applied_to f (variables p (v - 1))
  applied_passed v h e =
      let down : v ≡ (v - 1) + 1 = omega arith in
      ap (λ n. applied_to f (variables p n)) down ∙ ap (applied_to f) (passed p (v - 1) e)
