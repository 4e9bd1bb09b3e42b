-- Lambdas over variables, bound one after another or all at once.
use Rattle.std.proofs.Common.{◌≡◌, ℕ, suc, ◌+◌, Bool, true, false, ◌&&◌, ◌==◌, nat_lt, if◌then◌else◌, List, [], ◌∷◌, length, refl, sym, ap, ◌∙◌, arith}
use Rattle.std.specs.Prelude.{Option, Some, None}
use Rattle.std.proofs.lemmas.Bool.Decides.{nat_tests}
use Rattle.hol_terms.specs.declared.ty.Ty.{Ty}
use Rattle.hol_terms.specs.declared.konst.Konst.{Konst}
use Rattle.hol_terms.specs.declared.term.Term.{Term, roll-Term}
use Rattle.hol_terms.specs.declared.term.Term.TheOpen.{Term-F}
use Rattle.hol_terms.specs.declared.term.Term.TheFolds.{fold-roll-Term}
use Rattle.hol_terms.specs.Types.{is_ty}
use Rattle.hol_terms.specs.Substitution.{abstracted_at}
use Rattle.hol_terms.proofs.TermCases.{by_cases}
use Rattle.hol_terms.proofs.Equations.{abstracted-bound, abstracted-free, abstracted-con, abstracted-app, abstracted-lam}
use Rattle.kernel_rules.specs.Connectives.{lambda}
use Rattle.formula_clauses.specs.Choices.{Variable, closed_over}
use Rattle.formula_clauses.specs.inner.Binding.{place_or, place_of, bound_at, bind_step, bound_by, lambdas}

abbrev bnd : ℕ → Term
bnd i = roll-Term (Term-F.Bound i)

-- ---- one equation for each constructor
module _ (vs : List Variable) where
  at_bound : (i d : ℕ) → bound_by vs (roll-Term (Term-F.Bound i)) d ≡ roll-Term (Term-F.Bound (if nat_lt i d then i else i + length vs))
  at_bound i d = ap (λ (g : ℕ → Term). g d) (fold-roll-Term (ℕ → Term) (bind_step vs) (Term-F.Bound i))

  at_free : (m : ℕ) (b : Ty) (d : ℕ) → bound_by vs (roll-Term (Term-F.Free m b)) d ≡ bound_at (place_of vs m b) m b d
  at_free m b d = ap (λ (g : ℕ → Term). g d) (fold-roll-Term (ℕ → Term) (bind_step vs) (Term-F.Free m b))

  at_con : (k : Konst) (d : ℕ) → bound_by vs (roll-Term (Term-F.Con k)) d ≡ roll-Term (Term-F.Con k)
  at_con k d = ap (λ (g : ℕ → Term). g d) (fold-roll-Term (ℕ → Term) (bind_step vs) (Term-F.Con k))

  at_app : (f x : Term) (d : ℕ) → bound_by vs (roll-Term (Term-F.App f x)) d ≡ roll-Term (Term-F.App (bound_by vs f d) (bound_by vs x d))
  at_app f x d = ap (λ (g : ℕ → Term). g d) (fold-roll-Term (ℕ → Term) (bind_step vs) (Term-F.App f x))

  at_lam : (a : Ty) (b : Term) (d : ℕ) → bound_by vs (roll-Term (Term-F.Lam a b)) d ≡ roll-Term (Term-F.Lam a (bound_by vs b (d + 1)))
  at_lam a b d = ap (λ (g : ℕ → Term). g d) (fold-roll-Term (ℕ → Term) (bind_step vs) (Term-F.Lam a b))

-- ---- without variables nothing is bound
abbrev Stays : Term → Type 0
Stays t = (d : ℕ) → bound_by [] t d ≡ t

same_index : (i d : ℕ) → (if nat_lt i d then i else i + 0) ≡ i
same_index i d = grind (arith, nat_tests)

none_bound : (t : Term) → Stays t
none_bound =
    by_cases Stays (λ i d. at_bound [] i d ∙ ap bnd (same_index i d)) (λ n a d. at_free [] n a d) (λ k d. at_con [] k d)
    (λ f x hf hx d. at_app [] f x d ∙ (λ i. roll-Term (Term-F.App (hf d i) (hx d i)))) (λ a b hb d. at_lam [] a b d ∙ ap (λ u. roll-Term (Term-F.Lam a u)) (hb (d + 1)))

-- ---- one variable more, further out
module _ (v : Variable) (vs : List Variable) where
  abbrev More : Term → Type 0
  More t = (d : ℕ) → abstracted_at v.0 v.1 (bound_by vs t d) (length vs + d) ≡ bound_by (v ∷ vs) t d

  index_inside : (i d n : ℕ) (b : Bool) → nat_lt i d ≡ b → (let j = if b then i else i + n in if nat_lt j (n + d) then j else j + 1) ≡ (if b then i else i + suc n)
  index_inside i d n true h = grind (arith, nat_tests)
  index_inside i d n false h = grind (arith, nat_tests)

  more_bound : (i : ℕ) → More (roll-Term (Term-F.Bound i))
  more_bound i d =
      ap (λ t. abstracted_at v.0 v.1 t (length vs + d)) (at_bound vs i d) ∙ abstracted-bound v.0 v.1 (if nat_lt i d then i else i + length vs) (length vs + d)
      ∙ ap bnd (index_inside i d (length vs) (nat_lt i d) refl) ∙ sym (at_bound (v ∷ vs) i d)

  free_found : (o : Option ℕ) (m : ℕ) (b : Ty) (d : ℕ) (here : Bool) → (m == v.0 && is_ty b v.1) ≡ here → place_of vs m b ≡ o → ((j : ℕ) → o ≡ Some j → nat_lt j (length vs) ≡ true) →
      abstracted_at v.0 v.1 (bound_at o m b d) (length vs + d) ≡ bound_at (place_or o here (length vs)) m b d
  free_found (Some j) m b d here h is within =
      let inside : nat_lt (d + j) (length vs + d) ≡ true = let w = within j refl in grind (arith, nat_tests, w) in
      abstracted-bound v.0 v.1 (d + j) (length vs + d) ∙ ap (λ c. bnd (if c then d + j else d + j + 1)) inside
  free_found None m b d true h is within =
      let same : length vs + d ≡ d + length vs = omega arith in
      abstracted-free v.0 v.1 m b (length vs + d) ∙ ap (λ c. if c then roll-Term (Term-F.Bound (length vs + d)) else roll-Term (Term-F.Free m b)) h ∙ ap bnd same
  free_found None m b d false h is within = abstracted-free v.0 v.1 m b (length vs + d) ∙ ap (λ c. if c then roll-Term (Term-F.Bound (length vs + d)) else roll-Term (Term-F.Free m b)) h

-- a place is within the list
within_step : (o : Option ℕ) (here : Bool) (n j : ℕ) → ((i : ℕ) → o ≡ Some i → nat_lt i n ≡ true) → place_or o here n ≡ Some j → nat_lt j (suc n) ≡ true
within_step (Some i) here n j rest is = let w = rest i refl in let e : i ≡ j = cc in grind (arith, nat_tests, w, e)
within_step None true n j rest is = let e : n ≡ j = cc in grind (arith, nat_tests, e)
within_step None false n j rest is = cc

place_within : (vs : List Variable) (m : ℕ) (b : Ty) (j : ℕ) → place_of vs m b ≡ Some j → nat_lt j (length vs) ≡ true
place_within [] m b j is = cc
place_within (v ∷ vs) m b j is = within_step (place_of vs m b) (m == v.0 && is_ty b v.1) (length vs) j (place_within vs m b) is

module _ (v : Variable) (vs : List Variable) where
  more_free : (m : ℕ) (b : Ty) → More v vs (roll-Term (Term-F.Free m b))
  more_free m b d =
      ap (λ t. abstracted_at v.0 v.1 t (length vs + d)) (at_free vs m b d)
      ∙ free_found v vs (place_of vs m b) m b d (m == v.0 && is_ty b v.1) refl refl (place_within vs m b) ∙ sym (at_free (v ∷ vs) m b d)

  more_con : (k : Konst) → More v vs (roll-Term (Term-F.Con k))
  more_con k d = ap (λ t. abstracted_at v.0 v.1 t (length vs + d)) (at_con vs k d) ∙ abstracted-con v.0 v.1 k (length vs + d) ∙ sym (at_con (v ∷ vs) k d)

  more_app : (f x : Term) → More v vs f → More v vs x → More v vs (roll-Term (Term-F.App f x))
  more_app f x hf hx d =
      ap (λ t. abstracted_at v.0 v.1 t (length vs + d)) (at_app vs f x d) ∙ abstracted-app v.0 v.1 (bound_by vs f d) (bound_by vs x d) (length vs + d)
      ∙ (λ i. roll-Term (Term-F.App (hf d i) (hx d i))) ∙ sym (at_app (v ∷ vs) f x d)

  deeper : (d n : ℕ) → n + d + 1 ≡ n + (d + 1)
  deeper d n = omega arith

  more_lam : (a : Ty) (b : Term) → More v vs b → More v vs (roll-Term (Term-F.Lam a b))
  more_lam a b hb d =
      ap (λ t. abstracted_at v.0 v.1 t (length vs + d)) (at_lam vs a b d) ∙ abstracted-lam v.0 v.1 a (bound_by vs b (d + 1)) (length vs + d)
      ∙ ap (λ n. roll-Term (Term-F.Lam a (abstracted_at v.0 v.1 (bound_by vs b (d + 1)) n))) (deeper d (length vs))
      ∙ ap (λ u. roll-Term (Term-F.Lam a u)) (hb (d + 1)) ∙ sym (at_lam (v ∷ vs) a b d)

  one_more : (t : Term) → More v vs t
  one_more = by_cases (More v vs) more_bound' more_free more_con more_app more_lam
    where
      more_bound' : (i : ℕ) → More v vs (roll-Term (Term-F.Bound i))
      more_bound' i = more_bound v vs i

-- ---- a variable is bound behind lambdas
abstracted_lambdas : (n : ℕ) (a : Ty) (vs : List Variable) (t : Term) (d : ℕ) → abstracted_at n a (lambdas vs t) d ≡ lambdas vs (abstracted_at n a t (length vs + d))
abstracted_lambdas n a [] t d = let same : d ≡ 0 + d = omega arith in ap (abstracted_at n a t) same
abstracted_lambdas n a (v ∷ vs) t d =
    let next : length vs + (d + 1) ≡ suc (length vs) + d = omega arith in
    abstracted-lam n a v.1 (lambdas vs t) d ∙ ap (lambda v.1) (abstracted_lambdas n a vs t (d + 1)) ∙ ap (λ k. lambda v.1 (lambdas vs (abstracted_at n a t k))) next

pub closed_at_once : (vs : List Variable) (t : Term) → lambdas vs (bound_by vs t 0) ≡ closed_over vs t
closed_at_once [] t = none_bound t 0
closed_at_once (v ∷ vs) t =
    sym (
    ap (λ u. lambda v.1 (abstracted_at v.0 v.1 u 0)) (sym (closed_at_once vs t)) ∙ ap (lambda v.1) (abstracted_lambdas v.0 v.1 vs (bound_by vs t 0) 0)
    ∙ ap (λ u. lambda v.1 (lambdas vs u)) (one_more v vs t 0)
    )
