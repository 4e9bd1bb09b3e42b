-- Terms that are looked up by their keys.
use Rattle.std.proofs.Common.{◌≡◌, ℕ, suc, ◌+◌, Bool, true, false, cond, ◌||◌, not, nat_eq, nat_lt, List, [], ◌∷◌, ◌++◌, map, length, refl, sym, ap, ◌∙◌, arith, if◌then◌else◌}
use Rattle.std.specs.Prelude.{Option, Some, None, position}
use Rattle.std.specs.List.{list_any, position_or_len}
use Rattle.std.specs.Cmp.Lexicographic.{pointwise}
use Rattle.std.proofs.lemmas.Bool.Decides.{nat_tests}
use Rattle.std.proofs.lemmas.Grind.{common_steps}
use Rattle.std.proofs.lemmas.List.{length-map, map-append}
use Rattle.indexmap.specs.IndexSet.{insert_key}
use Rattle.hol_terms.specs.declared.ty.Ty.{Ty}
use Rattle.hol_terms.specs.declared.term.Term.{Term}
use Rattle.lambda_lift.specs.declared.table.Aux.{Aux}
use Rattle.lambda_lift.specs.Keys.{key, is_same}
use Rattle.lambda_lift.specs.Tables.{closed_terms, place, with_entry}
use Rattle.lambda_lift.specs.inner.Places.{IsNew, Numbers}

-- ---- tests over a mapped list
module _ {X Y : Type 0} (f : X → Y) (p : Y → Bool) where
  pub any_map : (xs : List X) → list_any p (map f xs) ≡ list_any (λ x. p (f x)) xs
  any_map [] = refl
  any_map (x ∷ xs) = let rest = any_map xs in grind (arith, common_steps)

  pub place_map : (xs : List X) → position_or_len p (map f xs) ≡ position_or_len (λ x. p (f x)) xs
  place_map [] = refl
  place_map (x ∷ xs) = let rest = place_map xs in grind (arith, common_steps)

-- ---- the first place that passes
module _ {X : Type 0} (p : X → Bool) where
  first_step : (b : Bool) (k n : ℕ) (c : Bool) → nat_lt k n ≡ c → nat_lt (cond (not b) (1 + k) 0) (suc n) ≡ (if b then true else c)
  first_step true k n c h = grind (arith, nat_tests)
  first_step false k n c h = grind (arith, nat_tests)

  pub first_any : (xs : List X) → nat_lt (position_or_len p xs) (length xs) ≡ list_any p xs
  first_any [] = grind (arith, nat_tests)
  first_any (x ∷ xs) = let rest = first_any xs in let all = first_step (p x) (position_or_len p xs) (length xs) (list_any p xs) rest in grind (arith, common_steps, all)

  past_step : (b c : Bool) (k n : ℕ) → (b || c) ≡ false → (c ≡ false → k ≡ n) → cond (not b) (1 + k) 0 ≡ suc n
  past_step true c k n h rest = cc
  past_step false c k n h rest = let e : k ≡ n = rest h in omega arith

  pub past_all : (xs : List X) → list_any p xs ≡ false → position_or_len p xs ≡ length xs
  past_all [] h = refl
  past_all (x ∷ xs) h = past_step (p x) (list_any p xs) (position_or_len p xs) (length xs) h (past_all xs)

pub got : (b : Bool) (k i : ℕ) → cond b (Some k) None ≡ Some i → (b ≡ true) × (k ≡ i)
got true k i h = (refl, cc)
got false k i h = cc

pub got_none : (b : Bool) (k : ℕ) → cond b (Some k) None ≡ None → b ≡ false
got_none true k h = cc
got_none false k h = refl

-- ---- a table and the keys of its terms
module _ {K : Type 0} (items : K → List ℕ) (ks : List K) (table : List Aux) (agree : map items ks ≡ map key (closed_terms table)) (k : K) (t : Term) (is : items k ≡ key t) where
  test : K → Bool
  test x = pointwise nat_eq (items k) (items x)

  pub any_same : list_any (λ x. pointwise nat_eq (items k) (items x)) ks ≡ list_any (is_same t) (closed_terms table)
  unfolding is_same
  any_same =
      sym (any_map items (pointwise nat_eq (items k)) ks) ∙ ap (list_any (pointwise nat_eq (items k))) agree ∙ any_map key (pointwise nat_eq (items k)) (closed_terms table)
      ∙ ap (λ l. list_any (λ u. pointwise nat_eq l (key u)) (closed_terms table)) is

  pub place_same : position_or_len (λ x. pointwise nat_eq (items k) (items x)) ks ≡ place table t
  unfolding is_same
  place_same =
      sym (place_map items (pointwise nat_eq (items k)) ks) ∙ ap (position_or_len (pointwise nat_eq (items k))) agree ∙ place_map key (pointwise nat_eq (items k)) (closed_terms table)
      ∙ ap (λ l. position_or_len (λ u. pointwise nat_eq l (key u)) (closed_terms table)) is

  pub numbers : (o : Option ℕ) → o ≡ position (λ x. pointwise nat_eq (items k) (items x)) ks → Numbers table t o
  numbers (Some i) e =
      let both = got (nat_lt (position_or_len (λ x. pointwise nat_eq (items k) (items x)) ks) (length ks)) (position_or_len (λ x. pointwise nat_eq (items k) (items x)) ks) i (sym e) in
      (sym both.1 ∙ place_same, sym any_same ∙ sym (first_any (λ x. pointwise nat_eq (items k) (items x)) ks) ∙ both.0)
  numbers None e =
      sym any_same ∙ sym (first_any (λ x. pointwise nat_eq (items k) (items x)) ks)
      ∙ got_none (nat_lt (position_or_len (λ x. pointwise nat_eq (items k) (items x)) ks) (length ks)) (position_or_len (λ x. pointwise nat_eq (items k) (items x)) ks) (sym e)

  pub appended : (a : Ty) → IsNew table t → map items (insert_key (λ x y. pointwise nat_eq (items x) (items y)) ks k) ≡ map key (closed_terms (table ++ record { ty = a; closed = t } ∷ []))
  appended a new =
      ap (λ b. map items (if b then ks else ks ++ k ∷ [])) (any_same ∙ new) ∙ map-append items ks (k ∷ []) ∙ (λ i. agree i ++ is i ∷ [])
      ∙ sym (ap (map key) (map-append (λ e. e.closed) table _) ∙ map-append key (closed_terms table) (t ∷ []))

-- ---- an appended entry
pub next_place : (table : List Aux) (t : Term) → IsNew table t → length table ≡ place table t
next_place table t new = sym (length-map table (λ e. e.closed)) ∙ sym (past_all (is_same t) (closed_terms table) new)

pub is_appended : (table : List Aux) (a : Ty) (t : Term) → IsNew table t → table ++ record { ty = a; closed = t } ∷ [] ≡ with_entry table a t
is_appended table a t new = sym (ap (λ b. if b then table else table ++ record { ty = a; closed = t } ∷ []) new)
