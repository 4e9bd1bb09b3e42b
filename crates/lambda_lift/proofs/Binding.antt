-- The places of variables under new lambdas, as they are made.
use Rattle.std.proofs.Common.{◌≡◌, ℕ, ◌+◌, ◌<◌, Bool, true, false, ◌&&◌, nat_lt, if◌then◌else◌, IsTrue, List, [], ◌∷◌, ◌++◌, length, slice_get, refl, sym, ap, subst, ◌∙◌, rules, arith}
use Rattle.std.specs.Prelude.{unwrap_or, None}
use Rattle.std.proofs.lemmas.Bool.Decides.{nat_tests}
use Rattle.std.proofs.lemmas.List.{length-append}
use Rattle.hol_terms.proofs.Preserves.{slice_get_front}
use Rattle.hol_terms.proofs.Substitutes.{get_middle}
use Rattle.std.proofs.lemmas.Option.{slice_get_past}
use Rattle.lambda_lift.specs.Closing.{variables, lambda_of}
use Rattle.lambda_lift.specs.inner.Marks.{index_in}
use Rattle.lambda_lift.proofs.Occurring.{taken, passed}

-- the places of the variables below `v`; `next` of these pass
pub record Placed (p : ℕ → Bool) (n total v next : ℕ) (places : List ℕ) : Type 0 where
  pub counted : next ≡ length (variables p v)
  pub sized : length places ≡ v
  pub each : (u : ℕ) → u < v → index_in places total u ≡ lambda_of p n u

-- ---- one more place

module _ (p : ℕ → Bool) (n total v next : ℕ) (places : List ℕ) (placed : Placed p n total v next places) where
  within_length : (u : ℕ) → u < v → IsTrue (nat_lt u (length places))
  within_length u h = let l : u < length places = omega (arith, placed.sized) in search (rules, l)

  old : (x u : ℕ) → u < v → index_in (places ++ x ∷ []) total u ≡ lambda_of p n u
  old x u h = ap (λ o. unwrap_or o (u + total)) (slice_get_front places (x ∷ []) u (within_length u h)) ∙ placed.each u h

  new : (x : ℕ) → index_in (places ++ x ∷ []) total v ≡ x
  new x = ap (λ k. unwrap_or (slice_get (places ++ x ∷ []) k) (v + total)) (sym placed.sized) ∙ ap (λ o. unwrap_or o (v + total)) (get_middle places [] x)

  each : (x : ℕ) → x ≡ lambda_of p n v → (u : ℕ) → u < v + 1 → (b : Bool) → nat_lt u v ≡ b → index_in (places ++ x ∷ []) total u ≡ lambda_of p n u
  each x here u h true l = old x u (search (rules, l))
  each x here u h false l = let e : u ≡ v = grind (arith, nat_tests) in subst (λ w. index_in (places ++ x ∷ []) total w ≡ lambda_of p n w) (sym e) (new x ∙ here)

  longer : (x : ℕ) → length (places ++ x ∷ []) ≡ v + 1
  longer x = simp length-append (omega (arith, placed.sized))

  pub placed_taken : v < n → p v ≡ true → Placed p n total (v + 1) (next + 1) (places ++ next ∷ [])
  placed_taken within h =
      let lt : nat_lt v n ≡ true = grind (arith, nat_tests) in
      let here : next ≡ lambda_of p n v = placed.counted ∙ sym (λ i. if lt i && h i then length (variables p v) else v + length (variables p n)) in
      record {
        counted = omega (arith, placed.counted, ap length (taken p v h));
        sized = longer next;
        each = λ u l. each next here u l (nat_lt u v) refl;
      }

  sum : total ≡ length (variables p n) → total + v ≡ v + length (variables p n)
  sum h = omega arith

  pub placed_passed : total ≡ length (variables p n) → v < n → p v ≡ false → Placed p n total (v + 1) next (places ++ (total + v) ∷ [])
  placed_passed all within h =
      let lt : nat_lt v n ≡ true = grind (arith, nat_tests) in
      let here : total + v ≡ lambda_of p n v = sum all ∙ sym (λ i. if lt i && h i then length (variables p v) else v + length (variables p n)) in
      record {
        counted = placed.counted ∙ sym (ap length (passed p v h));
        sized = longer (total + v);
        each = λ u l. each (total + v) here u l (nat_lt u v) refl;
      }

-- all placed
pub all_placed : (p : ℕ → Bool) (n total next : ℕ) (places : List ℕ) → total ≡ length (variables p n) → Placed p n total n next places → (v : ℕ) → index_in places total v ≡ lambda_of p n v
all_placed p n total next places all placed v = by (nat_lt v n) refl
  where
    by : (b : Bool) → nat_lt v n ≡ b → index_in places total v ≡ lambda_of p n v
    by true l = placed.each v (search (rules, l))
    by false l =
        let past : slice_get places v ≡ None = slice_get_past places v (grind (arith, nat_tests, placed.sized)) in
        ap (λ o. unwrap_or o (v + total)) past ∙ ap (λ k. v + k) all ∙ sym (ap (λ b. if b && p v then length (variables p v) else v + length (variables p n)) l)
