-- Kept clauses are found by their prints.
use Rattle.std.proofs.Common.{◌≡◌, ℕ, ◌+◌, ◌<◌, ◌≤◌, List, [], length, get_or, subst, sym, ap, ◌∙◌, refl, arith, Any, Contains, Option, Some, None, slice_get, option_map, below_more}
use Rattle.std.proofs.lemmas.List.{get_or_default}
use Rattle.std.proofs.lemmas.Option.{get_or_from_slice_get, slice_get_within, slice_get-get_or, slice_get-map}
use Rattle.fo_terms.specs.declared.clause.Clause.{Clause}
use Rattle.fo_infer.specs.declared.refutation.Line.{Line}
use Rattle.metis_core.specs.Print.{clause_print}
use Rattle.metis_core.specs.Stock.{Places, places_at, IsIndex, IsLine, clauses}

pub some_same : {A : Type 0} (x y : A) → Some x ≡ Some y → x ≡ y
some_same x y e = cc

-- a clause of the lines, and the line that holds it
pub line_of : (lines : List Line) (c : Clause) → Contains (clauses lines) c → (n : ℕ) × IsLine lines c n
line_of lines c held =
    let found : slice_get (clauses lines) held.0 ≡ Some c = slice_get-get_or (clauses lines) held.0 c held.1 ∙ ap Some held.2 in
    (held.0, at (slice_get lines held.0) refl (sym (slice_get-map (λ l. l.clause) lines held.0) ∙ found))
  where
    at : (o : Option Line) → slice_get lines held.0 ≡ o → option_map (λ l. l.clause) o ≡ Some c → IsLine lines c held.0
    at None is e = cc
    at (Some l) is e = (l, is, some_same l.clause c e)

pub clause_at : (lines : List Line) (n : ℕ) (l : Line) → slice_get lines n ≡ Some l → slice_get (clauses lines) n ≡ Some l.clause
clause_at lines n l is = slice_get-map (λ l. l.clause) lines n ∙ ap (option_map (λ l. l.clause)) is

pub clause_in : (lines : List Line) (c : Clause) (n : ℕ) → IsLine lines c n → Contains (clauses lines) c
clause_in lines c n held =
    let found : slice_get (clauses lines) n ≡ Some c = clause_at lines n held.0 held.1 ∙ ap Some held.2 in
    (n, slice_get_within (clauses lines) n c found, get_or_from_slice_get (clauses lines) n c c found)

module _ (m : Places) (lines : List Line) (c : Clause) (index : IsIndex m lines) where
  -- a kept clause stands among the places at its print
  pub stands : Contains (clauses lines) c → Any (IsLine lines c) (places_at m (clause_print c))
  stands held =
      let found = line_of lines c held in
      let line = found.1.0 in
      let there = subst (λ d. Contains (places_at m (clause_print d)) found.0) found.1.2 (index found.0 line found.1.1) in
      (there.0, found.0, there.1, there.2, found.1)

  pub stood : Any (IsLine lines c) (places_at m (clause_print c)) → Contains (clauses lines) c
  stood found = clause_in lines c found.1 found.4

pub nowhere : (P : ℕ → Type 0) → Any P [] → ⊥
nowhere P found = omega (arith, found.2)

-- the places are gone through one after another
module _ (places : List ℕ) (i : ℕ) (P : ℕ → Type 0) (none : (k : ℕ) → k < i → P (get_or places k 0) → ⊥) where
  pub none_at : length places ≤ i → Any P places → ⊥
  none_at past found = none found.0 (omega (arith, found.2)) (subst P (sym (get_or_default places found.0 0 found.1 found.2 ∙ found.3)) found.4)

pub none_more : (places : List ℕ) (i : ℕ) (P : ℕ → Type 0) → ((k : ℕ) → k < i → P (get_or places k 0) → ⊥) → (P (get_or places i 0) → ⊥) → (k : ℕ) → k < i + 1 → P (get_or places k 0) → ⊥
none_more places i P none here = below_more (λ k. P (get_or places k 0) → ⊥) i none here
