-- What stands beside active clauses stays with them.
use Rattle.std.proofs.Common.{◌≡◌, ℕ, ◌+◌, ◌<◌, ◌⊎◌, inl, inr, List, [], ◌∷◌, ◌++◌, length, get_or, subst, sym, ◌∙◌, arith, All, Some, slice_get}
use Rattle.std.proofs.lemmas.List.{map-append, length_push, get_or_append_left, get_or_push}
use Rattle.std.proofs.lemmas.Option.{slice_get_within}
use Rattle.fo_terms.specs.declared.clause.Clause.{Clause}
use Rattle.fo_infer.specs.declared.refutation.Line.{Line}
use Rattle.metis_core.specs.Stock.{AreBeside, clauses}
use Rattle.metis_core.proofs.Stocks.{item_before, item_last, held_as_many}
use Rattle.metis_core.proofs.Indexes.{some_same}

-- one line more
pub beside_grow : {X : Type 0} (Is : Clause → X → Type 0) (lines : List Line) (line : Line) (numbers : List ℕ) (items : List X) → All (λ n. n < length lines) numbers
    → AreBeside Is lines numbers items → AreBeside Is (lines ++ line ∷ []) numbers items
beside_grow Is lines line numbers items below held = record {
  as_many = held.as_many;
  each = λ k p x is at.
      let within : k < length numbers = omega (arith, slice_get_within items k x is, held.as_many) in
      let less : get_or numbers k 0 < length (clauses lines) = (let few = below k 0 within in let many = held_as_many lines in omega arith) in
      held.each k p x is
      (item_before (clauses lines) p line.clause (get_or numbers k 0) less (subst (λ cs. slice_get cs (get_or numbers k 0) ≡ Some p) (map-append (λ l. l.clause) lines (line ∷ [])) at));
}

-- one clause more
pub beside_push : {X : Type 0} (Is : Clause → X → Type 0) (lines : List Line) (numbers : List ℕ) (items : List X) (n : ℕ) (y : X) (c : Clause) → slice_get (clauses lines) n ≡ Some c → Is c y
    → AreBeside Is lines numbers items → AreBeside Is lines (numbers ++ n ∷ []) (items ++ y ∷ [])
beside_push {X} Is lines numbers items n y c there is_so held = record {
  as_many = (let left = length_push items y in let right = length_push numbers n in let many = held.as_many in omega arith);
  each = λ k p x is at. each_at k p x is at (cases k (let size = length_push items y in let inside = slice_get_within (items ++ y ∷ []) k x is in omega arith));
}
  where
    cases : (k : ℕ) → k < length items + 1 → (k < length items) ⊎ (k ≡ length items)
    cases k h = grind (arith, h)

    each_at : (k : ℕ) (p : Clause) (x : X) → slice_get (items ++ y ∷ []) k ≡ Some x → slice_get (clauses lines) (get_or (numbers ++ n ∷ []) k 0) ≡ Some p → (k < length items) ⊎ (k ≡ length items) → Is p x
    each_at k p x is at (inl less) =
        let inside : k < length numbers = (let many = held.as_many in omega arith) in
        held.each k p x (item_before items x y k less is) (subst (λ j. slice_get (clauses lines) j ≡ Some p) (get_or_append_left numbers (n ∷ []) 0 k inside) at)
    each_at k p x is at (inr last) =
        let end : length numbers ≡ k = sym held.as_many ∙ sym last in
        let same : c ≡ p = some_same c p (sym there ∙ subst (λ j. slice_get (clauses lines) j ≡ Some p) (get_or_push numbers n 0 k end) at) in
        subst (λ q. Is q x) same (subst (Is c) (sym (item_last items x y k last is)) is_so)
