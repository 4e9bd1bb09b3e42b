-- The marks of active clauses stay with them, and tell where a pair has no inferences.
use Rattle.std.proofs.Common.{◌≡◌, ℕ, ◌+◌, ◌<◌, ◌⊎◌, inl, inr, Bool, List, [], ◌∷◌, ◌++◌, length, get_or, subst, sym, ap, ◌∙◌, refl, arith, All, Some, slice_get}
use Rattle.std.proofs.lemmas.List.{map-append, length_push}
use Rattle.std.proofs.lemmas.Option.{slice_get_within, slice_get-get_or}
use Rattle.fo_terms.specs.declared.clause.Clause.{Clause}
use Rattle.fo_infer.specs.declared.refutation.Line.{Line}
use Rattle.fo_infer.specs.Inferences.{BetweenAt}
use Rattle.fo_infer.specs.inner.Places as places
use Rattle.pair_marks.specs.declared.pairs.PairMarks.{PairMarks}
use Rattle.pair_marks.specs.Marking.{AreMarksOf}
use Rattle.metis_core.specs.declared.given.Positions.{Positions}
use Rattle.metis_core.specs.declared.given.Positions.TheVariants.{Tagged, Plain}
use Rattle.metis_core.specs.declared.premises.Premises.TheVariants.{Two}
use Rattle.metis_core.specs.declared.stock.Stock.{Stock}
use Rattle.metis_core.specs.Offer.{on, done}
use Rattle.metis_core.specs.Search.{position_of, Inferred}
use Rattle.metis_core.specs.Searched.{empty_clause}
use Rattle.metis_core.specs.Stock.{clauses}
use Rattle.metis_core.specs.Reach.{plain, AreReach}
use Rattle.metis_core.specs.Held.{state_of, IsSound}
use Rattle.metis_core.proofs.Stocks.{item_before, item_last, held_as_many}
use Rattle.metis_core.proofs.Indexes.{some_same}
use Rattle.metis_core.proofs.Telling.{number_below}

-- one line more
pub reach_grows : (positions : Positions) (lines : List Line) (line : Line) (active : List ℕ) (reach : List PairMarks) → All (λ n. n < length lines) active
    → AreReach positions lines active reach → AreReach positions (lines ++ line ∷ []) active reach
reach_grows positions lines line active reach below held = record {
  as_many = held.as_many;
  each = λ k n m p number marks at.
      let less : n < length (clauses lines) = (let few = number_below active k n (length lines) below number in let many = held_as_many lines in omega arith) in
      held.each k n m p number marks
      (item_before (clauses lines) p line.clause n less (subst (λ cs. slice_get cs n ≡ Some p) (map-append (λ l. l.clause) lines (line ∷ [])) at));
}

-- one active clause more
pub reach_push : (positions : Positions) (lines : List Line) (active : List ℕ) (reach : List PairMarks) (n : ℕ) (m : PairMarks) (c : Clause)
    → slice_get (clauses lines) n ≡ Some c → AreMarksOf (plain positions) c m → AreReach positions lines active reach → AreReach positions lines (active ++ n ∷ []) (reach ++ m ∷ [])
reach_push positions lines active reach n m c there marks held = record {
  as_many = (let left = length_push reach m in let right = length_push active n in let many = held.as_many in omega arith);
  each = λ k a r p number at is. each_at k a r p number at is (cases k (let size = length_push active n in let within = slice_get_within (active ++ n ∷ []) k a number in omega arith));
}
  where
    cases : (k : ℕ) → k < length active + 1 → (k < length active) ⊎ (k ≡ length active)
    cases k h = grind (arith, h)

    each_at : (k a : ℕ) (r : PairMarks) (p : Clause) → slice_get (active ++ n ∷ []) k ≡ Some a → slice_get (reach ++ m ∷ []) k ≡ Some r → slice_get (clauses lines) a ≡ Some p
        → (k < length active) ⊎ (k ≡ length active) → AreMarksOf (plain positions) p r
    each_at k a r p number at is (inl less) =
        let inside : k < length reach = (let many = held.as_many in omega arith) in
        held.each k a r p (item_before active a n k less number) (item_before reach r m k inside at) is
    each_at k a r p number at is (inr last) =
        let same : c ≡ p = some_same c p (sym there ∙ subst (λ j. slice_get (clauses lines) j ≡ Some p) (item_last active a n k last number) is) in
        subst (AreMarksOf (plain positions) p) (sym (item_last reach r m k (last ∙ sym held.as_many) at)) (subst (λ d. AreMarksOf (plain positions) d m) same marks)

pub reach_pushed : (positions : Positions) (lines : List Line) (active active' : List ℕ) (reach reach' : List PairMarks) (n : ℕ) (m : PairMarks) (c : Clause) (x : Bool)
    → active' ≡ active ++ n ∷ [] → reach' ≡ reach ++ m ∷ [] → slice_get (clauses lines) n ≡ Some c → x ≡ plain positions → AreMarksOf x c m
    → AreReach positions lines active reach → AreReach positions lines active' reach'
reach_pushed positions lines active active' reach reach' n m c x numbers marks there same are held =
    subst (λ a. AreReach positions lines a reach') (sym numbers)
    (subst (AreReach positions lines (active ++ n ∷ [])) (sym marks)
    (reach_push positions lines active reach n m c there (subst (λ y. AreMarksOf y c m) same are) held))

pub same_position : (positions : Positions) → places.position_of (plain positions) ≡ position_of positions
same_position Tagged = refl
same_position Plain = refl

-- two active clauses with no inferences
pub none_inferred : (positions : Positions) (stock : Stock) (i j a b : ℕ) (m n : PairMarks) → IsSound stock → stock.positions ≡ positions
    → slice_get stock.active i ≡ Some a → slice_get stock.active j ≡ Some b → slice_get stock.reach i ≡ Some m → slice_get stock.reach j ≡ Some n
    → ((x : Bool) (p q : Clause) → AreMarksOf x p m → AreMarksOf x q n → BetweenAt (places.position_of x) p q [])
    → Inferred positions (state_of stock) (Two a b) (on (state_of stock))
none_inferred positions stock i j a b m n sound same left right left_marks right_marks none =
    let p = clause_of i a left in
    let q = clause_of j b right in
    let x = plain stock.positions in
    let at_left : AreMarksOf x p.0 m = sound.reach.each i a m p.0 left left_marks p.1 in
    let at_right : AreMarksOf x q.0 n = sound.reach.each j b n q.0 right right_marks q.1 in
    ([], (p.0, q.0, p.1, q.1, subst (λ w. BetweenAt w p.0 q.0 []) (same_position stock.positions ∙ ap position_of same) (none x p.0 q.0 at_left at_right)), done)
  where
    clause_of : (k c : ℕ) → slice_get stock.active k ≡ Some c → (p : Clause) × (slice_get (clauses stock.lines) c ≡ Some p)
    clause_of k c at =
        let inside : c < length (clauses stock.lines) = (let few = number_below stock.active k c (length stock.lines) sound.active at in let many = held_as_many stock.lines in omega arith) in
        (get_or (clauses stock.lines) c empty_clause, slice_get-get_or (clauses stock.lines) c empty_clause inside)
