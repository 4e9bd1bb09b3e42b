-- The lists of the walk have the lengths that are counted.
use Rattle.std.proofs.Common.{◌≡◌, ℕ, ◌+◌, ◌*◌, Bool, true, false, ◌&&◌, nat_le, if◌then◌else◌, [], ◌∷◌, ◌++◌, map, length, refl, sym, ap, subst, ◌∙◌, arith}
use Rattle.std.specs.Prelude.{Option, Some, None, is_some}
use Rattle.std.proofs.lemmas.List.{length-append, length-map}
use Rattle.hol_terms.specs.declared.ty.Ty.{Ty}
use Rattle.hol_terms.specs.declared.term.Term.{Term}
use Rattle.formula_clauses.specs.declared.counting.Counts.{Counts}
use Rattle.hol_formulas.specs.declared.formula.Junction.{Junction}
use Rattle.hol_formulas.specs.declared.formula.Junction.TheVariants as junctions
use Rattle.hol_formulas.specs.declared.formula.Quantifier.{Quantifier}
use Rattle.hol_formulas.specs.declared.formula.Formula as formula
use Rattle.hol_formulas.specs.declared.formula.Formula.{Formula}
use Rattle.formula_clauses.specs.Walks.{Clauses, joined, appended, Progress, Walked, Pass, Walk, both, junction_pass, opened, inside, walked}
use Rattle.formula_clauses.specs.inner.Counts.{Counted, CountedBoth, with_both, sum_of, product_of, counts_of}
use Rattle.formula_clauses.proofs.WalkSteps.{at_true, at_false, at_atom, at_not, at_two, at_quantified}

-- ---- lengths

pub length_joined : (cs ds : Clauses) → length (joined cs ds) ≡ length cs * length ds
length_joined [] ds = omega arith
length_joined (c ∷ cs) ds =
    let rest : length (joined cs ds) ≡ length cs * length ds = length_joined cs ds in
    let one : length (map (λ d. c ++ d) ds) ≡ length ds = length-map ds (λ d. c ++ d) in
    let all : length (map (λ d. c ++ d) ds ++ joined cs ds) ≡ length (map (λ d. c ++ d) ds) + length (joined cs ds) = length-append (map (λ d. c ++ d) ds) (joined cs ds) in
    grind (arith, rest, one, all)

pub length_appended : (cs ds : Clauses) → length (appended cs ds) ≡ length cs + length ds
length_appended cs ds = length-append cs ds

-- ---- one list of two

limited : (w : Walked) (k : ℕ) (b : Bool) → nat_le k 64 ≡ b → w.few ≡ nat_le k 64 → length w.clauses ≡ k → Counted w (if b then Some k else None)
limited w k true h few len = (few ∙ h, len)
limited w k false h few len = few ∙ h

module _ (make : Clauses → Clauses → Clauses) (f : ℕ → ℕ → ℕ) (lengths : (cs ds : Clauses) → length (make cs ds) ≡ f (length cs) (length ds)) where
  counted_two : (x y : Pass) (m n : Option ℕ) → ((p : Progress) → Counted (x p) m) → ((p : Progress) → Counted (y p) n) →
      (p : Progress) → Counted (both make x y p) (with_both f m n)
  counted_two x y None n hx hy p = ap (λ b. b && ((y (x p).after).few && nat_le (length (make (x p).clauses (y (x p).after).clauses)) 64)) (hx p)
  counted_two x y (Some i) None hx hy p =
      λ t. (hx p).0 t && (hy (x p).after t && nat_le (length (make (x p).clauses (y (x p).after).clauses)) 64)
  counted_two x y (Some i) (Some j) hx hy p =
      let l = hx p in
      let r = hy (x p).after in
      let k : length (make (x p).clauses (y (x p).after).clauses) ≡ f i j = lengths (x p).clauses (y (x p).after).clauses ∙ (λ t. f (l.1 t) (r.1 t)) in
      limited (both make x y p) (f i j) (nat_le (f i j) 64) refl (λ t. l.0 t && (r.0 t && nat_le (k t) 64)) k

counted_sum : (x y : Pass) (m n : Option ℕ) → ((p : Progress) → Counted (x p) m) → ((p : Progress) → Counted (y p) n) → (p : Progress) → Counted (both appended x y p) (sum_of m n)
counted_sum = counted_two appended (λ m n. m + n) length_appended

counted_product : (x y : Pass) (m n : Option ℕ) → ((p : Progress) → Counted (x p) m) → ((p : Progress) → Counted (y p) n) → (p : Progress) → Counted (both joined x y p) (product_of m n)
counted_product = counted_two joined (λ m n. m * n) length_joined

-- ---- the connectives

pub junction_counted : (j : Junction) (x y : Walk) (a b : Counts) → CountedBoth x a → CountedBoth y b → CountedBoth (junction_pass j x y) (counts_of j a b)
junction_counted junctions.And x y a b hx hy =
    (λ e. counted_sum (x true e) (y true e) a.positive b.positive (hx.0 e) (hy.0 e), λ e. counted_product (x false e) (y false e) a.negative b.negative (hx.1 e) (hy.1 e))
junction_counted junctions.Or x y a b hx hy =
    (λ e. counted_product (x true e) (y true e) a.positive b.positive (hx.0 e) (hy.0 e), λ e. counted_sum (x false e) (y false e) a.negative b.negative (hx.1 e) (hy.1 e))
junction_counted junctions.Imp x y a b hx hy =
    (λ e. counted_product (x false e) (y true e) a.negative b.positive (hx.1 e) (hy.0 e), λ e. counted_sum (x true e) (y false e) a.positive b.negative (hx.0 e) (hy.1 e))
junction_counted junctions.Iff x y a b hx hy = (
  λ e.
      counted_sum (both joined (x false e) (y true e)) (both joined (x true e) (y false e)) (product_of a.negative b.positive) (product_of a.positive b.negative)
      (counted_product (x false e) (y true e) a.negative b.positive (hx.1 e) (hy.0 e)) (counted_product (x true e) (y false e) a.positive b.negative (hx.0 e) (hy.1 e)),
  λ e.
      counted_sum (both joined (x true e) (y true e)) (both joined (x false e) (y false e)) (product_of a.positive b.positive) (product_of a.negative b.negative)
      (counted_product (x true e) (y true e) a.positive b.positive (hx.0 e) (hy.0 e)) (counted_product (x false e) (y false e) a.negative b.negative (hx.1 e) (hy.1 e)),
)

-- ---- the walk

by : (w w' : Walked) (n : Option ℕ) → w ≡ w' → Counted w' n → Counted w n
by w w' n is h = subst (λ (z : Walked). Counted z n) (sym is) h

pub true_counted : (f : Formula) → f ≡ formula.True → CountedBoth (walked f) (record { positive = Some 0; negative = Some 1 })
true_counted f is = (λ e p. by _ _ (Some 0) (at_true true e p f is) (refl, refl), λ e p. by _ _ (Some 1) (at_true false e p f is) (refl, refl))

pub false_counted : (f : Formula) → f ≡ formula.False → CountedBoth (walked f) (record { positive = Some 1; negative = Some 0 })
false_counted f is = (λ e p. by _ _ (Some 1) (at_false true e p f is) (refl, refl), λ e p. by _ _ (Some 0) (at_false false e p f is) (refl, refl))

pub atom_counted : (f : Formula) (t : Term) → f ≡ formula.Atom t → CountedBoth (walked f) (record { positive = Some 1; negative = Some 1 })
atom_counted f t is = (λ e p. by _ _ (Some 1) (at_atom true e p f t is) (refl, refl), λ e p. by _ _ (Some 1) (at_atom false e p f t is) (refl, refl))

pub not_counted : (f a : Formula) (c : Counts) → f ≡ formula.Not a → CountedBoth (walked a) c → CountedBoth (walked f) (record { positive = c.negative; negative = c.positive })
not_counted f a c is h = (λ e p. by _ _ c.negative (at_not true e p f a is) (h.1 e p), λ e p. by _ _ c.positive (at_not false e p f a is) (h.0 e p))

pub two_counted : (f : Formula) (j : Junction) (a b : Formula) (m n : Counts) → f ≡ formula.Two j a b → CountedBoth (walked a) m → CountedBoth (walked b) n →
    CountedBoth (walked f) (counts_of j m n)
two_counted f j a b m n is ha hb =
    let all = junction_counted j (walked a) (walked b) m n ha hb in
    (λ e p. by _ _ (counts_of j m n).positive (at_two true e p f j a b is) (all.0 e p), λ e p. by _ _ (counts_of j m n).negative (at_two false e p f j a b is) (all.1 e p))

under : (w w' : Walked) (n : Option ℕ) → w.few ≡ w'.few → w.clauses ≡ w'.clauses → Counted w' n → Counted w n
under w w' None few cs h = few ∙ h
under w w' (Some n) few cs h = (few ∙ h.0, ap length cs ∙ h.1)

pub quantified_counted : (f : Formula) (q : Quantifier) (a : Ty) (t : Term) (b : Formula) (c : Counts) → f ≡ formula.Quantified q a t b → CountedBoth (walked b) c → CountedBoth (walked f) c
quantified_counted f q a t b c is h = (
  λ e p. let o = opened q a t true e p in by _ _ c.positive (at_quantified true e p f q a t b is) (under (inside o (walked b true (o.value ∷ e) o.after)) (walked b true (o.value ∷ e) o.after) c.positive refl refl (h.0 (o.value ∷ e) o.after)),
  λ e p. let o = opened q a t false e p in by _ _ c.negative (at_quantified false e p f q a t b is) (under (inside o (walked b false (o.value ∷ e) o.after)) (walked b false (o.value ∷ e) o.after) c.negative refl refl (h.1 (o.value ∷ e) o.after)),
)

-- the lists are few exactly where there is a number
pub few_counted : (w : Walked) (n : Option ℕ) → Counted w n → w.few ≡ is_some n
few_counted w None h = h
few_counted w (Some n) h = h.0
