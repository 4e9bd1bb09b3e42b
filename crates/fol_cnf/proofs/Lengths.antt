-- The lists of the walk have the lengths that are counted.
use Rattle.std.proofs.Common.{◌≡◌, ℕ, ◌+◌, ◌*◌, Bool, true, false, ◌&&◌, nat_le, if◌then◌else◌, [], ◌∷◌, ◌++◌, map, length, refl, sym, ap, subst, ◌∙◌, arith}
use Rattle.std.specs.Prelude.{Option, Some, None, is_some}
use Rattle.std.proofs.lemmas.List.{length-append, length-map}
use Rattle.fo_terms.specs.declared.atom.Atom.{Atom}
use Rattle.fo_terms.specs.declared.formula.FoFormula as formula
use Rattle.fo_terms.specs.declared.formula.FoFormula.{FoFormula}
use Rattle.fo_terms.specs.declared.formula.FoFormula.TheOpen.{FoFormula-F}
use Rattle.fol_cnf.specs.declared.counting.Counts.{Counts}
use Rattle.fol_cnf.specs.declared.progress.Progress.{Progress}
use Rattle.fol_cnf.specs.Scopes.{put_for}
use Rattle.fol_cnf.specs.Walks.{Clauses, joined, appended, Walked, Pass, Meaning, meaning, meaning_step, both, opened, walked}
use Rattle.fol_cnf.specs.inner.Counts.{Counted, CountedBoth, with_both, sum_of, product_of, flipped_of, and_of, or_of, iff_of}
use Rattle.fol_cnf.proofs.Meanings.{means_true, means_false, means_atom, means_not, means_and, means_or, means_imp, means_iff, means_each, means_one}

-- ---- lengths

pub length_joined : (cs ds : Clauses) → length (joined cs ds) ≡ length cs * length ds
length_joined [] ds = omega arith
length_joined (c ∷ cs) ds =
    let rest : length (joined cs ds) ≡ length cs * length ds = length_joined cs ds in
    let one : length (map (λ d. c ++ d) ds) ≡ length ds = length-map ds (λ d. c ++ d) in
    let all : length (map (λ d. c ++ d) ds ++ joined cs ds) ≡ length (map (λ d. c ++ d) ds) + length (joined cs ds) = length-append (map (λ d. c ++ d) ds) (joined cs ds) in
    grind (arith, rest, one, all)

pub length_appended : (cs ds : Clauses) → length (appended cs ds) ≡ length cs + length ds
length_appended cs ds = length-append cs ds

-- ---- one list of two

limited : (w : Walked) (k : ℕ) (b : Bool) → nat_le k 1024 ≡ b → w.few ≡ nat_le k 1024 → length w.clauses ≡ k → Counted w (if b then Some k else None)
limited w k true h few len = (few ∙ h, len)
limited w k false h few len = few ∙ h

module _ (make : Clauses → Clauses → Clauses) (f : ℕ → ℕ → ℕ) (lengths : (cs ds : Clauses) → length (make cs ds) ≡ f (length cs) (length ds)) where
  counted_two : (x y : Pass) (m n : Option ℕ) → ((p : Progress) → Counted (x p) m) → ((p : Progress) → Counted (y p) n) →
      (p : Progress) → Counted (both make x y p) (with_both f m n)
  counted_two x y None n hx hy p = ap (λ b. b && ((y (x p).after).few && nat_le (length (make (x p).clauses (y (x p).after).clauses)) 1024)) (hx p)
  counted_two x y (Some i) None hx hy p =
      λ t. (hx p).0 t && (hy (x p).after t && nat_le (length (make (x p).clauses (y (x p).after).clauses)) 1024)
  counted_two x y (Some i) (Some j) hx hy p =
      let l = hx p in
      let r = hy (x p).after in
      let k : length (make (x p).clauses (y (x p).after).clauses) ≡ f i j = lengths (x p).clauses (y (x p).after).clauses ∙ (λ t. f (l.1 t) (r.1 t)) in
      limited (both make x y p) (f i j) (nat_le (f i j) 1024) refl (λ t. l.0 t && (r.0 t && nat_le (k t) 1024)) k

counted_sum : (x y : Pass) (m n : Option ℕ) → ((p : Progress) → Counted (x p) m) → ((p : Progress) → Counted (y p) n) → (p : Progress) → Counted (both appended x y p) (sum_of m n)
counted_sum = counted_two appended (λ m n. m + n) length_appended

counted_product : (x y : Pass) (m n : Option ℕ) → ((p : Progress) → Counted (x p) m) → ((p : Progress) → Counted (y p) n) → (p : Progress) → Counted (both joined x y p) (product_of m n)
counted_product = counted_two joined (λ m n. m * n) length_joined

-- ---- the walk

-- a formula whose meaning is this one
by : (f : FoFormula) (m : Meaning) (c : Counts) → meaning f ≡ m → CountedBoth m.walk c → CountedBoth (walked f) c
by f m c is h = subst (λ (z : Meaning). CountedBoth z.walk c) (sym is) h

pub true_counted : (f : FoFormula) → f ≡ formula.True → CountedBoth (walked f) (record { positive = Some 0; negative = Some 1 })
true_counted f is = by f (meaning_step FoFormula-F.True) (record { positive = Some 0; negative = Some 1 }) (means_true f is) (λ v p. (refl, refl), λ v p. (refl, refl))

pub false_counted : (f : FoFormula) → f ≡ formula.False → CountedBoth (walked f) (record { positive = Some 1; negative = Some 0 })
false_counted f is = by f (meaning_step FoFormula-F.False) (record { positive = Some 1; negative = Some 0 }) (means_false f is) (λ v p. (refl, refl), λ v p. (refl, refl))

pub atom_counted : (f : FoFormula) (a : Atom) → f ≡ formula.Atom a → CountedBoth (walked f) (record { positive = Some 1; negative = Some 1 })
atom_counted f a is = by f (meaning_step (FoFormula-F.Atom a)) (record { positive = Some 1; negative = Some 1 }) (means_atom f a is) (λ v p. (refl, refl), λ v p. (refl, refl))

pub not_counted : (f a : FoFormula) (c : Counts) → f ≡ formula.Not a → CountedBoth (walked a) c → CountedBoth (walked f) (flipped_of c)
not_counted f a c is h = by f (meaning_step (FoFormula-F.Not (meaning a))) (flipped_of c) (means_not f a is) (h.1, h.0)

module _ (f a b : FoFormula) (m n : Counts) (hx : CountedBoth (walked a) m) (hy : CountedBoth (walked b) n) where
  pub and_counted : f ≡ formula.And a b → CountedBoth (walked f) (and_of m n)
  and_counted is = by f (meaning_step (FoFormula-F.And (meaning a) (meaning b))) (and_of m n) (means_and f a b is) (
    λ v. counted_sum (walked a true v) (walked b true v) m.positive n.positive (hx.0 v) (hy.0 v),
    λ v. counted_product (walked a false v) (walked b false v) m.negative n.negative (hx.1 v) (hy.1 v),
  )

  pub or_counted : f ≡ formula.Or a b → CountedBoth (walked f) (or_of m n)
  or_counted is = by f (meaning_step (FoFormula-F.Or (meaning a) (meaning b))) (or_of m n) (means_or f a b is) (
    λ v. counted_product (walked a true v) (walked b true v) m.positive n.positive (hx.0 v) (hy.0 v),
    λ v. counted_sum (walked a false v) (walked b false v) m.negative n.negative (hx.1 v) (hy.1 v),
  )

  pub imp_counted : f ≡ formula.Imp a b → CountedBoth (walked f) (or_of (flipped_of m) n)
  imp_counted is = by f (meaning_step (FoFormula-F.Imp (meaning a) (meaning b))) (or_of (flipped_of m) n) (means_imp f a b is) (
    λ v. counted_product (walked a false v) (walked b true v) m.negative n.positive (hx.1 v) (hy.0 v),
    λ v. counted_sum (walked a true v) (walked b false v) m.positive n.negative (hx.0 v) (hy.1 v),
  )

  pub iff_counted : f ≡ formula.Iff a b → CountedBoth (walked f) (iff_of m n)
  iff_counted is = by f (meaning_step (FoFormula-F.Iff (meaning a) (meaning b))) (iff_of m n) (means_iff f a b is) (
    λ v.
        counted_sum (both joined (walked a false v) (walked b true v)) (both joined (walked a true v) (walked b false v)) (product_of m.negative n.positive) (product_of m.positive n.negative)
        (counted_product (walked a false v) (walked b true v) m.negative n.positive (hx.1 v) (hy.0 v)) (counted_product (walked a true v) (walked b false v) m.positive n.negative (hx.0 v) (hy.1 v)),
    λ v.
        counted_sum (both joined (walked a true v) (walked b true v)) (both joined (walked a false v) (walked b false v)) (product_of m.positive n.positive) (product_of m.negative n.negative)
        (counted_product (walked a true v) (walked b true v) m.positive n.positive (hx.0 v) (hy.0 v)) (counted_product (walked a false v) (walked b false v) m.negative n.negative (hx.1 v) (hy.1 v)),
  )

module _ (f : FoFormula) (x : ℕ) (b : FoFormula) (c : Counts) (h : CountedBoth (walked b) c) where
  pub each_counted : f ≡ formula.Each x b → CountedBoth (walked f) c
  each_counted is = by f (meaning_step (FoFormula-F.Each x (meaning b))) c (means_each f x b is) (
    λ v p. let o = opened true x (meaning b) v p in h.0 (put_for v x o.value) o.after,
    λ v p. let o = opened false x (meaning b) v p in h.1 (put_for v x o.value) o.after,
  )

  pub one_counted : f ≡ formula.One x b → CountedBoth (walked f) c
  one_counted is = by f (meaning_step (FoFormula-F.One x (meaning b))) c (means_one f x b is) (
    λ v p. let o = opened false x (meaning b) v p in h.0 (put_for v x o.value) o.after,
    λ v p. let o = opened true x (meaning b) v p in h.1 (put_for v x o.value) o.after,
  )

-- the lists are few exactly where there is a number
pub few_counted : (w : Walked) (n : Option ℕ) → Counted w n → w.few ≡ is_some n
few_counted w None h = h
few_counted w (Some n) h = h.0

-- ---- as code calls them

pub count_is : (f : FoFormula) (c d : Counts) → c ≡ d → CountedBoth (walked f) d → CountedBoth (walked f) c
count_is f c d is h = subst (λ (n : Counts). CountedBoth (walked f) n) (sym is) h

-- a call on a part, which it got by another name
pub count_part : (f0 f : FoFormula) (c : Counts) → f0 ≡ f → CountedBoth (walked f0) c → CountedBoth (walked f) c
count_part f0 f c is h = subst (λ g. CountedBoth (walked g) c) is h
