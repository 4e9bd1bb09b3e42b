-- The walk that refutes at each kind of formula, as the code tells it.
use Rattle.std.proofs.Common.{◌≡◌, ℕ, ◌+◌, Bool, true, false, not, if◌then◌else◌, IsTrue, List, [], ◌∷◌, ◌++◌, ap, subst, refl, sym, ◌∙◌}
use Rattle.hol_terms.specs.declared.ty.Ty.{Ty}
use Rattle.hol_terms.specs.declared.term.Term.{Term}
use Rattle.hol_terms.specs.Substitution.{instantiated}
use Rattle.hyp_sets.specs.Sets.{TermSet, only}
use Rattle.kernel_rules.specs.declared.step.ThmId.{ThmId}
use Rattle.kernel_rules.specs.Connectives.{verum, falsum, neg, lambda, left_of, right_of}
use Rattle.hol_kernel.specs.Logs.{Logged}
use Rattle.hol_formulas.specs.declared.formula.Junction.{Junction}
use Rattle.hol_formulas.specs.declared.formula.Junction.TheVariants as junctions
use Rattle.hol_formulas.specs.declared.formula.Quantifier.{Quantifier}
use Rattle.hol_formulas.specs.declared.formula.Formula as formula
use Rattle.hol_formulas.specs.declared.formula.Formula.{Formula, roll-Formula}
use Rattle.hol_formulas.specs.declared.formula.Formula.TheOpen.{Formula-F}
use Rattle.hol_formulas.specs.declared.formula.Formula.TheFolds.{fold-roll-Formula}
use Rattle.formula_clauses.specs.Walks.{Clauses, truth, literal, joined, appended, is_universal, property}
use Rattle.formula_clauses.specs.inner.Measures.{first_sign, is_iff, is_product}
use Rattle.formula_clauses.proofs.Made.{true_is, false_is, atom_is, not_is, two_is, quantified_is}
use Rattle.hol_clausify.specs.declared.refuting.Refutations.{Refutations}
use Rattle.hol_clausify.specs.Places.{junction, quantifier}
use Rattle.hol_clausify.specs.Refutations.{Refuted, Pass, Walk, refuted, refuted_step, leaf, both, junction_pass, quantified_pass, value, next_behind, chosen_value, under_quantifier}
use Rattle.hol_clausify.specs.inner.Matching.{matches}
use Rattle.hol_clausify.specs.inner.Refuting.{placed, AllRefuted, Refutes}
use Rattle.hol_clausify.proofs.Opening.{free}
use Rattle.hol_clausify.proofs.Matching.{true_shape, false_shape, not_shape, two_shape, quantified_shape}

-- ---- the walk
module _ (s : Bool) (t : Term) (n : ℕ) where
  pub at_true : (f : Formula) → f ≡ formula.True → refuted f s t n ≡ leaf (truth s) n
  unfolding refuted
  at_true f is = ap (λ g. refuted g s t n) (is ∙ true_is) ∙ ap (λ (g : Walk). g s t n) (fold-roll-Formula Walk refuted_step Formula-F.True)

  pub at_false : (f : Formula) → f ≡ formula.False → refuted f s t n ≡ leaf (truth (not s)) n
  unfolding refuted
  at_false f is = ap (λ g. refuted g s t n) (is ∙ false_is) ∙ ap (λ (g : Walk). g s t n) (fold-roll-Formula Walk refuted_step Formula-F.False)

  pub at_atom : (f : Formula) (u : Term) → f ≡ formula.Atom u → refuted f s t n ≡ leaf (literal s t) n
  unfolding refuted
  at_atom f u is = ap (λ g. refuted g s t n) (is ∙ atom_is u) ∙ ap (λ (g : Walk). g s t n) (fold-roll-Formula Walk refuted_step (Formula-F.Atom u))

  pub at_not : (f a : Formula) → f ≡ formula.Not a → refuted f s t n ≡ refuted a (not s) (right_of t) n
  unfolding refuted
  at_not f a is = ap (λ g. refuted g s t n) (is ∙ not_is a) ∙ ap (λ (g : Walk). g s t n) (fold-roll-Formula Walk refuted_step (Formula-F.Not a))

  pub at_two : (f : Formula) (j : Junction) (a b : Formula) → f ≡ formula.Two j a b → refuted f s t n ≡ junction_pass j (refuted a) (refuted b) s (left_of t) (right_of t) n
  unfolding refuted
  at_two f j a b is = ap (λ g. refuted g s t n) (is ∙ two_is j a b) ∙ ap (λ (g : Walk). g s t n) (fold-roll-Formula Walk refuted_step (Formula-F.Two j a b))

  pub at_quantified : (f : Formula) (q : Quantifier) (a : Ty) (u : Term) (b : Formula) → f ≡ formula.Quantified q a u b → refuted f s t n ≡ quantified_pass q a (refuted b) s (under_quantifier t) n
  unfolding refuted
  at_quantified f q a u b is = ap (λ g. refuted g s t n) (is ∙ quantified_is q a u b) ∙ ap (λ (g : Walk). g s t n) (fold-roll-Formula Walk refuted_step (Formula-F.Quantified q a u b))

-- ---- shapes
module _ (f : Formula) (t : Term) (h : IsTrue (matches f t)) where
  told : (g : Formula) → f ≡ g → IsTrue (matches g t)
  told g is = subst (λ z. IsTrue (matches z t)) is h

  pub true_like : f ≡ formula.True → t ≡ verum
  true_like is = true_shape t (told (roll-Formula Formula-F.True) (is ∙ true_is))

  pub false_like : f ≡ formula.False → t ≡ falsum
  false_like is = false_shape t (told (roll-Formula Formula-F.False) (is ∙ false_is))

  pub not_like : (a : Formula) → f ≡ formula.Not a → (t ≡ neg (right_of t)) × IsTrue (matches a (right_of t))
  not_like a is = not_shape a t (told (roll-Formula (Formula-F.Not a)) (is ∙ not_is a))

  pub two_like : (j : Junction) (a b : Formula) → f ≡ formula.Two j a b → (t ≡ junction j (left_of t) (right_of t)) × IsTrue (matches a (left_of t)) × IsTrue (matches b (right_of t))
  two_like j a b is = two_shape j a b t (told (roll-Formula (Formula-F.Two j a b)) (is ∙ two_is j a b))

  pub quantified_like : (q : Quantifier) (a : Ty) (u : Term) (b : Formula) → f ≡ formula.Quantified q a u b → (t ≡ quantifier q a (lambda a (under_quantifier t))) × IsTrue (matches b (under_quantifier t))
  quantified_like q a u b is = quantified_shape q a u b t (told (roll-Formula (Formula-F.Quantified q a u b)) (is ∙ quantified_is q a u b))

-- ---- what is made of two passes, or of four
module _ (log : Logged) (from : TermSet) (r : Refutations) where
  pub refutes_as : (w w' : Refuted) → w ≡ w' → Refutes log from w' r → Refutes log from w r
  refutes_as w w' is h = subst (λ z. Refutes log from z r) (sym is) h

  both_refute : (make : Clauses → Clauses → Clauses) (x y : Pass) (n m k : ℕ) → (x n).next ≡ m → (y m).next ≡ k → r.next ≡ k → AllRefuted log from (make (x n).clauses (y m).clauses) r.thms → Refutes log from (both make x y n) r
  both_refute make x y n m k one two is h = record {
    next = ap (λ i. (y i).next) one ∙ two ∙ sym is;
    refuted = subst (λ i. AllRefuted log from (make (x n).clauses (y i).clauses) r.thms) (sym one) h;
  }

  pub junction_refutes : (j : Junction) (s : Bool) (a b : Walk) (t u : Term) (n m k : ℕ) → is_iff j ≡ false → (a (first_sign j s) t n).next ≡ m → (b s u m).next ≡ k → r.next ≡ k →
      AllRefuted log from ((if is_product j s then joined else appended) (a (first_sign j s) t n).clauses (b s u m).clauses) r.thms → Refutes log from (junction_pass j a b s t u n) r
  junction_refutes junctions.And true a b t u n m k off one two is h = both_refute appended (a true t) (b true u) n m k one two is h
  junction_refutes junctions.And false a b t u n m k off one two is h = both_refute joined (a false t) (b false u) n m k one two is h
  junction_refutes junctions.Or true a b t u n m k off one two is h = both_refute joined (a true t) (b true u) n m k one two is h
  junction_refutes junctions.Or false a b t u n m k off one two is h = both_refute appended (a false t) (b false u) n m k one two is h
  junction_refutes junctions.Imp true a b t u n m k off one two is h = both_refute joined (a false t) (b true u) n m k one two is h
  junction_refutes junctions.Imp false a b t u n m k off one two is h = both_refute appended (a true t) (b false u) n m k one two is h
  junction_refutes junctions.Iff s a b t u n m k off one two is h = cc

  pub iff_refutes : (s : Bool) (a b : Walk) (t u : Term) (n n1 n2 n3 n4 : ℕ) → (a (not s) t n).next ≡ n1 → (b true u n1).next ≡ n2 → (a s t n2).next ≡ n3 → (b false u n3).next ≡ n4 → r.next ≡ n4 →
      AllRefuted log from (appended (joined (a (not s) t n).clauses (b true u n1).clauses) (joined (a s t n2).clauses (b false u n3).clauses)) r.thms →
      Refutes log from (junction_pass junctions.Iff a b s t u n) r
  iff_refutes s a b t u n n1 n2 n3 n4 e1 e2 e3 e4 is h =
      let x1 = a (not s) t in
      let y1 = b true u in
      let x2 = a s t in
      let y2 = b false u in
      let p2 = ap (λ i. (y1 i).next) e1 ∙ e2 in
      let p3 = ap (λ i. (x2 i).next) p2 ∙ e3 in
      record {
        next = ap (λ i. (y2 i).next) p3 ∙ e4 ∙ sym is;
        refuted =
            subst (λ cs. AllRefuted log from cs r.thms)
            (λ i. appended (joined (x1 n).clauses (y1 (sym e1 i)).clauses) (joined (x2 (sym p2 i)).clauses (y2 (sym p3 i)).clauses)) h;
      }

-- ---- a quantifier
pub value_universal : (q : Quantifier) (a : Ty) (s : Bool) (b : Term) (n : ℕ) → is_universal q s ≡ true → value q a s b n ≡ free n a
value_universal q a s b n e = ap (λ c. if c then free n a else chosen_value a (property q a b)) e

pub value_chosen : (q : Quantifier) (a : Ty) (s : Bool) (b : Term) (n : ℕ) → is_universal q s ≡ false → value q a s b n ≡ chosen_value a (property q a b)
value_chosen q a s b n e = ap (λ c. if c then free n a else chosen_value a (property q a b)) e

pub next_universal : (q : Quantifier) (s : Bool) (n : ℕ) → is_universal q s ≡ true → next_behind q s n ≡ n + 1
next_universal q s n e = ap (λ c. if c then n + 1 else n) e

pub next_chosen : (q : Quantifier) (s : Bool) (n : ℕ) → is_universal q s ≡ false → next_behind q s n ≡ n
next_chosen q s n e = ap (λ c. if c then n + 1 else n) e

pub opened_refuted : (q : Quantifier) (a : Ty) (b : Walk) (s : Bool) (body part v : Term) (n m : ℕ) → part ≡ instantiated body v → value q a s body n ≡ v → next_behind q s n ≡ m →
    quantified_pass q a b s body n ≡ b s part m
opened_refuted q a b s body part v n m is value_is next_is = λ i. b s ((ap (instantiated body) value_is ∙ sym is) i) (next_is i)
