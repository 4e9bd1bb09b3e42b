-- What the parts of the walk that makes clauses answer, put together.
use Rattle.std.proofs.Common.{◌≡◌, ℕ, Bool, true, false, not, if◌then◌else◌, List, ◌∷◌, sym, ap, ◌∙◌}
use Rattle.hol_terms.specs.declared.ty.Ty.{Ty}
use Rattle.hol_terms.specs.declared.term.Term.{Term}
use Rattle.lambda_lift.specs.declared.table.Aux.{Aux}
use Rattle.formula_clauses.specs.declared.choosing.Opened.{Opened}
use Rattle.formula_clauses.specs.declared.listing.Listed.{Listed}
use Rattle.hol_formulas.specs.declared.formula.Junction.{Junction}
use Rattle.hol_formulas.specs.declared.formula.Junction.TheVariants as junctions
use Rattle.hol_formulas.specs.declared.formula.Quantifier.{Quantifier}
use Rattle.hol_formulas.specs.declared.formula.Formula.{Formula}
use Rattle.formula_clauses.specs.Walks.{Clauses, joined, appended, Progress, Walked, Pass, Walk, leaf, both, junction_pass, opened, quantified_pass, walked}
use Rattle.formula_clauses.specs.inner.Measures.{progress, IsOpened, first_sign, is_iff, is_product}
use Rattle.formula_clauses.specs.inner.Lists.{Lists}

pub lists_is : (w w' : Walked) (r : Listed) (t : List Aux) → w ≡ w' → Lists w' r t → Lists w r t
lists_is w w' r t is h = (ap (λ (z : Walked). z.clauses) is ∙ h.0, ap (λ (z : Walked). z.after) is ∙ h.1)

pub leaf_lists : (w : Walked) (cs : Clauses) (n : ℕ) (t : List Aux) (r : Listed) → w ≡ leaf cs (progress n t) → (r.clauses ≡ cs) × (r.next ≡ n) → Lists w r t
leaf_lists w cs n t r is h = (ap (λ (z : Walked). z.clauses) is ∙ sym h.0, ap (λ (z : Walked). z.after) is ∙ ap (λ k. progress k t) (sym h.1))

-- a call on a part, which it got by another name
pub list_part : (f0 f : Formula) (s0 s : Bool) (e : List Term) (p : Progress) (r : Listed) (t : List Aux) → f0 ≡ f → s0 ≡ s → Lists (walked f0 s0 e p) r t → Lists (walked f s e p) r t
list_part f0 f s0 s e p r t hf hs h = lists_is _ (walked f0 s0 e p) r t (λ i. walked (sym hf i) (sym hs i) e p) h

module _ (make : Clauses → Clauses → Clauses) (x y : Pass) (p : Progress) (l : Listed) (t : List Aux) (m : Listed) (t' : List Aux) (r : Listed) where
  pub both_lists : Lists (x p) l t → Lists (y (progress l.next t)) m t' → (r.clauses ≡ make l.clauses m.clauses) × (r.next ≡ m.next) → Lists (both make x y p) r t'
  both_lists h g is = (
    (λ i. make (h.0 i) (y (h.1 i)).clauses) ∙ ap (make l.clauses) g.0 ∙ sym is.0,
    ap (λ q. (y q).after) h.1 ∙ g.1 ∙ ap (λ n. progress n t') (sym is.1),
  )

module _ (a b : Walk) (e : List Term) (p : Progress) (l : Listed) (t : List Aux) (m : Listed) (t' : List Aux) (r : Listed) where
  pub second_lists : (j : Junction) (s : Bool) → is_iff j ≡ false → Lists (a (first_sign j s) e p) l t → Lists (b s e (progress l.next t)) m t' →
      (r.clauses ≡ (if is_product j s then joined else appended) l.clauses m.clauses) × (r.next ≡ m.next) → Lists (junction_pass j a b s e p) r t'
  second_lists junctions.And true no_iff h g is = both_lists appended (a true e) (b true e) p l t m t' r h g is
  second_lists junctions.And false no_iff h g is = both_lists joined (a false e) (b false e) p l t m t' r h g is
  second_lists junctions.Or true no_iff h g is = both_lists joined (a true e) (b true e) p l t m t' r h g is
  second_lists junctions.Or false no_iff h g is = both_lists appended (a false e) (b false e) p l t m t' r h g is
  second_lists junctions.Imp true no_iff h g is = both_lists joined (a false e) (b true e) p l t m t' r h g is
  second_lists junctions.Imp false no_iff h g is = both_lists appended (a true e) (b false e) p l t m t' r h g is
  second_lists junctions.Iff s no_iff h g is = cc

pub iff_lists : (a b : Walk) (s : Bool) (e : List Term) (p : Progress) (one two half three four other r : Listed) (t1 t2 t3 t4 : List Aux) → Lists (a (not s) e p) one t1 →
    Lists (b true e (progress one.next t1)) two t2 → (half.clauses ≡ joined one.clauses two.clauses) × (half.next ≡ two.next) → Lists (a s e (progress half.next t2)) three t3 →
    Lists (b false e (progress three.next t3)) four t4 → (other.clauses ≡ joined three.clauses four.clauses) × (other.next ≡ four.next) →
    (r.clauses ≡ appended half.clauses other.clauses) × (r.next ≡ other.next) → Lists (junction_pass junctions.Iff a b s e p) r t4
iff_lists a b s e p one two half three four other r t1 t2 t3 t4 h1 h2 is_half h3 h4 is_other is =
    both_lists appended (both joined (a (not s) e) (b true e)) (both joined (a s e) (b false e)) p half t2 other t4 r
    (both_lists joined (a (not s) e) (b true e) p one t1 two t2 half h1 h2 is_half)
    (both_lists joined (a s e) (b false e) (progress half.next t2) three t3 four t4 other h3 h4 is_other) is

pub inside_lists : (q : Quantifier) (a : Ty) (u : Term) (b : Walk) (s : Bool) (e : List Term) (p : Progress) (o : Opened) (t : List Aux) (r : Listed) (t' : List Aux) →
    IsOpened (opened q a u s e p) o t → Lists (b s (o.value ∷ e) (progress o.next t)) r t' → Lists (quantified_pass q a u b s e p) r t'
inside_lists q a u b s e p o t r t' h g = ((λ i. (b s (h.0 i ∷ e) (h.1 i)).clauses) ∙ g.0, (λ i. (b s (h.0 i ∷ e) (h.1 i)).after) ∙ g.1)
