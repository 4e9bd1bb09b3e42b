-- What the parts of the walk that makes clauses answer, put together.
use Rattle.std.proofs.Common.{◌≡◌, ℕ, Bool, true, false, not, if◌then◌else◌, sym, ap, ◌∙◌}
use Rattle.fo_terms.specs.declared.formula.FoFormula.{FoFormula}
use Rattle.fol_cnf.specs.declared.walking.Listed.{Listed}
use Rattle.fol_cnf.specs.declared.walking.Opened.{Opened}
use Rattle.fol_cnf.specs.declared.progress.Progress.{Progress}
use Rattle.fol_cnf.specs.Scopes.{Scope, put_for}
use Rattle.fol_cnf.specs.Walks.{Clauses, joined, appended, Walked, Pass, Walk, Meaning, meaning, leaf, both, equivalence, opened, quantified, walked}
use Rattle.fol_cnf.specs.inner.Listings.{Opens, Lists}

pub lists_is : (w w' : Walked) (r : Listed) → w ≡ w' → Lists w' r → Lists w r
lists_is w w' r is h = (ap (λ (z : Walked). z.clauses) is ∙ h.0, ap (λ (z : Walked). z.after) is ∙ h.1)

-- the walk over a formula of this meaning
pub means_lists : (f : FoFormula) (m : Meaning) (s : Bool) (v : Scope) (p : Progress) (r : Listed) → meaning f ≡ m → Lists (m.walk s v p) r → Lists (walked f s v p) r
means_lists f m s v p r is h = lists_is (walked f s v p) (m.walk s v p) r (ap (λ (z : Meaning). z.walk s v p) is) h

pub leaf_lists : (cs : Clauses) (p : Progress) (r : Listed) → (r.clauses ≡ cs) × (r.after ≡ p) → Lists (leaf cs p) r
leaf_lists cs p r h = (sym h.0, sym h.1)

-- a call on a part, which it got by another name
pub list_part : (f0 f : FoFormula) (s : Bool) (v : Scope) (p : Progress) (r : Listed) → f0 ≡ f → Lists (walked f0 s v p) r → Lists (walked f s v p) r
list_part f0 f s v p r is h = lists_is _ (walked f0 s v p) r (λ i. walked (sym is i) s v p) h

pub both_lists : (make : Clauses → Clauses → Clauses) (x y : Pass) (p : Progress) (l m r : Listed) → Lists (x p) l → Lists (y l.after) m →
    (r.clauses ≡ make l.clauses m.clauses) × (r.after ≡ m.after) → Lists (both make x y p) r
both_lists make x y p l m r h g is = (
  (λ i. make (h.0 i) (y (h.1 i)).clauses) ∙ ap (make l.clauses) g.0 ∙ sym is.0,
  ap (λ q. (y q).after) h.1 ∙ g.1 ∙ sym is.1,
)

-- the same, where each clause is joined with each or not
pub and_lists : (s : Bool) (x y : Pass) (p : Progress) (l m r : Listed) → Lists (x p) l → Lists (y l.after) m →
    (r.clauses ≡ (if not s then joined else appended) l.clauses m.clauses) × (r.after ≡ m.after) → Lists (both (if s then appended else joined) x y p) r
and_lists true x y p l m r h g is = both_lists appended x y p l m r h g is
and_lists false x y p l m r h g is = both_lists joined x y p l m r h g is

pub or_lists : (s : Bool) (x y : Pass) (p : Progress) (l m r : Listed) → Lists (x p) l → Lists (y l.after) m →
    (r.clauses ≡ (if s then joined else appended) l.clauses m.clauses) × (r.after ≡ m.after) → Lists (both (if s then joined else appended) x y p) r
or_lists true x y p l m r h g is = both_lists joined x y p l m r h g is
or_lists false x y p l m r h g is = both_lists appended x y p l m r h g is

pub iff_lists : (a b : Walk) (s : Bool) (v : Scope) (p : Progress) (one two half three four other r : Listed) → Lists (a (not s) v p) one → Lists (b true v one.after) two →
    (half.clauses ≡ joined one.clauses two.clauses) × (half.after ≡ two.after) → Lists (a s v half.after) three → Lists (b false v three.after) four →
    (other.clauses ≡ joined three.clauses four.clauses) × (other.after ≡ four.after) → (r.clauses ≡ appended half.clauses other.clauses) × (r.after ≡ other.after) →
    Lists (equivalence a b s v p) r
iff_lists a b s v p one two half three four other r h1 h2 is_half h3 h4 is_other is =
    both_lists appended (both joined (a (not s) v) (b true v)) (both joined (a s v) (b false v)) p half other r
    (both_lists joined (a (not s) v) (b true v) p one two half h1 h2 is_half)
    (both_lists joined (a s v) (b false v) half.after three four other h3 h4 is_other) is

pub inside_lists : (u : Bool) (x : ℕ) (b : FoFormula) (s : Bool) (v : Scope) (p : Progress) (o : Opened) (r : Listed) → Opens (opened u x (meaning b) v p) o →
    Lists (walked b s (put_for v x o.value) o.after) r → Lists (quantified u x (meaning b) s v p) r
inside_lists u x b s v p o r h g = (
  (λ i. (walked b s (put_for v x (sym h.0 i)) (sym h.1 i)).clauses) ∙ g.0,
  (λ i. (walked b s (put_for v x (sym h.0 i)) (sym h.1 i)).after) ∙ g.1,
)
