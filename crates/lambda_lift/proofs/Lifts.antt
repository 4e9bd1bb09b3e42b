-- How a walk lifts a term, step by step: what stays, what is lifted out, and what is made of parts.
use Rattle.std.proofs.Common.{◌≡◌, ℕ, Bool, true, false, IsTrue, if◌then◌else◌, List, ◌∷◌, refl, sym, ap, subst}
use Rattle.hol_terms.specs.declared.ty.Ty.{Ty}
use Rattle.hol_terms.specs.declared.konst.Konst.{Konst}
use Rattle.hol_terms.specs.declared.konst.Konst.TheVariants as konst
use Rattle.hol_terms.specs.declared.sig.Sig.{Sig}
use Rattle.hol_terms.specs.declared.term.Term.{Term, roll-Term}
use Rattle.hol_terms.specs.declared.term.Term.TheOpen.{Term-F}
use Rattle.hol_terms.specs.Types.{is_ty, bool_ty}
use Rattle.hol_terms.specs.Formulas.{aux_free}
use Rattle.hol_terms.proofs.TermCases.{by_cases}
use Rattle.hol_terms.proofs.Both.{both_true}
use Rattle.hol_terms.proofs.Equations.{aux_free-app, aux_free-lam}
use Rattle.lambda_lift.specs.Walks.{Walk, Stage, Walked, Reading, Head, plain, negation, junction, half, quantifier, abstraction, reading, both, one, scope, apply, with_two, lifted_out, konst_head, app_head, app_formula, app_reading, quantified}
use Rattle.lambda_lift.proofs.Readings.{own_is, reading_bound, reading_free, reading_con, reading_app, reading_lam}

abbrev pub app : Term → Term → Term
app f x = roll-Term (Term-F.App f x)

abbrev pub lam : Ty → Term → Term
lam a b = roll-Term (Term-F.Lam a b)

abbrev pub con : Konst → Term
con k = roll-Term (Term-F.Con k)

abbrev ended : Term → Stage → Walked
ended t s = record { term = t; after = s }

-- the walk of a term under these binders from this stage
pub data Lifts (sig : Sig) : Term → List Ty → Stage → Walked → Type 0 where
  kept_bound : (i : ℕ) (binders : List Ty) (s : Stage) → Lifts sig (roll-Term (Term-F.Bound i)) binders s (record { term = roll-Term (Term-F.Bound i); after = s })
  kept_free : (n : ℕ) (a : Ty) (binders : List Ty) (s : Stage) → Lifts sig (roll-Term (Term-F.Free n a)) binders s (record { term = roll-Term (Term-F.Free n a); after = s })
  kept_con : (k : Konst) (binders : List Ty) (s : Stage) → Lifts sig (roll-Term (Term-F.Con k)) binders s (record { term = roll-Term (Term-F.Con k); after = s })
  out : (a : Ty) (b : Term) (binders : List Ty) (s : Stage) → IsTrue (aux_free (roll-Term (Term-F.Lam a b))) → Lifts sig (roll-Term (Term-F.Lam a b)) binders s (lifted_out sig (roll-Term (Term-F.Lam a b)) binders s)
  applied : (f x : Term) (binders : List Ty) (s : Stage) (v w : Walked) → Lifts sig f binders s v → Lifts sig x binders v.after w →
      Lifts sig (roll-Term (Term-F.App f x)) binders s (record { term = roll-Term (Term-F.App v.term w.term); after = w.after })
  under : (a : Ty) (b : Term) (binders : List Ty) (s : Stage) (w : Walked) → Lifts sig b (a ∷ binders) s w →
      Lifts sig (roll-Term (Term-F.Lam a b)) binders s (record { term = roll-Term (Term-F.Lam a w.term); after = w.after })

-- this walk lifts the term
abbrev pub Right : Sig → Term → Walk → Type 0
Right sig t w = (binders : List Ty) (s : Stage) → Lifts sig t binders s (w binders s)

-- what the head says of the term
abbrev pub Heads : Sig → Term → Head → Type 0
Heads sig t plain = Unit {0}
Heads sig t negation = t ≡ con konst.Not
Heads sig t (junction k) = t ≡ con k
Heads sig t (half k w) = (a : Term) × (t ≡ app (con k) a) × Right sig a w
Heads sig t (quantifier k) = t ≡ con k
Heads sig t (abstraction a w) = (b : Term) × (t ≡ lam a b) × Right sig b w

pub record Reads (sig : Sig) (t : Term) (r : Reading) : Type 0 where
  pub atom : Right sig t r.atom
  pub formula : Right sig t r.formula
  pub head : Heads sig t r.head

module _ (sig : Sig) where
  konst_heads : (k : Konst) → Heads sig (con k) (konst_head k)
  konst_heads (konst.Named n) = tt
  konst_heads (konst.Aux n) = tt
  konst_heads konst.True = tt
  konst_heads konst.False = tt
  konst_heads konst.Not = refl
  konst_heads konst.And = refl
  konst_heads konst.Or = refl
  konst_heads konst.Imp = refl
  konst_heads (konst.Eq a) = by (is_ty a bool_ty)
    where
      by : (b : Bool) → Heads sig (con (konst.Eq a)) (if b then junction (konst.Eq a) else plain)
      by true = refl
      by false = tt
  konst_heads (konst.All a) = refl
  konst_heads (konst.Ex a) = refl
  konst_heads (konst.Eps a) = tt

  pub app_right : (f x : Term) (v w : Walk) → Right sig f v → Right sig x w → Right sig (app f x) (both apply v w)
  app_right f x v w hf hx binders s = applied f x binders s (v binders s) (w binders (v binders s).after) (hf binders s) (hx binders (v binders s).after)

  quantified_right : (k : Konst) (f x : Term) (h : Head) (atom : Walk) → f ≡ con k → Heads sig x h → Right sig (app f x) atom → Right sig (app f x) (quantified k h atom)
  quantified_right k f x (abstraction a w) atom is inner all binders s =
      subst (λ t. Lifts sig t binders s (scope k a w binders s)) (λ i. app (sym is i) (sym inner.1 i))
      (applied (con k) (lam a inner.0) binders s (record { term = con k; after = s }) _ (kept_con k binders s) (under a inner.0 binders s (w (a ∷ binders) s) (inner.2 (a ∷ binders) s)))
  quantified_right k f x plain atom is inner all binders s = all binders s
  quantified_right k f x negation atom is inner all binders s = all binders s
  quantified_right k f x (junction c) atom is inner all binders s = all binders s
  quantified_right k f x (half c w) atom is inner all binders s = all binders s
  quantified_right k f x (quantifier c) atom is inner all binders s = all binders s

  formula_right : (f x : Term) (h : Head) (q : Reading) (atom : Walk) → Heads sig f h → Reads sig x q → Right sig (app f x) atom → Right sig (app f x) (app_formula h q atom)
  formula_right f x negation q atom is hx all binders s =
      subst (λ t. Lifts sig t binders s (one (apply (con konst.Not)) q.formula binders s)) (ap (λ g. app g x) (sym is))
      (applied (con konst.Not) x binders s (record { term = con konst.Not; after = s }) _ (kept_con konst.Not binders s) (hx.formula binders s))
  formula_right f x (half k left) q atom is hx all binders s =
      subst (λ t. Lifts sig t binders s (both (with_two k) left q.formula binders s)) (ap (λ g. app g x) (sym is.1))
      (applied (app (con k) is.0) x binders s (record { term = app (con k) (left binders s).term; after = (left binders s).after }) _
      (applied (con k) is.0 binders s (record { term = con k; after = s }) _ (kept_con k binders s) (is.2 binders s)) (hx.formula binders (left binders s).after))
  formula_right f x (quantifier k) q atom is hx all binders s = quantified_right k f x q.head atom is hx.head all binders s
  formula_right f x plain q atom is hx all binders s = all binders s
  formula_right f x (junction k) q atom is hx all binders s = all binders s
  formula_right f x (abstraction a w) q atom is hx all binders s = all binders s

  head_right : (f x : Term) (h : Head) (w : Walk) → Heads sig f h → Right sig x w → Heads sig (app f x) (app_head h w)
  head_right f x (junction k) w is hx = (x, ap (λ g. app g x) is, hx)
  head_right f x plain w is hx = tt
  head_right f x negation w is hx = tt
  head_right f x (half k u) w is hx = tt
  head_right f x (quantifier k) w is hx = tt
  head_right f x (abstraction a u) w is hx = tt

  reads_app : (f x : Term) (r q : Reading) → Reads sig f r → Reads sig x q → Reads sig (app f x) (app_reading r q)
  reads_app f x r q hf hx =
      let atoms = app_right f x r.atom q.atom hf.atom hx.atom in
      record { atom = atoms; formula = formula_right f x r.head q (both apply r.atom q.atom) hf.head hx atoms; head = head_right f x r.head q.formula hf.head hx.formula }

  -- a term without auxiliary constants is lifted rightly
  abbrev Fine : Term → Type 0
  Fine t = IsTrue (aux_free t) → Reads sig t (reading sig t)

  fine_app : (f x : Term) → Fine f → Fine x → Fine (app f x)
  fine_app f x hf hx h =
      let both = both_true (aux_free f) (aux_free x) (subst IsTrue (aux_free-app f x) h) in
      subst (Reads sig (app f x)) (sym (reading_app sig f x)) (reads_app f x (reading sig f) (reading sig x) (hf both.0) (hx both.1))

  fine_lam : (a : Ty) (b : Term) → Fine b → Fine (lam a b)
  fine_lam a b hb h =
      let own : lam a (reading sig b).own ≡ lam a b = ap (lam a) (own_is sig b) in
      let inner = hb (subst IsTrue (aux_free-lam a b) h) in
      let lifted : Right sig (lam a b) (lifted_out sig (lam a (reading sig b).own)) = subst (λ t. Right sig (lam a b) (lifted_out sig t)) (sym own) (λ binders s. out a b binders s h) in
      subst (Reads sig (lam a b)) (sym (reading_lam sig a b)) (record { atom = lifted; formula = lifted; head = (b, refl, inner.formula) })

  pub reads : (t : Term) → IsTrue (aux_free t) → Reads sig t (reading sig t)
  reads =
      by_cases Fine
      (λ i h. subst (Reads sig (roll-Term (Term-F.Bound i))) (sym (reading_bound sig i)) (record { atom = kept_bound i; formula = kept_bound i; head = tt }))
      (λ n a h. subst (Reads sig (roll-Term (Term-F.Free n a))) (sym (reading_free sig n a)) (record { atom = kept_free n a; formula = kept_free n a; head = tt }))
      (λ k h. subst (Reads sig (con k)) (sym (reading_con sig k)) (record { atom = kept_con k; formula = kept_con k; head = konst_heads k }))
      fine_app fine_lam
