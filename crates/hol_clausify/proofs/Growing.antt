-- The walk only adds to its table.
use Rattle.std.proofs.Common.{◌≡◌, Bool, true, false, not, if◌then◌else◌, List, ◌∷◌, ap, subst, sym}
use Rattle.hol_terms.specs.declared.ty.Ty.{Ty}
use Rattle.hol_terms.specs.declared.term.Term.{Term}
use Rattle.hol_formulas.specs.declared.formula.Junction.{Junction}
use Rattle.hol_formulas.specs.declared.formula.Junction.TheVariants as junctions
use Rattle.hol_formulas.specs.declared.formula.Quantifier.{Quantifier}
use Rattle.hol_formulas.specs.declared.formula.Formula.{Formula, roll-Formula}
use Rattle.hol_formulas.specs.declared.formula.Formula.TheOpen.{Formula-F}
use Rattle.hol_formulas.specs.declared.formula.Formula.TheFolds.{fold-roll-Formula}
use Rattle.lambda_lift.proofs.Expansions.{Grows, grows_refl, grows_trans, entry_grows}
use Rattle.formula_clauses.specs.Choices.{put_in, choice, closed_ty, variables}
use Rattle.formula_clauses.specs.Walks.{Clauses, Progress, Pass, Walk, walked, walk_step, both, joined, appended, junction_pass, opened, next_variable, chosen_value, property, is_universal, quantified_pass}
use Rattle.hol_clausify.proofs.FormulaCases.{formula_by_cases}

-- ---- one equation for each constructor
pub at-not : (a : Formula) (s : Bool) (e : List Term) → walked (roll-Formula (Formula-F.Not a)) s e ≡ walked a (not s) e
unfolding walked
at-not a s e = ap (λ (g : Walk). g s e) (fold-roll-Formula Walk walk_step (Formula-F.Not a))

pub at-true : (s : Bool) (e : List Term) → walked (roll-Formula Formula-F.True) s e ≡ walk_step Formula-F.True s e
unfolding walked
at-true s e = ap (λ (g : Walk). g s e) (fold-roll-Formula Walk walk_step Formula-F.True)

pub at-false : (s : Bool) (e : List Term) → walked (roll-Formula Formula-F.False) s e ≡ walk_step Formula-F.False s e
unfolding walked
at-false s e = ap (λ (g : Walk). g s e) (fold-roll-Formula Walk walk_step Formula-F.False)

pub at-atom : (t : Term) (s : Bool) (e : List Term) → walked (roll-Formula (Formula-F.Atom t)) s e ≡ walk_step (Formula-F.Atom t) s e
unfolding walked
at-atom t s e = ap (λ (g : Walk). g s e) (fold-roll-Formula Walk walk_step (Formula-F.Atom t))

pub at-two : (j : Junction) (a b : Formula) (s : Bool) (e : List Term) → walked (roll-Formula (Formula-F.Two j a b)) s e ≡ junction_pass j (walked a) (walked b) s e
unfolding walked
at-two j a b s e = ap (λ (g : Walk). g s e) (fold-roll-Formula Walk walk_step (Formula-F.Two j a b))

pub at-quantified : (q : Quantifier) (a : Ty) (t : Term) (b : Formula) (s : Bool) (e : List Term) → walked (roll-Formula (Formula-F.Quantified q a t b)) s e ≡ quantified_pass q a t (walked b) s e
unfolding walked
at-quantified q a t b s e = ap (λ (g : Walk). g s e) (fold-roll-Formula Walk walk_step (Formula-F.Quantified q a t b))

-- ---- growth
abbrev pub PassGrows : Pass → Type 0
PassGrows x = (p : Progress) → Grows p.table (x p).after.table

pub both_grows : (make : Clauses → Clauses → Clauses) (x y : Pass) → PassGrows x → PassGrows y → PassGrows (both make x y)
both_grows make x y f g p = grows_trans p.table (x p).after.table (y (x p).after).after.table (f p) (g (x p).after)

abbrev pub WalkGrows : Walk → Type 0
WalkGrows w = (s : Bool) (e : List Term) → PassGrows (w s e)

junction_grows : (j : Junction) (a b : Walk) → WalkGrows a → WalkGrows b → WalkGrows (junction_pass j a b)
junction_grows junctions.And a b f g s e = both_grows (if s then appended else joined) (a s e) (b s e) (f s e) (g s e)
junction_grows junctions.Or a b f g s e = both_grows (if s then joined else appended) (a s e) (b s e) (f s e) (g s e)
junction_grows junctions.Imp a b f g s e = both_grows (if s then joined else appended) (a (not s) e) (b s e) (f (not s) e) (g s e)
junction_grows junctions.Iff a b f g s e =
    both_grows appended (both joined (a (not s) e) (b true e)) (both joined (a s e) (b false e)) (both_grows joined (a (not s) e) (b true e) (f (not s) e) (g true e))
    (both_grows joined (a s e) (b false e) (f s e) (g false e))

open_grows : (a : Ty) (f : Term) (p : Progress) (c : Bool) → Grows p.table (if c then next_variable a p else chosen_value a f p).after.table
open_grows a f p true = grows_refl p.table
open_grows a f p false = entry_grows p.table (closed_ty (variables f) a) (choice p.table a f)

pub opened_grows : (q : Quantifier) (a : Ty) (t : Term) (s : Bool) (e : List Term) (p : Progress) → Grows p.table (opened q a t s e p).after.table
opened_grows q a t s e p = open_grows a (property q a (put_in e t 1)) p (is_universal q s)

quantified_grows : (q : Quantifier) (a : Ty) (t : Term) (b : Walk) → WalkGrows b → WalkGrows (quantified_pass q a t b)
quantified_grows q a t b g s e p =
    let o = opened q a t s e p in grows_trans p.table o.after.table (b s (o.value ∷ e) o.after).after.table (opened_grows q a t s e p) (g s (o.value ∷ e) o.after)

abbrev pub GrowsAlong : Formula → Type 0
GrowsAlong f = WalkGrows (walked f)

pub walk_grows : (f : Formula) → GrowsAlong f
walk_grows =
    formula_by_cases GrowsAlong (λ s e. subst PassGrows (sym (at-true s e)) (λ p. grows_refl p.table)) (λ s e. subst PassGrows (sym (at-false s e)) (λ p. grows_refl p.table))
    (λ t s e. subst PassGrows (sym (at-atom t s e)) (λ p. grows_refl p.table)) (λ a h s e. subst PassGrows (sym (at-not a s e)) (h (not s) e))
    (λ j a b ha hb s e. subst PassGrows (sym (at-two j a b s e)) (junction_grows j (walked a) (walked b) ha hb s e))
    (λ q a t b h s e. subst PassGrows (sym (at-quantified q a t b s e)) (quantified_grows q a t (walked b) h s e))
