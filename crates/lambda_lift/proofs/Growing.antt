-- A lift only appends to the table.
use Rattle.std.proofs.Common.{◌≡◌, ℕ, zero, suc, ◌+◌, ◌-◌, ◌^◌, Bool, true, false, if◌then◌else◌, IsTrue, List, [], ◌∷◌, slice_get, sym, subst, ◌∙◌}
use Rattle.std.specs.Prelude.{Option, Some, None}
use Rattle.hol_terms.specs.declared.ty.Ty.{Ty}
use Rattle.hol_terms.specs.declared.konst.Konst.{Konst}
use Rattle.hol_terms.specs.declared.konst.Konst.TheVariants as konst
use Rattle.hol_terms.specs.declared.sig.Sig.{Sig}
use Rattle.hol_terms.specs.declared.term.Term.{Term, roll-Term}
use Rattle.hol_terms.specs.declared.term.Term.TheOpen.{Term-F}
use Rattle.hol_terms.specs.Types.{is_ty, bool_ty}
use Rattle.hol_terms.specs.Formulas.{aux_free}
use Rattle.hol_terms.proofs.TermCases.{by_cases}
use Rattle.lambda_lift.specs.declared.table.Aux.{Aux}
use Rattle.lambda_lift.specs.Tables.{own_ty, expand}
use Rattle.lambda_lift.specs.Closing.{closed_over}
use Rattle.lambda_lift.specs.Walks.{Walk, Stage, Reading, Head, plain, negation, junction, half, quantifier, abstraction, reading, both, apply, with_two, lifted_out, konst_head, app_head, app_formula, app_reading, lam_reading, quantified, whole}
use Rattle.lambda_lift.specs.Lifting.{Equated, equated, next_equation, lifted_formula, lifted_equation, lifted}
use Rattle.lambda_lift.specs.Contractions.{contracted_along}
use Rattle.lambda_lift.specs.Redexes.{redexes}
use Rattle.lambda_lift.proofs.Readings.{reading_bound, reading_free, reading_con, reading_app, reading_lam}
use Rattle.lambda_lift.proofs.Lifts.{lam, con, reads}
use Rattle.lambda_lift.proofs.Expansions.{Grows, grows_refl, grows_trans, entry_grows, expand_stays}
use Rattle.lambda_lift.proofs.Betas.{lifts_back}

abbrev Growing : Walk → Type 0
Growing w = (binders : List Ty) (s : Stage) → Grows s.table (w binders s).after.table

abbrev HeadGrows : Head → Type 0
HeadGrows plain = Unit {0}
HeadGrows negation = Unit {0}
HeadGrows (junction k) = Unit {0}
HeadGrows (half k w) = Growing w
HeadGrows (quantifier k) = Unit {0}
HeadGrows (abstraction a w) = Growing w

record ReadingGrows (r : Reading) : Type 0 where
  atom : Growing r.atom
  formula : Growing r.formula
  head : HeadGrows r.head

both_grow : (make : Term → Term → Term) (v w : Walk) → Growing v → Growing w → Growing (both make v w)
both_grow make v w hv hw binders s = grows_trans s.table (v binders s).after.table (w binders (v binders s).after).after.table (hv binders s) (hw binders (v binders s).after)

quantified_grows : (k : Konst) (h : Head) (atom : Walk) → HeadGrows h → Growing atom → Growing (quantified k h atom)
quantified_grows k (abstraction a w) atom hh ha binders s = hh (a ∷ binders) s
quantified_grows k plain atom hh ha binders s = ha binders s
quantified_grows k negation atom hh ha binders s = ha binders s
quantified_grows k (junction c) atom hh ha binders s = ha binders s
quantified_grows k (half c w) atom hh ha binders s = ha binders s
quantified_grows k (quantifier c) atom hh ha binders s = ha binders s

formula_grows : (h : Head) (q : Reading) (atom : Walk) → HeadGrows h → ReadingGrows q → Growing atom → Growing (app_formula h q atom)
formula_grows negation q atom hh hq ha binders s = hq.formula binders s
formula_grows (half k left) q atom hh hq ha binders s = both_grow (with_two k) left q.formula hh hq.formula binders s
formula_grows (quantifier k) q atom hh hq ha binders s = quantified_grows k q.head atom hq.head ha binders s
formula_grows plain q atom hh hq ha binders s = ha binders s
formula_grows (junction k) q atom hh hq ha binders s = ha binders s
formula_grows (abstraction a w) q atom hh hq ha binders s = ha binders s

head_grows : (h : Head) (w : Walk) → Growing w → HeadGrows (app_head h w)
head_grows (junction k) w hw = hw
head_grows plain w hw = tt
head_grows negation w hw = tt
head_grows (half k u) w hw = tt
head_grows (quantifier k) w hw = tt
head_grows (abstraction a u) w hw = tt

konst_grows : (k : Konst) → HeadGrows (konst_head k)
konst_grows (konst.Named n) = tt
konst_grows (konst.Aux n) = tt
konst_grows konst.True = tt
konst_grows konst.False = tt
konst_grows konst.Not = tt
konst_grows konst.And = tt
konst_grows konst.Or = tt
konst_grows konst.Imp = tt
konst_grows (konst.Eq a) = by (is_ty a bool_ty)
  where
    by : (b : Bool) → HeadGrows (if b then junction (konst.Eq a) else plain)
    by true = tt
    by false = tt
konst_grows (konst.All a) = tt
konst_grows (konst.Ex a) = tt
konst_grows (konst.Eps a) = tt

whole_grows : (t : Term) (h : Head) → HeadGrows h → ReadingGrows (whole t h)
whole_grows t h hh = record { atom = λ binders s. grows_refl s.table; formula = λ binders s. grows_refl s.table; head = hh }

module _ (sig : Sig) where
  app_grows : (r q : Reading) → ReadingGrows r → ReadingGrows q → ReadingGrows (app_reading r q)
  app_grows r q hr hq =
      let atoms = both_grow apply r.atom q.atom hr.atom hq.atom in
      record { atom = atoms; formula = formula_grows r.head q (both apply r.atom q.atom) hr.head hq atoms; head = head_grows r.head q.formula hq.formula }

  out_grows : (t : Term) → Growing (lifted_out sig t)
  out_grows t binders s = entry_grows s.table (own_ty sig (closed_over binders t)) (closed_over binders t)

  lam_grows : (a : Ty) (q : Reading) → ReadingGrows q → ReadingGrows (lam_reading sig a q)
  lam_grows a q hq = record { atom = out_grows (lam a q.own); formula = out_grows (lam a q.own); head = hq.formula }

  reading_grows : (t : Term) → ReadingGrows (reading sig t)
  reading_grows =
      by_cases (λ t. ReadingGrows (reading sig t)) (λ i. subst ReadingGrows (sym (reading_bound sig i)) (whole_grows (roll-Term (Term-F.Bound i)) plain tt))
      (λ n a. subst ReadingGrows (sym (reading_free sig n a)) (whole_grows (roll-Term (Term-F.Free n a)) plain tt))
      (λ k. subst ReadingGrows (sym (reading_con sig k)) (whole_grows (con k) (konst_head k) (konst_grows k)))
      (λ f x hf hx. subst ReadingGrows (sym (reading_app sig f x)) (app_grows (reading sig f) (reading sig x) hf hx))
      (λ a b hb. subst ReadingGrows (sym (reading_lam sig a b)) (lam_grows a (reading sig b) hb))

  pub formula_lifted_grows : (t : Term) (s : Stage) → Grows s.table (lifted_formula sig t s).after.table
  unfolding lifted_formula
  formula_lifted_grows t s = (reading_grows t).formula [] s

  next_grows : (s : Stage) (rest : Stage → Equated) (o : Option ℕ) → ((q : Stage) → Grows q.table (rest q).table) → Grows s.table (next_equation sig s rest o).table
  next_grows s rest None h = grows_refl s.table
  next_grows s rest (Some k) h =
      let w = lifted_equation sig k s in grows_trans s.table w.after.table (rest w.after).table (formula_lifted_grows _ s) (h w.after)

  pub equated_grows : (most at : ℕ) (s : Stage) → Grows s.table (equated sig most at s).table
  unfolding equated
  equated_grows zero at s = grows_refl s.table
  equated_grows (suc most) at s = next_grows s (equated sig most (at + 1)) (slice_get s.met at) (equated_grows most (at + 1))

  -- the expanded body, with the redexes that the formula hasn't contracted, is the formula
  pub body_back : (table : List Aux) (t : Term) → IsTrue (aux_free t) → contracted_along (redexes t (lifted sig table t).body) (expand (lifted sig table t).table (lifted sig table t).body) ≡ t
  unfolding lifted lifted_formula
  body_back table t h =
      let s : Stage = record { table = table; met = [] } in
      let w = (reading sig t).formula [] s in
      let grows = equated_grows (2 ^ 64 - 1) 0 w.after in
      lifts_back sig t [] s w ((reads sig t h).formula [] s) (equated sig (2 ^ 64 - 1) 0 w.after).table grows ∙ expand_stays (equated sig (2 ^ 64 - 1) 0 w.after).table t h
