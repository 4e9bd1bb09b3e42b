-- A lifted formula's atoms have no lambda.
use Rattle.std.proofs.Common.{◌≡◌, ℕ, zero, suc, ◌+◌, ◌^◌, ◌-◌, Bool, true, false, ◌&&◌, if◌then◌else◌, IsTrue, List, [], ◌∷◌, length, ap, subst, refl, sym, ◌∙◌, Some, None, slice_get}
use Rattle.std.specs.Prelude.{Option}
use Rattle.hol_terms.specs.declared.ty.Ty.{Ty}
use Rattle.hol_terms.specs.declared.sig.Sig.{Sig}
use Rattle.hol_terms.specs.declared.konst.Konst.{Konst}
use Rattle.hol_terms.specs.declared.konst.Konst.TheVariants as konst
use Rattle.hol_terms.specs.declared.term.Term.{Term, roll-Term}
use Rattle.hol_terms.specs.declared.term.Term.TheOpen.{Term-F}
use Rattle.hol_terms.specs.declared.term.Term.TheFolds.{fold-roll-Term}
use Rattle.hol_terms.specs.Types.{is_ty, bool_ty, function_ty, ty_fits}
use Rattle.hol_terms.specs.Typing.{type_in, type_of_term}
use Rattle.hol_terms.proofs.TermCases.{by_cases}
use Rattle.hol_terms.proofs.TyCases.{is_ty_same}
use Rattle.hol_terms.proofs.Both.{both_true, and_true}
use Rattle.hol_terms.proofs.TypedParts.{checked_some, applied_parts, under_parts, function_parts}
use Rattle.hol_terms.proofs.Equations.{type-app, type-con, type-lam}
use Rattle.kernel_rules.specs.Connectives.{apply, constant, lambda, neg}
use Rattle.lambda_lift.specs.declared.table.Aux.{Aux}
use Rattle.lambda_lift.specs.Closing.{applied_to, variables, occurs_in, closed_over}
use Rattle.lambda_lift.specs.Tables.{place}
use Rattle.lambda_lift.specs.Standing.{Each, StandsOver, over, Stands}
use Rattle.lambda_lift.specs.Lifting.{Equated, Outcome, equated, next_equation, lifted, lifted_formula, lifted_equation}
use Rattle.lambda_lift.specs.Wholes.{whole as whole_outcome, with_equations, conjunction, all_of}
use Rattle.lambda_lift.specs.Walks as walks
use Rattle.lambda_lift.specs.Walks.{Walk, Stage, Walked, plain, negation, junction as joining, half, quantifier as quantifying, abstraction, reading, both, one, scope, with_two, lifted_out, konst_head, app_head, app_formula, app_reading, quantified}
use Rattle.lambda_lift.proofs.Readings.{own_is, reading_bound, reading_free, reading_con, reading_app, reading_lam}
use Rattle.lambda_lift.proofs.Standings.{each_first}
use Rattle.hol_formulas.specs.declared.formula.Junction.{Junction}
use Rattle.hol_formulas.specs.declared.formula.Junction.TheVariants as junctions
use Rattle.hol_formulas.specs.declared.formula.Quantifier.{Quantifier}
use Rattle.hol_formulas.specs.declared.formula.Quantifier.TheVariants as quantifiers
use Rattle.hol_formulas.specs.declared.formula.Formula.{Formula, roll-Formula}
use Rattle.hol_formulas.specs.declared.formula.Formula.TheOpen.{Formula-F}
use Rattle.hol_formulas.specs.declared.formula.Formula.TheFolds.{fold-roll-Formula}
use Rattle.hol_formulas.specs.declared.reading.Head as heads
use Rattle.hol_formulas.specs.declared.reading.Head.TheVariants as head
use Rattle.hol_formulas.specs.declared.reading.Reading as readings
use Rattle.hol_formulas.specs.Formulas.{formula_of}
use Rattle.hol_formulas.specs.Formulas as formulas
use Rattle.fol_encode.specs.Laws.{lambda_free}
use Rattle.hol_clausify.specs.Places.{junction, quantifier}
use Rattle.hol_clausify.specs.inner.Plain.{atoms_plain, plain_step}
use Rattle.hol_clausify.proofs.PutTyped.{plain-bound, plain-free, plain-con, plain-app, plain-lam, plain_app}
use Rattle.hol_clausify.proofs.Reading.{junction_konst, quantifier_konst, junction_is, quantifier_is, reading-con, reading-app, read}
use Rattle.hol_clausify.proofs.Parts.{formula-not, formula-two, formula-quantified}
use Rattle.hol_clausify.proofs.Opening.{free}
use Rattle.hol_derived.proofs.PutPut.{bound}

-- ---- one equation for each constructor
pub plain-atom : (t : Term) → atoms_plain (roll-Formula (Formula-F.Atom t)) ≡ lambda_free t
plain-atom t = fold-roll-Formula Bool plain_step (Formula-F.Atom t)

pub plain-not : (a : Formula) → atoms_plain (roll-Formula (Formula-F.Not a)) ≡ atoms_plain a
plain-not a = fold-roll-Formula Bool plain_step (Formula-F.Not a)

pub plain-two : (j : Junction) (a b : Formula) → atoms_plain (roll-Formula (Formula-F.Two j a b)) ≡ (atoms_plain a && atoms_plain b)
plain-two j a b = fold-roll-Formula Bool plain_step (Formula-F.Two j a b)

pub plain-quantified : (q : Quantifier) (a : Ty) (t : Term) (b : Formula) → atoms_plain (roll-Formula (Formula-F.Quantified q a t b)) ≡ atoms_plain b
plain-quantified q a t b = fold-roll-Formula Bool plain_step (Formula-F.Quantified q a t b)

plain-true : IsTrue (atoms_plain (roll-Formula Formula-F.True))
plain-true = fold-roll-Formula Bool plain_step Formula-F.True

plain-false : IsTrue (atoms_plain (roll-Formula Formula-F.False))
plain-false = fold-roll-Formula Bool plain_step Formula-F.False

-- ---- a term without lambdas, read as a formula
abbrev IsPlain : Formula → Type 0
IsPlain f = IsTrue (atoms_plain f)

abbrev HeadPlain : heads.Head → Type 0
HeadPlain (head.Half j left) = IsPlain left
HeadPlain (head.Abstraction a t f) = ⊥
HeadPlain head.Plain = Unit {0}
HeadPlain head.Negation = Unit {0}
HeadPlain (head.Junction j) = Unit {0}
HeadPlain (head.Quantifier q a) = Unit {0}

record ReadOk (t : Term) : Type 0 where
  formula : IsPlain (formulas.reading t).formula
  head : HeadPlain (formulas.reading t).head

atom_plain : (t : Term) → IsTrue (lambda_free t) → IsPlain (formulas.atom t)
atom_plain t h = plain-atom t ∙ h

konst_plain : (k : Konst) → IsPlain (formulas.konst_formula k) × HeadPlain (formulas.konst_head k)
konst_plain konst.True = (plain-true, tt)
konst_plain konst.False = (plain-false, tt)
konst_plain konst.Not = (atom_plain (constant konst.Not) (plain-con konst.Not), tt)
konst_plain konst.And = (atom_plain (constant konst.And) (plain-con konst.And), tt)
konst_plain konst.Or = (atom_plain (constant konst.Or) (plain-con konst.Or), tt)
konst_plain konst.Imp = (atom_plain (constant konst.Imp) (plain-con konst.Imp), tt)
konst_plain (konst.Eq a) = (atom_plain (constant (konst.Eq a)) (plain-con (konst.Eq a)), by (is_ty a bool_ty))
  where
    by : (b : Bool) → HeadPlain (if b then head.Junction junctions.Iff else head.Plain)
    by true = tt
    by false = tt
konst_plain (konst.All a) = (atom_plain (constant (konst.All a)) (plain-con (konst.All a)), tt)
konst_plain (konst.Ex a) = (atom_plain (constant (konst.Ex a)) (plain-con (konst.Ex a)), tt)
konst_plain (konst.Eps a) = (atom_plain (constant (konst.Eps a)) (plain-con (konst.Eps a)), tt)
konst_plain (konst.Named n) = (atom_plain (constant (konst.Named n)) (plain-con (konst.Named n)), tt)
konst_plain (konst.Aux n) = (atom_plain (constant (konst.Aux n)) (plain-con (konst.Aux n)), tt)

app_formula_plain : (h : heads.Head) (x : readings.Reading) (own : Term) → HeadPlain h → HeadPlain x.head → IsPlain x.formula → IsTrue (lambda_free own) → IsPlain (formulas.app_formula h x own)
app_formula_plain head.Negation x own hh hx fx free = plain-not x.formula ∙ fx
app_formula_plain (head.Half j left) x own hh hx fx free = plain-two j left x.formula ∙ and_true (atoms_plain left) (atoms_plain x.formula) hh fx
app_formula_plain (head.Quantifier q a) x own hh hx fx free = at x.head hx
  where
    at : (h : heads.Head) → HeadPlain h → IsPlain (formulas.quantified q a h own)
    at (head.Abstraction b t f) g = absurd g
    at head.Plain g = atom_plain own free
    at head.Negation g = atom_plain own free
    at (head.Junction j) g = atom_plain own free
    at (head.Half j left) g = atom_plain own free
    at (head.Quantifier p b) g = atom_plain own free
app_formula_plain head.Plain x own hh hx fx free = atom_plain own free
app_formula_plain (head.Junction j) x own hh hx fx free = atom_plain own free
app_formula_plain (head.Abstraction a t f) x own hh hx fx free = atom_plain own free

app_head_plain : (h : heads.Head) (x : readings.Reading) → IsPlain x.formula → HeadPlain (formulas.app_head h x)
app_head_plain (head.Junction j) x fx = fx
app_head_plain head.Plain x fx = tt
app_head_plain head.Negation x fx = tt
app_head_plain (head.Half j left) x fx = tt
app_head_plain (head.Quantifier q a) x fx = tt
app_head_plain (head.Abstraction a t f) x fx = tt

reads-bound : (i : ℕ) → formulas.reading (bound i) ≡ formulas.simple (bound i)
reads-bound i = fold-roll-Term readings.Reading formulas.read_step (Term-F.Bound i)

reads-free : (n : ℕ) (a : Ty) → formulas.reading (free n a) ≡ formulas.simple (free n a)
reads-free n a = fold-roll-Term readings.Reading formulas.read_step (Term-F.Free n a)

abbrev ReadsPlain : Term → Type 0
ReadsPlain t = IsTrue (lambda_free t) → ReadOk t

simple_plain : (t : Term) → formulas.reading t ≡ formulas.simple t → ReadsPlain t
simple_plain t is h = record {
  formula = subst (λ (r : readings.Reading). IsPlain r.formula) (sym is) (atom_plain t h);
  head = subst (λ (r : readings.Reading). HeadPlain r.head) (sym is) tt;
}

read_app : (f x : Term) → ReadsPlain f → ReadsPlain x → ReadsPlain (apply f x)
read_app f x hf hx h =
    let parts = both_true (lambda_free f) (lambda_free x) (sym (plain-app f x) ∙ h) in
    let rf = hf parts.0 in
    let rx = hx parts.1 in
    let own = apply (formulas.reading f).own (formulas.reading x).own in
    let same : own ≡ apply f x = λ i. apply ((read f).own i) ((read x).own i) in
    record {
      formula =
          subst (λ (r : readings.Reading). IsPlain r.formula) (sym (reading-app f x))
          (app_formula_plain (formulas.reading f).head (formulas.reading x) own rf.head rx.head rx.formula (subst (λ z. IsTrue (lambda_free z)) (sym same) h));
      head = subst (λ (r : readings.Reading). HeadPlain r.head) (sym (reading-app f x)) (app_head_plain (formulas.reading f).head (formulas.reading x) rx.formula);
    }

reads_plain : (t : Term) → ReadsPlain t
reads_plain =
    by_cases ReadsPlain (λ i. simple_plain (bound i) (reads-bound i)) (λ n a. simple_plain (free n a) (reads-free n a))
    (λ k h. record {
      formula = subst (λ (r : readings.Reading). IsPlain r.formula) (sym (reading-con k)) (konst_plain k).0;
      head = subst (λ (r : readings.Reading). HeadPlain r.head) (sym (reading-con k)) (konst_plain k).1;
    }) read_app
    (λ a b hb h. let none : false ≡ true = sym (plain-lam a b) ∙ h in cc)

pub plain_read : (t : Term) → IsTrue (lambda_free t) → IsPlain (formula_of t)
plain_read t h = (reads_plain t h).formula

-- ---- what a walk gives
-- a formula that has a type somewhere has plain atoms
abbrev pub PlainWalk : Walk → Type 0
PlainWalk w = (binders : List Ty) (s : Stage) (sg : Sig) (c : List Ty) (a : Ty) → type_in sg (w binders s).term c ≡ Some a → IsPlain (formula_of (w binders s).term)

abbrev FreeWalk : Walk → Type 0
FreeWalk w = (binders : List Ty) (s : Stage) → IsTrue (lambda_free (w binders s).term)

abbrev IsJunction : Konst → Type 0
IsJunction k = (j : Junction) × (k ≡ junction_konst j)

abbrev IsQuantifier : Konst → Type 0
IsQuantifier k = (q : Quantifier) × ((a : Ty) × (k ≡ quantifier_konst q a))

abbrev HeadOk : walks.Head → Type 0
HeadOk plain = Unit {0}
HeadOk negation = Unit {0}
HeadOk (joining k) = IsJunction k
HeadOk (half k left) = IsJunction k × PlainWalk left
HeadOk (quantifying k) = IsQuantifier k
HeadOk (abstraction a w) = PlainWalk w

record Ok (r : walks.Reading) : Type 0 where
  atom : FreeWalk r.atom
  formula : PlainWalk r.formula
  head : HeadOk r.head

free_is_plain : (w : Walk) → FreeWalk w → PlainWalk w
free_is_plain w h binders s sg c a typed = plain_read (w binders s).term (h binders s)

konst_ok : (k : Konst) → HeadOk (konst_head k)
konst_ok (konst.Named n) = tt
konst_ok (konst.Aux n) = tt
konst_ok konst.True = tt
konst_ok konst.False = tt
konst_ok konst.Not = tt
konst_ok konst.And = (junctions.And, refl)
konst_ok konst.Or = (junctions.Or, refl)
konst_ok konst.Imp = (junctions.Imp, refl)
konst_ok (konst.Eq a) = by (is_ty a bool_ty) refl
  where
    by : (b : Bool) → is_ty a bool_ty ≡ b → HeadOk (if b then joining (konst.Eq a) else plain)
    by true e = (junctions.Iff, ap (λ z. konst.Eq z) (is_ty_same a bool_ty e))
    by false e = tt
konst_ok (konst.All a) = (quantifiers.All, (a, refl))
konst_ok (konst.Ex a) = (quantifiers.Ex, (a, refl))
konst_ok (konst.Eps a) = tt

kept_ok : (t : Term) (h : walks.Head) → IsTrue (lambda_free t) → HeadOk h → Ok (walks.whole t h)
kept_ok t h clean ok = record { atom = λ binders s. clean; formula = λ binders s sg c a typed. plain_read t clean; head = ok }

app_free : (v w : Walk) → FreeWalk v → FreeWalk w → FreeWalk (both walks.apply v w)
app_free v w hv hw binders s = plain_app (v binders s).term (w binders (v binders s).after).term (hv binders s) (hw binders (v binders s).after)

not_plain : (w : Walk) → PlainWalk w → PlainWalk (one (walks.apply (constant konst.Not)) w)
not_plain w h binders s sg c a typed =
    let t = (w binders s).term in
    let from = applied_parts (type_in sg (constant konst.Not) c) (type_in sg t c) a (sym (type-app sg (constant konst.Not) t c) ∙ typed) in
    ap atoms_plain (formula-not t) ∙ plain-not (formula_of t) ∙ h binders s sg c from.0 from.1.1

two_plain_at : (j : Junction) (t u : Term) → IsPlain (formula_of t) → IsPlain (formula_of u) → IsPlain (formula_of (with_two (junction_konst j) t u))
two_plain_at j t u h k =
    ap (λ z. atoms_plain (formula_of z)) (sym (junction_is j t u)) ∙ ap atoms_plain (formula-two j t u) ∙ plain-two j (formula_of t) (formula_of u) ∙ and_true (atoms_plain (formula_of t)) (atoms_plain (formula_of u)) h k

two_plain : (k : Konst) (v w : Walk) → IsJunction k → PlainWalk v → PlainWalk w → PlainWalk (both (with_two k) v w)
two_plain k v w is hv hw binders s sg c a typed =
    let t = (v binders s).term in
    let s' = (v binders s).after in
    let u = (w binders s').term in
    let outer = applied_parts (type_in sg (apply (constant k) t) c) (type_in sg u c) a (sym (type-app sg (apply (constant k) t) u c) ∙ typed) in
    let inner = applied_parts (type_in sg (constant k) c) (type_in sg t c) (function_ty outer.0 a) (sym (type-app sg (constant k) t c) ∙ outer.1.0) in
    subst (λ z. IsPlain (formula_of (with_two z t u))) (sym is.1) (two_plain_at is.0 t u (hv binders s sg c inner.0 inner.1.1) (hw binders s' sg c outer.0 outer.1.1))

konst_bound : (sg : Sig) (q : Quantifier) (b : Ty) (t : Ty) (c : List Ty) → type_in sg (constant (quantifier_konst q b)) c ≡ Some t → function_ty (function_ty b bool_ty) bool_ty ≡ t
konst_bound sg quantifiers.All b t c h = (checked_some sg.types b (function_ty (function_ty b bool_ty) bool_ty) t (sym (type-con sg (konst.All b) c) ∙ h)).1
konst_bound sg quantifiers.Ex b t c h = (checked_some sg.types b (function_ty (function_ty b bool_ty) bool_ty) t (sym (type-con sg (konst.Ex b) c) ∙ h)).1

scope_plain : (k : Konst) (a : Ty) (w : Walk) → IsQuantifier k → PlainWalk w → PlainWalk (scope k a w)
scope_plain k a w is hw binders s sg c t typed =
    let q = is.0 in
    let b = is.1.0 in
    let u = (w (a ∷ binders) s).term in
    let own = constant (quantifier_konst q b) in
    let typed' : type_in sg (apply own (lambda a u)) c ≡ Some t = subst (λ z. type_in sg (apply (constant z) (lambda a u)) c ≡ Some t) is.1.1 typed in
    let outer = applied_parts (type_in sg own c) (type_in sg (lambda a u) c) t (sym (type-app sg own (lambda a u) c) ∙ typed') in
    let from = under_parts sg.types a (type_in sg u (a ∷ c)) outer.0 (sym (type-lam sg a u c) ∙ outer.1.1) in
    let arg = (function_parts (function_ty b bool_ty) bool_ty outer.0 t (konst_bound sg q b (function_ty outer.0 t) c outer.1.0)).0 in
    let same = (function_parts b bool_ty a from.0 (arg ∙ from.1.1.0)).0 in
    let inner = hw (a ∷ binders) s sg (a ∷ c) from.0 from.1.0 in
    let at_a : IsPlain (formula_of (apply (constant (quantifier_konst q a)) (lambda a u))) =
    ap (λ z. atoms_plain (formula_of z)) (sym (quantifier_is q a (lambda a u))) ∙ ap atoms_plain (formula-quantified q a u) ∙ plain-quantified q a u (formula_of u) ∙ inner in
    subst (λ z. IsPlain (formula_of (apply (constant z) (lambda a u)))) (ap (quantifier_konst q) (sym same) ∙ sym is.1.1) at_a

quantified_plain : (k : Konst) (h : walks.Head) (atom : Walk) → IsQuantifier k → HeadOk h → FreeWalk atom → PlainWalk (quantified k h atom)
quantified_plain k (abstraction a w) atom is ok all = scope_plain k a w is ok
quantified_plain k plain atom is ok all = free_is_plain atom all
quantified_plain k negation atom is ok all = free_is_plain atom all
quantified_plain k (joining j) atom is ok all = free_is_plain atom all
quantified_plain k (half j w) atom is ok all = free_is_plain atom all
quantified_plain k (quantifying j) atom is ok all = free_is_plain atom all

formula_plain : (h : walks.Head) (x : walks.Reading) (atom : Walk) → HeadOk h → Ok x → FreeWalk atom → PlainWalk (app_formula h x atom)
formula_plain negation x atom ok hx all = not_plain x.formula hx.formula
formula_plain (half k left) x atom ok hx all = two_plain k left x.formula ok.0 ok.1 hx.formula
formula_plain (quantifying k) x atom ok hx all = quantified_plain k x.head atom ok hx.head all
formula_plain plain x atom ok hx all = free_is_plain atom all
formula_plain (joining k) x atom ok hx all = free_is_plain atom all
formula_plain (abstraction a w) x atom ok hx all = free_is_plain atom all

head_plain : (h : walks.Head) (w : Walk) → HeadOk h → PlainWalk w → HeadOk (app_head h w)
head_plain (joining k) w ok hw = (ok, hw)
head_plain plain w ok hw = tt
head_plain negation w ok hw = tt
head_plain (half k u) w ok hw = tt
head_plain (quantifying k) w ok hw = tt
head_plain (abstraction a u) w ok hw = tt

app_ok : (r q : walks.Reading) → Ok r → Ok q → Ok (app_reading r q)
app_ok r q hr hq =
    let atoms = app_free r.atom q.atom hr.atom hq.atom in
    record { atom = atoms; formula = formula_plain r.head q (both walks.apply r.atom q.atom) hr.head hq atoms; head = head_plain r.head q.formula hr.head hq.formula }

applied_free : (vs : List ℕ) (f : Term) → IsTrue (lambda_free f) → IsTrue (lambda_free (applied_to f vs))
applied_free [] f h = h
applied_free (v ∷ vs) f h = applied_free vs (apply f (bound v)) (plain_app f (bound v) h (plain-bound v))

out_free : (sig : Sig) (t : Term) → FreeWalk (lifted_out sig t)
out_free sig t binders s = let k = konst.Aux (place s.table (closed_over binders t)) in applied_free (variables (occurs_in t) (length binders)) (constant k) (plain-con k)

module _ (sig : Sig) where
  lam_ok : (a : Ty) (r : walks.Reading) → Ok r → Ok (walks.lam_reading sig a r)
  lam_ok a r hr = let t = lambda a r.own in record { atom = out_free sig t; formula = free_is_plain (lifted_out sig t) (out_free sig t); head = hr.formula }

  abbrev AllOk : Term → Type 0
  AllOk t = Ok (reading sig t)

  all_ok : (t : Term) → AllOk t
  all_ok =
      by_cases AllOk (λ i. subst Ok (sym (reading_bound sig i)) (kept_ok (bound i) plain (plain-bound i) tt)) (λ n a. subst Ok (sym (reading_free sig n a)) (kept_ok (free n a) plain (plain-free n a) tt))
      (λ k. subst Ok (sym (reading_con sig k)) (kept_ok (constant k) (konst_head k) (plain-con k) (konst_ok k)))
      (λ f x hf hx. subst Ok (sym (reading_app sig f x)) (app_ok (reading sig f) (reading sig x) hf hx)) (λ a b hb. subst Ok (sym (reading_lam sig a b)) (lam_ok a (reading sig b) hb))

  -- a formula that is typed, lifted, has plain atoms
  abbrev PlainTyped : Term → Type 0
  PlainTyped t = (sg : Sig) (c : List Ty) (a : Ty) → type_in sg t c ≡ Some a → IsPlain (formula_of t)

  pub lifted_plain : (t : Term) (s : Stage) → PlainTyped (lifted_formula sig t s).term
  unfolding lifted_formula
  lifted_plain t s sg c a typed = (all_ok t).formula [] s sg c a typed

  next_plain : (most at : ℕ) (s : Stage) (o : Option ℕ) → ((q : Stage) → Each PlainTyped (equated sig most (at + 1) q).equations) → Each PlainTyped (next_equation sig s (equated sig most (at + 1)) o).equations
  next_plain most at s None rest = λ i x q. cc
  next_plain most at s (Some k) rest = each_first PlainTyped (lifted_equation sig k s).term (equated sig most (at + 1) (lifted_equation sig k s).after).equations (lifted_plain _ s) (rest (lifted_equation sig k s).after)

  equated_plain : (most at : ℕ) (s : Stage) → Each PlainTyped (equated sig most at s).equations
  unfolding equated
  equated_plain zero at s = λ i x q. cc
  equated_plain (suc most) at s = next_plain most at s (slice_get s.met at) (equated_plain most (at + 1))

  conjunction_plain : (t : Term) (us : List Term) → IsPlain (formula_of t) → Each (λ u. IsPlain (formula_of u)) us → IsPlain (formula_of (conjunction t us))
  conjunction_plain t [] h all = h
  conjunction_plain t (u ∷ us) h all = two_plain_at junctions.And t (conjunction u us) h (conjunction_plain u us (all zero u refl) (λ i. all (suc i)))

  with_plain : (goal : Bool) (t : Term) (es : List Term) → IsPlain (formula_of t) → Each (λ u. IsPlain (formula_of u)) es → IsPlain (formula_of (with_equations goal t es))
  with_plain goal t [] h all = h
  with_plain true t (e ∷ es) h all = two_plain_at junctions.Imp (conjunction e es) t (conjunction_plain e es (all zero e refl) (λ i. all (suc i))) h
  with_plain false t (e ∷ es) h all = two_plain_at junctions.And t (conjunction e es) h (conjunction_plain e es (all zero e refl) (λ i. all (suc i)))

  -- the whole that clauses are made of
  pub whole_plain : (old : List Aux) (t : Term) (goal : Bool) → Stands sig old t → IsPlain (formula_of (whole_outcome goal (lifted sig old t)))
  unfolding lifted
  whole_plain old t goal st =
      let s : Stage = record { table = old; met = [] } in
      let w = lifted_formula sig t s in
      let o = lifted sig old t in
      with_plain goal o.body o.equations (lifted_plain t s (over sig o.table) [] bool_ty st.body.typed)
      (λ i u at. equated_plain (2 ^ 64 - 1) 0 w.after i u at (over sig o.table) [] bool_ty (st.equations i u at).typed)
