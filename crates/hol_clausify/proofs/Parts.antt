-- The parts of a formula that was read from a term were read from the term's parts.
use Rattle.std.proofs.Common.{◌≡◌, if◌then◌else◌, ap, refl, sym, ◌∙◌}
use Rattle.hol_terms.specs.declared.ty.Ty.{Ty}
use Rattle.hol_terms.specs.declared.konst.Konst.{Konst}
use Rattle.hol_terms.specs.declared.konst.Konst.TheVariants as konst
use Rattle.hol_terms.specs.declared.term.Term.{Term}
use Rattle.hol_terms.specs.Types.{bool_ty}
use Rattle.hol_terms.proofs.TyCases.{is_ty_itself}
use Rattle.kernel_rules.specs.Connectives.{apply, lambda, constant, neg}
use Rattle.hol_formulas.specs.declared.formula.Junction.{Junction}
use Rattle.hol_formulas.specs.declared.formula.Junction.TheVariants as junctions
use Rattle.hol_formulas.specs.declared.formula.Quantifier.{Quantifier}
use Rattle.hol_formulas.specs.declared.formula.Quantifier.TheVariants as quantifiers
use Rattle.hol_formulas.specs.declared.formula.Formula.{Formula, roll-Formula, out-Formula}
use Rattle.hol_formulas.specs.declared.formula.Formula.TheOpen.{Formula-F}
use Rattle.hol_formulas.specs.declared.formula.Formula.TheViews.{out-roll-Formula}
use Rattle.hol_formulas.specs.declared.reading.Head.{Head}
use Rattle.hol_formulas.specs.declared.reading.Head.TheVariants.{Plain, Negation, Junction as Joining, Half, Quantifier as Quantifying}
use Rattle.hol_formulas.specs.declared.reading.Reading.{Reading}
use Rattle.hol_formulas.specs.Formulas.{atom, konst_head, quantified, app_formula, app_head, reading, formula_of}
use Rattle.hol_clausify.specs.Places.{junction, quantifier, term_of, IsRead}
use Rattle.hol_clausify.proofs.Reading.{junction_konst, quantifier_konst, junction_is, quantifier_is, reading-con, reading-app, reading-lam, read, reads_back, term-not, term-two, term-quantified}

-- ---- what is read
con_head : (k : Konst) → (reading (constant k)).head ≡ konst_head k
con_head k = ap (λ (r : Reading). r.head) (reading-con k)

one_head : (f x : Term) (h : Head) → (reading f).head ≡ h → (reading (apply f x)).head ≡ app_head h (reading x)
one_head f x h e = ap (λ (r : Reading). r.head) (reading-app f x) ∙ ap (λ g. app_head g (reading x)) e

one_formula : (f x : Term) (h : Head) → (reading f).head ≡ h → formula_of (apply f x) ≡ app_formula h (reading x) (apply (reading f).own (reading x).own)
one_formula f x h e = ap (λ (r : Reading). r.formula) (reading-app f x) ∙ ap (λ g. app_formula g (reading x) (apply (reading f).own (reading x).own)) e

junction_head : (j : Junction) → konst_head (junction_konst j) ≡ Joining j
junction_head junctions.And = refl
junction_head junctions.Or = refl
junction_head junctions.Imp = refl
junction_head junctions.Iff = ap (λ b. if b then Joining junctions.Iff else Plain) (is_ty_itself bool_ty)

quantifier_head : (q : Quantifier) (a : Ty) → konst_head (quantifier_konst q a) ≡ Quantifying q a
quantifier_head quantifiers.All a = refl
quantifier_head quantifiers.Ex a = refl

pub formula-two : (j : Junction) (s t : Term) → formula_of (junction j s t) ≡ roll-Formula (Formula-F.Two j (formula_of s) (formula_of t))
formula-two j s t =
    let c = constant (junction_konst j) in
    ap formula_of (junction_is j s t)
    ∙ one_formula (apply c s) t (Half j (formula_of s)) (one_head c s (Joining j) (con_head (junction_konst j) ∙ junction_head j))

pub formula-not : (t : Term) → formula_of (neg t) ≡ roll-Formula (Formula-F.Not (formula_of t))
formula-not t = one_formula (constant konst.Not) t Negation (con_head konst.Not)

pub formula-quantified : (q : Quantifier) (a : Ty) (t : Term) → formula_of (quantifier q a (lambda a t)) ≡ roll-Formula (Formula-F.Quantified q a t (formula_of t))
formula-quantified q a t =
    let c = constant (quantifier_konst q a) in
    let own = apply (reading c).own (reading (lambda a t)).own in
    ap formula_of (quantifier_is q a (lambda a t)) ∙ one_formula c (lambda a t) (Quantifying q a) (con_head (quantifier_konst q a) ∙ quantifier_head q a)
    ∙ ap (λ (r : Reading). quantified q a r.head own) (reading-lam a t)
    ∙ ap (λ b. if b then roll-Formula (Formula-F.Quantified q a (reading t).own (formula_of t)) else atom own) (is_ty_itself a)
    ∙ ap (λ u. roll-Formula (Formula-F.Quantified q a u (formula_of t))) (read t).own

-- ---- the parts
abbrev first_at : Formula → Formula-F Formula → Formula
first_at f (Formula-F.Not a) = a
first_at f (Formula-F.Two j a b) = a
first_at f (Formula-F.Quantified q a t b) = b
first_at f _ = f

abbrev second_at : Formula → Formula-F Formula → Formula
second_at f (Formula-F.Two j a b) = b
second_at f _ = f

abbrev first : Formula → Formula
first f = first_at f (out-Formula f)

abbrev second : Formula → Formula
second f = second_at f (out-Formula f)

first_is : (x : Formula-F Formula) → first (roll-Formula x) ≡ first_at (roll-Formula x) x
first_is x = ap (first_at (roll-Formula x)) (out-roll-Formula x)

second_is : (x : Formula-F Formula) → second (roll-Formula x) ≡ second_at (roll-Formula x) x
second_is x = ap (second_at (roll-Formula x)) (out-roll-Formula x)

pub not_read : (a : Formula) → IsRead (roll-Formula (Formula-F.Not a)) → IsRead a
not_read a h =
    let whole = h ∙ ap formula_of (term-not a) ∙ formula-not (term_of a) in
    sym (first_is (Formula-F.Not a)) ∙ ap first whole ∙ first_is (Formula-F.Not (formula_of (term_of a)))

pub two_read : (j : Junction) (a b : Formula) → IsRead (roll-Formula (Formula-F.Two j a b)) → IsRead a × IsRead b
two_read j a b h =
    let new = Formula-F.Two j (formula_of (term_of a)) (formula_of (term_of b)) in
    let whole = h ∙ ap formula_of (term-two j a b) ∙ formula-two j (term_of a) (term_of b) in
    (sym (first_is (Formula-F.Two j a b)) ∙ ap first whole ∙ first_is new, sym (second_is (Formula-F.Two j a b)) ∙ ap second whole ∙ second_is new)

pub quantified_read : (q : Quantifier) (a : Ty) (t : Term) (b : Formula) → IsRead (roll-Formula (Formula-F.Quantified q a t b)) → b ≡ formula_of t
quantified_read q a t b h =
    let whole = h ∙ ap formula_of (term-quantified q a t b) ∙ formula-quantified q a t in
    sym (first_is (Formula-F.Quantified q a t b)) ∙ ap first whole ∙ first_is (Formula-F.Quantified q a t (formula_of t))

pub body_read : (t : Term) (b : Formula) → b ≡ formula_of t → IsRead b × (term_of b ≡ t)
body_read t b h = let is = ap term_of h ∙ reads_back t in (h ∙ ap formula_of (sym is), is)
