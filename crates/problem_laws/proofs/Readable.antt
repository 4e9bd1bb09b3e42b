-- Lifted formulas are readable: what is written of them holds no lambda, no free variable and no loose index.
use Rattle.std.proofs.Common.{◌≡◌, ℕ, suc, ◌+◌, nat_lt, Bool, true, false, ◌&&◌, IsTrue, List, refl, sym, ap, subst, ◌∙◌, arith, if◌then◌else◌}
use Rattle.std.specs.Prelude.{Option, Some, None}
use Rattle.hol_terms.specs.declared.ty.Ty.{Ty}
use Rattle.hol_terms.specs.declared.sig.Sig.{Sig}
use Rattle.hol_terms.specs.declared.konst.Konst.{Konst}
use Rattle.hol_terms.specs.declared.konst.Konst.TheVariants as konst
use Rattle.hol_terms.specs.declared.term.Term.{Term, roll-Term, out-Term}
use Rattle.hol_terms.specs.declared.term.Term.TheOpen.{Term-F}
use Rattle.hol_terms.specs.declared.term.Term.TheFolds.{fold-roll-Term}
use Rattle.hol_terms.specs.declared.term.Term.TheViews.{out-roll-Term}
use Rattle.hol_terms.specs.Types.{is_ty, bool_ty}
use Rattle.hol_terms.specs.Substitution.{closed_under}
use Rattle.hol_terms.specs.Formulas.{var_free}
use Rattle.hol_terms.proofs.Both.{both_true, and_true}
use Rattle.hol_terms.proofs.TermCases.{by_cases}
use Rattle.hol_terms.proofs.Equations.{closed-bound, closed-app, closed-lam, var_free-free, var_free-app, var_free-lam}
use Rattle.kernel_rules.specs.Connectives.{apply, constant, lambda}
use Rattle.hol_formulas.specs.Atoms.{sides, sides_at, sides_of_head, sides_of_function, sides_of_konst}
use Rattle.hol_formulas.specs.Formulas.{formula_of}
use Rattle.hol_formulas.specs.declared.formula.Junction.{Junction}
use Rattle.hol_formulas.specs.declared.formula.Quantifier.{Quantifier}
use Rattle.hol_formulas.specs.declared.formula.Formula.{Formula, roll-Formula}
use Rattle.hol_formulas.specs.declared.formula.Formula.TheOpen.{Formula-F}
use Rattle.hol_formulas.specs.declared.formula.Formula.TheFolds.{fold-roll-Formula, map-Formula}
use Rattle.lambda_lift.specs.declared.table.Aux.{Aux}
use Rattle.lambda_lift.specs.Lifting.{lifted}
use Rattle.lambda_lift.specs.Wholes.{whole}
use Rattle.lambda_lift.specs.Standing.{Stands}
use Rattle.fol_encode.specs.Laws.{lambda_free, lambda_free_step}
use Rattle.hol_clausify.specs.Places.{term_of, IsRead}
use Rattle.hol_clausify.specs.inner.Plain.{atoms_plain}
use Rattle.hol_clausify.proofs.FormulaCases.{formula_by_cases}
use Rattle.hol_clausify.proofs.Reading.{junction_konst, quantifier_konst, junction_is, quantifier_is, term-atom, term-not, term-two, term-quantified, reads_back}
use Rattle.hol_clausify.proofs.Parts.{not_read, two_read, quantified_read, body_read}
use Rattle.hol_clausify.proofs.LiftedPlain.{plain-atom, plain-not, plain-two, plain-quantified, whole_plain}
use Rattle.hol_clausify.proofs.Wholes.{whole_over}
use Rattle.problem_laws.specs.inner.Readable.{term_step, readable_term, atom_readable, formula_step, readable}

-- ---- terms
readable-bound : (i n : ℕ) → readable_term (roll-Term (Term-F.Bound i)) n ≡ nat_lt i n
readable-bound i n = ap (λ g. g n) (fold-roll-Term (ℕ → Bool) term_step (Term-F.Bound i))

readable-con : (k : Konst) (n : ℕ) → readable_term (constant k) n ≡ true
readable-con k n = ap (λ g. g n) (fold-roll-Term (ℕ → Bool) term_step (Term-F.Con k))

readable-app : (f x : Term) (n : ℕ) → readable_term (apply f x) n ≡ (readable_term f n && readable_term x n)
readable-app f x n = ap (λ g. g n) (fold-roll-Term (ℕ → Bool) term_step (Term-F.App f x))

abbrev IsReadable : Term → Type 0
IsReadable t = (n : ℕ) → IsTrue (lambda_free t) → IsTrue (var_free t) → IsTrue (closed_under t n) → IsTrue (readable_term t n)

app_readable : (f x : Term) → IsReadable f → IsReadable x → IsReadable (apply f x)
app_readable f x hf hx n l v c =
    let ls = both_true (lambda_free f) (lambda_free x) (sym (fold-roll-Term Bool lambda_free_step (Term-F.App f x)) ∙ l) in
    let vs = both_true (var_free f) (var_free x) (sym (var_free-app f x) ∙ v) in
    let cs = both_true (closed_under f n) (closed_under x n) (sym (closed-app f x n) ∙ c) in
    readable-app f x n ∙ and_true (readable_term f n) (readable_term x n) (hf n ls.0 vs.0 cs.0) (hx n ls.1 vs.1 cs.1)

term_is_readable : (t : Term) → IsReadable t
term_is_readable =
    by_cases IsReadable (λ i n l v c. readable-bound i n ∙ sym (closed-bound i n) ∙ c) (λ m a n l v c. let none : false ≡ true = sym (var_free-free m a) ∙ v in cc) (λ k n l v c. readable-con k n) app_readable
    (λ a b hb n l v c. let none : false ≡ true = sym (fold-roll-Term Bool lambda_free_step (Term-F.Lam a b)) ∙ l in cc)

-- ---- the sides of an equation
abbrev Sides : Term → Type 0
Sides t = (n : ℕ) (e : Term × Term) → sides t ≡ Some e → IsTrue (readable_term t n) → IsTrue (readable_term e.0 n && readable_term e.1 n)

no_some : {X : Type 0} (x : X) → None ≡ Some x → ⊥
no_some x h = cc

same_some : {X : Type 0} (x y : X) → Some x ≡ Some y → x ≡ y
same_some x y h = cc

by_type : (b : Bool) (s u : Term) (e : Term × Term) → (if b then None else Some (s, u)) ≡ Some e → (s ≡ e.0) × (u ≡ e.1)
by_type true s u e h = absurd (no_some e h)
by_type false s u e h = let both : (s, u) ≡ e = same_some (s, u) e h in (λ i. (both i).0, λ i. (both i).1)

at_konst : (k : Konst) (s u : Term) (e : Term × Term) → sides_of_konst k s u ≡ Some e → (s ≡ e.0) × (u ≡ e.1)
at_konst (konst.Eq a) s u e h = by_type (is_ty a bool_ty) s u e h
at_konst (konst.Named n) s u e h = absurd (no_some e h)
at_konst (konst.Aux n) s u e h = absurd (no_some e h)
at_konst konst.True s u e h = absurd (no_some e h)
at_konst konst.False s u e h = absurd (no_some e h)
at_konst konst.Not s u e h = absurd (no_some e h)
at_konst konst.And s u e h = absurd (no_some e h)
at_konst konst.Or s u e h = absurd (no_some e h)
at_konst konst.Imp s u e h = absurd (no_some e h)
at_konst (konst.All a) s u e h = absurd (no_some e h)
at_konst (konst.Ex a) s u e h = absurd (no_some e h)
at_konst (konst.Eps a) s u e h = absurd (no_some e h)

abbrev Head : Term → Type 0
Head f = (s u : Term) (e : Term × Term) → sides_of_head (out-Term f) s u ≡ Some e → (s ≡ e.0) × (u ≡ e.1)

none_head : (x : Term-F Term) → ((s u : Term) → sides_of_head x s u ≡ None) → Head (roll-Term x)
none_head x none s u e h = absurd (no_some e (sym (none s u) ∙ sym (ap (λ l. sides_of_head l s u) (out-roll-Term x)) ∙ h))

at_head : (f : Term) → Head f
at_head =
    by_cases Head (λ i. none_head (Term-F.Bound i) (λ s u. refl)) (λ n a. none_head (Term-F.Free n a) (λ s u. refl))
    (λ k s u e h. at_konst k s u e (sym (ap (λ l. sides_of_head l s u) (out-roll-Term (Term-F.Con k))) ∙ h))
    (λ f x hf hx. none_head (Term-F.App f x) (λ s u. refl)) (λ a b hb. none_head (Term-F.Lam a b) (λ s u. refl))

abbrev Function : Term → Type 0
Function f = (n : ℕ) (u : Term) (e : Term × Term) → sides_of_function (out-Term f) u ≡ Some e → IsTrue (readable_term f n) → IsTrue (readable_term u n) → IsTrue (readable_term e.0 n && readable_term e.1 n)

none_function : (x : Term-F Term) → ((u : Term) → sides_of_function x u ≡ None) → Function (roll-Term x)
none_function x none n u e h rf ru = absurd (no_some e (sym (none u) ∙ sym (ap (λ l. sides_of_function l u) (out-roll-Term x)) ∙ h))

applied_function : (f s : Term) → Function (apply f s)
applied_function f s n u e h rf ru =
    let same = at_head f s u e (sym (ap (λ l. sides_of_function l u) (out-roll-Term (Term-F.App f s))) ∙ h) in
    let parts = both_true (readable_term f n) (readable_term s n) (sym (readable-app f s n) ∙ rf) in
    and_true (readable_term e.0 n) (readable_term e.1 n) (subst (λ z. IsTrue (readable_term z n)) same.0 parts.1) (subst (λ z. IsTrue (readable_term z n)) same.1 ru)

at_function : (f : Term) → Function f
at_function =
    by_cases Function (λ i. none_function (Term-F.Bound i) (λ u. refl)) (λ n a. none_function (Term-F.Free n a) (λ u. refl)) (λ k. none_function (Term-F.Con k) (λ u. refl))
    (λ f x hf hx. applied_function f x) (λ a b hb. none_function (Term-F.Lam a b) (λ u. refl))

none_sides : (x : Term-F Term) → sides_at x ≡ None → Sides (roll-Term x)
none_sides x none n e h r = absurd (no_some e (sym none ∙ sym (ap sides_at (out-roll-Term x)) ∙ h))

sides_readable : (t : Term) → Sides t
sides_readable =
    by_cases Sides (λ i. none_sides (Term-F.Bound i) refl) (λ n a. none_sides (Term-F.Free n a) refl) (λ k. none_sides (Term-F.Con k) refl)
    (λ f x hf hx n e h r.
    let parts = both_true (readable_term f n) (readable_term x n) (sym (readable-app f x n) ∙ r) in
    at_function f n x e (sym (ap sides_at (out-roll-Term (Term-F.App f x))) ∙ h) parts.0 parts.1) (λ a b hb. none_sides (Term-F.Lam a b) refl)

atom_by : (o : Option (Term × Term)) (t : Term) (n : ℕ) → sides t ≡ o → IsTrue (readable_term t n) → IsTrue (atom_readable o t n)
atom_by None t n h r = r
atom_by (Some e) t n h r = sides_readable t n e h r

-- ---- formulas
abbrev Ready : Formula → Type 0
Ready f = (n : ℕ) → IsRead f → IsTrue (atoms_plain f) → IsTrue (var_free (term_of f)) → IsTrue (closed_under (term_of f) n) → IsTrue (readable f n)

readable_is : (x : Formula-F Formula) (n : ℕ) (b : Bool) → formula_step (map-Formula Formula (ℕ → Bool) readable x) n ≡ b → readable (roll-Formula x) n ≡ b
readable_is x n b h = ap (λ g. g n) (fold-roll-Formula (ℕ → Bool) formula_step x) ∙ h

atom_ready : (t : Term) → Ready (roll-Formula (Formula-F.Atom t))
atom_ready t n read plain free closed =
    let same = term-atom t in
    readable_is (Formula-F.Atom t) n true
    (atom_by (sides t) t n refl (term_is_readable t n (sym (plain-atom t) ∙ plain) (subst (λ z. IsTrue (var_free z)) same free) (subst (λ z. IsTrue (closed_under z n)) same closed)))

not_ready : (a : Formula) → Ready a → Ready (roll-Formula (Formula-F.Not a))
not_ready a h n read plain free closed =
    let same = term-not a in
    let not : Term = constant konst.Not in
    let frees = both_true (var_free not) (var_free (term_of a)) (sym (var_free-app not (term_of a)) ∙ sym (ap var_free same) ∙ free) in
    let closes = both_true (closed_under not n) (closed_under (term_of a) n) (sym (closed-app not (term_of a) n) ∙ sym (ap (λ z. closed_under z n) same) ∙ closed) in
    readable_is (Formula-F.Not a) n true (h n (not_read a read) (sym (plain-not a) ∙ plain) frees.1 closes.1)

two_ready : (j : Junction) (a b : Formula) → Ready a → Ready b → Ready (roll-Formula (Formula-F.Two j a b))
two_ready j a b ha hb n read plain free closed =
    let k : Term = constant (junction_konst j) in
    let s = term_of a in
    let t = term_of b in
    let same = term-two j a b ∙ junction_is j s t in
    let plains = both_true (atoms_plain a) (atoms_plain b) (sym (plain-two j a b) ∙ plain) in
    let frees = both_true (var_free (apply k s)) (var_free t) (sym (var_free-app (apply k s) t) ∙ sym (ap var_free same) ∙ free) in
    let first = both_true (var_free k) (var_free s) (sym (var_free-app k s) ∙ frees.0) in
    let closes = both_true (closed_under (apply k s) n) (closed_under t n) (sym (closed-app (apply k s) t n) ∙ sym (ap (λ z. closed_under z n) same) ∙ closed) in
    let left = both_true (closed_under k n) (closed_under s n) (sym (closed-app k s n) ∙ closes.0) in
    let reads = two_read j a b read in
    readable_is (Formula-F.Two j a b) n true (and_true (readable a n) (readable b n) (ha n reads.0 plains.0 first.1 left.1) (hb n reads.1 plains.1 frees.1 closes.1))

quantified_ready : (q : Quantifier) (a : Ty) (t : Term) (b : Formula) → Ready b → Ready (roll-Formula (Formula-F.Quantified q a t b))
quantified_ready q a t b h n read plain free closed =
    let k : Term = constant (quantifier_konst q a) in
    let same = term-quantified q a t b ∙ quantifier_is q a (lambda a t) in
    let frees = both_true (var_free k) (var_free (lambda a t)) (sym (var_free-app k (lambda a t)) ∙ sym (ap var_free same) ∙ free) in
    let closes = both_true (closed_under k n) (closed_under (lambda a t) n) (sym (closed-app k (lambda a t) n) ∙ sym (ap (λ z. closed_under z n) same) ∙ closed) in
    let body = body_read t b (quantified_read q a t b read) in
    let next : n + 1 ≡ suc n = omega arith in
    let inner : IsTrue (closed_under (term_of b) (suc n)) = ap (λ m. closed_under (term_of b) m) (sym next) ∙ ap (λ z. closed_under z (n + 1)) body.1 ∙ sym (closed-lam a t n) ∙ closes.1 in
    readable_is (Formula-F.Quantified q a t b) n true
    (h (suc n) body.0 (sym (plain-quantified q a t b) ∙ plain) (ap var_free body.1 ∙ sym (var_free-lam a t) ∙ frees.1) inner)

all_ready : (f : Formula) → Ready f
all_ready =
    formula_by_cases Ready (λ n read plain free closed. readable_is Formula-F.True n true refl) (λ n read plain free closed. readable_is Formula-F.False n true refl) atom_ready not_ready two_ready quantified_ready

-- a lifted formula with its equations
pub whole_readable : (sig : Sig) (old : List Aux) (t : Term) (goal : Bool) → Stands sig old t → IsTrue (readable (formula_of (whole goal (lifted sig old t))) 0)
whole_readable sig old t goal stands =
    let w = whole goal (lifted sig old t) in
    let over = whole_over sig old t goal stands in
    let back = reads_back w in
    all_ready (formula_of w) 0 (ap formula_of (sym back)) (whole_plain sig old t goal stands) (subst (λ z. IsTrue (var_free z)) (sym back) over.without_free) (subst (λ z. IsTrue (closed_under z 0)) (sym back) over.closed)
