-- The two walks agree at each kind of formula but quantifiers.
use Rattle.std.proofs.Common.{◌≡◌, Bool, true, false, not, IsTrue, List, [], length, ap, subst, refl, sym, ◌∙◌}
use Rattle.std.proofs.lemmas.List.{append-nil}
use Rattle.hol_terms.specs.declared.ty.Ty.{Ty}
use Rattle.hol_terms.specs.declared.konst.Konst.TheVariants as konst
use Rattle.hol_terms.specs.declared.term.Term.{Term}
use Rattle.hol_terms.specs.Substitution.{closed_under}
use Rattle.hol_terms.specs.Formulas.{var_free}
use Rattle.hol_terms.proofs.Both.{both_true}
use Rattle.hol_terms.proofs.Equations.{closed-app, var_free-app}
use Rattle.kernel_rules.specs.Connectives.{apply, constant, left_of, right_of}
use Rattle.kernel_rules.proofs.Parts.{right_of-apply, left_of-two}
use Rattle.lambda_lift.specs.declared.table.Aux.{Aux}
use Rattle.lambda_lift.specs.Standing.{aux_below}
use Rattle.hol_formulas.specs.declared.formula.Junction.{Junction}
use Rattle.hol_formulas.specs.declared.formula.Formula.{Formula, roll-Formula}
use Rattle.hol_formulas.specs.declared.formula.Formula.TheOpen.{Formula-F}
use Rattle.hol_formulas.specs.declared.formula.Formula.TheFolds.{fold-roll-Formula}
use Rattle.formula_clauses.specs.Choices.{put_in}
use Rattle.formula_clauses.specs.Walks.{Clauses, Progress, Pass, walked, leaf, truth, literal, junction_pass}
use Rattle.hol_clausify.specs.Places.{term_of}
use Rattle.hol_clausify.specs.Refutations.{refuted, refuted_step}
use Rattle.hol_clausify.specs.Refutations.{Pass as KernelPass, Walk as KernelWalk, leaf as leaf_refuted, junction_pass as junction_refuted}
use Rattle.hol_clausify.specs.Shown.{shown, Stands, Fits}
use Rattle.hol_clausify.proofs.Growing.{at-true, at-false, at-atom, at-not, at-two}
use Rattle.hol_clausify.proofs.Reading.{junction_is, junction_konst, term-not, term-two, term-atom}
use Rattle.hol_clausify.proofs.Parts.{not_read, two_read}
use Rattle.hol_clausify.proofs.Expanding.{below-app}
use Rattle.hol_clausify.proofs.Shadows.{Agrees, Good, here, two_here, not_here, refuted-not, refuted-two, junction_agrees}

-- ---- leaves
leaf_agrees : (types : List Ty) (e : List Term) (cs : Clauses) (p : Progress) (y : List Aux → KernelPass) → Stands types p e → ((table : List Aux) → y table ≡ leaf_refuted (shown table cs)) → Agrees types e (leaf cs) y p
leaf_agrees types e cs p y st is =
    record { more = []; stands = subst (λ ts. Stands ts p e) (sym (append-nil types)) st; shows = λ table g closed. ap (λ (f : KernelPass). f p.next) (is table) }

truth_shown : (table : List Aux) (s : Bool) → shown table (truth s) ≡ truth s
truth_shown table true = refl
truth_shown table false = refl

refuted-true : (s : Bool) (t : Term) → refuted (roll-Formula Formula-F.True) s t ≡ leaf_refuted (truth s)
unfolding refuted
refuted-true s t = ap (λ (g : KernelWalk). g s t) (fold-roll-Formula KernelWalk refuted_step Formula-F.True)

refuted-false : (s : Bool) (t : Term) → refuted (roll-Formula Formula-F.False) s t ≡ leaf_refuted (truth (not s))
unfolding refuted
refuted-false s t = ap (λ (g : KernelWalk). g s t) (fold-roll-Formula KernelWalk refuted_step Formula-F.False)

refuted-atom : (u : Term) (s : Bool) (t : Term) → refuted (roll-Formula (Formula-F.Atom u)) s t ≡ leaf_refuted (literal s t)
unfolding refuted
refuted-atom u s t = ap (λ (g : KernelWalk). g s t) (fold-roll-Formula KernelWalk refuted_step (Formula-F.Atom u))

pub moved : (types : List Ty) (e : List Term) (x z : Pass) (y w : List Aux → KernelPass) (p : Progress) → x ≡ z → ((table : List Aux) → y table ≡ w table) → Agrees types e z w p → Agrees types e x y p
moved types e x z y w p f g a = subst (λ (q : Pass). Agrees types e q y p) (sym f) (subst (λ (v : List Aux → KernelPass). Agrees types e z v p) (λ i table. sym (g table) i) a)

pub good_true : Good (roll-Formula Formula-F.True)
good_true s e types p r st ft =
    let f = roll-Formula Formula-F.True in
    moved types e (walked f s e) (leaf (truth s)) (λ table. refuted f s (here table e (term_of f))) (λ table. leaf_refuted (truth s)) p (at-true s e)
    (λ table. refuted-true s (here table e (term_of f))) (leaf_agrees types e (truth s) p (λ table. leaf_refuted (truth s)) st (λ table. ap leaf_refuted (sym (truth_shown table s))))

pub good_false : Good (roll-Formula Formula-F.False)
good_false s e types p r st ft =
    let f = roll-Formula Formula-F.False in
    moved types e (walked f s e) (leaf (truth (not s))) (λ table. refuted f s (here table e (term_of f))) (λ table. leaf_refuted (truth (not s))) p (at-false s e)
    (λ table. refuted-false s (here table e (term_of f))) (leaf_agrees types e (truth (not s)) p (λ table. leaf_refuted (truth (not s))) st (λ table. ap leaf_refuted (sym (truth_shown table (not s)))))

pub good_atom : (t : Term) → Good (roll-Formula (Formula-F.Atom t))
good_atom t s e types p r st ft =
    let f = roll-Formula (Formula-F.Atom t) in
    moved types e (walked f s e) (leaf (literal s (put_in e t 0))) (λ table. refuted f s (here table e (term_of f))) (λ table. leaf_refuted (literal s (here table e t))) p (at-atom t s e)
    (λ table. refuted-atom t s (here table e (term_of f)) ∙ ap (λ u. leaf_refuted (literal s (here table e u))) (term-atom t))
    (leaf_agrees types e (literal s (put_in e t 0)) p (λ table. leaf_refuted (literal s (here table e t))) st (λ table. refl))

-- ---- parts that fit
pub apart : (p : Progress) (e : List Term) (f x : Term) → Fits p e (apply f x) → Fits p e f × Fits p e x
apart p e f x h =
    let n = length e in
    let m = length p.table in
    let closed = both_true (closed_under f n) (closed_under x n) (subst IsTrue (closed-app f x n) h.closed) in
    let known = both_true (aux_below m f) (aux_below m x) (subst IsTrue (below-app m f x) h.known) in
    let bare = both_true (var_free f) (var_free x) (subst IsTrue (var_free-app f x) h.bare) in
    (record { closed = closed.0; known = known.0; bare = bare.0 }, record { closed = closed.1; known = known.1; bare = bare.1 })

pub good_not : (a : Formula) → Good a → Good (roll-Formula (Formula-F.Not a))
good_not a ga s e types p r st ft =
    let f = roll-Formula (Formula-F.Not a) in
    let ta = term_of a in
    let fits = apart p e (constant konst.Not) ta (subst (Fits p e) (term-not a) ft) in
    moved types e (walked f s e) (walked a (not s) e) (λ table. refuted f s (here table e (term_of f))) (λ table. refuted a (not s) (here table e ta)) p (at-not a s e)
    (λ table.
    refuted-not a s (here table e (term_of f))
    ∙ ap (refuted a (not s)) (ap right_of (ap (here table e) (term-not a) ∙ not_here table e ta) ∙ right_of-apply (constant konst.Not) (here table e ta)))
    (ga (not s) e types p (not_read a r) st fits.1)

pub good_two : (j : Junction) (a b : Formula) → Good a → Good b → Good (roll-Formula (Formula-F.Two j a b))
good_two j a b ga gb s e types p r st ft =
    let f = roll-Formula (Formula-F.Two j a b) in
    let ta = term_of a in
    let tb = term_of b in
    let k = constant (junction_konst j) in
    let reads = two_read j a b r in
    let outer = apart p e (apply k ta) tb (subst (Fits p e) (term-two j a b ∙ junction_is j ta tb) ft) in
    let inner = apart p e k ta outer.0 in
    let parts = λ (table : List Aux). ap (here table e) (term-two j a b) ∙ two_here table e j ta tb in
    moved types e (walked f s e) (junction_pass j (walked a) (walked b) s e) (λ table. refuted f s (here table e (term_of f)))
    (λ table. junction_refuted j (refuted a) (refuted b) s (here table e ta) (here table e tb)) p (at-two j a b s e)
    (λ table.
    refuted-two j a b s (here table e (term_of f))
    ∙ (λ i. junction_refuted j (refuted a) (refuted b) s
    ((ap left_of (parts table) ∙ left_of-two k (here table e ta) (here table e tb)) i)
    ((ap right_of (parts table) ∙ right_of-apply (apply k (here table e ta)) (here table e tb)) i)))
    (junction_agrees a b ga gb reads.0 reads.1 e j s types p st inner.1 outer.1)
