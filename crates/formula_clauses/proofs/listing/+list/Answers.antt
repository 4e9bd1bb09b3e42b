use Rattle.std.proofs.Common.{◌∙◌, ◌∷◌, sym, ap, subst, not, true, false, refl, if◌then◌else◌}
use Rattle.std.proofs.lemmas.Result.{IfOk-weaker}
use Rattle.hol_formulas.specs.declared.formula.Junction.TheVariants as junctions
use Rattle.formula_clauses.specs.Choices.{put_in}
use Rattle.formula_clauses.specs.Walks.{truth, literal, joined, appended, junction_pass, walked, opened}
use Rattle.formula_clauses.specs.inner.Scopes.{scope_terms}
use Rattle.formula_clauses.specs.inner.Measures.{progress, first_sign, IsOpened}
use Rattle.formula_clauses.specs.inner.Lists.{Lists}
use Rattle.formula_clauses.proofs.WalkSteps.{at_true, at_false, at_atom, at_not, at_two, at_quantified}
use Rattle.formula_clauses.proofs.Scoped.{scope_under}
use Rattle.formula_clauses.proofs.Passes.{iff_is}
use Rattle.formula_clauses.proofs.Listings.{lists_is, leaf_lists, list_part, second_lists, iff_lists, inside_lists}
use Rattle.formula_clauses.proofs.listing.+list.Goals as goal

pub returns-in-True : goal.returns-in-True
returns-in-True t c =
    let s = c.args.positive in
    let e = scope_terms c.args.scope.now in
    let n = c.args.next in
    let t0 = c.args.table.now in
    IfOk-weaker c.truth_listed.result _ _ (λ r h. leaf_lists (walked c.args.f.now s e (progress n t0)) (truth s) n t0 r (at_true s e (progress n t0) c.args.f.now c.in-True.is) h) c.truth_listed.ensures

pub returns-in-False : goal.returns-in-False
returns-in-False t c =
    let s = c.args.positive in
    let e = scope_terms c.args.scope.now in
    let n = c.args.next in
    let t0 = c.args.table.now in
    IfOk-weaker c.truth_listed-in-False.result _ _
    (λ r h. leaf_lists (walked c.args.f.now s e (progress n t0)) (truth (not s)) n t0 r (at_false s e (progress n t0) c.args.f.now c.in-False.is) h)
    c.truth_listed-in-False.ensures

pub returns-in-Atom : goal.returns-in-Atom
returns-in-Atom t c =
    let s = c.args.positive in
    let e = scope_terms c.args.scope.now in
    let n = c.args.next in
    let t0 = c.args.table.now in
    IfOk-weaker c.unit_listed.result _ _
    (λ r h.
    leaf_lists (walked c.args.f.now s e (progress n t0)) (literal s (put_in e c.in-Atom.t 0)) n t0 r (at_atom s e (progress n t0) c.args.f.now c.in-Atom.t c.in-Atom.is) h)
    c.unit_listed.ensures

pub returns-in-Not : goal.returns-in-Not
returns-in-Not t c =
    let s = c.args.positive in
    let e = scope_terms c.args.scope.now in
    let p = progress c.args.next c.args.table.now in
    IfOk-weaker c.list.result _ _
    (λ r h.
    lists_is (walked c.args.f.now s e p) (walked c.in-Not.a (not s) e p) r c.list.new.table (at_not s e p c.args.f.now c.in-Not.a c.in-Not.is)
    (list_part c.get.result.now c.in-Not.a (not s) (not s) e p r c.list.new.table c.get.ensures refl h))
    c.list.ensures

pub returns-then-not-is_iff : goal.returns-then-not-is_iff
returns-then-not-is_iff t c =
    let s = c.args.positive in
    let e = scope_terms c.args.scope.now in
    let p = progress c.args.next c.args.table.now in
    let j = c.in-Two.junction in
    let a = c.in-Two.a in
    let b = c.in-Two.b in
    let one = c.in_ok-left-in-Two.left in
    let two = c.in_ok-right-in-Two.right in
    let t1 = c.list-in-Two.new.table in
    let t2 = c.list-then-not-is_iff.new.table in
    IfOk-weaker c.both.result _ _
    (λ r is.
    lists_is (walked c.args.f.now s e p) (junction_pass j (walked a) (walked b) s e p) r t2 (at_two s e p c.args.f.now j a b c.in-Two.is)
    (second_lists (walked a) (walked b) e p one t1 two t2 r j s (sym c.if-not-is_iff.ensures)
    (list_part c.get-in-Two.result.now a c.first_sign-first.result (first_sign j s) e p one t1 c.get-in-Two.ensures c.first_sign-first.ensures c.in_ok-left-in-Two.ensures)
    (list_part c.get-then-not-is_iff.result.now b s s e (progress one.next t1) two t2 c.get-then-not-is_iff.ensures refl c.in_ok-right-in-Two.ensures)
    (is.0 ∙ ap (λ z. (if z then joined else appended) one.clauses two.clauses) c.is_product.ensures, is.1)))
    c.both.ensures

pub returns-in_ok-other-in-Two : goal.returns-in_ok-other-in-Two
returns-in_ok-other-in-Two t c =
    let s = c.args.positive in
    let e = scope_terms c.args.scope.now in
    let p = progress c.args.next c.args.table.now in
    let j = c.in-Two.junction in
    let a = c.in-Two.a in
    let b = c.in-Two.b in
    let same = iff_is j (sym c.if-not-is_iff.ensures) in
    let one = c.in_ok-left-in-Two.left in
    let two = c.in_ok-right-in-Two-2.right in
    let half = c.in_ok-half-in-Two.half in
    let three = c.in_ok-third-in-Two.third in
    let four = c.in_ok-fourth-in-Two.fourth in
    let other = c.in_ok-other-in-Two.other in
    let t1 = c.list-in-Two.new.table in
    let t2 = c.list-in-Two-2.new.table in
    let t3 = c.list-in-Two-3.new.table in
    let t4 = c.list-in-Two-4.new.table in
    IfOk-weaker c.both-in-Two-3.result _ _
    (λ r is.
    lists_is (walked c.args.f.now s e p) (junction_pass junctions.Iff (walked a) (walked b) s e p) r t4
    (at_two s e p c.args.f.now j a b c.in-Two.is ∙ ap (λ k. junction_pass k (walked a) (walked b) s e p) same)
    (iff_lists (walked a) (walked b) s e p one two half three four other r t1 t2 t3 t4
    (list_part c.get-in-Two.result.now a c.first_sign-first.result (not s) e p one t1 c.get-in-Two.ensures (c.first_sign-first.ensures ∙ ap (λ k. first_sign k s) same) c.in_ok-left-in-Two.ensures)
    (list_part c.get-in-Two-2.result.now b true true e (progress one.next t1) two t2 c.get-in-Two-2.ensures refl c.in_ok-right-in-Two-2.ensures)
    c.in_ok-half-in-Two.ensures
    (list_part c.get-in-Two-3.result.now a s s e (progress half.next t2) three t3 c.get-in-Two-3.ensures refl c.in_ok-third-in-Two.ensures)
    (list_part c.get-in-Two-4.result.now b false false e (progress three.next t3) four t4 c.get-in-Two-4.ensures refl c.in_ok-fourth-in-Two.ensures)
    c.in_ok-other-in-Two.ensures is))
    c.both-in-Two-3.ensures

pub returns-in_ok-opened-in-Quantified : goal.returns-in_ok-opened-in-Quantified
returns-in_ok-opened-in-Quantified t c =
    let s = c.args.positive in
    let e = scope_terms c.args.scope.now in
    let p = progress c.args.next c.args.table.now in
    let q = c.in-Quantified.q in
    let a = c.in-Quantified.ty in
    let b = c.in-Quantified.inner in
    let o = c.in_ok-opened-in-Quantified.opened in
    let t1 = c.open.new.table in
    let t2 = c.list-in-Quantified.new.table in
    IfOk-weaker c.list-in-Quantified.result _ _
    (λ r h.
    let inner = list_part c.get-in-Quantified-3.result.now b s s (c.get-in-Quantified-2.result.now ∷ e) (progress o.next t1) r t2 c.get-in-Quantified-3.ensures refl (simp scope_under at h) in
    lists_is _ _ r t2 (at_quantified s e p c.args.f.now q a c.in-Quantified.body b c.in-Quantified.is)
    (inside_lists q a c.in-Quantified.body (walked b) s e p o t1 r t2
    (subst (λ u. IsOpened (opened q a u s e p) o t1) c.get-in-Quantified.ensures c.in_ok-opened-in-Quantified.ensures)
    (subst (λ v. Lists (walked b s (v ∷ e) (progress o.next t1)) r t2) c.get-in-Quantified-2.ensures inner)))
    c.list-in-Quantified.ensures
