use Rattle.std.proofs.Common.{◌∙◌, ◌∷◌, sym, ap, subst, not, true, false, refl}
use Rattle.std.specs.Prelude.{Ok, Err}
use Rattle.formula_clauses.specs.Walks.{walked, opened}
use Rattle.formula_clauses.specs.inner.Scopes.{scope_terms}
use Rattle.formula_clauses.specs.inner.Measures.{progress, Measured, Opens, first_sign}
use Rattle.formula_clauses.proofs.WalkSteps.{at_true, at_false, at_atom, at_not, at_quantified}
use Rattle.formula_clauses.proofs.Scoped.{scope_under}
use Rattle.formula_clauses.proofs.Passes.{told, measured_is, fault_is, first_stops, second_ends, third_stops, fourth_stops, last_ends, iff_is, opening_stops, inside_ends, on_part, leaf_ends, two_is, iff_two}
use Rattle.formula_clauses.proofs.measuring.+measure.Goals as goal

pub returns-in-True : goal.returns-in-True
returns-in-True t c =
    let e = scope_terms c.args.scope.now in
    let p = progress c.args.next c.args.table.now in
    leaf_ends c.args.f.now c.args.positive e p _ (at_true c.args.positive e p c.args.f.now c.in-True.is)

pub returns-in-False : goal.returns-in-False
returns-in-False t c =
    let e = scope_terms c.args.scope.now in
    let p = progress c.args.next c.args.table.now in
    leaf_ends c.args.f.now c.args.positive e p _ (at_false c.args.positive e p c.args.f.now c.in-False.is)

pub returns-in-Atom : goal.returns-in-Atom
returns-in-Atom t c =
    let e = scope_terms c.args.scope.now in
    let p = progress c.args.next c.args.table.now in
    leaf_ends c.args.f.now c.args.positive e p _ (at_atom c.args.positive e p c.args.f.now c.in-Atom.field-0 c.in-Atom.is)

pub returns-in-Not : goal.returns-in-Not
returns-in-Not t c =
    let e = scope_terms c.args.scope.now in
    let p = progress c.args.next c.args.table.now in
    measured_is _ _ c.measure.result c.measure.new.table (at_not c.args.positive e p c.args.f.now c.in-Not.a c.in-Not.is)
    (on_part c.get.result.now c.in-Not.a (not c.args.positive) (not c.args.positive) e p c.measure.result c.measure.new.table c.get.ensures refl c.measure.ensures)

pub returns-in_err-second-in-Two : goal.returns-in_err-second-in-Two
returns-in_err-second-in-Two t c =
    let s = c.args.positive in
    let e = scope_terms c.args.scope.now in
    let p = progress c.args.next c.args.table.now in
    let j = c.in-Two.junction in
    let a = c.in-Two.a in
    let b = c.in-Two.b in
    let x = c.in_err-second-in-Two.field-0.0 in
    fault_is (walked c.args.f.now s e p) c.from_residual.result x c.measure-in-Two.new.table c.measure-in-Two.new.table
    (told c.from_residual.result x c.from_residual.ensures.0 c.from_residual.ensures.1)
    (two_is c.args.f.now s e p j a b c.in-Two.is (Err x) c.measure-in-Two.new.table
    (first_stops (walked a) (walked b) s e p j x c.measure-in-Two.new.table
    (on_part c.get-in-Two.result.now a c.first_sign-first.result (first_sign j s) e p (Err x) c.measure-in-Two.new.table c.get-in-Two.ensures c.first_sign-first.ensures c.in_err-second-in-Two.ensures)))

pub returns-then-not-is_iff : goal.returns-then-not-is_iff
returns-then-not-is_iff t c =
    let s = c.args.positive in
    let e = scope_terms c.args.scope.now in
    let p = progress c.args.next c.args.table.now in
    let j = c.in-Two.junction in
    let a = c.in-Two.a in
    let b = c.in-Two.b in
    let r = c.measure-then-not-is_iff.result in
    let n = c.in_ok-second-in-Two.second in
    let t1 = c.measure-in-Two.new.table in
    let t2 = c.measure-then-not-is_iff.new.table in
    two_is c.args.f.now s e p j a b c.in-Two.is r t2
    (second_ends (walked a) (walked b) s e p j n t1 r t2 (sym c.if-not-is_iff.ensures)
    (on_part c.get-in-Two.result.now a c.first_sign-first.result (first_sign j s) e p (Ok n) t1 c.get-in-Two.ensures c.first_sign-first.ensures c.in_ok-second-in-Two.ensures)
    (on_part _ b s s e (progress n t1) r t2 c.get-then-not-is_iff.ensures refl c.measure-then-not-is_iff.ensures))

pub returns-in_err-third-in-Two : goal.returns-in_err-third-in-Two
returns-in_err-third-in-Two t c =
    let s = c.args.positive in
    let e = scope_terms c.args.scope.now in
    let p = progress c.args.next c.args.table.now in
    let j = c.in-Two.junction in
    let a = c.in-Two.a in
    let b = c.in-Two.b in
    let same = iff_is j (sym c.if-not-is_iff.ensures) in
    let n1 = c.in_ok-second-in-Two.second in
    let t1 = c.measure-in-Two.new.table in
    let t2 = c.measure-in-Two-2.new.table in
    let x = c.in_err-third-in-Two.field-0.0 in
    fault_is (walked c.args.f.now s e p) c.from_residual-in_err-third-in-Two.result x t2 t2
    (told c.from_residual-in_err-third-in-Two.result x c.from_residual-in_err-third-in-Two.ensures.0 c.from_residual-in_err-third-in-Two.ensures.1)
    (iff_two c.args.f.now s e p j a b c.in-Two.is (Err x) t2 same
    (third_stops (walked a) (walked b) s e p n1 t1
    (on_part c.get-in-Two.result.now a c.first_sign-first.result (not s) e p (Ok n1) t1 c.get-in-Two.ensures (c.first_sign-first.ensures ∙ ap (λ k. first_sign k s) same) c.in_ok-second-in-Two.ensures)
    x t2
    (on_part _ b true true e (progress n1 t1) (Err x) t2 c.get-in-Two-2.ensures refl c.in_err-third-in-Two.ensures)))

pub returns-in_err-fourth-in-Two : goal.returns-in_err-fourth-in-Two
returns-in_err-fourth-in-Two t c =
    let s = c.args.positive in
    let e = scope_terms c.args.scope.now in
    let p = progress c.args.next c.args.table.now in
    let j = c.in-Two.junction in
    let a = c.in-Two.a in
    let b = c.in-Two.b in
    let same = iff_is j (sym c.if-not-is_iff.ensures) in
    let n1 = c.in_ok-second-in-Two.second in
    let n2 = c.in_ok-third-in-Two.third in
    let t1 = c.measure-in-Two.new.table in
    let t2 = c.measure-in-Two-2.new.table in
    let t3 = c.measure-in-Two-3.new.table in
    let x = c.in_err-fourth-in-Two.field-0.0 in
    fault_is (walked c.args.f.now s e p) c.from_residual-in_err-fourth-in-Two.result x t3 t3
    (told c.from_residual-in_err-fourth-in-Two.result x c.from_residual-in_err-fourth-in-Two.ensures.0 c.from_residual-in_err-fourth-in-Two.ensures.1)
    (iff_two c.args.f.now s e p j a b c.in-Two.is (Err x) t3 same
    (fourth_stops (walked a) (walked b) s e p n1 t1
    (on_part c.get-in-Two.result.now a c.first_sign-first.result (not s) e p (Ok n1) t1 c.get-in-Two.ensures (c.first_sign-first.ensures ∙ ap (λ k. first_sign k s) same) c.in_ok-second-in-Two.ensures)
    n2 t2 (on_part _ b true true e (progress n1 t1) (Ok n2) t2 c.get-in-Two-2.ensures refl c.in_ok-third-in-Two.ensures)
    x t3
    (on_part _ a s s e (progress n2 t2) (Err x) t3 c.get-in-Two-3.ensures refl c.in_err-fourth-in-Two.ensures)))

pub returns-in_ok-fourth-in-Two : goal.returns-in_ok-fourth-in-Two
returns-in_ok-fourth-in-Two t c =
    let s = c.args.positive in
    let e = scope_terms c.args.scope.now in
    let p = progress c.args.next c.args.table.now in
    let j = c.in-Two.junction in
    let a = c.in-Two.a in
    let b = c.in-Two.b in
    let same = iff_is j (sym c.if-not-is_iff.ensures) in
    let n1 = c.in_ok-second-in-Two.second in
    let n2 = c.in_ok-third-in-Two.third in
    let n3 = c.in_ok-fourth-in-Two.fourth in
    let t1 = c.measure-in-Two.new.table in
    let t2 = c.measure-in-Two-2.new.table in
    let t3 = c.measure-in-Two-3.new.table in
    let t4 = c.measure-in-Two-4.new.table in
    let r = c.measure-in-Two-4.result in
    iff_two c.args.f.now s e p j a b c.in-Two.is r t4 same
    (last_ends (walked a) (walked b) s e p n1 t1
    (on_part c.get-in-Two.result.now a c.first_sign-first.result (not s) e p (Ok n1) t1 c.get-in-Two.ensures (c.first_sign-first.ensures ∙ ap (λ k. first_sign k s) same) c.in_ok-second-in-Two.ensures)
    n2 t2 (on_part _ b true true e (progress n1 t1) (Ok n2) t2 c.get-in-Two-2.ensures refl c.in_ok-third-in-Two.ensures)
    n3 t3 r t4
    (on_part _ a s s e (progress n2 t2) (Ok n3) t3 c.get-in-Two-3.ensures refl c.in_ok-fourth-in-Two.ensures)
    (on_part _ b false false e (progress n3 t3) r t4 c.get-in-Two-4.ensures refl c.measure-in-Two-4.ensures))

pub returns-in_err-opened-in-Quantified : goal.returns-in_err-opened-in-Quantified
returns-in_err-opened-in-Quantified t c =
    let s = c.args.positive in
    let e = scope_terms c.args.scope.now in
    let p = progress c.args.next c.args.table.now in
    let q = c.in-Quantified.q in
    let a = c.in-Quantified.ty in
    let b = c.in-Quantified.inner in
    let x = c.in_err-opened-in-Quantified.field-0.0 in
    let t1 = c.open_small.new.table in
    fault_is (walked c.args.f.now s e p) c.from_residual-in_err-opened-in-Quantified.result x t1 t1
    (told c.from_residual-in_err-opened-in-Quantified.result x c.from_residual-in_err-opened-in-Quantified.ensures.0 c.from_residual-in_err-opened-in-Quantified.ensures.1)
    (measured_is _ _ (Err x) t1 (at_quantified s e p c.args.f.now q a c.in-Quantified.body b c.in-Quantified.is)
    (opening_stops q a c.in-Quantified.body (walked b) s e p x t1
    (subst (λ u. Opens (opened q a u s e p) (Err x) t1) c.get-in-Quantified.ensures c.in_err-opened-in-Quantified.ensures)))

pub returns-in_ok-opened-in-Quantified : goal.returns-in_ok-opened-in-Quantified
returns-in_ok-opened-in-Quantified t c =
    let s = c.args.positive in
    let e = scope_terms c.args.scope.now in
    let p = progress c.args.next c.args.table.now in
    let q = c.in-Quantified.q in
    let a = c.in-Quantified.ty in
    let b = c.in-Quantified.inner in
    let o = c.in_ok-opened-in-Quantified.opened in
    let t1 = c.open_small.new.table in
    let t2 = c.measure-in-Quantified.new.table in
    let r = c.measure-in-Quantified.result in
    let inner = on_part c.get-in-Quantified-3.result.now b s s (c.get-in-Quantified-2.result.now ∷ e) (progress o.next t1) r t2 c.get-in-Quantified-3.ensures refl (simp scope_under at c.measure-in-Quantified.ensures) in
    measured_is _ _ r t2 (at_quantified s e p c.args.f.now q a c.in-Quantified.body b c.in-Quantified.is)
    (inside_ends q a c.in-Quantified.body (walked b) s e p o t1 r t2
    (subst (λ u. Opens (opened q a u s e p) (Ok o) t1) c.get-in-Quantified.ensures c.in_ok-opened-in-Quantified.ensures)
    (subst (λ v. Measured (walked b s (v ∷ e) (progress o.next t1)) r t2) c.get-in-Quantified-2.ensures inner))
