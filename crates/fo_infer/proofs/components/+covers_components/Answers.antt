use Rattle.std.proofs.Common.{◌↔◌, ◌<◌, ◌≤◌, ◌-◌, ◌++◌, ◌∷◌, [], IsTrue, drop, length, ap, subst, ◌∙◌, arith, length-drop}
use Rattle.std.proofs.lemmas.List.{take_all}
use Rattle.fo_unify.specs.Shown.{as_binds}
use Rattle.fo_unify.proofs.Closing.{drop_read}
use Rattle.fo_infer.specs.inner.Covering.{Covers}
use Rattle.fo_infer.specs.inner.Components.{literals, Splits, Sendable}
use Rattle.fo_infer.proofs.Parting.{component_not, component_then, nothing_to_send}
use Rattle.fo_infer.proofs.components.+covers_components.Goals as goal

pub returns-then-rest-eq0 : goal.returns-then-rest-eq0
returns-then-rest-eq0 t c = nothing_to_send c.args.d.now c.args.rest.now c.if-rest-eq0.true

pub returns-then-not-branch : goal.returns-then-not-branch
returns-then-not-branch t c =
    let some : 0 < length c.args.rest.now = omega arith in
    let first = c.index-rest-0.result in
    let p = literals c.grow.new.part in
    let q = literals c.in_ok-others.others in
    let whole = ap literals (drop_read c.args.rest.now 0 first some c.index-rest-0.is) in
    let start = ap literals (c.in_ok-push.ensures.ok ∙ ap (λ w. w ++ first ∷ []) c.begin-part.ensures) in
    let long : length (drop 1 c.args.rest.now) ≤ length c.args.rest.now - 1 = (let size = length-drop 1 c.args.rest.now in omega arith) in
    let tail = take_all (length c.args.rest.now - 1) (drop 1 c.args.rest.now) long in
    let splits = subst (λ a. Splits a (literals (drop 1 c.args.rest.now)) p q) start (subst (λ r. Splits (literals c.push.new.self) (literals r) p q) tail c.in_ok-others.ensures.splits) in
    let covers = subst (λ ls. Covers (as_binds c.begin-binds.result) c.args.d.now (literals ls) c.in_ok-covers.field-0) c.as_slice.ensures c.in_ok-covers.ensures.covers in
    component_not c.args.d.now (literals c.args.rest.now) p q first.literal.now (literals (drop 1 c.args.rest.now)) whole splits
    (subst (Covers [] c.args.d.now p) c.if-not-branch.true (subst (λ bs. Covers (as_binds bs) c.args.d.now p c.in_ok-covers.field-0) c.begin-binds.ensures covers))

pub returns : goal.returns
returns t c =
    let some : 0 < length c.args.rest.now = omega arith in
    let first = c.index-rest-0.result in
    let p = literals c.grow.new.part in
    let q = literals c.in_ok-others.others in
    let whole = ap literals (drop_read c.args.rest.now 0 first some c.index-rest-0.is) in
    let start = ap literals (c.in_ok-push.ensures.ok ∙ ap (λ w. w ++ first ∷ []) c.begin-part.ensures) in
    let long : length (drop 1 c.args.rest.now) ≤ length c.args.rest.now - 1 = (let size = length-drop 1 c.args.rest.now in omega arith) in
    let tail = take_all (length c.args.rest.now - 1) (drop 1 c.args.rest.now) long in
    let splits = subst (λ a. Splits a (literals (drop 1 c.args.rest.now)) p q) start (subst (λ r. Splits (literals c.push.new.self) (literals r) p q) tail c.in_ok-others.ensures.splits) in
    let covers = subst (λ ls. Covers (as_binds c.begin-binds.result) c.args.d.now (literals ls) c.in_ok-covers.field-0) c.as_slice.ensures c.in_ok-covers.ensures.covers in
    component_then c.args.d.now (literals c.args.rest.now) p q first.literal.now (literals (drop 1 c.args.rest.now)) whole splits c.in_ok-others.ensures.apart
    (subst (Covers [] c.args.d.now p) c.if-not-branch.false (subst (λ bs. Covers (as_binds bs) c.args.d.now p c.in_ok-covers.field-0) c.begin-binds.ensures covers))
    c.in_ok-made.made (subst (λ r. IsTrue c.in_ok-made.made ↔ Sendable c.args.d.now (literals r)) c.as_slice-2.ensures c.in_ok-made.ensures)
