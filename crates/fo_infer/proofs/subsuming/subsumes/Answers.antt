use Rattle.std.proofs.Common.{◌≡◌, ◌≤◌, ◌↔◌, ◌∙◌, IsTrue, None, [], ◌∷◌, length, subst, arith}
use Rattle.fo_infer.specs.inner.Components.{literals, Sought_in, SameSends, Sendable}
use Rattle.fo_infer.proofs.Parting.{subsumes_not, subsumes_when, only_one, same_sends}
use Rattle.fo_infer.proofs.subsuming.subsumes.Goals as goal

pub returns-in-None : goal.returns-in-None
returns-in-None c =
    subsumes_not c.args.c.now c.args.d.now
    (subst (λ ds. Sought_in c.args.c.now.literals ds None) c.as_slice-3.ensures (subst (λ ls. Sought_in ls c.as_slice-3.result.now None) c.as_slice-2.ensures
    (subst (Sought_in c.as_slice-2.result.now c.as_slice-3.result.now) c.in-None.is c.in_ok-seek.ensures)))

pub returns-in_ok-made-in-Some : goal.returns-in_ok-made-in-Some
returns-in_ok-made-in-Some c =
    let fewer : length c.args.c.now.literals ≤ length c.args.d.now.literals = omega arith in
    let found : literals c.in-Some.found ≡ c.args.c.now.literals = subst (Sought_in c.as_slice-2.result.now c.as_slice-3.result.now) c.in-Some.is c.in_ok-seek.ensures ∙ c.as_slice-2.ensures in
    let ordered = literals c.in_ok-ordered-in-Some.ordered in
    let made = c.in_ok-made-in-Some.made in
    subsumes_when c.args.c.now c.args.d.now ordered made fewer (subst (λ ls. SameSends ls ordered) found c.in_ok-ordered-in-Some.ensures)
    (subst (λ ds. IsTrue made ↔ Sendable ds ordered) c.as_slice-in-Some-2.ensures (subst (λ os. IsTrue made ↔ Sendable c.as_slice-in-Some-2.result.now (literals os)) c.as_slice-in-Some.ensures c.in_ok-made-in-Some.ensures))

pub returns-then-len-eq1 : goal.returns-then-len-eq1
returns-then-len-eq1 c =
    let fewer : length c.args.c.now.literals ≤ length c.args.d.now.literals = omega arith in
    let long : length c.args.c.now.literals ≡ 1 = omega arith in
    let l = c.at.result.now in
    let made = c.in_ok-made.made in
    subsumes_when c.args.c.now c.args.d.now (l ∷ []) made fewer (same_sends c.args.c.now.literals (l ∷ []) (only_one c.args.c.now.literals l long c.at.ensures))
    (subst (λ ds. IsTrue made ↔ Sendable ds (l ∷ [])) c.as_slice.ensures c.in_ok-made.ensures)
