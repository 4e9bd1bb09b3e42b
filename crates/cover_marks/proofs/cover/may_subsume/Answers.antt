use Rattle.std.proofs.Common.{◌≡◌, ◌≤◌, ◌↔◌, Bool, IsTrue, List, ℕ, length, All, Any, sym, ap, subst, ◌∙◌, arith}
use Rattle.cover_marks.specs.Cover.{IsWithin, MayCover}
use Rattle.cover_marks.proofs.Covering.{marks_tell}
use Rattle.cover_marks.proofs.Unions.{covered_union}
use Rattle.cover_marks.proofs.cover.may_subsume.Goals as goal

-- words that are no more than others
decided : (p q left right : List ℕ) (b : Bool) → left ≡ p → right ≡ q → length p ≤ length q → (IsTrue b ↔ All (λ m. Any (IsWithin m) right) left) → IsTrue b ↔ MayCover p q
decided p q left right b is it fewer told =
    let same : IsTrue b ↔ All (λ m. Any (IsWithin m) q) p = subst (λ words. IsTrue b ↔ All (λ m. Any (IsWithin m) q) words) is (subst (λ words. IsTrue b ↔ All (λ m. Any (IsWithin m) words) left) it told) in
    (λ h. (fewer, same.0 h), λ h. same.1 h.1)

exact : (c : goal.After-are_within_some) → IsTrue c.are_within_some.result ↔ MayCover c.args.p.now c.args.q.now
exact c =
    let left = c.len.ensures ∙ ap length c.p.view_is in
    let right = c.len-2.ensures ∙ ap length c.q.view_is in
    let fewer : length c.args.p.now ≤ length c.args.q.now = (let less = c.if-len.true in omega arith) in
    decided c.args.p.now c.args.q.now c.as_slice.result.now c.as_slice-then-len.result.now c.are_within_some.result
    (c.as_slice.ensures ∙ c.p.view_is) (c.as_slice-then-len.ensures ∙ c.q.view_is) fewer c.are_within_some.ensures

pub returns-then-len-clause-exact : goal.returns-then-len-clause-exact
returns-then-len-clause-exact c = exact c

pub returns-then-len-clause-law : goal.returns-then-len-clause-law
returns-then-len-clause-law c = λ p q is it h. (exact c).1 (marks_tell c.args.p.now c.args.q.now p q is it h)

-- the marks together tell already
apart : (c : goal.Then-p-q) → MayCover c.args.p.now c.args.q.now → ⊥
apart c covers =
    c.if-p-q.true (covered_union c.p.inside.words c.q.inside.words c.p.inside.all c.q.inside.all c.p.invariant c.q.invariant
    (subst (λ w. MayCover w c.q.inside.words) (sym c.p.view_is) (subst (MayCover c.args.p.now) (sym c.q.view_is) covers)))

pub returns-then-p-q-clause-exact : goal.returns-then-p-q-clause-exact
returns-then-p-q-clause-exact c = (λ h. cc, λ covers. absurd (apart c covers))

pub returns-then-p-q-clause-law : goal.returns-then-p-q-clause-law
returns-then-p-q-clause-law c = λ p q is it h. absurd (apart c (marks_tell c.args.p.now c.args.q.now p q is it h))
