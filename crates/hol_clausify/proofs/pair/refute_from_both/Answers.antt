use Rattle.std.proofs.Common.{sym, subst}
use Rattle.std.specs.Prelude.{IfOk}
use Rattle.hyp_sets.specs.Sets.{only}
use Rattle.hol_terms.specs.Types.{bool_ty}
use Rattle.kernel_rules.specs.Connectives.{neg, conj, disj, imp, equal}
use Rattle.hol_clausify.specs.inner.Parts.{first_of, second_of, whole_of_both}
use Rattle.hol_clausify.specs.inner.Refuting.{BothLand}
use Rattle.hol_clausify.proofs.Landings.{lands_two, lands_both, lands_equal, lands_unequal}
use Rattle.hol_clausify.proofs.pair.refute_from_both.Goals as goal

pub returns-in-NotAnd-clause-gives : goal.returns-in-NotAnd-clause-gives
returns-in-NotAnd-clause-gives c =
    let a = c.args.a.now in
    let b = c.args.b.now in
    subst (λ p. IfOk c.not_and.result (λ r. BothLand c.args.log.now c.not_and.new.log (first_of p a) c.args.left.0 (second_of p b) c.args.right.0 (only (whole_of_both p a b)) r.0)) (sym c.in-NotAnd.is)
    (lands_both c.args.log.now c.not_and.new.log c.args.left.0 c.args.right.0 c.not_and.result (neg a) (neg b) (neg (conj a b)) c.not_and.ensures.gives)

pub returns-in-Or-clause-gives : goal.returns-in-Or-clause-gives
returns-in-Or-clause-gives c =
    let a = c.args.a.now in
    let b = c.args.b.now in
    subst (λ p. IfOk c.or_both.result (λ r. BothLand c.args.log.now c.or_both.new.log (first_of p a) c.args.left.0 (second_of p b) c.args.right.0 (only (whole_of_both p a b)) r.0)) (sym c.in-Or.is)
    (lands_two c.args.log.now c.or_both.new.log c.args.left.0 c.args.right.0 c.or_both.result a b (disj a b) c.or_both.ensures.gives)

pub returns-in-Implies-clause-gives : goal.returns-in-Implies-clause-gives
returns-in-Implies-clause-gives c =
    let a = c.args.a.now in
    let b = c.args.b.now in
    subst (λ p. IfOk c.implies.result (λ r. BothLand c.args.log.now c.implies.new.log (first_of p a) c.args.left.0 (second_of p b) c.args.right.0 (only (whole_of_both p a b)) r.0)) (sym c.in-Implies.is)
    (lands_two c.args.log.now c.implies.new.log c.args.left.0 c.args.right.0 c.implies.result (neg a) b (imp a b) c.implies.ensures.gives)

pub returns-in-EqualFirst-clause-gives : goal.returns-in-EqualFirst-clause-gives
returns-in-EqualFirst-clause-gives c =
    let a = c.args.a.now in
    let b = c.args.b.now in
    subst (λ p. IfOk c.equal_first.result (λ r. BothLand c.args.log.now c.equal_first.new.log (first_of p a) c.args.left.0 (second_of p b) c.args.right.0 (only (whole_of_both p a b)) r.0)) (sym c.in-EqualFirst.is)
    (lands_two c.args.log.now c.equal_first.new.log c.args.left.0 c.args.right.0 c.equal_first.result (neg a) b (equal bool_ty a b) c.equal_first.ensures.gives)

pub returns-in-EqualSecond-clause-gives : goal.returns-in-EqualSecond-clause-gives
returns-in-EqualSecond-clause-gives c =
    let a = c.args.a.now in
    let b = c.args.b.now in
    subst (λ p. IfOk c.equal_second.result (λ r. BothLand c.args.log.now c.equal_second.new.log (first_of p a) c.args.left.0 (second_of p b) c.args.right.0 (only (whole_of_both p a b)) r.0)) (sym c.in-EqualSecond.is)
    (lands_two c.args.log.now c.equal_second.new.log c.args.left.0 c.args.right.0 c.equal_second.result a (neg b) (equal bool_ty a b) c.equal_second.ensures.gives)

pub returns-in-NotEqualFirst-clause-gives : goal.returns-in-NotEqualFirst-clause-gives
returns-in-NotEqualFirst-clause-gives c =
    let a = c.args.a.now in
    let b = c.args.b.now in
    subst (λ p. IfOk c.not_equal.result (λ r. BothLand c.args.log.now c.not_equal.new.log (first_of p a) c.args.left.0 (second_of p b) c.args.right.0 (only (whole_of_both p a b)) r.0)) (sym c.in-NotEqualFirst.is)
    (lands_equal c.args.log.now c.not_equal.new.log c.args.left.0 c.args.right.0 c.not_equal.result a b (neg (equal bool_ty a b)) c.not_equal.ensures.gives)

pub returns-in-NotEqualSecond-clause-gives : goal.returns-in-NotEqualSecond-clause-gives
returns-in-NotEqualSecond-clause-gives c =
    let a = c.args.a.now in
    let b = c.args.b.now in
    subst (λ p. IfOk c.not_equal-in-NotEqualSecond.result (λ r. BothLand c.args.log.now c.not_equal-in-NotEqualSecond.new.log (first_of p a) c.args.left.0 (second_of p b) c.args.right.0 (only (whole_of_both p a b)) r.0)) (sym c.in-NotEqualSecond.is)
    (lands_unequal c.args.log.now c.not_equal-in-NotEqualSecond.new.log c.args.left.0 c.args.right.0 c.not_equal-in-NotEqualSecond.result a b (neg (equal bool_ty a b)) c.not_equal-in-NotEqualSecond.ensures.gives)
