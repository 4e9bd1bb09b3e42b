use Rattle.std.proofs.Common.{take, subst}
use Rattle.std.proofs.lemmas.List.{take_all}
use Rattle.hyp_sets.specs.Sets.{only}
use Rattle.hol_derived.proofs.Splits.{formula_stays}
use Rattle.hol_clausify.specs.inner.Parts.{first_of, second_of, whole_of_both}
use Rattle.hol_clausify.specs.inner.Refuting.{WithEach}
use Rattle.hol_clausify.proofs.Refuted.{start, none_with, false_at, false_stays, with_next, at_place, at_itself}
use Rattle.hol_clausify.proofs.each.refute_with_each.Goals as goal

pub loop-right-init : goal.loop-right-init
loop-right-init c = start c.args.log.now _ (none_with c.args.log.now (first_of c.args.pair c.args.a.now) c.args.left.0 (second_of c.args.pair c.args.b.now) (only (whole_of_both c.args.pair c.args.a.now c.args.b.now)) c.args.out.now)

pub refute_from_both-requires-clause-a : goal.refute_from_both-requires-clause-a
refute_from_both-requires-clause-a c = formula_stays c.args.log.now c.loop-right.log c.args.a.now c.loop-right.invariant.kept c.requires.a

pub refute_from_both-requires-clause-b : goal.refute_from_both-requires-clause-b
refute_from_both-requires-clause-b c = formula_stays c.args.log.now c.loop-right.log c.args.b.now c.loop-right.invariant.kept c.requires.b

pub refute_from_both-requires-clause-whole : goal.refute_from_both-requires-clause-whole
refute_from_both-requires-clause-whole c = formula_stays c.args.log.now c.loop-right.log (whole_of_both c.args.pair c.args.a.now c.args.b.now) c.loop-right.invariant.kept c.requires.whole

pub refute_from_both-requires-clause-left : goal.refute_from_both-requires-clause-left
refute_from_both-requires-clause-left c = false_stays c.args.log.now c.loop-right.log c.args.left.0 c.loop-right.invariant.kept c.requires.left

pub refute_from_both-requires-clause-right : goal.refute_from_both-requires-clause-right
refute_from_both-requires-clause-right c =
    let rs = c.args.rights.now in
    let i = c.loop-right.right-index in
    false_stays c.args.log.now c.loop-right.log (at_place rs i).0 c.loop-right.invariant.kept (false_at c.args.log.now rs i (at_place rs i) c.requires.rights c.loop-right-test.true (at_itself rs i c.loop-right-test.true))

pub loop-right-preserved : goal.loop-right-preserved
loop-right-preserved c =
    let rs = c.args.rights.now in
    let i = c.loop-right.right-index in
    with_next c.args.log.now c.loop-right.log c.refute_from_both.new.log (first_of c.args.pair c.args.a.now) c.args.left.0 (second_of c.args.pair c.args.b.now) (only (whole_of_both c.args.pair c.args.a.now c.args.b.now)) rs i (at_place rs i) c.in_ok-whole.whole
    c.args.out.now c.loop-right.out c.push.new.self c.loop-right-test.true (at_itself rs i c.loop-right-test.true) c.in_ok-push.ensures.ok c.refute_from_both.ensures.kept c.refute_from_both.ensures.facts c.in_ok-whole.ensures.gives
    c.loop-right.invariant

pub returns-clause-gives : goal.returns-clause-gives
returns-clause-gives c =
    subst (λ zs. WithEach c.args.log.now c.loop-right.log (first_of c.args.pair c.args.a.now) c.args.left.0 (second_of c.args.pair c.args.b.now) zs (only (whole_of_both c.args.pair c.args.a.now c.args.b.now)) c.args.out.now c.loop-right.out)
    (take_all c.loop-right.right-index c.args.rights.now c.loop-right-test.false) c.loop-right.invariant.lands
