use Rattle.std.proofs.Common.{take, subst}
use Rattle.std.proofs.lemmas.List.{take_all}
use Rattle.hyp_sets.specs.Sets.{only}
use Rattle.hol_derived.proofs.Splits.{formula_stays}
use Rattle.hol_clausify.specs.inner.Parts.{first_of, second_of, whole_of_both}
use Rattle.hol_clausify.specs.inner.Refuting.{EachWithEach}
use Rattle.hol_clausify.proofs.Refuted.{start, none_each, false_at, false_stays, all_false_stay, each_with_next, at_place, at_itself}
use Rattle.hol_clausify.proofs.each.refute_from_each_with_each.Goals as goal

pub loop-left-init : goal.loop-left-init
loop-left-init c = start c.args.log.now _ (none_each c.args.log.now (first_of c.args.pair c.args.a.now) (second_of c.args.pair c.args.b.now) (only (whole_of_both c.args.pair c.args.a.now c.args.b.now)) c.args.out.now c.args.rights.now)

pub refute_with_each-requires-clause-a : goal.refute_with_each-requires-clause-a
refute_with_each-requires-clause-a c = formula_stays c.args.log.now c.loop-left.log c.args.a.now c.loop-left.invariant.kept c.requires.a

pub refute_with_each-requires-clause-b : goal.refute_with_each-requires-clause-b
refute_with_each-requires-clause-b c = formula_stays c.args.log.now c.loop-left.log c.args.b.now c.loop-left.invariant.kept c.requires.b

pub refute_with_each-requires-clause-whole : goal.refute_with_each-requires-clause-whole
refute_with_each-requires-clause-whole c = formula_stays c.args.log.now c.loop-left.log (whole_of_both c.args.pair c.args.a.now c.args.b.now) c.loop-left.invariant.kept c.requires.whole

pub refute_with_each-requires-clause-left : goal.refute_with_each-requires-clause-left
refute_with_each-requires-clause-left c =
    let rs = c.args.lefts.now in
    let i = c.loop-left.left-index in
    false_stays c.args.log.now c.loop-left.log (at_place rs i).0 c.loop-left.invariant.kept (false_at c.args.log.now rs i (at_place rs i) c.requires.lefts c.loop-left-test.true (at_itself rs i c.loop-left-test.true))

pub refute_with_each-requires-clause-rights : goal.refute_with_each-requires-clause-rights
refute_with_each-requires-clause-rights c = all_false_stay c.args.log.now c.loop-left.log c.args.rights.now c.loop-left.invariant.kept c.requires.rights

pub loop-left-preserved : goal.loop-left-preserved
loop-left-preserved c =
    let rs = c.args.lefts.now in
    let i = c.loop-left.left-index in
    each_with_next c.args.log.now c.loop-left.log c.refute_with_each.new.log (first_of c.args.pair c.args.a.now) (second_of c.args.pair c.args.b.now) (only (whole_of_both c.args.pair c.args.a.now c.args.b.now)) rs c.args.rights.now i (at_place rs i)
    c.args.out.now c.loop-left.out c.refute_with_each.new.out c.loop-left-test.true (at_itself rs i c.loop-left-test.true) c.refute_with_each.ensures.kept c.refute_with_each.ensures.facts c.in_ok-refute_with_each.ensures.gives
    c.loop-left.invariant

pub returns-clause-gives : goal.returns-clause-gives
returns-clause-gives c =
    subst (λ zs. EachWithEach c.args.log.now c.loop-left.log (first_of c.args.pair c.args.a.now) zs (second_of c.args.pair c.args.b.now) c.args.rights.now (only (whole_of_both c.args.pair c.args.a.now c.args.b.now)) c.args.out.now c.loop-left.out)
    (take_all c.loop-left.left-index c.args.lefts.now c.loop-left-test.false) c.loop-left.invariant.lands
