use Rattle.std.proofs.Common.{take, subst}
use Rattle.std.proofs.lemmas.List.{take_all}
use Rattle.hyp_sets.specs.Sets.{only}
use Rattle.hol_clausify.specs.inner.Parts.{part_of, whole_of}
use Rattle.hol_clausify.specs.inner.Refuting.{EachLands}
use Rattle.hol_clausify.proofs.Refuted.{start, none_landed, false_at, false_stays, each_next, at_place, at_itself}
use Rattle.hol_clausify.proofs.Ready.{ready_stays}
use Rattle.hol_clausify.proofs.each.refute_from_each.Goals as goal

pub loop-th-init : goal.loop-th-init
loop-th-init c = start c.args.log.now _ (none_landed c.args.log.now (part_of c.args.part) (only (whole_of c.args.part)) c.args.out.now)

pub refute_from-requires-clause-ready : goal.refute_from-requires-clause-ready
refute_from-requires-clause-ready c = ready_stays c.args.log.now c.loop-th.log c.loop-th.invariant.kept c.args.part c.requires.ready

pub refute_from-requires-clause-refuted : goal.refute_from-requires-clause-refuted
refute_from-requires-clause-refuted c =
    let rs = c.args.thms.now in
    let i = c.loop-th.th-index in
    false_stays c.args.log.now c.loop-th.log (at_place rs i).0 c.loop-th.invariant.kept (false_at c.args.log.now rs i (at_place rs i) c.requires.refuted c.loop-th-test.true (at_itself rs i c.loop-th-test.true))

pub loop-th-preserved : goal.loop-th-preserved
loop-th-preserved c =
    let rs = c.args.thms.now in
    let i = c.loop-th.th-index in
    each_next c.args.log.now c.loop-th.log c.refute_from.new.log (part_of c.args.part) (only (whole_of c.args.part)) rs i (at_place rs i) c.in_ok-whole.whole c.args.out.now c.loop-th.out c.push.new.self c.loop-th-test.true
    (at_itself rs i c.loop-th-test.true) c.in_ok-push.ensures.ok c.refute_from.ensures.kept c.refute_from.ensures.facts c.in_ok-whole.ensures.gives c.loop-th.invariant

pub returns-clause-gives : goal.returns-clause-gives
returns-clause-gives c =
    subst (λ zs. EachLands c.args.log.now c.loop-th.log (part_of c.args.part) zs (only (whole_of c.args.part)) c.args.out.now c.loop-th.out) (take_all c.loop-th.th-index c.args.thms.now c.loop-th-test.false) c.loop-th.invariant.lands
