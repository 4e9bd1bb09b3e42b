use Rattle.std.proofs.Common.{take, subst}
use Rattle.std.proofs.lemmas.List.{take_all}
use Rattle.std.specs.Prelude.{Ok}
use Rattle.hol_kernel.specs.Logs.{thm}
use Rattle.hol_kernel.proofs.Growing.{thm_stays}
use Rattle.hol_clausify.specs.inner.Refuting.{Lands, EachLands}
use Rattle.hol_clausify.proofs.Landings.{lands_cut}
use Rattle.hol_clausify.proofs.Refuted.{start, none_landed, false_at, false_stays, each_next, at_place, at_itself}
use Rattle.hol_clausify.proofs.each.cut_from_each.Goals as goal

pub loop-th-init : goal.loop-th-init
loop-th-init c = start c.args.log.now _ (none_landed c.args.log.now (thm c.args.log.now c.args.part.0).concl (thm c.args.log.now c.args.part.0).hyps c.args.out.now)

pub cut-requires-clause-a : goal.cut-requires-clause-a
cut-requires-clause-a c = thm_stays c.args.log.now c.loop-th.log c.args.part.0 c.loop-th.invariant.kept c.requires.part

pub cut-requires-clause-c : goal.cut-requires-clause-c
cut-requires-clause-c c =
    let rs = c.args.thms.now in
    let i = c.loop-th.th-index in
    (false_stays c.args.log.now c.loop-th.log (at_place rs i).0 c.loop-th.invariant.kept (false_at c.args.log.now rs i (at_place rs i) c.requires.refuted c.loop-th-test.true (at_itself rs i c.loop-th-test.true))).is_thm

pub loop-th-preserved : goal.loop-th-preserved
loop-th-preserved c =
    let rs = c.args.thms.now in
    let i = c.loop-th.th-index in
    let q = c.loop-th.invariant.kept.earlier c.args.part.0 c.requires.part in
    let mid = c.loop-th.log in
    let new = c.cut.new.log in
    let is_false = false_stays c.args.log.now mid (at_place rs i).0 c.loop-th.invariant.kept (false_at c.args.log.now rs i (at_place rs i) c.requires.refuted c.loop-th-test.true (at_itself rs i c.loop-th-test.true)) in
    let lands : Lands mid new (thm c.args.log.now c.args.part.0).concl (at_place rs i).0 (thm c.args.log.now c.args.part.0).hyps c.in_ok-left.left.0 =
    subst (λ s. Lands mid new s.concl (at_place rs i).0 s.hyps c.in_ok-left.left.0) q (lands_cut {E = Unit {0}} mid new (at_place rs i).0 (Ok c.in_ok-left.left) c.args.part.0 is_false.concl c.in_ok-left.ensures.gives) in
    each_next c.args.log.now mid new (thm c.args.log.now c.args.part.0).concl (thm c.args.log.now c.args.part.0).hyps rs i (at_place rs i) c.in_ok-left.left c.args.out.now c.loop-th.out c.push.new.self c.loop-th-test.true
    (at_itself rs i c.loop-th-test.true) c.in_ok-push.ensures.ok c.cut.ensures.kept c.cut.ensures.facts lands c.loop-th.invariant

pub returns-clause-gives : goal.returns-clause-gives
returns-clause-gives c =
    subst (λ zs. EachLands c.args.log.now c.loop-th.log (thm c.args.log.now c.args.part.0).concl zs (thm c.args.log.now c.args.part.0).hyps c.args.out.now c.loop-th.out) (take_all c.loop-th.th-index c.args.thms.now c.loop-th-test.false)
    c.loop-th.invariant.lands
