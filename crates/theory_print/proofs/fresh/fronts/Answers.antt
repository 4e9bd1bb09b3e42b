use Rattle.std.proofs.Common.{ap, subst, ◌∙◌, arith, take_all}
use Rattle.theory_print.specs.Names.{front_of}
use Rattle.theory_print.proofs.FirstFree.{In, OnlyFronts, only_more, none_in}
use Rattle.theory_print.proofs.Fronts.{AllHeld, held_none, held_more}
use Rattle.theory_print.proofs.fresh.fronts.Goals as goal

pub loop-decl-init : goal.loop-decl-init
loop-decl-init c = (held_none c.begin-set.result, λ name h. absurd (none_in name (subst (In name) c.begin-set.ensures h)))

pub loop-decl-preserved : goal.loop-decl-preserved
loop-decl-preserved c =
    let front = c.front.ensures ∙ ap front_of c.as_slice.ensures in (
      held_more c.args.consts.now c.loop-decl.decl-index c.decl-item.result c.loop-decl.set c.hold.new.set c.front.result.now c.loop-decl-test.true c.decl-item.is front c.loop-decl.invariant.0 c.in_ok-hold.ensures,
      only_more c.args.consts.now c.loop-decl.decl-index c.decl-item.result c.loop-decl.set c.hold.new.set c.front.result.now c.loop-decl-test.true c.decl-item.is front c.loop-decl.invariant.1 c.in_ok-hold.ensures.2,
    )

pub returns-clause-all : goal.returns-clause-all
returns-clause-all c = subst (AllHeld c.loop-decl.set) (take_all c.loop-decl.decl-index c.args.consts.now (omega (arith, c.loop-decl-test.false))) c.loop-decl.invariant.0

pub returns-clause-only : goal.returns-clause-only
returns-clause-only c = subst (OnlyFronts c.loop-decl.set) (take_all c.loop-decl.decl-index c.args.consts.now (omega (arith, c.loop-decl-test.false))) c.loop-decl.invariant.1
