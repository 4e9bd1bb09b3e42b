use Rattle.std.proofs.Common.{refl, sym, subst, true, false, not, Bool}
use Rattle.std.specs.Prelude.{IfOk}
use Rattle.hyp_sets.specs.Sets.{only}
use Rattle.kernel_rules.specs.Connectives.{neg}
use Rattle.hol_kernel.proofs.Growing.{extends_refl}
use Rattle.formula_clauses.specs.Walks.{Clauses}
use Rattle.hol_clausify.specs.inner.Refuting.{placed, AllRefuted}
use Rattle.hol_clausify.proofs.refuting.refute_negation.Goals as goal

pub returns-then-positive-clause-kept : goal.returns-then-positive-clause-kept
returns-then-positive-clause-kept c = extends_refl c.args.log.now

pub returns-then-positive-clause-facts : goal.returns-then-positive-clause-facts
returns-then-positive-clause-facts c = refl

pub returns-then-positive-clause-next : goal.returns-then-positive-clause-next
returns-then-positive-clause-next c = refl

pub returns-then-positive-clause-gives : goal.returns-then-positive-clause-gives
returns-then-positive-clause-gives c =
    let log = c.args.log.now in
    let a = c.args.a.now in
    let rs = c.args.inner.thms in
    subst (λ s. (cs : Clauses) → AllRefuted log (only (placed (not s) a)) cs rs → AllRefuted log (only (placed s (neg a))) cs rs) (sym c.if-positive.true) (λ cs h. h)

pub refute_one-requires-clause-ready : goal.refute_one-requires-clause-ready
refute_one-requires-clause-ready c = c.requires.a

pub refute_one-requires-clause-refuted : goal.refute_one-requires-clause-refuted
refute_one-requires-clause-refuted c = c.requires.refuted

pub returns-clause-kept : goal.returns-clause-kept
returns-clause-kept c = c.refute_one.ensures.kept

pub returns-clause-facts : goal.returns-clause-facts
returns-clause-facts c = c.refute_one.ensures.facts

pub returns-clause-next : goal.returns-clause-next
returns-clause-next c = c.refute_one.ensures.next

pub returns-clause-gives : goal.returns-clause-gives
returns-clause-gives c =
    let old = c.args.log.now in
    let new = c.refute_one.new.log in
    let a = c.args.a.now in
    subst (λ s. IfOk c.refute_one.result (λ r. (cs : Clauses) → AllRefuted old (only (placed (not s) a)) cs c.args.inner.thms → AllRefuted new (only (placed s (neg a))) cs r.thms)) (sym c.if-positive.false) c.refute_one.ensures.gives
