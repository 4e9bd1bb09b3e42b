use Rattle.std.proofs.Common.{sym, subst, rules}
use Rattle.fo_unify.specs.declared.triangle.Found.TheVariants.{Done, Clash, Binds}
use Rattle.fo_unify.specs.Shown.{as_binds, shown}
use Rattle.fo_unify.specs.inner.Leads.{Leads}
use Rattle.fo_unify.proofs.Closing.{most_general}
use Rattle.fo_unify.proofs.Growing.{binds_push, grown_good, grown_keeps, grown_back}
use Rattle.fo_unify.proofs.RuleForm.{Reaches, reaches_start, reaches_end, reaches_push}
use Rattle.fo_unify.proofs.solving.solve.Goals as goal

pub returns-in-Clash : goal.returns-in-Clash
returns-in-Clash c =
    let leads = subst (Leads (as_binds c.as_slice.result.now) (shown c.solving.work) (shown c.next.new.work)) c.in-Clash.is c.in_ok-next.ensures in
    let here = subst (λ b. Leads (as_binds b) (shown c.solving.work) (shown c.next.new.work) Clash) c.as_slice.ensures leads in
    λ v u. (let known = c.solving.invariant.keeps v u in here v known.0 known.1)

pub returns-in-Done : goal.returns-in-Done
returns-in-Done c =
    let leads = subst (Leads (as_binds c.as_slice.result.now) (shown c.solving.work) (shown c.next.new.work)) c.in-Done.is c.in_ok-next.ensures in
    let here = subst (λ b. Leads (as_binds b) (shown c.solving.work) (shown c.next.new.work) Done) c.as_slice.ensures leads in
    let inv = c.solving.invariant in (
      most_general (shown c.args.work) (as_binds c.solving.binds) inv.good (λ v u. (inv.keeps v u).0) (λ v solves. inv.back v solves (here.0 v solves)),
      reaches_end (shown c.args.work) (shown c.solving.work) (as_binds c.solving.binds) inv.good inv.reaches here.1,
    )

pub solving-init : goal.solving-init
solving-init c = record {
  good = search rules;
  keeps = search rules;
  back = search rules;
  reaches = subst (λ bs. Reaches (shown c.args.work) (as_binds bs) (shown c.args.work)) (sym c.begin-binds.ensures) (reaches_start (shown c.args.work));
}

pub solving-preserved : goal.solving-preserved
solving-preserved c =
    let leads = subst (Leads (as_binds c.as_slice.result.now) (shown c.solving.work) (shown c.next.new.work)) c.in-Binds.is c.in_ok-next.ensures in
    let here = subst (λ b. Leads (as_binds b) (shown c.solving.work) (shown c.next.new.work) (Binds c.in-Binds.x c.in-Binds.term)) c.as_slice.ensures leads in
    let inv = c.solving.invariant in
    let start = shown c.args.work in
    let bs = as_binds c.solving.binds in
    let more = as_binds c.push.new.self in
    let pushed = binds_push c.solving.binds c.push.new.self (record { var = c.in-Binds.x; term = c.in-Binds.term }) c.in_ok-push-in-Binds.ensures.ok in
    record {
      good = grown_good start bs more (record { var = c.in-Binds.x; term = c.in-Binds.term.now }) (shown c.solving.work) (shown c.next.new.work) pushed here.0 inv.good inv.keeps inv.back;
      keeps = grown_keeps start bs more (record { var = c.in-Binds.x; term = c.in-Binds.term.now }) (shown c.solving.work) (shown c.next.new.work) pushed here.0 inv.good inv.keeps inv.back;
      back = grown_back start bs more (record { var = c.in-Binds.x; term = c.in-Binds.term.now }) (shown c.solving.work) (shown c.next.new.work) pushed here.0 inv.good inv.keeps inv.back;
      reaches = reaches_push start (shown c.solving.work) (shown c.next.new.work) bs more (record { var = c.in-Binds.x; term = c.in-Binds.term.now }) pushed inv.reaches here.1;
    }
