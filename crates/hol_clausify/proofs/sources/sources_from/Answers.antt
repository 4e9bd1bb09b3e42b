use Rattle.std.proofs.Common.{◌≡◌, sym, ap, subst, ◌∙◌, ◌++◌}
use Rattle.hyp_sets.specs.Sets.{only}
use Rattle.hol_kernel.specs.Logs.{thm}
use Rattle.hol_clausify.specs.inner.Lifted.{AreMade, whole_placed}
use Rattle.hol_clausify.specs.inner.Refuting.{AllFalse, AllRefuted, paired}
use Rattle.hol_clausify.specs.Shown.{shown}
use Rattle.hol_clausify.proofs.Refuted.{all_false}
use Rattle.hol_clausify.proofs.Sourced.{cut_made}
use Rattle.hol_clausify.proofs.sources.sources_from.Goals as goal

pub cut_from_each-requires-clause-refuted : goal.cut_from_each-requires-clause-refuted
cut_from_each-requires-clause-refuted c =
    subst (AllFalse c.refute_lifted.new.log) (sym c.as_slice.ensures)
    (all_false c.refute_lifted.new.log (only (whole_placed c.args.goal c.args.made.now c.args.table.now)) (shown c.args.table.now c.args.made.now.clauses) c.in_ok-refutations.refutations
    c.in_ok-refutations.ensures.gives)

pub returns-clause-gives : goal.returns-clause-gives
returns-clause-gives c =
    let mid = c.refute_lifted.new.log in
    let same : thm mid c.args.whole.0 ≡ thm c.args.log.now c.args.whole.0 = c.refute_lifted.ensures.kept.earlier c.args.whole.0 c.requires.whole in
    let cut = subst (λ t. AllRefuted mid (only t) (shown c.args.table.now c.args.made.now.clauses) c.in_ok-refutations.refutations) (sym (ap (λ q. q.concl) same ∙ c.requires.is)) c.in_ok-refutations.ensures.gives in
    subst (λ q. AreMade c.cut_from_each.new.log q.hyps c.args.made.now c.args.table.now c.put_paired.new.out) same
    (cut_made mid c.cut_from_each.new.log (thm mid c.args.whole.0).concl (thm mid c.args.whole.0).hyps c.args.made.now c.args.table.now c.in_ok-refutations.refutations c.as_slice.result.now c.begin-thms.result
    c.cut_from_each.new.out c.put_paired.new.out c.as_slice.ensures c.begin-thms.ensures c.in_ok-cut_from_each.ensures.gives cut
    (c.in_ok-put_paired.ensures ∙ (λ i. c.begin-out.ensures i ++ paired (c.as_slice-2.ensures i) (c.as_slice-3.ensures i))))
