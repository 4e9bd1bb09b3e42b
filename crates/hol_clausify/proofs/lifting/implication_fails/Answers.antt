use Rattle.std.proofs.Common.{sym, subst, ap, ◌∙◌}
use Rattle.std.specs.FinSet as set
use Rattle.hyp_sets.specs.Sets.{only}
use Rattle.kernel_rules.specs.Connectives.{apply, constant, imp, neg, right_of}
use Rattle.kernel_rules.specs.Rules.{seq}
use Rattle.kernel_rules.proofs.Parts.{right_of-apply}
use Rattle.hol_terms.specs.declared.konst.Konst.TheVariants as konst
use Rattle.hol_kernel.specs.Logs.{thm}
use Rattle.hol_kernel.proofs.Growing.{extends_trans}
use Rattle.hol_derived.proofs.Cuts.{gives_as}
use Rattle.hol_clausify.proofs.LiftedBodies.{denial_left, joined_none}
use Rattle.hol_clausify.proofs.lifting.implication_fails.Goals as goal

pub imp_elim-requires-clause-fits : goal.imp_elim-requires-clause-fits
imp_elim-requires-clause-fits c =
    let p = (thm c.args.log.now c.args.premises.0).concl in
    let b = c.args.body.now in
    let w = ap (λ q. q.concl) c.in_ok-supposed.ensures.gives.is ∙ c.requires.is in
    let same = ap (λ q. q.concl) (c.assume.ensures.kept.earlier c.args.premises.0 c.requires.premises) in
    w ∙ (λ i. imp (sym same i) (sym (ap right_of w ∙ right_of-apply (apply (constant konst.Imp) p) b) i))

pub not_elim-requires-clause-fits : goal.not_elim-requires-clause-fits
not_elim-requires-clause-fits c =
    let p = (thm c.args.log.now c.args.premises.0).concl in
    let b = c.args.body.now in
    let w = ap (λ q. q.concl) c.in_ok-supposed.ensures.gives.is ∙ c.requires.is in
    let kept = extends_trans _ _ _ c.assume.ensures.kept c.imp_elim.ensures.kept in
    let denied = ap (λ q. q.concl) (kept.earlier c.args.denied.0 c.requires.denied ∙ c.requires.denies) in
    denied ∙ ap neg (sym (ap (λ q. q.concl) c.in_ok-there.ensures.gives.is ∙ ap right_of w ∙ right_of-apply (apply (constant konst.Imp) p) b))

pub returns-in_err-clash-clause-kept : goal.returns-in_err-clash-clause-kept
returns-in_err-clash-clause-kept c = extends_trans _ _ _ c.assume.ensures.kept (extends_trans _ _ _ c.imp_elim.ensures.kept c.not_elim.ensures.kept)

pub returns-clause-kept : goal.returns-clause-kept
returns-clause-kept c = extends_trans _ _ _ c.assume.ensures.kept (extends_trans _ _ _ c.imp_elim.ensures.kept (extends_trans _ _ _ c.not_elim.ensures.kept c.not_intro.ensures.kept))

pub returns-clause-gives : goal.returns-clause-gives
returns-clause-gives c =
    let p = (thm c.args.log.now c.args.premises.0).concl in
    let f = c.args.formula.now in
    let w = c.args.whole.now in
    let kept = extends_trans _ _ _ c.assume.ensures.kept c.imp_elim.ensures.kept in
    let denied = ap (λ q. q.hyps) (kept.earlier c.args.denied.0 c.requires.denied ∙ c.requires.denies) in
    let supposed = ap (λ q. q.hyps) c.in_ok-supposed.ensures.gives.is in
    let premises = ap (λ q. q.hyps) (c.assume.ensures.kept.earlier c.args.premises.0 c.requires.premises) ∙ c.requires.premises_hold in
    let s = ap (λ q. q.hyps) c.in_ok-there.ensures.gives.is ∙ (λ i. set.union (supposed i) (premises i)) ∙ joined_none (only w) in
    gives_as c.not_intro.result c.not_intro.new.self _ _
    (ap (λ z. seq (set.remove z w) (neg w)) (ap (λ q. q.hyps) c.in_ok-clash.ensures.gives.is ∙ ap (λ z. set.union z (thm c.imp_elim.new.self c.in_ok-there.there.0).hyps) denied)
    ∙ ap (λ z. seq z (neg w)) (denial_left f p c.args.body.now w _ c.requires.is s)) c.not_intro.ensures.gives
