use Rattle.std.proofs.Common.{sym, ap, subst}
use Rattle.hol_terms.specs.Types.{bool_ty}
use Rattle.hol_terms.proofs.Formulas.{formula_typed, formula_aux_free}
use Rattle.hol_kernel.specs.Conditions.{IsGiven}
use Rattle.hol_derived.proofs.ContextLaws.{given_from}
use Rattle.hol_kernel.proofs.Growing.{extends_trans, thm_stays}
use Rattle.hol_derived.proofs.Splits.{formula_stays}
use Rattle.hol_refutations.proofs.Steps.{stays_false}
use Rattle.logic_tests.proofs.refutations.refuted_quantifiers.Goals as goal

pub atom-requires : goal.atom-requires
atom-requires c = record { a = c.requires.body }

pub quantifiers_are_told-requires-clause-every : goal.quantifiers_are_told-requires-clause-every
quantifiers_are_told-requires-clause-every c = formula_stays _ _ _ c.atom.ensures.kept c.requires.every

pub quantifiers_are_told-requires-clause-each : goal.quantifiers_are_told-requires-clause-each
quantifiers_are_told-requires-clause-each c = formula_stays _ _ _ c.atom.ensures.kept c.requires.each

pub quantifiers_are_told-requires-clause-some : goal.quantifiers_are_told-requires-clause-some
quantifiers_are_told-requires-clause-some c = formula_stays _ _ _ c.atom.ensures.kept c.requires.some

pub quantifiers_are_told-requires-clause-value : goal.quantifiers_are_told-requires-clause-value
quantifiers_are_told-requires-clause-value c = subst (IsGiven c.atom.new.log.env.sig c.args.u.now) (sym c.requires.ty) (given_from c.atom.new.log.env.sig c.args.u.now bool_ty (formula_typed c.atom.new.log.env.sig c.args.u.now (formula_stays _ _ c.args.u.now c.atom.ensures.kept c.requires.value)) (formula_aux_free c.atom.new.log.env.sig c.args.u.now (formula_stays _ _ c.args.u.now c.atom.ensures.kept c.requires.value)))

pub quantifiers_are_told-requires-clause-th : goal.quantifiers_are_told-requires-clause-th
quantifiers_are_told-requires-clause-th c = c.in_ok-clash.ensures.gives.is_thm

pub quantifiers_are_told-requires-clause-th_false : goal.quantifiers_are_told-requires-clause-th_false
quantifiers_are_told-requires-clause-th_false c = ap (λ q. q.concl) c.in_ok-clash.ensures.gives.is

pub holding_is_told-requires-clause-some : goal.holding_is_told-requires-clause-some
holding_is_told-requires-clause-some c = formula_stays _ _ _ (extends_trans _ _ _ c.atom.ensures.kept c.quantifiers_are_told.ensures.kept) c.requires.some

pub holding_is_told-requires-clause-th : goal.holding_is_told-requires-clause-th
holding_is_told-requires-clause-th c = thm_stays _ _ _ c.quantifiers_are_told.ensures.kept c.in_ok-clash.ensures.gives.is_thm

pub holding_is_told-requires-clause-th_false : goal.holding_is_told-requires-clause-th_false
holding_is_told-requires-clause-th_false c =
    stays_false _ _ c.in_ok-clash.clash.0 c.quantifiers_are_told.ensures.kept c.in_ok-clash.ensures.gives.is_thm (ap (λ q. q.concl) c.in_ok-clash.ensures.gives.is)

pub failing_is_told-requires-clause-each : goal.failing_is_told-requires-clause-each
failing_is_told-requires-clause-each c =
    formula_stays _ _ _ (extends_trans _ _ _ c.atom.ensures.kept (extends_trans _ _ _ c.quantifiers_are_told.ensures.kept c.holding_is_told.ensures.kept)) c.requires.each

pub failing_is_told-requires-clause-th : goal.failing_is_told-requires-clause-th
failing_is_told-requires-clause-th c = thm_stays _ _ _ (extends_trans _ _ _ c.quantifiers_are_told.ensures.kept c.holding_is_told.ensures.kept) c.in_ok-clash.ensures.gives.is_thm

pub failing_is_told-requires-clause-th_false : goal.failing_is_told-requires-clause-th_false
failing_is_told-requires-clause-th_false c =
    stays_false _ _ c.in_ok-clash.clash.0 (extends_trans _ _ _ c.quantifiers_are_told.ensures.kept c.holding_is_told.ensures.kept) c.in_ok-clash.ensures.gives.is_thm
    (ap (λ q. q.concl) c.in_ok-clash.ensures.gives.is)
