use Rattle.kernel_rules.specs.Rules.{abs_of, all_elim_of, all_intro_of, and_intro_of, and_left_of, and_right_of, choose_of, classical_of, ex_intro_of, iff_of, imp_elim_of, imp_intro_of, inst_of, not_elim_of, not_intro_of, or_elim_of, or_left_of, or_right_of, subst_of}
use Rattle.kernel_rules.proofs.Premises.{at_step, no_answer, of_fact, no_fact, of_one, no_one, of_two, no_first, no_second, of_three, no_first_of_three, no_second_of_three, no_third, premise_closed}
use Rattle.kernel_rules.proofs.made.answer.Goals as goal

pub returns-in_ok-get-in-Fact : goal.returns-in_ok-get-in-Fact
returns-in_ok-get-in-Fact c = at_step c.fact.result c.args.env.now _ _ c.args.earlier.now c.in-Fact.is (of_fact c.fact.result _ c.in_ok-get-in-Fact.field-0.now c.in_ok-get-in-Fact.ensures.value c.fact.ensures)

pub returns-in_err-get-in-Fact : goal.returns-in_err-get-in-Fact
returns-in_err-get-in-Fact c = no_answer c.from_residual.result c.args.env.now _ _ c.args.earlier.now c.from_residual.ensures c.in-Fact.is (no_fact _ c.in_err-get-in-Fact.ensures.value)

pub returns-in-Assume : goal.returns-in-Assume
returns-in-Assume c = at_step c.assume.result c.args.env.now _ _ c.args.earlier.now c.in-Assume.is c.assume.ensures

pub returns-in_ok-at-in-ImpIntro : goal.returns-in_ok-at-in-ImpIntro
returns-in_ok-at-in-ImpIntro c = at_step c.imp_intro.result c.args.env.now _ _ c.args.earlier.now c.in-ImpIntro.is (of_one c.imp_intro.result _ c.in_ok-at-in-ImpIntro.field-0.now (imp_intro_of c.args.env.now.sig c.in-ImpIntro.t) c.in_ok-at-in-ImpIntro.ensures c.imp_intro.ensures)

pub returns-in_err-at-in-ImpIntro : goal.returns-in_err-at-in-ImpIntro
returns-in_err-at-in-ImpIntro c = no_answer c.from_residual-in_err-at-in-ImpIntro.result c.args.env.now _ _ c.args.earlier.now c.from_residual-in_err-at-in-ImpIntro.ensures c.in-ImpIntro.is (no_one _ (imp_intro_of c.args.env.now.sig c.in-ImpIntro.t) c.in_err-at-in-ImpIntro.ensures)

pub returns-in_ok-at-in-ImpElim-2 : goal.returns-in_ok-at-in-ImpElim-2
returns-in_ok-at-in-ImpElim-2 c = at_step c.imp_elim.result c.args.env.now _ _ c.args.earlier.now c.in-ImpElim.is (of_two c.imp_elim.result _ _ c.in_ok-at-in-ImpElim.field-0.now c.in_ok-at-in-ImpElim-2.field-0.now imp_elim_of c.in_ok-at-in-ImpElim.ensures c.in_ok-at-in-ImpElim-2.ensures c.imp_elim.ensures)

pub returns-in_err-at-in-ImpElim : goal.returns-in_err-at-in-ImpElim
returns-in_err-at-in-ImpElim c = no_answer c.from_residual-in_err-at-in-ImpElim.result c.args.env.now _ _ c.args.earlier.now c.from_residual-in_err-at-in-ImpElim.ensures c.in-ImpElim.is (no_first _ _ imp_elim_of c.in_err-at-in-ImpElim.ensures)

pub returns-in_err-at-in-ImpElim-2 : goal.returns-in_err-at-in-ImpElim-2
returns-in_err-at-in-ImpElim-2 c = no_answer c.from_residual-in_err-at-in-ImpElim-2.result c.args.env.now _ _ c.args.earlier.now c.from_residual-in_err-at-in-ImpElim-2.ensures c.in-ImpElim.is (no_second _ _ c.in_ok-at-in-ImpElim.field-0.now imp_elim_of c.in_ok-at-in-ImpElim.ensures c.in_err-at-in-ImpElim-2.ensures)

pub returns-in_ok-at-in-AndIntro-2 : goal.returns-in_ok-at-in-AndIntro-2
returns-in_ok-at-in-AndIntro-2 c = at_step c.and_intro.result c.args.env.now _ _ c.args.earlier.now c.in-AndIntro.is (of_two c.and_intro.result _ _ c.in_ok-at-in-AndIntro.field-0.now c.in_ok-at-in-AndIntro-2.field-0.now and_intro_of c.in_ok-at-in-AndIntro.ensures c.in_ok-at-in-AndIntro-2.ensures c.and_intro.ensures)

pub returns-in_err-at-in-AndIntro : goal.returns-in_err-at-in-AndIntro
returns-in_err-at-in-AndIntro c = no_answer c.from_residual-in_err-at-in-AndIntro.result c.args.env.now _ _ c.args.earlier.now c.from_residual-in_err-at-in-AndIntro.ensures c.in-AndIntro.is (no_first _ _ and_intro_of c.in_err-at-in-AndIntro.ensures)

pub returns-in_err-at-in-AndIntro-2 : goal.returns-in_err-at-in-AndIntro-2
returns-in_err-at-in-AndIntro-2 c = no_answer c.from_residual-in_err-at-in-AndIntro-2.result c.args.env.now _ _ c.args.earlier.now c.from_residual-in_err-at-in-AndIntro-2.ensures c.in-AndIntro.is (no_second _ _ c.in_ok-at-in-AndIntro.field-0.now and_intro_of c.in_ok-at-in-AndIntro.ensures c.in_err-at-in-AndIntro-2.ensures)

pub returns-in_ok-at-in-AndLeft : goal.returns-in_ok-at-in-AndLeft
returns-in_ok-at-in-AndLeft c = at_step c.and_left.result c.args.env.now _ _ c.args.earlier.now c.in-AndLeft.is (of_one c.and_left.result _ c.in_ok-at-in-AndLeft.field-0.now and_left_of c.in_ok-at-in-AndLeft.ensures c.and_left.ensures)

pub returns-in_err-at-in-AndLeft : goal.returns-in_err-at-in-AndLeft
returns-in_err-at-in-AndLeft c = no_answer c.from_residual-in_err-at-in-AndLeft.result c.args.env.now _ _ c.args.earlier.now c.from_residual-in_err-at-in-AndLeft.ensures c.in-AndLeft.is (no_one _ and_left_of c.in_err-at-in-AndLeft.ensures)

pub returns-in_ok-at-in-AndRight : goal.returns-in_ok-at-in-AndRight
returns-in_ok-at-in-AndRight c = at_step c.and_right.result c.args.env.now _ _ c.args.earlier.now c.in-AndRight.is (of_one c.and_right.result _ c.in_ok-at-in-AndRight.field-0.now and_right_of c.in_ok-at-in-AndRight.ensures c.and_right.ensures)

pub returns-in_err-at-in-AndRight : goal.returns-in_err-at-in-AndRight
returns-in_err-at-in-AndRight c = no_answer c.from_residual-in_err-at-in-AndRight.result c.args.env.now _ _ c.args.earlier.now c.from_residual-in_err-at-in-AndRight.ensures c.in-AndRight.is (no_one _ and_right_of c.in_err-at-in-AndRight.ensures)

pub returns-in_ok-at-in-OrLeft : goal.returns-in_ok-at-in-OrLeft
returns-in_ok-at-in-OrLeft c = at_step c.or_left.result c.args.env.now _ _ c.args.earlier.now c.in-OrLeft.is (of_one c.or_left.result _ c.in_ok-at-in-OrLeft.field-0.now (or_left_of c.args.env.now.sig c.in-OrLeft.t) c.in_ok-at-in-OrLeft.ensures c.or_left.ensures)

pub returns-in_err-at-in-OrLeft : goal.returns-in_err-at-in-OrLeft
returns-in_err-at-in-OrLeft c = no_answer c.from_residual-in_err-at-in-OrLeft.result c.args.env.now _ _ c.args.earlier.now c.from_residual-in_err-at-in-OrLeft.ensures c.in-OrLeft.is (no_one _ (or_left_of c.args.env.now.sig c.in-OrLeft.t) c.in_err-at-in-OrLeft.ensures)

pub returns-in_ok-at-in-OrRight : goal.returns-in_ok-at-in-OrRight
returns-in_ok-at-in-OrRight c = at_step c.or_right.result c.args.env.now _ _ c.args.earlier.now c.in-OrRight.is (of_one c.or_right.result _ c.in_ok-at-in-OrRight.field-0.now (or_right_of c.args.env.now.sig c.in-OrRight.t) c.in_ok-at-in-OrRight.ensures c.or_right.ensures)

pub returns-in_err-at-in-OrRight : goal.returns-in_err-at-in-OrRight
returns-in_err-at-in-OrRight c = no_answer c.from_residual-in_err-at-in-OrRight.result c.args.env.now _ _ c.args.earlier.now c.from_residual-in_err-at-in-OrRight.ensures c.in-OrRight.is (no_one _ (or_right_of c.args.env.now.sig c.in-OrRight.t) c.in_err-at-in-OrRight.ensures)

pub returns-in_ok-at-in-OrElim-3 : goal.returns-in_ok-at-in-OrElim-3
returns-in_ok-at-in-OrElim-3 c = at_step c.or_elim.result c.args.env.now _ _ c.args.earlier.now c.in-OrElim.is (of_three c.or_elim.result _ _ _ c.in_ok-at-in-OrElim.field-0.now c.in_ok-at-in-OrElim-2.field-0.now c.in_ok-at-in-OrElim-3.field-0.now or_elim_of c.in_ok-at-in-OrElim.ensures c.in_ok-at-in-OrElim-2.ensures c.in_ok-at-in-OrElim-3.ensures c.or_elim.ensures)

pub returns-in_err-at-in-OrElim : goal.returns-in_err-at-in-OrElim
returns-in_err-at-in-OrElim c = no_answer c.from_residual-in_err-at-in-OrElim.result c.args.env.now _ _ c.args.earlier.now c.from_residual-in_err-at-in-OrElim.ensures c.in-OrElim.is (no_first_of_three _ _ _ or_elim_of c.in_err-at-in-OrElim.ensures)

pub returns-in_err-at-in-OrElim-2 : goal.returns-in_err-at-in-OrElim-2
returns-in_err-at-in-OrElim-2 c = no_answer c.from_residual-in_err-at-in-OrElim-2.result c.args.env.now _ _ c.args.earlier.now c.from_residual-in_err-at-in-OrElim-2.ensures c.in-OrElim.is (no_second_of_three _ _ _ c.in_ok-at-in-OrElim.field-0.now or_elim_of c.in_ok-at-in-OrElim.ensures c.in_err-at-in-OrElim-2.ensures)

pub returns-in_err-at-in-OrElim-3 : goal.returns-in_err-at-in-OrElim-3
returns-in_err-at-in-OrElim-3 c = no_answer c.from_residual-in_err-at-in-OrElim-3.result c.args.env.now _ _ c.args.earlier.now c.from_residual-in_err-at-in-OrElim-3.ensures c.in-OrElim.is (no_third _ _ _ c.in_ok-at-in-OrElim.field-0.now c.in_ok-at-in-OrElim-2.field-0.now or_elim_of c.in_ok-at-in-OrElim.ensures c.in_ok-at-in-OrElim-2.ensures c.in_err-at-in-OrElim-3.ensures)

pub returns-in_ok-at-in-NotIntro : goal.returns-in_ok-at-in-NotIntro
returns-in_ok-at-in-NotIntro c = at_step c.not_intro.result c.args.env.now _ _ c.args.earlier.now c.in-NotIntro.is (of_one c.not_intro.result _ c.in_ok-at-in-NotIntro.field-0.now (not_intro_of c.args.env.now.sig c.in-NotIntro.t) c.in_ok-at-in-NotIntro.ensures c.not_intro.ensures)

pub returns-in_err-at-in-NotIntro : goal.returns-in_err-at-in-NotIntro
returns-in_err-at-in-NotIntro c = no_answer c.from_residual-in_err-at-in-NotIntro.result c.args.env.now _ _ c.args.earlier.now c.from_residual-in_err-at-in-NotIntro.ensures c.in-NotIntro.is (no_one _ (not_intro_of c.args.env.now.sig c.in-NotIntro.t) c.in_err-at-in-NotIntro.ensures)

pub returns-in_ok-at-in-NotElim-2 : goal.returns-in_ok-at-in-NotElim-2
returns-in_ok-at-in-NotElim-2 c = at_step c.not_elim.result c.args.env.now _ _ c.args.earlier.now c.in-NotElim.is (of_two c.not_elim.result _ _ c.in_ok-at-in-NotElim.field-0.now c.in_ok-at-in-NotElim-2.field-0.now not_elim_of c.in_ok-at-in-NotElim.ensures c.in_ok-at-in-NotElim-2.ensures c.not_elim.ensures)

pub returns-in_err-at-in-NotElim : goal.returns-in_err-at-in-NotElim
returns-in_err-at-in-NotElim c = no_answer c.from_residual-in_err-at-in-NotElim.result c.args.env.now _ _ c.args.earlier.now c.from_residual-in_err-at-in-NotElim.ensures c.in-NotElim.is (no_first _ _ not_elim_of c.in_err-at-in-NotElim.ensures)

pub returns-in_err-at-in-NotElim-2 : goal.returns-in_err-at-in-NotElim-2
returns-in_err-at-in-NotElim-2 c = no_answer c.from_residual-in_err-at-in-NotElim-2.result c.args.env.now _ _ c.args.earlier.now c.from_residual-in_err-at-in-NotElim-2.ensures c.in-NotElim.is (no_second _ _ c.in_ok-at-in-NotElim.field-0.now not_elim_of c.in_ok-at-in-NotElim.ensures c.in_err-at-in-NotElim-2.ensures)

pub returns-in-TrueIntro : goal.returns-in-TrueIntro
returns-in-TrueIntro c = at_step c.true_intro.result c.args.env.now _ _ c.args.earlier.now c.in-TrueIntro.is c.true_intro.ensures

pub returns-in_ok-at-in-Classical : goal.returns-in_ok-at-in-Classical
returns-in_ok-at-in-Classical c = at_step c.classical.result c.args.env.now _ _ c.args.earlier.now c.in-Classical.is (of_one c.classical.result _ c.in_ok-at-in-Classical.field-0.now (classical_of c.args.env.now.sig c.in-Classical.t) c.in_ok-at-in-Classical.ensures c.classical.ensures)

pub returns-in_err-at-in-Classical : goal.returns-in_err-at-in-Classical
returns-in_err-at-in-Classical c = no_answer c.from_residual-in_err-at-in-Classical.result c.args.env.now _ _ c.args.earlier.now c.from_residual-in_err-at-in-Classical.ensures c.in-Classical.is (no_one _ (classical_of c.args.env.now.sig c.in-Classical.t) c.in_err-at-in-Classical.ensures)

pub all_intro-requires : goal.all_intro-requires
all_intro-requires c = premise_closed c.args.env.now.sig c.args.earlier.now _ c.in_ok-at-in-AllIntro.field-0.now c.requires c.in_ok-at-in-AllIntro.ensures

pub returns-in_ok-at-in-AllIntro : goal.returns-in_ok-at-in-AllIntro
returns-in_ok-at-in-AllIntro c = at_step c.all_intro.result c.args.env.now _ _ c.args.earlier.now c.in-AllIntro.is (of_one c.all_intro.result _ c.in_ok-at-in-AllIntro.field-0.now (all_intro_of c.args.env.now.sig c.in-AllIntro.n c.in-AllIntro.ty) c.in_ok-at-in-AllIntro.ensures c.all_intro.ensures)

pub returns-in_err-at-in-AllIntro : goal.returns-in_err-at-in-AllIntro
returns-in_err-at-in-AllIntro c = no_answer c.from_residual-in_err-at-in-AllIntro.result c.args.env.now _ _ c.args.earlier.now c.from_residual-in_err-at-in-AllIntro.ensures c.in-AllIntro.is (no_one _ (all_intro_of c.args.env.now.sig c.in-AllIntro.n c.in-AllIntro.ty) c.in_err-at-in-AllIntro.ensures)

pub returns-in_ok-at-in-AllElim : goal.returns-in_ok-at-in-AllElim
returns-in_ok-at-in-AllElim c = at_step c.all_elim.result c.args.env.now _ _ c.args.earlier.now c.in-AllElim.is (of_one c.all_elim.result _ c.in_ok-at-in-AllElim.field-0.now (all_elim_of c.args.env.now.sig c.in-AllElim.t) c.in_ok-at-in-AllElim.ensures c.all_elim.ensures)

pub returns-in_err-at-in-AllElim : goal.returns-in_err-at-in-AllElim
returns-in_err-at-in-AllElim c = no_answer c.from_residual-in_err-at-in-AllElim.result c.args.env.now _ _ c.args.earlier.now c.from_residual-in_err-at-in-AllElim.ensures c.in-AllElim.is (no_one _ (all_elim_of c.args.env.now.sig c.in-AllElim.t) c.in_err-at-in-AllElim.ensures)

pub returns-in_ok-at-in-ExIntro : goal.returns-in_ok-at-in-ExIntro
returns-in_ok-at-in-ExIntro c = at_step c.ex_intro.result c.args.env.now _ _ c.args.earlier.now c.in-ExIntro.is (of_one c.ex_intro.result _ c.in_ok-at-in-ExIntro.field-0.now (ex_intro_of c.args.env.now.sig c.in-ExIntro.f c.in-ExIntro.t) c.in_ok-at-in-ExIntro.ensures c.ex_intro.ensures)

pub returns-in_err-at-in-ExIntro : goal.returns-in_err-at-in-ExIntro
returns-in_err-at-in-ExIntro c = no_answer c.from_residual-in_err-at-in-ExIntro.result c.args.env.now _ _ c.args.earlier.now c.from_residual-in_err-at-in-ExIntro.ensures c.in-ExIntro.is (no_one _ (ex_intro_of c.args.env.now.sig c.in-ExIntro.f c.in-ExIntro.t) c.in_err-at-in-ExIntro.ensures)

pub choose-requires : goal.choose-requires
choose-requires c = premise_closed c.args.env.now.sig c.args.earlier.now _ c.in_ok-at-in-Choose.field-0.now c.requires c.in_ok-at-in-Choose.ensures

pub returns-in_ok-at-in-Choose : goal.returns-in_ok-at-in-Choose
returns-in_ok-at-in-Choose c = at_step c.choose.result c.args.env.now _ _ c.args.earlier.now c.in-Choose.is (of_one c.choose.result _ c.in_ok-at-in-Choose.field-0.now choose_of c.in_ok-at-in-Choose.ensures c.choose.ensures)

pub returns-in_err-at-in-Choose : goal.returns-in_err-at-in-Choose
returns-in_err-at-in-Choose c = no_answer c.from_residual-in_err-at-in-Choose.result c.args.env.now _ _ c.args.earlier.now c.from_residual-in_err-at-in-Choose.ensures c.in-Choose.is (no_one _ choose_of c.in_err-at-in-Choose.ensures)

pub returns-in-Refl : goal.returns-in-Refl
returns-in-Refl c = at_step c.refl.result c.args.env.now _ _ c.args.earlier.now c.in-Refl.is c.refl.ensures

pub subst-requires : goal.subst-requires
subst-requires c = premise_closed c.args.env.now.sig c.args.earlier.now _ c.in_ok-at-in-Subst.field-0.now c.requires c.in_ok-at-in-Subst.ensures

pub returns-in_ok-at-in-Subst-2 : goal.returns-in_ok-at-in-Subst-2
returns-in_ok-at-in-Subst-2 c = at_step c.subst.result c.args.env.now _ _ c.args.earlier.now c.in-Subst.is (of_two c.subst.result _ _ c.in_ok-at-in-Subst.field-0.now c.in_ok-at-in-Subst-2.field-0.now (subst_of c.args.env.now.sig c.in-Subst.f) c.in_ok-at-in-Subst.ensures c.in_ok-at-in-Subst-2.ensures c.subst.ensures)

pub returns-in_err-at-in-Subst : goal.returns-in_err-at-in-Subst
returns-in_err-at-in-Subst c = no_answer c.from_residual-in_err-at-in-Subst.result c.args.env.now _ _ c.args.earlier.now c.from_residual-in_err-at-in-Subst.ensures c.in-Subst.is (no_first _ _ (subst_of c.args.env.now.sig c.in-Subst.f) c.in_err-at-in-Subst.ensures)

pub returns-in_err-at-in-Subst-2 : goal.returns-in_err-at-in-Subst-2
returns-in_err-at-in-Subst-2 c = no_answer c.from_residual-in_err-at-in-Subst-2.result c.args.env.now _ _ c.args.earlier.now c.from_residual-in_err-at-in-Subst-2.ensures c.in-Subst.is (no_second _ _ c.in_ok-at-in-Subst.field-0.now (subst_of c.args.env.now.sig c.in-Subst.f) c.in_ok-at-in-Subst.ensures c.in_err-at-in-Subst-2.ensures)

pub returns-in-Beta : goal.returns-in-Beta
returns-in-Beta c = at_step c.beta.result c.args.env.now _ _ c.args.earlier.now c.in-Beta.is c.beta.ensures

pub abs-requires : goal.abs-requires
abs-requires c = premise_closed c.args.env.now.sig c.args.earlier.now _ c.in_ok-at-in-Abs.field-0.now c.requires c.in_ok-at-in-Abs.ensures

pub returns-in_ok-at-in-Abs : goal.returns-in_ok-at-in-Abs
returns-in_ok-at-in-Abs c = at_step c.abs.result c.args.env.now _ _ c.args.earlier.now c.in-Abs.is (of_one c.abs.result _ c.in_ok-at-in-Abs.field-0.now (abs_of c.args.env.now.sig c.in-Abs.n c.in-Abs.ty) c.in_ok-at-in-Abs.ensures c.abs.ensures)

pub returns-in_err-at-in-Abs : goal.returns-in_err-at-in-Abs
returns-in_err-at-in-Abs c = no_answer c.from_residual-in_err-at-in-Abs.result c.args.env.now _ _ c.args.earlier.now c.from_residual-in_err-at-in-Abs.ensures c.in-Abs.is (no_one _ (abs_of c.args.env.now.sig c.in-Abs.n c.in-Abs.ty) c.in_err-at-in-Abs.ensures)

pub returns-in_ok-at-in-Iff-2 : goal.returns-in_ok-at-in-Iff-2
returns-in_ok-at-in-Iff-2 c = at_step c.iff.result c.args.env.now _ _ c.args.earlier.now c.in-Iff.is (of_two c.iff.result _ _ c.in_ok-at-in-Iff.field-0.now c.in_ok-at-in-Iff-2.field-0.now iff_of c.in_ok-at-in-Iff.ensures c.in_ok-at-in-Iff-2.ensures c.iff.ensures)

pub returns-in_err-at-in-Iff : goal.returns-in_err-at-in-Iff
returns-in_err-at-in-Iff c = no_answer c.from_residual-in_err-at-in-Iff.result c.args.env.now _ _ c.args.earlier.now c.from_residual-in_err-at-in-Iff.ensures c.in-Iff.is (no_first _ _ iff_of c.in_err-at-in-Iff.ensures)

pub returns-in_err-at-in-Iff-2 : goal.returns-in_err-at-in-Iff-2
returns-in_err-at-in-Iff-2 c = no_answer c.from_residual-in_err-at-in-Iff-2.result c.args.env.now _ _ c.args.earlier.now c.from_residual-in_err-at-in-Iff-2.ensures c.in-Iff.is (no_second _ _ c.in_ok-at-in-Iff.field-0.now iff_of c.in_ok-at-in-Iff.ensures c.in_err-at-in-Iff-2.ensures)

pub returns-in_ok-at-in-Inst : goal.returns-in_ok-at-in-Inst
returns-in_ok-at-in-Inst c = at_step c.inst.result c.args.env.now _ _ c.args.earlier.now c.in-Inst.is (of_one c.inst.result _ c.in_ok-at-in-Inst.field-0.now (inst_of c.args.env.now.sig c.in-Inst.n c.in-Inst.ty c.in-Inst.t) c.in_ok-at-in-Inst.ensures c.inst.ensures)

pub returns-in_err-at-in-Inst : goal.returns-in_err-at-in-Inst
returns-in_err-at-in-Inst c = no_answer c.from_residual-in_err-at-in-Inst.result c.args.env.now _ _ c.args.earlier.now c.from_residual-in_err-at-in-Inst.ensures c.in-Inst.is (no_one _ (inst_of c.args.env.now.sig c.in-Inst.n c.in-Inst.ty c.in-Inst.t) c.in_err-at-in-Inst.ensures)
