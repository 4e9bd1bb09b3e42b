use Rattle.std.proofs.Common.{◌∙◌}
use Rattle.hol_kernel.specs.Logs.{thm}
use Rattle.hol_kernel.specs.Conditions.{own_ty}
use Rattle.hol_kernel.proofs.Growing.{extends_trans, thm_stays}
use Rattle.hol_kernel.proofs.Making.{err_free}
use Rattle.hol_derived.proofs.Cuts.{gives_as}
use Rattle.hol_derived.proofs.Expansions.{turned_equal, turned_part, back_equal, back_part, turned_is}
use Rattle.hol_derived.proofs.contracting.turned.Goals as goal

pub refl-requires : goal.refl-requires
refl-requires c = c.requires.t

pub returns-in_err-same-clause-kept : goal.returns-in_err-same-clause-kept
returns-in_err-same-clause-kept c = c.refl.ensures.kept

pub returns-in_err-same-clause-gives : goal.returns-in_err-same-clause-gives
returns-in_err-same-clause-gives c = err_free c.from_residual.result _ c.from_residual.ensures.0

pub replace_along-requires-clause-eq : goal.replace_along-requires-clause-eq
replace_along-requires-clause-eq c = thm_stays _ _ _ c.refl.ensures.kept c.requires.eq

pub replace_along-requires-clause-th : goal.replace_along-requires-clause-th
replace_along-requires-clause-th c = c.in_ok-same.ensures.gives.is_thm

pub replace_along-requires-clause-is : goal.replace_along-requires-clause-is
replace_along-requires-clause-is c =
    turned_equal c.args.log.now c.refl.new.self c.args.eq.0 c.in_ok-same.same.0 (own_ty c.args.log.now.env.sig c.args.t.now) c.args.t.now (thm c.args.log.now c.args.th.0).concl c.refl.ensures.kept c.requires.eq c.requires.is
    c.in_ok-same.ensures.gives

pub replace_along-requires-clause-part : goal.replace_along-requires-clause-part
replace_along-requires-clause-part c =
    turned_part c.args.log.now c.refl.new.self c.args.eq.0 c.in_ok-same.same.0 (own_ty c.args.log.now.env.sig c.args.t.now) c.args.t.now (thm c.args.log.now c.args.th.0).concl c.refl.ensures.kept c.requires.eq c.requires.is
    c.in_ok-same.ensures.gives

pub returns-in_err-back-clause-kept : goal.returns-in_err-back-clause-kept
returns-in_err-back-clause-kept c = extends_trans _ _ _ c.refl.ensures.kept c.replace_along.ensures.kept

pub returns-in_err-back-clause-gives : goal.returns-in_err-back-clause-gives
returns-in_err-back-clause-gives c = err_free c.from_residual-in_err-back.result _ c.from_residual-in_err-back.ensures.0

pub replace_along-requires-2-clause-eq : goal.replace_along-requires-2-clause-eq
replace_along-requires-2-clause-eq c = c.in_ok-back.ensures.gives.is_thm

pub replace_along-requires-2-clause-th : goal.replace_along-requires-2-clause-th
replace_along-requires-2-clause-th c = thm_stays _ _ _ c.replace_along.ensures.kept (thm_stays _ _ _ c.refl.ensures.kept c.requires.th)

pub replace_along-requires-2-clause-is : goal.replace_along-requires-2-clause-is
replace_along-requires-2-clause-is c =
    back_equal c.args.log.now c.refl.new.self c.replace_along.new.log c.args.eq.0 c.args.th.0 c.in_ok-same.same.0 c.in_ok-back.back.0 (own_ty c.args.log.now.env.sig c.args.t.now) c.args.t.now c.refl.ensures.kept
    c.replace_along.ensures.kept c.requires.eq c.requires.th c.requires.is c.in_ok-same.ensures.gives c.in_ok-back.ensures.gives

pub replace_along-requires-2-clause-part : goal.replace_along-requires-2-clause-part
replace_along-requires-2-clause-part c =
    back_part c.args.log.now c.refl.new.self c.replace_along.new.log c.args.eq.0 c.args.th.0 c.in_ok-same.same.0 c.in_ok-back.back.0 (own_ty c.args.log.now.env.sig c.args.t.now) c.args.t.now c.refl.ensures.kept
    c.replace_along.ensures.kept c.requires.eq c.requires.th c.requires.is c.in_ok-same.ensures.gives c.in_ok-back.ensures.gives

pub returns-clause-kept : goal.returns-clause-kept
returns-clause-kept c = extends_trans _ _ _ c.refl.ensures.kept (extends_trans _ _ _ c.replace_along.ensures.kept c.replace_along-2.ensures.kept)

pub returns-clause-gives : goal.returns-clause-gives
returns-clause-gives c =
    gives_as c.replace_along-2.result c.replace_along-2.new.log _ _
    (turned_is c.args.log.now c.refl.new.self c.replace_along.new.log c.args.eq.0 c.args.th.0 c.in_ok-same.same.0 c.in_ok-back.back.0 (own_ty c.args.log.now.env.sig c.args.t.now) c.args.t.now c.refl.ensures.kept
    c.replace_along.ensures.kept c.requires.eq c.requires.th c.requires.is c.in_ok-same.ensures.gives c.in_ok-back.ensures.gives) c.replace_along-2.ensures.gives

pub returns-in_err-same-clause-facts : goal.returns-in_err-same-clause-facts
returns-in_err-same-clause-facts c = c.refl.ensures.facts

pub returns-in_err-back-clause-facts : goal.returns-in_err-back-clause-facts
returns-in_err-back-clause-facts c = c.replace_along.ensures.facts ∙ c.refl.ensures.facts

pub returns-clause-facts : goal.returns-clause-facts
returns-clause-facts c = (c.replace_along-2.ensures.facts ∙ c.replace_along.ensures.facts) ∙ c.refl.ensures.facts
