use Rattle.std.proofs.Common.{ap, refl, ◌∙◌, ◌∷◌}
use Rattle.hol_kernel.proofs.Growing.{extends_refl, extends_trans, thm_stays}
use Rattle.hol_kernel.proofs.Making.{err_free}
use Rattle.std.specs.FinSet as set
use Rattle.kernel_rules.specs.Connectives.{right_of}
use Rattle.kernel_rules.specs.Rules.{seq}
use Rattle.hol_kernel.specs.Logs.{thm}
use Rattle.hol_kernel.specs.Conditions.{own_ty}
use Rattle.hol_derived.specs.Paths.{part_at, replaced_at}
use Rattle.hol_derived.proofs.Cuts.{gives_as}
use Rattle.hol_derived.proofs.Expansions.{still_equal, lifted_part, lifted_is}
use Rattle.hol_derived.proofs.contracting.lifted.Goals as goal

pub refl-requires : goal.refl-requires
refl-requires c = c.requires.t

pub returns-in_err-same-clause-kept : goal.returns-in_err-same-clause-kept
returns-in_err-same-clause-kept c = c.refl.ensures.kept

pub returns-in_err-same-clause-gives : goal.returns-in_err-same-clause-gives
returns-in_err-same-clause-gives c = err_free c.from_residual-in_err-same.result _ c.from_residual-in_err-same.ensures.0

pub replace_along-requires-clause-eq : goal.replace_along-requires-clause-eq
replace_along-requires-clause-eq c = thm_stays _ _ _ c.refl.ensures.kept c.requires.eq

pub replace_along-requires-clause-th : goal.replace_along-requires-clause-th
replace_along-requires-clause-th c = c.in_ok-same.ensures.gives.is_thm

pub replace_along-requires-clause-is : goal.replace_along-requires-clause-is
replace_along-requires-clause-is c =
    still_equal c.args.log.now c.refl.new.self c.args.eq.0 c.in_ok-same.same.0 _ c.args.t.now c.refl.ensures.kept c.requires.eq c.in_ok-same.ensures.gives c.requires.is

pub replace_along-requires-clause-part : goal.replace_along-requires-clause-part
replace_along-requires-clause-part c =
    ap (λ p. part_at p (thm c.refl.new.self c.in_ok-same.same.0).concl) (c.as_slice.ensures ∙ c.in_ok-path.ensures)
    ∙ lifted_part c.args.log.now c.refl.new.self c.args.eq.0 c.in_ok-same.same.0 _ c.args.t.now c.refl.ensures.kept c.requires.eq c.in_ok-same.ensures.gives (c.args.side ∷ c.args.more.now) c.requires.part

pub returns-clause-kept : goal.returns-clause-kept
returns-clause-kept c = extends_trans _ _ _ c.refl.ensures.kept c.replace_along.ensures.kept

pub returns-clause-gives : goal.returns-clause-gives
returns-clause-gives c =
    gives_as c.replace_along.result c.replace_along.new.log _ _
    (ap (λ p. seq (set.union (thm c.refl.new.self c.args.eq.0).hyps (thm c.refl.new.self c.in_ok-same.same.0).hyps) (replaced_at p (right_of (thm c.refl.new.self c.args.eq.0).concl) (thm c.refl.new.self c.in_ok-same.same.0).concl)) (c.as_slice.ensures ∙ c.in_ok-path.ensures)
    ∙ lifted_is c.args.log.now c.refl.new.self c.args.eq.0 c.in_ok-same.same.0 (own_ty c.args.log.now.env.sig c.args.t.now) c.args.t.now c.refl.ensures.kept c.requires.eq c.in_ok-same.ensures.gives (c.args.side ∷ c.args.more.now))
    c.replace_along.ensures.gives

pub returns-in_err-same-clause-facts : goal.returns-in_err-same-clause-facts
returns-in_err-same-clause-facts c = c.refl.ensures.facts

pub returns-clause-facts : goal.returns-clause-facts
returns-clause-facts c = c.replace_along.ensures.facts ∙ c.refl.ensures.facts

pub returns-in_err-path-clause-kept : goal.returns-in_err-path-clause-kept
returns-in_err-path-clause-kept c = extends_refl c.args.log.now

pub returns-in_err-path-clause-facts : goal.returns-in_err-path-clause-facts
returns-in_err-path-clause-facts c = refl

pub returns-in_err-path-clause-gives : goal.returns-in_err-path-clause-gives
returns-in_err-path-clause-gives c = err_free c.from_residual.result _ c.from_residual.ensures.0
