use Rattle.std.proofs.Common.{◌∙◌, sym, ap, subst, arith}
use Rattle.std.specs.FinSet as set
use Rattle.hol_terms.specs.Formulas.{IsFormula}
use Rattle.kernel_rules.specs.Connectives.{equal, right_of}
use Rattle.kernel_rules.specs.Rules.{seq}
use Rattle.hol_kernel.specs.Conditions.{own_ty}
use Rattle.hol_kernel.proofs.Growing.{extends_trans, thm_stays}
use Rattle.hol_kernel.proofs.Making.{err_free}
use Rattle.hol_derived.specs.Contractions.{contracted_along}
use Rattle.hol_derived.proofs.Cuts.{gives_as}
use Rattle.hol_derived.proofs.Expansions.{given_stays}
use Rattle.hol_derived.proofs.Downwards.{formula_given, next_is, next_formula}
use Rattle.hol_derived.proofs.contracting.+expands.Goals as goal

pub expanded_by-contraction-requires : goal.expanded_by-contraction-requires
expanded_by-contraction-requires t c =
    formula_given c.args.log.now.env.sig c.args.target.now c.requires.target

pub expanded_by-returns-in_err-eq-clause-kept : goal.expanded_by-returns-in_err-eq-clause-kept
expanded_by-returns-in_err-eq-clause-kept t c =
    c.contraction.ensures.kept

pub expanded_by-returns-in_err-eq-clause-gives : goal.expanded_by-returns-in_err-eq-clause-gives
expanded_by-returns-in_err-eq-clause-gives t c =
    err_free c.from_residual.result _ c.from_residual.ensures.0

pub expanded_by-conclusion-requires : goal.expanded_by-conclusion-requires
expanded_by-conclusion-requires t c =
    c.in_ok-eq.ensures.gives.is_thm

pub expanded_by-returns-in_err-next-clause-kept : goal.expanded_by-returns-in_err-next-clause-kept
expanded_by-returns-in_err-next-clause-kept t c =
    c.contraction.ensures.kept

pub expanded_by-returns-in_err-next-clause-gives : goal.expanded_by-returns-in_err-next-clause-gives
expanded_by-returns-in_err-next-clause-gives t c =
    err_free c.from_residual-in_err-next.result _ c.from_residual-in_err-next.ensures.0

pub expanded_by-expanded_own-requires : goal.expanded_by-expanded_own-requires
expanded_by-expanded_own-requires t c = (
  omega (arith, c.decreases),
  (
    thm_stays _ _ _ c.contraction.ensures.kept c.requires.th,
    (
      subst (IsFormula c.contraction.new.log.env.sig) (sym (c.in_ok-next.ensures ∙ c.right.ensures ∙ ap right_of c.conclusion.ensures.value)) (next_formula c.args.log.now.env.sig c.args.first.now c.args.target.now c.contraction.new.log c.in_ok-eq.eq.0 c.in_ok-eq.ensures.gives c.contraction.new.log.env.sig (ap (λ e. e.sig) c.contraction.ensures.kept.env) c.requires.target (subst (IsFormula c.contraction.new.log.env.sig) c.conclusion.ensures.value c.conclusion.ensures.formula)),
      ap (contracted_along c.args.rest.now) ((c.in_ok-next.ensures ∙ c.right.ensures ∙ ap right_of c.conclusion.ensures.value) ∙ next_is c.args.log.now.env.sig c.args.first.now c.args.target.now c.contraction.new.log c.in_ok-eq.eq.0 c.in_ok-eq.ensures.gives) ∙ c.requires.redexes ∙ sym (ap (λ q. q.concl) (c.contraction.ensures.kept.earlier c.args.th.0 c.requires.th)),
    ),
  ),
)

pub expanded_by-returns-in_err-below-clause-kept : goal.expanded_by-returns-in_err-below-clause-kept
expanded_by-returns-in_err-below-clause-kept t c =
    extends_trans _ _ _ c.contraction.ensures.kept c.expanded_own.ensures.kept

pub expanded_by-returns-in_err-below-clause-gives : goal.expanded_by-returns-in_err-below-clause-gives
expanded_by-returns-in_err-below-clause-gives t c =
    err_free c.from_residual-in_err-below.result _ c.from_residual-in_err-below.ensures.0

pub expanded_by-turned-requires-clause-t : goal.expanded_by-turned-requires-clause-t
expanded_by-turned-requires-clause-t t c =
    given_stays c.args.log.now c.expanded_own.new.log c.args.target.now (extends_trans _ _ _ c.contraction.ensures.kept c.expanded_own.ensures.kept) (formula_given c.args.log.now.env.sig c.args.target.now c.requires.target)

pub expanded_by-turned-requires-clause-eq : goal.expanded_by-turned-requires-clause-eq
expanded_by-turned-requires-clause-eq t c =
    thm_stays _ _ _ c.expanded_own.ensures.kept c.in_ok-eq.ensures.gives.is_thm

pub expanded_by-turned-requires-clause-th : goal.expanded_by-turned-requires-clause-th
expanded_by-turned-requires-clause-th t c =
    c.in_ok-below.ensures.gives.is_thm

pub expanded_by-turned-requires-clause-is : goal.expanded_by-turned-requires-clause-is
expanded_by-turned-requires-clause-is t c =
    let said = sym (next_is c.args.log.now.env.sig c.args.first.now c.args.target.now c.contraction.new.log c.in_ok-eq.eq.0 c.in_ok-eq.ensures.gives) ∙ sym (c.in_ok-next.ensures ∙ c.right.ensures ∙ ap right_of c.conclusion.ensures.value) ∙ sym (ap (λ q. q.concl) c.in_ok-below.ensures.gives.is) in
    let over = ap (λ e. e.sig) (sym (extends_trans _ _ _ c.contraction.ensures.kept c.expanded_own.ensures.kept).env) in
    c.expanded_own.ensures.kept.earlier c.in_ok-eq.eq.0 c.in_ok-eq.ensures.gives.is_thm ∙ c.in_ok-eq.ensures.gives.is ∙ (λ i. seq set.empty (equal (own_ty (over i) c.args.target.now) c.args.target.now (said i)))

pub expanded_by-returns-clause-kept : goal.expanded_by-returns-clause-kept
expanded_by-returns-clause-kept t c =
    extends_trans _ _ _ (extends_trans _ _ _ c.contraction.ensures.kept c.expanded_own.ensures.kept) c.turned.ensures.kept

pub expanded_by-returns-clause-gives : goal.expanded_by-returns-clause-gives
expanded_by-returns-clause-gives t c =
    gives_as c.turned.result c.turned.new.log _ _
    (ap (λ s. seq s c.args.target.now) (ap (λ q. q.hyps) c.in_ok-below.ensures.gives.is ∙ ap (λ q. q.hyps) (c.contraction.ensures.kept.earlier c.args.th.0 c.requires.th))) c.turned.ensures.gives

pub expanded_own-expanded-reached-requires : goal.expanded_own-expanded-reached-requires
expanded_own-expanded-reached-requires t c =
    (omega (arith, c.decreases), (c.requires.th, (c.requires.target, c.requires.redexes)))

pub expanded_own-returns-clause-kept : goal.expanded_own-returns-clause-kept
expanded_own-returns-clause-kept t c =
    c.expanded-reached.ensures.kept

pub expanded_own-returns-clause-gives : goal.expanded_own-returns-clause-gives
expanded_own-returns-clause-gives t c =
    c.expanded-reached.ensures.gives

pub expanded_by-returns-in_err-eq-clause-facts : goal.expanded_by-returns-in_err-eq-clause-facts
expanded_by-returns-in_err-eq-clause-facts t c = c.contraction.ensures.facts

pub expanded_by-returns-in_err-next-clause-facts : goal.expanded_by-returns-in_err-next-clause-facts
expanded_by-returns-in_err-next-clause-facts t c = c.contraction.ensures.facts

pub expanded_by-returns-in_err-below-clause-facts : goal.expanded_by-returns-in_err-below-clause-facts
expanded_by-returns-in_err-below-clause-facts t c = c.expanded_own.ensures.facts ∙ c.contraction.ensures.facts

pub expanded_by-returns-clause-facts : goal.expanded_by-returns-clause-facts
expanded_by-returns-clause-facts t c = c.turned.ensures.facts ∙ (c.expanded_own.ensures.facts ∙ c.contraction.ensures.facts)

pub expanded_own-returns-clause-facts : goal.expanded_own-returns-clause-facts
expanded_own-returns-clause-facts t c = c.expanded-reached.ensures.facts
