use Rattle.std.proofs.Common.{refl, IsTrue, ◌∙◌, sym, ap, subst, arith, [], ◌∷◌, Some, length, length-append}
use Rattle.hol_terms.specs.Types.{ty_fits}
use Rattle.hol_terms.specs.Substitution.{instantiated}
use Rattle.hyp_sets.specs.Sets.{absent}
use Rattle.kernel_rules.specs.Connectives.{lambda}
use Rattle.hol_kernel.specs.Growth.{Gives}
use Rattle.hol_kernel.specs.Conditions.{own_ty, IsGiven}
use Rattle.hol_kernel.proofs.Growing.{extends_refl, extends_trans}
use Rattle.hol_kernel.proofs.Making.{err_free}
use Rattle.hol_derived.specs.Paths.{part_at}
use Rattle.hol_derived.specs.Contractions.{contraction}
use Rattle.hol_derived.proofs.Cuts.{gives_as}
use Rattle.hol_derived.proofs.Expansions.{given_stays, apply_is, lambda_is, variable_is, left_part, right_part}
use Rattle.hol_derived.proofs.Crossing.{through_child, passes, across_part, across_is}
use Rattle.hol_derived.proofs.Downwards.{contraction_equal, unmoved, app_unmoved, lam_unmoved, binder_fits, opened_given, body_is, absent_none, other_unmoved}
use Rattle.hol_derived.proofs.contracting.+contracts.Goals as goal

pub below-refl-requires : goal.below-refl-requires
below-refl-requires t c =
    c.requires

pub below-refl-requires-else-first-eq2 : goal.below-refl-requires-else-first-eq2
below-refl-requires-else-first-eq2 t c =
    c.requires

pub below-refl-requires-in_default : goal.below-refl-requires-in_default
below-refl-requires-in_default t c =
    c.requires

pub below-under-requires : goal.below-under-requires
below-under-requires t c =
    (omega (arith, c.decreases), subst (λ u. IsGiven c.args.log.now.env.sig u (own_ty c.args.log.now.env.sig u)) ((c.in-Lam.is ∙ lambda_is c.in-Lam.a c.in-Lam.b) ∙ ap (lambda c.in-Lam.a) (sym c.get-then-first-eq2.ensures)) c.requires)

pub below-returns-else-first-eq1-clause-kept : goal.below-returns-else-first-eq1-clause-kept
below-returns-else-first-eq1-clause-kept t c =
    c.refl.ensures.kept

pub below-returns-else-first-eq1-clause-facts : goal.below-returns-else-first-eq1-clause-facts
below-returns-else-first-eq1-clause-facts t c = c.refl.ensures.facts

pub below-returns-else-first-eq1-clause-gives : goal.below-returns-else-first-eq1-clause-gives
below-returns-else-first-eq1-clause-gives t c =
    gives_as c.refl.result c.refl.new.self _ _ (unmoved c.args.log.now.env.sig (c.args.first ∷ c.args.rest.now) c.args.t.now (app_unmoved c.args.first c.args.rest.now c.args.t.now c.in-App.f c.in-App.x (c.in-App.is ∙ apply_is c.in-App.f c.in-App.x) c.if-first-eq0.false c.if-first-eq1.false)) c.refl.ensures.gives

pub below-returns-then-first-eq2-clause-kept : goal.below-returns-then-first-eq2-clause-kept
below-returns-then-first-eq2-clause-kept t c =
    c.under.ensures.kept

pub below-returns-then-first-eq2-clause-facts : goal.below-returns-then-first-eq2-clause-facts
below-returns-then-first-eq2-clause-facts t c = c.under.ensures.facts

pub below-returns-then-first-eq2-clause-gives : goal.below-returns-then-first-eq2-clause-gives
below-returns-then-first-eq2-clause-gives t c =
    gives_as c.under.result c.under.new.log _ _ ((λ i. contraction c.args.log.now.env.sig (2 ∷ c.args.rest.now) (lambda c.in-Lam.a (c.get-then-first-eq2.ensures i))) ∙ (λ i. contraction c.args.log.now.env.sig (sym c.if-first-eq2.true i ∷ c.args.rest.now) (sym (c.in-Lam.is ∙ lambda_is c.in-Lam.a c.in-Lam.b) i))) c.under.ensures.gives

pub below-returns-else-first-eq2-clause-kept : goal.below-returns-else-first-eq2-clause-kept
below-returns-else-first-eq2-clause-kept t c =
    c.refl-else-first-eq2.ensures.kept

pub below-returns-else-first-eq2-clause-facts : goal.below-returns-else-first-eq2-clause-facts
below-returns-else-first-eq2-clause-facts t c = c.refl-else-first-eq2.ensures.facts

pub below-returns-else-first-eq2-clause-gives : goal.below-returns-else-first-eq2-clause-gives
below-returns-else-first-eq2-clause-gives t c =
    gives_as c.refl-else-first-eq2.result c.refl-else-first-eq2.new.self _ _ (unmoved c.args.log.now.env.sig (c.args.first ∷ c.args.rest.now) c.args.t.now (lam_unmoved c.args.first c.args.rest.now c.args.t.now c.in-Lam.a c.in-Lam.b (c.in-Lam.is ∙ lambda_is c.in-Lam.a c.in-Lam.b) c.if-first-eq2.false)) c.refl-else-first-eq2.ensures.gives

pub in_opened-contraction-eq-requires : goal.in_opened-contraction-eq-requires
in_opened-contraction-eq-requires t c =
    (omega (arith, c.decreases), c.requires)

pub in_opened-returns-clause-kept : goal.in_opened-returns-clause-kept
in_opened-returns-clause-kept t c =
    c.contraction-eq.ensures.kept

pub in_opened-returns-clause-facts : goal.in_opened-returns-clause-facts
in_opened-returns-clause-facts t c = c.contraction-eq.ensures.facts

pub in_opened-returns-clause-gives : goal.in_opened-returns-clause-gives
in_opened-returns-clause-gives t c =
    c.contraction-eq.ensures.gives

pub below-returns-in_default : goal.below-returns-in_default
below-returns-in_default t c =
    record { kept = c.refl-in_default.ensures.kept; facts = c.refl-in_default.ensures.facts; gives = gives_as c.refl-in_default.result c.refl-in_default.new.self _ _ (unmoved c.args.log.now.env.sig (c.args.first ∷ c.args.rest.now) c.args.t.now (other_unmoved c.args.first c.args.rest.now c.args.t.now c.in_default.not-App c.in_default.not-Lam)) c.refl-in_default.ensures.gives }

pub under-returns-in_err-n-clause-kept : goal.under-returns-in_err-n-clause-kept
under-returns-in_err-n-clause-kept t c =
    extends_refl c.args.log.now

pub under-returns-in_err-n-clause-facts : goal.under-returns-in_err-n-clause-facts
under-returns-in_err-n-clause-facts t c = refl

pub under-returns-in_err-n-clause-gives : goal.under-returns-in_err-n-clause-gives
under-returns-in_err-n-clause-gives t c =
    err_free c.from_residual.result _ c.from_residual.ensures.0

pub under-returns-in_err-body-clause-kept : goal.under-returns-in_err-body-clause-kept
under-returns-in_err-body-clause-kept t c =
    extends_refl c.args.log.now

pub under-returns-in_err-body-clause-facts : goal.under-returns-in_err-body-clause-facts
under-returns-in_err-body-clause-facts t c = refl

pub under-returns-in_err-body-clause-gives : goal.under-returns-in_err-body-clause-gives
under-returns-in_err-body-clause-gives t c =
    err_free c.from_residual-in_err-body.result _ c.from_residual-in_err-body.ensures.0

pub under-in_opened-requires : goal.under-in_opened-requires
under-in_opened-requires t c =
    (omega (arith, c.decreases), subst (λ u. IsGiven c.args.log.now.env.sig u (own_ty c.args.log.now.env.sig u)) (sym (c.in_ok-body.ensures ∙ ap (instantiated c.args.b.now) (variable_is c.in_ok-n.n c.args.a.now))) (opened_given c.args.log.now.env.sig c.in_ok-n.n c.args.a.now c.args.b.now c.requires))

pub under-returns-in_err-eq-clause-kept : goal.under-returns-in_err-eq-clause-kept
under-returns-in_err-eq-clause-kept t c =
    c.in_opened.ensures.kept

pub under-returns-in_err-eq-clause-facts : goal.under-returns-in_err-eq-clause-facts
under-returns-in_err-eq-clause-facts t c = c.in_opened.ensures.facts

pub under-returns-in_err-eq-clause-gives : goal.under-returns-in_err-eq-clause-gives
under-returns-in_err-eq-clause-gives t c =
    err_free c.from_residual-in_err-eq.result _ c.from_residual-in_err-eq.ensures.0

pub under-abs-requires-clause-ty : goal.under-abs-requires-clause-ty
under-abs-requires-clause-ty t c =
    subst (λ e. IsTrue (ty_fits e.sig.types c.args.a.now)) (sym c.in_opened.ensures.kept.env) (binder_fits c.args.log.now.env.sig c.in_ok-n.n c.args.a.now c.args.b.now c.requires)

pub under-abs-requires-clause-a : goal.under-abs-requires-clause-a
under-abs-requires-clause-a t c =
    c.in_ok-eq.ensures.gives.is_thm

pub under-abs-requires-clause-is : goal.under-abs-requires-clause-is
under-abs-requires-clause-is t c =
    contraction_equal c.args.log.now.env.sig c.args.rest.now c.in_ok-body.body c.in_opened.new.log c.in_ok-eq.eq.0 c.in_ok-eq.ensures.gives

pub under-abs-requires-clause-lacks : goal.under-abs-requires-clause-lacks
under-abs-requires-clause-lacks t c =
    subst (λ s. IsTrue (absent c.in_ok-n.n c.args.a.now s)) (sym (ap (λ q. q.hyps) c.in_ok-eq.ensures.gives.is)) (absent_none c.in_ok-n.n c.args.a.now)

pub under-returns-clause-kept : goal.under-returns-clause-kept
under-returns-clause-kept t c =
    extends_trans _ _ _ c.in_opened.ensures.kept c.abs.ensures.kept

pub under-returns-clause-facts : goal.under-returns-clause-facts
under-returns-clause-facts t c = c.abs.ensures.facts ∙ c.in_opened.ensures.facts

pub under-returns-clause-gives : goal.under-returns-clause-gives
under-returns-clause-gives t c =
    gives_as c.abs.result c.abs.new.self _ _ (body_is c.args.log.now.env.sig c.in_ok-n.n c.args.a.now c.args.b.now c.requires c.args.rest.now c.in_opened.new.log c.in_ok-eq.eq.0 c.in_ok-n.ensures (subst (λ u. Gives c.in_opened.new.log c.in_ok-eq.eq.0 (contraction c.args.log.now.env.sig c.args.rest.now u)) (c.in_ok-body.ensures ∙ ap (instantiated c.args.b.now) (variable_is c.in_ok-n.n c.args.a.now)) c.in_ok-eq.ensures.gives)) c.abs.ensures.gives

pub across-contraction-requires : goal.across-contraction-requires
across-contraction-requires t c = (omega (arith, c.decreases, ap length c.crossed-crossing.ensures.path, length-append c.crossed-crossing.result.way.now c.crossed-crossing.result.rest.now), passes c.args.log.now.env.sig c.crossed-crossing.result.part.now (c.args.side ∷ c.crossed-crossing.result.way.now) c.args.t.now (through_child c.args.side c.crossed-crossing.result.way.now c.args.t.now c.args.child.now c.crossed-crossing.result.part.now c.requires.child c.crossed-crossing.ensures.part) c.requires.t)

pub across-returns-in_err-eq-clause-kept : goal.across-returns-in_err-eq-clause-kept
across-returns-in_err-eq-clause-kept t c = c.contraction.ensures.kept

pub across-returns-in_err-eq-clause-facts : goal.across-returns-in_err-eq-clause-facts
across-returns-in_err-eq-clause-facts t c = c.contraction.ensures.facts

pub across-returns-in_err-eq-clause-gives : goal.across-returns-in_err-eq-clause-gives
across-returns-in_err-eq-clause-gives t c = err_free c.from_residual.result _ c.from_residual.ensures.0

pub across-lifted-requires-clause-t : goal.across-lifted-requires-clause-t
across-lifted-requires-clause-t t c = given_stays c.args.log.now c.contraction.new.log c.args.t.now c.contraction.ensures.kept c.requires.t

pub across-lifted-requires-clause-eq : goal.across-lifted-requires-clause-eq
across-lifted-requires-clause-eq t c = c.in_ok-eq.ensures.gives.is_thm

pub across-lifted-requires-clause-is : goal.across-lifted-requires-clause-is
across-lifted-requires-clause-is t c = contraction_equal c.args.log.now.env.sig c.crossed-crossing.result.rest.now c.crossed-crossing.result.part.now c.contraction.new.log c.in_ok-eq.eq.0 c.in_ok-eq.ensures.gives

pub across-lifted-requires-clause-part : goal.across-lifted-requires-clause-part
across-lifted-requires-clause-part t c = across_part c.args.log.now c.contraction.new.log (c.args.side ∷ c.crossed-crossing.result.way.now) c.crossed-crossing.result.rest.now (c.args.side ∷ c.args.rest.now) c.in_ok-eq.eq.0 c.args.t.now c.crossed-crossing.result.part.now c.contraction.ensures.kept (through_child c.args.side c.crossed-crossing.result.way.now c.args.t.now c.args.child.now c.crossed-crossing.result.part.now c.requires.child c.crossed-crossing.ensures.part) (ap (λ z. c.args.side ∷ z) c.crossed-crossing.ensures.path) c.in_ok-eq.ensures.gives

pub across-returns-clause-kept : goal.across-returns-clause-kept
across-returns-clause-kept t c = extends_trans _ _ _ c.contraction.ensures.kept c.lifted.ensures.kept

pub across-returns-clause-facts : goal.across-returns-clause-facts
across-returns-clause-facts t c = c.lifted.ensures.facts ∙ c.contraction.ensures.facts

pub across-returns-clause-gives : goal.across-returns-clause-gives
across-returns-clause-gives t c = gives_as c.lifted.result c.lifted.new.log _ _ (across_is c.args.log.now c.contraction.new.log (c.args.side ∷ c.crossed-crossing.result.way.now) c.crossed-crossing.result.rest.now (c.args.side ∷ c.args.rest.now) c.in_ok-eq.eq.0 c.args.t.now c.crossed-crossing.result.part.now c.contraction.ensures.kept (through_child c.args.side c.crossed-crossing.result.way.now c.args.t.now c.args.child.now c.crossed-crossing.result.part.now c.requires.child c.crossed-crossing.ensures.part) (ap (λ z. c.args.side ∷ z) c.crossed-crossing.ensures.path) c.in_ok-eq.ensures.gives) c.lifted.ensures.gives

pub below-across-requires : goal.below-across-requires
below-across-requires t c = (omega (arith, c.decreases), (c.requires, ap (part_at (0 ∷ [])) (c.in-App.is ∙ apply_is c.in-App.f c.in-App.x) ∙ left_part [] c.in-App.f c.in-App.x ∙ ap (λ z. Some z) (sym c.get.ensures)))

pub below-across-requires-then-first-eq1 : goal.below-across-requires-then-first-eq1
below-across-requires-then-first-eq1 t c = (omega (arith, c.decreases), (c.requires, ap (part_at (1 ∷ [])) (c.in-App.is ∙ apply_is c.in-App.f c.in-App.x) ∙ right_part [] c.in-App.f c.in-App.x ∙ ap (λ z. Some z) (sym c.get-then-first-eq1.ensures)))

pub below-returns-then-first-eq0-clause-kept : goal.below-returns-then-first-eq0-clause-kept
below-returns-then-first-eq0-clause-kept t c = c.across.ensures.kept

pub below-returns-then-first-eq0-clause-facts : goal.below-returns-then-first-eq0-clause-facts
below-returns-then-first-eq0-clause-facts t c = c.across.ensures.facts

pub below-returns-then-first-eq0-clause-gives : goal.below-returns-then-first-eq0-clause-gives
below-returns-then-first-eq0-clause-gives t c = gives_as c.across.result c.across.new.log _ _ (ap (λ d. contraction c.args.log.now.env.sig (d ∷ c.args.rest.now) c.args.t.now) (sym c.if-first-eq0.true)) c.across.ensures.gives

pub below-returns-then-first-eq1-clause-kept : goal.below-returns-then-first-eq1-clause-kept
below-returns-then-first-eq1-clause-kept t c = c.across-then-first-eq1.ensures.kept

pub below-returns-then-first-eq1-clause-facts : goal.below-returns-then-first-eq1-clause-facts
below-returns-then-first-eq1-clause-facts t c = c.across-then-first-eq1.ensures.facts

pub below-returns-then-first-eq1-clause-gives : goal.below-returns-then-first-eq1-clause-gives
below-returns-then-first-eq1-clause-gives t c = gives_as c.across-then-first-eq1.result c.across-then-first-eq1.new.log _ _ (ap (λ d. contraction c.args.log.now.env.sig (d ∷ c.args.rest.now) c.args.t.now) (sym c.if-first-eq1.true)) c.across-then-first-eq1.ensures.gives
