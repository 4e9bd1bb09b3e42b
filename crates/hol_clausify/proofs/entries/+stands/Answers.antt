use Rattle.std.proofs.Common.{refl, ◌≡◌, ◌<◌, ◌≤◌, ◌-◌, suc, List, [], ◌∷◌, length, drop, take, get_or, ◌∙◌, sym, ap, subst, arith}
use Rattle.std.specs.FinSet as set
use Rattle.hol_terms.specs.declared.term.Term.{Term}
use Rattle.hol_terms.specs.declared.konst.Konst.TheVariants as konst
use Rattle.hol_terms.specs.Formulas.{IsFormula}
use Rattle.kernel_rules.specs.Connectives.{conj, apply, constant}
use Rattle.kernel_rules.specs.Rules.{seq}
use Rattle.hol_kernel.specs.Logs.{thm}
use Rattle.hol_kernel.proofs.Growing.{extends_trans, thm_stays, gives_stays}
use Rattle.hol_kernel.proofs.Making.{err_free}
use Rattle.hol_derived.proofs.Cuts.{gives_as}
use Rattle.hol_derived.proofs.Unions.{none_joined}
use Rattle.lambda_lift.specs.declared.table.Aux.{Aux}
use Rattle.lambda_lift.specs.Standing.{Each, StandsAlone}
use Rattle.lambda_lift.specs.Tables.{expand}
use Rattle.lambda_lift.specs.Wholes.{conjunction}
use Rattle.lambda_lift.proofs.Expansions.{expand_app, expand_con}
use Rattle.hol_clausify.specs.inner.Identities.{IsEquation}
use Rattle.hol_clausify.proofs.Firsts.{split, shorter}
use Rattle.hol_clausify.proofs.entries.+stands.Goals as goal

-- `E1 & (.. & Em)`, expanded
expand_both : (table : List Aux) (s t : Term) → conj (expand table s) (expand table t) ≡ expand table (conj s t)
expand_both table s t =
    sym (expand_app table (apply (constant konst.And) s) t
    ∙ ap (λ f. apply f (expand table t)) (expand_app table (constant konst.And) s ∙ ap (λ f. apply f (expand table s)) (expand_con table konst.And)))

pub equations_stand-equation_stands-requires-clause-t : goal.equations_stand-equation_stands-requires-clause-t
equations_stand-equation_stands-requires-clause-t t c = c.requires.equations 0 c.args.first.now refl

pub equations_stand-equation_stands-requires-clause-formula : goal.equations_stand-equation_stands-requires-clause-formula
equations_stand-equation_stands-requires-clause-formula t c = c.requires.formulas 0 c.args.first.now refl

pub equations_stand-with_others-requires : goal.equations_stand-with_others-requires
equations_stand-with_others-requires t c =
    let apart = split c.args.more.now c.second-item.result c.in-len1-up.len_at_least c.second-item.is in
    let less = shorter c.args.more.now c.in-len1-up.len_at_least in (
      omega (arith, c.decreases, less),
      (
        c.requires.table,
        (
          subst (λ l. Each (IsEquation c.args.log.now.env.sig c.args.table.now) (c.args.first.now ∷ l)) apart c.requires.equations,
          subst (λ l. Each (λ u. IsFormula c.args.log.now.env.sig (expand c.args.table.now u)) (c.args.first.now ∷ l)) apart c.requires.formulas,
        ),
      ),
    )

pub with_others-equation_stands-requires-clause-t : goal.with_others-equation_stands-requires-clause-t
with_others-equation_stands-requires-clause-t t c = c.requires.equations 0 c.args.first.now refl

pub with_others-equation_stands-requires-clause-formula : goal.with_others-equation_stands-requires-clause-formula
with_others-equation_stands-requires-clause-formula t c = c.requires.formulas 0 c.args.first.now refl

pub with_others-equation_stands-requires-clause-table : goal.with_others-equation_stands-requires-clause-table
with_others-equation_stands-requires-clause-table t c = c.requires.table

pub with_others-returns-in_err-one-clause-kept : goal.with_others-returns-in_err-one-clause-kept
with_others-returns-in_err-one-clause-kept t c = c.equation_stands.ensures.kept

pub with_others-returns-in_err-one-clause-facts : goal.with_others-returns-in_err-one-clause-facts
with_others-returns-in_err-one-clause-facts t c = c.equation_stands.ensures.facts

pub with_others-returns-in_err-one-clause-gives : goal.with_others-returns-in_err-one-clause-gives
with_others-returns-in_err-one-clause-gives t c = err_free c.from_residual.result _ c.from_residual.ensures.0

pub with_others-equations_stand-requires : goal.with_others-equations_stand-requires
with_others-equations_stand-requires t c =
    let env = c.equation_stands.ensures.kept.env in (
      omega (arith, c.decreases),
      (
        λ i e at. subst (λ v. StandsAlone v.sig e) (sym env) (c.requires.table i e at),
        (
          λ i u at. subst (λ v. IsEquation v.sig c.args.table.now u) (sym env) (c.requires.equations (suc i) u at),
          λ i u at. subst (λ v. IsFormula v.sig (expand c.args.table.now u)) (sym env) (c.requires.formulas (suc i) u at),
        ),
      ),
    )

pub with_others-returns-in_err-others-clause-kept : goal.with_others-returns-in_err-others-clause-kept
with_others-returns-in_err-others-clause-kept t c = extends_trans _ _ _ c.equation_stands.ensures.kept c.equations_stand.ensures.kept

pub with_others-returns-in_err-others-clause-facts : goal.with_others-returns-in_err-others-clause-facts
with_others-returns-in_err-others-clause-facts t c = c.equations_stand.ensures.facts ∙ c.equation_stands.ensures.facts

pub with_others-returns-in_err-others-clause-gives : goal.with_others-returns-in_err-others-clause-gives
with_others-returns-in_err-others-clause-gives t c = err_free c.from_residual-in_err-others.result _ c.from_residual-in_err-others.ensures.0

pub with_others-and_intro-requires-clause-a : goal.with_others-and_intro-requires-clause-a
with_others-and_intro-requires-clause-a t c = thm_stays _ _ c.in_ok-one.one.0 c.equations_stand.ensures.kept c.in_ok-one.ensures.gives.is_thm

pub with_others-and_intro-requires-clause-b : goal.with_others-and_intro-requires-clause-b
with_others-and_intro-requires-clause-b t c = c.in_ok-others.ensures.gives.is_thm

pub with_others-returns-clause-kept : goal.with_others-returns-clause-kept
with_others-returns-clause-kept t c = extends_trans _ _ _ c.equation_stands.ensures.kept (extends_trans _ _ _ c.equations_stand.ensures.kept c.and_intro.ensures.kept)

pub with_others-returns-clause-facts : goal.with_others-returns-clause-facts
with_others-returns-clause-facts t c = c.and_intro.ensures.facts ∙ c.equations_stand.ensures.facts ∙ c.equation_stands.ensures.facts

pub with_others-returns-clause-gives : goal.with_others-returns-clause-gives
with_others-returns-clause-gives t c =
    let table = c.args.table.now in
    let others = conjunction c.args.second.now c.args.rest.now in
    let one = gives_stays _ _ c.in_ok-one.one.0 (seq set.empty (expand table c.args.first.now)) c.equations_stand.ensures.kept c.in_ok-one.ensures.gives in
    gives_as c.and_intro.result c.and_intro.new.self _ _
    ((λ i. seq (set.union (one.is i).hyps (c.in_ok-others.ensures.gives.is i).hyps) (conj (one.is i).concl (c.in_ok-others.ensures.gives.is i).concl))
    ∙ (λ i. seq (none_joined set.empty i) (expand_both table c.args.first.now others i))) c.and_intro.ensures.gives
