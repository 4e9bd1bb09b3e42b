use Rattle.std.proofs.Common.{refl, IsTrue, ◌≡◌, ◌<◌, length, ◌∙◌, sym, ap, subst, arith}
use Rattle.std.specs.FinSet as set
use Rattle.hol_terms.specs.declared.term.Term.{Term}
use Rattle.hol_terms.specs.Types.{ty_fits}
use Rattle.hol_terms.specs.Substitution.{instantiated, occurs}
use Rattle.hyp_sets.specs.Sets.{absent}
use Rattle.kernel_rules.specs.Connectives.{lambda, lambda_over, all}
use Rattle.kernel_rules.specs.Rules.{seq}
use Rattle.hol_kernel.specs.Conditions.{own_ty, IsGiven}
use Rattle.hol_kernel.proofs.Growing.{extends_refl, extends_trans}
use Rattle.hol_kernel.proofs.Making.{err_free}
use Rattle.lambda_lift.specs.Equations.{run}
use Rattle.hol_derived.proofs.Cuts.{gives_as}
use Rattle.hol_derived.proofs.Expansions.{lambda_is, variable_is}
use Rattle.hol_derived.proofs.Downwards.{absent_none}
use Rattle.hol_clausify.specs.inner.Identities.{identity}
use Rattle.hol_clausify.proofs.Identities.{identity_none, run_other, inner_run, inner_less, fits, given_opened, closes}
use Rattle.hol_clausify.proofs.identity.+identity.Goals as goal

pub returns-in_err-n-in-Lam-form-clause-kept : goal.returns-in_err-n-in-Lam-form-clause-kept
returns-in_err-n-in-Lam-form-clause-kept t c = extends_refl c.args.log.now

pub returns-in_err-n-in-Lam-form-clause-facts : goal.returns-in_err-n-in-Lam-form-clause-facts
returns-in_err-n-in-Lam-form-clause-facts t c = refl

pub returns-in_err-n-in-Lam-form-clause-gives : goal.returns-in_err-n-in-Lam-form-clause-gives
returns-in_err-n-in-Lam-form-clause-gives t c = err_free c.from_residual.result _ c.from_residual.ensures.0

pub returns-in_err-body-in-Lam-form-clause-kept : goal.returns-in_err-body-in-Lam-form-clause-kept
returns-in_err-body-in-Lam-form-clause-kept t c = extends_refl c.args.log.now

pub returns-in_err-body-in-Lam-form-clause-facts : goal.returns-in_err-body-in-Lam-form-clause-facts
returns-in_err-body-in-Lam-form-clause-facts t c = refl

pub returns-in_err-body-in-Lam-form-clause-gives : goal.returns-in_err-body-in-Lam-form-clause-gives
returns-in_err-body-in-Lam-form-clause-gives t c = err_free c.from_residual-in_err-body-in-Lam-form.result _ c.from_residual-in_err-body-in-Lam-form.ensures.0

pub identity-below-requires : goal.identity-below-requires
identity-below-requires t c =
    let sig = c.args.log.now.env.sig in
    let a = c.in-Lam.a in
    let n = c.in_ok-n-in-Lam-form.n in
    let is = c.in-Lam.is ∙ lambda_is a c.in-Lam.b in
    let begins = c.in-Lam-form.is ∙ lambda_is c.in-Lam-form.field-0 c.in-Lam-form.inner in
    let body : instantiated c.in-Lam.b _ ≡ c.in_ok-body-in-Lam-form.body = sym (c.in_ok-body-in-Lam-form.ensures ∙ (λ i. instantiated (c.get-in-Lam-form.ensures i) (variable_is n a i))) in
    let inner = sym c.get-in-Lam-form-2.ensures in
    let less : length (run c.get-in-Lam-form-2.result.now) < length (run c.args.form.now) =
    subst (λ u. length (run u) < length (run c.args.form.now)) inner (inner_less sig n a c.in-Lam-form.field-0 c.args.t.now c.args.form.now c.in-Lam.b c.in-Lam-form.inner is begins) in (
      omega (arith, c.decreases, less),
      (
        ap run (sym inner) ∙ inner_run sig n a c.in-Lam-form.field-0 c.args.t.now c.args.form.now c.in-Lam.b c.in-Lam-form.inner is begins c.requires.form ∙ ap run body,
        subst (λ u. IsGiven sig u (own_ty sig u)) body (given_opened sig n a c.in-Lam-form.field-0 c.args.t.now c.args.form.now c.in-Lam.b c.in-Lam-form.inner is begins c.requires.t),
      ),
    )

pub returns-in_err-below-in-Lam-form-clause-kept : goal.returns-in_err-below-in-Lam-form-clause-kept
returns-in_err-below-in-Lam-form-clause-kept t c = c.identity-below.ensures.kept

pub returns-in_err-below-in-Lam-form-clause-facts : goal.returns-in_err-below-in-Lam-form-clause-facts
returns-in_err-below-in-Lam-form-clause-facts t c = c.identity-below.ensures.facts

pub returns-in_err-below-in-Lam-form-clause-gives : goal.returns-in_err-below-in-Lam-form-clause-gives
returns-in_err-below-in-Lam-form-clause-gives t c = err_free c.from_residual-in_err-below-in-Lam-form.result _ c.from_residual-in_err-below-in-Lam-form.ensures.0

pub all_intro-requires-clause-ty : goal.all_intro-requires-clause-ty
all_intro-requires-clause-ty t c =
    let a = c.in-Lam.a in
    subst (λ e. IsTrue (ty_fits e.sig.types a)) (sym c.identity-below.ensures.kept.env)
    (fits c.args.log.now.env.sig c.in_ok-n-in-Lam-form.n a c.in-Lam-form.field-0 c.args.t.now c.args.form.now c.in-Lam.b c.in-Lam-form.inner (c.in-Lam.is ∙ lambda_is a c.in-Lam.b)
    (c.in-Lam-form.is ∙ lambda_is c.in-Lam-form.field-0 c.in-Lam-form.inner) c.requires.t)

pub all_intro-requires-clause-a : goal.all_intro-requires-clause-a
all_intro-requires-clause-a t c = c.in_ok-below-in-Lam-form.ensures.gives.is_thm

pub all_intro-requires-clause-lacks : goal.all_intro-requires-clause-lacks
all_intro-requires-clause-lacks t c =
    subst (λ s. IsTrue (absent c.in_ok-n-in-Lam-form.n c.in-Lam.a s)) (sym (ap (λ q. q.hyps) c.in_ok-below-in-Lam-form.ensures.gives.is)) (absent_none c.in_ok-n-in-Lam-form.n c.in-Lam.a)

pub refl-requires : goal.refl-requires
refl-requires t c = c.requires.t

pub refl-requires-in_default : goal.refl-requires-in_default
refl-requires-in_default t c = c.requires.t

pub returns-in_ok-below-in-Lam-form-clause-kept : goal.returns-in_ok-below-in-Lam-form-clause-kept
returns-in_ok-below-in-Lam-form-clause-kept t c = extends_trans _ _ _ c.identity-below.ensures.kept c.all_intro.ensures.kept

pub returns-in_ok-below-in-Lam-form-clause-facts : goal.returns-in_ok-below-in-Lam-form-clause-facts
returns-in_ok-below-in-Lam-form-clause-facts t c = c.all_intro.ensures.facts ∙ c.identity-below.ensures.facts

pub returns-in_ok-below-in-Lam-form-clause-gives : goal.returns-in_ok-below-in-Lam-form-clause-gives
returns-in_ok-below-in-Lam-form-clause-gives t c =
    let sig = c.args.log.now.env.sig in
    let a = c.in-Lam.a in
    let n = c.in_ok-n-in-Lam-form.n in
    let is = c.in-Lam.is ∙ lambda_is a c.in-Lam.b in
    let begins = c.in-Lam-form.is ∙ lambda_is c.in-Lam-form.field-0 c.in-Lam-form.inner in
    let body = c.in_ok-body-in-Lam-form.ensures ∙ (λ i. instantiated (c.get-in-Lam-form.ensures i) (variable_is n a i)) in
    gives_as c.all_intro.result c.all_intro.new.self _ _
    ((λ i. seq (c.in_ok-below-in-Lam-form.ensures.gives.is i).hyps (all a (lambda_over n a (c.in_ok-below-in-Lam-form.ensures.gives.is i).concl)))
    ∙ ap (λ u. seq set.empty (all a (lambda_over n a (identity (own_ty sig u) u)))) body
    ∙ ap (seq set.empty)
    (closes sig n a c.in-Lam-form.field-0 c.args.t.now c.args.form.now c.in-Lam.b c.in-Lam-form.inner is begins c.requires.t (ap (occurs n a) (sym c.get.ensures) ∙ c.in_ok-n-in-Lam-form.ensures)))
    c.all_intro.ensures.gives

pub returns-in_default-form : goal.returns-in_default-form
returns-in_default-form t c =
    record {
      kept = c.refl.ensures.kept;
      facts = c.refl.ensures.facts;
      gives =
          gives_as c.refl.result c.refl.new.self _ _
          (ap (seq set.empty) (sym (identity_none (own_ty c.args.log.now.env.sig c.args.t.now) c.args.t.now (sym c.requires.form ∙ run_other c.args.form.now c.in_default-form.not-Lam)))) c.refl.ensures.gives;
    }

pub returns-in_default : goal.returns-in_default
returns-in_default t c =
    record {
      kept = c.refl-in_default.ensures.kept;
      facts = c.refl-in_default.ensures.facts;
      gives =
          gives_as c.refl-in_default.result c.refl-in_default.new.self _ _
          (ap (seq set.empty) (sym (identity_none (own_ty c.args.log.now.env.sig c.args.t.now) c.args.t.now (run_other c.args.t.now c.in_default.not-Lam)))) c.refl-in_default.ensures.gives;
    }
