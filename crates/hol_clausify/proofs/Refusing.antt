-- What doesn't fit is refused, and what fits has its sources.
use Rattle.std.proofs.Common.{◌≡◌, ℕ, Bool, true, false, List, slice_get, ap, subst, refl, sym, ◌∙◌, Some}
use Rattle.std.specs.Prelude.{Result, Ok, Err, unwrap_or, IsErrAnd}
use Rattle.hol_terms.specs.declared.env.Env.{Env}
use Rattle.hol_terms.specs.declared.term.Term.{Term}
use Rattle.hol_terms.specs.Formulas.{IsSentence}
use Rattle.hyp_sets.specs.Sets.{TermSet}
use Rattle.kernel_rules.specs.Connectives.{verum}
use Rattle.hol_kernel.specs.Logs.{Logged, fact_at}
use Rattle.hol_kernel.specs.Growth.{Extends}
use Rattle.lambda_lift.specs.declared.table.Aux.{Aux}
use Rattle.lambda_lift.specs.Standing.{Each, StandsAlone}
use Rattle.formula_clauses.specs.declared.clausifying.LiftedClauses.{LiftedClauses}
use Rattle.formula_clauses.specs.declared.fault.ClauseFault.{ClauseFault}
use Rattle.formula_clauses.specs.declared.fault.ClauseFault.TheVariants.{TooLarge, NoMemory}
use Rattle.formula_clauses.specs.Clausified.{IsLiftedClauses, ClausifiesLifted}
use Rattle.formula_clauses.specs.Fits.{fits}
use Rattle.hol_clausify.specs.declared.source.Source.{Source}
use Rattle.hol_clausify.specs.Sources.{AreSources, FactSources, GoalSources}
use Rattle.hol_clausify.specs.inner.Lifted.{IsMade, AreMade}
use Rattle.hol_clausify.proofs.Facts.{are_sources}

-- the fact that is lent is the environment's
pub fact_is : (env lent : Env) (n : ℕ) (t : Term) → lent ≡ env → slice_get lent.facts n ≡ Some t → t ≡ fact_at env n
unfolding fact_at
fact_is env lent n t same at = sym (ap (λ o. unwrap_or o verum) (ap (λ (e : Env). slice_get e.facts n) (sym same) ∙ at))

-- ---- refusals
pub fact_refused : (fact : ℕ) (log : Logged) (env : Env) (t : Term) (old new : List Aux) (r : Result (List Source) ClauseFault) (e : ClauseFault) → env ≡ log.env → t ≡ fact_at log.env fact →
    IsErrAnd r (λ x. x ≡ e) → ClausifiesLifted env.sig old t false (Err e) new → FactSources fact log old r log new
fact_refused fact log env t old new (Ok x) e same is h k = absurd h
fact_refused fact log env t old new (Err x) TooLarge same is h k =
    subst (λ z. FactSources fact log old (Err z) log new) (sym h)
    (record { unfitting = (λ i. fits (sym same i).sig (sym is i) false) ∙ k.0; log = refl; table = k.1 })
fact_refused fact log env t old new (Err x) NoMemory same is h k = subst (λ z. FactSources fact log old (Err z) log new) (sym h) tt

pub goal_refused : (log : Logged) (env : Env) (old new : List Aux) (r : Result (List Source) ClauseFault) (e : ClauseFault) → env ≡ log.env → IsErrAnd r (λ x. x ≡ e) →
    ClausifiesLifted env.sig old env.goal true (Err e) new → GoalSources log old r log new
goal_refused log env old new (Ok x) e same h k = absurd h
goal_refused log env old new (Err x) TooLarge same h k =
    subst (λ z. GoalSources log old (Err z) log new) (sym h) (record { unfitting = (λ i. fits (sym same i).sig (sym same i).goal true) ∙ k.0; log = refl; table = k.1 })
goal_refused log env old new (Err x) NoMemory same h k = subst (λ z. GoalSources log old (Err z) log new) (sym h) tt

-- ---- what fits
module _ (old : Logged) (env : Env) (same : env ≡ old.env) (goal : Bool) (t : Term) (sentence : IsSentence old.env.sig t) (table after : List Aux) (alone : Each (StandsAlone old.env.sig) table) (made : LiftedClauses)
    (fitting : ClausifiesLifted env.sig table t goal (Ok made) after) where
  lifted_clauses : IsLiftedClauses old.env.sig table t goal made after
  lifted_clauses = subst (λ (e : Env). IsLiftedClauses e.sig table t goal made after) same fitting.1

  pub is_made : (m : IsMade old.env.sig goal made after) × (m.formula ≡ t)
  is_made = (record { has_bool = old.env.has_bool; old = table; old_alone = alone; formula = t; sentence = sentence; is = lifted_clauses }, refl)

  pub sources_are : (new : Logged) (base : TermSet) (ss : List Source) → Extends old new → AreMade new base made after ss → AreSources goal base t table new ss after
  sources_are new base ss kept m =
      let back = sym kept.env in
      are_sources new goal base t table after made ss (subst (λ (e : Env). IsSentence e.sig t) back sentence) (subst (λ (e : Env). Each (StandsAlone e.sig) table) back alone)
      (subst (λ (e : Env). fits e.sig t goal ≡ true) (same ∙ back) fitting.0) (subst (λ (e : Env). IsLiftedClauses e.sig table t goal made after) back lifted_clauses) m
