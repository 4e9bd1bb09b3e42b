-- Facts and goals of an environment are sentences, and what is made of them are their sources.
use Rattle.std.proofs.Common.{◌≡◌, ℕ, zero, suc, ◌<◌, Bool, true, false, IsTrue, List, [], ◌∷◌, ◌++◌, length, slice_get, ap, subst, refl, sym, ◌∙◌, arith}
use Rattle.std.specs.Prelude.{Result, Ok, Err, unwrap_or}
use Rattle.std.specs.List.{list_all}
use Rattle.std.specs.FinSet as set
use Rattle.hol_terms.specs.declared.env.Env.{Env}
use Rattle.hol_terms.specs.declared.sig.Sig.{Sig}
use Rattle.hol_terms.specs.declared.term.Term.{Term}
use Rattle.hol_terms.specs.Formulas.{IsSentence, is_sentence}
use Rattle.hol_terms.proofs.Both.{both_true}
use Rattle.hyp_sets.specs.Sets.{TermSet, only}
use Rattle.kernel_rules.specs.Connectives.{verum, neg}
use Rattle.kernel_rules.specs.Derivations.{leaves}
use Rattle.kernel_rules.specs.declared.step.Step.{Step}
use Rattle.kernel_rules.specs.declared.step.Step.TheVariants as step
use Rattle.hol_kernel.specs.Logs.{Logged, fact_at}
use Rattle.hol_kernel.specs.Growth.{Extends, Appends, SameFacts}
use Rattle.hol_kernel.proofs.FactSteps.{leaves_joined}
use Rattle.lambda_lift.specs.declared.table.Aux.{Aux}
use Rattle.lambda_lift.specs.Standing.{Each, StandsAlone}
use Rattle.formula_clauses.specs.declared.clausifying.LiftedClauses.{LiftedClauses}
use Rattle.formula_clauses.specs.Clausified.{IsLiftedClauses}
use Rattle.formula_clauses.specs.Fits.{fits}
use Rattle.hol_clausify.specs.declared.source.Source.{Source}
use Rattle.hol_clausify.specs.Typed.{IsTypedClause}
use Rattle.hol_clausify.specs.Sources.{AreSources, literals_of}
use Rattle.hol_clausify.specs.inner.Lifted.{AreMade}
use Rattle.hol_clausify.proofs.ClausesTyped.{clauses_typed}

get_passes : (p : Term → Bool) (xs : List Term) (n : ℕ) → n < length xs → IsTrue (list_all p xs) → IsTrue (p (unwrap_or (slice_get xs n) verum))
get_passes p [] n h all = absurd (omega (arith, h))
get_passes p (x ∷ xs) zero h all = (both_true (p x) (list_all p xs) all).0
get_passes p (x ∷ xs) (suc n) h all = get_passes p xs n (omega (arith, h)) (both_true (p x) (list_all p xs) all).1

pub fact_sentence : (env : Env) (n : ℕ) → n < length env.facts → IsSentence env.sig (fact_at env n)
unfolding fact_at
fact_sentence env n h = get_passes (is_sentence env.sig) env.facts n h env.facts_are_sentences

pub goal_sentence : (env : Env) → IsSentence env.sig env.goal
goal_sentence env = env.goal_is_sentence

-- a fact step adds its fact
pub fact_leaf : (old new : Logged) (fact r : ℕ) → Appends old new (step.Fact fact) r → leaves new.steps ≡ leaves old.steps ++ fact ∷ []
fact_leaf old new fact r a = ap leaves a.steps ∙ leaves_joined old.steps (step.Fact fact ∷ [])

-- the sources of a formula, from what is made of it over a log that has grown since
pub are_sources : (log : Logged) (goal : Bool) (base : TermSet) (t : Term) (old new : List Aux) (made : LiftedClauses) (ss : List Source) → IsSentence log.env.sig t → Each (StandsAlone log.env.sig) old →
    fits log.env.sig t goal ≡ true → IsLiftedClauses log.env.sig old t goal made new → AreMade log base made new ss → AreSources goal base t old log ss new
are_sources log goal base t old new made ss sentence alone fitting is m =
    let typed = clauses_typed log.env.sig old t goal log.env.has_bool alone sentence in
    let table_is = is.clauses.1 in
    record {
      fitting = fitting;
      clauses = (m.literals ∙ is.clauses.0, table_is);
      sources = m.sources;
      typed = λ i c at. subst (λ z. IsTypedClause log.env.sig z c) (sym table_is) (typed.typed i c (ap (λ z. slice_get z i) (sym (m.literals ∙ is.clauses.0)) ∙ at));
      grown = (typed.more, table_is ∙ typed.grown);
      alone = subst (Each (StandsAlone log.env.sig)) (sym table_is) typed.alone;
    }
