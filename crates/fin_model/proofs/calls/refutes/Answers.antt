use Rattle.std.proofs.Common.{◌&&◌, [], sym, ◌∙◌, subst, Bool, List, ℕ, Ok, Err}
use Rattle.std.specs.Prelude.{All, IsTrue}
use Rattle.model_truth.specs.Truth.{IsValid, FactIsTrue, Refutes, HasNoProof}
use Rattle.model_truth.proofs.Derivations.{no_proof}
use Rattle.fin_model.specs.Limits.{is_within}
use Rattle.fin_model.specs.Refutation.{Tells, facts_within}
use Rattle.fin_model.proofs.Models.{fits_is_model}
use Rattle.fin_model.proofs.Telling.{err_tells, refused, first_false, second_false, refutes_tells, nothing_promised}
use Rattle.fin_model.proofs.calls.refutes.Goals as goal

pub are_true_facts-requires : goal.are_true_facts-requires
are_true_facts-requires c = c.requires

pub is_true-requires-clause-fits : goal.is_true-requires-clause-fits
is_true-requires-clause-fits c = c.requires

pub is_true-requires-clause-sentence : goal.is_true-requires-clause-sentence
is_true-requires-clause-sentence c = c.args.env.now.goal_is_sentence

pub returns-in_err-facts_hold-clause-answer : goal.returns-in_err-facts_hold-clause-answer
returns-in_err-facts_hold-clause-answer c =
    err_tells (Refutes c.args.env.now c.args.model.now c.args.facts.now) (facts_within c.args.env.now c.args.model.now c.args.facts.now && is_within c.args.env.now.sig c.args.model.now c.args.env.now.goal []) c.from_residual.result c.in_err-facts_hold.field-0.0 c.from_residual.ensures.1
    (refused (All (FactIsTrue c.args.env.now c.args.model.now) c.args.facts.now) (Refutes c.args.env.now c.args.model.now c.args.facts.now) (facts_within c.args.env.now c.args.model.now c.args.facts.now) (facts_within c.args.env.now c.args.model.now c.args.facts.now && is_within c.args.env.now.sig c.args.model.now c.args.env.now.goal []) c.in_err-facts_hold.field-0.0 (first_false (facts_within c.args.env.now c.args.model.now c.args.facts.now) (is_within c.args.env.now.sig c.args.model.now c.args.env.now.goal [])) (subst (λ (fs : List ℕ). Tells (All (FactIsTrue c.args.env.now c.args.model.now) fs) (facts_within c.args.env.now c.args.model.now fs) (Err c.in_err-facts_hold.field-0.0)) c.as_slice.ensures c.in_err-facts_hold.ensures))

pub returns-in_err-facts_hold-clause-no_proof : goal.returns-in_err-facts_hold-clause-no_proof
returns-in_err-facts_hold-clause-no_proof c = nothing_promised c.from_residual.result c.in_err-facts_hold.field-0.0 (λ (b : Bool). IsTrue b → HasNoProof c.args.env.now c.args.facts.now) c.from_residual.ensures.1

pub returns-in_err-goal_holds-clause-answer : goal.returns-in_err-goal_holds-clause-answer
returns-in_err-goal_holds-clause-answer c =
    err_tells (Refutes c.args.env.now c.args.model.now c.args.facts.now) (facts_within c.args.env.now c.args.model.now c.args.facts.now && is_within c.args.env.now.sig c.args.model.now c.args.env.now.goal []) c.from_residual-in_err-goal_holds.result c.in_err-goal_holds.field-0.0 c.from_residual-in_err-goal_holds.ensures.1
    (refused (IsValid c.args.env.now.sig c.args.model.now c.args.env.now.goal) (Refutes c.args.env.now c.args.model.now c.args.facts.now) (is_within c.args.env.now.sig c.args.model.now c.args.env.now.goal []) (facts_within c.args.env.now c.args.model.now c.args.facts.now && is_within c.args.env.now.sig c.args.model.now c.args.env.now.goal []) c.in_err-goal_holds.field-0.0 (second_false (facts_within c.args.env.now c.args.model.now c.args.facts.now) (is_within c.args.env.now.sig c.args.model.now c.args.env.now.goal [])) c.in_err-goal_holds.ensures)

pub returns-in_err-goal_holds-clause-no_proof : goal.returns-in_err-goal_holds-clause-no_proof
returns-in_err-goal_holds-clause-no_proof c =
    nothing_promised c.from_residual-in_err-goal_holds.result c.in_err-goal_holds.field-0.0 (λ (b : Bool). IsTrue b → HasNoProof c.args.env.now c.args.facts.now) c.from_residual-in_err-goal_holds.ensures.1

pub returns-clause-answer : goal.returns-clause-answer
returns-clause-answer c = subst (λ (b : Bool). Tells (Refutes c.args.env.now c.args.model.now c.args.facts.now) (facts_within c.args.env.now c.args.model.now c.args.facts.now && is_within c.args.env.now.sig c.args.model.now c.args.env.now.goal []) (Ok b)) (sym c.both.ensures) (refutes_tells c.args.env.now c.args.model.now c.args.facts.now c.in_ok-facts_hold.facts_hold c.in_ok-goal_holds.goal_holds (subst (λ (fs : List ℕ). Tells (All (FactIsTrue c.args.env.now c.args.model.now) fs) (facts_within c.args.env.now c.args.model.now fs) (Ok c.in_ok-facts_hold.facts_hold)) c.as_slice.ensures c.in_ok-facts_hold.ensures) c.in_ok-goal_holds.ensures)

pub returns-clause-no_proof : goal.returns-clause-no_proof
returns-clause-no_proof c =
    λ h. no_proof c.args.env.now c.args.model.now (fits_is_model c.args.env.now.sig c.args.model.now c.requires) c.args.facts.now ((refutes_tells c.args.env.now c.args.model.now c.args.facts.now c.in_ok-facts_hold.facts_hold c.in_ok-goal_holds.goal_holds (subst (λ (fs : List ℕ). Tells (All (FactIsTrue c.args.env.now c.args.model.now) fs) (facts_within c.args.env.now c.args.model.now fs) (Ok c.in_ok-facts_hold.facts_hold)) c.as_slice.ensures c.in_ok-facts_hold.ensures) c.in_ok-goal_holds.ensures).0.0 (sym c.both.ensures ∙ h))
