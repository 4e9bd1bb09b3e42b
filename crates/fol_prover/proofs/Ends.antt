-- A reply from what a call says of its status and its text.
use Rattle.std.proofs.Common.{◌≡◌, ℕ, List, [], Result, Ok, Err, refl, sym, ap, subst, ◌∙◌}
use Rattle.std.specs.Prelude.{Option, Some, None}
use Rattle.std.specs.Result.{IfOk}
use Rattle.std.proofs.lemmas.List.{append-nil}
use Rattle.text_kit.specs.declared.NoMemory.{NoMemory}
use Rattle.race_outside.specs.Sinks.{TookAll, TookSome}
use Rattle.fo_terms.specs.declared.clause.Clause.{Clause}
use Rattle.metis_core.specs.declared.given.Given.{Given}
use Rattle.metis_core.specs.declared.given.Positions.TheVariants.{Plain}
use Rattle.metis_core.specs.declared.turn.Turn.TheVariants.{Saturated, Spent}
use Rattle.metis_core.specs.Offer.{saturated, spent}
use Rattle.metis_core.specs.Search.{Search}
use Rattle.metis_core.specs.Searched.{Searched, Stands, StandsAt, state}
use Rattle.tptp_syntax.specs.declared.problem.Problem.{Problem}
use Rattle.fol_cnf.specs.Clausified.{clauses_of}
use Rattle.fol_prover.specs.declared.child_end.ChildEnd.{ChildEnd}
use Rattle.fol_prover.specs.Proving.{given_of, inputs_of, EndsAs}
use Rattle.fol_prover.specs.Replies.{Heard, Told, Reply, Answered, told, cut_off}
use Rattle.fol_prover.specs.inner.Sinking.{IsPut, whole, part}

-- `R status text` holds of the status and the text of an end
pub end_with : (R : ℕ → List ℕ → Type 0) (r : Result ChildEnd NoMemory) (status : ℕ) (text : List ℕ) → R status text → IfOk r (λ e. (e.status ≡ status) × (e.text ≡ text)) → IfOk r (λ e. R e.status e.text)
end_with R (Ok e) status text holds h = subst (λ s. R s e.text) (sym h.0) (subst (R status) (sym h.1) holds)
end_with R (Err x) status text holds h = tt

pub if_ok_map : {T E : Type 0} (r : Result T E) (P Q : T → Type 0) → ((x : T) → P x → Q x) → IfOk r P → IfOk r Q
if_ok_map (Ok x) P Q f h = f x h
if_ok_map (Err e) P Q f h = tt

-- nothing was put
pub took_nothing : (taken : Option (List ℕ)) → TookAll taken [] taken
took_nothing (Some bytes) = sym (append-nil bytes)
took_nothing None = tt

-- the answer to words from a reply and what became of its text
pub answered_by : (words : List (List ℕ)) (i : Heard) (o : Told) (status result : ℕ) (text : List ℕ) → Reply words i status text → IsPut o text status result → Answered words i o result
answered_by words i o status result text reply (whole h) = told status text reply h
answered_by words i o status result text reply (part h rose) = cut_off status text reply h rose

-- ---- how a search ended

module _ (p : Problem) (budget age : ℕ) (s : Searched) (inputs : List Clause) (is : inputs ≡ inputs_of (clauses_of p))
    (given : s.given ≡ record { inputs = inputs; budget = budget; age = age; positions = Plain }) (stands : Stands s) where
  given_is : s.given ≡ given_of p budget age
  given_is = given ∙ ap (λ (cs : List Clause). record { inputs = cs; budget = budget; age = age; positions = Plain }) is

  pub saturates : Saturated ≡ s.reached → EndsAs p budget age saturated
  saturates e = (s.picks, (state s, subst (λ (g : Given). Search g saturated s.picks (state s)) given_is (subst (StandsAt s) (sym e) stands)))

  pub spends : Spent ≡ s.reached → EndsAs p budget age spent
  spends e = (s.picks, (state s, subst (λ (g : Given). Search g spent s.picks (state s)) given_is (subst (StandsAt s) (sym e) stands)))
