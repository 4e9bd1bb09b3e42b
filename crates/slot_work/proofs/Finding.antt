-- What a search that ended tells of the facts.
use Rattle.std.proofs.Common.{◌≡◌, ℕ, Bool, true, false, IsTrue, List, [], ◌∷◌, refl, sym, ap, subst, ◌∙◌}
use Rattle.std.specs.Prelude.{All, Contains, MatchBool, Result, Ok, Err, IfOk}
use Rattle.formula_clauses.specs.declared.fault.ClauseFault.{ClauseFault}
use Rattle.formula_clauses.specs.declared.fault.ClauseFault.TheVariants.{TooLarge}
use Rattle.std.proofs.lemmas.List.Elements.{All-contains_itself}
use Rattle.hol_terms.specs.declared.env.Env.{Env}
use Rattle.hol_terms.specs.declared.term.Term.{Term}
use Rattle.kernel_rules.specs.Derivations.{Proves, leaves}
use Rattle.hol_kernel.specs.declared.proven.Proven.{Proven}
use Rattle.metis_core.specs.Offer.{End, found, saturated, spent}
use Rattle.fo_infer.specs.Inferences.{tagged_position}
use Rattle.fo_infer.specs.Lines.{Refutes}
use Rattle.fo_infer.specs.declared.refutation.Refutation.{Refutation}
use Rattle.fact_minimise.specs.Sublists.{IsSublist, without}
use Rattle.fact_minimise.specs.Minimal.{IsMinimal}
use Rattle.fact_minimise.proofs.Shorter.{sublist-self, sublist-without}
use Rattle.goal_search.specs.declared.ended.Ended.{Ended}
use Rattle.goal_search.specs.declared.ended.Ended.TheVariants as ended
use Rattle.goal_search.specs.Encoded.{inputs}
use Rattle.goal_search.specs.Fitting.{fits_at, CanSearch, MadeIf}
use Rattle.goal_search.specs.Found.{EndsAs, Found, Ends, was_found, given_with}
use Rattle.goal_search.proofs.Ending.{one_end}
use Rattle.slot_work.specs.Replays.{IsProof, Minimal}
use Rattle.slot_work.specs.inner.Finding.{Finds}
use Rattle.slot_work.proofs.Places.{sublist_all}

-- ---- one search
module _ (env : Env) (facts : List ℕ) (budget : ℕ) where
  not_found : (e : End) → (found ≡ e → ⊥) → EndsAs env facts budget e → Found env facts budget → ⊥
  not_found e apart other here = apart (one_end (given_with (inputs env facts) budget) found e here other)

  not_saturated : found ≡ saturated → ⊥
  not_saturated h = cc

  not_spent : found ≡ spent → ⊥
  not_spent h = cc

  pub search_tells : CanSearch env facts → (e : Ended) → Ends (inputs env facts) budget e → MatchBool (was_found e) (Finds env budget facts) (Finds env budget facts → ⊥)
  search_tells can (ended.Found r) h = record { can = can; found = h.0 }
  search_tells can ended.Saturated h = λ f. not_found saturated not_saturated h f.found
  search_tells can ended.Spent h = λ f. not_found spent not_spent h f.found

  pub finds_so : Finds env budget facts → (e : Ended) → Ends (inputs env facts) budget e → was_found e ≡ true
  finds_so f (ended.Found r) h = refl
  finds_so f ended.Saturated h = absurd (not_found saturated not_saturated h f.found)
  finds_so f ended.Spent h = absurd (not_found spent not_spent h f.found)

  pub refutes_so : (e : Ended) (r : Refutation) → e ≡ ended.Found r → Ends (inputs env facts) budget e → Refutes tagged_position (inputs env facts) r.lines
  refutes_so e r is h = (subst (Ends (inputs env facts) budget) is h).1

-- ---- minimal facts
module _ (env : Env) (budget : ℕ) where
  fit_without : (f : ℕ) (facts : List ℕ) → CanSearch env facts → CanSearch env (without f facts)
  fit_without f facts can = record { facts_fit = sublist_all (λ n. IsTrue (fits_at env n)) (sublist-without f facts) can.facts_fit; goal_fits_too = can.goal_fits_too }

  pub minimal_so : (facts : List ℕ) → IsMinimal (Finds env budget) facts → Minimal env facts budget
  minimal_so facts is = record {
    found = is.found.found;
    none_to_spare = λ f h found. is.none_to_spare f h (record { can = fit_without f facts is.found.can; found = found });
  }

pub is_proof : (env : Env) (used : List ℕ) (budget : ℕ) (kept : List ℕ) (p : Proven) → IsSublist kept used → IsMinimal (Finds env budget) kept → p.names ≡ kept → Proves env p.steps → leaves p.steps ≡ kept →
    IsProof env used budget p
is_proof env used budget kept p sub minimal names proves from = record {
  sublist = subst (λ l. IsSublist l used) (sym names) sub;
  minimal = subst (λ l. Minimal env l budget) (sym names) (minimal_so env budget kept minimal);
  proves = proves;
  leaves_are = subst (λ l. All (λ n. Contains p.names n) l) (names ∙ sym from) (All-contains_itself p.names);
}

-- ---- how it ended, where the list was lent
pub found_by : (env : Env) (facts lent : List ℕ) (budget : ℕ) (e : Ended) (r : Refutation) → lent ≡ facts → e ≡ ended.Found r → CanSearch env lent → Ends (inputs env lent) budget e → Finds env budget facts
found_by env facts lent budget e r same is can h = subst (Finds env budget) same (record { can = can; found = (subst (Ends (inputs env lent) budget) is h).0 })

pub saturated_by : (env : Env) (facts lent : List ℕ) (budget : ℕ) (e : Ended) → lent ≡ facts → e ≡ ended.Saturated → Ends (inputs env lent) budget e → EndsAs env facts budget saturated
saturated_by env facts lent budget e same is h = subst (λ l. EndsAs env l budget saturated) same (subst (Ends (inputs env lent) budget) is h)

pub spent_by : (env : Env) (facts lent : List ℕ) (budget : ℕ) (e : Ended) → lent ≡ facts → e ≡ ended.Spent → Ends (inputs env lent) budget e → EndsAs env facts budget spent
spent_by env facts lent budget e same is h = subst (λ l. EndsAs env l budget spent) same (subst (Ends (inputs env lent) budget) is h)

pub not_refused : (env : Env) (lent : List ℕ) (budget : ℕ) (r : Result Ended ClauseFault) (f : ClauseFault) → r ≡ Err f → f ≡ TooLarge → MadeIf (CanSearch env lent) (Ends (inputs env lent) budget) r → CanSearch env lent → ⊥
not_refused env lent budget r f is large h can = refused (subst (λ q. MadeIf (CanSearch env lent) (Ends (inputs env lent) budget) q) (is ∙ ap Err large) h) can
  where
    refused : MadeIf (CanSearch env lent) (Ends (inputs env lent) budget) (Err TooLarge) → CanSearch env lent → ⊥
    refused h can = h can

pub if_ok_three : {T E : Type 0} (r : Result T E) (P Q R S : T → Type 0) → ((x : T) → P x → Q x → R x → S x) → IfOk r P → IfOk r Q → IfOk r R → IfOk r S
if_ok_three (Ok x) P Q R S f p q r = f x p q r
if_ok_three (Err e) P Q R S f p q r = tt
