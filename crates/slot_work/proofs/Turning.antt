-- What the turns of a task come to.
use Rattle.std.proofs.Common.{◌≡◌, ℕ, ◌+◌, ◌*◌, ◌<◌, ◌≤◌, Bool, true, false, IsTrue, List, [], ◌∷◌, ◌++◌, length, refl, sym, ap, subst, ◌∙◌, arith, zero, suc}
use Rattle.std.specs.Prelude.{Contains, Option, Some, None, slice_get, All, ◌&&◌, codes, if◌then◌else◌}
use Rattle.std.specs.List.{list_any}
use Rattle.std.specs.Str.{bytes_eq}
use Rattle.std.proofs.lemmas.List.{length-map}
use Rattle.slot_work.specs.inner.Lookups.{FindsNames}
use Rattle.std.specs.Option.{option_map, option_map_or}
use Rattle.std.proofs.lemmas.Option.{slice_get-map}
use Rattle.std.proofs.Math.Nat.{mul-le-mul_left}
use Rattle.hol_terms.specs.declared.env.Env.{Env}
use Rattle.hol_terms.specs.declared.term.Term.{Term}
use Rattle.hol_terms.proofs.Both.{both_true}
use Rattle.hol_kernel.specs.declared.proven.Proven.{Proven}
use Rattle.theory_reader.specs.declared.statement.Fact.{Fact}
use Rattle.theory_reader.specs.declared.statement.Goal.{Goal}
use Rattle.theory_reader.specs.declared.theory.Theory.{Theory}
use Rattle.theory_reader.specs.Seen.{IsEnvOf, seen}
use Rattle.formula_clauses.specs.Fits.{fits}
use Rattle.race_core.specs.declared.outcome.Outcome.{Outcome}
use Rattle.race_core.specs.declared.outcome.Outcome.TheVariants as outcome
use Rattle.tstp_read.specs.declared.answer.UsedFault.{UsedFault}
use Rattle.tstp_read.specs.declared.answer.UsedFault.TheVariants as fault
use Rattle.tstp_read.specs.Used.{IsRefusedAs}
use Rattle.fact_minimise.specs.Sublists.{IsSublist}
use Rattle.fact_minimise.proofs.Shorter.{sublist-self}
use Rattle.goal_search.specs.Fitting.{fits_at, AllFit, goal_fits as goal_fits_in, CanSearch}
use Rattle.goal_search.specs.Found.{EndsAs, Found}
use Rattle.slot_work.specs.declared.slot.Slot.{Slot}
use Rattle.slot_work.specs.declared.stage.Stage.{Stage}
use Rattle.slot_work.specs.declared.stage.Stage.TheVariants as stage
use Rattle.slot_work.specs.declared.stage.Next.{Next}
use Rattle.slot_work.specs.declared.stage.Next.TheVariants as next
use Rattle.slot_work.specs.Visible.{signature, fact_fits, goal_fits, places_from, visible}
use Rattle.slot_work.specs.Replays.{From, IsProof}
use Rattle.slot_work.specs.Answers.{is_used, used_facts, IsReplay, Answers}
use Rattle.slot_work.specs.inner.Finding.{Finds}
use Rattle.slot_work.specs.inner.Tasks.{IsSlot, AreUsed, IsMinimising, StandsAt, is_over, left_at, beside, most_turns, IsNext, outcome_of_fault, BeginsWith, BeginsAt, Begins}
use Rattle.slot_work.proofs.Places.{places_few, places_pass, sublist_all}

-- ---- what fits
either : {X : Type 0} (f : Fact → X) (p : X → Bool) (o : Option Fact) → option_map_or p (option_map f o) false ≡ option_map_or (λ x. p (f x)) o false
either f p None = refl
either f p (Some x) = refl

module _ (t : Theory) (goal : ℕ) (e : Env) (is : IsEnvOf t goal e) where
  -- what fits over the environment fits over the theory
  pub fits_by : (n : ℕ) → fits_at e n ≡ option_map_or (fact_fits t) (slice_get (seen t goal) n) false
  fits_by n =
      ap (λ s. option_map_or (λ f. fits s f false) (slice_get e.facts n) false) is.sig
      ∙ ap (λ fs. option_map_or (λ f. fits (signature t) f false) (slice_get fs n) false) is.facts
      ∙ ap (λ o. option_map_or (λ f. fits (signature t) f false) o false) (slice_get-map (λ f. f.formula) (seen t goal) n)
      ∙ either (λ f. f.formula) (λ f. fits (signature t) f false) (slice_get (seen t goal) n)

  pub all_fit : (p : Fact → Bool) → ((f : Fact) → IsTrue (p f) → IsTrue (fact_fits t f)) → AllFit e (places_from 0 p (seen t goal))
  all_fit p so =
      places_pass (λ n. IsTrue (fits_at e n)) p 0 (seen t goal)
      (λ k f at passes. (let here : 0 + k ≡ k = omega arith in
      subst (λ n. IsTrue (fits_at e n)) (sym here) (subst IsTrue (sym (fits_by k ∙ ap (λ o. option_map_or (fact_fits t) o false) at)) (so f passes))))

  pub visible_fit : AllFit e (visible t goal)
  visible_fit = all_fit (fact_fits t) (λ f h. h)

  pub used_fit : (leaves : List (List ℕ)) → AllFit e (used_facts t goal leaves)
  used_fit leaves = all_fit (is_used t leaves) (λ f h. (both_true (fact_fits t f) _ h).0)

measured : (q : Term → Bool) (o : Option Goal) (f : Term) → option_map (λ g. g.formula) o ≡ Some f → q f ≡ option_map_or (λ g. q g.formula) o false
measured q None f e = absurd cc
measured q (Some g) f e = let same : g.formula ≡ f = cc in ap q (sym same)

-- the goal fits over its environment
pub goal_by : (t : Theory) (goal : ℕ) (e : Env) → IsEnvOf t goal e → goal_fits_in e ≡ goal_fits t goal
goal_by t goal e is = ap (λ s. fits s e.goal true) is.sig ∙ measured (λ f. fits (signature t) f true) (slice_get t.goals goal) e.goal is.goal

pub sublist_can : (t : Theory) (goal : ℕ) (e : Env) (facts : List ℕ) → IsEnvOf t goal e → IsTrue (goal_fits t goal) → IsSublist facts (visible t goal) → CanSearch e facts
sublist_can t goal e facts is fit sub = record {
  facts_fit = sublist_all (λ n. IsTrue (fits_at e n)) sub (visible_fit t goal e is);
  goal_fits_too = subst IsTrue (sym (goal_by t goal e is)) fit;
}

module _ (s : Slot) (is : IsSlot s) where
  pub used_can : (facts : List ℕ) → AreUsed s facts → CanSearch s.env facts
  used_can facts used = record {
    facts_fit = subst (AllFit s.env) (sym used.used_is) (used_fit s.theory.now s.goal s.env is.env_is used.leaves);
    goal_fits_too = subst IsTrue (sym (goal_by s.theory.now s.goal s.env is.env_is)) is.fits;
  }

  pub used_few : (facts : List ℕ) → AreUsed s facts → length facts ≤ beside s
  used_few facts used = subst (λ l. length l ≤ beside s) (sym used.used_is) (places_few (is_used s.theory.now used.leaves) 0 (seen s.theory.now s.goal))

  -- ---- outcomes
  replay_of : (facts : List ℕ) (o : Outcome Proven) → AreUsed s facts → From s.env facts s.budget o → IsReplay s.theory.now s.goal s.budget s.bytes o
  replay_of facts o used from = record {
    leaves = used.leaves;
    answer = used.answer;
    env = s.env;
    env_is = is.env_is;
    from = subst (λ l. From s.env l s.budget o) used.used_is from;
  }

  pub saturated_answer : (facts : List ℕ) → AreUsed s facts → From s.env facts s.budget outcome.Saturated → Answers s.theory.now s.goal s.budget s.bytes outcome.Saturated
  saturated_answer facts used from = replay_of facts outcome.Saturated used from

  pub spent_answer : (facts : List ℕ) → AreUsed s facts → From s.env facts s.budget outcome.Spent → Answers s.theory.now s.goal s.budget s.bytes outcome.Spent
  spent_answer facts used from = replay_of facts outcome.Spent used from

  pub proved_answer : (facts : List ℕ) (p : Proven) → AreUsed s facts → Found s.env facts s.budget → IsProof s.env facts s.budget p → Answers s.theory.now s.goal s.budget s.bytes (outcome.Proved p)
  proved_answer facts p used found proof = replay_of facts (outcome.Proved p) used (found, proof)

  -- ---- the minimising begins
  more_turns : (n m : ℕ) → n ≤ m → most_turns n ≤ most_turns m
  more_turns n m le =
      let left : n * n ≤ n * m = mul-le-mul_left n le in
      let right : m * n ≤ m * m = mul-le-mul_left m le in
      omega (arith, left, right)

  pub begun_next : (facts : List ℕ) (o : Next) → AreUsed s facts → Finds s.env s.budget facts → Begins facts o → IsNext s (most_turns (beside s) + 2) o
  begun_next facts (next.Ends o) used finds h = subst (Answers s.theory.now s.goal s.budget s.bytes) (sym h) tt
  begun_next facts (next.Goes stage.Begun) used finds h = absurd h
  begun_next facts (next.Goes stage.Over) used finds h = absurd h
  begun_next facts (next.Goes (stage.Minimising all minimise)) used finds h =
      let few = more_turns (length facts) (beside s) (used_few facts used) in (
        record {
          are_used = subst (AreUsed s) (sym h.used_are) used;
          found = subst (Finds s.env s.budget) (sym h.used_are) finds;
          sublist = subst (λ l. IsSublist minimise.kept l) (sym h.used_are) (subst (λ l. IsSublist l facts) (sym h.kept_are) (sublist-self facts));
          sound = record {
            found = subst (Finds s.env s.budget) (sym h.kept_are) finds;
            needed = λ f c. absurd (none_in f (subst (λ l. Contains l f) h.none_needed c));
          };
        },
        refl,
        omega (arith, few, h.few_turns),
      )
    where
      none_in : (x : ℕ) → Contains [] x → ⊥
      none_in x (k, within, same) = omega arith

pub fault_answer : (t : Theory) (goal budget : ℕ) (bytes : List ℕ) (f : UsedFault) → IsRefusedAs bytes f → Answers t goal budget bytes (outcome_of_fault f)
fault_answer t goal budget bytes fault.NoStatus h = h
fault_answer t goal budget bytes fault.NoProof h = h
fault_answer t goal budget bytes (fault.BadText at) h = h
fault_answer t goal budget bytes fault.NoMemory h = tt

-- ---- facts by their numbers
pub env_length : (t : Theory) (goal : ℕ) (e : Env) → IsEnvOf t goal e → length e.facts ≡ length (seen t goal)
env_length t goal e is = ap length is.facts ∙ length-map (seen t goal) (λ f. f.formula)

pub same_used : (t : Theory) (leaves table : List (List ℕ)) → FindsNames leaves table → (i : ℕ) (fs : List Fact) → places_from i (is_used t table) fs ≡ places_from i (is_used t leaves) fs
same_used t leaves table found i [] = refl
same_used t leaves table found i (f ∷ fs) =
    (λ k. if (fact_fits t f && found (codes "f_" ++ f.name) k) then i ∷ same_used t leaves table found (i + 1) fs k else same_used t leaves table found (i + 1) fs k)

pub used_at : (t : Theory) (goal : ℕ) (e : Env) (leaves : List (List ℕ)) (i : ℕ) (f : Fact) (name : List ℕ) (asked : Bool) → IsEnvOf t goal e → slice_get (seen t goal) i ≡ Some f → name ≡ f.name →
    asked ≡ (fits_at e i && list_any (bytes_eq (codes "f_" ++ name)) leaves) → asked ≡ is_used t leaves f
used_at t goal e leaves i f name asked is at named h =
    h ∙ (λ k. (fits_by t goal e is i ∙ ap (λ o. option_map_or (fact_fits t) o false) at) k && list_any (bytes_eq (codes "f_" ++ named k)) leaves)
