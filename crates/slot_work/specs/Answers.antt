-- Which outcomes the bytes of a child may have.
use Rattle.std.specs.Prelude.{◌≡◌, ℕ, Bool, ◌&&◌, List, [], ◌∷◌, ◌++◌, codes}
use Rattle.std.specs.List.{list_any}
use Rattle.std.specs.Str.{bytes_eq}
use Rattle.std.specs.Coded.{coded×, coded_ℕ}
use base.Stored.{Gv, gnil, gnum, gcons}
use Rattle.hol_terms.specs.declared.env.Env.{Env}
use Rattle.hol_kernel.specs.declared.proven.Proven.{Proven}
use Rattle.theory_reader.specs.declared.statement.Fact.{Fact}
use Rattle.theory_reader.specs.declared.theory.Theory.{Theory}
use Rattle.theory_reader.specs.contracts.theory.Theory as the_theory
use Rattle.theory_reader.specs.Seen.{IsEnvOf, seen}
use Rattle.race_core.specs.declared.outcome.Outcome.{Outcome}
use Rattle.race_core.specs.declared.outcome.Outcome.TheVariants as outcome
use Rattle.tstp_read.specs.Used.{Leaves, NoStatus, NoProof, BadText, IsAnswer}
use Rattle.slot_work.specs.Visible.{fact_fits, places_from}
use Rattle.slot_work.specs.Replays.{From}

-- the fact NAME fits, and `f_NAME` is one of these leaves
abbrev pub is_used : Theory → List (List ℕ) → Fact → Bool
is_used t leaves f = fact_fits t f && list_any (bytes_eq (codes "f_" ++ f.name)) leaves

-- the numbers of the facts beside the goal that the leaves name, ascending
abbrev pub used_facts : Theory → ℕ → List (List ℕ) → List ℕ
used_facts t goal leaves = places_from 0 (is_used t leaves) (seen t goal)

-- a replay of the facts that the bytes' proof rests on
pub record IsReplay (t : Theory) (goal budget : ℕ) (bytes : List ℕ) (o : Outcome Proven) : Type 0 where
  pub leaves : List (List ℕ)
  pub answer : IsAnswer bytes (Leaves leaves)
  pub env : Env
  pub env_is : IsEnvOf t goal env
  pub from : From env (used_facts t goal leaves) budget o

-- the fault of the bytes, or a replay of the facts that they use; want of memory is free
abbrev pub Answers : Theory → ℕ → ℕ → List ℕ → Outcome Proven → Type 0
Answers t goal budget bytes outcome.NoMemory = Unit {0}
Answers t goal budget bytes outcome.NoStatus = IsAnswer bytes NoStatus
Answers t goal budget bytes outcome.NoProof = IsAnswer bytes NoProof
Answers t goal budget bytes (outcome.BadText at) = IsAnswer bytes (BadText at)
Answers t goal budget bytes o = IsReplay t goal budget bytes o

-- ---- the key of a job: numbers that stand for the theory, the goal and the budget, and determine them

-- a tree of numbers as a list, from which it can be read again
abbrev pub serial : Gv → List ℕ
serial gnil = 0 ∷ []
serial (gnum n) = 1 ∷ n ∷ []
serial (gcons a b) = 2 ∷ (serial a ++ serial b)

unfoldable pub key_of : Theory → ℕ → ℕ → List ℕ
key_of t goal budget = serial ((coded× the_theory.the_row.coded (coded× coded_ℕ coded_ℕ)).code (t, (goal, budget)))

-- the answers for the job of this key
pub record KeyAnswers (key bytes : List ℕ) (o : Outcome Proven) : Type 0 where
  pub theory : Theory
  pub goal : ℕ
  pub budget : ℕ
  pub key_is : key ≡ key_of theory goal budget
  pub answers : Answers theory goal budget bytes o

-- the law that a key determines its job
abbrev pub KeyTells : Theory → ℕ → ℕ → Type 0
KeyTells t goal budget = (bytes : List ℕ) (o : Outcome Proven) → KeyAnswers (key_of t goal budget) bytes o → Answers t goal budget bytes o
