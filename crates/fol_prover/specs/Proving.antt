-- What comes of a search for a proof of a problem.
use Rattle.std.specs.Prelude.{◌≡◌, ℕ, true, false, List, [], ◌∷◌, ◌++◌, map, length}
use Rattle.fo_terms.specs.declared.clause.Clause.{Clause}
use Rattle.fo_infer.specs.declared.refutation.Line.{Line}
use Rattle.metis_core.specs.declared.given.Given.{Given}
use Rattle.metis_core.specs.declared.given.Positions.TheVariants.{Plain}
use Rattle.metis_core.specs.State.{State}
use Rattle.metis_core.specs.Offer.{End, found, saturated, spent}
use Rattle.metis_core.specs.Search.{Search}
use Rattle.metis_core.specs.Searched.{empty_clause}
use Rattle.metis_core.specs.Stock.{clauses}
use Rattle.tptp_syntax.specs.declared.problem.Problem.{Problem}
use Rattle.tptp_syntax.specs.Reading.{IsProblem, IsBad}
use Rattle.fol_cnf.specs.declared.named_clause.NamedClause.{NamedClause}
use Rattle.fol_cnf.specs.Clausified.{all_fit, clauses_of}
use Rattle.tstp_print.specs.Lines.{IsProofText}
use Rattle.fol_prover.specs.Texts.{gave_up_text, error_text}
use Rattle.fol_prover.specs.Derivations.{numbered, IsDerivation}

-- the clauses without their statements, and the statement of each
abbrev pub inputs_of : List NamedClause → List Clause
inputs_of cs = map (λ c. c.clause) cs

abbrev pub sources_of : List NamedClause → List ℕ
sources_of cs = map (λ c. c.statement) cs

-- what the search for a problem is given: its clauses, with equations put into all terms
abbrev pub given_of : Problem → ℕ → ℕ → Given
given_of p budget age = record { inputs = inputs_of (clauses_of p); budget = budget; age = age; positions = Plain }

-- the search ends so
abbrev pub EndsAs : Problem → ℕ → ℕ → End → Type 0
EndsAs p budget age e = (n : ℕ) × ((s : State) × Search (given_of p budget age) e n s)

-- the search ends with the empty clause, and the text is the derivation of it: lines are numbered as the search keeps their clauses, and the
-- empty clause has the next number
pub record IsProof (p : Problem) (budget age : ℕ) (text : List ℕ) : Type 0 where
  pub picks : ℕ
  pub state : State
  pub ended : Search (given_of p budget age) found picks state
  pub lines : List Line
  pub kept : clauses lines ≡ state.kept ++ empty_clause ∷ []
  pub printed : IsProofText p (sources_of (clauses_of p)) lines text
  pub derivation : IsDerivation (clauses_of p) (length p.statements) printed.cited (numbered lines printed.used)

-- `IsAnswer p budget age status text`: what is answered for a problem
pub data IsAnswer (p : Problem) (budget age : ℕ) : ℕ → List ℕ → Type 0 where
  too_large : all_fit p ≡ false → IsAnswer p budget age 1 gave_up_text
  is_saturated : all_fit p ≡ true → EndsAs p budget age saturated → IsAnswer p budget age 1 gave_up_text
  is_spent : all_fit p ≡ true → EndsAs p budget age spent → IsAnswer p budget age 1 gave_up_text
  is_found : {text : List ℕ} → all_fit p ≡ true → IsProof p budget age text → IsAnswer p budget age 0 text

-- what is answered for a text
pub data Proves (bytes : List ℕ) (budget age : ℕ) : ℕ → List ℕ → Type 0 where
  bad : (at : ℕ) → IsBad bytes at → Proves bytes budget age 4 error_text
  problem : {status : ℕ} {text : List ℕ} → (p : Problem) → IsProblem bytes p → IsAnswer p budget age status text → Proves bytes budget age status text
