-- The text of a theory's problem has one answer.
use Rattle.std.proofs.Common.{◌≡◌, ℕ, ◌<◌, IsTrue, List, [], length, slice_get, Some, sym, ap, subst}
use Rattle.std.specs.Prelude.{All}
use Rattle.std.specs.Option.{option_map_or}
use Rattle.hol_terms.specs.declared.sig.Sig.{Sig}
use Rattle.theory_terms.specs.Signature.{sig_of}
use Rattle.theory_reader.specs.declared.statement.Fact.{Fact}
use Rattle.theory_reader.specs.declared.statement.Goal.{Goal}
use Rattle.theory_reader.specs.declared.theory.Theory.{Theory}
use Rattle.theory_reader.specs.Declarations.{known}
use Rattle.theory_reader.specs.Seen.{seen, declarations}
use Rattle.tptp_print.specs.Problems.{chosen, whole_draft, problem_text}
use Rattle.tptp_syntax.specs.Tokens.{lexed}
use Rattle.tptp_syntax.specs.Reading.{IsProblem, Read}
use Rattle.tptp_syntax.proofs.Answers as answers
use Rattle.problem_laws.specs.Statements.{problem_over}
use Rattle.problem_laws.specs.Laws.{nests, types_of, items_of, ReadsBack, ProblemIsRead}
use Rattle.problem_laws.proofs.Wholes as wholes
use Rattle.problem_laws.proofs.Theories.{consts_named, theory_good}

module _ (t : Theory) (n : ℕ) (numbers : List ℕ) (within : All (λ k. k < length (seen t n)) numbers) (g : Goal) (at : slice_get t.goals n ≡ Some g) where
  abbrev sig : Sig
  sig = sig_of (known (declarations t))

  abbrev facts : List Fact
  facts = chosen (seen t n) numbers

  abbrev text : List ℕ
  text = (whole_draft t numbers (seen t n) g).page.bytes

  text_is : problem_text t n numbers ≡ text
  text_is = ap (λ o. option_map_or (λ h. (whole_draft t numbers (seen t n) h).page.bytes) o []) at

  abbrev Back : List ℕ → Type 0
  Back bytes = (names : List (List ℕ)) × IsProblem bytes (problem_over names (types_of t n numbers g) t.consts (items_of t n numbers g))

  back : IsTrue (nests 0 (lexed text).tokens) → Back text
  back nested =
      let named = consts_named t n g at in
      let good = theory_good t n g at (types_of t n numbers g) (lexed text).words numbers within in
      (wholes.symbol_names sig t.consts named g facts good nested, wholes.is_problem sig t.consts named g facts good nested)

  pub reads_back : IsTrue (nests 0 (lexed (problem_text t n numbers)).tokens) → ReadsBack t n numbers g
  reads_back nested =
      let h : Back (problem_text t n numbers) = subst Back (sym text_is) (back (subst (λ bytes. IsTrue (nests 0 (lexed bytes).tokens)) text_is nested)) in
      record {
        names = h.0;
        reads = h.1;
        only = λ a is. answers.one (problem_text t n numbers) a (Read (problem_over h.0 (types_of t n numbers g) t.consts (items_of t n numbers g))) is h.1;
      }

pub problem_read : (t : Theory) (n : ℕ) (numbers : List ℕ) → All (λ k. k < length (seen t n)) numbers → ProblemIsRead t n numbers
problem_read t n numbers within g at nested = reads_back t n numbers within g at nested
