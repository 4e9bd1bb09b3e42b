-- The whole text.
use Rattle.std.proofs.Common.{◌≡◌, ℕ, true, List, [], ◌++◌, slice_get, Some, codes, sym, ap, ◌∙◌}
use Rattle.std.specs.Option.{option_map_or}
use Rattle.hol_terms.specs.declared.sig.Sig.{Sig}
use Rattle.theory_terms.specs.declared.decl.Decl.{Decl}
use Rattle.theory_terms.specs.Signature.{sig_of}
use Rattle.theory_reader.specs.declared.statement.Fact.{Fact}
use Rattle.theory_reader.specs.declared.statement.Goal.{Goal}
use Rattle.theory_reader.specs.declared.theory.Theory.{Theory}
use Rattle.theory_reader.specs.Declarations.{known}
use Rattle.theory_reader.specs.Seen.{seen, declarations}
use Rattle.theory_reader.specs.Sound.{seen_from}
use Rattle.tptp_print.specs.declared.problem.Draft.{Draft}
use Rattle.tptp_print.specs.Pages.{blank}
use Rattle.tptp_print.specs.Problems.{statement, fact_statements, goal_statement, chosen, whole_draft, problem_text}

pub seen_is : (t : Theory) (n : ℕ) (g : Goal) → slice_get t.goals n ≡ Some g → seen t n ≡ seen_from t.facts g
seen_is t n g at = ap (λ o. option_map_or (seen_from t.facts) o []) at

module _ (t : Theory) (n : ℕ) (g : Goal) (numbers : List ℕ) (sig : Sig) (consts : List Decl) (facts : List Fact) where
  pub whole_written : (start middle end : Draft) (bytes : List ℕ) → slice_get t.goals n ≡ Some g → facts ≡ seen_from t.facts g → sig ≡ sig_of (known (declarations t)) → consts ≡ t.consts →
      start ≡ record { table = []; page = blank } → middle ≡ fact_statements sig consts (chosen facts numbers) start → end ≡ statement sig consts true (codes "goal" ++ []) g.formula middle →
      bytes ≡ end.page.bytes → bytes ≡ problem_text t n numbers
  whole_written start middle end bytes at hf hs hc h0 h1 h2 he =
      let all : end ≡ goal_statement sig consts g (fact_statements sig consts (chosen facts numbers) (record { table = []; page = blank })) =
      h2 ∙ ap (goal_statement sig consts g) (h1 ∙ ap (fact_statements sig consts (chosen facts numbers)) h0) in
      let same : facts ≡ seen t n = hf ∙ sym (seen_is t n g at) in
      he ∙ ap (λ (d : Draft). d.page.bytes) all
      ∙ (λ i. (goal_statement (hs i) (hc i) g (fact_statements (hs i) (hc i) (chosen (same i) numbers) (record { table = []; page = blank }))).page.bytes)
      ∙ sym (ap (λ o. option_map_or (λ h. (whole_draft t numbers (seen t n) h).page.bytes) o []) at)
