-- A problem's text is read as the problem that was written.
use Rattle.std.specs.Prelude.{◌≡◌, ℕ, ◌+◌, ◌-◌, nat_le, Bool, true, ◌&&◌, IsTrue, List, [], ◌∷◌, slice_get, Some}
use Rattle.hol_terms.specs.declared.ty.Ty.{Ty}
use Rattle.theory_terms.specs.Signature.{sig_of}
use Rattle.theory_reader.specs.declared.statement.Goal.{Goal}
use Rattle.theory_reader.specs.declared.theory.Theory.{Theory}
use Rattle.theory_reader.specs.Declarations.{known}
use Rattle.theory_reader.specs.Seen.{seen, declarations}
use Rattle.tptp_print.specs.Problems.{chosen, whole_draft, problem_text}
use Rattle.tptp_syntax.specs.declared.tokens.Tok.{Tok}
use Rattle.tptp_syntax.specs.declared.tokens.Tok.TheVariants as tok
use Rattle.tptp_syntax.specs.Grammar.{most}
use Rattle.tptp_syntax.specs.Tokens.{lexed}
use Rattle.tptp_syntax.specs.Reading.{IsProblem, Answer, Read, IsAnswer}
use Rattle.problem_laws.specs.Statements.{Item, items, problem_over}

-- at most 4,096 brackets are open at each of these tokens, of which so many are open before
abbrev pub nests : ℕ → List Tok → Bool
nests l [] = true
nests l (tok.Open b ∷ ts) = nat_le (l + 1) most && nests (l + 1) ts
nests l (tok.Close b ∷ ts) = nests (l - 1) ts
nests l (t ∷ ts) = nests l ts

-- the types that have numbers in the text
abbrev pub types_of : Theory → ℕ → List ℕ → Goal → List Ty
types_of t goal numbers g = (whole_draft t numbers (seen t goal) g).page.types

abbrev pub items_of : Theory → ℕ → List ℕ → Goal → List Item
items_of t goal numbers g = items (sig_of (known (declarations t))) g (chosen (seen t goal) numbers) []

-- the text has one answer: the statements with their names, roles and formulas, over symbols with these names
pub record ReadsBack (t : Theory) (goal : ℕ) (numbers : List ℕ) (g : Goal) : Type 0 where
  pub names : List (List ℕ)
  pub reads : IsProblem (problem_text t goal numbers) (problem_over names (types_of t goal numbers g) t.consts (items_of t goal numbers g))
  pub only : (a : Answer) → IsAnswer (problem_text t goal numbers) a →
      a ≡ Read (problem_over names (types_of t goal numbers g) t.consts (items_of t goal numbers g))

-- where the text nests no deeper than a text may
abbrev pub ProblemIsRead : Theory → ℕ → List ℕ → Type 0
ProblemIsRead t goal numbers =
    (g : Goal) → slice_get t.goals goal ≡ Some g → IsTrue (nests 0 (lexed (problem_text t goal numbers)).tokens) → ReadsBack t goal numbers g
