-- The place of a fault, and that no list of tokens has two answers.
use Rattle.std.proofs.Common.{◌≡◌, ℕ, List, []}
use Rattle.std.specs.Prelude.{Result, MatchResult, length}
use Rattle.first_fault.proofs.Places as kit
use Rattle.first_fault.specs.declared.fault.Fault.{Fault}
use Rattle.first_fault.specs.Fails.{IsWithin, counted}
use Rattle.theory_syntax.specs.declared.tokens.Tok.{Tok}
use Rattle.theory_syntax.specs.declared.tree.Item.{Item}
use Rattle.theory_syntax.specs.Grammar.{IsTheory}
use Rattle.theory_syntax.specs.Machine.{step, State, accepted, Top}
use Rattle.theory_syntax.specs.Reading.{Reads, Answer, Text, IsAnswer, Refused, Tells}
use Rattle.theory_syntax.specs.inner.Parts.{Fault_of_all}
use Rattle.theory_syntax.proofs.CompleteText.{complete_theory}

module _ (m : ℕ) (ts : List Tok) where
  pub one_answer : (a b : Answer) → IsAnswer m ts a → IsAnswer m ts b → a ≡ b
  one_answer = kit.one_answer Tok State (List Item) step accepted (Top []) IsTheory (λ q ds d. complete_theory d []) m ts

  pub refused : (e : Fault) → Fault_of_all m ts e → Refused m ts (counted (length ts) e)
  refused = kit.refused Tok State (List Item) step accepted (Top []) IsTheory (λ q ds d. complete_theory d []) m ts

  pub is_within : (e : Fault) → Fault_of_all m ts e → IsWithin (length ts) e
  is_within = kit.is_within Tok State (List Item) step accepted (Top []) IsTheory (λ q ds d. complete_theory d []) m ts

  pub told : {X : Type 0} (view : X → List Item) (r : Result X Fault) → MatchResult r (λ v. Reads m ts (view v)) (λ e. Refused m ts e) →
      (a : Answer) → IsAnswer m ts a → MatchResult r (λ v. a ≡ Text (view v)) (λ e. Tells a e)
  told = kit.told Tok State (List Item) step accepted (Top []) IsTheory (λ q ds d. complete_theory d []) m ts
