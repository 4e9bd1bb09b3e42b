-- A quantified formula opened with a value.
use Rattle.std.specs.Prelude.{◌≡◌, ℕ, ◌+◌}
use Rattle.std.specs.FinSet as set
use Rattle.hol_terms.specs.declared.ty.Ty.{Ty}
use Rattle.hol_terms.specs.declared.term.Term.{Term, roll-Term}
use Rattle.hol_terms.specs.declared.term.Term.TheOpen.{Term-F}
use Rattle.hol_terms.specs.Substitution.{instantiated}
use Rattle.kernel_rules.specs.Connectives.{equal, chosen}
use Rattle.kernel_rules.specs.Rules.{seq}
use Rattle.hol_kernel.specs.Logs.{Logged, IsThm, thm}
use Rattle.hol_formulas.specs.declared.formula.Quantifier.{Quantifier}
use Rattle.formula_clauses.specs.Walks.{property}
use Rattle.hol_clausify.specs.declared.values.WithVariable.{WithVariable}
use Rattle.hol_clausify.specs.declared.values.WithChosen.{WithChosen}
use Rattle.hol_clausify.specs.Refutations.{chosen_value}

-- with the next variable
pub record IsVariable (a : Ty) (body : Term) (n : ℕ) (r : WithVariable) : Type 0 where
  pub value : r.value ≡ roll-Term (Term-F.Free n a)
  pub part : r.part ≡ instantiated body r.value
  pub next : r.next ≡ n + 1

-- with the chosen value, which a theorem names
pub record IsChosen (log : Logged) (q : Quantifier) (a : Ty) (body : Term) (r : WithChosen) : Type 0 where
  pub value : r.value ≡ chosen_value a (property q a body)
  pub part : r.part ≡ instantiated body r.value
  pub is_thm : IsThm log r.name.0
  pub named : thm log r.name.0 ≡ seq set.empty (equal a (chosen a (property q a body)) r.value)
