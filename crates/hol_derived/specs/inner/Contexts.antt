-- A property that carries an equation to a place in a formula.
use Rattle.std.specs.Prelude.{◌≡◌, ℕ, List}
use Rattle.hol_terms.specs.declared.sig.Sig.{Sig}
use Rattle.hol_terms.specs.declared.term.Term.{Term}
use Rattle.kernel_rules.specs.Connectives.{applied_to, head_ty, left_of, right_of}
use Rattle.hol_kernel.specs.Conditions.{IsProperty}
use Rattle.hol_derived.specs.Paths.{replaced_at}

-- `f` says of the left side of the equation `e` what `c` says, and of its right side what `c` says with it at the path
pub record IsContext (sig : Sig) (e c : Term) (path : List ℕ) (f : Term) : Type 0 where
  pub property : IsProperty sig f (head_ty e)
  pub before : c ≡ applied_to f (left_of e)
  pub after : applied_to f (right_of e) ≡ replaced_at path (right_of e) c
