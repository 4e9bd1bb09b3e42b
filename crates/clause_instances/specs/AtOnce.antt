-- Bindings put into a theorem all at once.
use Rattle.std.specs.Prelude.{◌≡◌, ℕ, Bool, false, ◌||◌, ◌&&◌, ◌==◌, IsTrue, List, [], ◌∷◌}
use Rattle.hol_terms.specs.declared.ty.Ty.{Ty}
use Rattle.hol_terms.specs.declared.term.Term.{Term}
use Rattle.hol_terms.specs.Types.{is_ty}
use Rattle.hol_terms.specs.Substitution.{put_free}
use Rattle.hyp_sets.specs.Sets.{image}
use Rattle.kernel_rules.specs.Rules.{seq}
use Rattle.hol_kernel.specs.Logs.{Logged, thm}
use Rattle.hol_kernel.specs.Growth.{Gives}
use Rattle.hol_clauses.specs.declared.binding.Binding.{Binding}
use Rattle.hol_clauses.specs.Bindings.{looked_up}

-- a binding has the variable
abbrev pub is_bound : List Binding → ℕ → Ty → Bool
is_bound [] n a = false
is_bound (b ∷ bs) n a = (n == b.number && is_ty a b.ty) || is_bound bs n a

-- theorem `r` is theorem `th` with one replacement of all variables, which puts for each bound variable the term of its binding
pub record PutAtOnce (old new : Logged) (bs : List Binding) (th r : ℕ) : Type 0 where
  pub put : ℕ → Ty → Term
  pub bound : (n : ℕ) (a : Ty) → IsTrue (is_bound bs n a) → put n a ≡ looked_up bs n a
  pub gives : Gives new r (seq (image (put_free put) (thm old th).hyps) (put_free put (thm old th).concl))
