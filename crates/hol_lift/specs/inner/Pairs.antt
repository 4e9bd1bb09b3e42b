-- What is left of instances of two parents.
use Rattle.std.specs.Prelude.{ℕ, Bool, List, ◌++◌, slice_set}
use Rattle.std.specs.List.{remove}
use Rattle.fo_terms.specs.declared.term.FoTerm.{FoTerm}
use Rattle.fo_terms.specs.declared.literal.Literal.{Literal}
use Rattle.fo_terms.specs.Substitution.{put_literals}
use Rattle.tagged_terms.specs.Readings.{Signs}
use Rattle.hol_kernel.specs.Logs.{Logged}
use Rattle.hol_terms.specs.declared.literal.TypedLiteral.{TypedLiteral}
use Rattle.clause_instances.specs.Theorems.{clause_of}
use Rattle.hol_lift.specs.inner.Typed.{Last, Joins, Rewrites, rewritten}

-- theorem `r` is one of each clause in which the rest of both instances lasts
abbrev pub Resolved : Logged → Logged → Signs → ℕ → (ℕ → FoTerm) → List Literal → ℕ → ℕ → (ℕ → FoTerm) → List Literal → ℕ → ℕ → Type 0
Resolved old new signs left u p i right w q j r =
    (c : List TypedLiteral) → Last (remove (clause_of signs (put_literals u p)) i ++ remove (clause_of signs (put_literals w q)) j) c → Joins old new left (clause_of signs p) right (clause_of signs q) r c

-- the same with the rewritten literal in the right one
abbrev pub Paramodulated : Logged → Logged → Signs → ℕ → (ℕ → FoTerm) → List Literal → ℕ → Bool → ℕ → (ℕ → FoTerm) → List Literal → ℕ → List ℕ → ℕ → Type 0
Paramodulated old new signs left u p i swapped right w q j path r =
    (e : Rewrites (clause_of signs (put_literals u p)) i swapped (clause_of signs (put_literals w q)) j path) (c : List TypedLiteral) →
    Last (remove (clause_of signs (put_literals u p)) i ++ slice_set (clause_of signs (put_literals w q)) j (rewritten e.equation swapped path e.into)) c → Joins old new left (clause_of signs p) right (clause_of signs q) r c
