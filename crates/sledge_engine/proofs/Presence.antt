-- A goal that was found in a theory, and the theory under a name.
use Rattle.std.proofs.Common.{ℕ, ◌≡◌, List, subst, sym}
use Rattle.theory_reader.specs.declared.theory.Theory.{Theory}
use Rattle.sledge_engine.specs.Files.{HoldsTheory, Outside}
use Rattle.sledge_engine.specs.Goals.{GoalRefusal, no_goal, too_large}
use Rattle.sledge_engine.specs.inner.Posing.{IsMissing, nowhere, large}

refusal : (o : Outside) (file : List ℕ) (t : Theory) (name text : List ℕ) → HoldsTheory o.files file t → IsMissing t name text → GoalRefusal o file name 4 text
refusal o file t name text held (nowhere none) = no_goal t held none
refusal o file t name text held (large goal place fits) = too_large t goal held place fits

pub missing_by : (o : Outside) (file : List ℕ) (t : Theory) (name text : List ℕ) (status : ℕ) → HoldsTheory o.files file t → (status ≡ 4) × IsMissing t name text →
    GoalRefusal o file name status text
missing_by o file t name text status held h = subst (λ s. GoalRefusal o file name s text) (sym h.0) (refusal o file t name text held h.1)
