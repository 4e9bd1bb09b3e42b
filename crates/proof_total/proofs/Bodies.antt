-- What has come of a whole body: each token keeps it, it goes on to a body, and what is accepted is one.
use Rattle.std.proofs.Common.{◌≡◌, ℕ, if◌then◌else◌, Bool, true, false, List, [], ◌∷◌, ◌++◌, codes, Option, Some, None, refl, sym, subst, append_assoc}
use Rattle.std.specs.Str.{bytes_eq}
use Rattle.first_fault.specs.Walk.{Step}
use Rattle.kernel_rules.specs.declared.step.Step as kernel
use Rattle.theory_terms.specs.Words.{place}
use Rattle.theory_reader.specs.declared.theory.Theory.{Theory}
use Rattle.theory_reader.specs.Sound.{goal_names}
use Rattle.proof_syntax.specs.declared.file.ProofFile.{ProofFile}
use Rattle.proof_syntax.specs.Tokens.{Space, LineEnd, Tok, Word, Mark, space, line_end}
use Rattle.proof_syntax.specs.Names.{names_of, number_of}
use Rattle.proof_syntax.specs.Grammar.{Placed, at, name, AreSteps, end, IsProof, proof}
use Rattle.proof_syntax.specs.Machine.{State, Finished, Stepped, step, accepted, Whole, GoalWord, GoalSpace, GoalName, GoalEnd, Steps, inside, whole_step, filed, whole_accepted}
use Rattle.proof_syntax.proofs.Numbers.{eq_same}
use Rattle.proof_syntax.proofs.Stops.{Begins}
use Rattle.proof_total.proofs.Reached.{Reached, Keeps}
use Rattle.proof_total.proofs.Keeps.{step_keeps}
use Rattle.proof_total.proofs.Begins.{goes_on}

module _ (t : Theory) where
  abbrev goal_of : List ℕ → ℕ
  goal_of x = number_of (place x (goal_names t.goals))

  abbrev IsWhole : ℕ → List Placed → List kernel.Step → Type 0
  IsWhole g p steps = IsProof t p (record { goal = g; steps = steps })

  abbrev AreDue : ℕ → List Placed → List kernel.Step → Type 0
  AreDue g q steps = AreSteps (names_of t g) 0 q steps

  abbrev pub Come : Whole → List Placed → Type 0
  Come GoalWord p = (x : List ℕ) (q : List Placed) (steps : List kernel.Step) → AreDue (goal_of x) q steps →
      IsWhole (goal_of x) (p ++ (at 0 (Word (codes "goal")) ∷ at 0 space ∷ name 0 x (goal_names t.goals) ∷ at 0 line_end ∷ q)) steps
  Come GoalSpace p = (x : List ℕ) (q : List Placed) (steps : List kernel.Step) → AreDue (goal_of x) q steps →
      IsWhole (goal_of x) (p ++ (at 0 space ∷ name 0 x (goal_names t.goals) ∷ at 0 line_end ∷ q)) steps
  Come GoalName p = (x : List ℕ) (q : List Placed) (steps : List kernel.Step) → AreDue (goal_of x) q steps →
      IsWhole (goal_of x) (p ++ (name 0 x (goal_names t.goals) ∷ at 0 line_end ∷ q)) steps
  Come (GoalEnd g) p = (q : List Placed) (steps : List kernel.Step) → AreDue g q steps → IsWhole g (p ++ (at 0 line_end ∷ q)) steps
  Come (Steps g s) p = Reached (names_of t g) (IsWhole g) s p

  pub nothing : Come GoalWord []
  nothing = λ x q steps d. proof d

  -- ---- a token

  abbrev pub Holds : List Placed → Tok → Option (Step Whole) → Type 0
  Holds p x None = Unit {0}
  Holds p x (Some s) = Come s.state (p ++ at s.level x ∷ [])

  push : (g : ℕ) (steps : List kernel.Step) (p : List Placed) (x : Placed) (q : List Placed) → IsWhole g (p ++ (x ∷ q)) steps → IsWhole g ((p ++ x ∷ []) ++ q) steps
  push g steps p x q h = subst (λ z. IsWhole g z steps) (sym (append_assoc p (x ∷ []) q)) h

  goal_holds : (w : List ℕ) (p : List Placed) (b : Bool) → bytes_eq w (codes "goal") ≡ b → Come GoalWord p →
      Holds p (Word w) (if b then Some (record { level = 0; state = GoalSpace }) else None)
  goal_holds w p false e h = tt
  goal_holds w p true e h = subst (λ v. Come GoalSpace (p ++ at 0 (Word v) ∷ [])) (sym (eq_same w (codes "goal") e))
      (λ x q steps d. push (goal_of x) steps p (at 0 (Word (codes "goal"))) (at 0 space ∷ name 0 x (goal_names t.goals) ∷ at 0 line_end ∷ q) (h x q steps d))

  inside_holds : (g : ℕ) (p : List Placed) (x : Tok) (o : Stepped) → Keeps (names_of t g) (IsWhole g) p x o → Holds p x (inside g o)
  inside_holds g p x None h = tt
  inside_holds g p x (Some s) h = h

  pub holds : (s : Whole) (x : Tok) (p : List Placed) → Come s p → Holds p x (whole_step t s x)
  holds GoalWord (Word w) p h = goal_holds w p (bytes_eq w (codes "goal")) refl h
  holds GoalSpace (Mark Space) p h = λ x q steps d. push (goal_of x) steps p (at 0 space) (name 0 x (goal_names t.goals) ∷ at 0 line_end ∷ q) (h x q steps d)
  holds GoalName (Word x) p h = λ q steps d. push (goal_of x) steps p (name 0 x (goal_names t.goals)) (at 0 line_end ∷ q) (h x q steps d)
  holds (GoalEnd g) (Mark LineEnd) p h = λ q steps d. push g steps p (at 0 line_end) q (h q steps d)
  holds (Steps g s) x p h = inside_holds g p x (step (names_of t g) s x) (step_keeps (names_of t g) (IsWhole g) s x p h)
  holds _ x p h = tt

  -- ---- the rest, and the end

  begun : (g : ℕ) (p q : List Placed) (steps : List kernel.Step) → IsWhole g (p ++ q) steps → Begins t p
  begun g p q steps h = (q, record { goal = g; steps = steps }, h)

  pub begins : (s : Whole) (p : List Placed) → Come s p → Begins t p
  begins GoalWord p h = begun _ p _ [] (h [] _ [] end)
  begins GoalSpace p h = begun _ p _ [] (h [] _ [] end)
  begins GoalName p h = begun _ p _ [] (h [] _ [] end)
  begins (GoalEnd g) p h = begun g p _ [] (h _ [] end)
  begins (Steps g s) p h = let more = goes_on (names_of t g) (IsWhole g) s p h in begun g p more.0 more.1 more.2

  abbrev pub Accepted : List Placed → Option ProofFile → Type 0
  Accepted p None = Unit {0}
  Accepted p (Some v) = IsProof t p v

  steps_end : (g : ℕ) (s : State) (p : List Placed) → Come (Steps g s) p → Accepted p (filed g (accepted s))
  steps_end g (Finished steps) p h = h
  steps_end g s p h = tt

  pub ends : (s : Whole) (p : List Placed) → Come s p → Accepted p (whole_accepted s)
  ends (Steps g s) p h = steps_end g s p h
  ends s p h = tt
