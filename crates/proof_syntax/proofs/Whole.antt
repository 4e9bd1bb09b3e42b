-- The whole body: its walk, and the places of its faults.
use Rattle.std.proofs.Common.{◌≡◌, ℕ, List, [], ◌∷◌, codes, Option, Some, None, refl, ap, ◌∙◌}
use Rattle.first_fault.specs.Walk as walk
use Rattle.first_fault.specs.Walk.{after, Step}
use Rattle.theory_terms.specs.Words.{place}
use Rattle.theory_reader.specs.declared.theory.Theory.{Theory}
use Rattle.theory_reader.specs.Sound.{goal_names}
use Rattle.proof_syntax.specs.declared.file.ProofFile.{ProofFile}
use Rattle.proof_syntax.specs.Tokens.{Tok, Word, space, line_end}
use Rattle.proof_syntax.specs.Names.{names_of, number_of}
use Rattle.proof_syntax.specs.Grammar.{Placed, at, name, IsProof, proof}
use Rattle.proof_syntax.specs.Machine.{put, goes, Goes, Done, Stuck, Run, run, State, StepStart, step, GoalWord, Steps, inside, filed, whole_run}
use Rattle.proof_syntax.specs.Parts.{end_of}
use Rattle.proof_syntax.proofs.Complete.{steps_runs}

-- ---- the walk of steps behind the goal's line

abbrev pub filed_run : ℕ → Run → walk.Run ProofFile
filed_run g (Done o) = Done (filed g o)
filed_run g Stuck = Stuck
filed_run g (Goes l r) = Goes l (filed_run g r)

pub filed-goes : (g : ℕ) (p : List Placed) (r : Run) → filed_run g (goes p r) ≡ goes p (filed_run g r)
filed-goes g [] r = refl
filed-goes g (x ∷ p) r = ap (λ s. Goes x.level s) (filed-goes g p r)

pub filed-end : (g : ℕ) (ts : List Tok) → filed_run g (end_of ts) ≡ end_of ts
filed-end g [] = refl
filed-end g (x ∷ ts) = refl

after_filed : (t : Theory) (g : ℕ) (o : Option (Step State)) (xs : List Tok) → ((s : State) → whole_run t (Steps g s) xs ≡ filed_run g (run (names_of t g) s xs)) →
    after (inside g o) (λ w. whole_run t w xs) ≡ filed_run g (after o (λ s. run (names_of t g) s xs))
after_filed t g None xs h = refl
after_filed t g (Some s) xs h = ap (λ r. Goes s.level r) (h s.state)

pub steps_filed : (t : Theory) (g : ℕ) (s : State) (xs : List Tok) → whole_run t (Steps g s) xs ≡ filed_run g (run (names_of t g) s xs)
steps_filed t g s [] = refl
steps_filed t g s (x ∷ xs) = after_filed t g (step (names_of t g) s x) xs (λ u. steps_filed t g u xs)

-- the goal's line with this name
abbrev pub goal_line : Theory → List ℕ → List Placed
goal_line t x = at 0 (Word (codes "goal")) ∷ at 0 space ∷ name 0 x (goal_names t.goals) ∷ at 0 line_end ∷ []

pub line_runs : (t : Theory) (x : List ℕ) (xs : List Tok) →
    whole_run t GoalWord (put (goal_line t x) xs) ≡ goes (goal_line t x) (whole_run t (Steps (number_of (place x (goal_names t.goals))) (StepStart [])) xs)
line_runs t x xs = refl

pub whole_runs : {t : Theory} {p : List Placed} {v : ProofFile} → IsProof t p v → whole_run t GoalWord (put p []) ≡ goes p (Done (Some v))
whole_runs {t = t} (proof {x = x} {q = q} {steps = steps} d) =
    let g = number_of (place x (goal_names t.goals)) in
    line_runs t x (put q []) ∙
    ap (λ r. goes (goal_line t x) r) (steps_filed t g (StepStart []) (put q []) ∙ ap (λ r. filed_run g r) (steps_runs d [] [] refl) ∙ filed-goes g q (Done (Some steps)))
