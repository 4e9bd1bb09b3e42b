-- What words ask for, from what the code has entered.
use Rattle.std.proofs.Common.{ℕ, ◌≡◌, ◌∙◌, true, false, List, Some, refl, subst, sym}
use Rattle.theory_gen.specs.Generated.{generated}
use Rattle.theory_terms.specs.declared.fault.TheoryKind.{TheoryKind}
use Rattle.theory_reader.specs.declared.theory.Theory.{Theory}
use Rattle.theory_reader.specs.Reading.{Faulty, Reads}
use Rattle.theory_reader.specs.Seen.{declarations}
use Rattle.sledge_words.specs.declared.command.Command.{Command}
use Rattle.sledge_words.specs.declared.command.Command.TheVariants as command
use Rattle.sledge_words.specs.declared.line.Line.{Line}
use Rattle.sledge_words.specs.Lines.{IsLine}
use Rattle.sledge_engine.specs.declared.trial.Entry.{Entry}
use Rattle.sledge_engine.specs.declared.trial.Prepared.TheVariants.{Race, Answered}
use Rattle.sledge_engine.specs.Choice.{goal_place}
use Rattle.slot_work.specs.Visible.{goal_fits}
use Rattle.sledge_engine.specs.Files.{Outside}
use Rattle.sledge_engine.specs.Goals.{GoalRefusal, Poses}
use Rattle.sledge_engine.specs.Runs.{Generates, QuietReply, drill_goal, faulty, not_generated, not_posed, races}
use Rattle.sledge_engine.specs.Texts.{theory_text}
use Rattle.sledge_engine.specs.Words.{GoalLine, arguments, goal_line}
use Rattle.sledge_engine.specs.inner.Preparing.{IsDrillEntry, IsProveEntry}
use Rattle.sledge_engine.specs.inner.Trials.{AsksFor, IsPrepared, prove, drill}

pub asks_to_prove : (words : List (List ℕ)) (o : Outside) (text : List ℕ) (l : Line) (asked : GoalLine) (t : Theory) (goal : ℕ) (e : Entry) → IsLine words l → l.command ≡ command.Prove →
    asked ≡ goal_line (arguments words l) → Poses o.files asked.theory asked.goal t goal → IsProveEntry l t goal e → IsPrepared words o text (Race e)
asks_to_prove words o text l asked t goal e line is same poses entered =
    let posed : Poses o.files (goal_line (arguments words l)).theory (goal_line (arguments words l)).goal e.trial.theory e.trial.goal =
    subst (λ n. Poses o.files (goal_line (arguments words l)).theory (goal_line (arguments words l)).goal e.trial.theory n) (sym entered.goal_is)
    (subst (λ x. Poses o.files (goal_line (arguments words l)).theory (goal_line (arguments words l)).goal x goal) (sym entered.theory)
    (subst (λ a. Poses o.files a.theory a.goal t goal) same poses)) in
    (entered.entry, prove l line is posed entered.contest entered.telling)

pub asks_to_drill : (words : List (List ℕ)) (o : Outside) (text : List ℕ) (l : Line) (t : Theory) (goal : ℕ) (e : Entry) → IsLine words l → l.command ≡ command.Drill →
    Reads (generated l.number) (declarations t) → goal_place t drill_goal ≡ Some goal → goal_fits t goal ≡ true → IsDrillEntry l t goal e → IsPrepared words o text (Race e)
asks_to_drill words o text l t goal e line is reads place fits entered =
    let generates : Generates l.number t goal = record { reads = reads; place = place; fits = fits } in (
      entered.entry,
      drill l line is
          (subst (λ n. Generates l.number e.trial.theory n) (sym entered.goal_is) (subst (λ x. Generates l.number x goal) (sym entered.theory) generates))
          entered.contest entered.telling,
    )

pub no_goal_to_prove : (words : List (List ℕ)) (o : Outside) (text : List ℕ) (l : Line) (asked : GoalLine) (status : ℕ) → IsLine words l → l.command ≡ command.Prove →
    asked ≡ goal_line (arguments words l) → GoalRefusal o asked.theory asked.goal status text → IsPrepared words o text (Answered status)
no_goal_to_prove words o text l asked status line is same refused = not_posed l status text line is (subst (λ a. GoalRefusal o a.theory a.goal status text) same refused)

pub no_theory_to_drill : (words : List (List ℕ)) (o : Outside) (text : List ℕ) (l : Line) (status : ℕ) → IsLine words l → l.command ≡ command.Drill →
    (at : ℕ) × (k : TheoryKind) × Faulty (generated l.number) at k × (status ≡ 4) × (text ≡ theory_text at k) → IsPrepared words o text (Answered status)
no_theory_to_drill words o text l status line is h =
    subst (λ s. QuietReply words o s text) (sym h.3)
    (subst (QuietReply words o 4) (sym h.4) (not_generated l 4 (theory_text h.0 h.1) line is (faulty h.0 h.1 h.2)))

-- a command that is none of the two doesn't race
pub unraced : (k : Command) → (k ≡ command.Prove → ⊥) → (k ≡ command.Drill → ⊥) → races k ≡ false
unraced command.Prove a b = absurd (a refl)
unraced command.Drill a b = absurd (b refl)
unraced command.Metis a b = refl
unraced command.Check a b = refl
unraced command.Filter a b = refl
unraced command.Problem a b = refl
unraced command.Gen a b = refl
unraced command.Model a b = refl
unraced command.Refute a b = refl
unraced command.Chain a b = refl
unraced command.Batch a b = refl
