-- What a work may answer for bytes.
use Rattle.std.specs.Prelude.{◌≡◌, ℕ, List, IsTrue, refl}
use Rattle.hol_kernel.specs.declared.proven.Proven.{Proven}
use Rattle.theory_reader.specs.declared.theory.Theory.{Theory}
use Rattle.race_core.specs.declared.outcome.Outcome.{Outcome}
use Rattle.race_core.specs.declared.outcome.Outcome.TheVariants as outcome
use Rattle.race_outside.specs.Works.{is_answer}
use Rattle.slot_work.specs.Answers.{Answers, KeyAnswers}

answer_is : (t : Theory) (goal budget : ℕ) (bytes : List ℕ) (o : Outcome Proven) → Answers t goal budget bytes o → IsTrue (is_answer o)
answer_is t goal budget bytes (outcome.Proved p) a = refl
answer_is t goal budget bytes outcome.NoStart a = absurd a.from
answer_is t goal budget bytes (outcome.Lost i) a = absurd a.from
answer_is t goal budget bytes outcome.ReadFault a = absurd a.from
answer_is t goal budget bytes outcome.TooLong a = absurd a.from
answer_is t goal budget bytes outcome.NoStatus a = refl
answer_is t goal budget bytes outcome.NoProof a = refl
answer_is t goal budget bytes (outcome.BadText at) a = refl
answer_is t goal budget bytes outcome.Saturated a = refl
answer_is t goal budget bytes outcome.Spent a = refl
answer_is t goal budget bytes outcome.TimedOut a = absurd a.from
answer_is t goal budget bytes outcome.Cancelled a = absurd a.from
answer_is t goal budget bytes outcome.NoMemory a = refl

pub key_answer_is : (key bytes : List ℕ) (o : Outcome Proven) → KeyAnswers key bytes o → IsTrue (is_answer o)
key_answer_is key bytes o a = answer_is a.theory a.goal a.budget bytes o a.answers
