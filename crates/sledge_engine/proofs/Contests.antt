-- The numbers of a line are such as a race may be run with.
use Rattle.std.proofs.Common.{ℕ, ◌≡◌, ◌<◌, ◌≤◌, List, None, Some, arith, lit<, lit≤}
use Rattle.std.specs.Prelude.{IfSome, MatchOption, Option}
use Rattle.sledge_words.specs.declared.line.Line.{Line}
use Rattle.sledge_words.specs.declared.option.Flag.TheVariants as flag
use Rattle.sledge_words.specs.Lines.{IsLimit, IsLine, IsNumber, value_of}
use Rattle.sledge_words.specs.Pieces.{Given}
use Rattle.sledge_engine.specs.Runs.{drill_contest, prove_contest}
use Rattle.sledge_engine.specs.inner.Trials.{IsContest}

within : (low high default n : ℕ) (o : Option (List ℕ)) → low ≤ default → default ≤ high → MatchOption o (n ≡ default) (λ word. IsNumber low high word n) → (low ≤ n) × (n ≤ high)
within low high default n None least most h = (omega (arith, least, h), omega (arith, most, h))
within low high default n (Some word) least most h = (h.least, h.most)

timed : (n : ℕ) (o : Option (List ℕ)) → MatchOption o ⊥ (λ word. IsNumber 1 600000 word n) → n ≤ 600000
timed n None h = absurd h
timed n (Some word) h = h.most

short : (given : List Given) (limit : Option ℕ) → IsLimit given limit → IfSome limit (λ milliseconds. milliseconds ≤ 600000)
short given None h = tt
short given (Some n) h = timed n (value_of flag.Timeout given) h

module _ (words : List (List ℕ)) (l : Line) (is : IsLine words l) where
  slices : (1 ≤ l.slices) × (l.slices ≤ 64)
  slices = within 1 64 4 l.slices _ (omega arith) (omega arith) is.slices

  workers : (1 ≤ l.workers) × (l.workers ≤ 16)
  workers = within 1 16 4 l.workers _ (omega arith) (omega arith) is.workers

  pub proves_within : IsContest (prove_contest l)
  proves_within = record { some = omega (arith, slices.0); few = slices.1; workers = (omega (arith, workers.0), workers.1); limit = short is.parts.given l.timeout is.timeout }

  pub drills_within : IsContest (drill_contest l)
  drills_within = record { some = omega arith; few = omega arith; workers = (omega (arith, workers.0), workers.1); limit = tt }
