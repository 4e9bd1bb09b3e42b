-- Each text has an answer.
use Rattle.std.specs.Prelude.{ℕ, List}
use Rattle.theory_reader.specs.declared.theory.Theory.{Theory}
use Rattle.proof_syntax.specs.Reading.{Answer, IsAnswer}

-- it reads as a proof, or has a fault at one of its bytes or at its end
abbrev pub SomeAnswer : Type 0
SomeAnswer = (t : Theory) (text : List ℕ) → (a : Answer) × IsAnswer t text a
