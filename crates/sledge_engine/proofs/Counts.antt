-- The number of facts that `drill` asks for.
use Rattle.std.proofs.Common.{ℕ, ◌≡◌, ◌≤◌, List, subst}
use Rattle.sledge_words.specs.declared.command.Command.TheVariants as command
use Rattle.sledge_words.specs.declared.line.Line.{Line}
use Rattle.sledge_words.specs.Lines.{IsCount, IsLine, first_argument}

pub drilled : (words : List (List ℕ)) (l : Line) → IsLine words l → l.command ≡ command.Drill → (1 ≤ l.number) × (l.number ≤ 20000)
drilled words l line is =
    let count = subst (λ k. IsCount k (first_argument words line.parts.places) l.number) is line.number in
    (count.least, count.most)
