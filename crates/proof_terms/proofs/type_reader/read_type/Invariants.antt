use Rattle.std.proofs.Common.{ℕ, ◌+◌, ◌*◌, ◌≤◌, length}
use Rattle.proof_syntax.specs.Grammar.{most}
use Rattle.proof_terms.proofs.Around.{SoFar}
use Rattle.proof_terms.proofs.TypeTurns.{wanted}
use Rattle.proof_terms.proofs.type_reader.read_type.Given as goal

abbrev pub invariant-tokens : goal.invariant-tokens
invariant-tokens l = (level : ℕ) → level ≤ most → SoFar l.names level l.fn.text l.sides l.had l.rest

abbrev pub decreases-tokens : goal.decreases-tokens
decreases-tokens l = 2 * length l.rest + wanted l.had
