use Rattle.std.proofs.Common.{◌≡◌, ◌++◌, take, map}
use Rattle.std.specs.Prelude.{codes}
use Rattle.tstp_print.specs.Terms.{separated, literal_text}
use Rattle.tstp_print.proofs.clause.put_clause.Given as goal

abbrev pub invariant-loop-i : goal.invariant-loop-i
invariant-loop-i l = l.out ≡ l.initial.out ++ separated (codes " | ") (map (literal_text l.words.names.now) (take l.i l.literals))
