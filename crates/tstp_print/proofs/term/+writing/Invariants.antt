use Rattle.std.proofs.Common.{◌≡◌, ◌++◌, take, map}
use Rattle.std.specs.Prelude.{codes}
use Rattle.tstp_print.specs.Terms.{separated, term_text}
use Rattle.tstp_print.proofs.term.+writing.Given as goal

abbrev pub invariant-put_arguments-loop-i : goal.invariant-put_arguments-loop-i
invariant-put_arguments-loop-i l = l.out ≡ l.initial.out ++ separated (codes ",") (map (term_text l.words.names.now) (take l.i l.args))
