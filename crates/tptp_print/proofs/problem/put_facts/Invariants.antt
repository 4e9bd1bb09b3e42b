use Rattle.std.proofs.Common.{◌≡◌, ◌++◌, drop}
use Rattle.tptp_print.specs.Problems.{fact_statements, chosen}
use Rattle.tptp_print.proofs.problem.put_facts.Given as goal

abbrev pub invariant-loop-n : goal.invariant-loop-n
invariant-loop-n l =
    fact_statements l.sig l.consts (chosen (l.seen.before.now ++ l.seen.assumes.now) (drop l.n-index l.numbers)) l.draft
    ≡ fact_statements l.sig l.consts (chosen (l.seen.before.now ++ l.seen.assumes.now) l.numbers) l.initial.draft
