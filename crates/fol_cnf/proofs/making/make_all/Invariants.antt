use Rattle.std.proofs.Common.{◌≡◌, ◌++◌, drop}
use Rattle.fol_cnf.specs.Clausified.{all_clauses}
use Rattle.fol_cnf.proofs.making.make_all.Given as goal

abbrev pub invariant-loop-s : goal.invariant-loop-s
invariant-loop-s l = l.out ++ all_clauses l.statement l.next (drop l.s-index l.statements) ≡ all_clauses 0 l.fn.symbols l.statements
