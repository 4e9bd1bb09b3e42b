use Rattle.std.proofs.Common.{◌≡◌, drop}
use Rattle.std.specs.List.{list_all}
use Rattle.fol_cnf.specs.Clausified.{statement_fits}
use Rattle.fol_cnf.proofs.fitting.all_fit.Given as goal

abbrev pub invariant-loop-s : goal.invariant-loop-s
invariant-loop-s l = list_all statement_fits (drop l.s-index l.statements) ≡ list_all statement_fits l.statements
