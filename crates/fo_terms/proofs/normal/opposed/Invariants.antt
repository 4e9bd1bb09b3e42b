use Rattle.std.proofs.Common.{◌≡◌, drop}
use Rattle.std.specs.List.{list_any}
use Rattle.fo_terms.specs.Same.{is_literal}
use Rattle.fo_terms.specs.Normal.{complement}
use Rattle.fo_terms.proofs.normal.opposed.Given as goal

abbrev pub invariant-loop-m : goal.invariant-loop-m
invariant-loop-m l = list_any (is_literal (complement l.l)) (drop l.m-index l.literals) ≡ list_any (is_literal (complement l.l)) l.literals
