use Rattle.std.proofs.Common.{◌≡◌, drop}
use Rattle.std.specs.List.{list_any}
use Rattle.fo_terms.specs.Same.{is_literal}
use Rattle.fo_terms.specs.inner.Gathered.{lent}
use Rattle.fo_terms.proofs.normal.holds.Given as goal

abbrev pub invariant-loop-m : goal.invariant-loop-m
invariant-loop-m l = list_any (λ m. is_literal m l.l) (lent (drop l.m-index l.literals)) ≡ list_any (λ m. is_literal m l.l) (lent l.literals)
