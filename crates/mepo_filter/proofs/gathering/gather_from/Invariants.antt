use Rattle.std.proofs.Common.{◌≡◌, map, take}
use Rattle.theory_reader.specs.Sound.{seen_from}
use Rattle.mepo_filter.specs.Mepo.{candidate}
use Rattle.mepo_filter.specs.inner.Gathers.{gathered_of, IsSound}
use Rattle.mepo_filter.proofs.gathering.gather_from.Given as goal

abbrev pub invariant-loop-number : goal.invariant-loop-number
invariant-loop-number l = record {
  so_far : gathered_of l.gathered ≡ map (candidate (seen_from l.facts l.goal)) (take l.number-index l.visible);
  sound : IsSound l.gathered;
}
