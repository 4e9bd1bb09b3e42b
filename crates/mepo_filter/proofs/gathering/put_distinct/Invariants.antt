use Rattle.std.proofs.Common.{◌≡◌, ◌++◌, take}
use Rattle.mepo_filter.specs.Constants.{each_once, occurs_in}
use Rattle.mepo_filter.specs.inner.Tables.{is_in, count_in, all_met}
use Rattle.mepo_filter.proofs.gathering.put_distinct.Given as goal

abbrev pub invariant-loop-constant : goal.invariant-loop-constant
invariant-loop-constant l = record {
  flat : l.flat ≡ l.fn.flat ++ each_once (take l.constant-index l.names);
  met : is_in l.met ≡ occurs_in (each_once (take l.constant-index l.names));
  counts : count_in l.counts ≡ all_met (count_in l.fn.counts) (occurs_in (each_once (take l.constant-index l.names)));
}
