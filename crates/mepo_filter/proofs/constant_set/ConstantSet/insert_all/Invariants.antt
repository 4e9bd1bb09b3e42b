use Rattle.std.proofs.Common.{◌≡◌, take}
use Rattle.mepo_filter.specs.Constants.{with_all}
use Rattle.mepo_filter.specs.inner.Tables.{is_in}
use Rattle.mepo_filter.proofs.constant_set.ConstantSet.insert_all.Given as goal

abbrev pub invariant-loop-constant : goal.invariant-loop-constant
invariant-loop-constant l = is_in l.self ≡ with_all (is_in l.fn.self) (take l.constant-index l.constants)
