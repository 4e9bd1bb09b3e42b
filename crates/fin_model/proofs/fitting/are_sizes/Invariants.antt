use Rattle.std.proofs.Common.{◌≡◌, drop}
use Rattle.std.specs.List.{list_all}
use Rattle.fin_model.specs.Fitting.{is_size}
use Rattle.fin_model.proofs.fitting.are_sizes.Given as goal

abbrev pub invariant-loop-n : goal.invariant-loop-n
invariant-loop-n l = list_all is_size (drop l.n-index l.sizes) ≡ list_all is_size l.sizes
