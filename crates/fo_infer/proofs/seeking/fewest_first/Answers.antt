use Rattle.std.proofs.Common.{sym, subst}
use Rattle.std.specs.List.Sorted.{IsPermutation}
use Rattle.fo_infer.proofs.Parting.{permuted}
use Rattle.fo_infer.proofs.seeking.fewest_first.Goals as goal

pub returns-in-Ok : goal.returns-in-Ok
returns-in-Ok c =
    permuted c.args.found c.from_vec.result
    (subst (λ a. IsPermutation a c.from_vec.result) c.into_vec-items.ensures
    (subst (IsPermutation c.into_vec-items.result.items) (sym c.from_vec.ensures) c.in-Ok.ensures.permutation))
