use Rattle.std.proofs.Common.{◌<◌, ◌^◌, arith}
use Rattle.theory_print.specs.Names.{IsFirstFresh, IsFirstFree, beginning}
use Rattle.theory_print.proofs.FirstFree.{front_is_taken}
use Rattle.theory_print.proofs.Fronts.{fresh, if_ok_weaker}
use Rattle.theory_print.proofs.fresh.fresh_number.Goals as goal

pub returns : goal.returns
returns c =
    if_ok_weaker c.first_free.result (λ k. IsFirstFree k c.in_ok-set.set) (λ k. IsFirstFresh k c.args.consts.now)
    (λ k h. (
      (h.0, let low : k < 2 ^ 32 = h.0 in fresh k c.in_ok-set.set c.args.consts.now (omega arith) h.1 c.in_ok-set.ensures.all),
      λ j less other. front_is_taken (beginning j) c.args.consts.now (c.in_ok-set.ensures.only (beginning j) (h.2 j less)) other.1,
    )) c.first_free.ensures
