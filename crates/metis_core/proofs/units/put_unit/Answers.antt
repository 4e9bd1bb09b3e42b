use Rattle.std.proofs.Common.{◌≡◌, ◌⊎◌, sym, subst, ap, slice_get}
use Rattle.metis_core.specs.Units.{HoldsUnit}
use Rattle.metis_core.proofs.Parted.{only_right}
use Rattle.metis_core.proofs.units.put_unit.Goals as goal

pub returns-in_ok-insert-in-Some-clause-adds : goal.returns-in_ok-insert-in-Some-clause-adds
returns-in_ok-insert-in-Some-clause-adds c = λ l m is held.
    subst (λ u. HoldsUnit u m ⊎ (m ≡ l)) (sym c.in-Some.is) (c.in_ok-insert-in-Some.ensures.adds l m (ap (λ ls. slice_get ls 0) is) held)

pub returns-in_ok-insert-in-None-clause-adds : goal.returns-in_ok-insert-in-None-clause-adds
returns-in_ok-insert-in-None-clause-adds c = λ l m is held.
    only_right (c.in_ok-tree-in-None.ensures m) (c.in_ok-insert-in-None.ensures.adds l m (ap (λ ls. slice_get ls 0) is) held)
