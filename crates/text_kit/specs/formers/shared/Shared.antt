-- How `Shared` stores its value, so that a type may hold itself through it: as the value.
use mathlib.Core.Path.{refl}
use mathlib.Core.Former.{Former, this, const, pair, via}
use base.Stored.{gnil}
use base.Fml.{ftrue}
use denote.RattleType.{RattleType}
use denote.Memory.{part_of}
use denote.RawPtr.{Ptr}
use denote.Sharing.{nothing}
use denote.HoleLaws.{Alike}
use denote.HolePlaces.{Recodes, struct_places, laid, one_value}
use denote.Hole.Fix.{over}
use denote.Param.Weighed.{Weighed}
use denote.Model.Placed.{view_places}
use Rattle.std.specs.declared.sync.Arc.{Arc}
use Rattle.std.specs.contracts.sync.Arc as arc
use Rattle.std.specs.declared.alloc.Global.{Global}
use Rattle.std.specs.contracts.alloc.Global as heap
use Rattle.std.specs.contracts.impls.GlobalAllocator.TheImpl.{ghosts}
use Rattle.text_kit.specs.declared.shared.Shared.TheInside.{Inside}
use Rattle.text_kit.specs.declared.shared.Shared.TheView.{view, invariant}
use Rattle.text_kit.specs.contracts.shared.Shared as row
use Rattle.text_kit.specs.contracts.shared.Shared.TheInside as inside

-- the value itself
abbrev pub the_former : Former {0} → Former {0}
the_former g = g

-- measured as its value
abbrev pub the_weighed : {g : Former {0}} → Weighed g → Weighed (the_former g)
the_weighed w = w

-- the one field is a counted pointer with its value
abbrev stored : Former {0}
stored = via (pair (const Ptr) this) Inside (λ X fields. (fields.inner.ptr, fields.inner.value))
    (λ X held. record { inner = record { ptr = held.0; value = held.1 } }) (λ X fields. refl) (λ X held. refl)

-- the same pointer over another value
abbrev with_value : {X Y : Type 0} → Arc X Global → Y → Arc Y Global
with_value a y = record { ptr = a.ptr; value = y }

abbrev arc_of : RattleType → RattleType
arc_of R = arc.the_row R heap.the_row ghosts

module _ (R S : RattleType) (h : R.Denot → S.Denot) where
  arc_places : Alike R S h → Alike (arc_of R) (arc_of S) (λ a. with_value a (h a.value))
  unfolding part_of
  arc_places alike = record {
    mir_same = λ i. (arc_of (one_value R (alike.mir_same i) (λ _. ftrue) (λ _ _. nothing) gnil)).mir;
    own_same = λ a i. (arc_of (one_value R (alike.mir_same i) (alike.own_same a.value i) (alike.shr_same a.value i) gnil)).own_val (with_value a tt);
    shr_same = λ a i. (arc_of (one_value R (alike.mir_same i) (alike.own_same a.value i) (alike.shr_same a.value i) gnil)).shr_at (with_value a tt);
  }

  pub the_places : Alike R S h → Alike (row.the_row R) (row.the_row S) ((the_former this).map R.Denot S.Denot h)
  the_places alike = view_places stored this view (λ X Y k u. refl) (λ X u. refl) R.Denot S.Denot h
      (row.the_row R).coded (row.the_row S).coded (invariant R.Denot) (invariant S.Denot)
      (λ u p q. refl) (λ u p q. refl) (λ u e. tt) (λ u e. tt)
      (over (inside.the_row R)) (over (inside.the_row S))
      (struct_places (inside.the_type R) (inside.the_type S) ((λ a. with_value a (h a.value)), tt) _ (λ d. refl) refl
      (laid _ _ _ (arc_places alike), tt))

  pub the_codes_placed : Recodes R S h → Recodes (row.the_row R) (row.the_row S) ((the_former this).map R.Denot S.Denot h)
  the_codes_placed recodes value = recodes value
