use Rattle.std.proofs.Common.{[], ◌∷◌, ap, refl, inl, inr}
use Rattle.hol_lift.specs.inner.Lifting.{parents}
use Rattle.hol_lift.proofs.Marking.{marks_one, marks_both, marks_at, within_at, within_set}
use Rattle.hol_lift.proofs.wanting.mark_parents.Goals as goal

pub set-requires : goal.set-requires
set-requires c = within_at c.args.origin.now (c.in-Alone.of ∷ []) _ c.in-Alone.of (ap parents c.in-Alone.is) c.requires (inl refl)

pub set-requires-in-Pair : goal.set-requires-in-Pair
set-requires-in-Pair c = within_at c.args.origin.now (c.in-Pair.left ∷ c.in-Pair.right ∷ []) _ c.in-Pair.left (ap parents c.in-Pair.is) c.requires (inl refl)

pub set-requires-in-Pair-2 : goal.set-requires-in-Pair-2
set-requires-in-Pair-2 c =
    within_set c.args.marks.now c.set-in-Pair.new.self c.in-Pair.left c.in-Pair.right c.set-in-Pair.ensures
    (within_at c.args.origin.now (c.in-Pair.left ∷ c.in-Pair.right ∷ []) _ c.in-Pair.right (ap parents c.in-Pair.is) c.requires (inr (inl refl)))

pub returns-in-Alone : goal.returns-in-Alone
returns-in-Alone c =
    marks_at c.args.marks.now c.set.new.self c.args.origin.now (c.in-Alone.of ∷ []) (ap parents c.in-Alone.is)
    (marks_one c.args.marks.now c.set.new.self c.in-Alone.of (within_at c.args.origin.now (c.in-Alone.of ∷ []) _ c.in-Alone.of (ap parents c.in-Alone.is) c.requires (inl refl)) c.set.ensures)

pub returns-in-Pair : goal.returns-in-Pair
returns-in-Pair c =
    let ps = c.in-Pair.left ∷ c.in-Pair.right ∷ [] in
    let first = within_at c.args.origin.now ps _ c.in-Pair.left (ap parents c.in-Pair.is) c.requires (inl refl) in
    let second = within_set c.args.marks.now c.set-in-Pair.new.self c.in-Pair.left c.in-Pair.right c.set-in-Pair.ensures (within_at c.args.origin.now ps _ c.in-Pair.right (ap parents c.in-Pair.is) c.requires (inr (inl refl))) in
    marks_at c.args.marks.now c.set-in-Pair-2.new.self c.args.origin.now ps (ap parents c.in-Pair.is)
    (marks_both c.args.marks.now c.set-in-Pair.new.self c.set-in-Pair-2.new.self (c.in-Pair.left ∷ []) (c.in-Pair.right ∷ [])
    (marks_one c.args.marks.now c.set-in-Pair.new.self c.in-Pair.left first c.set-in-Pair.ensures) (marks_one c.set-in-Pair.new.self c.set-in-Pair-2.new.self c.in-Pair.right second c.set-in-Pair-2.ensures))
