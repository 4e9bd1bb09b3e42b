use Rattle.std.proofs.Common.{◌<◌, ◌∙◌, length, refl, inl, inr, sym, ap, subst, arith}
use Rattle.tstp_print.specs.Used.{IsParent}
use Rattle.tstp_print.proofs.Marks.{set_length}
use Rattle.tstp_print.proofs.marking.mark_parents.Goals as goal

pub set-requires : goal.set-requires
set-requires c = c.requires c.in-Alone.of (subst (λ o. IsParent o c.in-Alone.of) (sym c.in-Alone.is) refl)

pub set-requires-in-Pair : goal.set-requires-in-Pair
set-requires-in-Pair c = c.requires c.in-Pair.left (subst (λ o. IsParent o c.in-Pair.left) (sym c.in-Pair.is) (inl refl))

pub set-requires-in-Pair-2 : goal.set-requires-in-Pair-2
set-requires-in-Pair-2 c =
    let within : c.in-Pair.right < length c.args.marks.now = c.requires c.in-Pair.right (subst (λ o. IsParent o c.in-Pair.right) (sym c.in-Pair.is) (inr refl)) in
    let count = ap length c.set-in-Pair.ensures ∙ set_length c.args.marks.now c.in-Pair.left in
    omega arith
