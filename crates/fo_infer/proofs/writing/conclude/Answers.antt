use Rattle.std.proofs.Common.{◌≡◌, ◌++◌, true, Some, sym, ap, subst, ◌∙◌}
use Rattle.std.specs.Prelude.{slice_get, slice_set}
use Rattle.std.specs.List.{remove}
use Rattle.fo_terms.specs.declared.atom.Atom.TheVariants.{Eq}
use Rattle.fo_infer.specs.Inferences.{conclusion}
use Rattle.fo_infer.specs.inner.Findings.{IsPlaced, left_by, side_of, replaced_in}
use Rattle.fo_infer.proofs.Resolvents.{some_same}
use Rattle.fo_infer.proofs.Placing.{there}
use Rattle.fo_infer.proofs.writing.conclude.Goals as goal

pub unreachable-requires : goal.unreachable-requires
unreachable-requires c =
    let placed = subst (IsPlaced c.args.p.now c.args.apart.now) c.in-Para.is c.requires in
    c.in-None.ensures placed.2.0 placed.2.1 (some_same c.at.result.now (record { positive = true; atom = Eq placed.2.0 placed.2.1 }) (sym c.at.ensures ∙ placed.2.2))

pub returns-in_ok-clause-in-Some : goal.returns-in_ok-clause-in-Some
returns-in_ok-clause-in-Some c =
    let p = c.args.p.now in
    let apart = c.args.apart.now in
    let placed = subst (IsPlaced p apart) c.in-Para.is c.requires in
    let into = there apart c.in-Para.j placed.1 in
    let side : c.put_side-by.result.now ≡ side_of c.in-Para.swapped (slice_get p.literals c.in-Para.i) =
    c.put_side-by.ensures ∙ sym (ap (side_of c.in-Para.swapped) (c.at.ensures ∙ ap Some c.in-Some.ensures)) in
    c.in_ok-clause-in-Some.ensures into.0 into.1
    ∙ (λ k. conclusion c.args.binds.now (remove p.literals c.in-Para.i ++ slice_set apart c.in-Para.j (replaced_in (c.as_slice.ensures k) (side k) (sym into.1 k))))
    ∙ ap (λ r. conclusion c.args.binds.now (left_by p apart r)) (sym c.in-Para.is)
