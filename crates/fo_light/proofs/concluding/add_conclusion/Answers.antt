use Rattle.std.proofs.Common.{◌≡◌, ◌++◌, true, Some, sym, ap, subst, ◌∙◌}
use Rattle.std.specs.Prelude.{slice_get, slice_set}
use Rattle.std.specs.List.{remove}
use Rattle.fo_terms.specs.declared.atom.Atom.TheVariants.{Eq}
use Rattle.fo_terms.specs.Substitution.{put_literals}
use Rattle.fo_unify.specs.Lookup.{term_of}
use Rattle.fo_infer.specs.inner.Findings.{IsPlaced, left_by, side_of, replaced_in}
use Rattle.fo_infer.proofs.Resolvents.{some_same}
use Rattle.fo_infer.proofs.Placing.{there}
use Rattle.fo_light.specs.Grown.{Grown}
use Rattle.fo_light.proofs.concluding.add_conclusion.Goals as goal

pub unreachable-requires : goal.unreachable-requires
unreachable-requires c =
    let placed = subst (IsPlaced c.args.p.now c.args.apart.now) c.in-Para.is c.requires.placed in
    c.in-None.ensures placed.2.0 placed.2.1 (some_same c.at.result.now (record { positive = true; atom = Eq placed.2.0 placed.2.1 }) (sym c.at.ensures ∙ placed.2.2))

pub returns-in_ok-made-in-Some : goal.returns-in_ok-made-in-Some
returns-in_ok-made-in-Some c =
    let v = term_of c.args.found.now.unifier in
    let p = c.args.p.now in
    let apart = c.args.apart.now in
    let placed = subst (IsPlaced p apart) c.in-Para.is c.requires.placed in
    let into = there apart c.in-Para.j placed.1 in
    let side : c.put_side-by.result.now ≡ side_of c.in-Para.swapped (slice_get p.literals c.in-Para.i) =
    c.put_side-by.ensures ∙ sym (ap (side_of c.in-Para.swapped) (c.at.ensures ∙ ap Some c.in-Some.ensures)) in
    subst (λ ls. Grown c.args.out.now (put_literals v ls) c.in_ok-made-in-Some.made c.add_put.new.out)
    ((λ k. remove p.literals c.in-Para.i ++ slice_set apart c.in-Para.j (replaced_in (c.as_slice.ensures k) (side k) (sym into.1 k))) ∙ ap (left_by p apart) (sym c.in-Para.is))
    (c.in_ok-made-in-Some.ensures into.0 into.1)
