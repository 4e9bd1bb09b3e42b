use Rattle.std.proofs.Common.{◌≡◌, ◌++◌, refl, sym, ap, subst, ◌∙◌}
use Rattle.std.specs.Prelude.{slice_set}
use Rattle.std.specs.List.{remove}
use Rattle.fo_terms.specs.declared.literal.Literal.{Literal}
use Rattle.fo_terms.specs.Substitution.{put_literals}
use Rattle.fo_unify.specs.Lookup.{term_of}
use Rattle.fo_infer.specs.Inferences.{literal_replaced}
use Rattle.fo_infer.proofs.Resolvents.{some_same}
use Rattle.fo_light.specs.Grown.{Grown}
use Rattle.fo_light.proofs.Growing.{both_stop, both_then}
use Rattle.fo_light.proofs.concluding.add_put.Goals as goal

pub returns-then-not-branch : goal.returns-then-not-branch
returns-then-not-branch c = λ into at.
    let v = term_of c.args.unifier.now in
    let a = remove c.args.p.now.literals c.args.i in
    let b = slice_set c.args.apart.now c.args.j (literal_replaced c.args.path.now c.args.by.now into) in
    both_stop v c.args.out.now c.add_rest.new.out a b (a ++ b) refl c.add_rest.new.out
    (subst (λ r. Grown c.args.out.now (put_literals v a) r c.add_rest.new.out) c.if-not-branch.true
    (subst (λ ls. Grown c.args.out.now (put_literals v (remove ls c.args.i)) c.in_ok-add_rest.field-0 c.add_rest.new.out) c.as_slice.ensures c.in_ok-add_rest.ensures))

pub returns : goal.returns
returns c = λ into at.
    let v = term_of c.args.unifier.now in
    let a = remove c.args.p.now.literals c.args.i in
    let b = slice_set c.args.apart.now c.args.j (literal_replaced c.args.path.now c.args.by.now into) in
    let same : c.at-into.result.now ≡ into = some_same c.at-into.result.now into (sym c.at-into.ensures ∙ at) in
    let changed : Literal = record { positive = c.at-into.result.now.positive; atom = c.in_ok-replace_in_atom.field-0 } in
    let is : changed ≡ literal_replaced c.args.path.now c.args.by.now into =
    (λ k. record { positive = c.at-into.result.now.positive; atom = c.in_ok-replace_in_atom.ensures k }) ∙ ap (literal_replaced c.args.path.now c.args.by.now) same in
    both_then v c.args.out.now c.add_rest.new.out a b (a ++ b) refl c.add_changed.new.out c.in_ok-made.made
    (subst (λ r. Grown c.args.out.now (put_literals v a) r c.add_rest.new.out) c.if-not-branch.false
    (subst (λ ls. Grown c.args.out.now (put_literals v (remove ls c.args.i)) c.in_ok-add_rest.field-0 c.add_rest.new.out) c.as_slice.ensures c.in_ok-add_rest.ensures))
    (subst (λ l. Grown c.add_rest.new.out (put_literals v (slice_set c.args.apart.now c.args.j l)) c.in_ok-made.made c.add_changed.new.out) is
    (subst (λ ls. Grown c.add_rest.new.out (put_literals v (slice_set ls c.args.j changed)) c.in_ok-made.made c.add_changed.new.out) c.as_slice-2.ensures c.in_ok-made.ensures))
