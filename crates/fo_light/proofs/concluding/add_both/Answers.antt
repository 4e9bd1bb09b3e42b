use Rattle.std.proofs.Common.{◌++◌, refl, subst}
use Rattle.std.specs.List.{remove}
use Rattle.fo_terms.specs.Substitution.{put_literals}
use Rattle.fo_unify.specs.Lookup.{term_of}
use Rattle.fo_light.specs.Grown.{Grown}
use Rattle.fo_light.proofs.Growing.{both_stop, both_then}
use Rattle.fo_light.proofs.concluding.add_both.Goals as goal

pub returns-then-not-branch : goal.returns-then-not-branch
returns-then-not-branch c =
    let v = term_of c.args.unifier.now in
    let a = remove c.args.p.now.literals c.args.i in
    let b = remove c.args.apart.now c.args.j in
    both_stop v c.args.out.now c.add_rest.new.out a b (a ++ b) refl c.add_rest.new.out
    (subst (λ r. Grown c.args.out.now (put_literals v a) r c.add_rest.new.out) c.if-not-branch.true
    (subst (λ ls. Grown c.args.out.now (put_literals v (remove ls c.args.i)) c.in_ok-add_rest.field-0 c.add_rest.new.out) c.as_slice.ensures c.in_ok-add_rest.ensures))

pub returns : goal.returns
returns c =
    let v = term_of c.args.unifier.now in
    let a = remove c.args.p.now.literals c.args.i in
    let b = remove c.args.apart.now c.args.j in
    both_then v c.args.out.now c.add_rest.new.out a b (a ++ b) refl c.add_rest-2.new.out c.in_ok-made.made
    (subst (λ r. Grown c.args.out.now (put_literals v a) r c.add_rest.new.out) c.if-not-branch.false
    (subst (λ ls. Grown c.args.out.now (put_literals v (remove ls c.args.i)) c.in_ok-add_rest.field-0 c.add_rest.new.out) c.as_slice.ensures c.in_ok-add_rest.ensures))
    (subst (λ ls. Grown c.add_rest.new.out (put_literals v (remove ls c.args.j)) c.in_ok-made.made c.add_rest-2.new.out) c.as_slice-2.ensures c.in_ok-made.ensures)
