use Rattle.std.proofs.Common.{◌++◌, ◌+◌, take, drop, sym, ap, subst, add-one}
use Rattle.std.specs.List.{remove}
use Rattle.fo_terms.specs.Substitution.{put_literals}
use Rattle.fo_unify.specs.Lookup.{term_of}
use Rattle.fo_light.specs.Grown.{Grown}
use Rattle.fo_light.proofs.Growing.{both_stop, both_then, rest_all}
use Rattle.fo_light.proofs.literals.add_rest.Goals as goal

pub returns-then-not-branch : goal.returns-then-not-branch
returns-then-not-branch c =
    let v = term_of c.args.unifier.now in
    let ls = c.args.literals.now in
    both_stop v c.args.out.now c.add_all.new.out (take c.args.skip ls) (drop (c.args.skip + 1) ls) (remove ls c.args.skip) (ap (λ n. take c.args.skip ls ++ drop n ls) (sym (add-one c.args.skip))) c.add_all.new.out
    (subst (λ b. Grown c.args.out.now (put_literals v (take c.args.skip ls)) b c.add_all.new.out) c.if-not-branch.true c.in_ok-add_all.ensures)

pub returns : goal.returns
returns c =
    let v = term_of c.args.unifier.now in
    let ls = c.args.literals.now in
    both_then v c.args.out.now c.add_all.new.out (take c.args.skip ls) (drop (c.args.skip + 1) ls) (remove ls c.args.skip) (ap (λ n. take c.args.skip ls ++ drop n ls) (sym (add-one c.args.skip))) c.add_all-2.new.out c.in_ok-made.made
    (subst (λ b. Grown c.args.out.now (put_literals v (take c.args.skip ls)) b c.add_all.new.out) c.if-not-branch.false c.in_ok-add_all.ensures)
    (subst (λ r. Grown c.add_all.new.out (put_literals v r) c.in_ok-made.made c.add_all-2.new.out) (rest_all (c.args.skip + 1) ls) c.in_ok-made.ensures)
