use Rattle.std.proofs.Common.{◌≡◌, [], map, length, subst, arith}
use Rattle.fo_infer.specs.declared.made.Rule.TheVariants.{Factor}
use Rattle.fo_infer.specs.Inferences.{AloneGives, upto}
use Rattle.fo_infer.specs.inner.Adding.{Adds}
use Rattle.fo_infer.specs.inner.Findings.{given_by, all_made}
use Rattle.fo_infer.proofs.Listing.{adds_start, adds_more}
use Rattle.fo_infer.proofs.single.factor_literal.Goals as goal

pub loop-j-init : goal.loop-j-init
loop-j-init c = adds_start (AloneGives c.args.p.now) (all_made c.args.p.now [] c.args.out.now)

pub loop-j-preserved : goal.loop-j-preserved
loop-j-preserved c =
    adds_more (AloneGives c.args.p.now) (λ j. Factor c.args.i j) c.loop-j.j (given_by c.args.p.now [] (Factor c.args.i c.loop-j.j) c.in_ok-found.found) (all_made c.args.p.now [] c.args.out.now) (all_made c.args.p.now [] c.loop-j.out) (all_made c.args.p.now [] c.add.new.out) c.loop-j.invariant (c.in_ok-add.ensures c.args.p.now []) c.in_ok-found.ensures

pub returns : goal.returns
returns c =
    let all : c.loop-j.j ≡ length c.args.p.now.literals = omega arith in
    subst (λ n. Adds (AloneGives c.args.p.now) (map (λ j. Factor c.args.i j) (upto n)) (all_made c.args.p.now [] c.args.out.now) (all_made c.args.p.now [] c.loop-j.out)) all c.loop-j.invariant
