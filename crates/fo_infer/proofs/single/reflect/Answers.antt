use Rattle.std.proofs.Common.{◌≡◌, [], map, length, subst, arith}
use Rattle.fo_infer.specs.declared.made.Rule.TheVariants.{Reflex}
use Rattle.fo_infer.specs.Inferences.{AloneGives, upto}
use Rattle.fo_infer.specs.inner.Adding.{Adds}
use Rattle.fo_infer.specs.inner.Findings.{given_by, all_made}
use Rattle.fo_infer.proofs.Listing.{adds_start, adds_more}
use Rattle.fo_infer.proofs.single.reflect.Goals as goal

pub loop-i-init : goal.loop-i-init
loop-i-init c = adds_start (AloneGives c.args.p.now) (all_made c.args.p.now [] c.args.out.now)

pub loop-i-preserved : goal.loop-i-preserved
loop-i-preserved c =
    adds_more (AloneGives c.args.p.now) (λ i. Reflex i) c.loop-i.i (given_by c.args.p.now [] (Reflex c.loop-i.i) c.in_ok-found.found) (all_made c.args.p.now [] c.args.out.now) (all_made c.args.p.now [] c.loop-i.out) (all_made c.args.p.now [] c.add.new.out) c.loop-i.invariant (c.in_ok-add.ensures c.args.p.now []) c.in_ok-found.ensures

pub returns : goal.returns
returns c =
    let all : c.loop-i.i ≡ length c.args.p.now.literals = omega arith in
    subst (λ n. Adds (AloneGives c.args.p.now) (map (λ i. Reflex i) (upto n)) (all_made c.args.p.now [] c.args.out.now) (all_made c.args.p.now [] c.loop-i.out)) all c.loop-i.invariant
