use Rattle.std.proofs.Common.{◌≡◌, [], length, subst, arith}
use Rattle.std.specs.List.{flat_map}
use Rattle.fo_infer.specs.Inferences.{AloneGives, factor_rules, upto}
use Rattle.fo_infer.specs.inner.Adding.{Adds}
use Rattle.fo_infer.specs.inner.Findings.{all_made}
use Rattle.fo_infer.proofs.Listing.{adds_start, adds_rows}
use Rattle.fo_infer.proofs.single.factor.Goals as goal

pub loop-i-init : goal.loop-i-init
loop-i-init c = adds_start (AloneGives c.args.p.now) (all_made c.args.p.now [] c.args.out.now)

pub loop-i-preserved : goal.loop-i-preserved
loop-i-preserved c =
    adds_rows (AloneGives c.args.p.now) (factor_rules (length c.args.p.now.literals)) c.loop-i.i (all_made c.args.p.now [] c.args.out.now) (all_made c.args.p.now [] c.loop-i.out) (all_made c.args.p.now [] c.factor_literal.new.out) c.loop-i.invariant c.in_ok-factor_literal.ensures

pub returns : goal.returns
returns c =
    let all : c.loop-i.i ≡ length c.args.p.now.literals = omega arith in
    subst (λ n. Adds (AloneGives c.args.p.now) (flat_map (factor_rules (length c.args.p.now.literals)) (upto n)) (all_made c.args.p.now [] c.args.out.now) (all_made c.args.p.now [] c.loop-i.out)) all c.loop-i.invariant
