use Rattle.std.proofs.Common.{◌≡◌, length, ap, subst, ◌∙◌, arith}
use Rattle.std.specs.List.{flat_map}
use Rattle.fo_infer.specs.Inferences.{PairGives, position_rules, upto}
use Rattle.fo_infer.specs.inner.Adding.{Adds}
use Rattle.fo_infer.specs.inner.Places.{position_of}
use Rattle.fo_infer.specs.inner.Findings.{all_made}
use Rattle.fo_infer.proofs.Listing.{adds_start, adds_rows}
use Rattle.fo_infer.proofs.Paramodulants.{apart_length}
use Rattle.fo_infer.proofs.paramodulating.para_direction.Goals as goal

pub loop-j-init : goal.loop-j-init
loop-j-init c = let from = c.args.from.now in adds_start (PairGives (position_of from.plain) from.p.now from.q.now) (all_made from.p.now from.apart.now c.args.out.now)

pub loop-j-preserved : goal.loop-j-preserved
loop-j-preserved c =
    let from = c.args.from.now in
    adds_rows (PairGives (position_of from.plain) from.p.now from.q.now) (position_rules from.apart.now from.i from.swapped) c.loop-j.j (all_made from.p.now from.apart.now c.args.out.now) (all_made from.p.now from.apart.now c.loop-j.out) (all_made from.p.now from.apart.now c.para_literal.new.out) c.loop-j.invariant c.in_ok-para_literal.ensures

pub returns : goal.returns
returns c =
    let from = c.args.from.now in
    let apart = ap length c.requires.source.apart ∙ apart_length from.p.now from.q.now in
    let all : c.loop-j.j ≡ length from.apart.now = omega arith in
    subst (λ n. Adds (PairGives (position_of from.plain) from.p.now from.q.now) (flat_map (position_rules from.apart.now from.i from.swapped) (upto n)) (all_made from.p.now from.apart.now c.args.out.now) (all_made from.p.now from.apart.now c.loop-j.out)) all c.loop-j.invariant
