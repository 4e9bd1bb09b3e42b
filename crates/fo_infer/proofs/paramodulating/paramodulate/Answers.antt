use Rattle.std.proofs.Common.{◌≡◌, length, subst, arith}
use Rattle.std.specs.List.{flat_map}
use Rattle.fo_infer.specs.Inferences.{PairGives, para_rules, renamed_apart, upto}
use Rattle.fo_infer.specs.inner.Adding.{Adds}
use Rattle.fo_infer.specs.inner.Places.{position_of}
use Rattle.fo_infer.specs.inner.Findings.{all_made}
use Rattle.fo_infer.proofs.Listing.{adds_start, adds_rows}
use Rattle.fo_infer.proofs.paramodulating.paramodulate.Goals as goal

pub loop-i-init : goal.loop-i-init
loop-i-init c = adds_start (PairGives (position_of c.args.plain) c.args.p.now c.args.q.now) (all_made c.args.p.now c.args.apart.now c.args.out.now)

pub loop-i-preserved : goal.loop-i-preserved
loop-i-preserved c =
    let gives = PairGives (position_of c.args.plain) c.args.p.now c.args.q.now in
    adds_rows gives (para_rules (renamed_apart c.args.p.now c.args.q.now)) c.loop-i.i (all_made c.args.p.now c.args.apart.now c.args.out.now) (all_made c.args.p.now c.args.apart.now c.loop-i.out) (all_made c.args.p.now c.args.apart.now c.para_equation.new.out) c.loop-i.invariant
    (subst (λ ls. Adds gives (para_rules ls c.loop-i.i) (all_made c.args.p.now c.args.apart.now c.loop-i.out) (all_made c.args.p.now c.args.apart.now c.para_equation.new.out)) c.requires.apart c.in_ok-para_equation.ensures)

pub returns : goal.returns
returns c =
    let all : c.loop-i.i ≡ length c.args.p.now.literals = omega arith in
    subst (λ n. Adds (PairGives (position_of c.args.plain) c.args.p.now c.args.q.now) (flat_map (para_rules (renamed_apart c.args.p.now c.args.q.now)) (upto n)) (all_made c.args.p.now c.args.apart.now c.args.out.now) (all_made c.args.p.now c.args.apart.now c.loop-i.out)) all c.loop-i.invariant
