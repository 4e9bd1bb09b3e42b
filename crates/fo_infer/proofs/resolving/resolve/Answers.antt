use Rattle.std.proofs.Common.{◌≡◌, length, subst, arith}
use Rattle.std.specs.List.{flat_map}
use Rattle.fo_infer.specs.Inferences.{PairGives, resolve_rules, upto}
use Rattle.fo_infer.specs.inner.Adding.{Adds}
use Rattle.fo_infer.specs.inner.Findings.{all_made}
use Rattle.fo_infer.proofs.Listing.{adds_start, adds_rows}
use Rattle.fo_infer.proofs.resolving.resolve.Goals as goal

pub loop-i-init : goal.loop-i-init
loop-i-init c position = adds_start (PairGives position c.args.p.now c.args.q.now) (all_made c.args.p.now c.args.apart.now c.args.out.now)

pub loop-i-preserved : goal.loop-i-preserved
loop-i-preserved c position =
    adds_rows (PairGives position c.args.p.now c.args.q.now) (resolve_rules (length c.args.q.now.literals)) c.loop-i.i (all_made c.args.p.now c.args.apart.now c.args.out.now) (all_made c.args.p.now c.args.apart.now c.loop-i.out) (all_made c.args.p.now c.args.apart.now c.resolve_literal.new.out) (c.loop-i.invariant position)
    (c.in_ok-resolve_literal.ensures position)

pub returns : goal.returns
returns c position =
    let all : c.loop-i.i ≡ length c.args.p.now.literals = omega arith in
    subst (λ n. Adds (PairGives position c.args.p.now c.args.q.now) (flat_map (resolve_rules (length c.args.q.now.literals)) (upto n)) (all_made c.args.p.now c.args.apart.now c.args.out.now) (all_made c.args.p.now c.args.apart.now c.loop-i.out)) all (c.loop-i.invariant position)
