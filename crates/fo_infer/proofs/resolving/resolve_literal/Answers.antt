use Rattle.std.proofs.Common.{◌≡◌, refl, map, length, subst, arith}
use Rattle.fo_terms.specs.declared.clause.Clause.{Clause}
use Rattle.fo_infer.specs.declared.made.Rule.TheVariants.{Resolve}
use Rattle.fo_infer.specs.Inferences.{PairGives, upto}
use Rattle.fo_infer.specs.inner.Adding.{Adds}
use Rattle.fo_infer.specs.inner.Findings.{given_by, all_made}
use Rattle.fo_infer.proofs.Listing.{adds_start, adds_none, adds_more, each_rule}
use Rattle.fo_infer.proofs.Resolvents.{no_left}
use Rattle.fo_infer.proofs.resolving.resolve_literal.Goals as goal

pub returns-in-None : goal.returns-in-None
returns-in-None c position =
    let gives = PairGives position c.args.p.now c.args.q.now in
    adds_none gives (map (λ j. Resolve c.args.i j) (upto (length c.args.q.now.literals))) (all_made c.args.p.now c.args.apart.now c.args.out.now) (all_made c.args.p.now c.args.apart.now c.args.out.now) refl
    (each_rule (λ r. (d : Clause) → gives r d → ⊥) (λ j. Resolve c.args.i j) (λ j. no_left c.args.p.now c.args.q.now c.args.i j c.at.result.now c.at.ensures c.in-None.ensures) (upto (length c.args.q.now.literals)))

pub loop-j-init : goal.loop-j-init
loop-j-init c position = adds_start (PairGives position c.args.p.now c.args.q.now) (all_made c.args.p.now c.args.apart.now c.args.out.now)

pub loop-j-preserved : goal.loop-j-preserved
loop-j-preserved c position =
    adds_more (PairGives position c.args.p.now c.args.q.now) (λ j. Resolve c.args.i j) c.loop-j.j (given_by c.args.p.now c.args.apart.now (Resolve c.args.i c.loop-j.j) c.in_ok-found-in-Some.found) (all_made c.args.p.now c.args.apart.now c.args.out.now) (all_made c.args.p.now c.args.apart.now c.loop-j.out) (all_made c.args.p.now c.args.apart.now c.add.new.out) (c.loop-j.invariant position)
    (c.in_ok-add-in-Some.ensures c.args.p.now c.args.apart.now) c.in_ok-found-in-Some.ensures

pub returns-after-loop-j : goal.returns-after-loop-j
returns-after-loop-j c position =
    let all : c.loop-j.j ≡ length c.args.q.now.literals = omega arith in
    subst (λ n. Adds (PairGives position c.args.p.now c.args.q.now) (map (λ j. Resolve c.args.i j) (upto n)) (all_made c.args.p.now c.args.apart.now c.args.out.now) (all_made c.args.p.now c.args.apart.now c.loop-j.out)) all (c.loop-j.invariant position)
