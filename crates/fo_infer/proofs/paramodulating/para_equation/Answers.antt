use Rattle.std.proofs.Common.{◌≡◌, true, false, refl, sym, ◌∙◌}
use Rattle.fo_terms.specs.declared.clause.Clause.{Clause}
use Rattle.fo_infer.specs.Inferences.{PairGives, direction_rules, para_rules}
use Rattle.fo_infer.specs.inner.Places.{position_of}
use Rattle.fo_infer.specs.inner.Findings.{all_made}
use Rattle.fo_infer.proofs.Listing.{adds_none, adds_then}
use Rattle.fo_infer.proofs.Paramodulants.{each_para, no_source}
use Rattle.fo_infer.proofs.paramodulating.para_equation.Goals as goal

pub returns-in-None : goal.returns-in-None
returns-in-None c =
    let gives = PairGives (position_of c.args.plain) c.args.p.now c.args.q.now in
    adds_none gives (para_rules c.args.apart.now c.args.i) (all_made c.args.p.now c.args.apart.now c.args.out.now) (all_made c.args.p.now c.args.apart.now c.args.out.now) refl
    (each_para (λ r. (d : Clause) → gives r d → ⊥) c.args.i c.args.apart.now (no_source (position_of c.args.plain) c.args.p.now c.args.q.now c.args.i c.at.result.now c.at.ensures c.in-None.ensures))

pub returns-then-not-eligible : goal.returns-then-not-eligible
returns-then-not-eligible c =
    let gives = PairGives (position_of c.args.plain) c.args.p.now c.args.q.now in
    adds_none gives (para_rules c.args.apart.now c.args.i) (all_made c.args.p.now c.args.apart.now c.args.out.now) (all_made c.args.p.now c.args.apart.now c.args.out.now) refl
    (each_para (λ r. (d : Clause) → gives r d → ⊥) c.args.i c.args.apart.now
    (λ swapped j path d made. let clash : false ≡ true = sym c.if-not-eligible.true ∙ c.eligible.ensures.1 made.left_eligible in cc))

pub returns-in_ok-para_direction-in-Some-2 : goal.returns-in_ok-para_direction-in-Some-2
returns-in_ok-para_direction-in-Some-2 c =
    let gives = PairGives (position_of c.args.plain) c.args.p.now c.args.q.now in
    adds_then gives (direction_rules c.args.apart.now c.args.i false) (direction_rules c.args.apart.now c.args.i true) (all_made c.args.p.now c.args.apart.now c.args.out.now) (all_made c.args.p.now c.args.apart.now c.para_direction.new.out) (all_made c.args.p.now c.args.apart.now c.para_direction-in-Some.new.out)
    c.in_ok-para_direction-in-Some.ensures c.in_ok-para_direction-in-Some-2.ensures
