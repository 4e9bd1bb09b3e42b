use Rattle.std.proofs.Common.{◌≡◌, true, false, map, refl, sym, subst, ◌∙◌}
use Rattle.fo_terms.specs.declared.clause.Clause.{Clause}
use Rattle.fo_infer.specs.declared.made.Rule.TheVariants.{Para}
use Rattle.fo_infer.specs.Inferences.{PairGives, position_rules, option_paths}
use Rattle.fo_infer.specs.inner.Adding.{Adds}
use Rattle.fo_infer.specs.inner.Places.{position_of}
use Rattle.fo_infer.specs.inner.Findings.{all_made}
use Rattle.fo_infer.proofs.Listing.{adds_none}
use Rattle.fo_infer.proofs.Paramodulants.{each_position, nothing_slight}
use Rattle.fo_infer.proofs.paramodulating.para_literal.Goals as goal

pub returns-then-not-eligible : goal.returns-then-not-eligible
returns-then-not-eligible c =
    let from = c.args.from.now in
    let gives = PairGives (position_of from.plain) from.p.now from.q.now in
    adds_none gives (position_rules from.apart.now from.i from.swapped c.args.j) (all_made from.p.now from.apart.now c.args.out.now) (all_made from.p.now from.apart.now c.args.out.now) refl
    (each_position (λ r. (d : Clause) → gives r d → ⊥) from.i from.apart.now from.swapped c.args.j
    (λ path d made. let clash : false ≡ true = sym c.if-not-eligible.true ∙ c.eligible.ensures.1 made.right_eligible in cc))

pub returns-then-is_slight_atom : goal.returns-then-is_slight_atom
returns-then-is_slight_atom c =
    let from = c.args.from.now in
    let gives = PairGives (position_of from.plain) from.p.now from.q.now in
    adds_none gives (position_rules from.apart.now from.i from.swapped c.args.j) (all_made from.p.now from.apart.now c.args.out.now) (all_made from.p.now from.apart.now c.args.out.now) refl
    (each_position (λ r. (d : Clause) → gives r d → ⊥) from.i from.apart.now from.swapped c.args.j
    (nothing_slight (position_of from.plain) from c.requires.source c.args.j c.at-into.result.now c.at-into.ensures (c.if-is_slight_atom.ensures refl) (c.requires.source.less c.if-from.true)))

pub returns : goal.returns
returns c =
    let from = c.args.from.now in
    subst (λ o. Adds (PairGives (position_of from.plain) from.p.now from.q.now) (map (λ path. Para from.i from.swapped c.args.j path) (option_paths o)) (all_made from.p.now from.apart.now c.args.out.now) (all_made from.p.now from.apart.now c.walk_literal.new.out)) (sym c.at-into.ensures)
    c.in_ok-walk_literal.ensures
