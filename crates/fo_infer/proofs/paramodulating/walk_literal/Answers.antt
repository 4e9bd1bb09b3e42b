use Rattle.std.proofs.Common.{[], ◌∷◌, map, sym, ap, subst, ◌∙◌}
use Rattle.fo_infer.specs.declared.made.Rule.TheVariants.{Para}
use Rattle.fo_infer.specs.Paths.{paths_of, atom_paths}
use Rattle.fo_infer.specs.Inferences.{PairGives}
use Rattle.fo_infer.specs.inner.Adding.{Adds}
use Rattle.fo_infer.specs.inner.Places.{position_of, rules_behind}
use Rattle.fo_infer.specs.inner.Findings.{all_made}
use Rattle.fo_infer.proofs.Listing.{adds_then}
use Rattle.fo_infer.proofs.Paramodulants.{term_rules, sides_rules}
use Rattle.fo_infer.proofs.paramodulating.walk_literal.Goals as goal

pub returns-in_ok-walk_side-in-Holds : goal.returns-in_ok-walk_side-in-Holds
returns-in_ok-walk_side-in-Holds c =
    let from = c.args.from.now in
    subst (λ rs. Adds (PairGives (position_of from.plain) from.p.now from.q.now) rs (all_made from.p.now from.apart.now c.args.out.now) (all_made from.p.now from.apart.now c.walk_side.new.out))
    (sym (ap (λ a. map (λ path. Para from.i from.swapped c.args.j path) (atom_paths a)) c.in-Holds.is ∙ term_rules from.i from.swapped c.args.j c.in-Holds.t)) c.in_ok-walk_side-in-Holds.ensures

pub returns-in_ok-walk_side-in-Eq-2 : goal.returns-in_ok-walk_side-in-Eq-2
returns-in_ok-walk_side-in-Eq-2 c =
    let from = c.args.from.now in
    let gives = PairGives (position_of from.plain) from.p.now from.q.now in
    subst (λ rs. Adds gives rs (all_made from.p.now from.apart.now c.args.out.now) (all_made from.p.now from.apart.now c.walk_side-in-Eq-2.new.out))
    (sym (ap (λ a. map (λ path. Para from.i from.swapped c.args.j path) (atom_paths a)) c.in-Eq.is ∙ sides_rules from.i from.swapped c.args.j c.in-Eq.s c.in-Eq.t))
    (adds_then gives (rules_behind from.i from.swapped c.args.j (0 ∷ []) (paths_of c.in-Eq.s)) (rules_behind from.i from.swapped c.args.j (1 ∷ []) (paths_of c.in-Eq.t)) (all_made from.p.now from.apart.now c.args.out.now) (all_made from.p.now from.apart.now c.walk_side-in-Eq.new.out) (all_made from.p.now from.apart.now c.walk_side-in-Eq-2.new.out)
    c.in_ok-walk_side-in-Eq.ensures c.in_ok-walk_side-in-Eq-2.ensures)
