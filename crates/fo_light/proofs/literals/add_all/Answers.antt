use Rattle.std.proofs.Common.{◌∷◌, [], true, take, refl, sym, subst}
use Rattle.std.proofs.lemmas.List.{take_all}
use Rattle.fo_terms.specs.Substitution.{put_literal, put_literals}
use Rattle.fo_unify.specs.Lookup.{term_of}
use Rattle.fo_unify.proofs.Closing.{map_more}
use Rattle.fo_light.specs.Grown.{Grown}
use Rattle.fo_light.proofs.Growing.{grown_then, grown_within}
use Rattle.fo_light.proofs.literals.add_all.Goals as goal

pub loop-l-init : goal.loop-l-init
loop-l-init c = (refl, c.requires)

pub add_literal-requires : goal.add_literal-requires
add_literal-requires c = c.loop-l.invariant.1

pub loop-l-preserved : goal.loop-l-preserved
loop-l-preserved c =
    let v = term_of c.args.unifier.now in
    subst (λ ls. Grown c.args.out.now ls true c.add_literal.new.out) (sym (map_more (put_literal v) c.args.literals.now c.loop-l.l-index c.l-item.result c.loop-l-test.true c.l-item.is))
    (grown_then c.args.out.now (put_literals v (take c.loop-l.l-index c.args.literals.now)) (put_literal v c.l-item.result ∷ []) c.loop-l.out c.add_literal.new.out true c.loop-l.invariant
    (subst (λ b. Grown c.loop-l.out (put_literal v c.l-item.result ∷ []) b c.add_literal.new.out) c.if-not-branch.false c.in_ok-add_literal.ensures))

pub returns-then-not-branch : goal.returns-then-not-branch
returns-then-not-branch c =
    let v = term_of c.args.unifier.now in
    grown_within v c.args.out.now c.loop-l.out c.add_literal.new.out c.args.literals.now c.loop-l.l-index c.l-item.result c.loop-l-test.true c.l-item.is c.loop-l.invariant
    (subst (λ b. Grown c.loop-l.out (put_literal v c.l-item.result ∷ []) b c.add_literal.new.out) c.if-not-branch.true c.in_ok-add_literal.ensures)

pub returns : goal.returns
returns c =
    let v = term_of c.args.unifier.now in
    subst (λ ls. Grown c.args.out.now (put_literals v ls) true c.loop-l.out) (take_all c.loop-l.l-index c.args.literals.now c.loop-l-test.false) c.loop-l.invariant
