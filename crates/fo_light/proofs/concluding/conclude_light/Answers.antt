use Rattle.std.proofs.Common.{false, true, subst}
use Rattle.fo_terms.specs.Substitution.{put_literals}
use Rattle.fo_unify.specs.Lookup.{term_of}
use Rattle.fo_infer.specs.inner.Findings.{left_by}
use Rattle.fo_light.specs.Grown.{Grown}
use Rattle.fo_light.proofs.Growing.{concluded, too_heavy}
use Rattle.fo_light.proofs.concluding.conclude_light.Goals as goal

pub returns-then-not-branch : goal.returns-then-not-branch
returns-then-not-branch c =
    let ls = put_literals (term_of c.args.found.now.unifier) (left_by c.args.p.now c.args.apart.now c.args.found.now.rule) in
    too_heavy ls c.add_conclusion.new.out c.add_conclusion.new.out
    (subst (λ o. Grown o ls false c.add_conclusion.new.out) c.clear.ensures (subst (λ b. Grown c.clear.new.self ls b c.add_conclusion.new.out) c.if-not-branch.true c.in_ok-add_conclusion.ensures))

pub returns : goal.returns
returns c =
    let ls = put_literals (term_of c.args.found.now.unifier) (left_by c.args.p.now c.args.apart.now c.args.found.now.rule) in
    concluded ls c.add_conclusion.new.out c.number.new.self
    (subst (λ o. Grown o ls true c.add_conclusion.new.out) c.clear.ensures (subst (λ b. Grown c.clear.new.self ls b c.add_conclusion.new.out) c.if-not-branch.false c.in_ok-add_conclusion.ensures))
    c.in_ok-number.ensures.ok
