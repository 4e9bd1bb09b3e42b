use Rattle.std.proofs.Common.{◌≡◌, false, true, Some, slice_get, ◌∙◌, sym, ap}
use Rattle.fo_terms.specs.declared.atom.Atom.TheVariants.{Holds}
use Rattle.fo_infer.specs.Inferences.{renamed_apart}
use Rattle.fo_infer.proofs.Resolvents.{no_right, no_unifier, resolve_answer}
use Rattle.fo_infer.proofs.resolving.resolve_at.Goals as goal

pub returns-in-None : goal.returns-in-None
returns-in-None c = no_right c.args.p.now c.args.q.now c.args.i c.args.j c.at.result.now (ap (λ ls. slice_get ls c.args.j) (sym c.requires.apart) ∙ c.at.ensures) c.in-None.ensures

pub returns-then-not-may_meet : goal.returns-then-not-may_meet
returns-then-not-may_meet c =
    let right : slice_get (renamed_apart c.args.p.now c.args.q.now) c.args.j ≡ Some (record { positive = false; atom = Holds c.in-Some.t.now }) =
    ap (λ ls. slice_get ls c.args.j) (sym c.requires.apart) ∙ c.at.ensures ∙ ap Some c.in-Some.ensures in
    no_unifier c.args.p.now c.args.q.now c.args.i c.args.j c.args.s.now c.in-Some.t.now c.requires.term right
    (λ v u. let met = c.may_meet.ensures (v, v, u.0) in let clash : false ≡ true = sym c.if-not-may_meet.true ∙ met in cc)

pub returns-in_ok-unifier-in-Some : goal.returns-in_ok-unifier-in-Some
returns-in_ok-unifier-in-Some c =
    let right : slice_get (renamed_apart c.args.p.now c.args.q.now) c.args.j ≡ Some (record { positive = false; atom = Holds c.in-Some.t.now }) =
    ap (λ ls. slice_get ls c.args.j) (sym c.requires.apart) ∙ c.at.ensures ∙ ap Some c.in-Some.ensures in
    resolve_answer c.args.p.now c.args.q.now c.args.apart.now c.args.i c.args.j c.args.s.now c.in-Some.t.now c.requires.apart c.requires.term right
    (c.eligible.ensures.0 c.if-not-eligible.false) (c.eligible-in-Some.ensures.0 c.if-not-eligible-2.false) c.in_ok-unifier-in-Some.unifier c.in_ok-unifier-in-Some.ensures
