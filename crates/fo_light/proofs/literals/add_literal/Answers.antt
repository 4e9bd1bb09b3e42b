use Rattle.std.proofs.Common.{◌≡◌, false, sym, subst}
use Rattle.fo_terms.specs.declared.literal.Literal.{Literal}
use Rattle.fo_terms.specs.declared.atom.Atom.TheVariants.{Holds}
use Rattle.fo_terms.specs.Substitution.{put, put_literal, put_atom}
use Rattle.fo_unify.specs.Lookup.{term_of}
use Rattle.fo_light.specs.Written.{cells_put, Written}
use Rattle.fo_light.specs.Grown.{Grown}
use Rattle.fo_light.proofs.Growing.{no_room, term_large, holds_lasts}
use Rattle.fo_light.proofs.literals.add_literal.Goals as goal
use Rattle.std.proofs.Common.{[], ◌∷◌}

pub returns-then-not-branch : goal.returns-then-not-branch
returns-then-not-branch c =
    let v = term_of c.args.unifier.now in
    let t = put v c.in-Holds.t in
    let l : Literal = record { positive = c.args.l.now.positive; atom = Holds t } in
    let is : l ≡ put_literal v c.args.l.now = λ k. record { positive = c.args.l.now.positive; atom = put_atom v (sym c.in-Holds.is k) } in
    subst (λ m. Grown c.args.out.now (m ∷ []) false c.args.out.now) is
    (no_room c.args.out.now l false c.requires
    (term_large t c.args.l.now.positive c.clear.new.self c.put_instance.new.out c.clear.ensures (subst (λ b. Written c.clear.new.self (cells_put v c.in-Holds.t) b c.put_instance.new.out) c.if-not-branch.true c.in_ok-put_instance-in-Holds.ensures))
    (holds_lasts c.args.l.now.positive t))
