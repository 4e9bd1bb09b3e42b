use Rattle.std.proofs.Common.{subst}
use Rattle.fo_terms.specs.Substitution.{put}
use Rattle.fo_unify.specs.Lookup.{term_of}
use Rattle.fo_light.specs.Written.{cells_put, Written}
use Rattle.fo_light.proofs.Growing.{no_room, side_large, sides_large}
use Rattle.fo_light.proofs.literals.add_sides.Goals as goal
use Rattle.fo_terms.specs.declared.atom.Atom.TheVariants.{Eq}

pub returns-then-not-branch : goal.returns-then-not-branch
returns-then-not-branch c =
    let v = term_of c.args.unifier.now in
    let s = put v c.args.s.now in
    let t = put v c.args.t.now in
    no_room c.args.out.now (record { positive = c.args.positive; atom = Eq s t }) c.in_ok-never.never c.requires.weight
    (side_large s t c.args.positive c.args.cells.now c.put_instance.new.out c.requires.cells (subst (λ b. Written c.args.cells.now (cells_put v c.args.s.now) b c.put_instance.new.out) c.if-not-branch.true c.in_ok-put_instance.ensures))
    c.in_ok-never.ensures

pub returns-then-not-branch-2 : goal.returns-then-not-branch-2
returns-then-not-branch-2 c =
    let v = term_of c.args.unifier.now in
    let s = put v c.args.s.now in
    let t = put v c.args.t.now in
    no_room c.args.out.now (record { positive = c.args.positive; atom = Eq s t }) c.in_ok-never-2.never c.requires.weight
    (sides_large s t c.args.positive c.args.cells.now c.put_instance.new.out c.put_instance-2.new.out c.requires.cells
    (subst (λ b. Written c.args.cells.now (cells_put v c.args.s.now) b c.put_instance.new.out) c.if-not-branch.false c.in_ok-put_instance.ensures)
    (subst (λ b. Written c.put_instance.new.out (cells_put v c.args.t.now) b c.put_instance-2.new.out) c.if-not-branch-2.true c.in_ok-put_instance-2.ensures))
    c.in_ok-never-2.ensures
