use Rattle.std.proofs.Common.{◌≡◌}
use Rattle.theory_terms.proofs.Kept.{keeps_noted, noted_after}
use Rattle.theory_terms.proofs.known.Known.add_const.Goals as goal

pub invariant_of-self : goal.invariant_of-self
invariant_of-self c = keeps_noted c.self.inside.table c.number.new.self c.self.inside.decls c.number.ensures.keeps c.self.invariant

pub invariant_of-self-2 : goal.invariant_of-self-2
invariant_of-self-2 c =
    noted_after c.number.new.self c.self.inside.decls c.add_const.new.self (record { name = c.args.name.now; ty = c.in_ok-typed.typed.ty }) c.in_ok-typed.typed.number c.add_const.result
    c.add_const.ensures.consts c.add_const.ensures.numbers c.add_const.ensures.err
    (keeps_noted c.self.inside.table c.number.new.self c.self.inside.decls c.number.ensures.keeps c.self.invariant) c.in_ok-typed.ensures.made.1
