use Rattle.std.proofs.lemmas.Result.{IfOk-weaker}
use Rattle.fol_cnf.proofs.Inserting.{inserted_sides}
use Rattle.fol_cnf.proofs.variables.note_atom.Goals as goal

pub returns-in_ok-note_term-in-Eq : goal.returns-in_ok-note_term-in-Eq
returns-in_ok-note_term-in-Eq c =
    IfOk-weaker c.note_term-in-Eq-2.result _ _ (λ u h. inserted_sides _ _ _ c.args.atom.now c.in-Eq.s c.in-Eq.t c.in-Eq.is c.in_ok-note_term-in-Eq.ensures h) c.note_term-in-Eq-2.ensures
