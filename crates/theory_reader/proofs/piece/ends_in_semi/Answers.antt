use Rattle.std.proofs.Common.{◌-◌, length, refl, sym}
use Rattle.std.proofs.lemmas.Bool.{eqb-true}
use Rattle.theory_reader.proofs.Apart.{semi_at}
use Rattle.theory_reader.proofs.piece.ends_in_semi.Goals as goal

pub returns-in-Some : goal.returns-in-Some
returns-in-Some c = λ t.
    semi_at c.args.piece.now (length c.args.piece.now - 1) c.in-Some.byte.now refl (sym c.in-Some.ensures.value) (eqb-true c.in-Some.byte.now 59 t)
