use Rattle.std.proofs.Common.{[], ◌∷◌}
use Rattle.theory_print.specs.Lexemes.{Name, Colon, FactWord, Semi}
use Rattle.theory_print.specs.Printing.{declared_in}
use Rattle.theory_text.specs.Printed.{shown}
use Rattle.theory_text.proofs.Laying.{two, renamed}
use Rattle.theory_text.proofs.statements.put_fact.Goals as goal

pub returns : goal.returns
returns c = λ written.
    let xs = shown c.args.names.now.number (declared_in c.args.names.now) c.args.fact.now.formula in
    two c.args.out.now c.put_stated.new.out c.put_end.new.out (FactWord ∷ Name c.args.fact.now.name ∷ Colon ∷ xs) (Semi ∷ [])
    (renamed c.args.out.now c.put_stated.new.out FactWord c.as_slice.result.now c.args.fact.now.name xs c.as_slice.ensures (c.in_ok-put_stated.ensures written))
    c.in_ok-put_end.ensures
