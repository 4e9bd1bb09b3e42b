use Rattle.std.proofs.Common.{◌≡◌, subst}
use Rattle.theory_print.specs.Lexemes.{laid}
use Rattle.theory_reader.specs.Declarations.{Declarations, known}
use Rattle.theory_reader.specs.Seen.{declarations}
use Rattle.theory_text.specs.Printed.{theory_lexemes, FactsWritten, GoalsWritten}
use Rattle.theory_text.proofs.Laying.{whole}
use Rattle.theory_text.proofs.printer.printed.Goals as goal

pub returns : goal.returns
returns c =
    let k = c.args.number in
    let lent : Declarations = record { types = c.as_slice.result.now; consts = c.as_slice-2.result.now; facts = c.as_slice-3.result.now; goals = c.as_slice-4.result.now } in
    let same : lent ≡ declarations c.args.theory.now =
    λ i. record { types = c.as_slice.ensures i; consts = c.as_slice-2.ensures i; facts = c.as_slice-3.ensures i; goals = c.as_slice-4.ensures i } in
    let P : Declarations → Type 0 = λ d. FactsWritten k (known d) d.facts → GoalsWritten k (known d) d.goals → c.put_statements.new.out ≡ laid (theory_lexemes k d) in
    let mine : P lent = λ facts goals.
    whole k lent c.begin-out.result c.put_types.new.out c.put_consts.new.out c.put_statements.new.out c.begin-out.ensures c.in_ok-put_types.ensures
    c.in_ok-put_consts.ensures (c.in_ok-put_statements.ensures facts goals) in
    subst P same mine
