use Rattle.std.proofs.Common.{[], ◌∷◌, ◌++◌}
use Rattle.theory_syntax.specs.Grammar.{Whole}
use Rattle.theory_print.specs.Lexemes.{Name, Colon, ConstWord, Semi}
use Rattle.theory_print.specs.Types.{type_lexemes}
use Rattle.theory_text.proofs.Laying.{two, renamed}
use Rattle.theory_text.proofs.statements.put_const.Goals as goal

pub returns : goal.returns
returns c =
    let head = renamed c.args.out.now c.put_heading.new.out ConstWord c.as_slice.result.now c.args.c.now.name [] c.as_slice.ensures c.in_ok-put_heading.ensures in
    let xs = type_lexemes c.args.names.now.types.now c.args.c.now.ty Whole in
    two c.args.out.now c.put_heading.new.out c.put_end.new.out (ConstWord ∷ Name c.args.c.now.name ∷ Colon ∷ []) (xs ++ Semi ∷ []) head
    (two c.put_heading.new.out c.put_type.new.out c.put_end.new.out xs (Semi ∷ []) c.in_ok-put_type.ensures c.in_ok-put_end.ensures)
