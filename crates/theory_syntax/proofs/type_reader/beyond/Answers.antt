use Rattle.std.proofs.Common.{arith, ◌+◌, ◌<◌, length}
use Rattle.first_fault.specs.declared.fault.Fault.TheVariants as fault
use Rattle.theory_syntax.proofs.TypePieces as pieces
use Rattle.theory_syntax.proofs.type_reader.beyond.Goals as goal

pub returns-in-Word : goal.returns-in-Word
returns-in-Word c = let above : c.args.limit < c.args.level + 1 = omega arith in
    pieces.too_deep_name c.args.limit (c.args.level + 1) c.args.toks.now _ _ above c.in-Word.ensures

pub returns-in-Bool : goal.returns-in-Bool
returns-in-Bool c = let above : c.args.limit < c.args.level + 1 = omega arith in
    pieces.too_deep_truth c.args.limit (c.args.level + 1) c.args.toks.now _ above c.in-Bool.ensures

pub returns-in-Open : goal.returns-in-Open
returns-in-Open c = let above : c.args.limit < c.args.level + 1 = omega arith in
    pieces.too_deep_open c.args.limit (c.args.level + 1) c.args.toks.now _ _ above c.in-Open.ensures

pub returns-in-Other : goal.returns-in-Other
returns-in-Other c = pieces.single_fails c.args.limit (c.args.level + 1) c.args.toks.now (fault.Syntax (length c.args.toks.now)) (pieces.none c.args.limit (c.args.level + 1) c.args.toks.now c.in-Other.ensures)
