use Rattle.std.proofs.Common.{arith, ◌+◌, ◌<◌}
use Rattle.theory_syntax.specs.declared.term_reader.Part.TheVariants as part
use Rattle.theory_syntax.proofs.DeepPieces as pieces
use Rattle.theory_syntax.proofs.term_reader.beyond.Goals as goal

pub returns-in-Word : goal.returns-in-Word
returns-in-Word c = let above : c.args.limit < c.args.level + 1 = omega arith in
    pieces.deep_name c.args.limit (c.args.level + 1) c.args.toks.now c.args.part _ _ above c.in-Word.ensures

pub returns-in-Truth : goal.returns-in-Truth
returns-in-Truth c = let above : c.args.limit < c.args.level + 1 = omega arith in
    pieces.deep_truth c.args.limit (c.args.level + 1) c.args.toks.now c.args.part _ _ _ above c.in-Truth.ensures

pub returns-in-Open : goal.returns-in-Open
returns-in-Open c = let above : c.args.limit < c.args.level + 1 = omega arith in
    pieces.deep_open c.args.limit (c.args.level + 1) c.args.toks.now c.args.part _ _ above c.in-Open.ensures

pub returns-in-Tilde : goal.returns-in-Tilde
returns-in-Tilde c = let above : c.args.limit < c.args.level + 1 = omega arith in
    pieces.deep_not c.args.limit (c.args.level + 1) c.args.toks.now c.args.part _ _ above c.in-Tilde.ensures

pub returns-in-Formula : goal.returns-in-Formula
returns-in-Formula c = let above : c.args.limit < c.args.level + 1 = omega arith in
    rw c.in-Formula.is (pieces.deep_bind c.args.limit (c.args.level + 1) c.args.toks.now _ _ _ above c.in-Quant.ensures)

pub returns-in-Chain : goal.returns-in-Chain
returns-in-Chain c = rw c.in-Chain.is (pieces.stops c.args.limit (c.args.level + 1) c.args.toks.now (part.Chain c.in-Chain.field-0) (pieces.no_binder_chain c.in-Chain.field-0 c.args.toks.now _ _ _ c.in-Quant.ensures))

pub returns-in-Neg : goal.returns-in-Neg
returns-in-Neg c = rw c.in-Neg.is (pieces.stops c.args.limit (c.args.level + 1) c.args.toks.now part.Neg (pieces.no_binder_neg c.args.toks.now _ _ _ c.in-Quant.ensures))

pub returns-in-Other : goal.returns-in-Other
returns-in-Other c = pieces.stops c.args.limit (c.args.level + 1) c.args.toks.now c.args.part (pieces.no_operand c.args.part c.args.toks.now c.in-Other.ensures)
