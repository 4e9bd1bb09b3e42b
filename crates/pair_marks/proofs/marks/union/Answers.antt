use Rattle.pair_marks.proofs.Bits.{left_inside, right_inside}
use Rattle.pair_marks.proofs.marks.union.Goals as goal

pub returns-clause-first : goal.returns-clause-first
returns-clause-first c = record { a = left_inside c.args.left.a c.args.right.a; b = left_inside c.args.left.b c.args.right.b; c = left_inside c.args.left.c c.args.right.c; symbols = left_inside c.args.left.symbols c.args.right.symbols }

pub returns-clause-second : goal.returns-clause-second
returns-clause-second c = record { a = right_inside c.args.left.a c.args.right.a; b = right_inside c.args.left.b c.args.right.b; c = right_inside c.args.left.c c.args.right.c; symbols = right_inside c.args.left.symbols c.args.right.symbols }
