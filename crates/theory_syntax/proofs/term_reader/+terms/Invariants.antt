use Rattle.std.proofs.Common.{ℕ, ◌+◌, ◌*◌, ◌-◌, length}
use Rattle.theory_syntax.specs.declared.tree.Op.{Op}
use Rattle.theory_syntax.specs.declared.tree.Op.TheVariants as op
use Rattle.theory_syntax.proofs.TermPieces.{SoFar}
use Rattle.theory_syntax.proofs.term_reader.+terms.Given as goal

-- where the rules of the signs stand in one level
abbrev place : Op → ℕ
place op.And = 7
place op.Or = 9
place op.Imp = 11

abbrev pub decreases-deeper : goal.decreases-deeper
decreases-deeper l = 20 * (l.limit - l.level) + 0

abbrev pub decreases-atom : goal.decreases-atom
decreases-atom l = 20 * (l.limit - l.level) + 1

abbrev pub decreases-args : goal.decreases-args
decreases-args l = 20 * (l.limit - l.level) + 2

abbrev pub decreases-app : goal.decreases-app
decreases-app l = 20 * (l.limit - l.level) + 3

abbrev pub decreases-eq : goal.decreases-eq
decreases-eq l = 20 * (l.limit - l.level) + 4

abbrev pub decreases-eq_as_neg : goal.decreases-eq_as_neg
decreases-eq_as_neg l = 20 * (l.limit - l.level) + 5

abbrev pub decreases-neg : goal.decreases-neg
decreases-neg l = 20 * (l.limit - l.level) + 6

abbrev pub decreases-right_part : goal.decreases-right_part
decreases-right_part l = 20 * (l.limit - l.level) + 1

abbrev pub decreases-below : goal.decreases-below
decreases-below l = 20 * (l.limit - l.level) + place l.op

abbrev pub decreases-chain : goal.decreases-chain
decreases-chain l = 20 * (l.limit - l.level) + (place l.op + 1)

abbrev pub decreases-plain : goal.decreases-plain
decreases-plain l = 20 * (l.limit - l.level) + 13

abbrev pub decreases-binder : goal.decreases-binder
decreases-binder l = 20 * (l.limit - l.level) + 14

abbrev pub decreases-formula : goal.decreases-formula
decreases-formula l = 20 * (l.limit - l.level) + 15

abbrev pub invariant-args-more : goal.invariant-args-more
invariant-args-more l = SoFar l.limit l.level l.fn.head l.fn.toks l.whole l.rest

abbrev pub decreases-args-more : goal.decreases-args-more
decreases-args-more l = length l.rest
