use Rattle.std.proofs.Common.{sym, ◌∙◌, arith}
use Rattle.fo_terms.specs.Same.{is_literal}
use Rattle.std.specs.List.{list_any}
use Rattle.fo_cells.proofs.Lists.{any_hit, any_miss}
use Rattle.fo_cells.proofs.flat.FlatClause.holds.Goals as goal

pub returns-then-is_at : goal.returns-then-is_at
returns-then-is_at c = λ l made.
    any_hit (λ m. is_literal m l) c.args.self.now c.loop-i.i (list_any (λ m. is_literal m l) c.args.self.now) (omega arith) (λ m there. sym c.if-is_at.true ∙ c.is_at.ensures l m made there) (c.loop-i.invariant l made)

pub loop-i-preserved : goal.loop-i-preserved
loop-i-preserved c = λ l made.
    any_miss (λ m. is_literal m l) c.args.self.now c.loop-i.i (list_any (λ m. is_literal m l) c.args.self.now) (omega arith) (λ m there. sym c.if-is_at.false ∙ c.is_at.ensures l m made there) (c.loop-i.invariant l made)
