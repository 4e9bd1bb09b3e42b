use Rattle.std.proofs.Common.{◌&&◌, ◌||◌, sym, ◌∙◌, arith}
use Rattle.std.specs.List.{list_any}
use Rattle.fo_terms.specs.Same.{is_literal}
use Rattle.fo_terms.specs.Normal.{is_identity, is_tautology, complement}
use Rattle.fo_cells.proofs.Lists.{any_hit, any_miss, or_first, or_second, or_neither}
use Rattle.fo_cells.proofs.flat.FlatClause.is_tautology.Goals as goal

pub returns-then-holds_always : goal.returns-then-holds_always
returns-then-holds_always c =
    any_hit (λ m. (m.positive && is_identity m.atom) || list_any (is_literal (complement m)) c.args.self.now) c.args.self.now c.loop-i.i (is_tautology c.args.self.now) (omega arith)
    (λ m there. or_first (m.positive && is_identity m.atom) (list_any (is_literal (complement m)) c.args.self.now) (sym c.if-holds_always.true ∙ c.holds_always.ensures m there)) c.loop-i.invariant

pub returns-then-is_opposed : goal.returns-then-is_opposed
returns-then-is_opposed c =
    any_hit (λ m. (m.positive && is_identity m.atom) || list_any (is_literal (complement m)) c.args.self.now) c.args.self.now c.loop-i.i (is_tautology c.args.self.now) (omega arith)
    (λ m there. or_second (m.positive && is_identity m.atom) (list_any (is_literal (complement m)) c.args.self.now) (sym c.if-is_opposed.true ∙ c.is_opposed.ensures m there)) c.loop-i.invariant

pub loop-i-preserved : goal.loop-i-preserved
loop-i-preserved c =
    any_miss (λ m. (m.positive && is_identity m.atom) || list_any (is_literal (complement m)) c.args.self.now) c.args.self.now c.loop-i.i (is_tautology c.args.self.now) (omega arith)
    (λ m there. or_neither (m.positive && is_identity m.atom) (list_any (is_literal (complement m)) c.args.self.now) (sym c.if-holds_always.false ∙ c.holds_always.ensures m there)
    (sym c.if-is_opposed.false ∙ c.is_opposed.ensures m there)) c.loop-i.invariant
