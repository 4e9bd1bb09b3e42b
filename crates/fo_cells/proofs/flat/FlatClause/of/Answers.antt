use Rattle.std.proofs.Common.{◌≡◌, ◌<◌, ◌++◌, [], ◌∷◌, map, sum, ap, arith}
use Rattle.fo_terms.specs.Weight.{literal_size}
use Rattle.fo_cells.proofs.Written.{sum_at, match_false}
use Rattle.fo_cells.proofs.flat.FlatClause.of.Goals as goal

pub returns-then-not-branch : goal.returns-then-not-branch
returns-then-not-branch c =
    let heavy = match_false c.in_ok-push.field-0 (c.push.new.self ≡ c.loop-l.flat ++ c.l-item.result ∷ []) ((65535 < literal_size c.l-item.result) × (c.push.new.self ≡ c.loop-l.flat)) c.if-not-branch.true c.in_ok-push.ensures.ok in
    let large = sum_at literal_size c.as_slice-l-items.result.now c.loop-l.l-index c.l-item.result c.loop-l-test.true c.l-item.is in
    omega (arith, heavy.0, large, ap (λ ls. sum (map literal_size ls)) c.as_slice-l-items.ensures)
