use Rattle.std.proofs.Common.{subst, sym, arith, refl}
use Rattle.std.proofs.lemmas.List.{nil_from_length}
use Rattle.metis_core.specs.Offer.{Offer, on, empty, barred, kept, full}
use Rattle.metis_core.specs.Held.{state_of}
use Rattle.metis_core.proofs.Stocks.{nonempty, held_as_many}
use Rattle.metis_core.proofs.stock.offer.Goals as goal

pub returns-then-len-eq0-clause-offered : goal.returns-then-len-eq0-clause-offered
returns-then-len-eq0-clause-offered c = empty (nil_from_length c.args.clause.literals (omega arith))

pub returns-then-is_barred-clause-offered : goal.returns-then-is_barred-clause-offered
returns-then-is_barred-clause-offered c = barred (nonempty c.args.clause.literals c.len.result c.len.ensures (omega arith)) (c.if-is_barred.ensures.0 refl)

pub returns-then-len-ge-MOST_KEPT-clause-offered : goal.returns-then-len-ge-MOST_KEPT-clause-offered
returns-then-len-ge-MOST_KEPT-clause-offered c =
    full (nonempty c.args.clause.literals c.len.result c.len.ensures (omega arith)) (λ h. (let wrong = c.if-is_barred.ensures.1 h in cc)) (omega (arith, held_as_many c.args.stock.now.lines))

pub returns-clause-offered : goal.returns-clause-offered
returns-clause-offered c =
    subst (λ s. Offer (state_of c.args.stock.now) c.args.clause (on s)) (sym c.in_ok-keep.ensures.state)
    (kept (nonempty c.args.clause.literals c.len.result c.len.ensures (omega arith)) (λ h. (let wrong = c.if-is_barred.ensures.1 h in cc)) (omega (arith, held_as_many c.args.stock.now.lines)))
