use Rattle.std.proofs.Common.{◌≡◌, subst, sym, arith, refl}
use Rattle.std.proofs.lemmas.List.{nil_from_length}
use Rattle.metis_core.specs.Offer.{Offer, on, empty, barred, subsumed, kept, full}
use Rattle.metis_core.specs.State.{keeping}
use Rattle.metis_core.specs.Held.{state_of}
use Rattle.metis_core.proofs.Stocks.{nonempty, held_as_many}
use Rattle.metis_core.proofs.Parted.{unit_subsumes, among_subsumes, none_subsumes}
use Rattle.metis_core.proofs.stock.offer_flat.Goals as goal

pub returns-then-len-eq0-clause-offered : goal.returns-then-len-eq0-clause-offered
returns-then-len-eq0-clause-offered c = empty (nil_from_length c.args.flat.now (omega arith))

pub returns-then-is_soon_barred-clause-offered : goal.returns-then-is_soon_barred-clause-offered
returns-then-is_soon_barred-clause-offered c = barred (nonempty c.args.flat.now c.len.result c.len.ensures (omega arith)) (c.if-is_soon_barred.ensures.barred refl)

pub returns-then-is_unit_subsumed-clause-offered : goal.returns-then-is_unit_subsumed-clause-offered
returns-then-is_unit_subsumed-clause-offered c =
    let found = unit_subsumes c.args.stock.now c.requires.parted c.args.flat.now (c.if-is_unit_subsumed.ensures.0 refl) in
    barred (nonempty c.args.flat.now c.len.result c.len.ensures (omega arith)) (subsumed found.0 found.1 found.2)

pub returns-then-branch-clause-offered : goal.returns-then-branch-clause-offered
returns-then-branch-clause-offered c =
    let found = among_subsumes c.args.stock.now c.requires.parted (record { literals = c.args.flat.now }) (c.in_ok-is_subsumed.ensures.0 c.if-branch.true) in
    barred (nonempty c.args.flat.now c.len.result c.len.ensures (omega arith)) (subsumed found.0 found.1 found.2)

pub returns-then-len-ge-MOST_KEPT-clause-offered : goal.returns-then-len-ge-MOST_KEPT-clause-offered
returns-then-len-ge-MOST_KEPT-clause-offered c =
    full (nonempty c.args.flat.now c.len.result c.len.ensures (omega arith))
    (λ h. none_subsumes c.args.stock.now c.requires.parted (record { literals = c.args.flat.now })
    (λ unit. (let wrong = c.if-is_unit_subsumed.ensures.1 unit in cc))
    (λ found. (let wrong = c.in_ok-is_subsumed.ensures.1 found in cc))
    (c.if-is_soon_barred.ensures.left refl h))
    (omega (arith, held_as_many c.args.stock.now.lines))

pub returns-clause-offered : goal.returns-clause-offered
returns-clause-offered c =
    let tree : c.in_ok-clause-2.clause ≡ record { literals = c.args.flat.now } = λ k. record { literals = c.in_ok-clause-2.ensures k } in
    subst (λ s. Offer (state_of c.args.stock.now) (record { literals = c.args.flat.now }) (on s)) (sym (subst (λ d. state_of c.keep.new.stock ≡ keeping (state_of c.args.stock.now) d) tree c.in_ok-keep.ensures.state))
    (kept (nonempty c.args.flat.now c.len.result c.len.ensures (omega arith))
    (λ h. none_subsumes c.args.stock.now c.requires.parted (record { literals = c.args.flat.now })
    (λ unit. (let wrong = c.if-is_unit_subsumed.ensures.1 unit in cc))
    (λ found. (let wrong = c.in_ok-is_subsumed.ensures.1 found in cc))
    (c.if-is_soon_barred.ensures.left refl h))
    (omega (arith, held_as_many c.args.stock.now.lines)))
