use Rattle.std.proofs.Common.{ap}
use Rattle.fo_infer.specs.Inferences.{PairGives, pair_rules, all_resolve_rules, all_para_rules}
use Rattle.fo_infer.specs.inner.Places.{position_of}
use Rattle.fo_infer.specs.inner.Findings.{all_made}
use Rattle.fo_infer.proofs.Listing.{listed_both}
use Rattle.fo_infer.proofs.Placing.{pair_placed}
use Rattle.fo_infer.proofs.pairs.find_between.Goals as goal

pub returns-clause-inferences : goal.returns-clause-inferences
returns-clause-inferences c =
    let p = c.args.p.now in
    let q = c.args.q.now in
    let apart = c.args.apart.now in
    listed_both (PairGives (position_of c.args.plain) p q) (all_resolve_rules p q) (all_para_rules p q) (all_made p apart c.begin-out.result) (all_made p apart c.resolve.new.out) (all_made p apart c.paramodulate.new.out)
    (ap (all_made p apart) c.begin-out.ensures) (c.in_ok-resolve.ensures (position_of c.args.plain)) c.in_ok-paramodulate.ensures

pub returns-clause-placed : goal.returns-clause-placed
returns-clause-placed c =
    let p = c.args.p.now in
    let q = c.args.q.now in
    let apart = c.args.apart.now in
    pair_placed (position_of c.args.plain) p q apart c.requires c.paramodulate.new.out (pair_rules p q)
    (listed_both (PairGives (position_of c.args.plain) p q) (all_resolve_rules p q) (all_para_rules p q) (all_made p apart c.begin-out.result) (all_made p apart c.resolve.new.out) (all_made p apart c.paramodulate.new.out)
    (ap (all_made p apart) c.begin-out.ensures) (c.in_ok-resolve.ensures (position_of c.args.plain)) c.in_ok-paramodulate.ensures)
