use Rattle.std.proofs.Common.{[], ap}
use Rattle.fo_infer.specs.Inferences.{AloneGives, all_factor_rules, all_reflex_rules, alone_rules}
use Rattle.fo_infer.specs.inner.Findings.{all_made}
use Rattle.fo_infer.proofs.Listing.{listed_both}
use Rattle.fo_infer.proofs.Placing.{alone_placed}
use Rattle.fo_infer.proofs.single.find_alone.Goals as goal

pub returns-clause-inferences : goal.returns-clause-inferences
returns-clause-inferences c =
    listed_both (AloneGives c.args.p.now) (all_factor_rules c.args.p.now) (all_reflex_rules c.args.p.now) (all_made c.args.p.now [] c.begin-out.result) (all_made c.args.p.now [] c.factor.new.out) (all_made c.args.p.now [] c.reflect.new.out) (ap (all_made c.args.p.now []) c.begin-out.ensures) c.in_ok-factor.ensures c.in_ok-reflect.ensures

pub returns-clause-placed : goal.returns-clause-placed
returns-clause-placed c =
    alone_placed c.args.p.now c.reflect.new.out (alone_rules c.args.p.now)
    (listed_both (AloneGives c.args.p.now) (all_factor_rules c.args.p.now) (all_reflex_rules c.args.p.now) (all_made c.args.p.now [] c.begin-out.result) (all_made c.args.p.now [] c.factor.new.out) (all_made c.args.p.now [] c.reflect.new.out) (ap (all_made c.args.p.now []) c.begin-out.ensures) c.in_ok-factor.ensures c.in_ok-reflect.ensures)
