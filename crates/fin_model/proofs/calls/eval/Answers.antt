use Rattle.fin_model.specs.declared.world.World.{World}
use Rattle.fin_model.proofs.Outside.{ready_outside, product_outside, from_outside}
use Rattle.fin_model.proofs.calls.eval.Goals as goal

pub worth-requires-clause-ready : goal.worth-requires-clause-ready
worth-requires-clause-ready c = let w : World = record { sig = c.args.sig; model = c.args.model; free = c.args.free } in ready_outside w c.args.t.now c.requires.fits c.requires.typed c.requires.aux c.requires.free

pub worth-requires-clause-product : goal.worth-requires-clause-product
worth-requires-clause-product c = let w : World = record { sig = c.args.sig; model = c.args.model; free = c.args.free } in product_outside w

pub returns : goal.returns
returns c = let w : World = record { sig = c.args.sig; model = c.args.model; free = c.args.free } in from_outside w c.args.t.now c.worth.result c.worth.ensures
