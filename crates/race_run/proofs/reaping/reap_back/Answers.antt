use Rattle.std.proofs.Common.{◌∙◌, ap, sym, refl, Some}
use Rattle.race_run.proofs.reaping.reap_back.Goals as goal

pub reap_other-requires-clause-free : goal.reap_other-requires-clause-free
reap_other-requires-clause-free g c κs within k s at up own = c.in-None-owner.ensures.free refl k s at up (own ∙ ap Some (sym c.id-in-Some-pop.ensures))
