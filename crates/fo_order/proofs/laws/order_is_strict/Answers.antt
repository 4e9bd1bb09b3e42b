use Rattle.std.proofs.Common.{refl}
use Rattle.fo_order.proofs.Ranks.{irr, trans}
use Rattle.fo_order.proofs.laws.order_is_strict.Goals as goal

pub returns : goal.returns
returns c = record {
  irreflexive = λ s greater. irr greater refl;
  transitive = λ s t u left right. trans left right;
}
