use Rattle.race_core.proofs.Legal.{after-is, legal-is}
use Rattle.race_core.proofs.Passages.{begun}
use Rattle.race_core.proofs.laws.slots_pass_in_order.Goals as goal

pub returns-clause-state : goal.returns-clause-state
returns-clause-state c = λ n until es r h. (after-is n until es r h).passed

pub returns-clause-outside : goal.returns-clause-outside
returns-clause-outside c = λ n until es h. (legal-is n until es h).1.outside

pub returns-clause-begun : goal.returns-clause-begun
returns-clause-begun c = λ n until es h k. (let all = legal-is n until es h in begun n until es all.0 all.1 k)
