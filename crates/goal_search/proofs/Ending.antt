-- A search ends in one way, and one that made as many picks as it may has ended.
use Rattle.std.proofs.Common.{◌≡◌, ℕ, ◌+◌, ◌<◌, ◌≤◌, Bool, sym, ap, subst, ◌∙◌, arith}
use Rattle.fo_infer.proofs.OneLists.{one_alone, one_between}
use Rattle.metis_core.specs.declared.given.Given.{Given}
use Rattle.metis_core.specs.Offer.{End}
use Rattle.metis_core.proofs.Functional.{end_one}
use Rattle.goal_search.specs.Found.{SearchEnds, OneEnd}

pub one_end : (given : Given) → OneEnd given
one_end given e f x y = (end_one one_alone (λ position p q. one_between p q position) given e f x.0 y.0 x.1 y.1 x.2 y.2).0
