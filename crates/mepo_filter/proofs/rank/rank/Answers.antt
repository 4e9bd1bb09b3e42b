use Rattle.std.proofs.Common.{◌≡◌, rules}
use Rattle.std.specs.Ordering.{is_lt}
use Rattle.std.proofs.lemmas.List.Sorted.{answers_always}
use Rattle.mepo_filter.specs.Ranking.{is_above}
use Rattle.mepo_filter.proofs.Sorted.{sorted_is_in_order}
use Rattle.mepo_filter.proofs.Above.{above_order}
use Rattle.mepo_filter.proofs.rank.rank.Goals as goal

pub returns-in-Ok : goal.returns-in-Ok
returns-in-Ok c =
    let answers = answers_always _ (λ a r. is_lt r ≡ is_above a.0.now a.1.0.now) _ (λ f a r q k. search rules) in
    sorted_is_in_order is_above above_order c.args.chosen.now.items c.sort_by.new.self.items
    (c.in-Ok.ensures.sorted is_above above_order answers) (c.sort_by.ensures.stable is_above above_order answers)
