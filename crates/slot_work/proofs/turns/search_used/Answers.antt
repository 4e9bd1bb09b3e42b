use Rattle.std.proofs.Common.{sym, subst}
use Rattle.goal_search.specs.Fitting.{CanSearch}
use Rattle.slot_work.proofs.Finding.{found_by, saturated_by, spent_by, not_refused}
use Rattle.slot_work.proofs.Turning.{used_can, saturated_answer, spent_answer, begun_next}
use Rattle.slot_work.proofs.turns.search_used.Goals as goal

pub unreachable-requires : goal.unreachable-requires
unreachable-requires c =
    let s = c.args.slot.now in
    not_refused s.env c.as_slice.result.now s.budget c.search.result c.in-Err.fault c.in-Err.is c.in-TooLarge.is c.search.ensures
    (subst (CanSearch s.env) (sym c.as_slice.ensures) (used_can s c.requires.slot c.args.facts c.requires.used))

pub returns-in-Found : goal.returns-in-Found
returns-in-Found c =
    let s = c.args.slot.now in
    begun_next s c.requires.slot c.args.facts c.minimising.result c.requires.used
    (found_by s.env c.args.facts c.as_slice.result.now s.budget c.in-Ok.ended c.in-Found.field-0 c.as_slice.ensures c.in-Found.is c.in-Ok.ensures.0 c.in-Ok.ensures.1) c.minimising.ensures

pub returns-in-Saturated : goal.returns-in-Saturated
returns-in-Saturated c =
    let s = c.args.slot.now in
    saturated_answer s c.requires.slot c.args.facts c.requires.used (saturated_by s.env c.args.facts c.as_slice.result.now s.budget c.in-Ok.ended c.as_slice.ensures c.in-Saturated.is c.in-Ok.ensures.1)

pub returns-in-Spent : goal.returns-in-Spent
returns-in-Spent c =
    let s = c.args.slot.now in
    spent_answer s c.requires.slot c.args.facts c.requires.used (spent_by s.env c.args.facts c.as_slice.result.now s.budget c.in-Ok.ended c.as_slice.ensures c.in-Spent.is c.in-Ok.ensures.1)
