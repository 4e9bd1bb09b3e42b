use Rattle.std.proofs.Common.{◌≡◌, ◌≤◌, length, ◌∙◌, arith}
use Rattle.std.proofs.lemmas.List.{take_all}
use Rattle.fo_infer.specs.Paths.{changed_at, replaced}
use Rattle.fo_infer.proofs.Changes.{changed_more, changed_length}
use Rattle.fo_infer.proofs.paths.+replacing.Goals as goal

pub replace_in-loop-k-preserved : goal.replace_in-loop-k-preserved
replace_in-loop-k-preserved t c =
    changed_more (replaced c.args.rest.now c.args.by.now) c.args.place c.loop-k.k c.args.terms.now c.index-terms-k.result c.in_ok-replace_where.field-0 c.loop-k.out c.push.new.self c.loop-k-test.true c.index-terms-k.is
    c.loop-k.invariant c.in_ok-replace_where.ensures c.in_ok-push.ensures.ok

pub replace_in-returns : goal.replace_in-returns
replace_in-returns t c =
    let f = replaced c.args.rest.now c.args.by.now in
    let over : length (changed_at c.args.place f c.args.terms.now) ≤ c.loop-k.k =
    let same : length (changed_at c.args.place f c.args.terms.now) ≡ length c.args.terms.now = changed_length f c.args.place c.args.terms.now in omega arith in
    c.loop-k.invariant ∙ take_all c.loop-k.k (changed_at c.args.place f c.args.terms.now) over
