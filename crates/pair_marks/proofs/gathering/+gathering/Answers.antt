use Rattle.std.proofs.Common.{◌≡◌, ◌≤◌, ℕ, true, Some, slice_get, length, subst, arith}
use Rattle.fo_terms.specs.declared.term.FoTerm.{FoTerm}
use Rattle.pair_marks.specs.Tops.{term_top, is_position}
use Rattle.pair_marks.specs.Sets.{offer, Within}
use Rattle.pair_marks.specs.Marking.{HasParts}
use Rattle.pair_marks.proofs.Growing.{within_through, parts_grown, more_grown, all_at, parts_var, parts_fun}
use Rattle.pair_marks.proofs.gathering.+gathering.Goals as goal

pub with_parts-returns-in-Var-clause-parts : goal.with_parts-returns-in-Var-clause-parts
with_parts-returns-in-Var-clause-parts t c =
    let plain = c.args.plain in
    let here = c.with_place-here.result in
    parts_var plain here c.args.t.now (subst (λ top. is_position plain top ≡ true → Within (offer top) here) c.top_of.ensures c.with_place-here.ensures.place) c.in-Var.field-0 c.in-Var.is

pub with_parts-returns-in-Fun-clause-parts : goal.with_parts-returns-in-Fun-clause-parts
with_parts-returns-in-Fun-clause-parts t c =
    let plain = c.args.plain in
    let here = c.with_place-here.result in
    let all = c.with_all_parts.result in
    let top = term_top c.args.t.now in
    let own : is_position plain top ≡ true → Within (offer top) here = subst (λ top. is_position plain top ≡ true → Within (offer top) here) c.top_of.ensures c.with_place-here.ensures.place in
    parts_fun plain all c.args.t.now (λ is. within_through (offer top) here all (own is) c.with_all_parts.ensures.kept) c.in-Fun.field-0 c.in-Fun.args c.in-Fun.is (subst (λ ts. (k : ℕ) (a : FoTerm) → slice_get ts k ≡ Some a → HasParts plain all a) c.as_slice.ensures c.with_all_parts.ensures.parts)

pub with_all_parts-loop-t-preserved : goal.with_all_parts-loop-t-preserved
with_all_parts-loop-t-preserved t c =
    let plain = c.args.plain in
    let old = c.loop-t.all in
    let new = c.with_parts-all.result in
    record {
      kept = within_through c.args.start old new c.loop-t.invariant.kept c.with_parts-all.ensures.kept;
      parts = more_grown (HasParts plain old) (HasParts plain new) c.args.terms.now c.loop-t.t-index c.t-item.result c.t-item.result c.t-item.is (parts_grown plain old new c.with_parts-all.ensures.kept) c.with_parts-all.ensures.parts c.loop-t.invariant.parts;
    }

pub with_all_parts-returns-clause-parts : goal.with_all_parts-returns-clause-parts
with_all_parts-returns-clause-parts t c =
    let over : length c.args.terms.now ≤ c.loop-t.t-index = omega arith in
    all_at (HasParts c.args.plain c.loop-t.all) c.args.terms.now c.loop-t.t-index over c.loop-t.invariant.parts
