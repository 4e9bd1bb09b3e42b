use Rattle.std.proofs.Common.{◌≡◌, ◌≤◌, ◌+◌, ◌-◌, true, false, take, drop, length, get_or, sym, ap, subst, ◌∙◌, arith, length-drop}
use Rattle.std.proofs.lemmas.List.{drop_all, length-map}
use Rattle.fo_terms.specs.Substitution.{put_literal}
use Rattle.fo_unify.specs.Shown.{as_binds}
use Rattle.fo_unify.proofs.Closing.{drop_read}
use Rattle.fo_infer.specs.inner.Components.{literals}
use Rattle.fo_infer.specs.inner.Covering.{Narrows, CoversBy, CoverableBy}
use Rattle.fo_infer.proofs.Narrowing.{covered_all, by_not, by_next, found_one, found_none, none_more}
use Rattle.fo_infer.proofs.covering.+covering.Goals as goal

pub covers-returns-then-k-c-clause-covers : goal.covers-returns-then-k-c-clause-covers
covers-returns-then-k-c-clause-covers t c =
    let over : length c.args.c.now ≤ c.args.k = omega arith in
    covered_all (as_binds c.args.binds.now) c.args.d.now (literals (drop c.args.k c.args.c.now)) c.requires.unique (ap literals (drop_all c.args.k c.args.c.now over))

pub covers-returns-then-branch-clause-covers : goal.covers-returns-then-branch-clause-covers
covers-returns-then-branch-clause-covers t c =
    let ls = literals (drop c.args.k c.args.c.now) in
    let found = subst (CoversBy (as_binds c.loop-m.binds) c.args.d.now c.m-item.result ls) c.if-branch.true c.in_ok-covers_by.ensures.covers in
    found_one (as_binds c.args.binds.now) c.args.d.now ls c.loop-m.m-index c.m-item.result c.loop-m-test.true c.m-item.is
    (subst (λ bs. CoverableBy (as_binds bs) c.args.d.now c.m-item.result ls) c.loop-m.invariant.same found)

pub covers-returns-clause-covers : goal.covers-returns-clause-covers
covers-returns-clause-covers t c =
    let ls = literals (drop c.args.k c.args.c.now) in
    let size : length ls ≡ length c.args.c.now - c.args.k = length-map (drop c.args.k c.args.c.now) (λ s. s.literal.now) ∙ length-drop c.args.k c.args.c.now in
    found_none (as_binds c.args.binds.now) c.args.d.now ls c.loop-m.m-index c.loop-m-test.false
    (λ none. c.if-k-c.false (let empty : length ls ≡ 0 = ap length none in let place = c.requires.place in omega arith))
    c.loop-m.invariant.none

pub covers-loop-m-preserved : goal.covers-loop-m-preserved
covers-loop-m-preserved t c =
    let ls = literals (drop c.args.k c.args.c.now) in
    let failed = subst (CoversBy (as_binds c.loop-m.binds) c.args.d.now c.m-item.result ls) c.if-branch.false c.in_ok-covers_by.ensures.covers in
    record {
      same = c.undo.ensures ∙ ap (λ n. take n c.covers_by.new.binds) (c.len-mark.ensures ∙ ap length (sym c.loop-m.invariant.same)) ∙ c.in_ok-covers_by.ensures.kept ∙ c.loop-m.invariant.same;
      none = none_more (as_binds c.args.binds.now) c.args.d.now ls c.loop-m.m-index c.m-item.result c.m-item.is c.loop-m-test.true c.loop-m.invariant.none
          (subst (λ bs. CoverableBy (as_binds bs) c.args.d.now c.m-item.result ls → ⊥) c.loop-m.invariant.same failed);
    }

pub covers_by-returns-then-not-branch-clause-covers : goal.covers_by-returns-then-not-branch-clause-covers
covers_by-returns-then-not-branch-clause-covers t c =
    let old = as_binds c.args.binds.now in
    let mid = as_binds c.match_literal.new.binds in
    by_not old mid c.args.d.now c.args.m.now c.index-c-k.result.literal.now (literals (drop c.args.k c.args.c.now)) (literals (drop (c.args.k + 1) c.args.c.now))
    (ap literals (drop_read c.args.c.now c.args.k c.index-c-k.result c.requires.place c.index-c-k.is))
    (subst (λ s. Narrows (λ v. put_literal v s.literal.now ≡ c.args.m.now) old mid false) (sym c.index-c-k.is)
    (subst (Narrows (λ v. put_literal v (get_or c.args.c.now c.args.k c.index-c-k.result).literal.now ≡ c.args.m.now) old mid) c.if-not-branch.true c.in_ok-match_literal.ensures.narrows))

pub covers_by-returns-clause-covers : goal.covers_by-returns-clause-covers
covers_by-returns-clause-covers t c =
    let old = as_binds c.args.binds.now in
    let mid = as_binds c.match_literal.new.binds in
    by_next old mid c.args.d.now c.args.m.now c.index-c-k.result.literal.now (literals (drop c.args.k c.args.c.now)) (literals (drop (c.args.k + 1) c.args.c.now)) c.in_ok-made.made
    (ap literals (drop_read c.args.c.now c.args.k c.index-c-k.result c.requires.place c.index-c-k.is))
    (subst (λ s. Narrows (λ v. put_literal v s.literal.now ≡ c.args.m.now) old mid true) (sym c.index-c-k.is)
    (subst (Narrows (λ v. put_literal v (get_or c.args.c.now c.args.k c.index-c-k.result).literal.now ≡ c.args.m.now) old mid) c.if-not-branch.false c.in_ok-match_literal.ensures.narrows))
    c.in_ok-made.ensures.covers
