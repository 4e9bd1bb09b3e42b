use Rattle.std.proofs.Common.{◌≡◌, ◌∙◌, sym, ap, subst, Some, None, true, arith}
use Rattle.fo_terms.specs.Substitution.{fun}
use Rattle.fo_unify.specs.Lookup.{lookup}
use Rattle.fo_unify.specs.Shown.{as_binds}
use Rattle.fo_unify.specs.Match.{Matches, MatchesAll}
use Rattle.fo_unify.proofs.MatchLaws.{take_kept, match_bound, match_new, match_fun, all_more, all_fail, all_done}
use Rattle.fo_unify.proofs.Growing.{binds_push}
use Rattle.fo_unify.proofs.matching.+matching.Goals as goal

pub match_all-returns-then-not-branch-clause-adds : goal.match_all-returns-then-not-branch-clause-adds
match_all-returns-then-not-branch-clause-adds t c =
    all_fail c.args.patterns.now c.args.ts.now c.loop-i.i c.index-patterns-i.result c.index-ts-i.result (as_binds c.args.binds.now) (as_binds c.loop-i.binds) (as_binds c.match_into.new.binds)
    c.requires.lengths (omega arith) c.index-patterns-i.is c.index-ts-i.is c.loop-i.invariant.adds
    (subst (Matches c.index-patterns-i.result c.index-ts-i.result (as_binds c.loop-i.binds) (as_binds c.match_into.new.binds)) c.if-not-branch.true c.in_ok-match_into.ensures.adds)

pub match_all-loop-i-preserved : goal.match_all-loop-i-preserved
match_all-loop-i-preserved t c = record {
  kept = take_kept c.args.binds.now c.loop-i.binds c.match_into.new.binds c.loop-i.invariant.kept c.in_ok-match_into.ensures.kept;
  adds = all_more c.args.patterns.now c.args.ts.now c.loop-i.i c.index-patterns-i.result c.index-ts-i.result (as_binds c.args.binds.now) (as_binds c.loop-i.binds) (as_binds c.match_into.new.binds)
      c.requires.lengths (omega arith) c.index-patterns-i.is c.index-ts-i.is c.loop-i.invariant.adds
      (subst (Matches c.index-patterns-i.result c.index-ts-i.result (as_binds c.loop-i.binds) (as_binds c.match_into.new.binds)) c.if-not-branch.false c.in_ok-match_into.ensures.adds);
}

pub match_all-returns-then-not-branch-clause-kept : goal.match_all-returns-then-not-branch-clause-kept
match_all-returns-then-not-branch-clause-kept t c = take_kept c.args.binds.now c.loop-i.binds c.match_into.new.binds c.loop-i.invariant.kept c.in_ok-match_into.ensures.kept

pub match_all-returns-clause-adds : goal.match_all-returns-clause-adds
match_all-returns-clause-adds t c =
    all_done c.args.patterns.now c.args.ts.now c.loop-i.i (as_binds c.args.binds.now) (as_binds c.loop-i.binds) c.requires.lengths (omega arith) c.loop-i.invariant.adds

pub match_into-returns-in-Some-clause-adds : goal.match_into-returns-in-Some-clause-adds
match_into-returns-in-Some-clause-adds t c =
    let found : lookup (as_binds c.args.binds.now) c.in-Var-default.x ≡ Some c.in-Some.found.now = ap (λ b. lookup (as_binds b) c.in-Var-default.x) (sym c.as_slice.ensures) ∙ sym c.in-Some.ensures in
    subst (λ p. Matches p c.args.t.now (as_binds c.args.binds.now) (as_binds c.args.binds.now) c.same.result) (sym c.in-Var-default.is-0)
    (match_bound (as_binds c.args.binds.now) c.in-Var-default.x c.args.t.now c.in-Some.found.now c.same.result c.requires found c.same.ensures.0 c.same.ensures.1)

pub match_into-returns-in_ok-push-in-None-clause-adds : goal.match_into-returns-in_ok-push-in-None-clause-adds
match_into-returns-in_ok-push-in-None-clause-adds t c =
    let none : lookup (as_binds c.args.binds.now) c.in-Var-default.x ≡ None = ap (λ b. lookup (as_binds b) c.in-Var-default.x) (sym c.as_slice.ensures) ∙ sym c.in-None.ensures in
    subst (λ p. Matches p c.args.t.now (as_binds c.args.binds.now) (as_binds c.push.new.self) true) (sym c.in-Var-default.is-0)
    (match_new (as_binds c.args.binds.now) (as_binds c.push.new.self) c.in-Var-default.x c.args.t.now c.requires none
    (binds_push c.args.binds.now c.push.new.self (record { var = c.in-Var-default.x; term = c.args.t }) c.in_ok-push-in-None.ensures.ok))

pub match_into-returns-in_ok-made-in-Fun-Fun-clause-adds : goal.match_into-returns-in_ok-made-in-Fun-Fun-clause-adds
match_into-returns-in_ok-made-in-Fun-Fun-clause-adds t c =
    let heads = c.in-Fun-Fun in
    let all = subst (λ l. MatchesAll l c.as_slice-in-Fun-Fun-2.result.now (as_binds c.args.binds.now) (as_binds c.match_all.new.binds) c.in_ok-made-in-Fun-Fun.made) c.as_slice-in-Fun-Fun.ensures c.in_ok-made-in-Fun-Fun.ensures.adds in
    let both = subst (λ l. MatchesAll heads.xs l (as_binds c.args.binds.now) (as_binds c.match_all.new.binds) c.in_ok-made-in-Fun-Fun.made) c.as_slice-in-Fun-Fun-2.ensures all in
    let made = match_fun (as_binds c.args.binds.now) (as_binds c.match_all.new.binds) heads.f heads.g heads.xs heads.ys c.in_ok-made-in-Fun-Fun.made c.if-f-g.false both in
    subst (λ p. Matches p c.args.t.now (as_binds c.args.binds.now) (as_binds c.match_all.new.binds) c.in_ok-made-in-Fun-Fun.made) (sym heads.is-0)
    (subst (λ q. Matches (fun heads.f heads.xs) q (as_binds c.args.binds.now) (as_binds c.match_all.new.binds) c.in_ok-made-in-Fun-Fun.made) (sym heads.is-1) made)
