use Rattle.std.proofs.Common.{◌<◌, Any, get_or, below_more, refl, subst, arith}
use Rattle.std.proofs.lemmas.List.{get_or_default}
use Rattle.cover_marks.specs.Cover.{IsWithin}
use Rattle.cover_marks.proofs.cover.are_within_some.Goals as goal

pub returns-then-not-is_within_some : goal.returns-then-not-is_within_some
returns-then-not-is_within_some c = (
  λ h. cc,
  λ all. (let found = c.is_within_some.ensures.1 (all c.loop-word.word-index 0 c.loop-word-test.true) in let none = c.if-not-is_within_some.true in cc),
)

pub loop-word-preserved : goal.loop-word-preserved
loop-word-preserved c =
    below_more (λ k. Any (IsWithin (get_or c.args.words.now k 0)) c.args.others.now) c.loop-word.word-index c.loop-word.invariant
    (c.is_within_some.ensures.0 c.if-not-is_within_some.false)

pub returns : goal.returns
returns c = (
  λ told k d inside.
      let past : k < c.loop-word.word-index = (let over = c.loop-word-test.false in omega arith) in
      subst (λ m. Any (IsWithin m) c.args.others.now) (get_or_default c.args.words.now k 0 d inside) (c.loop-word.invariant k past),
  λ all. refl,
)
