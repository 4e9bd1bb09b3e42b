use Rattle.std.proofs.Common.{◌+◌, ◌≤◌, ℕ, List, length, arith, sym, subst}
use Rattle.std.specs.Prelude.{Contains}
use Rattle.std.proofs.lemmas.List.{take_all}
use Rattle.fo_index.specs.inner.Numbered.{kept}
use Rattle.fo_index.proofs.Shelved.{passed-more, passes}
use Rattle.fo_index.proofs.filing.file_begun.Goals as goal

pub returns-in_err-add-clause-grows : goal.returns-in_err-add-clause-grows
returns-in_err-add-clause-grows c = λ key k h. c.add.ensures.grows key k (c.loop-length.invariant.grows key k h)

pub loop-length-preserved : goal.loop-length-preserved
loop-length-preserved c = record {
  grows = λ key k h. c.add.ensures.grows key k (c.loop-length.invariant.grows key k h);
  passed = passed-more c.loop-length.begun c.add.new.self c.args.front.now c.loop-length.length c.args.place c.loop-length.invariant.passed c.add.ensures.grows c.in_ok-add.ensures.added;
}

pub returns-in_err-add-2-clause-grows : goal.returns-in_err-add-2-clause-grows
returns-in_err-add-2-clause-grows c = λ key k h. c.add-2.ensures.grows key k (c.loop-length.invariant.grows key k h)

pub returns-clause-grows : goal.returns-clause-grows
returns-clause-grows c = λ key k h. c.add-2.ensures.grows key k (c.loop-length.invariant.grows key k h)

pub returns-clause-filed : goal.returns-clause-filed
returns-clause-filed c =
    let past : length c.args.front.now ≤ c.loop-length.length = omega arith in
    let P : List ℕ → Type 0 = λ l. Contains (kept c.add-2.new.self l) c.args.place in
    let whole = subst P (sym (take_all c.loop-length.length c.args.front.now past)) c.in_ok-add-2.ensures.added in
    passes c.add-2.new.self c.args.front.now (c.loop-length.length + 1) c.args.place (omega arith)
    (passed-more c.loop-length.begun c.add-2.new.self c.args.front.now c.loop-length.length c.args.place c.loop-length.invariant.passed c.add-2.ensures.grows whole)
