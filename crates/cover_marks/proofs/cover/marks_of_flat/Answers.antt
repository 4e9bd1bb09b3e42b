use Rattle.std.proofs.Common.{subst, sym, arith}
use Rattle.std.specs.Prelude.{bit_or}
use Rattle.cover_marks.specs.inner.Union.{IsUnion}
use Rattle.cover_marks.proofs.Flat.{words_more}
use Rattle.cover_marks.proofs.Unions.{union_more}
use Rattle.cover_marks.proofs.cover.marks_of_flat.Goals as goal

pub loop-i-preserved : goal.loop-i-preserved
loop-i-preserved c =
    let word = c.of_flat_literal-word.result in
    record {
      words = words_more c.args.c.now c.loop-i.words c.push.new.self c.loop-i.i word (omega (arith, c.loop-i-test.true, c.len-i-end.ensures)) c.loop-i.invariant.words c.in_ok-push.ensures.ok c.of_flat_literal-word.ensures;
      union = subst (λ w. IsUnion w (bit_or c.loop-i.all word)) (sym c.in_ok-push.ensures.ok) (union_more c.loop-i.words word c.loop-i.all c.loop-i.invariant.union);
    }
