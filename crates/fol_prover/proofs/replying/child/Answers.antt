use Rattle.std.proofs.Common.{map, string_bytes, sym, subst}
use Rattle.fol_prover.specs.Texts.{memory_text}
use Rattle.fol_prover.specs.Replies.{Reply, Answered, usage, memory, told}
use Rattle.fol_prover.specs.inner.Reading.{heard}
use Rattle.fol_prover.specs.inner.Sinking.{told_by}
use Rattle.fol_prover.proofs.Ends.{answered_by, took_nothing}
use Rattle.fol_prover.proofs.replying.child.Goals as goal

pub returns-in-None : goal.returns-in-None
returns-in-None g c = told 2 _ (usage c.in-None.ensures) (took_nothing (g.S.Sink.taken c.args.out.now))

pub returns-in-Ok : goal.returns-in-Ok
returns-in-Ok g c =
    let words = map string_bytes c.args.words.now in
    let input = c.args.input.now in
    let out = c.args.out.now in
    let i = heard (g.P.Pipe.left input) (g.P.Pipe.faults input) (g.P.Pipe.faults c.reply_to.new.input) in
    let o = told_by (g.S.Sink.taken out) (g.S.Sink.taken c.put_text.new.out) (g.S.Sink.faults out) (g.S.Sink.faults c.put_text.new.out) in
    let reply = subst (Reply words i c.in-Ok.end.status) (sym c.as_slice.ensures) (c.in-Ok.ensures words c.in-Some.ensures) in
    answered_by words i o c.in-Ok.end.status c.put_text.result c.as_slice.result.now reply c.put_text.ensures

pub returns-in-Err : goal.returns-in-Err
returns-in-Err g c =
    let words = map string_bytes c.args.words.now in
    let input = c.args.input.now in
    let out = c.args.out.now in
    let i = heard (g.P.Pipe.left input) (g.P.Pipe.faults input) (g.P.Pipe.faults c.reply_to.new.input) in
    let o = told_by (g.S.Sink.taken out) (g.S.Sink.taken c.put_text-in-Err.new.out) (g.S.Sink.faults out) (g.S.Sink.faults c.put_text-in-Err.new.out) in
    answered_by words i o 6 c.put_text-in-Err.result memory_text (memory c.in-Some.asked.budget c.in-Some.asked.age c.in-Some.ensures) c.put_text-in-Err.ensures
