use Rattle.std.proofs.Common.{◌++◌, ◌<◌, IsTrue, get_or, length, sym, subst}
use Rattle.std.proofs.lemmas.List.Elements.{All-get_or}
use Rattle.hol_terms.specs.Formulas.{is_sentence}
use Rattle.tptp_print.specs.Problems.{no_fact}
use Rattle.tptp_print.proofs.Stating.{one_more, passes_at}
use Rattle.tptp_print.proofs.problem.put_facts.Goals as goal

pub put_statement-requires : goal.put_statement-requires
put_statement-requires c =
    let seen = c.args.seen.now.before.now ++ c.args.seen.now.assumes.now in
    subst (λ f. IsTrue (is_sentence c.args.sig.now f.formula)) (sym c.fact_at-fact.ensures)
    (passes_at (λ f. is_sentence c.args.sig.now f.formula) seen (get_or c.args.numbers.now c.loop-n.n-index 0) no_fact c.requires.sentences
    (All-get_or (λ n. n < length seen) c.args.numbers.now c.loop-n.n-index 0 c.loop-n-test.true c.requires.numbers))

pub loop-n-preserved : goal.loop-n-preserved
loop-n-preserved c =
    one_more c.args.sig.now c.args.consts.now (c.args.seen.now.before.now ++ c.args.seen.now.assumes.now) c.args.numbers.now c.loop-n.n-index c.fact_at-fact.result.now c.as_slice.result.now
    c.loop-n.draft c.put_statement.new.draft _ c.loop-n-test.true c.fact_at-fact.ensures c.as_slice.ensures c.in_ok-put_statement.ensures c.loop-n.invariant
