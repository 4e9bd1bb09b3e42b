use Rattle.std.proofs.Common.{◌++◌, ◌∙◌, map, sym, ap}
use Rattle.theory_reader.specs.declared.statement.Fact.{Fact}
use Rattle.theory_reader.proofs.Envs.{stands_behind}
use Rattle.tptp_print.proofs.Stating.{facts_are}
use Rattle.tptp_print.proofs.Wholly.{seen_is, whole_written}
use Rattle.tptp_print.proofs.problem.written.Goals as goal

pub beside-seen-requires : goal.beside-seen-requires
beside-seen-requires c = stands_behind c.args.theory.now.facts c.args.theory.now.goals c.args.goal c.at-stated.result.now c.args.theory.now.places_exist c.at-stated.ensures

pub put_facts-requires-clause-sentences : goal.put_facts-requires-clause-sentences
put_facts-requires-clause-sentences c =
    facts_are c.args.env.now.sig (c.beside-seen.result.before.now ++ c.beside-seen.result.assumes.now) c.args.env.now.facts
    (c.requires.env.facts ∙ ap (map (λ (f : Fact). f.formula)) (seen_is c.args.theory.now c.args.goal c.at-stated.result.now c.at-stated.ensures ∙ sym c.beside-seen.ensures)) c.args.env.now.facts_are_sentences

pub returns : goal.returns
returns c =
    whole_written c.args.theory.now c.args.goal c.at-stated.result.now c.args.numbers.now c.args.env.now.sig c.as_slice-consts.result.now (c.beside-seen.result.before.now ++ c.beside-seen.result.assumes.now)
    (record { table = c.begin.result; page = c.begin-2.result }) c.put_facts.new.draft c.put_statement.new.draft c.finished.result c.at-stated.ensures c.beside-seen.ensures c.requires.env.sig c.as_slice-consts.ensures
    (λ i. record { table = c.begin.ensures i; page = c.begin-2.ensures i }) c.in_ok-put_facts.ensures c.in_ok-put_statement.ensures c.finished.ensures
