use Rattle.std.proofs.Common.{◌++◌, ◌∙◌, ap, codes}
use Rattle.theory_reader.proofs.Envs.{stands_behind}
use Rattle.proof_text.specs.inner.Vocabularies.{declared_names}
use Rattle.proof_text.proofs.Joined.{whole_text}
use Rattle.proof_text.proofs.printer.printed.Goals as goal

pub names_of-names-requires : goal.names_of-names-requires
names_of-names-requires c = stands_behind c.args.theory.now.facts c.args.theory.now.goals c.args.goal c.at-stated.result.now c.args.theory.now.places_exist c.at-stated.ensures

pub returns-clause-text : goal.returns-clause-text
returns-clause-text c =
    whole_text c.args.theory.now c.args.goal c.at-stated.result.now c.at-stated.ensures (declared_names c.names_of-names.result) c.args.steps.now
    c.append.new.self c.append-2.new.self c.push.new.self c.put_steps.new.out c.append-3.new.self
    c.names_of-names.ensures (c.in_ok-append.ensures.ok ∙ ap (λ z. z ++ codes "sledge proof 1\ngoal ") c.begin-out.ensures)
    (c.in_ok-append-2.ensures.ok ∙ ap (λ z. c.append.new.self ++ z) c.as_slice.ensures)
    c.in_ok-push.ensures.ok c.in_ok-put_steps.ensures.text c.in_ok-append-3.ensures.ok
