use Rattle.std.proofs.Common.{arith}
use Rattle.proof_syntax.specs.Tokens.{cut}
use Rattle.proof_terms.proofs.Front.{word_within}
use Rattle.proof_terms.proofs.Atoms as atoms
use Rattle.proof_terms.proofs.atom_reader.read_word.Goals as goal

pub returns-in-Plain : goal.returns-in-Plain
returns-in-Plain c = λ l room. let h = c.in-Plain.ensures in
    rw h.2 (atoms.plain_constant c.args.names.now l room c.args.text.now c.args.word.now c.args.behind.now c.requires h.0 h.1)

pub overflow_sub-result : goal.overflow_sub-result
overflow_sub-result c = omega (arith, c.begins_word.ensures.room, word_within c.args.word.now c.args.text.now (cut c.args.behind.now) c.requires)

pub returns-in-Other : goal.returns-in-Other
returns-in-Other c = λ l room.
    let less = c.begins_word.ensures.room in
    let within = word_within c.args.word.now c.args.text.now (cut c.args.behind.now) c.requires in
    atoms.no_word_of_terms c.args.names.now l room c.args.text.now c.args.word.now c.args.behind.now c.requires c.begins_word.result _ (omega arith) c.begins_word.ensures
