use Rattle.theory_terms.proofs.Typed.{sentence_is}
use Rattle.theory_terms.proofs.laws.sentences_are_sentences.Goals as goal

pub returns : goal.returns
returns c = λ fit t h. sentence_is c.args.text.now c.args.known.now fit c.args.tree.now t h
