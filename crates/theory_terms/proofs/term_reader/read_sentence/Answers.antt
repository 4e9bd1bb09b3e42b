use Rattle.theory_terms.proofs.Kept.{keeps_noted}
use Rattle.theory_terms.proofs.term_reader.read_sentence.Goals as goal

pub invariant_of-known : goal.invariant_of-known
invariant_of-known c = keeps_noted c.known.inside.table c.sentence.new.types c.known.inside.decls c.sentence.ensures.keeps c.known.invariant
