use Rattle.theory_print.proofs.laws.read_again.Goals as goal
use Rattle.theory_print.proofs.ReadAgain as again

pub returns-clause-types : goal.returns-clause-types
returns-clause-types c = again.types_are_read_again

pub returns-clause-sentences : goal.returns-clause-sentences
returns-clause-sentences c = again.sentences_are_read_again
