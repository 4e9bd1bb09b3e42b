use Rattle.proof_reader.proofs.StartPieces as pieces
use Rattle.proof_reader.proofs.start.behind_line.Goals as goal

pub returns-in-None : goal.returns-in-None
returns-in-None c = pieces.no_end c.args.text.now c.in-None.ensures

pub returns-in-Some : goal.returns-in-Some
returns-in-Some c = pieces.behind_end c.args.text.now c.in-Some.at c.in-Some.ensures
