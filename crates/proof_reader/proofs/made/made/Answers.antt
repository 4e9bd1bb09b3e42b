use Rattle.std.proofs.Common.{[], refl}
use Rattle.proof_reader.proofs.ArgPieces as pieces
use Rattle.proof_reader.proofs.made.made.Goals as goal

pub returns-in-TrueIntro : goal.returns-in-TrueIntro
returns-in-TrueIntro c = rw c.in-TrueIntro.is (record { args = []; got = pieces.no_args c.args.names.now c.args.text.now; made = (refl, refl, refl) })

pub returns-in-OrElim : goal.returns-in-OrElim
returns-in-OrElim c = rw c.in-OrElim.is (c.by_or_elim.ensures c.args.names.now)

pub returns-in-OfTheorem : goal.returns-in-OfTheorem
returns-in-OfTheorem c = rw c.in-OfTheorem.is (c.by_theorem.ensures c.args.names.now)

pub returns-in-OfPair : goal.returns-in-OfPair
returns-in-OfPair c = rw c.in-OfPair.is (c.by_pair.ensures c.args.names.now)
