use Rattle.proof_terms.proofs.Atoms as atoms
use Rattle.proof_terms.proofs.atom_reader.read_constant.Goals as goal

pub returns-in-Err : goal.returns-in-Err
returns-in-Err c = λ l text room eq. atoms.no_constant c.args.names.now l room text c.args.name.now eq _ (rw c.consts.ensures at c.in-Err.ensures)

pub returns-in-Ok : goal.returns-in-Ok
returns-in-Ok c = λ l text room eq. atoms.constant c.args.names.now l room text c.args.name.now eq _ _ (rw c.consts.ensures at c.in-Ok.ensures)
