use Rattle.proof_terms.proofs.Atoms as atoms
use Rattle.proof_terms.proofs.atom_reader.read_index.Goals as goal

pub returns-in-Err : goal.returns-in-Err
returns-in-Err c = λ names l text room eq. atoms.no_index names l room text c.args.digits.now eq _ c.in-Err.ensures

pub returns-in-Ok : goal.returns-in-Ok
returns-in-Ok c = λ names l text room eq. atoms.index names l room text c.args.digits.now eq _ _ c.in-Ok.ensures
