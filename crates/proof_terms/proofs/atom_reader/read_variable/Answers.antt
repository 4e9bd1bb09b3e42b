use Rattle.proof_terms.proofs.Atoms as atoms
use Rattle.proof_terms.proofs.atom_reader.read_variable.Goals as goal

pub returns-in-Err : goal.returns-in-Err
returns-in-Err c = λ l text room eq. atoms.no_variable c.args.names.now l room text c.args.digits.now eq _ c.in-Err.ensures

pub returns-in-None : goal.returns-in-None
returns-in-None c = λ l text room eq. atoms.no_colon c.args.names.now l room text c.args.digits.now eq _ _ c.in-Ok.ensures c.in-None.ensures

pub returns-in-Err-read_type : goal.returns-in-Err-read_type
returns-in-Err-read_type c = λ l text room eq. atoms.no_variable_type c.args.names.now l room text c.args.digits.now eq _ _ c.in-Ok.ensures _ c.in-Some.ensures _
    (c.in-Err-read_type.ensures l room)

pub returns-in-Ok-read_type : goal.returns-in-Ok-read_type
returns-in-Ok-read_type c = λ l text room eq. atoms.free_variable c.args.names.now l room text c.args.digits.now eq _ _ c.in-Ok.ensures _ c.in-Some.ensures _ _
    (c.in-Ok-read_type.ensures l room)
