use Rattle.proof_terms.specs.Terms.{typed_of}
use Rattle.proof_terms.proofs.Atoms as atoms
use Rattle.proof_terms.proofs.atom_reader.read_typed.Goals as goal

pub returns-in-None : goal.returns-in-None
returns-in-None c = λ l text room eq. atoms.no_open c.args.names.now l room text (typed_of c.args.word) c.args.behind.now eq c.in-None.ensures

pub returns-in-Err : goal.returns-in-Err
returns-in-Err c = λ l text room eq. atoms.no_type c.args.names.now l room text (typed_of c.args.word) c.args.behind.now eq _ c.in-Some.ensures _ (c.in-Err.ensures l room)

pub returns-in-None-sign : goal.returns-in-None-sign
returns-in-None-sign c = λ l text room eq. atoms.no_close c.args.names.now l room text (typed_of c.args.word) c.args.behind.now eq _ c.in-Some.ensures _ _
    (c.in-Ok.ensures l room) c.in-None-sign.ensures

pub returns-in-Some-sign : goal.returns-in-Some-sign
returns-in-Some-sign c = λ l text room eq. rw c.at_type.ensures (atoms.typed_constant c.args.names.now l room text (typed_of c.args.word) c.args.behind.now eq _ c.in-Some.ensures _ _
    (c.in-Ok.ensures l room) _ c.in-Some-sign.ensures)
