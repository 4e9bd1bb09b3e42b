use Rattle.fo_terms.specs.Normal.{variables_of}
use Rattle.fol_cnf.proofs.Inserting.{inserted_more}
use Rattle.fol_cnf.proofs.variables.+noting.Goals as goal

pub note_terms-loop-t-preserved : goal.note_terms-loop-t-preserved
note_terms-loop-t-preserved t c =
    inserted_more variables_of c.args.found.now.keys c.loop-t.found.keys c.note_term.new.found.keys c.args.terms.now c.loop-t.t-index c.t-item.result c.loop-t-test.true c.t-item.is c.loop-t.invariant c.in_ok-note_term.ensures
