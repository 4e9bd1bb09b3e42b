use Rattle.std.proofs.Common.{subst}
use Rattle.proof_terms.specs.Fronts.{GotName, FailsName}
use Rattle.proof_reader.proofs.ArgPieces as pieces
use Rattle.proof_syntax.specs.Machine.{FactKind}
use Rattle.proof_reader.proofs.args.fact.Goals as goal

pub returns-in-None : goal.returns-in-None
returns-in-None c = pieces.no_space c.args.names.now FactKind c.args.text.now c.in-None.ensures

pub returns-in-Err : goal.returns-in-Err
returns-in-Err c = pieces.fact_fails c.args.names.now c.args.text.now c.in-Some.inner.now c.in-Some.ensures c.in-Err.e
    (subst (λ ns. FailsName ns c.in-Some.inner.now c.in-Err.e) c.facts.ensures c.in-Err.ensures)

pub returns-in-Ok : goal.returns-in-Ok
returns-in-Ok c = pieces.fact_ok c.args.names.now c.args.text.now _ c.in-Some.ensures _ _
    (subst (λ ns. GotName ns c.in-Some.inner.now c.in-Ok.number c.in-Ok.rest.now) c.facts.ensures c.in-Ok.ensures)
