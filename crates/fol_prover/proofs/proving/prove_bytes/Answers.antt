use Rattle.fol_prover.specs.Texts.{error_text}
use Rattle.fol_prover.specs.Proving.{IsAnswer, Proves, bad, problem}
use Rattle.fol_prover.proofs.Ends.{end_with, if_ok_map}
use Rattle.fol_prover.proofs.proving.prove_bytes.Goals as goal

pub returns-in-Ok : goal.returns-in-Ok
returns-in-Ok c =
    if_ok_map c.prove_problem.result (λ e. IsAnswer c.in-Ok.problem c.args.budget c.args.age e.status e.text) (λ e. Proves c.args.text.now c.args.budget c.args.age e.status e.text)
    (λ e h. problem c.in-Ok.problem c.in-Ok.ensures.found h) c.prove_problem.ensures

pub returns-in-Err-BadText : goal.returns-in-Err-BadText
returns-in-Err-BadText c =
    end_with (Proves c.args.text.now c.args.budget c.args.age) c.end_with.result 4 error_text
    (bad c.in-Err-BadText.field-0-0 (rw c.in-Err-BadText.field-0-is at c.in-Err-BadText.ensures.found)) c.end_with.ensures
