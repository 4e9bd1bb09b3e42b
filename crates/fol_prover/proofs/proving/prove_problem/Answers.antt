use Rattle.fol_prover.specs.Texts.{gave_up_text}
use Rattle.fol_prover.specs.Proving.{IsAnswer, too_large}
use Rattle.fol_prover.proofs.Ends.{end_with}
use Rattle.fol_prover.proofs.proving.prove_problem.Goals as goal

pub returns-in-Err-TooLarge : goal.returns-in-Err-TooLarge
returns-in-Err-TooLarge c =
    end_with (IsAnswer c.args.problem.now c.args.budget c.args.age) c.gave_up.result 1 gave_up_text (too_large (rw c.in-Err-TooLarge.field-0-is at c.in-Err-TooLarge.ensures)) c.gave_up.ensures
