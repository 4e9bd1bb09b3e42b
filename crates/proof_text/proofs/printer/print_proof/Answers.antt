use Rattle.std.proofs.Common.{◌≡◌, ◌∙◌, IsTrue, ap, sym, subst}
use Rattle.proof_syntax.specs.Reading.{Reads}
use Rattle.proof_syntax.specs.Texts.{proof_text}
use Rattle.proof_text.specs.inner.Fitting.{steps_fit}
use Rattle.proof_text.proofs.ReadAgain.{read_again, both_ok}
use Rattle.proof_text.proofs.printer.print_proof.Goals as goal

pub returns-clause-again : goal.returns-clause-again
returns-clause-again c = λ env is checks shallow.
    let t = c.args.theory.now in
    let n = c.args.goal in
    let steps = c.args.steps.now in
    both_ok c.printed.result (λ out. out ≡ proof_text t n c.as_slice.result.now) (λ out. IsTrue (steps_fit c.as_slice.result.now)) (λ out. Reads t out (record { goal = n; steps = steps }))
    (λ out text fit.
    subst (λ bytes. Reads t bytes (record { goal = n; steps = steps })) (sym (text ∙ ap (proof_text t n) c.as_slice.ensures))
    (read_again t n steps c.requires.goal (subst (λ xs. IsTrue (steps_fit xs)) c.as_slice.ensures fit) env is checks shallow))
    c.printed.ensures.text c.printed.ensures.fits
