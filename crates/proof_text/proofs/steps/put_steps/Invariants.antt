use Rattle.std.proofs.Common.{◌≡◌, ◌++◌, take, IsTrue}
use Rattle.proof_syntax.specs.Texts.{steps_text}
use Rattle.proof_text.specs.inner.Fitting.{steps_fit}
use Rattle.proof_text.specs.inner.Vocabularies.{declared_names}
use Rattle.proof_text.proofs.steps.put_steps.Given as goal

abbrev pub invariant-loop-number : goal.invariant-loop-number
invariant-loop-number l = record {
  text : l.out ≡ l.initial.out ++ steps_text (declared_names l.names) 0 (take l.number l.steps);
  fits : IsTrue (steps_fit (take l.number l.steps));
}
