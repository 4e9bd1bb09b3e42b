use Rattle.std.proofs.Common.{◌≡◌, ◌++◌, take, IsTrue}
use Rattle.proof_syntax.specs.Texts.{args_text}
use Rattle.proof_text.specs.inner.Fitting.{args_fit}
use Rattle.proof_text.specs.inner.Arguments.{args_of}
use Rattle.proof_text.specs.inner.Vocabularies.{declared_names}
use Rattle.proof_text.proofs.steps.put.Given as goal

abbrev pub invariant-loop-part : goal.invariant-loop-part
invariant-loop-part l = record {
  text : l.out ≡ l.initial.out ++ args_text (declared_names l.names) (args_of (take l.part-index l.parts));
  fits : IsTrue (args_fit (args_of (take l.part-index l.parts)));
}
