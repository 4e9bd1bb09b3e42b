-- What is printed behind the word of a step.
use Rattle.std.specs.Prelude.{ℕ, List, ◌++◌, map}
use Rattle.kernel_rules.specs.declared.step.Step.{Step}
use Rattle.proof_syntax.specs.Names.{Names}
use Rattle.proof_syntax.specs.Forms.{Arg, FactArg, NumberArg, TypeArg, TermArg, form}
use Rattle.proof_syntax.specs.Texts.{args_text}
use Rattle.proof_text.specs.declared.steps.Part.{Part}
use Rattle.proof_text.specs.declared.steps.Part.TheVariants as part

abbrev pub arg_of : Part → Arg
arg_of (part.Fact n) = FactArg n
arg_of (part.Number n) = NumberArg n
arg_of (part.Type a) = TypeArg a.now
arg_of (part.Term t) = TermArg t.now

abbrev pub args_of : List Part → List Arg
args_of parts = map arg_of parts

-- a step without its number and its line's end
abbrev pub rule_text : Names → Step → List ℕ
rule_text names s = (form s).word ++ args_text names (form s).args
