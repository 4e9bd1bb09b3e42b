-- What the readers of arguments and of steps promise.
use Rattle.std.specs.Prelude.{◌≡◌, ℕ, ◌+◌, ◌<◌, List, [], ◌∷◌, ◌++◌, length, map, decimal, codes}
use Rattle.first_fault.specs.Levels.{Within}
use Rattle.kernel_rules.specs.declared.step.Step.{Step}
use Rattle.proof_syntax.specs.declared.fault.PartFault.{PartFault}
use Rattle.proof_syntax.specs.Tokens.{Tok, Word, cut, space}
use Rattle.proof_syntax.specs.Names.{Names}
use Rattle.proof_syntax.specs.Forms.{Arg}
use Rattle.proof_syntax.specs.Grammar.{Placed, at, most, IsArg, AreArgs, AreSteps}
use Rattle.proof_syntax.specs.Machine.{put, goes, run, State, StepStart, StepSpace, Behind, Opened, Kind, kind_of, Rule}
use Rattle.proof_syntax.specs.Parts.{Fails}
use Rattle.proof_reader.specs.declared.steps.Opening.{Opening}
use Rattle.proof_reader.specs.declared.steps.Opening.TheVariants as opening
use Rattle.proof_reader.specs.inner.Rules.{IsMade}

-- ---- arguments

-- one argument, behind a space
pub record GotArg (names : Names) (text : List ℕ) (a : Arg) (rest : List ℕ) : Type 0 where
  pub placed : List Placed
  pub derived : IsArg names placed a
  pub within : Within most placed
  pub tokens : cut text ≡ space ∷ put placed (cut rest)

-- the arguments of a step that are still wanted
pub record GotArgs (names : Names) (text : List ℕ) (args : List Arg) (rest : List ℕ) : Type 0 where
  pub placed : List Placed
  pub derived : AreArgs names placed args
  pub within : Within most placed
  pub tokens : cut text ≡ put placed (cut rest)

abbrev pub BegunArgs : Names → List Kind → List Placed → Type 0
BegunArgs names kinds p = (q : List Placed) × (args : List Arg) × AreArgs names (p ++ q) args × (map kind_of args ≡ kinds)

-- a step that wants these arguments
pub record Wanting (kinds : List Kind) : Type 0 where
  pub opened : Opened
  pub is_kinds : opened.kinds ≡ kinds

abbrev pub behind_opened : (kinds : List Kind) → Wanting kinds → State
behind_opened kinds i = Behind i.opened

abbrev pub FailsArgs : Names → List Kind → List ℕ → PartFault → Type 0
FailsArgs names kinds text e = Fails names (BegunArgs names kinds) (Wanting kinds) (behind_opened kinds) text e

-- the fault of the next argument, whatever is wanted behind it
abbrev pub FailsArg : Names → Kind → List ℕ → PartFault → Type 0
FailsArg names kind text e = (kinds : List Kind) → FailsArgs names (kind ∷ kinds) text e

-- the arguments of a rule, and the step that it makes of them
pub record GotMade (names : Names) (r : Rule) (text : List ℕ) (s : Step) (rest : List ℕ) : Type 0 where
  pub args : List Arg
  pub got : GotArgs names text args rest
  pub made : IsMade r args s

-- ---- a step behind its number

pub record GotStep (names : Names) (text : List ℕ) (s : Step) (rest : List ℕ) : Type 0 where
  pub placed : List Placed
  pub within : Within most placed
  pub tokens : cut text ≡ put placed (cut rest)
  pub shorter : length rest < length text
  pub joins : (n : ℕ) (q : List Placed) (more : List Step) → AreSteps names (n + 1) q more → AreSteps names n (at 0 (Word (decimal n)) ∷ placed ++ q) (s ∷ more)
  pub walks : (before : List Step) (ts : List Tok) → run names (StepSpace before) (put placed ts) ≡ goes placed (run names (StepStart (before ++ s ∷ [])) ts)

abbrev pub BegunStep : Names → List Placed → Type 0
BegunStep names p = (n : ℕ) → (q : List Placed) × (more : List Step) × AreSteps names n (at 0 (Word (decimal n)) ∷ p ++ q) more

abbrev pub FailsStep : Names → List ℕ → PartFault → Type 0
FailsStep names text e = Fails names (BegunStep names) (List Step) StepSpace text e

-- ---- all steps

-- how the line of step number `n` begins: with that number, or with `end`
abbrev pub IsOpening : ℕ → List ℕ → Opening → Type 0
IsOpening n text (opening.Numbered rest) = cut text ≡ Word (decimal n) ∷ cut rest.now
IsOpening n text (opening.Last rest) = cut text ≡ Word (codes "end") ∷ cut rest.now

-- the steps that are read go on with those behind them
pub record StepsSoFar (names : Names) (text : List ℕ) (steps : List Step) (rest : List ℕ) : Type 0 where
  pub placed : List Placed
  pub within : Within most placed
  pub tokens : cut text ≡ put placed (cut rest)
  pub joins : (q : List Placed) (more : List Step) → AreSteps names (length steps) q more → AreSteps names 0 (placed ++ q) (steps ++ more)
  pub walks : (ts : List Tok) → run names (StepStart []) (put placed ts) ≡ goes placed (run names (StepStart steps) ts)

pub record GotSteps (names : Names) (text : List ℕ) (steps : List Step) : Type 0 where
  pub placed : List Placed
  pub derived : AreSteps names 0 placed steps
  pub within : Within most placed
  pub tokens : cut text ≡ put placed []

abbrev pub BegunSteps : Names → List Placed → Type 0
BegunSteps names p = (q : List Placed) × (steps : List Step) × AreSteps names 0 (p ++ q) steps

abbrev pub first_step : Unit {0} → State
first_step u = StepStart []

abbrev pub FailsSteps : Names → List ℕ → PartFault → Type 0
FailsSteps names text e = Fails names (BegunSteps names) (Unit {0}) first_step text e
