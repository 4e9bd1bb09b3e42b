-- What one token does to a type whose sides are open.
use Rattle.std.specs.Prelude.{◌≡◌, ◌⊎◌, ℕ, List, [], ◌∷◌, length, Option, Some, None}
use Rattle.hol_terms.specs.declared.ty.Ty.{Ty}
use Rattle.hol_terms.specs.declared.ty.Ty.TheVariants as types
use Rattle.proof_syntax.specs.declared.fault.PartFault.{PartFault}
use Rattle.proof_syntax.specs.declared.fault.PartFault.TheVariants as fault
use Rattle.proof_syntax.specs.Tokens.{cut, open_round, greater, close_round}
use Rattle.proof_syntax.specs.Parts.{IsNot}
use Rattle.proof_terms.specs.declared.sides.Side.{Side}
use Rattle.proof_terms.specs.declared.sides.Side.TheVariants as side
use Rattle.proof_terms.specs.declared.type_reader.Turn.{Turn}
use Rattle.proof_terms.specs.declared.type_reader.Turn.TheVariants as turn
use Rattle.proof_terms.specs.Fronts.{GotName, FailsName}

-- where a type is wanted: a side is opened, or a base type is read
abbrev pub Begins : List (List ℕ) → List ℕ → List Side → List Side → Option Ty → List ℕ → Type 0
Begins names text old new None rest = (new ≡ side.From ∷ old) × (cut text ≡ open_round ∷ cut rest)
Begins names text old new (Some a) rest = (new ≡ old) × ((n : ℕ) × GotName names text n rest × (a ≡ types.Base n))

abbrev pub FailsToBegin : List (List ℕ) → List ℕ → PartFault → Type 0
FailsToBegin names text fault.NoMemory = Unit {0}
FailsToBegin names text e = IsNot open_round (cut text) × FailsName names text e

-- `a` is the left side, and the right one is opened
abbrev pub TurnsRight : List ℕ → List Side → List Side → Ty → List ℕ → Type 0
TurnsRight text old new a rest = (outer : List Side) × (old ≡ side.From ∷ outer) × (new ≡ side.To a ∷ outer) × (cut text ≡ greater ∷ cut rest)

-- `a` is the right side, and `b` is whole
abbrev pub Closes : List ℕ → List Side → List Side → Ty → Ty → List ℕ → Type 0
Closes text old new a b rest = (f : Ty) × (old ≡ side.To f ∷ new) × (b ≡ types.Arrow f a) × (cut text ≡ close_round ∷ cut rest)

-- where the type `a` is read
abbrev pub GoesOn : List ℕ → List Side → List Side → Ty → Turn → Type 0
GoesOn text old new a (turn.Ends b) = (old ≡ []) × (b ≡ a)
GoesOn text old new a (turn.Wants rest) = TurnsRight text old new a rest.now
GoesOn text old new a (turn.Has b rest) = Closes text old new a b rest.now

abbrev pub FailsToGoOn : List ℕ → List Side → PartFault → Type 0
FailsToGoOn text old (fault.Stops left) =
    (left ≡ length text) × (((outer : List Side) × (old ≡ side.From ∷ outer) × IsNot greater (cut text)) ⊎
    ((f : Ty) × (outer : List Side) × (old ≡ side.To f ∷ outer) × IsNot close_round (cut text)))
FailsToGoOn text old (fault.GoesBeyond left) = ⊥
FailsToGoOn text old fault.NoMemory = Unit {0}
