-- What normal forms are good for.
use Rattle.std.specs.Prelude.{◌≡◌, ℕ, List}
use Rattle.fo_terms.specs.declared.term.FoTerm.{FoTerm}
use Rattle.fo_terms.specs.declared.literal.Literal.{Literal}
use Rattle.fo_terms.specs.Substitution.{put_literals}
use Rattle.fo_terms.specs.Normal.{normal_of}

-- clauses that are instances of each other have one normal form
abbrev pub HaveOneNormalForm : List Literal → List Literal → Type 0
HaveOneNormalForm a b = (v w : ℕ → FoTerm) → put_literals v a ≡ b → put_literals w b ≡ a → normal_of a ≡ normal_of b

-- a normal form is its own normal form
abbrev pub NormalFormStays : List Literal → Type 0
NormalFormStays ls = normal_of (normal_of ls) ≡ normal_of ls
