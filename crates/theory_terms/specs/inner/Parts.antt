-- What the private reader's parts mean.
use Rattle.std.specs.Prelude.{◌≡◌, ℕ, List, Result, Ok, Err}
use Rattle.text_kit.specs.declared.NoMemory.{NoMemory}
use Rattle.theory_terms.specs.Numbers.{IsNumbered}
use Rattle.hol_terms.specs.declared.ty.Ty.{Ty}
use Rattle.theory_terms.specs.declared.fault.TheoryFault.{TheoryFault}
use Rattle.theory_terms.specs.declared.part.Part.{Part}
use Rattle.theory_terms.specs.declared.making.Sign.{Sign}
use Rattle.theory_terms.specs.declared.making.Sign.TheVariants as sign
use Rattle.theory_terms.specs.Answers.{Answer, Good, Refused}
use Rattle.theory_terms.specs.Meanings.{Meaning, operator, equality, negation}

-- a part without its depth and the number of its type
abbrev pub meaning_of : Part → Meaning
meaning_of p = record { at = p.at; term = p.term; ty = p.ty.ty }

-- the code's part is the answer, with its type's number in the table
abbrev pub Reads : Answer Meaning → List Ty → Result Part TheoryFault → Type 0
Reads a table (Ok p) = (a ≡ Good (meaning_of p)) × IsNumbered table p.ty
Reads a table (Err e) = Refused a e

-- the same for what comes with no fault
abbrev pub Makes : Meaning → List Ty → Result Part NoMemory → Type 0
Makes m table (Ok p) = (meaning_of p ≡ m) × IsNumbered table p.ty
Makes m table (Err e) = Unit {0}

abbrev pub sign_of : Sign → Meaning → Meaning
sign_of (sign.Operator o) = operator o
sign_of sign.Equality = equality
sign_of (sign.Negation at) = negation at
