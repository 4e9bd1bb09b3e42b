-- What a reading answers: a value, or the first fault with its place.
use Rattle.std.specs.Prelude.{◌≡◌, ℕ, Result, Ok, Err}
use Rattle.theory_terms.specs.declared.fault.TheoryKind.{TheoryKind}
use Rattle.theory_terms.specs.declared.fault.TheoryFault.{TheoryFault}
use Rattle.theory_terms.specs.declared.fault.TheoryFault.TheVariants as fault

pub data Answer (A : Type 0) : Type 0 where
  Good : A → Answer A
  Bad : ℕ → TheoryKind → Answer A

-- the first reading, and then the second with what the first gave; the first fault stays
abbrev pub and_then : {A B : Type 0} → Answer A → (A → Answer B) → Answer B
and_then (Good a) f = f a
and_then (Bad at k) f = Bad at k

-- the code's fault is the answer's; want of memory is free
abbrev pub Refused : {A : Type 0} → Answer A → TheoryFault → Type 0
Refused a (fault.At at k) = a ≡ Bad at k
Refused a fault.NoMemory = Unit {0}

-- the code's result is the answer
abbrev pub Tells : {A : Type 0} → Answer A → Result A TheoryFault → Type 0
Tells a (Ok v) = a ≡ Good v
Tells a (Err e) = Refused a e
