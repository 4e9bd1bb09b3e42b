-- Types by their numbers: types are the same exactly where their numbers are. A base type has its own number; a table
-- lists function types, and the one at place i has the number 2^32 + i.
use Rattle.std.specs.Prelude.{◌≡◌, ℕ, ◌-◌, nat_lt, List, [], ◌∷◌, map, slice_get, Option, Some, None, if◌then◌else◌, Result, Ok, Err}
use Rattle.hol_terms.specs.declared.ty.Ty.{Ty, roll-Ty}
use Rattle.hol_terms.specs.declared.ty.Ty.TheOpen.{Ty-F}
use Rattle.theory_terms.specs.declared.decl.Decl.{Decl}
use Rattle.theory_terms.specs.declared.fault.TheoryFault.{TheoryFault}
use Rattle.theory_terms.specs.declared.numbered.Numbered.{Numbered}
use Rattle.theory_terms.specs.Answers.{Answer, Good, Refused}
use Rattle.theory_terms.specs.Signature.{Declared}

-- the type of this number
abbrev pub type_at : List Ty → ℕ → Option Ty
type_at table n = if nat_lt n 4294967296 then Some (roll-Ty (Ty-F.Base n)) else slice_get table (n - 4294967296)

abbrev pub IsNumbered : List Ty → Numbered → Type 0
IsNumbered table t = type_at table t.number ≡ Some t.ty

abbrev pub AreNumbered : List Ty → List Numbered → Type 0
AreNumbered table [] = Unit {0}
AreNumbered table (t ∷ ts) = IsNumbered table t × AreNumbered table ts

-- each number still has its type
abbrev pub Keeps : List Ty → List Ty → Type 0
Keeps old new = (n : ℕ) (a : Ty) → type_at old n ≡ Some a → type_at new n ≡ Some a

-- what is declared, with the numbers of the constants' types
pub record Noted : Type 0 where
  pub declared : Declared
  pub numbers : List ℕ

abbrev pub AreNoted : List Ty → Noted → Type 0
AreNoted table noted = map (λ d. Some d.ty) noted.declared.consts ≡ map (type_at table) noted.numbers

-- the code's type is the answer, with its number
abbrev pub TellsNumbered : Answer Ty → List Ty → Result Numbered TheoryFault → Type 0
TellsNumbered a table (Ok t) = (a ≡ Good t.ty) × IsNumbered table t
TellsNumbered a table (Err e) = Refused a e
