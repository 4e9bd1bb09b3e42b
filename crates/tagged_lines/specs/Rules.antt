-- The rules of the calculus on typed literals. The parents are those after instantiation, so what is resolved or rewritten is the same term on both sides.
use Rattle.std.specs.Prelude.{◌≡◌, ℕ, Bool, true, false, List, ◌++◌, Some, slice_get, slice_set, if◌then◌else◌}
use Rattle.std.specs.List.{remove}
use Rattle.hol_terms.specs.declared.ty.Ty.{Ty}
use Rattle.hol_terms.specs.declared.term.Term.{Term}
use Rattle.tagged_terms.specs.Clauses.{TypedLiteral, equation}
use Rattle.tagged_lines.specs.TypedLiterals.{Lasts}
use Rattle.tagged_lines.specs.Places.{part_at, replaced_at}

-- normal form alone
abbrev pub KeepsAll : List TypedLiteral → List TypedLiteral → Type 0
KeepsAll ps cs = Lasts ps cs

-- factoring: two equal literals, of which the later one goes
pub record FactorsTo (i j : ℕ) (ps cs : List TypedLiteral) : Type 0 where
  pub literal : TypedLiteral
  pub first : slice_get ps i ≡ Some literal
  pub second : slice_get ps j ≡ Some literal
  pub lasts : Lasts (remove ps j) cs

-- reflexivity: a denied equation of a term with itself goes
pub record ReflectsTo (i : ℕ) (ps cs : List TypedLiteral) : Type 0 where
  pub ty : Ty
  pub term : Term
  pub literal : slice_get ps i ≡ Some (record { positive = false; atom = equation ty term term })
  pub lasts : Lasts (remove ps i) cs

-- resolution: an atom that the left clause states and the right one denies goes
pub record ResolvesTo (i j : ℕ) (ps qs cs : List TypedLiteral) : Type 0 where
  pub atom : Term
  pub left : slice_get ps i ≡ Some (record { positive = true; atom = atom })
  pub right : slice_get qs j ≡ Some (record { positive = false; atom = atom })
  pub lasts : Lasts (remove ps i ++ remove qs j) cs

-- the side of an equation that is sought, and the other one
abbrev pub from : Bool → Term → Term → Term
from swapped s t = if swapped then t else s

abbrev pub to : Bool → Term → Term → Term
to swapped s t = if swapped then s else t

-- paramodulation: an equation of the left clause goes, and one side of it is replaced by the other at a path of a literal of the right one
pub record ParamodulatesTo (i : ℕ) (swapped : Bool) (j : ℕ) (path : List ℕ) (ps qs cs : List TypedLiteral) : Type 0 where
  pub ty : Ty
  pub s : Term
  pub t : Term
  pub into : TypedLiteral
  pub left : slice_get ps i ≡ Some (record { positive = true; atom = equation ty s t })
  pub right : slice_get qs j ≡ Some into
  pub part : part_at path into.atom ≡ Some (from swapped s t)
  pub lasts : Lasts (remove ps i ++ slice_set qs j (record { positive = into.positive; atom = replaced_at path (to swapped s t) into.atom })) cs
