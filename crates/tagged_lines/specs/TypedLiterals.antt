-- Typed literals: their instances, and what becomes of them in a normal form.
use Rattle.std.specs.Prelude.{◌≡◌, ℕ, false, ◌⊎◌, List, [], ◌∷◌, map}
use Rattle.hol_terms.specs.declared.ty.Ty.{Ty}
use Rattle.hol_terms.specs.declared.term.Term.{Term}
use Rattle.hol_terms.specs.Substitution.{put_free}
use Rattle.tagged_terms.specs.Clauses.{TypedLiteral, equation}

-- each variable replaced at once
abbrev pub typed_literal : (ℕ → Ty → Term) → TypedLiteral → TypedLiteral
typed_literal v l = record { positive = l.positive; atom = put_free v l.atom }

abbrev pub typed_literals : (ℕ → Ty → Term) → List TypedLiteral → List TypedLiteral
typed_literals v ls = map (typed_literal v) ls

-- the item is one of these
abbrev pub IsIn : {X : Type 0} → List X → X → Type 0
IsIn [] x = ⊥
IsIn (y ∷ ys) x = (y ≡ x) ⊎ IsIn ys x

-- `~(t = t)`, which never holds
pub record IsRefuted (l : TypedLiteral) : Type 0 where
  pub ty : Ty
  pub term : Term
  pub is : l ≡ record { positive = false; atom = equation ty term term }

-- each literal is one of the new ones or is refuted: repeats and refuted ones may go
abbrev pub Lasts : List TypedLiteral → List TypedLiteral → Type 0
Lasts [] new = Unit {0}
Lasts (l ∷ ls) new = (IsIn new l ⊎ IsRefuted l) × Lasts ls new
