-- The variables around a place with the binders that they hide, the innermost first.
use Rattle.std.specs.Prelude.{◌≡◌, ℕ, nat_eq, List, [], ◌∷◌, length, map, if◌then◌else◌, Option, Some, None}
use Rattle.tptp_syntax.specs.declared.names.Binder.{Binder}

abbrev pub names : List Binder → List ℕ
names bs = map (λ b. b.name) bs

-- the number of a name's innermost binder, where there is one
abbrev pub innermost : ℕ → List ℕ → Option ℕ
innermost x [] = None
innermost x (y ∷ vs) = if nat_eq x y then Some (length vs) else innermost x vs

-- each binder has the number of the one that it hides
abbrev pub AreNoted : List Binder → Type 0
AreNoted [] = Unit {0}
AreNoted (b ∷ bs) = (b.hidden ≡ innermost b.name (names bs)) × AreNoted bs
