-- The chain of bound variables, as the private reader keeps it.
use Rattle.std.specs.Prelude.{ℕ, List, [], ◌∷◌, Option, Some, None}
use Rattle.std.specs.Borrow.{Bor}
use Rattle.hol_terms.specs.declared.ty.Ty.{Ty}
use Rattle.theory_terms.specs.declared.decl.Decl.{Decl}
use Rattle.theory_terms.specs.declared.numbered.Numbered.{Numbered}
use Rattle.theory_terms.specs.declared.scope.Scope.{Scope}
use Rattle.theory_terms.specs.declared.scope.Scope.TheOpen.{Scope-F}
use Rattle.theory_terms.specs.declared.scope.Scope.TheFolds.{fold-Scope}

abbrev pub scope_step : Scope-F (List Decl) → List Decl
scope_step Scope-F.Outside = []
scope_step (Scope-F.Under name a rest) = record { name = name.now; ty = a.now.ty } ∷ rest.now

-- the variables with their types, the innermost first
abbrev pub variables : Scope → List Decl
variables = fold-Scope (List Decl) scope_step

abbrev pub numbered_step : Scope-F (List Numbered) → List Numbered
numbered_step Scope-F.Outside = []
numbered_step (Scope-F.Under name a rest) = a.now ∷ rest.now

-- their types, with their numbers in the table
abbrev pub numbered_types : Scope → List Numbered
numbered_types = fold-Scope (List Numbered) numbered_step

-- a place with the type that is lent
abbrev pub lent : Option (ℕ × Bor Numbered) → Option (ℕ × Ty)
lent None = None
lent (Some v) = Some (v.0, v.1.now.ty)
