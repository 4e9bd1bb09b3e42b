-- What a theory has declared so far.
use Rattle.std.specs.Prelude.{ℕ, ◌+◌, List, [], ◌∷◌, map, length, Option, Some, None, if◌then◌else◌}
use Rattle.std.specs.Str.{bytes_eq}
use Rattle.hol_terms.specs.declared.ty.Ty.{Ty}
use Rattle.hol_terms.specs.declared.sig.Sig.{Sig}
use Rattle.theory_terms.specs.declared.decl.Decl.{Decl}

-- the names of the types and the constants, in the order of their declarations; bool isn't among them
pub record Declared : Type 0 where
  pub types : List (List ℕ)
  pub consts : List Decl

-- the signature: bool is base type 0 and the type declared at place i base type i + 1; a constant's number is its place
abbrev pub sig_of : Declared → Sig
sig_of known = record { types = 1 + length known.types; consts = map (λ d. d.ty) known.consts; aux = [] }

-- one place further on
abbrev pub further : Option (ℕ × Ty) → Option (ℕ × Ty)
further None = None
further (Some v) = Some (v.0 + 1, v.1)

-- the first of that name: its place and its type
abbrev pub found : List ℕ → List Decl → Option (ℕ × Ty)
found name [] = None
found name (d ∷ ds) = if bytes_eq name d.name then Some (0, d.ty) else further (found name ds)
