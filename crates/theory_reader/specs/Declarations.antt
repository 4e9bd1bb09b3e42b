-- What a file declares.
use Rattle.std.specs.Prelude.{ℕ, List}
use Rattle.theory_terms.specs.declared.decl.Decl.{Decl}
use Rattle.theory_terms.specs.Signature.{Declared}
use Rattle.theory_reader.specs.declared.statement.Fact.{Fact}
use Rattle.theory_reader.specs.declared.statement.Goal.{Goal}

-- the names of the types, the constants, the facts and the goals, each in the order of the file
pub record Declarations : Type 0 where
  pub types : List (List ℕ)
  pub consts : List Decl
  pub facts : List Fact
  pub goals : List Goal

-- the types and constants
abbrev pub known : Declarations → Declared
known d = record { types = d.types; consts = d.consts }
