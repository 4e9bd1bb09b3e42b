-- The type that a syntax tree stands for.
use Rattle.std.specs.Prelude.{ℕ, ◌+◌, List, Option, Some, None}
use Rattle.hol_terms.specs.declared.ty.Ty.{Ty, roll-Ty}
use Rattle.hol_terms.specs.declared.ty.Ty.TheOpen.{Ty-F}
use Rattle.hol_terms.specs.Types.{bool_ty, function_ty}
use Rattle.theory_syntax.specs.declared.tree.TyTree.{TyTree}
use Rattle.theory_syntax.specs.declared.tree.TyTree.TheOpen.{TyTree-F}
use Rattle.theory_syntax.specs.declared.tree.TyTree.TheFolds.{fold-TyTree}
use Rattle.theory_terms.specs.declared.fault.TheoryKind.TheVariants as kind
use Rattle.theory_terms.specs.Answers.{Answer, Good, Bad, and_then}
use Rattle.theory_terms.specs.Words.{word_at, place}
use Rattle.theory_terms.specs.Signature.{Declared}

-- the type of a name that stands at `at`, from its place among the declared types
abbrev pub named_type : ℕ → Option ℕ → Answer Ty
named_type at None = Bad at kind.Unknown
named_type at (Some i) = Good (roll-Ty (Ty-F.Base (i + 1)))

abbrev pub type_step : List ℕ → Declared → TyTree-F (Answer Ty) → Answer Ty
type_step text known TyTree-F.Bool = Good bool_ty
type_step text known (TyTree-F.Named w) = named_type w.start (place (word_at text w) known.types)
type_step text known (TyTree-F.Arrow a b) = and_then a (λ x. and_then b (λ y. Good (function_ty x y)))

-- the type, where each of its names is declared
abbrev pub type_of_tree : List ℕ → Declared → TyTree → Answer Ty
type_of_tree text known = fold-TyTree (Answer Ty) (type_step text known)
