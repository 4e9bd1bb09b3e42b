-- Lines as theorems, and the lines that are wanted.
use Rattle.std.specs.Prelude.{◌≡◌, ℕ, suc, ◌<◌, Bool, true, ◌⊎◌, List, [], ◌∷◌, map, length, Option, Some, slice_get}
use Rattle.fo_terms.specs.declared.literal.Literal.{Literal}
use Rattle.fo_terms.specs.declared.clause.Clause.{Clause}
use Rattle.fo_infer.specs.declared.refutation.Line.{Line}
use Rattle.fo_infer.specs.declared.refutation.Origin.{Origin}
use Rattle.fo_infer.specs.declared.refutation.Origin.TheVariants.{Input, Alone, Pair}
use Rattle.fo_infer.specs.Inferences.{tagged_position}
use Rattle.fo_infer.specs.Lines.{Follows}
use Rattle.tagged_terms.specs.Readings.{Signs}
use Rattle.tagged_lines.specs.TypedLiterals.{IsIn}
use Rattle.hyp_sets.specs.Sets.{TermSet, Among}
use Rattle.kernel_rules.specs.declared.step.ThmId.{ThmId}
use Rattle.kernel_rules.specs.Connectives.{falsum}
use Rattle.hol_kernel.specs.Logs.{Logged, IsThm, thm}
use Rattle.hol_kernel.specs.Growth.{Extends}
use Rattle.hol_clauses.specs.Literals.{allowed}
use Rattle.clause_instances.specs.Theorems.{clause_of, VarFree}
use Rattle.hol_lift.specs.Refutations.{IsTaggedClause, AreInputs, AreOver}

-- theorem `r` concludes `false`, and its hypotheses are in each base without free variables that serves the inputs' theorems, or deny the clause's literals
pub record IsLifted (old new : Logged) (signs : Signs) (clauses : List Clause) (thms : List ThmId) (c : List Literal) (r : ℕ) : Type 0 where
  pub is_thm : IsThm new r
  pub concl : (thm new r).concl ≡ falsum
  pub among : (base : TermSet) → VarFree base → AreOver old signs clauses thms base → Among (thm new r).hyps (allowed base (clause_of signs c))

-- ---- lines

-- the lines that a line comes from
abbrev pub parents : Origin → List ℕ
parents (Input number) = []
parents (Alone of rule) = of ∷ []
parents (Pair left right rule) = left ∷ right ∷ []

-- line `i` is tagged and has a theorem
pub record LiftedAt (start log : Logged) (signs : Signs) (clauses : List Clause) (thms : List ThmId) (lines : List Line) (made : List (Option ThmId)) (i : ℕ) : Type 0 where
  pub line : Line
  pub line_is : slice_get lines i ≡ Some line
  pub theorem : ThmId
  pub made_is : slice_get made i ≡ Some (Some theorem)
  pub lifted : IsLifted start log signs clauses thms line.clause.literals theorem.0
  pub tagged : IsTaggedClause signs line.clause.literals

-- a line whose parents have theorems
pub record IsReady (start log : Logged) (signs : Signs) (clauses : List Clause) (thms : List ThmId) (lines : List Line) (made : List (Option ThmId)) (line : Line) : Type 0 where
  pub kept : Extends start log
  pub inputs : AreInputs start signs clauses thms
  pub follows : Follows tagged_position clauses (map (λ l. l.clause) lines) line.origin line.clause
  pub parents : (i : ℕ) → IsIn (parents line.origin) i → LiftedAt start log signs clauses thms lines made i

-- ---- the lines that are wanted

abbrev pub IsMarked : List Bool → ℕ → Type 0
IsMarked marks i = slice_get marks i ≡ Some true

-- each line comes from earlier ones
abbrev pub AreOrdered : List Line → Type 0
AreOrdered lines = (i : ℕ) (l : Line) → slice_get lines i ≡ Some l → (j : ℕ) → IsIn (parents l.origin) j → j < i

-- the last line is wanted, and the parents of a wanted one are
pub record AreWanted (lines : List Line) (marks : List Bool) : Type 0 where
  pub count : length marks ≡ length lines
  pub last : (k : ℕ) → length lines ≡ suc k → IsMarked marks k
  pub closed : (i : ℕ) (l : Line) → slice_get lines i ≡ Some l → IsMarked marks i → (j : ℕ) → IsIn (parents l.origin) j → IsMarked marks j

-- the marks of these places are added
pub record Marks (old new : List Bool) (places : List ℕ) : Type 0 where
  pub count : length new ≡ length old
  pub kept : (i : ℕ) → IsMarked old i → IsMarked new i
  pub added : (i : ℕ) → IsIn places i → IsMarked new i
  pub only : (i : ℕ) → IsMarked new i → IsMarked old i ⊎ IsIn places i

-- each wanted line has a theorem
pub record AreLifted (start log : Logged) (signs : Signs) (clauses : List Clause) (thms : List ThmId) (lines : List Line) (marks : List Bool) (made : List (Option ThmId)) : Type 0 where
  pub count : length made ≡ length lines
  pub each : (i : ℕ) → i < length lines → IsMarked marks i → LiftedAt start log signs clauses thms lines made i

-- the last line has a theorem
pub record HasLast (made : List (Option ThmId)) : Type 0 where
  pub at : ℕ
  pub is : length made ≡ suc at
  pub theorem : ThmId
  pub there : slice_get made at ≡ Some (Some theorem)
