-- The text of a proof: the statements that are used, and the clauses that are used, each with its parents.
use Rattle.std.specs.Prelude.{ℕ, ◌≡◌, Bool, true, false, if◌then◌else◌, List, [], ◌∷◌, ◌++◌, length, slice_get, unwrap_or, codes, decimal}
use Rattle.std.specs.Option.{option_map_or}
use Rattle.std.specs.List.{flat_map, list_any}
use Rattle.fo_infer.specs.declared.made.Rule.{Rule}
use Rattle.fo_infer.specs.declared.made.Rule.TheVariants.{Resolve, Para, Factor, Reflex}
use Rattle.fo_infer.specs.declared.refutation.Line.{Line}
use Rattle.fo_infer.specs.declared.refutation.Origin.{Origin}
use Rattle.fo_infer.specs.declared.refutation.Origin.TheVariants.{Input, Alone, Pair}
use Rattle.tptp_syntax.specs.declared.problem.Statement.{Statement}
use Rattle.tptp_syntax.specs.declared.problem.Problem.{Problem}
use Rattle.tstp_print.specs.Names.{name_text}
use Rattle.tstp_print.specs.Terms.{clause_text}
use Rattle.tstp_print.specs.Formulas.{formula_text}
use Rattle.tstp_print.specs.Used.{IsUsed, IsCited, AreThose}

-- ---- statements

abbrev pub role_text : Bool → List ℕ
role_text conjecture = if conjecture then codes "conjecture" else codes "axiom"

-- what stands before a statement's formula, and behind it
abbrev pub stated_text : Statement → List ℕ
stated_text s = codes "fof(" ++ name_text s.name ++ codes ", " ++ role_text s.conjecture ++ codes ", "

abbrev pub source_text : Statement → List ℕ
source_text s = codes ", file('stdin', " ++ name_text s.name ++ codes ")).\n"

abbrev pub statement_text : List (List ℕ) → Statement → List ℕ
statement_text names s = stated_text s ++ formula_text names s.formula ++ source_text s

-- ---- clauses

abbrev pub rule_word : Rule → List ℕ
rule_word (Resolve i j) = codes "resolve"
rule_word (Para i swapped j path) = codes "paramodulate"
rule_word (Factor i j) = codes "factor"
rule_word (Reflex i) = codes "reflexivity"

abbrev pub origin_word : Origin → List ℕ
origin_word (Input number) = codes "clausify"
origin_word (Alone of rule) = rule_word rule
origin_word (Pair left right rule) = rule_word rule

-- a clause is named by its number
abbrev pub line_name : ℕ → List ℕ
line_name n = codes "c" ++ decimal n

-- the name of the statement with this number
abbrev pub statement_name : List Statement → ℕ → List ℕ
statement_name statements s = option_map_or (λ t. name_text t.name) (slice_get statements s) []

-- an input's parent is its statement, which `sources` has; a clause is named twice where it is both parents
abbrev pub parents_text : List Statement → List ℕ → Origin → List ℕ
parents_text statements sources (Input number) = option_map_or (statement_name statements) (slice_get sources number) []
parents_text statements sources (Alone of rule) = line_name of
parents_text statements sources (Pair left right rule) = line_name left ++ codes ", " ++ line_name right

-- what stands before a clause, and behind it
abbrev pub numbered_text : ℕ → List ℕ
numbered_text n = codes "cnf(" ++ line_name n ++ codes ", plain, "

abbrev pub inference_text : List Statement → List ℕ → Origin → List ℕ
inference_text statements sources o = codes ", inference(" ++ origin_word o ++ codes ", [], [" ++ parents_text statements sources o ++ codes "])).\n"

abbrev pub line_text : List (List ℕ) → List Statement → List ℕ → ℕ → Line → List ℕ
line_text names statements sources n l = numbered_text n ++ clause_text names l.clause.literals ++ inference_text statements sources l.origin

-- ---- the whole

abbrev pub is_conjecture : Statement → Bool
is_conjecture s = s.conjecture

-- a problem without a conjecture is said to be unsatisfiable
abbrev pub status_text : List Statement → List ℕ
status_text statements =
    if list_any is_conjecture statements then codes "% SZS status Theorem\n" else codes "% SZS status Unsatisfiable\n"

-- the line of the statement, or of the clause, with this number
abbrev pub statement_at : Problem → ℕ → List ℕ
statement_at p s = option_map_or (statement_text p.names) (slice_get p.statements s) []

abbrev pub line_at : Problem → List ℕ → List Line → ℕ → List ℕ
line_at p sources lines n = option_map_or (line_text p.names p.statements sources n) (slice_get lines n) []

-- the lines of the statements with these numbers, and of the clauses with those
abbrev pub proof_text : Problem → List ℕ → List Line → List ℕ → List ℕ → List ℕ
proof_text p sources lines cited used =
    status_text p.statements ++ codes "% SZS output start Proof\n" ++ flat_map (statement_at p) cited ++ flat_map (line_at p sources lines) used
    ++ codes "% SZS output end Proof\n"

-- the text has the lines of exactly the statements and clauses that are used, in the order of their numbers
pub record IsProofText (p : Problem) (sources : List ℕ) (lines : List Line) (text : List ℕ) : Type 0 where
  pub cited : List ℕ
  pub used : List ℕ
  pub cited_are : AreThose (IsCited sources lines) (length p.statements) cited
  pub used_are : AreThose (IsUsed lines) (length lines) used
  pub text_is : text ≡ proof_text p sources lines cited used
