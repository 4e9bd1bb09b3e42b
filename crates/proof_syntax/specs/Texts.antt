-- The one text of a proof.
use Rattle.std.specs.Prelude.{ℕ, ◌+◌, max, nat_le, Bool, true, List, [], ◌∷◌, ◌++◌, codes, decimal}
use Rattle.std.specs.List.{flat_map, list_all}
use Rattle.hol_terms.specs.declared.ty.Ty.{Ty}
use Rattle.hol_terms.specs.declared.ty.Ty.TheOpen.{Ty-F}
use Rattle.hol_terms.specs.declared.ty.Ty.TheFolds.{fold-Ty}
use Rattle.hol_terms.specs.declared.konst.Konst.{Konst}
use Rattle.hol_terms.specs.declared.konst.Konst.TheVariants as konst
use Rattle.hol_terms.specs.declared.term.Term.{Term}
use Rattle.hol_terms.specs.declared.term.Term.TheOpen.{Term-F}
use Rattle.hol_terms.specs.declared.term.Term.TheFolds.{fold-Term}
use Rattle.kernel_rules.specs.declared.step.Step.{Step}
use Rattle.theory_reader.specs.declared.theory.Theory.{Theory}
use Rattle.theory_reader.specs.Sound.{goal_names}
use Rattle.proof_syntax.specs.Names.{Names, names_of, name_in}
use Rattle.proof_syntax.specs.Forms.{Arg, FactArg, NumberArg, TypeArg, TermArg, form}
use Rattle.proof_syntax.specs.Grammar.{most}
use Rattle.proof_syntax.specs.Reading.{first_line}

abbrev pub type_step : Names → Ty-F (List ℕ) → List ℕ
type_step names (Ty-F.Base n) = name_in names.types n
type_step names (Ty-F.Arrow a b) = codes "(" ++ a ++ codes ">" ++ b ++ codes ")"

abbrev pub type_text : Names → Ty → List ℕ
type_text names = fold-Ty (List ℕ) (type_step names)

abbrev pub with_type : Names → List ℕ → Ty → List ℕ
with_type names word a = word ++ codes "[" ++ type_text names a ++ codes "]"

-- an auxiliary constant has no text
abbrev pub konst_text : Names → Konst → List ℕ
konst_text names (konst.Named n) = codes "." ++ name_in names.consts n
konst_text names (konst.Aux n) = []
konst_text names konst.True = codes "true"
konst_text names konst.False = codes "false"
konst_text names konst.Not = codes "not"
konst_text names konst.And = codes "and"
konst_text names konst.Or = codes "or"
konst_text names konst.Imp = codes "imp"
konst_text names (konst.Eq a) = with_type names (codes "eq") a
konst_text names (konst.All a) = with_type names (codes "all") a
konst_text names (konst.Ex a) = with_type names (codes "ex") a
konst_text names (konst.Eps a) = with_type names (codes "eps") a

abbrev pub term_step : Names → Term-F (List ℕ) → List ℕ
term_step names (Term-F.Bound n) = codes "#" ++ decimal n
term_step names (Term-F.Free n a) = codes "$" ++ decimal n ++ codes ":" ++ type_text names a
term_step names (Term-F.Con k) = konst_text names k
term_step names (Term-F.App f x) = codes "(" ++ f ++ codes " " ++ x ++ codes ")"
term_step names (Term-F.Lam a b) = codes "{" ++ type_text names a ++ codes "}" ++ b

abbrev pub term_text : Names → Term → List ℕ
term_text names = fold-Term (List ℕ) (term_step names)

abbrev pub arg_text : Names → Arg → List ℕ
arg_text names (FactArg n) = name_in names.facts n
arg_text names (NumberArg n) = decimal n
arg_text names (TypeArg a) = type_text names a
arg_text names (TermArg t) = term_text names t

-- a space and an argument, for each
abbrev pub args_text : Names → List Arg → List ℕ
args_text names args = flat_map (λ a. 32 ∷ arg_text names a) args

-- step number `n`
abbrev pub step_text : Names → ℕ → Step → List ℕ
step_text names n s = decimal n ++ codes " " ++ (form s).word ++ args_text names (form s).args ++ codes "\n"

-- the steps from number `n` on
abbrev pub steps_text : Names → ℕ → List Step → List ℕ
steps_text names n [] = []
steps_text names n (s ∷ more) = step_text names n s ++ steps_text names (n + 1) more

abbrev pub proof_text : Theory → ℕ → List Step → List ℕ
proof_text t goal steps =
    first_line ++ codes "goal " ++ name_in (goal_names t.goals) goal ++ codes "\n" ++ steps_text (names_of t goal) 0 steps ++ codes "end\n"

-- ---- how deep terms are nested

abbrev pub nesting_step : Term-F ℕ → ℕ
nesting_step (Term-F.App f x) = max f x + 1
nesting_step (Term-F.Lam a b) = b + 1
nesting_step _ = 0

-- the number of applications and lambdas in one another
abbrev pub nesting : Term → ℕ
nesting = fold-Term ℕ nesting_step

abbrev pub is_shallow_arg : Arg → Bool
is_shallow_arg (TermArg t) = nat_le (nesting t) most
is_shallow_arg _ = true

-- every term is nested at most 4,096 deep
abbrev pub is_shallow : List Step → Bool
is_shallow steps = list_all (λ s. list_all is_shallow_arg (form s).args) steps
