-- The text of a problem: a line for each chosen fact, and one for the goal.
use Rattle.std.specs.Prelude.{ℕ, Bool, true, false, List, [], ◌∷◌, ◌++◌, codes, map, slice_get, unwrap_or}
use Rattle.std.specs.Option.{option_map_or}
use Rattle.hol_terms.specs.declared.konst.Konst.TheVariants as konst
use Rattle.hol_terms.specs.declared.sig.Sig.{Sig}
use Rattle.hol_terms.specs.declared.term.Term.{Term, roll-Term}
use Rattle.hol_terms.specs.declared.term.Term.TheOpen.{Term-F}
use Rattle.hol_formulas.specs.Formulas.{formula_of}
use Rattle.lambda_lift.specs.Lifting.{lifted}
use Rattle.lambda_lift.specs.Wholes.{whole}
use Rattle.theory_terms.specs.declared.decl.Decl.{Decl}
use Rattle.theory_terms.specs.Signature.{sig_of}
use Rattle.theory_reader.specs.declared.statement.Fact.{Fact}
use Rattle.theory_reader.specs.declared.statement.Goal.{Goal}
use Rattle.theory_reader.specs.declared.theory.Theory.{Theory}
use Rattle.theory_reader.specs.Declarations.{known}
use Rattle.theory_reader.specs.Seen.{seen, declarations}
use Rattle.tptp_print.specs.declared.problem.Draft.{Draft}
use Rattle.tptp_print.specs.Pages.{blank, word, pieces}
use Rattle.tptp_print.specs.Formulas.{formula_text}

abbrev pub role : Bool → List ℕ
role false = codes ", axiom, "
role true = codes ", conjecture, "

-- a statement of this name, behind the others, whose table it goes on with: its formula is lifted, and its equations stand with it
abbrev pub statement : Sig → List Decl → Bool → List ℕ → Term → Draft → Draft
statement sig consts goal name formula d =
    let o = lifted sig d.table formula in
    record {
      table = o.table;
      page = pieces (word (codes "fof(") ∷ word name ∷ word (role goal) ∷ formula_text consts o.table (formula_of (whole goal o)) [] ∷ word (codes ").\n") ∷ []) d.page;
    }

abbrev pub fact_statement : Sig → List Decl → Fact → Draft → Draft
fact_statement sig consts f = statement sig consts false (codes "f_" ++ f.name) f.formula

abbrev pub fact_statements : Sig → List Decl → List Fact → Draft → Draft
fact_statements sig consts [] d = d
fact_statements sig consts (f ∷ fs) d = fact_statements sig consts fs (fact_statement sig consts f d)

abbrev pub goal_statement : Sig → List Decl → Goal → Draft → Draft
goal_statement sig consts g = statement sig consts true (codes "goal") g.formula

-- the facts of these numbers in a list of facts
abbrev pub no_fact : Fact
no_fact = record { name = []; formula = roll-Term (Term-F.Con konst.True) }

abbrev pub fact_at : List Fact → ℕ → Fact
fact_at facts n = unwrap_or (slice_get facts n) no_fact

abbrev pub chosen : List Fact → List ℕ → List Fact
chosen facts numbers = map (fact_at facts) numbers

-- one table and one numbering of types serve the whole text
abbrev pub whole_draft : Theory → List ℕ → List Fact → Goal → Draft
whole_draft t numbers facts g =
    let sig = sig_of (known (declarations t)) in
    goal_statement sig t.consts g (fact_statements sig t.consts (chosen facts numbers) (record { table = []; page = blank }))

-- the text for the goal with this number and the facts of these numbers among those that it is proved from; none where there is no such goal
abbrev pub problem_text : Theory → ℕ → List ℕ → List ℕ
problem_text t goal numbers = option_map_or (λ g. (whole_draft t numbers (seen t goal) g).page.bytes) (slice_get t.goals goal) []
