-- The statements of a problem.
use Rattle.std.specs.Prelude.{ℕ, Bool, true, false, List, [], ◌∷◌, ◌++◌, codes, map, nat_eq}
use Rattle.std.specs.List.{position_or_len}
use Rattle.std.specs.Cmp.Lexicographic.{pointwise}
use Rattle.hol_terms.specs.declared.ty.Ty.{Ty}
use Rattle.hol_terms.specs.declared.sig.Sig.{Sig}
use Rattle.hol_terms.specs.declared.term.Term.{Term}
use Rattle.hol_formulas.specs.declared.formula.Formula.{Formula}
use Rattle.hol_formulas.specs.Formulas.{formula_of}
use Rattle.lambda_lift.specs.declared.table.Aux.{Aux}
use Rattle.lambda_lift.specs.Lifting.{lifted}
use Rattle.lambda_lift.specs.Wholes.{whole}
use Rattle.theory_terms.specs.declared.decl.Decl.{Decl}
use Rattle.theory_reader.specs.declared.statement.Fact.{Fact}
use Rattle.theory_reader.specs.declared.statement.Goal.{Goal}
use Rattle.tptp_syntax.specs.declared.problem.Problem.{Problem}
use Rattle.tptp_syntax.specs.declared.problem.Statement.{Statement}
use Rattle.problem_laws.specs.Formulas.{formula_named}

-- a formula with its equations, and the table of its auxiliary constants
pub record Item : Type 0 where
  pub name : List ℕ
  pub conjecture : Bool
  pub table : List Aux
  pub formula : Formula

abbrev pub item : Sig → Bool → List ℕ → Term → List Aux → Item
item sig goal name t table =
    let o = lifted sig table t in record { name = name; conjecture = goal; table = o.table; formula = formula_of (whole goal o) }

abbrev pub fact_item : Sig → Fact → List Aux → Item
fact_item sig f table = item sig false (codes "f_" ++ f.name) f.formula table

-- facts and then the goal, each lifted over the table that the ones before it leave
abbrev pub items : Sig → Goal → List Fact → List Aux → List Item
items sig g [] table = item sig true (codes "goal") g.formula table ∷ []
items sig g (f ∷ fs) table = let i = fact_item sig f table in i ∷ items sig g fs i.table

-- the number of a name: its place
abbrev pub place_of : List (List ℕ) → List ℕ → ℕ
place_of names w = position_or_len (pointwise nat_eq w) names

abbrev pub statement_of : List (List ℕ) → List Ty → List Decl → Item → Statement
statement_of names types consts i =
    record { name = i.name; conjecture = i.conjecture; formula = formula_named (place_of names) types consts i.table i.formula [] }

-- the statements over symbols with these names
abbrev pub problem_over : List (List ℕ) → List Ty → List Decl → List Item → Problem
problem_over names types consts is = record { names = names; statements = map (statement_of names types consts) is }
