-- A lifted formula with its clauses, over the table behind them.
use Rattle.std.specs.Prelude.{◌≡◌, ◌<◌, Bool, not, List}
use Rattle.hol_terms.specs.declared.sig.Sig.{Sig}
use Rattle.hol_terms.specs.declared.term.Term.{Term}
use Rattle.hol_terms.specs.Formulas.{IsSentence}
use Rattle.hyp_sets.specs.Sets.{TermSet, only}
use Rattle.hol_kernel.specs.Logs.{Logged}
use Rattle.lambda_lift.specs.declared.table.Aux.{Aux}
use Rattle.lambda_lift.specs.Tables.{expand}
use Rattle.lambda_lift.specs.Standing.{Each, StandsAlone}
use Rattle.hol_clausify.specs.inner.LiftedOver.{whole_of}
use Rattle.formula_clauses.specs.declared.clausifying.LiftedClauses.{LiftedClauses}
use Rattle.formula_clauses.specs.Walks.{Clauses}
use Rattle.formula_clauses.specs.Clausified.{IsLiftedClauses}
use Rattle.hol_clausify.specs.declared.source.Source.{Source}
use Rattle.hol_clausify.specs.Sources.{IsSource, literals_of}
use Rattle.hol_clausify.specs.Shown.{shown}
use Rattle.hol_clausify.specs.inner.Refuting.{placed, AllRefuted}

-- it is that of a sentence over some table whose entries stand alone
pub record IsMade (sig : Sig) (goal : Bool) (made : LiftedClauses) (table : List Aux) : Type 0 where
  pub has_bool : 0 < sig.types
  pub old : List Aux
  pub old_alone : Each (StandsAlone sig) old
  pub formula : Term
  pub sentence : IsSentence sig formula
  pub is : IsLiftedClauses sig old formula goal made table

-- the lifted formula with its equations, expanded, which holds where it is a fact, and fails where it is a goal
abbrev pub whole_placed : Bool → LiftedClauses → List Aux → Term
whole_placed goal made table = placed (not goal) (expand table (whole_of goal made.lifted))

-- the clauses with theorems that rest on this base
pub record AreMade (log : Logged) (base : TermSet) (made : LiftedClauses) (table : List Aux) (ss : List Source) : Type 0 where
  pub literals : literals_of ss ≡ made.clauses
  pub sources : Each (IsSource log base table) ss
