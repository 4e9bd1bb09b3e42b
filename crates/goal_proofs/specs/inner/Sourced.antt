-- Clauses with their theorems in a log.
use Rattle.std.specs.Prelude.{◌≡◌, ℕ, List, [], ◌∷◌, ◌++◌, map}
use Rattle.hol_terms.specs.declared.env.Env.{Env}
use Rattle.hol_terms.specs.declared.literal.TypedLiteral.{TypedLiteral}
use Rattle.hyp_sets.specs.Sets.{TermSet, only, Among}
use Rattle.kernel_rules.specs.declared.step.ThmId.{ThmId}
use Rattle.kernel_rules.specs.Connectives.{falsum, neg}
use Rattle.hol_kernel.specs.Logs.{Logged, IsThm, thm}
use Rattle.lambda_lift.specs.declared.table.Aux.{Aux}
use Rattle.lambda_lift.specs.Standing.{Each, StandsAlone}
use Rattle.formula_clauses.specs.Walks.{Clauses}
use Rattle.hol_clausify.specs.declared.source.Source.{Source}
use Rattle.hol_clausify.specs.Sources.{IsSource, literals_of}
use Rattle.hol_clausify.specs.Typed.{IsTypedClause}
use Rattle.goal_search.specs.declared.listing.Listing.{Listing}
use Rattle.goal_proofs.specs.declared.sourcing.Sourced.{Sourced}

-- each clause has its theorem, in order
abbrev pub HaveTheorems : Logged → TermSet → List Aux → Clauses → List ThmId → Type 0
HaveTheorems log base table [] [] = Unit {0}
HaveTheorems log base table [] (t ∷ ts) = ⊥
HaveTheorems log base table (c ∷ cs) [] = ⊥
HaveTheorems log base table (c ∷ cs) (t ∷ ts) = IsSource log base table (record { literals = c; thm = t }) × HaveTheorems log base table cs ts

-- the clauses are typed over a table whose entries stand alone, and their theorems rest on the negated goal at most
pub record AreSourced (log : Logged) (s : Sourced) : Type 0 where
  pub alone : Each (StandsAlone log.env.sig) s.listing.table
  pub typed : Each (IsTypedClause log.env.sig s.listing.table) s.listing.clauses
  pub theorems : HaveTheorems log (only (neg log.env.goal)) s.listing.table s.listing.clauses s.thms

-- theorem `r` concludes `false`, and rests on the negated goal at most
pub record Refutes (log : Logged) (r : ℕ) : Type 0 where
  pub is_thm : IsThm log r
  pub concl : (thm log r).concl ≡ falsum
  pub hyps : Among (thm log r).hyps (only (neg log.env.goal))

-- sources behind clauses with their theorems, over the table behind them
abbrev pub more_sourced : Clauses → List ThmId → List Aux → List Source → Sourced
more_sourced clauses thms table ss =
    record { listing = record { clauses = clauses ++ literals_of ss; table = table }; thms = thms ++ map (λ s. s.thm) ss }
