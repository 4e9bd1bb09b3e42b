-- The clauses of facts and of a goal, over one table.
use Rattle.std.specs.Prelude.{ℕ, Bool, true, false, List, [], ◌++◌}
use Rattle.std.specs.List.{fold}
use Rattle.hol_terms.specs.declared.env.Env.{Env}
use Rattle.hol_terms.specs.declared.sig.Sig.{Sig}
use Rattle.hol_terms.specs.declared.term.Term.{Term}
use Rattle.hol_kernel.specs.Logs.{fact_at}
use Rattle.lambda_lift.specs.Lifting.{lifted}
use Rattle.formula_clauses.specs.Fits.{clausified}
use Rattle.goal_search.specs.declared.listing.Listing.{Listing}

abbrev pub nothing : Listing
nothing = record { clauses = []; table = [] }

-- the formula is lifted over the table, and its clauses stand behind those that are there
unfoldable pub with_formula : Sig → Bool → Listing → Term → Listing
with_formula sig goal l t =
    let w = clausified goal (lifted sig l.table t) in
    record { clauses = l.clauses ++ w.clauses; table = w.after.table }

abbrev pub with_fact : Env → Listing → ℕ → Listing
with_fact env l n = with_formula env.sig false l (fact_at env n)

-- the clauses of the facts in this order, and then of the goal
abbrev pub listed : Env → List ℕ → Listing
listed env facts = with_formula env.sig true (fold (with_fact env) nothing facts) env.goal
