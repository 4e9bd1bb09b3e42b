use Rattle.std.proofs.Common.{sym, subst, Contains, arith}
use Rattle.metis_core.specs.Stock.{clauses}
use Rattle.metis_core.specs.Held.{state_of}
use Rattle.metis_core.proofs.Stocks.{subsumed_else}
use Rattle.metis_core.proofs.stock.is_soon_barred.Goals as goal

pub returns-clause-left : goal.returns-clause-left
returns-clause-left c = λ told barred.
    subsumed_else (state_of c.args.stock.now) (record { literals = c.args.c.now })
    (λ h. (let told = c.is_tautology.ensures in let not = c.if-is_tautology.false in cc))
    (omega (arith, c.weight.ensures, c.if-weight-gt-HEAVIEST.false))
    (λ h. (let wrong = c.if-is_flat_known.ensures.1 (subst (λ l. Contains (clauses l) (record { literals = c.args.c.now })) (sym c.as_slice.ensures) h) in cc))
    barred
