use Rattle.std.proofs.Common.{sym, subst, Contains, arith}
use Rattle.metis_core.specs.Stock.{clauses}
use Rattle.metis_core.specs.Held.{state_of}
use Rattle.metis_core.specs.Offer.{known}
use Rattle.metis_core.proofs.Stocks.{known_else}
use Rattle.metis_core.proofs.stock.is_barred.Goals as goal

pub returns : goal.returns
returns c = (
  λ h. known (subst (λ l. Contains (clauses l) c.args.c.now) c.as_slice.ensures (c.is_known.ensures.0 h)),
  λ barred. c.is_known.ensures.1 (subst (λ l. Contains (clauses l) c.args.c.now) (sym c.as_slice.ensures) (known_else (state_of c.args.stock.now) c.args.c.now
      (λ h. (let told = c.is_tautology.ensures in let not = c.if-is_tautology.false in cc))
      (omega (arith, c.weight.ensures, c.if-weight-gt-HEAVIEST.false))
      c.requires.idle barred)),
)
