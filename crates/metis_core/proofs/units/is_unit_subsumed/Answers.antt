use Rattle.std.proofs.Common.{◌↔◌, IsTrue, sym, subst}
use Rattle.metis_core.specs.Units.{SubsumesSome}
use Rattle.metis_core.proofs.units.is_unit_subsumed.Goals as goal

pub returns-in-Some : goal.returns-in-Some
returns-in-Some c = subst (λ u. IsTrue c.subsumes.result ↔ SubsumesSome u c.args.c.now) (sym c.in-Some.is) c.subsumes.ensures
