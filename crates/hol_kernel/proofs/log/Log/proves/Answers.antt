use Rattle.std.proofs.Common.{◌≡◌, ◌↔◌, IsTrue, Some, subst}
use Rattle.std.specs.FinSet as set
use Rattle.kernel_rules.specs.Rules.{seq}
use Rattle.kernel_rules.specs.Derivations.{Proves, last_of}
use Rattle.hol_kernel.proofs.Ending.{told_by_proof}
use Rattle.hol_kernel.proofs.log.Log.proves.Goals as goal

pub returns-clause-last : goal.returns-clause-last
returns-clause-last c = subst (λ l. IsTrue c.ends_in.result ↔ (last_of l.sequents ≡ Some (seq set.empty l.env.goal))) c.self.view_is c.ends_in.ensures

pub returns-clause-proof : goal.returns-clause-proof
returns-clause-proof c =
    subst (λ l. IsTrue c.ends_in.result ↔ Proves l.env l.steps) c.self.view_is (told_by_proof c.ends_in.result c.self.inside.env.now c.self.inside.steps c.self.inside.sequents c.self.invariant c.ends_in.ensures)
