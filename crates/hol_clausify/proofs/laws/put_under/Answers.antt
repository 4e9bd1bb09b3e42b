use Rattle.std.proofs.Common.{◌≡◌, ◌+◌, length, subst, arith, IsTrue}
use Rattle.hol_terms.specs.Substitution.{closed_under}
use Rattle.hol_clausify.proofs.Scopes.{under_scope}
use Rattle.hol_clausify.proofs.laws.put_under.Goals as goal

pub returns : goal.returns
returns c = λ closed value body.
    let more : length c.args.scope.now + 1 ≡ length c.args.scope.now + 1 + 0 = omega arith in
    under_scope c.args.scope.now c.args.value.now closed value c.args.body.now 0 (subst (λ d. IsTrue (closed_under c.args.body.now d)) more body)
