use Rattle.std.proofs.Common.{subst}
use Rattle.fact_minimise.specs.Sublists.{IsSublist}
use Rattle.slot_work.proofs.Finding.{is_proof, if_ok_three}
use Rattle.slot_work.proofs.proving.minimal_proof.Goals as goal

pub returns : goal.returns
returns c =
    if_ok_three c.proven.result _ _ _ _
    (λ p names proves leaves. is_proof c.args.env.now c.args.facts.now c.args.budget c.in_ok-kept.kept p (subst (IsSublist c.in_ok-kept.kept) c.in_ok-copy.ensures c.in_ok-kept.ensures.sublist) c.in_ok-kept.ensures.minimal
    names proves leaves)
    c.proven.ensures.names c.proven.ensures.proves c.proven.ensures.leaves
