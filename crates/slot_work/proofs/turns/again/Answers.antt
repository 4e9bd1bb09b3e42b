use Rattle.std.proofs.Common.{refl, sym, subst, arith}
use Rattle.fact_minimise.specs.Sublists.{IsSublist}
use Rattle.fact_minimise.specs.Minimal.{IsMinimal}
use Rattle.fact_minimise.proofs.Shorter.{sublist-sublist}
use Rattle.slot_work.specs.inner.Finding.{Finds}
use Rattle.slot_work.proofs.turns.again.Goals as goal

pub proof_outcome-requires-clause-sublist : goal.proof_outcome-requires-clause-sublist
proof_outcome-requires-clause-sublist c =
    subst (λ l. IsSublist l c.args.used) (sym c.kept.ensures) (sublist-sublist c.turn.ensures.sublist c.requires.stands.sublist)

pub proof_outcome-requires-clause-minimal : goal.proof_outcome-requires-clause-minimal
proof_outcome-requires-clause-minimal c =
    let s = c.args.slot.now in subst (λ l. IsMinimal (Finds s.env s.budget) l) (sym c.kept.ensures) (c.turn.ensures.done c.in-Done.is)

pub returns-in-More : goal.returns-in-More
returns-in-More c = (
  record {
    are_used = c.requires.stands.are_used;
    found = c.requires.stands.found;
    sublist = sublist-sublist c.turn.ensures.sublist c.requires.stands.sublist;
    sound = c.turn.ensures.sound;
  },
  refl,
  omega (arith, c.turn.ensures.fewer c.in-More.is),
)
