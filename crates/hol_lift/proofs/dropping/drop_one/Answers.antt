use Rattle.std.proofs.Common.{refl}
use Rattle.hol_kernel.proofs.Growing.{extends_refl}
use Rattle.hol_terms.proofs.Both.{true_or_false}
use Rattle.hol_lift.proofs.Identities.{refuted_identity, side_given, side_equal}
use Rattle.hol_lift.proofs.Drops.{drops_kept, drops_cut}
use Rattle.hol_lift.proofs.dropping.drop_one.Goals as goal

pub reflexivity-requires-clause-t : goal.reflexivity-requires-clause-t
reflexivity-requires-clause-t c = side_given c.args.log.now.env.sig c.args.l.now.atom c.left.result.now c.requires.atom (refuted_identity c.args.l.now (c.is_refuted.ensures.0 c.if-is_refuted.true)) c.left.ensures

pub reflexivity-requires-clause-th : goal.reflexivity-requires-clause-th
reflexivity-requires-clause-th c = c.requires.th

pub returns-then-is_refuted-clause-kept : goal.returns-then-is_refuted-clause-kept
returns-then-is_refuted-clause-kept c = c.reflexivity.ensures.kept

pub returns-then-is_refuted-clause-facts : goal.returns-then-is_refuted-clause-facts
returns-then-is_refuted-clause-facts c = c.reflexivity.ensures.facts

pub returns-then-is_refuted-clause-gives : goal.returns-then-is_refuted-clause-gives
returns-then-is_refuted-clause-gives c =
    drops_cut c.args.log.now c.reflexivity.new.log c.args.l.now c.args.th.0 _ c.reflexivity.result
    (side_equal c.args.log.now.env.sig c.args.l.now.atom c.left.result.now c.requires.atom (refuted_identity c.args.l.now (c.is_refuted.ensures.0 c.if-is_refuted.true)) c.left.ensures)
    c.reflexivity.ensures.gives

pub returns-else-is_refuted-clause-kept : goal.returns-else-is_refuted-clause-kept
returns-else-is_refuted-clause-kept c = extends_refl c.args.log.now

pub returns-else-is_refuted-clause-facts : goal.returns-else-is_refuted-clause-facts
returns-else-is_refuted-clause-facts c = refl

pub returns-else-is_refuted-clause-gives : goal.returns-else-is_refuted-clause-gives
returns-else-is_refuted-clause-gives c = drops_kept c.args.log.now c.args.l.now c.args.th.0 c.requires.th (λ r. true_or_false c.is_refuted.result (c.is_refuted.ensures.1 r) c.if-is_refuted.false)
