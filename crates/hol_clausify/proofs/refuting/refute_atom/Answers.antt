use Rattle.hyp_sets.specs.Sets.{only}
use Rattle.hyp_sets.proofs.Answered.{if_ok_map}
use Rattle.hol_kernel.proofs.Making.{err_free}
use Rattle.hol_clausify.specs.inner.Refuting.{placed}
use Rattle.hol_clausify.proofs.Leaves.{atom_one, atom_refuted}
use Rattle.hol_clausify.proofs.refuting.refute_atom.Goals as goal

pub atom-requires : goal.atom-requires
atom-requires c = record { a = c.requires }

pub returns-in_err-th-clause-kept : goal.returns-in_err-th-clause-kept
returns-in_err-th-clause-kept c = c.atom.ensures.kept

pub returns-in_err-th-clause-facts : goal.returns-in_err-th-clause-facts
returns-in_err-th-clause-facts c = c.atom.ensures.facts

pub returns-in_err-th-clause-gives : goal.returns-in_err-th-clause-gives
returns-in_err-th-clause-gives c = err_free c.from_residual.result _ c.from_residual.ensures.0

pub returns-clause-kept : goal.returns-clause-kept
returns-clause-kept c = c.atom.ensures.kept

pub returns-clause-facts : goal.returns-clause-facts
returns-clause-facts c = c.atom.ensures.facts

pub returns-clause-gives : goal.returns-clause-gives
returns-clause-gives c =
    let log = c.atom.new.log in
    let s = c.args.positive in
    let t = c.args.t.now in
    if_ok_map c.one.result _ _ (λ r h. atom_one log (only (placed s t)) c.args.next r s t c.in_ok-th.th (atom_refuted log s t c.in_ok-th.th.0 c.in_ok-th.ensures.gives) h) c.one.ensures
