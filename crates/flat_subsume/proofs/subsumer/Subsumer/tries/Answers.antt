use Rattle.std.proofs.Common.{◌≤◌, length, ap, subst, arith}
use Rattle.fo_terms.specs.Substitution.{var}
use Rattle.fo_cells.specs.declared.binds.Binds.{Nothing}
use Rattle.fo_cells.specs.Binds.{binds_of}
use Rattle.fo_cells.proofs.Binding.{any_agrees}
use Rattle.fo_infer.specs.Subsumption.{Subsumes}
use Rattle.fo_infer.proofs.Narrowing.{sends_all, all_sends}
use Rattle.flat_subsume.specs.inner.Covering.{Tells, Covers}
use Rattle.flat_subsume.proofs.Sending.{told_as}
use Rattle.flat_subsume.proofs.subsumer.Subsumer.tries.Goals as goal

pub covers-requires-clause-agree : goal.covers-requires-clause-agree
covers-requires-clause-agree c = (var, any_agrees var)

pub returns : goal.returns
returns c =
    let p = c.args.self.now in
    let d = c.args.d.now in
    let fewer : length p ≤ length d = omega (arith, c.if-len.false, c.len.ensures, c.len-2.ensures, ap length c.self.view_is) in
    told_as c.covers.result (Covers (binds_of Nothing) d p) (Subsumes (record { literals = p }) (record { literals = d }))
    (λ h. (fewer, (h.0, sends_all h.0 d p h.2)))
    (λ h. (h.1.0, any_agrees h.1.0, all_sends h.1.0 d p h.1.1))
    (subst (λ ls. Tells c.covers.result (Covers (binds_of Nothing) d ls)) c.self.view_is c.covers.ensures.told)
