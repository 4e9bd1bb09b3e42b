use Rattle.std.proofs.Common.{◌∙◌, sym, subst, ap, map, length}
use Rattle.lambda_lift.specs.Keys.{key}
use Rattle.lambda_lift.specs.Tables.{closed_terms}
use Rattle.lambda_lift.specs.inner.Places.{IsNew}
use Rattle.lambda_lift.proofs.Looking.{appended, next_place}
use Rattle.lambda_lift.proofs.table.Table.append.Goals as goal
use Rattle.lambda_lift.proofs.table.Table.append.Goals.{in-Ok, in-Err}

pub invariant_of-self-in-Ok : goal.invariant_of-self-in-Ok
invariant_of-self-in-Ok c =
    let new : IsNew c.self.inside.entries c.args.entry.closed = subst (λ table. IsNew table c.args.entry.closed) (sym c.self.view_is) c.requires.new in
    ap (map (λ v. v.items)) c.in-Ok.ensures.keys
    ∙ appended (λ v. v.items) c.self.inside.keys.keys c.self.inside.entries c.self.invariant c.args.key c.args.entry.closed c.requires.key c.args.entry.ty new
    ∙ sym (ap (λ table. map key (closed_terms table)) c.in_ok-push.ensures.ok)

pub returns-clause-number : goal.returns-clause-number
returns-clause-number c =
    elim c.match-insert.branch [
      | in-Ok w ↦ rw w.result-is (c.len-number.ensures ∙ ap length c.self.view_is ∙ next_place c.args.self.now c.args.entry.closed c.requires.new)
      | in-Err w ↦ rw w.result-is tt
    ]
