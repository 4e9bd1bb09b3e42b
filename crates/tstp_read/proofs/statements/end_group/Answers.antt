use Rattle.std.proofs.Common.{◌∙◌, ap, sym, Some}
use Rattle.tstp_read.specs.inner.Machine.{ended, last_of}
use Rattle.tstp_read.proofs.Walk.{last_of-push}
use Rattle.tstp_read.proofs.statements.end_group.Goals as goal

pub returns-in_ok-close_group-in-Some : goal.returns-in_ok-close_group-in-Some
returns-in_ok-close_group-in-Some c =
    ap (λ gs. ended c.args.reader.now (last_of gs)) c.in-Some.ensures
    ∙ ap (ended c.args.reader.now) (last_of-push c.pop.new.self c.in-Some.outer)
    ∙ ap Some (sym c.in_ok-close_group-in-Some.ensures)
