use Rattle.std.proofs.Common.{length, sym, ap, ◌∙◌, arith, ◌≤◌}
use Rattle.theory_terms.specs.Answers.{Good}
use Rattle.theory_reader.specs.inner.Stages.{so_far}
use Rattle.theory_reader.proofs.Joined.{all_read}
use Rattle.theory_reader.proofs.Sound.{theory_sound}
use Rattle.theory_reader.proofs.reader.by_statements.Goals as goal

pub whole-requires : goal.whole-requires
whole-requires c =
    let text = c.args.text.now in
    let done = c.in_ok-parts.ensures in
    let le : length text ≤ length text = omega arith in
    theory_sound text done.items (so_far c.in_ok-parts.parts) (all_read text (length text) done.items le done.read) done.declared

pub returns : goal.returns
returns c =
    let text = c.args.text.now in
    let done = c.in_ok-parts.ensures in
    let le : length text ≤ length text = omega arith in
    record { items = done.items; read = all_read text (length text) done.items le done.read; declared = done.declared ∙ ap Good (sym c.in_ok-whole.ensures) }
