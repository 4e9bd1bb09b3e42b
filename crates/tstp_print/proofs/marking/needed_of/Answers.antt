use Rattle.std.proofs.Common.{◌≡◌, ◌<◌, ◌∙◌, length, ap, arith}
use Rattle.std.specs.List.{filter}
use Rattle.tstp_print.specs.Names.{below}
use Rattle.tstp_print.specs.inner.Marking.{is_marked}
use Rattle.tstp_print.proofs.Citing.{tells}
use Rattle.tstp_print.proofs.marking.needed_of.Goals as goal

pub returns-clause-statements : goal.returns-clause-statements
returns-clause-statements c =
    let cited = c.in_ok-cited.cited in
    let count : length cited ≡ c.args.statements = c.in_ok-cited.ensures.count in
    record {
      test = is_marked cited;
      passes = λ s within. tells c.args.sources.now c.args.lines.now c.in_ok-used.used cited c.in_ok-used.ensures c.in_ok-cited.ensures.marks s (omega arith);
      are = c.in_ok-marked_places.ensures ∙ ap (λ k. filter (is_marked cited) (below k)) count;
    }
