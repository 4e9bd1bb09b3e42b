use Rattle.std.proofs.Common.{sym, ap, ◌∙◌}
use Rattle.std.specs.Prelude.{not}
use Rattle.std.proofs.lemmas.List.{append-nil}
use Rattle.fo_terms.specs.Same.{is_literal}
use Rattle.fo_terms.specs.Normal.{complement}
use Rattle.fo_cells.proofs.Lists.{any_same}
use Rattle.fo_cells.proofs.Literals.{literal_other}
use Rattle.fo_cells.proofs.flat.FlatClause.is_opposed.Goals as goal

pub returns : goal.returns
returns c = λ l there.
    c.holds.ensures (complement l) (record {
      sign = ap not (sym (c.is_positive-positive.ensures l there));
      kind = sym (c.is_equation-equation.ensures l there);
      cells_are = sym (c.atom-cells.ensures l there) ∙ sym (append-nil c.atom-cells.result.now);
    })
    ∙ any_same (λ m. is_literal m (complement l)) (is_literal (complement l)) c.args.self.now (λ m. literal_other m (complement l))
