use Rattle.std.proofs.Common.{◌≡◌, List, ◌++◌, map, sym, ap, subst, ◌∙◌}
use Rattle.std.specs.Prelude.{MatchOption}
use Rattle.fo_cells.specs.declared.cell.Cell.{Cell}
use Rattle.fo_cells.specs.Cells.{cells_of, joined, symbol_cells}
use Rattle.fo_cells.proofs.Terms.{cells_fun}
use Rattle.fo_cells.proofs.Reading.{behind_more, not_behind}
use Rattle.fo_cells.proofs.trees.+reading.Goals as goal

pub behind-returns-in-Fun : goal.behind-returns-in-Fun
behind-returns-in-Fun t c =
    subst (λ front. MatchOption c.behind_symbol.result ((rest : List Cell) → front ++ rest ≡ c.args.cells.now → ⊥) (λ rest. front ++ rest.now ≡ c.args.cells.now))
    (ap (λ l. symbol_cells c.in-Fun.f (map cells_of l)) c.as_slice.ensures ∙ sym (cells_fun c.in-Fun.f c.in-Fun.args) ∙ ap cells_of (sym c.in-Fun.is)) c.behind_symbol.ensures

pub behind_all-returns-in_err-rest : goal.behind_all-returns-in_err-rest
behind_all-returns-in_err-rest t c =
    subst (λ o. MatchOption o ((rest : List Cell) → joined (map cells_of c.args.terms.now) ++ rest ≡ c.args.cells.now → ⊥) (λ rest. joined (map cells_of c.args.terms.now) ++ rest.now ≡ c.args.cells.now))
    (sym c.from_residual.ensures)
    (not_behind c.args.terms.now c.loop-t.t-index c.t-item.result c.args.cells.now c.loop-t.rest.now c.loop-t-test.true c.t-item.is c.loop-t.invariant c.in_err-rest.ensures)

pub behind_all-loop-t-preserved : goal.behind_all-loop-t-preserved
behind_all-loop-t-preserved t c = behind_more c.args.terms.now c.loop-t.t-index c.t-item.result c.args.cells.now c.loop-t.rest.now c.in_ok-rest.rest.now c.loop-t-test.true c.t-item.is c.loop-t.invariant c.in_ok-rest.ensures
