use Rattle.std.proofs.Common.{◌++◌, false, length, map, get_or, refl, sym, ap, ◌∙◌, arith}
use Rattle.fo_cells.specs.Cells.{joined, cells_of}
use Rattle.unit_tree.specs.declared.token.Token.TheVariants.{Head}
use Rattle.fo_cells.specs.Binds.{binds_of}
use Rattle.fo_cells.proofs.Binding.{agrees_new, more_agrees}
use Rattle.fo_cells.proofs.Rows.{never, empty_test, some_test, split, first_of}
use Rattle.unit_tree.proofs.Follows.{item_leads, found_by, none_more, from_edges}
use Rattle.unit_tree.proofs.Steps.{no_term, no_head, at_end, at_symbol, no_symbol, at_variable, held_other, held_same, held_new, more_from}
use Rattle.unit_tree.proofs.following.+following.Goals as goal

pub goes_on-follows-requires : goal.goes_on-follows-requires
goes_on-follows-requires t c =
    let leads = item_leads c.args.nodes.now c.args.at c.edges_of-edge-items.result.now c.loop-edge.edge-index (record { token = Head false false; to = 0 }) c.edges_of-edge-items.ensures c.loop-edge-test.true in
    let edge = get_or c.edges_of-edge-items.result.now c.loop-edge.edge-index (record { token = Head false false; to = 0 }) in (
      omega (arith, c.decreases, c.requires.tree.later c.args.at edge.to edge.token leads, c.requires.within),
      (c.requires.tree, (c.requires.tree.within c.args.at edge.to edge.token leads, (c.requires.row, c.requires.agree))),
    )

pub goes_on-returns-then-follows : goal.goes_on-returns-then-follows
goes_on-returns-then-follows t c = λ ts row.
    (λ h. found_by c.args.nodes.now c.args.at c.edges_of-edge-items.result.now c.loop-edge.edge-index (record { token = Head false false; to = 0 }) c.edges_of-edge-items.ensures c.loop-edge-test.true (binds_of c.args.binds.now) ts ((c.follows.ensures ts row).0 c.if-follows.true), λ h. refl)

pub goes_on-loop-edge-preserved : goal.goes_on-loop-edge-preserved
goes_on-loop-edge-preserved t c =
    none_more c.args.nodes.now c.args.at c.edges_of-edge-items.result.now c.loop-edge.edge-index (record { token = Head false false; to = 0 }) c.edges_of-edge-items.ensures c.loop-edge-test.true c.args.cells.now c.args.binds.now c.follows.result c.loop-edge.invariant c.follows.ensures c.if-follows.false

pub goes_on-returns : goal.goes_on-returns
goes_on-returns t c = λ ts row.
    (λ h. never h, λ h. absurd (from_edges c.args.nodes.now c.args.at c.loop-edge.edge-index c.args.cells.now c.args.binds.now ts (omega (arith, ap length c.edges_of-edge-items.ensures, c.loop-edge-test.false)) c.loop-edge.invariant row h))

pub follows-returns-in-Head : goal.follows-returns-in-Head
follows-returns-in-Head t c = λ ts row. (λ h. never h, λ h. absurd (no_head c.args.nodes.now c.args.edge.now (binds_of c.args.binds.now) ts c.in-Head.positive c.in-Head.equation c.in-Head.is h))

pub follows-returns-in-End : goal.follows-returns-in-End
follows-returns-in-End t c = λ ts row.
    at_end c.args.nodes.now c.args.edge.now (binds_of c.args.binds.now) ts c.args.cells.now c.is_empty.result c.in-End.is row c.requires.agree.0 c.requires.agree.1 c.is_empty.ensures

pub follows-goes_on-requires : goal.follows-goes_on-requires
follows-goes_on-requires t c =
    let parts = split c.requires.row.0 c.in-Symbol.arity c.in-Some.ensures.0 c.in-Symbol.symbol c.in-Some.rest.now (c.requires.row.1 ∙ sym c.in-Some.ensures.1) in
    (omega (arith, c.decreases), (c.requires.tree, (c.requires.within, ((parts.0 ++ parts.1, parts.4), c.requires.agree))))

pub follows-returns-in-Some : goal.follows-returns-in-Some
follows-returns-in-Some t c = λ ts row.
    at_symbol c.args.nodes.now c.args.edge.now (binds_of c.args.binds.now) ts c.in-Symbol.arity c.in-Some.ensures.0 c.in-Symbol.symbol c.args.cells.now c.in-Some.rest.now c.goes_on.result c.in-Symbol.is row
    c.in-Some.ensures.1 c.goes_on.ensures

pub follows-returns-in-None : goal.follows-returns-in-None
follows-returns-in-None t c = λ ts row.
    (λ h. never h, λ h. absurd (no_symbol c.args.nodes.now c.args.edge.now (binds_of c.args.binds.now) ts c.in-Symbol.arity c.in-Symbol.symbol c.args.cells.now c.in-Symbol.is row c.in-None.ensures h))

pub follows-binds_on-requires : goal.follows-binds_on-requires
follows-binds_on-requires t c = (omega (arith, c.decreases), (c.requires.tree, (c.requires.within, (c.requires.row, c.requires.agree))))

pub follows-returns-in-Variable : goal.follows-returns-in-Variable
follows-returns-in-Variable t c = λ ts row.
    at_variable c.args.nodes.now c.args.edge.now (binds_of c.args.binds.now) c.in-Variable.x ts c.binds_on.result c.in-Variable.is (c.binds_on.ensures ts row)

pub binds_on-returns-then-is_empty : goal.binds_on-returns-then-is_empty
binds_on-returns-then-is_empty t c = λ ts row.
    (λ h. never h, λ h. absurd (no_term c.args.nodes.now c.args.at c.args.x (binds_of c.args.binds.now) ts (row ∙ empty_test c.args.cells.now c.is_empty.result c.is_empty.ensures c.if-is_empty.true) h))

pub binds_on-split_term-requires : goal.binds_on-split_term-requires
binds_on-split_term-requires t c =
    let row = c.requires.row.1 in
    let ts = c.requires.row.0 in
    let first = first_of ts c.args.cells.now row (some_test c.args.cells.now c.is_empty.result c.is_empty.ensures c.if-is_empty.false) in
    (first.0, joined (map cells_of first.1), first.3)

pub binds_on-goes_on-requires : goal.binds_on-goes_on-requires
binds_on-goes_on-requires t c =
    let row = c.requires.row.1 in
    let ts = c.requires.row.0 in
    let first = first_of ts c.args.cells.now row (some_test c.args.cells.now c.is_empty.result c.is_empty.ensures c.if-is_empty.false) in
    let parts = c.split_term.ensures first.0 (joined (map cells_of first.1)) first.3 in
    (omega (arith, c.decreases, c.requires.within), (c.requires.tree, (c.requires.within, ((first.1, sym parts.1), c.requires.agree))))

pub binds_on-goes_on-requires-in-None : goal.binds_on-goes_on-requires-in-None
binds_on-goes_on-requires-in-None t c =
    let row = c.requires.row.1 in
    let ts = c.requires.row.0 in
    let first = first_of ts c.args.cells.now row (some_test c.args.cells.now c.is_empty.result c.is_empty.ensures c.if-is_empty.false) in
    let parts = c.split_term.ensures first.0 (joined (map cells_of first.1)) first.3 in (
      omega (arith, c.decreases, c.requires.within),
      (
        c.requires.tree,
        (
          c.requires.within,
          (
            (first.1, sym parts.1),
            more_agrees c.args.x c.split_term.result.0 c.args.binds (agrees_new c.requires.agree.0 c.args.x first.0 c.split_term.result.0.now (binds_of c.args.binds.now) c.in-None.ensures c.requires.agree.1 parts.0),
          ),
        ),
      ),
    )

pub binds_on-returns-then-not-same_cells : goal.binds_on-returns-then-not-same_cells
binds_on-returns-then-not-same_cells t c = λ ts row.
    let first = first_of ts c.args.cells.now row (some_test c.args.cells.now c.is_empty.result c.is_empty.ensures c.if-is_empty.false) in
    let parts = c.split_term.ensures first.0 (joined (map cells_of first.1)) first.3 in (
      λ h. never h,
      λ h. absurd (held_other c.args.nodes.now c.args.at c.args.x (binds_of c.args.binds.now) first.0 ts first.1 first.2 c.in-Some.held.now c.in-Some.ensures
          (λ e. never (sym c.if-not-same_cells.true ∙ c.same_cells.ensures.1 (e ∙ sym parts.0))) h),
    )

pub binds_on-returns-else-not-same_cells : goal.binds_on-returns-else-not-same_cells
binds_on-returns-else-not-same_cells t c = λ ts row.
    let first = first_of ts c.args.cells.now row (some_test c.args.cells.now c.is_empty.result c.is_empty.ensures c.if-is_empty.false) in
    let parts = c.split_term.ensures first.0 (joined (map cells_of first.1)) first.3 in
    held_same c.args.nodes.now c.args.at c.args.x (binds_of c.args.binds.now) first.0 ts first.1 first.2 c.in-Some.held.now c.goes_on.result c.in-Some.ensures
    (c.same_cells.ensures.0 c.if-not-same_cells.false ∙ parts.0) (c.goes_on.ensures first.1 (sym parts.1))

pub binds_on-returns-in-None : goal.binds_on-returns-in-None
binds_on-returns-in-None t c = λ ts row.
    let first = first_of ts c.args.cells.now row (some_test c.args.cells.now c.is_empty.result c.is_empty.ensures c.if-is_empty.false) in
    let parts = c.split_term.ensures first.0 (joined (map cells_of first.1)) first.3 in
    held_new c.args.nodes.now c.args.at c.args.x (binds_of c.args.binds.now) first.0 ts first.1 first.2 c.split_term.result.0.now c.goes_on-in-None.result parts.0
    (more_from c.args.nodes.now c.args.at c.args.x c.split_term.result.0 c.args.binds first.1 c.goes_on-in-None.result (c.goes_on-in-None.ensures first.1 (sym parts.1)))
