use Rattle.std.proofs.Common.{◌+◌, ◌<◌, ◌≤◌, ◌∷◌, ◌++◌, length, map, drop, refl, sym, ap, subst, ◌∙◌, arith}
use Rattle.fo_terms.specs.Normal.{atom_terms}
use Rattle.fo_cells.specs.Binds.{binds_of}
use Rattle.fo_cells.specs.Cells.{joined, cells_of}
use Rattle.fo_cells.proofs.Binding.{agrees_new, more_agrees, more_binds}
use Rattle.fo_cells.proofs.Lists.{some_at}
use Rattle.fo_cells.proofs.Literals.{differ_apart, differ_same}
use Rattle.fo_cells.proofs.Rows.{never, empty_test, some_test, first_of, split, row_of}
use Rattle.flat_subsume.specs.inner.Covering.{Tells, GoesOn}
use Rattle.flat_subsume.proofs.Sending.{all_sent, found, none_found, other_kind, by_terms, not_end, at_end, at_symbol, no_symbol, at_variable, no_term, held_other, held_same, held_new}
use Rattle.flat_subsume.proofs.covering.+covering.Goals as goal

pub covers-returns-then-k-len-clause-told : goal.covers-returns-then-k-len-clause-told
covers-returns-then-k-len-clause-told t c =
    let over : length c.args.c.now ≤ c.args.k = omega (arith, c.len.ensures, c.if-k-len.true) in
    (λ yes. all_sent (binds_of c.args.binds.now) c.args.c.now c.args.k c.args.d.now over c.requires.agree.0 c.requires.agree.1, λ h. refl)

pub covers-returns-then-branch-clause-told : goal.covers-returns-then-branch-clause-told
covers-returns-then-branch-clause-told t c =
    let l = some_at c.args.c.now c.args.k (omega (arith, c.len.ensures, c.if-k-len.false)) in
    let m = some_at c.args.d.now c.loop-j.j (omega (arith, c.len-j-end.ensures, c.loop-j-test.true)) in
    (λ yes. found (binds_of c.args.binds.now) c.args.c.now c.args.k c.args.d.now c.loop-j.j l.0 m.0 l.1 m.1 ((c.in_ok-covers_by.ensures.told l.0 m.0 l.1 m.1).0 c.if-branch.true), λ h. refl)

pub covers-returns-clause-told : goal.covers-returns-clause-told
covers-returns-clause-told t c =
    let within : c.args.k < length c.args.c.now = omega (arith, c.len.ensures, c.if-k-len.false) in
    let over : length c.args.d.now ≤ c.loop-j.j = omega (arith, c.len-j-end.ensures, c.loop-j-test.false) in
    (λ no. never no, λ h. absurd (none_found (binds_of c.args.binds.now) c.args.c.now c.args.k c.args.d.now c.loop-j.j within over c.loop-j.invariant.none h))

pub covers_by-returns-then-is_equation-clause-told : goal.covers_by-returns-then-is_equation-clause-told
covers_by-returns-then-is_equation-clause-told t c = λ l m here there. (
  λ no. never no,
  λ h. absurd (other_kind (binds_of c.args.binds.now) c.args.d.now (drop (c.args.k + 1) c.args.c.now) l m
      (λ e. differ_apart c.is_equation.result c.is_equation-2.result c.if-is_equation.true (c.is_equation.ensures l here ∙ e ∙ sym (c.is_equation-2.ensures m there))) h),
)

pub covers_by-goes_on-requires : goal.covers_by-goes_on-requires
covers_by-goes_on-requires t c =
    let m = some_at c.args.d.now c.args.j c.requires.within in
    (omega (arith, c.decreases), (c.requires.place, ((atom_terms m.0.atom, row_of m.0.atom ∙ sym (c.atom-2.ensures m.0 m.1)), c.requires.agree)))

pub covers_by-returns-clause-told : goal.covers_by-returns-clause-told
covers_by-returns-clause-told t c = λ l m here there.
    by_terms c.goes_on.result (binds_of c.args.binds.now) c.args.d.now (drop (c.args.k + 1) c.args.c.now) l m
    (sym (c.is_positive.ensures l here) ∙ differ_same c.is_positive.result c.is_positive-2.result c.if-is_positive.false ∙ c.is_positive-2.ensures m there)
    (sym (c.is_equation.ensures l here) ∙ differ_same c.is_equation.result c.is_equation-2.result c.if-is_equation.false ∙ c.is_equation-2.ensures m there)
    (c.goes_on.ensures.told (atom_terms l.atom) (atom_terms m.atom) (row_of l.atom ∙ sym (c.atom.ensures l here)) (row_of m.atom ∙ sym (c.atom-2.ensures m there)))

pub binds_on-returns-then-is_empty-clause-told : goal.binds_on-returns-then-is_empty-clause-told
binds_on-returns-then-is_empty-clause-told t c = λ ps ts left right. (
  λ no. never no,
  λ h. absurd (no_term (binds_of c.args.binds.now) c.args.d.now (drop (c.args.k + 1) c.args.c.now) c.args.x ps ts
      (right ∙ empty_test c.args.right.now c.is_empty.result c.is_empty.ensures c.if-is_empty.true) h),
)

pub binds_on-split_term-requires : goal.binds_on-split_term-requires
binds_on-split_term-requires t c =
    let first = first_of c.requires.row.0 c.args.right.now c.requires.row.1 (some_test c.args.right.now c.is_empty.result c.is_empty.ensures c.if-is_empty.false) in
    (first.0, joined (map cells_of first.1), first.3)

pub binds_on-goes_on-requires : goal.binds_on-goes_on-requires
binds_on-goes_on-requires t c =
    let first = first_of c.requires.row.0 c.args.right.now c.requires.row.1 (some_test c.args.right.now c.is_empty.result c.is_empty.ensures c.if-is_empty.false) in
    let parts = c.split_term.ensures first.0 (joined (map cells_of first.1)) first.3 in
    (omega (arith, c.decreases), (c.requires.place, ((first.1, sym parts.1), c.requires.agree)))

pub binds_on-goes_on-requires-in-None : goal.binds_on-goes_on-requires-in-None
binds_on-goes_on-requires-in-None t c =
    let first = first_of c.requires.row.0 c.args.right.now c.requires.row.1 (some_test c.args.right.now c.is_empty.result c.is_empty.ensures c.if-is_empty.false) in
    let parts = c.split_term.ensures first.0 (joined (map cells_of first.1)) first.3 in (
      omega (arith, c.decreases),
      (
        c.requires.place,
        (
          (first.1, sym parts.1),
          more_agrees c.args.x c.split_term.result.0 c.args.binds (agrees_new c.requires.agree.0 c.args.x first.0 c.split_term.result.0.now (binds_of c.args.binds.now) c.in-None.ensures c.requires.agree.1 parts.0),
        ),
      ),
    )

pub binds_on-returns-then-not-same_cells-clause-told : goal.binds_on-returns-then-not-same_cells-clause-told
binds_on-returns-then-not-same_cells-clause-told t c = λ ps ts left right.
    let first = first_of ts c.args.right.now right (some_test c.args.right.now c.is_empty.result c.is_empty.ensures c.if-is_empty.false) in
    let parts = c.split_term.ensures first.0 (joined (map cells_of first.1)) first.3 in (
      λ no. never no,
      λ h. absurd (held_other (binds_of c.args.binds.now) c.args.d.now (drop (c.args.k + 1) c.args.c.now) c.args.x ps ts first.1 first.0 first.2 c.in-Some.held.now c.in-Some.ensures
          (λ e. never (sym c.if-not-same_cells.true ∙ c.same_cells.ensures.1 (e ∙ sym parts.0))) h),
    )

pub binds_on-returns-else-not-same_cells-clause-told : goal.binds_on-returns-else-not-same_cells-clause-told
binds_on-returns-else-not-same_cells-clause-told t c = λ ps ts left right.
    let first = first_of ts c.args.right.now right (some_test c.args.right.now c.is_empty.result c.is_empty.ensures c.if-is_empty.false) in
    let parts = c.split_term.ensures first.0 (joined (map cells_of first.1)) first.3 in
    held_same (binds_of c.args.binds.now) c.args.d.now (drop (c.args.k + 1) c.args.c.now) c.args.x ps ts first.1 first.0 first.2 c.goes_on.result c.in-Some.held.now c.in-Some.ensures
    (c.same_cells.ensures.0 c.if-not-same_cells.false ∙ parts.0) (c.goes_on.ensures.told ps first.1 left (sym parts.1))

pub binds_on-returns-in-None-clause-told : goal.binds_on-returns-in-None-clause-told
binds_on-returns-in-None-clause-told t c = λ ps ts left right.
    let first = first_of ts c.args.right.now right (some_test c.args.right.now c.is_empty.result c.is_empty.ensures c.if-is_empty.false) in
    let parts = c.split_term.ensures first.0 (joined (map cells_of first.1)) first.3 in
    held_new (binds_of c.args.binds.now) c.args.d.now (drop (c.args.k + 1) c.args.c.now) c.args.x ps ts first.1 first.0 first.2 c.goes_on-in-None.result c.split_term.result.0.now parts.0
    (subst (λ bs. Tells c.goes_on-in-None.result (GoesOn bs c.args.d.now (drop (c.args.k + 1) c.args.c.now) ps first.1)) (more_binds c.args.x c.split_term.result.0 c.args.binds)
    (c.goes_on-in-None.ensures.told ps first.1 left (sym parts.1)))

pub goes_on-returns-then-not-is_empty-clause-told : goal.goes_on-returns-then-not-is_empty-clause-told
goes_on-returns-then-not-is_empty-clause-told t c = λ ps ts left right. (
  λ no. never no,
  λ h. absurd (not_end (binds_of c.args.binds.now) c.args.d.now (drop (c.args.k + 1) c.args.c.now) ps ts c.args.right.now (left ∙ c.in-None.ensures) right
      (some_test c.args.right.now c.is_empty.result c.is_empty.ensures c.if-not-is_empty.true) h),
)

pub goes_on-goes_on-requires : goal.goes_on-goes_on-requires
goes_on-goes_on-requires t c =
    let parts = split c.requires.row.0 c.in-Some-Fun-default.arity c.in-Some.ensures.0 c.in-Some-Fun-default.symbol c.in-Some.rest.now (c.requires.row.1 ∙ sym c.in-Some.ensures.1) in
    (omega (arith, c.decreases, c.if-steps-eq0.false), (c.requires.place, ((parts.0 ++ parts.1, parts.4), c.requires.agree)))

pub goes_on-returns-else-not-is_empty-clause-told : goal.goes_on-returns-else-not-is_empty-clause-told
goes_on-returns-else-not-is_empty-clause-told t c = λ ps ts left right.
    at_end c.covers.result (binds_of c.args.binds.now) c.args.d.now (drop (c.args.k + 1) c.args.c.now) ps ts (left ∙ c.in-None.ensures)
    (right ∙ empty_test c.args.right.now c.is_empty.result c.is_empty.ensures c.if-not-is_empty.false) c.covers.ensures.told

pub goes_on-returns-in-Some-clause-told : goal.goes_on-returns-in-Some-clause-told
goes_on-returns-in-Some-clause-told t c = λ ps ts left right.
    at_symbol c.goes_on.result (binds_of c.args.binds.now) c.args.d.now (drop (c.args.k + 1) c.args.c.now) ps ts
    c.in-Some-Fun-default.arity c.in-Some-Fun-default.symbol c.in-Some-Fun-default.field-0-0-1 c.in-Some.ensures.0
    c.args.left.now c.args.right.now c.in-Some-Fun-default.behind.now c.in-Some.rest.now left right
    (sym c.in-Some-Fun-default.ensures ∙ ap (λ k. k ∷ c.in-Some-Fun-default.behind.now) c.in-Some-Fun-default.field-0-0-is) c.in-Some.ensures.1
    c.goes_on.ensures.told

pub goes_on-returns-in-None-after_symbol-clause-told : goal.goes_on-returns-in-None-after_symbol-clause-told
goes_on-returns-in-None-after_symbol-clause-told t c = λ ps ts left right. (
  λ no. never no,
  λ h. absurd (no_symbol (binds_of c.args.binds.now) c.args.d.now (drop (c.args.k + 1) c.args.c.now) ps ts c.in-Some-Fun-default.arity c.in-Some-Fun-default.symbol c.in-Some-Fun-default.field-0-0-1
      c.args.left.now c.args.right.now c.in-Some-Fun-default.behind.now left right
      (sym c.in-Some-Fun-default.ensures ∙ ap (λ k. k ∷ c.in-Some-Fun-default.behind.now) c.in-Some-Fun-default.field-0-0-is) c.in-None-after_symbol.ensures h),
)

pub goes_on-returns-in-Some-Var-default-clause-told : goal.goes_on-returns-in-Some-Var-default-clause-told
goes_on-returns-in-Some-Var-default-clause-told t c = λ ps ts left right.
    at_variable c.binds_on.result (binds_of c.args.binds.now) c.args.d.now (drop (c.args.k + 1) c.args.c.now) ps ts c.in-Some-Var-default.x c.args.left.now c.in-Some-Var-default.behind.now left
    (sym c.in-Some-Var-default.ensures ∙ ap (λ k. k ∷ c.in-Some-Var-default.behind.now) c.in-Some-Var-default.field-0-0-is)
    (λ qs row. c.binds_on.ensures.told qs ts row right)
