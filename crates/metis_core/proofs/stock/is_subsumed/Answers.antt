use Rattle.std.proofs.Common.{◌≡◌, ◌≤◌, length, get_or, Some, slice_get, sym, below_more, arith, refl, ◌<◌}
use Rattle.std.proofs.lemmas.List.{get_or_default}
use Rattle.std.proofs.lemmas.Option.{slice_get-get_or}
use Rattle.fo_terms.specs.declared.clause.Clause.{Clause}
use Rattle.fo_infer.specs.Subsumption.{Subsumes}
use Rattle.metis_core.specs.Stock.{clauses}
use Rattle.metis_core.proofs.Stocks.{none_among, held_as_many}
use Rattle.metis_core.proofs.Parted.{rest_below}
use Rattle.metis_core.proofs.stock.is_subsumed.Goals as goal

pub loop-k-preserved : goal.loop-k-preserved
loop-k-preserved c =
    let lines = c.args.stock.now.lines in
    below_more (λ j. (p : Clause) → slice_get (clauses lines) (get_or c.args.stock.now.rest j 0) ≡ Some p → Subsumes p (record { literals = c.args.c.now }) → ⊥) c.loop-k.k c.loop-k.invariant
    (λ p at sub. let wrong = (c.in_ok-is_subsumed_at.ensures p at).1 sub in cc)

pub returns : goal.returns
returns c =
    let past : length c.args.stock.now.rest ≤ c.loop-k.k = omega arith in
    (λ h. cc, λ found. absurd (none_among c.args.stock.now (record { literals = c.args.c.now }) c.loop-k.k past c.loop-k.invariant found.0 found.1 found.2))

pub returns-then-branch : goal.returns-then-branch
returns-then-branch c = (
  λ told.
      let lines = c.args.stock.now.lines in
      let rest = c.args.stock.now.rest in
      let k = c.loop-k.k in
      let n = get_or rest k 0 in
      let within : k < length rest = omega arith in
      let inside : n < length (clauses lines) = (let few = rest_below c.args.stock.now.lines c.args.stock.now.active rest c.args.stock.now.units (λ m. m < length c.args.stock.now.lines) c.requires.parted c.requires.active k 0 within in let many = held_as_many lines in omega arith) in
      let there = slice_get-get_or (clauses lines) n (record { literals = c.args.c.now }) inside in
      let p = get_or (clauses lines) n (record { literals = c.args.c.now }) in
      (p, (n, (k, within, sym (get_or_default rest k 0 n within)), there), (c.in_ok-is_subsumed_at.ensures p there).0 c.if-branch.true),
  λ found. refl,
)
