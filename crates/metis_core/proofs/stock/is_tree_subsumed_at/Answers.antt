use Rattle.std.proofs.Common.{◌≡◌, ◌↔◌, ◌<◌, length, IsTrue, slice_get, subst, sym, ap, ◌∙◌}
use Rattle.std.proofs.lemmas.Option.{get_or_from_slice_get}
use Rattle.fo_terms.specs.declared.clause.Clause.{Clause}
use Rattle.fo_infer.specs.Subsumption.{Subsumes}
use Rattle.metis_core.specs.Stock.{clauses}
use Rattle.metis_core.proofs.Indexes.{clause_at, some_same}
use Rattle.metis_core.proofs.Parted.{rest_below}
use Rattle.metis_core.proofs.stock.is_tree_subsumed_at.Goals as goal

pub at-requires : goal.at-requires
at-requires c =
    subst (λ n. n < length c.args.stock.now.lines) (get_or_from_slice_get c.args.stock.now.rest c.args.k c.at-n.result.now 0 c.at-n.ensures) (rest_below c.args.stock.now.lines c.args.stock.now.active c.args.stock.now.rest c.args.stock.now.units (λ m. m < length c.args.stock.now.lines) c.requires.sound.parted c.requires.sound.active c.args.k 0 c.requires.place)

pub returns : goal.returns
returns c = λ p at.
    let lines = c.args.stock.now.lines in
    let d : Clause = record { literals = c.args.c.now } in
    let tree : c.in_ok-tree.tree ≡ d = λ k. record { literals = c.in_ok-tree.ensures k } in
    let same : p ≡ c.at.result.now.clause = some_same p c.at.result.now.clause
    (sym at ∙ ap (slice_get (clauses lines)) (get_or_from_slice_get c.args.stock.now.rest c.args.k c.at-n.result.now 0 c.at-n.ensures) ∙ clause_at lines c.at-n.result.now c.at.result.now c.at.ensures) in
    subst (λ q. IsTrue c.in_ok-made.made ↔ Subsumes q d) (sym same) (subst (λ e. IsTrue c.in_ok-made.made ↔ Subsumes c.at.result.now.clause e) tree c.in_ok-made.ensures)
