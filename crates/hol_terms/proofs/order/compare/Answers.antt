use Rattle.std.proofs.Common.{◌∙◌, sym, subst, ◌≡◌}
use Rattle.std.specs.declared.cmp.Ordering.TheVariants.{Equal}
use Rattle.std.specs.Cmp.{tied_itself}
use Rattle.hol_terms.specs.Order.{term_cmp}
use Rattle.hol_terms.proofs.TermOrders.{apart, total}
use Rattle.hol_terms.proofs.order.compare.Goals as goal

pub returns-clause-same : goal.returns-clause-same
returns-clause-same c =
    (λ e. apart c.args.s.now c.args.t.now (sym c.ordered.ensures ∙ e), λ e. c.ordered.ensures ∙ subst (λ t. term_cmp c.args.s.now t ≡ Equal) e (tied_itself total c.args.s.now))
