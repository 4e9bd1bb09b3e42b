-- The number of a term's nodes, by its constructor.
use Rattle.std.proofs.Common.{◌≡◌, ℕ, ◌+◌}
use Rattle.hol_terms.specs.declared.ty.Ty.{Ty}
use Rattle.hol_terms.specs.declared.konst.Konst.{Konst}
use Rattle.hol_terms.specs.declared.term.Term.{Term}
use Rattle.hol_terms.specs.declared.term.Term.TheOpen.{Term-F}
use Rattle.hol_terms.specs.declared.term.Term.TheFolds.{fold-roll-Term}
use Rattle.kernel_rules.specs.Connectives.{constant, apply, lambda}
use Rattle.fin_model.specs.inner.Nodes.{nodes_step, nodes}

pub nodes-app : (f x : Term) → nodes (apply f x) ≡ nodes f + nodes x + 1
nodes-app f x = fold-roll-Term ℕ nodes_step (Term-F.App f x)

pub nodes-lam : (a : Ty) (b : Term) → nodes (lambda a b) ≡ nodes b + 1
nodes-lam a b = fold-roll-Term ℕ nodes_step (Term-F.Lam a b)

pub nodes-con : (k : Konst) → nodes (constant k) ≡ 1
nodes-con k = fold-roll-Term ℕ nodes_step (Term-F.Con k)
