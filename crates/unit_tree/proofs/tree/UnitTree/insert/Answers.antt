use Rattle.std.proofs.Common.{◌≡◌, ℕ, ◌⊎◌, [], subst}
use Rattle.unit_tree.specs.declared.token.Token.TheVariants.{Head}
use Rattle.unit_tree.specs.Tree.{Holds, Reached, onto}
use Rattle.unit_tree.proofs.Putting.{new_word, held_by, held_now, on_ok, whole_of}
use Rattle.unit_tree.proofs.tree.UnitTree.insert.Goals as goal

pub returns-clause-adds : goal.returns-clause-adds
returns-clause-adds c = λ l m there h.
    subst (λ k. Holds k m ⊎ (m ≡ l)) c.self.view_is
    (held_by c.self.inside.nodes.items c.put_word.new.nodes.items (whole_of (Head c.is_positive.result c.is_equation.result) c.atom.result.now) l m (new_word c.is_positive.result c.is_equation.result c.atom.result.now l (c.is_positive.ensures l there) (c.is_equation.ensures l there) (c.atom.ensures l there)) c.put_word.ensures.grows h)

pub returns-clause-ok : goal.returns-clause-ok
returns-clause-ok c = λ l there.
    on_ok c.put_word.result ((n : ℕ) × Reached c.put_word.new.nodes.items (onto (whole_of (Head c.is_positive.result c.is_equation.result) c.atom.result.now) []) n) (Holds c.put_word.new.nodes.items l)
    (held_now c.put_word.new.nodes.items (whole_of (Head c.is_positive.result c.is_equation.result) c.atom.result.now) l (new_word c.is_positive.result c.is_equation.result c.atom.result.now l (c.is_positive.ensures l there) (c.is_equation.ensures l there) (c.atom.ensures l there))) c.put_word.ensures.ok
