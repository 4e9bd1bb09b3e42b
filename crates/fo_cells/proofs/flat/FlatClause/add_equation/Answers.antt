use Rattle.std.proofs.Common.{refl, sym, subst, ◌∙◌}
use Rattle.std.specs.Prelude.{OnOk, ◌≡◌}
use Rattle.fo_terms.specs.declared.atom.Atom.TheVariants.{Eq}
use Rattle.fo_terms.specs.Normal.{is_refuted}
use Rattle.fo_cells.proofs.Literals.{kept_refuted, kept_there, kept_new, made_equation}
use Rattle.fo_cells.proofs.flat.FlatClause.add_equation.Goals as goal

pub returns-then-is_refuted-clause-ok : goal.returns-then-is_refuted-clause-ok
returns-then-is_refuted-clause-ok c = λ s t left right.
    kept_refuted c.args.self.now (record { positive = c.args.positive; atom = Eq s t }) (sym c.if-is_refuted.true ∙ c.is_refuted.ensures s t left right)

pub returns-then-holds-clause-ok : goal.returns-then-holds-clause-ok
returns-then-holds-clause-ok c = λ s t left right.
    kept_there c.args.self.now (record { positive = c.args.positive; atom = Eq s t }) (is_refuted (record { positive = c.args.positive; atom = Eq s t })) refl (sym c.if-holds.true ∙ c.holds.ensures (record { positive = c.args.positive; atom = Eq s t }) (made_equation c.args.positive s t c.args.left.now c.args.right.now left right))

pub put-requires : goal.put-requires
put-requires c =
    let s = c.requires.left.0 in
    let t = c.requires.right.0 in
    ((record { positive = c.args.positive; atom = Eq s t }), made_equation c.args.positive s t c.args.left.now c.args.right.now c.requires.left.1 c.requires.right.1)

pub returns-clause-ok : goal.returns-clause-ok
returns-clause-ok c = λ s t left right.
    subst (λ ls. OnOk c.put.result (c.put.new.self ≡ ls))
    (kept_new c.args.self.now (record { positive = c.args.positive; atom = Eq s t }) (sym c.if-is_refuted.false ∙ c.is_refuted.ensures s t left right)
    (sym c.if-holds.false ∙ c.holds.ensures (record { positive = c.args.positive; atom = Eq s t }) (made_equation c.args.positive s t c.args.left.now c.args.right.now left right)))
    (c.put.ensures.ok (record { positive = c.args.positive; atom = Eq s t }) (made_equation c.args.positive s t c.args.left.now c.args.right.now left right))
