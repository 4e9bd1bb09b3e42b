use Rattle.std.proofs.Common.{refl, sym, subst, ◌∙◌}
use Rattle.std.specs.Prelude.{OnOk, ◌≡◌}
use Rattle.fo_terms.specs.declared.atom.Atom.TheVariants.{Holds}
use Rattle.fo_terms.specs.Normal.{is_refuted}
use Rattle.fo_cells.proofs.Literals.{kept_there, kept_new, holds_stays, made_holds}
use Rattle.fo_cells.proofs.flat.FlatClause.add_holds.Goals as goal

pub returns-then-holds-clause-ok : goal.returns-then-holds-clause-ok
returns-then-holds-clause-ok c = λ t is.
    kept_there c.args.self.now (record { positive = c.args.positive; atom = Holds t }) (is_refuted (record { positive = c.args.positive; atom = Holds t })) refl (sym c.if-holds.true ∙ c.holds.ensures (record { positive = c.args.positive; atom = Holds t }) (made_holds c.args.positive t c.args.term.now is))

pub put-requires : goal.put-requires
put-requires c =
    let t = c.requires.0 in
    ((record { positive = c.args.positive; atom = Holds t }), made_holds c.args.positive t c.args.term.now c.requires.1)

pub returns-clause-ok : goal.returns-clause-ok
returns-clause-ok c = λ t is.
    subst (λ ls. OnOk c.put.result (c.put.new.self ≡ ls))
    (kept_new c.args.self.now (record { positive = c.args.positive; atom = Holds t }) (holds_stays c.args.positive t) (sym c.if-holds.false ∙ c.holds.ensures (record { positive = c.args.positive; atom = Holds t }) (made_holds c.args.positive t c.args.term.now is)))
    (c.put.ensures.ok (record { positive = c.args.positive; atom = Holds t }) (made_holds c.args.positive t c.args.term.now is))
