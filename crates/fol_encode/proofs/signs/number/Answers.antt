use Rattle.std.proofs.Common.{◌∙◌, sym}
use Rattle.fol_encode.proofs.Numbering.{positions, found, fresh}
use Rattle.fol_encode.proofs.signs.number.Goals as goal

pub returns-in-Some : goal.returns-in-Some
returns-in-Some c = λ s is.
    let signs = c.args.signs.now in
    (found signs.signs s c.in-Some.n (sym (positions signs.signs signs.keys s c.args.key.now.items signs.keyed is) ∙ sym c.place.ensures ∙ c.in-Some.is)).0

pub returns-in-None : goal.returns-in-None
returns-in-None c = λ s is.
    let signs = c.args.signs.now in
    c.len.ensures ∙ (fresh signs.signs s (sym (positions signs.signs signs.keys s c.args.key.now.items signs.keyed is) ∙ sym c.place.ensures ∙ c.in-None.is)).0
