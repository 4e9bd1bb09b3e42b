use Rattle.std.proofs.Common.{◌∙◌, ◌++◌, ◌∷◌, [], sym, ap}
use Rattle.fol_encode.proofs.Gathering.{ok_so}
use Rattle.fol_encode.proofs.Numbering.{positions, found, fresh}
use Rattle.fol_encode.proofs.signs.put.Goals as goal

pub returns-in-Some-clause-signs : goal.returns-in-Some-clause-signs
returns-in-Some-clause-signs c =
    (found c.args.signs.now c.args.s.now c.in-Some.field-0
    (sym (positions c.args.signs.now c.args.keys.now c.args.s.now c.in_ok-key.key.items c.requires.keyed c.in_ok-key.ensures) ∙ sym c.place.ensures ∙ c.in-Some.is)).1

pub returns-in_ok-push-in-None-2-clause-signs : goal.returns-in_ok-push-in-None-2-clause-signs
returns-in_ok-push-in-None-2-clause-signs c =
    ok_so c.add.result
    (c.in_ok-push-in-None-2.ensures.ok ∙ ap (λ s. c.args.signs.now ++ s ∷ []) c.in_ok-copy_sign-in-None.ensures
    ∙ (fresh c.args.signs.now c.args.s.now
    (sym (positions c.args.signs.now c.args.keys.now c.args.s.now c.in_ok-key.key.items c.requires.keyed c.in_ok-key.ensures) ∙ sym c.place.ensures ∙ c.in-None.is)).1)
