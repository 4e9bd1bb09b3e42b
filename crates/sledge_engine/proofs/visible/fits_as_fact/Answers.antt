use Rattle.std.proofs.Common.{◌≡◌, ◌∙◌, ap, false, sym}
use Rattle.std.specs.Option.{option_map_or}
use Rattle.hol_terms.specs.Formulas.{is_sentence}
use Rattle.formula_clauses.specs.Fits.{fits}
use Rattle.sledge_engine.specs.inner.Visible.{fits_at}
use Rattle.slot_work.proofs.Few.{passes}
use Rattle.sledge_engine.proofs.Replying.{if_ok_map}
use Rattle.sledge_engine.proofs.visible.fits_as_fact.Goals as goal

pub fits-requires : goal.fits-requires
fits-requires c =
    let e = c.args.env.now in
    passes (is_sentence e.sig) e.facts c.args.number c.at.result.now e.facts_are_sentences c.at.ensures

pub returns : goal.returns
returns c =
    let e = c.args.env.now in
    let same = sym (ap (λ o. option_map_or (λ t. fits e.sig t false) o false) c.at.ensures) in
    if_ok_map c.fits.result (λ b. b ≡ fits e.sig c.at.result.now false) (λ b. b ≡ fits_at e c.args.number) (λ b h. h ∙ same) c.fits.ensures
