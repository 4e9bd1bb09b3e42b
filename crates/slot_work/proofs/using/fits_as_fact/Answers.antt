use Rattle.hol_terms.specs.Formulas.{is_sentence}
use Rattle.goal_search.proofs.Pieces.{passes}
use Rattle.slot_work.proofs.using.fits_as_fact.Goals as goal

pub fits-requires : goal.fits-requires
fits-requires c =
    let e = c.args.env.now in passes (is_sentence e.sig) e.facts c.args.number c.at.result.now e.facts_are_sentences c.at.ensures
