use Rattle.std.proofs.Common.{IsTrue, false, sym, ap, subst, ◌∙◌}
use Rattle.hol_terms.specs.Formulas.{is_sentence}
use Rattle.formula_clauses.specs.Fits.{fits}
use Rattle.goal_search.specs.Inputs.{with_formula}
use Rattle.goal_search.specs.Fitting.{fits_at}
use Rattle.goal_search.proofs.Pieces.{made_map, passes, fact_is, fits_is}
use Rattle.goal_search.proofs.listing.with_fact.Goals as goal

pub with_formula-requires : goal.with_formula-requires
with_formula-requires c =
    let e = c.args.env.now in passes (is_sentence e.sig) e.facts c.args.fact c.in-Some.t.now e.facts_are_sentences (sym c.in-Some.ensures.value)

pub returns-in-Some : goal.returns-in-Some
returns-in-Some c =
    let e = c.args.env.now in
    let at = sym c.in-Some.ensures.value in
    made_map _ (IsTrue (fits_at e c.args.fact)) _ c.with_formula.result (subst IsTrue (sym (fits_is e c.args.fact c.in-Some.t.now at))) (subst IsTrue (fits_is e c.args.fact c.in-Some.t.now at)) _
    (λ l h. h ∙ ap (with_formula e.sig false c.args.listing) (sym (fact_is e c.args.fact c.in-Some.t.now at))) c.with_formula.ensures
