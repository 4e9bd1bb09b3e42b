-- The clauses of a sentence are typed over the table behind them.
use Rattle.std.proofs.Common.{◌≡◌, ℕ, ◌<◌, ◌++◌, Bool, not, IsTrue, List, [], ap, subst, refl, sym, ◌∙◌, Some, append_assoc}
use Rattle.hol_terms.specs.declared.sig.Sig.{Sig}
use Rattle.hol_terms.specs.declared.term.Term.{Term}
use Rattle.hol_terms.specs.Formulas.{IsSentence}
use Rattle.hol_terms.specs.Typing.{type_in}
use Rattle.lambda_lift.specs.declared.table.Aux.{Aux}
use Rattle.lambda_lift.specs.Standing.{Each, StandsAlone, Stands as LiftStands, over}
use Rattle.lambda_lift.specs.Lifting.{lifted}
use Rattle.lambda_lift.specs.Wholes.{whole}
use Rattle.lambda_lift.proofs.Standings.{lifted_stand}
use Rattle.hol_formulas.specs.declared.formula.Formula.{Formula}
use Rattle.hol_formulas.specs.Formulas.{formula_of}
use Rattle.formula_clauses.specs.Walks.{Progress, walked}
use Rattle.formula_clauses.specs.Fits.{at_start, clausified}
use Rattle.hol_clausify.specs.Places.{term_of, IsRead}
use Rattle.hol_clausify.specs.Typed.{WalksTyped, ClausesAreTyped}
use Rattle.hol_clausify.specs.Shown.{Stands, Fits}
use Rattle.hol_clausify.proofs.Reading.{reads_back}
use Rattle.hol_clausify.proofs.Growing.{walk_grows}
use Rattle.hol_clausify.proofs.Standing.{table_closed}
use Rattle.hol_clausify.proofs.ChosenTyped.{bare_alone}
use Rattle.hol_clausify.proofs.LiftedPlain.{whole_plain}
use Rattle.hol_clausify.proofs.Wholes.{whole_over}
use Rattle.hol_clausify.proofs.WalkTyped.{At, Placed, Goes, walks_typed}

pub whole_read : (w : Term) → IsRead (formula_of w)
whole_read w = ap formula_of (sym (reads_back w))

module _ (sig : Sig) (old : List Aux) (t : Term) (goal : Bool) (has_bool : 0 < sig.types) (alone : Each (StandsAlone sig) old) (sentence : IsSentence sig t) where
  pub lift_stands : LiftStands sig old t
  lift_stands = lifted_stand sig has_bool old t alone sentence

  abbrev w : Term
  w = whole goal (lifted sig old t)

  abbrev table : List Aux
  table = (lifted sig old t).table

  pub starts : Stands [] (at_start table) []
  starts = record {
    count = refl;
    closed_table = table_closed sig table lift_stands.entries;
    bare_table = bare_alone sig table lift_stands.entries;
    closed = λ i x h. cc;
    known = λ i x h. cc;
    numbered = λ i x h. cc;
  }

  pub whole_fits : Fits (at_start table) [] (term_of (formula_of w))
  whole_fits =
      let st = whole_over sig old t goal lift_stands in
      subst (Fits (at_start table) []) (sym (reads_back w)) (record { closed = st.closed; known = st.known; bare = st.without_free })

  at_first : At sig has_bool [] (at_start table) [] []
  at_first = record { stands = starts; alone = lift_stands.entries; fits = λ i x h. cc; scoped = tt; plain = λ i x h. cc }

  placed : Placed sig has_bool (formula_of w) (at_start table) [] []
  placed = record {
    fits = whole_fits;
    typed = ap (λ z. type_in (over sig table) z []) (reads_back w) ∙ (whole_over sig old t goal lift_stands).typed;
    plain = whole_plain sig old t goal lift_stands;
  }

  pub goes : Goes sig has_bool [] [] [] (walked (formula_of w) (not goal) []) (at_start table)
  goes = walks_typed sig has_bool (formula_of w) (not goal) [] [] [] (at_start table) (whole_read w) at_first placed

  pub clauses_typed : WalksTyped sig old (clausified goal (lifted sig old t))
  clauses_typed =
      let grown = walk_grows (formula_of w) (not goal) [] (at_start table) in
      record {
        more = lift_stands.more ++ grown.more;
        grown = grown.is ∙ ap (λ z. z ++ grown.more) lift_stands.grown ∙ append_assoc old lift_stands.more grown.more;
        alone = goes.at.alone;
        typed = λ i c at. record { types = goes.more; atoms = goes.clauses i c at };
      }

pub clauses_are_typed : (sig : Sig) (old : List Aux) (t : Term) (goal : Bool) → ClausesAreTyped sig old t goal
clauses_are_typed sig old t goal has_bool alone sentence = clauses_typed sig old t goal has_bool alone sentence
