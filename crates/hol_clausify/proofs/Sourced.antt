-- Clauses with theorems are sources.
use Rattle.std.proofs.Common.{◌≡◌, ℕ, zero, suc, ◌<◌, Bool, true, false, not, List, [], ◌∷◌, ◌++◌, map, length, slice_get, ap, subst, refl, sym, ◌∙◌, Some, IsTrue}
use Rattle.std.proofs.lemmas.List.{append-nil}
use Rattle.hol_terms.specs.declared.sig.Sig.{Sig}
use Rattle.hol_terms.specs.declared.term.Term.{Term}
use Rattle.hol_terms.specs.declared.literal.TypedLiteral.{TypedLiteral}
use Rattle.hol_terms.specs.Types.{bool_ty}
use Rattle.hol_terms.specs.Substitution.{is_closed}
use Rattle.hol_terms.specs.Formulas.{IsFormula}
use Rattle.hol_terms.proofs.Formulas.{formula_from}
use Rattle.hyp_sets.specs.Sets.{TermSet, only, Among}
use Rattle.kernel_rules.specs.declared.step.ThmId.{ThmId}
use Rattle.hol_kernel.specs.Logs.{Logged, thm}
use Rattle.hol_clauses.specs.Literals.{allowed}
use Rattle.lambda_lift.specs.declared.table.Aux.{Aux}
use Rattle.lambda_lift.specs.Tables.{expand}
use Rattle.lambda_lift.specs.Lifting.{Outcome, lifted}
use Rattle.lambda_lift.specs.Wholes.{with_equations, whole}
use Rattle.lambda_lift.specs.Standing.{Each, StandsAlone, Stands as LiftStands}
use Rattle.lambda_lift.proofs.Expansions.{Grows}
use Rattle.lambda_lift.proofs.Standings.{each_first}
use Rattle.hol_clausify.specs.inner.LiftedOver.{IsLifted, whole_of}
use Rattle.hol_formulas.specs.Formulas.{formula_of}
use Rattle.hol_formulas.specs.declared.formula.Formula.{Formula}
use Rattle.formula_clauses.specs.Choices.{put_in}
use Rattle.formula_clauses.specs.declared.clausifying.LiftedClauses.{LiftedClauses}
use Rattle.formula_clauses.specs.Walks.{Clauses, Walked, walked}
use Rattle.formula_clauses.specs.Fits.{at_start, clausified}
use Rattle.hol_clausify.specs.declared.source.Source.{Source}
use Rattle.hol_clausify.specs.Places.{term_of}
use Rattle.hol_clausify.specs.Typed.{WalksTyped}
use Rattle.hol_clausify.specs.Sources.{IsSource, literals_of, meaning}
use Rattle.hol_clausify.specs.Shown.{shown, shown_literal, told}
use Rattle.hol_clausify.specs.Refutations.{Refuted, refuted}
use Rattle.hol_clausify.specs.inner.Matching.{matches}
use Rattle.hol_clausify.specs.inner.Refuting.{placed, denials, IsRefuted, AllRefuted, EachLands, paired}
use Rattle.hol_clausify.specs.inner.Lifted.{IsMade, AreMade, whole_placed}
use Rattle.hol_clausify.proofs.Reading.{reads_back}
use Rattle.hol_clausify.proofs.Scopes.{put_in_none}
use Rattle.hol_clausify.proofs.Growing.{walk_grows}
use Rattle.hol_clausify.proofs.Expanding.{known_same}
use Rattle.hol_clausify.proofs.Standing.{expand_given, table_closed}
use Rattle.hol_clausify.proofs.Matching.{expanded_matches}
use Rattle.hol_clausify.proofs.Quantifying.{refuted_is_walked}
use Rattle.hol_clausify.proofs.Ready.{landed_whole}
use Rattle.hol_clausify.proofs.Wholes.{whole_over}
use Rattle.hol_clausify.proofs.ClausesTyped.{whole_read, lift_stands, starts, whole_fits, clauses_typed}

-- ---- clauses with their theorems
source_of : (log : Logged) (base : TermSet) (table : List Aux) (c : List TypedLiteral) (r : ThmId) → IsRefuted log base (map (shown_literal table) c) r.0 → IsSource log base table (record { literals = c; thm = r })
unfolding allowed
source_of log base table c r h = record { is_thm = h.refutes.is_thm; concl = h.refutes.concl; hyps = h.hyps }

pub sources_of : (log : Logged) (base : TermSet) (table : List Aux) (cs : Clauses) (rs : List ThmId) → AllRefuted log base (shown table cs) rs → Each (IsSource log base table) (paired cs rs)
sources_of log base table [] [] h = λ i x e. cc
sources_of log base table [] (r ∷ rs) h = absurd h
sources_of log base table (c ∷ cs) [] h = absurd h
sources_of log base table (c ∷ cs) (r ∷ rs) h = each_first (IsSource log base table) (record { literals = c; thm = r }) (paired cs rs) (source_of log base table c r h.0) (sources_of log base table cs rs h.1)

pub literals_paired : (log : Logged) (base : TermSet) (table : List Aux) (cs : Clauses) (rs : List ThmId) → AllRefuted log base (shown table cs) rs → literals_of (paired cs rs) ≡ cs
literals_paired log base table [] [] h = refl
literals_paired log base table [] (r ∷ rs) h = absurd h
literals_paired log base table (c ∷ cs) [] h = absurd h
literals_paired log base table (c ∷ cs) (r ∷ rs) h = ap (λ z. c ∷ z) (literals_paired log base table cs rs h.1)

pub are_made : (log : Logged) (base : TermSet) (made : LiftedClauses) (table : List Aux) (rs : List ThmId) (ss : List Source) → ss ≡ paired made.clauses rs → AllRefuted log base (shown table made.clauses) rs → AreMade log base made table ss
are_made log base made table rs ss is h = record {
  literals = ap literals_of is ∙ literals_paired log base table made.clauses rs h;
  sources = subst (Each (IsSource log base table)) (sym is) (sources_of log base table made.clauses rs h);
}

-- ---- the whole that was made clauses
module _ (sig : Sig) (goal : Bool) (made : LiftedClauses) (table : List Aux) (m : IsMade sig goal made table) where
  abbrev o : Outcome
  o = lifted sig m.old m.formula

  abbrev w : Term
  w = whole goal o

  pub whole_is : whole_of goal made.lifted ≡ w
  whole_is = λ i. with_equations goal (m.is.body i) (m.is.equations i)

  abbrev walk : Walked
  walk = clausified goal o

  table_is : table ≡ walk.after.table
  table_is = m.is.clauses.1

  stands : LiftStands sig m.old m.formula
  stands = lift_stands sig m.old m.formula goal m.has_bool m.old_alone m.sentence

  typed : WalksTyped sig m.old walk
  typed = clauses_typed sig m.old m.formula goal m.has_bool m.old_alone m.sentence

  grown : Grows o.table walk.after.table
  grown = walk_grows (formula_of w) (not goal) [] (at_start o.table)

  -- over the table behind the walk it is expanded as over the lift's own
  shown_same : expand table w ≡ expand o.table w
  shown_same = ap (λ z. expand z w) (table_is ∙ grown.is) ∙ known_same o.table grown.more w (whole_over sig m.old m.formula goal stands).known

  pub shown_formula : IsFormula sig (expand table w)
  shown_formula =
      let given = expand_given sig o.table stands.entries w bool_ty (whole_over sig m.old m.formula goal stands).typed in
      subst (IsFormula sig) (sym shown_same) (formula_from sig (expand o.table w) given.0 given.1)

  pub shown_matches : IsTrue (matches (formula_of w) (expand table w))
  shown_matches = subst (λ z. IsTrue (matches (formula_of w) (expand table z))) (reads_back w) (expanded_matches table (formula_of w) (whole_read w))

  -- the walk over the kernel's formula gives the clauses
  pub refuted_clauses : (refuted (formula_of w) (not goal) (expand table w) 0).clauses ≡ shown table made.clauses
  refuted_clauses =
      let behind = walk.after.table ++ [] in
      let same : behind ≡ table = append-nil walk.after.table ∙ sym table_is in
      let read = reads_back w in
      let starting = starts sig m.old m.formula goal m.has_bool m.old_alone m.sentence in
      let fits = whole_fits sig m.old m.formula goal m.has_bool m.old_alone m.sentence in
      let closed = subst (Each (λ e. IsTrue (is_closed e.closed))) (sym (append-nil walk.after.table)) (table_closed sig walk.after.table typed.alone) in
      let law = refuted_is_walked (formula_of w) (not goal) [] 0 o.table [] [] (whole_read w) starting fits closed in
      let place : expand behind (put_in [] (term_of (formula_of w)) 0) ≡ expand table w = (λ i. expand (same i) ((put_in_none (term_of (formula_of w)) 0 ∙ read) i)) in
      ap (λ z. (refuted (formula_of w) (not goal) z 0).clauses) (sym place) ∙ ap (λ (r : Refuted). r.clauses) law ∙ ap (λ z. shown z walk.clauses) same ∙ ap (shown table) (sym m.is.clauses.0)

  pub lifted_refuted : (new : Logged) (v u : Term) (f : Formula) (rs : List ThmId) → v ≡ whole_of goal made.lifted → u ≡ expand table v → f ≡ formula_of v → AllRefuted new (only (placed (not goal) u)) (refuted f (not goal) u 0).clauses rs →
      AllRefuted new (only (whole_placed goal made table)) (shown table made.clauses) rs
  lifted_refuted new v u f rs ev eu ef h =
      let is = ev ∙ whole_is in
      let e = eu ∙ ap (expand table) is in
      let at_w = subst (λ g. AllRefuted new (only (placed (not goal) (expand table w))) (refuted g (not goal) (expand table w) 0).clauses rs) (ef ∙ ap formula_of is)
      (subst (λ z. AllRefuted new (only (placed (not goal) z)) (refuted f (not goal) z 0).clauses rs) e h) in
      subst (λ z. AllRefuted new (only (placed (not goal) (expand table z))) (shown table made.clauses) rs) (sym whole_is)
      (subst (λ cs. AllRefuted new (only (placed (not goal) (expand table w))) cs rs) refuted_clauses at_w)

  pub own_formula : (v u : Term) → v ≡ whole_of goal made.lifted → u ≡ expand table v → IsFormula sig u
  own_formula v u ev eu = subst (IsFormula sig) (sym (eu ∙ ap (expand table) (ev ∙ whole_is))) shown_formula

  pub own_matches : (v u : Term) (f : Formula) → v ≡ whole_of goal made.lifted → u ≡ expand table v → f ≡ formula_of v → IsTrue (matches f u)
  own_matches v u f ev eu ef =
      subst (λ g. IsTrue (matches g u)) (sym (ef ∙ ap formula_of (ev ∙ whole_is))) (subst (λ z. IsTrue (matches (formula_of w) z)) (sym (eu ∙ ap (expand table) (ev ∙ whole_is))) shown_matches)

  -- what lifted facts and goals ask
  pub made_lifted : IsLifted sig m.formula made.lifted table
  made_lifted = record {
    has_bool = m.has_bool;
    old = m.old;
    old_alone = m.old_alone;
    body = m.is.body;
    equations = m.is.equations;
    more = grown.more;
    grown = table_is ∙ grown.is;
    alone = subst (Each (StandsAlone sig)) (sym table_is) typed.alone;
  }

-- the theorems, cut with that of the whole
pub cut_made : (old new : Logged) (part : Term) (base : TermSet) (made : LiftedClauses) (table : List Aux) (rs lent before after : List ThmId) (ss : List Source) → lent ≡ rs → before ≡ [] → EachLands old new part lent base before after →
    AllRefuted old (only part) (shown table made.clauses) rs → ss ≡ paired made.clauses after → AreMade new base made table ss
cut_made old new part base made table rs lent before after ss is none lands h pairs =
    are_made new base made table after ss pairs (landed_whole old new part base rs lent before after is none lands (shown table made.clauses) h)
