-- Clauses keep their theorems while the log and the table grow, and more clauses come with theirs.
use Rattle.std.proofs.Common.{◌≡◌, ℕ, zero, suc, ◌<◌, Bool, true, false, IsTrue, List, [], ◌∷◌, ◌++◌, map, length, slice_get, Some, refl, sym, ap, subst, ◌∙◌, inl, inr}
use Rattle.std.specs.FinSet as set
use Rattle.std.specs.Prelude.{Option, None, Err, unwrap_or}
use Rattle.std.specs.Option.{option_map_or}
use Rattle.std.proofs.lemmas.Option.{slice_get_within}
use Rattle.hol_terms.specs.declared.ty.Ty.{Ty}
use Rattle.hol_terms.specs.declared.sig.Sig.{Sig}
use Rattle.hol_terms.specs.declared.env.Env.{Env}
use Rattle.hol_terms.specs.declared.term.Term.{Term}
use Rattle.hol_terms.specs.declared.literal.TypedLiteral.{TypedLiteral}
use Rattle.hol_terms.specs.Types.{bool_ty}
use Rattle.hyp_sets.specs.Sets.{TermSet, set_of, only, Among}
use Rattle.hyp_sets.proofs.Members.{holds_union, in_left, in_right, among_trans, none_among}
use Rattle.kernel_rules.specs.declared.step.ThmId.{ThmId}
use Rattle.kernel_rules.specs.declared.sequent.Sequent.{Sequent}
use Rattle.kernel_rules.specs.Connectives.{verum, falsum, neg}
use Rattle.hol_kernel.specs.Logs.{Logged, IsThm, thm, fact_at}
use Rattle.hol_kernel.specs.Growth.{Extends}
use Rattle.hol_kernel.proofs.Growing.{thm_stays}
use Rattle.hol_clauses.specs.Literals.{denied, allowed}
use Rattle.lambda_lift.specs.declared.table.Aux.{Aux}
use Rattle.lambda_lift.specs.Tables.{expand}
use Rattle.lambda_lift.specs.Standing.{Each, StandsAlone}
use Rattle.lambda_lift.proofs.Typings.{later, typed_known}
use Rattle.formula_clauses.specs.Walks.{Clauses}
use Rattle.formula_clauses.specs.Fits.{fits}
use Rattle.formula_clauses.specs.Clausified.{IsClausified}
use Rattle.goal_search.specs.Fitting.{fits_at, goal_fits}
use Rattle.goal_search.specs.Inputs.{with_formula}
use Rattle.hol_clausify.specs.declared.source.Source.{Source}
use Rattle.hol_clausify.specs.Sources.{IsSource, AreSources, IsTooLarge, FactSources, GoalSources, meaning, literals_of}
use Rattle.hol_terms.proofs.Both.{true_or_false}
use Rattle.formula_clauses.specs.declared.fault.ClauseFault.{ClauseFault}
use Rattle.formula_clauses.specs.declared.fault.ClauseFault.TheVariants.{TooLarge}
use Rattle.hol_clausify.specs.Typed.{IsTypedAtom, IsTypedClause}
use Rattle.hol_clausify.proofs.Expanding.{known_same}
use Rattle.goal_search.specs.declared.listing.Listing.{Listing}
use Rattle.goal_proofs.specs.declared.sourcing.Sourced.{Sourced}
use Rattle.goal_proofs.specs.inner.Sourced.{HaveTheorems, AreSourced, more_sourced}

-- ---- lists
module _ {X : Type 0} (P : X → Type 0) where
  pub each_append : (xs ys : List X) → Each P xs → Each P ys → Each P (xs ++ ys)
  each_append [] ys hx hy i y e = hy i y e
  each_append (x ∷ xs) ys hx hy zero y e = hx zero y e
  each_append (x ∷ xs) ys hx hy (suc i) y e = each_append xs ys (λ j. hx (suc j)) hy i y e

module _ {X : Type 0} (P Q : X → Type 0) (f : (x : X) → P x → Q x) where
  pub each_so : (xs : List X) → Each P xs → Each Q xs
  each_so xs h i x e = f x (h i x e)

-- ---- hypotheses
pub allowed_base : (b c : TermSet) (ls : List TypedLiteral) → Among b c → Among (allowed b ls) (allowed c ls)
unfolding allowed
allowed_base b c ls within x h =
    elim (holds_union b (set_of (map denied ls)) x h) [ inl k ↦ in_left c (set_of (map denied ls)) x (within x k) | inr k ↦ in_right c (set_of (map denied ls)) x k ]

-- ---- over a longer table
module _ (sig : Sig) (old more : List Aux) where
  atom_grows : (types : List Ty) (t : Term) → IsTypedAtom sig old types t → IsTypedAtom sig (old ++ more) types t
  atom_grows types t is = record {
    typed = later sig old (old ++ more) (record { more = more; is = refl }) t [] bool_ty is.typed;
    without_lambda = is.without_lambda;
    numbered = is.numbered;
  }

  clause_grows : (c : List TypedLiteral) → IsTypedClause sig old c → IsTypedClause sig (old ++ more) c
  clause_grows c is = record { types = is.types; atoms = λ i l e. atom_grows is.types l.atom (is.atoms i l e) }

  pub clauses_grow : (cs : Clauses) → Each (IsTypedClause sig old) cs → Each (IsTypedClause sig (old ++ more)) cs
  clauses_grow = each_so (IsTypedClause sig old) (IsTypedClause sig (old ++ more)) clause_grows

  meanings_stay : (types : List Ty) (ls : List TypedLiteral) → Each (λ l. IsTypedAtom sig old types l.atom) ls → map (meaning (old ++ more)) ls ≡ map (meaning old) ls
  meanings_stay types [] h = refl
  meanings_stay types (l ∷ ls) h =
      let here = known_same old more l.atom (typed_known sig old l.atom [] bool_ty (h zero l refl).typed) in
      let rest = meanings_stay types ls (λ i. h (suc i)) in
      (λ i. record { positive = l.positive; atom = here i } ∷ rest i)

  module _ (log new : Logged) (kept : Extends log new) (base : TermSet) where
    source_stays : (s : Source) → IsTypedClause sig old s.literals → IsSource log base old s → IsSource new base (old ++ more) s
    source_stays s typed is =
        let same : thm new s.thm.0 ≡ thm log s.thm.0 = kept.earlier s.thm.0 is.is_thm in
        record {
          is_thm = thm_stays log new s.thm.0 kept is.is_thm;
          concl = ap (λ (q : Sequent). q.concl) same ∙ is.concl;
          hyps = subst (λ ls. Among (thm new s.thm.0).hyps (allowed base ls)) (sym (meanings_stay typed.types s.literals typed.atoms))
              (subst (λ (q : Sequent). Among q.hyps (allowed base (map (meaning old) s.literals))) (sym same) is.hyps);
        }

    pub theorems_stay : (cs : Clauses) (ts : List ThmId) → Each (IsTypedClause sig old) cs → HaveTheorems log base old cs ts → HaveTheorems new base (old ++ more) cs ts
    theorems_stay [] [] typed have = tt
    theorems_stay [] (t ∷ ts) typed have = have
    theorems_stay (c ∷ cs) [] typed have = have
    theorems_stay (c ∷ cs) (t ∷ ts) typed have =
        (source_stays (record { literals = c; thm = t }) (typed zero c refl) have.0, theorems_stay cs ts (λ i. typed (suc i)) have.1)

-- ---- more clauses
module _ (log : Logged) (base : TermSet) (table : List Aux) where
  pub theorems_append : (cs ds : Clauses) (ts us : List ThmId) → HaveTheorems log base table cs ts → HaveTheorems log base table ds us → HaveTheorems log base table (cs ++ ds) (ts ++ us)
  theorems_append [] ds [] us h k = k
  theorems_append [] ds (t ∷ ts) us h k = absurd h
  theorems_append (c ∷ cs) ds [] us h k = absurd h
  theorems_append (c ∷ cs) ds (t ∷ ts) us h k = (h.0, theorems_append cs ds ts us h.1 k)

  widened : (b : TermSet) → Among b base → (s : Source) → IsSource log b table s → IsSource log base table s
  widened b within s is = record {
    is_thm = is.is_thm;
    concl = is.concl;
    hyps = among_trans _ (allowed b (map (meaning table) s.literals)) _ is.hyps (allowed_base b base (map (meaning table) s.literals) within);
  }

  pub theorems_of : (b : TermSet) → Among b base → (ss : List Source) → Each (IsSource log b table) ss → HaveTheorems log base table (literals_of ss) (map (λ s. s.thm) ss)
  theorems_of b within [] h = tt
  theorems_of b within (s ∷ ss) h = (widened b within s (h zero s refl), theorems_of b within ss (λ i. h (suc i)))

pub none_sourced : (log : Logged) → AreSourced log (record { listing = record { clauses = []; table = [] }; thms = [] })
none_sourced log = record { alone = λ i e h. absurd cc; typed = λ i c h. absurd cc; theorems = tt }

-- the sources of one more formula
pub one_sourced : (log new : Logged) (s : Sourced) (goal : Bool) (b : TermSet) (t : Term) (ss : List Source) (table : List Aux) → Extends log new → AreSourced log s →
    AreSources goal b t s.listing.table new ss table → Among b (only (neg new.env.goal)) →
    AreSourced new (more_sourced s.listing.clauses s.thms table ss)
one_sourced log new s goal b t ss table kept have more within =
    let sig = new.env.sig in
    let old = s.listing.table in
    let cs = s.listing.clauses in
    let base = only (neg new.env.goal) in
    let typed : Each (IsTypedClause sig old) cs = subst (λ (e : Env). Each (IsTypedClause e.sig old) cs) (sym kept.env) have.typed in
    let theorems : HaveTheorems log base old cs s.thms = subst (λ (e : Env). HaveTheorems log (only (neg e.goal)) old cs s.thms) (sym kept.env) have.theorems in
    let longer : old ++ more.grown.0 ≡ table = sym more.grown.1 in
    record {
      alone = more.alone;
      typed = each_append (IsTypedClause sig table) cs (literals_of ss) (subst (λ l. Each (IsTypedClause sig l) cs) longer (clauses_grow sig old more.grown.0 cs typed)) more.typed;
      theorems = theorems_append new base table cs (literals_of ss) s.thms (map (λ s. s.thm) ss)
          (subst (λ l. HaveTheorems new base l cs s.thms) longer (theorems_stay sig old more.grown.0 log new kept base cs s.thms typed theorems))
          (theorems_of new base table b within ss more.sources);
    }

-- ---- the same as what a search is given
pub listing_is : (sig : Sig) (goal : Bool) (l : Listing) (t : Term) (ts : List ThmId) (ss : List Source) (table : List Aux) → IsClausified sig l.table t goal (literals_of ss) table →
    (more_sourced l.clauses ts table ss).listing ≡ with_formula sig goal l t
unfolding with_formula
listing_is sig goal l t ts ss table is = λ i. record { clauses = l.clauses ++ is.0 i; table = is.1 i }

-- ---- what fits is there
fit_at : (env : Env) (n : ℕ) (o : Option Term) → slice_get env.facts n ≡ o → IsTrue (option_map_or (λ t. fits env.sig t false) o false) → n < length env.facts
fit_at env n None at h = absurd cc
fit_at env n (Some t) at h = slice_get_within env.facts n t at

pub fit_within : (env : Env) (n : ℕ) → IsTrue (fits_at env n) → n < length env.facts
fit_within env n h = fit_at env n (slice_get env.facts n) refl h

pub fit_is : (env : Env) (n : ℕ) → IsTrue (fits_at env n) → fits env.sig (fact_at env n) false ≡ true
unfolding fact_at
fit_is env n h = by_place (slice_get env.facts n) h
  where
    by_place : (o : Option Term) → IsTrue (option_map_or (λ t. fits env.sig t false) o false) → fits env.sig (unwrap_or o verum) false ≡ true
    by_place None h = absurd cc
    by_place (Some t) h = h

-- ---- the base
pub nothing_within : (base : TermSet) → Among set.empty base
nothing_within base = none_among base

pub goal_within : (old new : Env) → new ≡ old → Among (only (neg old.goal)) (only (neg new.goal))
goal_within old new e = subst (λ (d : Env). Among (only (neg old.goal)) (only (neg d.goal))) (sym e) (λ x h. h)

-- ---- what fits isn't too large
fact_refused : (fact : ℕ) (before : Logged) (old : List Aux) (after : Logged) (new : List Aux) → IsTrue (fits_at before.env fact) → IsTooLarge false (fact_at before.env fact) before old after new → ⊥
fact_refused fact before old after new fit is = true_or_false (fits before.env.sig (fact_at before.env fact) false) (fit_is before.env fact fit) is.unfitting

pub fact_fits : (fact : ℕ) (before : Logged) (old : List Aux) (f : ClauseFault) (after : Logged) (new : List Aux) → f ≡ TooLarge → IsTrue (fits_at before.env fact) → FactSources fact before old (Err f) after new → ⊥
fact_fits fact before old f after new is fit h = fact_refused fact before old after new fit (subst (λ g. FactSources fact before old (Err g) after new) is h)

goal_refused : (before : Logged) (old : List Aux) (after : Logged) (new : List Aux) → IsTrue (goal_fits before.env) → IsTooLarge true before.env.goal before old after new → ⊥
goal_refused before old after new fit is = true_or_false (fits before.env.sig before.env.goal true) fit is.unfitting

pub goal_may : (before : Logged) (old : List Aux) (f : ClauseFault) (after : Logged) (new : List Aux) → f ≡ TooLarge → IsTrue (goal_fits before.env) → GoalSources before old (Err f) after new → ⊥
goal_may before old f after new is fit h = goal_refused before old after new fit (subst (λ g. GoalSources before old (Err g) after new) is h)
