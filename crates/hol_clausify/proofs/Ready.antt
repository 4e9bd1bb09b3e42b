-- What a part of a whole needs stays where the log grows.
use Rattle.std.proofs.Common.{◌≡◌, List, [], ◌∷◌, ◌++◌, ap, subst, sym, ◌∙◌}
use Rattle.hol_terms.specs.declared.term.Term.{Term}
use Rattle.hol_terms.specs.Types.{bool_ty}
use Rattle.hol_terms.specs.declared.sig.Sig.{Sig}
use Rattle.hol_terms.specs.Formulas.{IsFormula}
use Rattle.hyp_sets.specs.Sets.{TermSet, only}
use Rattle.kernel_rules.specs.declared.step.ThmId.{ThmId}
use Rattle.hol_kernel.specs.Logs.{Logged}
use Rattle.hol_kernel.specs.Growth.{Extends}
use Rattle.hol_kernel.specs.Conditions.{IsGiven}
use Rattle.hol_kernel.proofs.Growing.{thm_stays}
use Rattle.hol_derived.proofs.Splits.{formula_stays}
use Rattle.formula_clauses.specs.Walks.{Clauses, joined, appended}
use Rattle.hol_clausify.specs.declared.part.Instance.{Instance}
use Rattle.hol_clausify.specs.declared.part.Part.{Part}
use Rattle.hol_clausify.specs.declared.part.Part.TheVariants as parts
use Rattle.hol_clausify.specs.inner.Parts.{AreFormulas, IsInstance, IsNamed, IsReady}
use Rattle.hol_clausify.specs.inner.Refuting.{AllRefuted, Appended, EachLands, EachWithEach}
use Rattle.hol_clausify.proofs.Refuted.{all_append, all_stay}

module _ (old new : Logged) (kept : Extends old new) where
  formulas_stay : (a b : Term) → AreFormulas old.env.sig a b → AreFormulas new.env.sig a b
  formulas_stay a b h = (formula_stays old new a kept h.0, formula_stays old new b kept h.1)

  named_stays : (name : ThmId) (x : Instance) (f : Term) → IsNamed old name x f → IsNamed new name x f
  named_stays name x f h = record { is_thm = thm_stays old new name.0 kept h.is_thm; is = kept.earlier name.0 h.is_thm ∙ h.is }

  given_stay : (x : Instance) → IsGiven old.env.sig x.value.now x.ty.now → IsGiven new.env.sig x.value.now x.ty.now
  given_stay x h = subst (λ e. IsGiven e.sig x.value.now x.ty.now) (sym kept.env) h

  pub ready_stays : (p : Part) → IsReady old p → IsReady new p
  ready_stays (parts.NotNot a) h = formula_stays old new a.now kept h
  ready_stays (parts.AndLeft a b) h = formulas_stay a.now b.now h
  ready_stays (parts.AndRight a b) h = formulas_stay a.now b.now h
  ready_stays (parts.NotOrLeft a b) h = formulas_stay a.now b.now h
  ready_stays (parts.NotOrRight a b) h = formulas_stay a.now b.now h
  ready_stays (parts.NotImpliesLeft a b) h = formulas_stay a.now b.now h
  ready_stays (parts.NotImpliesRight a b) h = formulas_stay a.now b.now h
  ready_stays (parts.AllAt x) h = (h.0, formula_stays old new _ kept h.1, given_stay x h.2)
  ready_stays (parts.NotSomeAt x) h = (h.0, formula_stays old new _ kept h.1, given_stay x h.2)
  ready_stays (parts.SomeNamed x name) h = (h.0, formula_stays old new _ kept h.1, named_stays name x _ h.2)
  ready_stays (parts.NotAllNamed x name) h = (h.0, formula_stays old new _ kept h.1, named_stays name x _ h.2)

-- ---- lists that begin with nothing
begun : (log : Logged) (whole : TermSet) (cs : Clauses) (before after : List ThmId) → before ≡ [] → Appended log whole cs before after → AllRefuted log whole cs after
begun log whole cs before after none a = subst (AllRefuted log whole cs) (sym (a.is ∙ ap (λ z. z ++ a.news) none)) a.refuted

both_begun : (mid new : Logged) (whole : TermSet) (cs ds : Clauses) (before one two : List ThmId) → before ≡ [] → Extends mid new → Appended mid whole cs before one → Appended new whole ds one two → AllRefuted new whole (appended cs ds) two
both_begun mid new whole cs ds before one two none kept h g =
    subst (AllRefuted new whole (cs ++ ds)) (ap (λ z. z ++ g.news) (sym (h.is ∙ ap (λ z. z ++ h.news) none)) ∙ sym g.is)
    (all_append new whole cs ds h.news g.news (all_stay mid new whole cs h.news kept h.refuted) g.refuted)

pub landed_whole : (old new : Logged) (part : Term) (whole : TermSet) (rs lent before after : List ThmId) → lent ≡ rs → before ≡ [] → EachLands old new part lent whole before after →
    (cs : Clauses) → AllRefuted old (only part) cs rs → AllRefuted new whole cs after
landed_whole old new part whole rs lent before after is none lands cs h = begun new whole cs before after none (lands cs (subst (AllRefuted old (only part) cs) (sym is) h))

pub landed_sum : (old mid new : Logged) (p q : Term) (whole other : TermSet) (rs ss lent lent' before one two : List ThmId) → lent ≡ rs → lent' ≡ ss → before ≡ [] → Extends old mid → Extends mid new → whole ≡ other →
    EachLands old mid p lent whole before one → EachLands mid new q lent' other one two →
    (cs ds : Clauses) → AllRefuted old (only p) cs rs → AllRefuted old (only q) ds ss → AllRefuted new whole (appended cs ds) two
landed_sum old mid new p q whole other rs ss lent lent' before one two is is' none kept later same first second cs ds h g =
    both_begun mid new whole cs ds before one two none later (first cs (subst (AllRefuted old (only p) cs) (sym is) h))
    (subst (λ w. Appended new w ds one two) (sym same) (second ds (all_stay old mid (only q) ds lent' kept (subst (AllRefuted old (only q) ds) (sym is') g))))

pub landed_product : (old new : Logged) (p q : Term) (whole : TermSet) (rs ss lent lent' before after : List ThmId) → lent ≡ rs → lent' ≡ ss → before ≡ [] → EachWithEach old new p lent q lent' whole before after →
    (cs ds : Clauses) → AllRefuted old (only p) cs rs → AllRefuted old (only q) ds ss → AllRefuted new whole (joined cs ds) after
landed_product old new p q whole rs ss lent lent' before after is is' none lands cs ds h g =
    begun new whole (joined cs ds) before after none (lands cs ds (subst (AllRefuted old (only p) cs) (sym is) h) (subst (AllRefuted old (only q) ds) (sym is') g))

pub landed_products : (old mid new : Logged) (p q p' q' : Term) (whole other : TermSet) (rs ss ts us lent1 lent2 lent3 lent4 before one two : List ThmId) → lent1 ≡ rs → lent2 ≡ ss → lent3 ≡ ts → lent4 ≡ us → before ≡ [] →
    Extends old mid → Extends mid new → whole ≡ other → EachWithEach old mid p lent1 q lent2 whole before one → EachWithEach mid new p' lent3 q' lent4 other one two →
    (cs ds es fs : Clauses) → AllRefuted old (only p) cs rs → AllRefuted old (only q) ds ss → AllRefuted old (only p') es ts → AllRefuted old (only q') fs us →
    AllRefuted new whole (appended (joined cs ds) (joined es fs)) two
landed_products old mid new p q p' q' whole other rs ss ts us lent1 lent2 lent3 lent4 before one two i1 i2 i3 i4 none kept later same first second cs ds es fs h1 h2 h3 h4 =
    both_begun mid new whole (joined cs ds) (joined es fs) before one two none later
    (first cs ds (subst (AllRefuted old (only p) cs) (sym i1) h1) (subst (AllRefuted old (only q) ds) (sym i2) h2))
    (subst (λ w. Appended new w (joined es fs) one two) (sym same)
    (second es fs (all_stay old mid (only p') es lent3 kept (subst (AllRefuted old (only p') es) (sym i3) h3)) (all_stay old mid (only q') fs lent4 kept (subst (AllRefuted old (only q') fs) (sym i4) h4))))
