-- The body of a lifted formula and the whole of it, over a table that has grown since.
use Rattle.std.proofs.Common.{◌≡◌, ℕ, ◌<◌, zero, suc, Bool, true, false, IsTrue, List, [], ◌∷◌, ◌++◌, map, length, ap, subst, refl, sym, ◌∙◌, inl, inr, arith}
use Rattle.std.specs.FinSet as set
use Rattle.hol_terms.specs.declared.sig.Sig.{Sig}
use Rattle.hol_terms.specs.declared.konst.Konst.{Konst}
use Rattle.hol_terms.specs.declared.konst.Konst.TheVariants as konst
use Rattle.hol_terms.specs.declared.term.Term.{Term}
use Rattle.hol_terms.specs.declared.term.Term.TheOpen.{Term-F}
use Rattle.hol_terms.specs.declared.term.Term.TheViews.{out-roll-Term}
use Rattle.hol_terms.specs.Types.{bool_ty}
use Rattle.hol_terms.specs.Formulas.{IsFormula, IsSentence}
use Rattle.hol_terms.proofs.Formulas.{formula_from, formula_aux_free, sentence_formula}
use Rattle.hyp_sets.specs.Sets.{TermSet, only, Among, Holds}
use Rattle.hyp_sets.proofs.Members.{clash, same_members, holds_union, in_left, holds_remove, in_remove, holds_only, none_among}
use Rattle.kernel_rules.specs.Connectives.{apply, constant, neg, conj, imp, is_neg, is_not, one_at, constant_at}
use Rattle.kernel_rules.proofs.Parts.{is_neg-neg}
use Rattle.hol_derived.specs.Contractions.{contracted_along}
use Rattle.lambda_lift.specs.declared.table.Aux.{Aux}
use Rattle.lambda_lift.specs.declared.lifting.Lifted.{Lifted}
use Rattle.lambda_lift.specs.Contractions as lift
use Rattle.lambda_lift.specs.Tables.{expand, expanded_konst}
use Rattle.lambda_lift.specs.Lifting.{lifted}
use Rattle.lambda_lift.specs.Redexes.{redexes}
use Rattle.lambda_lift.specs.Walks.{with_two}
use Rattle.lambda_lift.specs.Wholes.{with_equations, all_of, whole}
use Rattle.lambda_lift.specs.Standing.{Each, StandsOver, Stands}
use Rattle.lambda_lift.proofs.Standings.{lifted_stand}
use Rattle.lambda_lift.proofs.Expansions.{expand_app, expand_con}
use Rattle.lambda_lift.proofs.Growing.{body_back}
use Rattle.hol_clausify.specs.inner.LiftedOver.{IsLifted, whole_of}
use Rattle.hol_clausify.proofs.Along.{same_along}
use Rattle.hol_clausify.proofs.Expanding.{known_same}
use Rattle.hol_clausify.proofs.Standing.{expand_given}
use Rattle.hol_clausify.proofs.Wholes.{whole_over}
use Rattle.hol_clausify.proofs.NamedValues.{along_right}

module _ (sig : Sig) (t : Term) (l : Lifted) (table : List Aux) (is : IsLifted sig t l table) (sentence : IsSentence sig t) where
  stands : Stands sig is.old t
  stands = lifted_stand sig is.has_bool is.old t is.old_alone sentence

  abbrev here : List Aux
  here = (lifted sig is.old t).table

  abbrev own : Term
  own = (lifted sig is.old t).body

  over_formula : (u : Term) → StandsOver sig here u → IsFormula sig (expand table u)
  over_formula u h =
      let given = expand_given sig here stands.entries u bool_ty h.typed in
      subst (IsFormula sig) (sym (ap (λ q. expand q u) is.grown ∙ known_same here is.more u h.known)) (formula_from sig (expand here u) given.0 given.1)

  pub body_formula : IsFormula sig (expand table l.body)
  body_formula = subst (λ u. IsFormula sig (expand table u)) (sym is.body) (over_formula own stands.body)

  pub whole_formula : (goal : Bool) → IsFormula sig (expand table (whole_of goal l))
  whole_formula goal =
      subst (λ u. IsFormula sig (expand table u)) (λ i. with_equations goal (sym is.body i) (sym is.equations i))
      (over_formula (whole goal (lifted sig is.old t)) (whole_over sig is.old t goal stands))

  pub body_way : contracted_along (redexes t l.body) (expand table l.body) ≡ t
  body_way =
      let back = body_back sig is.old t (formula_aux_free sig t (sentence_formula sig t sentence)) in
      let same = ap (λ q. expand q own) is.grown ∙ known_same here is.more own stands.body.known in
      subst (λ u. contracted_along (redexes t u) (expand table u) ≡ t) (sym is.body)
      (same_along (redexes t own) (expand table own) ∙ ap (lift.contracted_along (redexes t own)) same ∙ back)

  pub denial_way : contracted_along (map (λ p. 1 ∷ p) (redexes t l.body)) (neg (expand table l.body)) ≡ neg t
  denial_way = along_right (redexes t l.body) (constant konst.Not) (expand table l.body) ∙ ap neg body_way

-- ---- the whole, expanded
expand_with : (table : List Aux) (k : Konst) → expanded_konst table k ≡ constant k → (a b : Term) → expand table (with_two k a b) ≡ with_two k (expand table a) (expand table b)
expand_with table k kept a b =
    expand_app table (apply (constant k) a) b ∙ ap (λ f. apply f (expand table b)) (expand_app table (constant k) a ∙ ap (λ f. apply f (expand table a)) (expand_con table k ∙ kept))

pub alone : (goal : Bool) (b : Term) (es : List Term) → length es ≡ 0 → with_equations goal b es ≡ b
alone goal b [] h = refl
alone goal b (e ∷ es) h = absurd (omega (arith, h))

pub fact_whole : (table : List Aux) (b : Term) (es : List Term) → 0 < length es → expand table (with_equations false b es) ≡ conj (expand table b) (expand table (all_of es))
fact_whole table b [] h = absurd (omega (arith, h))
fact_whole table b (e ∷ es) h = expand_with table konst.And refl b (all_of (e ∷ es))

pub goal_whole : (table : List Aux) (b : Term) (es : List Term) → 0 < length es → expand table (with_equations true b es) ≡ imp (expand table (all_of es)) (expand table b)
goal_whole table b [] h = absurd (omega (arith, h))
goal_whole table b (e ∷ es) h = expand_with table konst.Imp refl (all_of (e ∷ es)) b

-- ---- what is left of the hypotheses
not_neg : (a b : Term) → is_neg (imp a b) ≡ false
unfolding is_neg
not_neg a b = ap (one_at is_not) (out-roll-Term (Term-F.App (apply (constant konst.Imp) a) b)) ∙ ap (constant_at is_not) (out-roll-Term (Term-F.App (constant konst.Imp) a))

unlike : (f a b : Term) → neg f ≡ imp a b → ⊥
unlike f a b e = clash (is_neg (imp a b)) (ap is_neg (sym e) ∙ is_neg-neg f) (not_neg a b)

module _ (p q : Term) (differs : p ≡ q → ⊥) where
  there : Among (set.remove (set.union (only p) (only q)) q) (only p)
  there x h =
      let out = holds_remove (set.union (only p) (only q)) q x h in
      elim (holds_union (only p) (only q) x out.1) [ inl m ↦ m | inr m ↦ absurd (out.0 (holds_only q x m)) ]

  back : Among (only p) (set.remove (set.union (only p) (only q)) q)
  back x h = in_remove (set.union (only p) (only q)) q x (λ e. differs (sym (holds_only p x h) ∙ e)) (in_left (only p) (only q) x h)

  one_left : set.remove (set.union (only p) (only q)) q ≡ only p
  one_left = same_members (set.remove (set.union (only p) (only q)) q) (only p) there back

pub denial_left : (f a b w : Term) (s : TermSet) → w ≡ imp a b → s ≡ only w → set.remove (set.union (only (neg f)) s) w ≡ only (neg f)
denial_left f a b w s is same = ap (λ z. set.remove (set.union (only (neg f)) z) w) same ∙ one_left (neg f) w (λ e. unlike f a b (e ∙ is))

pub joined_none : (s : TermSet) → set.union s set.empty ≡ s
joined_none s = same_members (set.union s set.empty) s (λ x h. elim (holds_union s set.empty x h) [ inl m ↦ m | inr m ↦ none_among s x m ]) (in_left s set.empty)

pub positive : (n : ℕ) → (n ≡ 0 → ⊥) → 0 < n
positive zero h = absurd (h refl)
positive (suc n) h = omega arith
