-- Terms that are put in, and expanded: their loose indexes, auxiliary constants and variables.
use Rattle.std.proofs.Common.{◌≡◌, ℕ, ◌+◌, ◌-◌, ◌<◌, Bool, true, false, nat_lt, if◌then◌else◌, IsTrue, List, [], length, slice_get, get_or, ap, subst, refl, sym, ◌∙◌, Some, None, arith}
use Rattle.std.specs.Prelude.{Option, unwrap_or}
use Rattle.std.proofs.lemmas.Bool.Decides.{nat_tests}
use Rattle.std.proofs.lemmas.Option.{slice_get-get_or}
use Rattle.hol_terms.specs.declared.ty.Ty.{Ty}
use Rattle.hol_terms.specs.declared.konst.Konst.{Konst}
use Rattle.hol_terms.specs.declared.konst.Konst.TheVariants as konst
use Rattle.hol_terms.specs.declared.term.Term.{Term}
use Rattle.hol_terms.specs.declared.term.Term.TheOpen.{Term-F}
use Rattle.hol_terms.specs.declared.term.Term.TheFolds.{fold-roll-Term}
use Rattle.hol_terms.specs.Substitution.{closed_under}
use Rattle.hol_terms.specs.Formulas.{var_free}
use Rattle.hol_terms.proofs.TermCases.{by_cases}
use Rattle.hol_terms.proofs.Both.{both_true, and_true}
use Rattle.hol_terms.proofs.Equations.{closed-bound, closed-free, closed-con, closed-app, closed-lam, var_free-free, var_free-app, var_free-lam}
use Rattle.kernel_rules.specs.Connectives.{apply, lambda}
use Rattle.lambda_lift.specs.declared.table.Aux.{Aux}
use Rattle.lambda_lift.specs.Tables.{expand, expanded_konst, expanded_at}
use Rattle.lambda_lift.specs.Standing.{Each, aux_below, below_step}
use Rattle.lambda_lift.proofs.Expansions.{expand_bound, expand_free, expand_con, expand_app, expand_lam}
use Rattle.hol_derived.proofs.PutPut.{bound}
use Rattle.formula_clauses.specs.Choices.{Variable, put_in, variables, variables_with}
use Rattle.hol_clausify.specs.Laws.{AllClosed}
use Rattle.hol_clausify.proofs.Opening.{free}
use Rattle.hol_clausify.proofs.Wider.{less, less_told, closed_everywhere}
use Rattle.hol_clausify.proofs.Expanding.{below-app, below-lam}
use Rattle.hol_clausify.proofs.Scopes.{put_in-bound, put_in-free, put_in-con, put_in-app, put_in-lam, in_below, in_above}
use Rattle.hol_clausify.proofs.Occurring.{with-bound, with-con, with-app, with-lam}

-- ---- loose indexes
module _ (e : List Term) (closed : AllClosed e) where
  abbrev Closes : Term → Type 0
  Closes t = (d : ℕ) → IsTrue (closed_under t (length e + d)) → IsTrue (closed_under (put_in e t d) d)

  closes_low : (i d : ℕ) → i < d → IsTrue (closed_under (put_in e (bound i) d) d)
  closes_low i d h = ap (λ t. closed_under t d) (in_below e i d h) ∙ closed-bound i d ∙ less_told i d h

  closes_high : (i d : ℕ) → d < i + 1 → i < length e + d → IsTrue (closed_under (put_in e (bound i) d) d)
  closes_high i d h g =
      let u = get_or e (i - d) (bound i) in
      let at : slice_get e (i - d) ≡ Some u = slice_get-get_or e (i - d) (bound i) (omega arith) in
      ap (λ t. closed_under t d) (in_above e i d u h at) ∙ closed_everywhere u d (closed (i - d) u at)

  closes_either : (i d : ℕ) (c : Bool) → nat_lt i d ≡ c → i < length e + d → IsTrue (closed_under (put_in e (bound i) d) d)
  closes_either i d true h g = closes_low i d (less i d h)
  closes_either i d false h g = let beyond : d < i + 1 = grind (arith, nat_tests, h) in closes_high i d beyond g

  closes_bound : (i : ℕ) → Closes (bound i)
  closes_bound i d h = closes_either i d (nat_lt i d) refl (less i (length e + d) (subst IsTrue (closed-bound i (length e + d)) h))

  closes_app : (f x : Term) → Closes f → Closes x → Closes (apply f x)
  closes_app f x hf hx d h =
      let n = length e + d in
      let both = both_true (closed_under f n) (closed_under x n) (subst IsTrue (closed-app f x n) h) in
      let g = put_in e f d in
      let y = put_in e x d in
      ap (λ t. closed_under t d) (put_in-app e f x d) ∙ closed-app g y d ∙ and_true (closed_under g d) (closed_under y d) (hf d both.0) (hx d both.1)

  closes_lam : (a : Ty) (b : Term) → Closes b → Closes (lambda a b)
  closes_lam a b hb d h =
      let deeper : length e + d + 1 ≡ length e + (d + 1) = omega arith in
      ap (λ t. closed_under t d) (put_in-lam e a b d) ∙ closed-lam a (put_in e b (d + 1)) d
      ∙ hb (d + 1) (subst IsTrue (closed-lam a b (length e + d) ∙ ap (closed_under b) deeper) h)

  pub closed_put_in : (t : Term) → Closes t
  closed_put_in t =
      by_cases Closes closes_bound (λ n a d h. ap (λ t. closed_under t d) (put_in-free e n a d) ∙ closed-free n a d)
      (λ k d h. ap (λ t. closed_under t d) (put_in-con e k d) ∙ closed-con k d) closes_app closes_lam t

-- ---- auxiliary constants
module _ (m : ℕ) where
  pub below-bound : (i : ℕ) → aux_below m (bound i) ≡ true
  below-bound i = fold-roll-Term Bool (below_step m) (Term-F.Bound i)

  pub below-free : (n : ℕ) (a : Ty) → aux_below m (free n a) ≡ true
  below-free n a = fold-roll-Term Bool (below_step m) (Term-F.Free n a)

  module _ (e : List Term) (known : Each (λ t. IsTrue (aux_below m t)) e) where
    abbrev Knows : Term → Type 0
    Knows t = (d : ℕ) → IsTrue (aux_below m t) → IsTrue (aux_below m (put_in e t d))

    got_known : (i j : ℕ) (o : Option Term) → slice_get e j ≡ o → IsTrue (aux_below m (unwrap_or o (bound i)))
    got_known i j None h = below-bound i
    got_known i j (Some u) h = known j u h

    knows_either : (i d : ℕ) (c : Bool) → IsTrue (aux_below m (if c then bound i else unwrap_or (slice_get e (i - d)) (bound i)))
    knows_either i d true = below-bound i
    knows_either i d false = got_known i (i - d) (slice_get e (i - d)) refl

    knows_app : (f x : Term) → Knows f → Knows x → Knows (apply f x)
    knows_app f x hf hx d h =
        let both = both_true (aux_below m f) (aux_below m x) (subst IsTrue (below-app m f x) h) in
        let g = put_in e f d in
        let y = put_in e x d in
        ap (aux_below m) (put_in-app e f x d) ∙ below-app m g y ∙ and_true (aux_below m g) (aux_below m y) (hf d both.0) (hx d both.1)

    pub known_put_in : (t : Term) → Knows t
    known_put_in =
        by_cases Knows (λ i d h. ap (aux_below m) (put_in-bound e i d) ∙ knows_either i d (nat_lt i d)) (λ n a d h. ap (aux_below m) (put_in-free e n a d) ∙ below-free n a)
        (λ k d h. ap (aux_below m) (put_in-con e k d) ∙ h) knows_app
        (λ a b hb d h. ap (aux_below m) (put_in-lam e a b d) ∙ below-lam m a (put_in e b (d + 1)) ∙ hb (d + 1) (subst IsTrue (below-lam m a b) h))

-- ---- variables
abbrev Without : Term → Type 0
Without t = (vs : List Variable) → IsTrue (var_free t) → variables_with t vs ≡ vs

without_free : (n : ℕ) (a : Ty) → Without (free n a)
without_free n a vs h = let none : false ≡ true = sym (var_free-free n a) ∙ h in cc

without_app : (f x : Term) → Without f → Without x → Without (apply f x)
without_app f x hf hx vs h =
    let both = both_true (var_free f) (var_free x) (subst IsTrue (var_free-app f x) h) in
    with-app f x vs ∙ ap (variables_with x) (hf vs both.0) ∙ hx vs both.1

none_with : (t : Term) → Without t
none_with =
    by_cases Without (λ i vs h. with-bound i vs) without_free (λ k vs h. with-con k vs) without_app
    (λ a b hb vs h. with-lam a b vs ∙ hb vs (subst IsTrue (var_free-lam a b) h))

module _ (table : List Aux) (bare : Each (λ e. IsTrue (var_free e.closed)) table) where
  at_with : (k : ℕ) (o : Option Aux) (vs : List Variable) → slice_get table k ≡ o → variables_with (expanded_at k o) vs ≡ vs
  at_with k None vs h = with-con (konst.Aux k) vs
  at_with k (Some e) vs h = none_with e.closed vs (bare k e h)

  konst_with : (k : Konst) (vs : List Variable) → variables_with (expanded_konst table k) vs ≡ vs
  konst_with (konst.Aux k) vs = at_with k (slice_get table k) vs refl
  konst_with (konst.Named n) vs = with-con (konst.Named n) vs
  konst_with konst.True vs = with-con konst.True vs
  konst_with konst.False vs = with-con konst.False vs
  konst_with konst.Not vs = with-con konst.Not vs
  konst_with konst.And vs = with-con konst.And vs
  konst_with konst.Or vs = with-con konst.Or vs
  konst_with konst.Imp vs = with-con konst.Imp vs
  konst_with (konst.Eq a) vs = with-con (konst.Eq a) vs
  konst_with (konst.All a) vs = with-con (konst.All a) vs
  konst_with (konst.Ex a) vs = with-con (konst.Ex a) vs
  konst_with (konst.Eps a) vs = with-con (konst.Eps a) vs

  abbrev Same : Term → Type 0
  Same t = (vs : List Variable) → variables_with (expand table t) vs ≡ variables_with t vs

  same_app : (f x : Term) → Same f → Same x → Same (apply f x)
  same_app f x hf hx vs =
      let g = expand table f in
      let y = expand table x in
      ap (λ t. variables_with t vs) (expand_app table f x) ∙ with-app g y vs ∙ ap (variables_with y) (hf vs) ∙ hx (variables_with f vs) ∙ sym (with-app f x vs)

  same_with : (t : Term) → Same t
  same_with =
      by_cases Same (λ i vs. ap (λ t. variables_with t vs) (expand_bound table i)) (λ n a vs. ap (λ t. variables_with t vs) (expand_free table n a))
      (λ k vs. ap (λ t. variables_with t vs) (expand_con table k) ∙ konst_with k vs ∙ sym (with-con k vs)) same_app
      (λ a b hb vs. ap (λ t. variables_with t vs) (expand_lam table a b) ∙ with-lam a (expand table b) vs ∙ hb vs ∙ sym (with-lam a b vs))

  -- expansion leaves a term's variables
  pub variables_expanded : (t : Term) → variables (expand table t) ≡ variables t
  variables_expanded t = same_with t []
