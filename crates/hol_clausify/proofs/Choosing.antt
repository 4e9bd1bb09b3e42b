-- Chosen terms: what their closed terms are, and how they are shown in the kernel.
use Rattle.std.proofs.Common.{◌≡◌, ℕ, ◌+◌, Bool, IsTrue, List, ◌++◌, slice_get, ap, subst, refl, sym, ◌∙◌, Some, None}
use Rattle.std.specs.Prelude.{Option}
use Rattle.hol_terms.specs.declared.ty.Ty.{Ty}
use Rattle.hol_terms.specs.declared.konst.Konst.{Konst}
use Rattle.hol_terms.specs.declared.konst.Konst.TheVariants as konst
use Rattle.hol_terms.specs.declared.term.Term.{Term}
use Rattle.hol_terms.specs.Substitution.{closed_under, is_closed}
use Rattle.hol_terms.proofs.TermCases.{by_cases}
use Rattle.hol_terms.proofs.Both.{both_true, and_true}
use Rattle.hol_terms.proofs.Equations.{closed-free, closed-con, closed-app, closed-lam}
use Rattle.kernel_rules.specs.Connectives.{apply, constant, chosen}
use Rattle.lambda_lift.specs.declared.table.Aux.{Aux}
use Rattle.lambda_lift.specs.Tables.{expand, expanded_konst, expanded_at}
use Rattle.lambda_lift.proofs.Expansions.{grows_trans, entry_grows, expand_bound, expand_free, expand_con, expand_app, expand_lam}
use Rattle.formula_clauses.specs.Choices.{closed_over, closed_ty, applied_to, choice, with_choice, variables}
use Rattle.hol_clausify.specs.Laws.{ClosedTable, BareTable, ChosenShown, ChoiceStands}
use Rattle.hol_clausify.specs.Variables.{each_free, is_listed}
use Rattle.hol_clausify.specs.Refutations.{chosen_value}
use Rattle.hol_clausify.proofs.Wider.{closed_everywhere}
use Rattle.hol_clausify.proofs.Expanding.{known_same, konst_closed}
use Rattle.hol_clausify.proofs.Free.{free-con, free-lam, app_free, free_app, none_free, closed_over_var_free}
use Rattle.hol_clausify.proofs.Occurring.{all_listed}
use Rattle.hol_clausify.proofs.Placed.{variables_expanded}
use Rattle.hol_clausify.proofs.Chosen.{closed_over_closed, chosen_expanded}

-- ---- an expanded term has no more loose indexes
module _ (table : List Aux) (closed : ClosedTable table) where
  abbrev Closes : Term → Type 0
  Closes t = (k : ℕ) → IsTrue (closed_under t k) → IsTrue (closed_under (expand table t) k)

  closes_app : (f x : Term) → Closes f → Closes x → Closes (apply f x)
  closes_app f x hf hx k h =
      let both = both_true (closed_under f k) (closed_under x k) (subst IsTrue (closed-app f x k) h) in
      let g = expand table f in
      let y = expand table x in
      ap (λ t. closed_under t k) (expand_app table f x) ∙ closed-app g y k ∙ and_true (closed_under g k) (closed_under y k) (hf k both.0) (hx k both.1)

  pub closed_expanded : (t : Term) → Closes t
  closed_expanded =
      by_cases Closes (λ i k h. ap (λ t. closed_under t k) (expand_bound table i) ∙ h) (λ n a k h. ap (λ t. closed_under t k) (expand_free table n a) ∙ closed-free n a k)
      (λ c k h. ap (λ t. closed_under t k) (expand_con table c) ∙ closed_everywhere (expanded_konst table c) k (konst_closed table closed c)) closes_app
      (λ a b hb k h. ap (λ t. closed_under t k) (expand_lam table a b) ∙ closed-lam a (expand table b) k ∙ hb (k + 1) (subst IsTrue (closed-lam a b k) h))

-- ---- nor other variables
module _ (table : List Aux) (bare : BareTable table) (p : ℕ → Ty → Bool) where
  at_free : (k : ℕ) (o : Option Aux) → slice_get table k ≡ o → IsTrue (each_free p (expanded_at k o))
  at_free k None h = free-con p (konst.Aux k)
  at_free k (Some e) h = none_free p e.closed (bare k e h)

  konst_free : (k : Konst) → IsTrue (each_free p (expanded_konst table k))
  konst_free (konst.Aux k) = at_free k (slice_get table k) refl
  konst_free (konst.Named n) = free-con p (konst.Named n)
  konst_free konst.True = free-con p konst.True
  konst_free konst.False = free-con p konst.False
  konst_free konst.Not = free-con p konst.Not
  konst_free konst.And = free-con p konst.And
  konst_free konst.Or = free-con p konst.Or
  konst_free konst.Imp = free-con p konst.Imp
  konst_free (konst.Eq a) = free-con p (konst.Eq a)
  konst_free (konst.All a) = free-con p (konst.All a)
  konst_free (konst.Ex a) = free-con p (konst.Ex a)
  konst_free (konst.Eps a) = free-con p (konst.Eps a)

  abbrev Passes : Term → Type 0
  Passes t = IsTrue (each_free p t) → IsTrue (each_free p (expand table t))

  passes_app : (f x : Term) → Passes f → Passes x → Passes (apply f x)
  passes_app f x hf hx h =
      let both = app_free p f x h in ap (each_free p) (expand_app table f x) ∙ free_app p (expand table f) (expand table x) (hf both.0) (hx both.1)

  pub free_expanded : (t : Term) → Passes t
  free_expanded =
      by_cases Passes (λ i h. ap (each_free p) (expand_bound table i) ∙ h) (λ n a h. ap (each_free p) (expand_free table n a) ∙ h)
      (λ c h. ap (each_free p) (expand_con table c) ∙ konst_free c) passes_app
      (λ a b hb h. ap (each_free p) (expand_lam table a b) ∙ free-lam p a (expand table b) ∙ hb (subst IsTrue (free-lam p a b) h))

-- ---- the closed term of a choice
pub choice_stands : (table : List Aux) (types : List Ty) (a : Ty) (f : Term) → ChoiceStands table types a f
choice_stands table types a f closed bare loose numbered =
    let c = chosen a (expand table f) in
    let p = is_listed (variables f) in
    let eps = constant (konst.Eps a) in
    let tight : IsTrue (is_closed c) =
    closed-app eps (expand table f) 0 ∙ and_true (closed_under eps 0) (is_closed (expand table f)) (closed-con (konst.Eps a) 0) (closed_expanded table closed f 0 loose) in
    let listed : IsTrue (each_free p c) = free_app p eps (expand table f) (free-con p (konst.Eps a)) (free_expanded table bare p f (all_listed types f numbered)) in
    (closed_over_closed (variables f) c tight, closed_over_var_free (variables f) c listed)

-- ---- a chosen term in the kernel
pub chosen_shown : (table : List Aux) (a : Ty) (f : Term) (more : List Aux) → ChosenShown table a f more
chosen_shown table a f more bare known =
    let new = with_choice table a f ++ more in
    let grows = grows_trans table (with_choice table a f) new (entry_grows table (closed_ty (variables f) a) (choice table a f)) (record { more = more; is = refl }) in
    let same : expand new f ≡ expand table f = ap (λ t. expand t f) grows.is ∙ known_same table grows.more f known in
    let c = chosen a (expand table f) in
    chosen_expanded table a f more ∙ ap (λ vs. applied_to (closed_over vs c) vs) (sym (variables_expanded table bare f)) ∙ ap (chosen_value a) (sym same)
