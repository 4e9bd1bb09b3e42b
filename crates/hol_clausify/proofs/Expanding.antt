-- Expanded terms: over longer tables, and where a value is put in.
use Rattle.std.proofs.Common.{◌≡◌, ℕ, ◌+◌, ◌-◌, ◌<◌, Bool, ◌&&◌, nat_lt, if◌then◌else◌, IsTrue, List, ◌++◌, length, slice_get, get_or, ap, subst, refl, sym, ◌∙◌, Some, None, arith}
use Rattle.std.specs.Prelude.{Option}
use Rattle.std.proofs.lemmas.Option.{slice_get-get_or}
use Rattle.hol_terms.specs.declared.ty.Ty.{Ty}
use Rattle.hol_terms.specs.declared.konst.Konst.{Konst}
use Rattle.hol_terms.specs.declared.konst.Konst.TheVariants as konst
use Rattle.hol_terms.specs.declared.term.Term.{Term, roll-Term}
use Rattle.hol_terms.specs.declared.term.Term.TheOpen.{Term-F}
use Rattle.hol_terms.specs.declared.term.Term.TheFolds.{fold-roll-Term}
use Rattle.hol_terms.specs.Substitution.{lift, put, is_closed}
use Rattle.hol_terms.proofs.TermCases.{by_cases}
use Rattle.hol_terms.proofs.Both.{both_true}
use Rattle.hol_terms.proofs.Closed.{lift_closed}
use Rattle.hol_terms.proofs.Equations.{closed-con, lift-bound, lift-free, lift-con, lift-app, lift-lam, put-free, put-con, put-app, put-lam}
use Rattle.kernel_rules.specs.Connectives.{apply, lambda, constant}
use Rattle.lambda_lift.specs.declared.table.Aux.{Aux}
use Rattle.lambda_lift.specs.Tables.{expand, expanded_konst, expanded_at}
use Rattle.lambda_lift.specs.Standing.{aux_below, below_step, konst_below}
use Rattle.lambda_lift.specs.Lifting.{no_entry}
use Rattle.lambda_lift.proofs.Expansions.{expand_bound, expand_free, expand_con, expand_app, expand_lam, within}
use Rattle.hol_derived.proofs.PutPut.{bound, put_below, put_here, put_above}
use Rattle.hol_clausify.specs.Laws.{KnownStays, ClosedTable}
use Rattle.hol_clausify.proofs.Wider.{less, closed_everywhere, put_everywhere}

-- ---- a longer table
module _ (n : ℕ) where
  pub below-con : (k : Konst) → aux_below n (constant k) ≡ konst_below n k
  below-con k = fold-roll-Term Bool (below_step n) (Term-F.Con k)

  pub below-app : (f x : Term) → aux_below n (apply f x) ≡ (aux_below n f && aux_below n x)
  below-app f x = fold-roll-Term Bool (below_step n) (Term-F.App f x)

  pub below-lam : (a : Ty) (b : Term) → aux_below n (lambda a b) ≡ aux_below n b
  below-lam a b = fold-roll-Term Bool (below_step n) (Term-F.Lam a b)

module _ (table more : List Aux) where
  abbrev Same : Term → Type 0
  Same t = KnownStays table more t

  konst_same : (k : Konst) → IsTrue (konst_below (length table) k) → expanded_konst (table ++ more) k ≡ expanded_konst table k
  konst_same (konst.Aux k) h =
      let e = get_or table k no_entry in
      let at : slice_get table k ≡ Some e = slice_get-get_or table k no_entry (less k (length table) h) in
      ap (expanded_at k) (within table k e at more ∙ sym at)
  konst_same (konst.Named n) h = refl
  konst_same konst.True h = refl
  konst_same konst.False h = refl
  konst_same konst.Not h = refl
  konst_same konst.And h = refl
  konst_same konst.Or h = refl
  konst_same konst.Imp h = refl
  konst_same (konst.Eq a) h = refl
  konst_same (konst.All a) h = refl
  konst_same (konst.Ex a) h = refl
  konst_same (konst.Eps a) h = refl

  same_con : (k : Konst) → Same (constant k)
  same_con k h = expand_con (table ++ more) k ∙ konst_same k (subst IsTrue (below-con (length table) k) h) ∙ sym (expand_con table k)

  same_app : (f x : Term) → Same f → Same x → Same (apply f x)
  same_app f x hf hx h =
      let n = length table in
      let parts = both_true (aux_below n f) (aux_below n x) (subst IsTrue (below-app n f x) h) in
      expand_app (table ++ more) f x ∙ (λ i. apply (hf parts.0 i) (hx parts.1 i)) ∙ sym (expand_app table f x)

  same_lam : (a : Ty) (b : Term) → Same b → Same (lambda a b)
  same_lam a b hb h = expand_lam (table ++ more) a b ∙ ap (lambda a) (hb (subst IsTrue (below-lam (length table) a b) h)) ∙ sym (expand_lam table a b)

  pub known_same : (t : Term) → Same t
  known_same =
      by_cases Same (λ i h. expand_bound (table ++ more) i ∙ sym (expand_bound table i)) (λ n a h. expand_free (table ++ more) n a ∙ sym (expand_free table n a)) same_con same_app same_lam

-- ---- a value that is put in
module _ (table : List Aux) (closed : ClosedTable table) where
  at_closed : (k : ℕ) (o : Option Aux) → slice_get table k ≡ o → IsTrue (is_closed (expanded_at k o))
  at_closed k None h = closed-con (konst.Aux k) 0
  at_closed k (Some e) h = closed k e h

  pub konst_closed : (k : Konst) → IsTrue (is_closed (expanded_konst table k))
  konst_closed (konst.Aux k) = at_closed k (slice_get table k) refl
  konst_closed (konst.Named n) = closed-con (konst.Named n) 0
  konst_closed konst.True = closed-con konst.True 0
  konst_closed konst.False = closed-con konst.False 0
  konst_closed konst.Not = closed-con konst.Not 0
  konst_closed konst.And = closed-con konst.And 0
  konst_closed konst.Or = closed-con konst.Or 0
  konst_closed konst.Imp = closed-con konst.Imp 0
  konst_closed (konst.Eq a) = closed-con (konst.Eq a) 0
  konst_closed (konst.All a) = closed-con (konst.All a) 0
  konst_closed (konst.Ex a) = closed-con (konst.Ex a) 0
  konst_closed (konst.Eps a) = closed-con (konst.Eps a) 0

  abbrev Raised : Term → Type 0
  Raised t = (by k : ℕ) → expand table (lift by t k) ≡ lift by (expand table t) k

  raised_bound : (i : ℕ) → Raised (bound i)
  raised_bound i by k =
      let j = if nat_lt i k then i else i + by in
      ap (expand table) (lift-bound by i k) ∙ expand_bound table j ∙ sym (ap (λ t. lift by t k) (expand_bound table i) ∙ lift-bound by i k)

  raised_free : (n : ℕ) (a : Ty) → Raised (roll-Term (Term-F.Free n a))
  raised_free n a by k = ap (expand table) (lift-free by n a k) ∙ expand_free table n a ∙ sym (ap (λ t. lift by t k) (expand_free table n a) ∙ lift-free by n a k)

  raised_con : (c : Konst) → Raised (constant c)
  raised_con c by k =
      ap (expand table) (lift-con by c k) ∙ expand_con table c ∙ sym (lift_closed by (expanded_konst table c) k (closed_everywhere (expanded_konst table c) k (konst_closed c)))
      ∙ ap (λ t. lift by t k) (sym (expand_con table c))

  raised_app : (f x : Term) → Raised f → Raised x → Raised (apply f x)
  raised_app f x hf hx by k =
      ap (expand table) (lift-app by f x k) ∙ expand_app table (lift by f k) (lift by x k) ∙ (λ i. apply (hf by k i) (hx by k i))
      ∙ sym (ap (λ t. lift by t k) (expand_app table f x) ∙ lift-app by (expand table f) (expand table x) k)

  raised_lam : (a : Ty) (b : Term) → Raised b → Raised (lambda a b)
  raised_lam a b hb by k =
      ap (expand table) (lift-lam by a b k) ∙ expand_lam table a (lift by b (k + 1)) ∙ ap (lambda a) (hb by (k + 1))
      ∙ sym (ap (λ t. lift by t k) (expand_lam table a b) ∙ lift-lam by a (expand table b) k)

  expand_lifted : (t : Term) → Raised t
  expand_lifted t = by_cases Raised raised_bound raised_free raised_con raised_app raised_lam t

  module _ (u : Term) where
    abbrev Put : Term → Type 0
    Put t = (k : ℕ) → expand table (put u t k) ≡ put (expand table u) (expand table t) k

    put_low : (i k : ℕ) → i < k → expand table (put u (bound i) k) ≡ put (expand table u) (expand table (bound i)) k
    put_low i k h = ap (expand table) (put_below u i k h) ∙ expand_bound table i ∙ sym (ap (λ t. put (expand table u) t k) (expand_bound table i) ∙ put_below (expand table u) i k h)

    put_same : (i k : ℕ) → i ≡ k → expand table (put u (bound i) k) ≡ put (expand table u) (expand table (bound i)) k
    put_same i k h =
        ap (expand table) (put_here u i k h) ∙ expand_lifted u k 0 ∙ sym (ap (λ t. put (expand table u) t k) (expand_bound table i) ∙ put_here (expand table u) i k h)

    put_high : (i k : ℕ) → k < i → expand table (put u (bound i) k) ≡ put (expand table u) (expand table (bound i)) k
    put_high i k h =
        ap (expand table) (put_above u i k h) ∙ expand_bound table (i - 1) ∙ sym (ap (λ t. put (expand table u) t k) (expand_bound table i) ∙ put_above (expand table u) i k h)

    put_bound : (i : ℕ) → Put (bound i)
    put_bound i k = grind (arith, put_low i k, put_same i k, put_high i k)

    put_free : (n : ℕ) (a : Ty) → Put (roll-Term (Term-F.Free n a))
    put_free n a k = ap (expand table) (put-free u n a k) ∙ expand_free table n a ∙ sym (ap (λ t. put (expand table u) t k) (expand_free table n a) ∙ put-free (expand table u) n a k)

    put_con : (c : Konst) → Put (constant c)
    put_con c k =
        ap (expand table) (put-con u c k) ∙ expand_con table c ∙ sym (put_everywhere (expand table u) (expanded_konst table c) k (konst_closed c))
        ∙ ap (λ t. put (expand table u) t k) (sym (expand_con table c))

    put_app : (f x : Term) → Put f → Put x → Put (apply f x)
    put_app f x hf hx k =
        ap (expand table) (put-app u f x k) ∙ expand_app table (put u f k) (put u x k) ∙ (λ i. apply (hf k i) (hx k i))
        ∙ sym (ap (λ t. put (expand table u) t k) (expand_app table f x) ∙ put-app (expand table u) (expand table f) (expand table x) k)

    put_lam : (a : Ty) (b : Term) → Put b → Put (lambda a b)
    put_lam a b hb k =
        ap (expand table) (put-lam u a b k) ∙ expand_lam table a (put u b (k + 1)) ∙ ap (lambda a) (hb (k + 1))
        ∙ sym (ap (λ t. put (expand table u) t k) (expand_lam table a b) ∙ put-lam (expand table u) a (expand table b) k)

    pub expand_put : (t : Term) → Put t
    expand_put t = by_cases Put put_bound put_free put_con put_app put_lam t
