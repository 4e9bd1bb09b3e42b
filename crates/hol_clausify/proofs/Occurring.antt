-- The variables of a term whose numbers tell the types.
use Rattle.std.proofs.Common.{◌≡◌, ℕ, Bool, true, false, ◌||◌, ◌==◌, IsTrue, List, [], ◌∷◌, slice_get, ap, subst, refl, sym, ◌∙◌, Some, None, arith}
use Rattle.std.specs.Prelude.{Option}
use Rattle.std.specs.declared.cmp.Ordering.{Ordering}
use Rattle.std.specs.declared.cmp.Ordering.TheVariants.{Less, Equal, Greater}
use Rattle.std.specs.Ordering.{nat_cmp, match_ordering}
use Rattle.std.specs.FinMap.{nat_cmp-IsAntisymmetric}
use Rattle.std.specs.BTreeMap.{insert_entry}
use Rattle.std.proofs.lemmas.Bool.Decides.{nat_tests}
use Rattle.hol_terms.specs.declared.ty.Ty.{Ty}
use Rattle.hol_terms.specs.declared.konst.Konst.{Konst}
use Rattle.hol_terms.specs.declared.term.Term.{Term}
use Rattle.hol_terms.specs.declared.term.Term.TheOpen.{Term-F}
use Rattle.hol_terms.specs.declared.term.Term.TheFolds.{fold-roll-Term}
use Rattle.hol_terms.specs.Types.{is_ty}
use Rattle.hol_terms.specs.Formulas.{has_ty}
use Rattle.hol_terms.proofs.TermCases.{by_cases}
use Rattle.hol_terms.proofs.TyCases.{is_ty_itself, is_ty_same}
use Rattle.hol_terms.proofs.Both.{and_true}
use Rattle.kernel_rules.specs.Connectives.{apply, lambda, constant}
use Rattle.hol_derived.proofs.PutPut.{bound}
use Rattle.formula_clauses.specs.Choices.{Variable, variables, variables_with, variables_step}
use Rattle.hol_clausify.specs.Variables.{each_free, is_variable, is_listed, has_number}
use Rattle.hol_clausify.proofs.Opening.{free}
use Rattle.hol_clausify.proofs.Free.{free-bound, free-free, free-con, free-lam, app_free, free_app, free_weaker}

number_itself : (n : ℕ) → (n == n) ≡ true
number_itself n = grind (arith, nat_tests)

equal_number : (m n : ℕ) → nat_cmp m n ≡ Equal → m ≡ n
equal_number m n h = nat_cmp-IsAntisymmetric m n h

-- ---- one equation for each constructor
pub with-bound : (i : ℕ) (vs : List Variable) → variables_with (bound i) vs ≡ vs
with-bound i vs = ap (λ g. g vs) (fold-roll-Term (List Variable → List Variable) variables_step (Term-F.Bound i))

pub with-free : (n : ℕ) (a : Ty) (vs : List Variable) → variables_with (free n a) vs ≡ insert_entry nat_cmp vs n a
with-free n a vs = ap (λ g. g vs) (fold-roll-Term (List Variable → List Variable) variables_step (Term-F.Free n a))

pub with-con : (k : Konst) (vs : List Variable) → variables_with (constant k) vs ≡ vs
with-con k vs = ap (λ g. g vs) (fold-roll-Term (List Variable → List Variable) variables_step (Term-F.Con k))

pub with-app : (f x : Term) (vs : List Variable) → variables_with (apply f x) vs ≡ variables_with x (variables_with f vs)
with-app f x vs = ap (λ g. g vs) (fold-roll-Term (List Variable → List Variable) variables_step (Term-F.App f x))

pub with-lam : (a : Ty) (b : Term) (vs : List Variable) → variables_with (lambda a b) vs ≡ variables_with b vs
with-lam a b vs = ap (λ g. g vs) (fold-roll-Term (List Variable → List Variable) variables_step (Term-F.Lam a b))

-- ---- variables whose numbers tell their types
module _ (types : List Ty) where
  abbrev pub Numbered : List Variable → Type 0
  Numbered [] = Unit {0}
  Numbered (v ∷ vs) = IsTrue (has_number types v.0 v.1) × Numbered vs

  has_same : (o : Option Ty) (a b : Ty) → IsTrue (has_ty o a) → IsTrue (has_ty o b) → a ≡ b
  has_same None a b h k = cc
  has_same (Some c) a b h k = sym (is_ty_same c a h) ∙ is_ty_same c b k

  own_variable : (n : ℕ) (a : Ty) → IsTrue (is_variable n a n a)
  own_variable n a = and_true (n == n) (is_ty a a) (number_itself n) (is_ty_itself a)

  first_true : (a b : Bool) → IsTrue a → IsTrue (a || b)
  first_true true b h = refl
  first_true false b h = cc

  second_true : (a b : Bool) → IsTrue b → IsTrue (a || b)
  second_true true b h = refl
  second_true false b h = h

  either_more : (a b c : Bool) → (IsTrue b → IsTrue c) → IsTrue (a || b) → IsTrue (a || c)
  either_more true b c f h = refl
  either_more false b c f h = f h

  -- what an insertion makes
  record Inserted (vs rs : List Variable) (n : ℕ) (a : Ty) : Type 0 where
    numbered : Numbered rs
    there : IsTrue (is_listed rs n a)
    rest : (m : ℕ) (b : Ty) → IsTrue (is_listed vs m b) → IsTrue (is_listed rs m b)

  insert_at : (v : Variable) (vs rs : List Variable) (n : ℕ) (a : Ty) (o : Ordering) → (o ≡ Equal → n ≡ v.0) → Numbered (v ∷ vs) → IsTrue (has_number types n a) → Inserted vs rs n a →
      Inserted (v ∷ vs) (match_ordering o ((n, a) ∷ v ∷ vs) ((v.0, a) ∷ vs) (v ∷ rs)) n a
  insert_at v vs rs n a Less same h k r =
      record {
        numbered = (k, h);
        there = first_true (is_variable n a n a) (is_listed (v ∷ vs) n a) (own_variable n a);
        rest = λ m b g. second_true (is_variable n a m b) (is_listed (v ∷ vs) m b) g;
      }
  insert_at v vs rs n a Equal same h k r =
      let number : n ≡ v.0 = same refl in
      let ty : a ≡ v.1 = has_same (slice_get types v.0) a v.1 (subst (λ m. IsTrue (has_number types m a)) number k) h.0 in
      record {
        numbered = (subst (λ m. IsTrue (has_number types m a)) number k, h.1);
        there = first_true (is_variable v.0 a n a) (is_listed vs n a) (subst (λ m. IsTrue (is_variable m a n a)) number (own_variable n a));
        rest = λ m b g. subst (λ c. IsTrue (is_variable v.0 c m b || is_listed vs m b)) (sym ty) g;
      }
  insert_at v vs rs n a Greater same h k r =
      record {
        numbered = (h.0, r.numbered);
        there = second_true (is_variable v.0 v.1 n a) (is_listed rs n a) r.there;
        rest = λ m b g. either_more (is_variable v.0 v.1 m b) (is_listed vs m b) (is_listed rs m b) (r.rest m b) g;
      }

  inserted : (vs : List Variable) (n : ℕ) (a : Ty) → Numbered vs → IsTrue (has_number types n a) → Inserted vs (insert_entry nat_cmp vs n a) n a
  inserted [] n a h k = record { numbered = (k, tt); there = first_true (is_variable n a n a) false (own_variable n a); rest = λ m b g. cc }
  inserted (v ∷ vs) n a h k =
      insert_at v vs (insert_entry nat_cmp vs n a) n a (nat_cmp n v.0) (equal_number n v.0) h k (inserted vs n a h.1 k)

  -- ---- the variables of a term
  record Collected (t : Term) (vs rs : List Variable) : Type 0 where
    numbered : Numbered rs
    there : IsTrue (each_free (is_listed rs) t)
    rest : (m : ℕ) (b : Ty) → IsTrue (is_listed vs m b) → IsTrue (is_listed rs m b)

  abbrev Collects : Term → Type 0
  Collects t = (vs : List Variable) → Numbered vs → IsTrue (each_free (has_number types) t) → Collected t vs (variables_with t vs)

  kept_as : (t : Term) (vs rs : List Variable) → variables_with t vs ≡ rs → Collected t vs rs → Collected t vs (variables_with t vs)
  kept_as t vs rs e c = subst (Collected t vs) (sym e) c

  collects_bound : (i : ℕ) → Collects (bound i)
  collects_bound i vs h k = kept_as (bound i) vs vs (with-bound i vs) (record { numbered = h; there = free-bound (is_listed vs) i; rest = λ m b g. g })

  collects_con : (c : Konst) → Collects (constant c)
  collects_con c vs h k = kept_as (constant c) vs vs (with-con c vs) (record { numbered = h; there = free-con (is_listed vs) c; rest = λ m b g. g })

  collects_free : (n : ℕ) (a : Ty) → Collects (free n a)
  collects_free n a vs h k =
      let rs = insert_entry nat_cmp vs n a in
      let i = inserted vs n a h (subst IsTrue (free-free (has_number types) n a) k) in
      kept_as (free n a) vs rs (with-free n a vs) (record { numbered = i.numbered; there = free-free (is_listed rs) n a ∙ i.there; rest = i.rest })

  collects_app : (f x : Term) → Collects f → Collects x → Collects (apply f x)
  collects_app f x hf hx vs h k =
      let both = app_free (has_number types) f x k in
      let us = variables_with f vs in
      let rs = variables_with x us in
      let l = hf vs h both.0 in
      let r = hx us l.numbered both.1 in
      kept_as (apply f x) vs rs (with-app f x vs)
      (record {
        numbered = r.numbered;
        there = free_app (is_listed rs) f x (free_weaker (is_listed us) (is_listed rs) r.rest f l.there) r.there;
        rest = λ m b g. r.rest m b (l.rest m b g);
      })

  collects_lam : (a : Ty) (t : Term) → Collects t → Collects (lambda a t)
  collects_lam a t ht vs h k =
      let rs = variables_with t vs in
      let r = ht vs h (subst IsTrue (free-lam (has_number types) a t) k) in
      kept_as (lambda a t) vs rs (with-lam a t vs) (record { numbered = r.numbered; there = free-lam (is_listed rs) a t ∙ r.there; rest = r.rest })

  collects : (t : Term) → Collects t
  collects t = by_cases Collects collects_bound collects_free collects_con collects_app collects_lam t

  -- each free variable is among the term's variables
  pub all_listed : (t : Term) → IsTrue (each_free (has_number types) t) → IsTrue (each_free (is_listed (variables t)) t)
  all_listed t h = (collects t [] tt h).there

  pub all_numbered : (t : Term) → IsTrue (each_free (has_number types) t) → Numbered (variables t)
  all_numbered t h = (collects t [] tt h).numbered
