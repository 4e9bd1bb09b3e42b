-- Terms put in for the indexes of a scope: their types, and that no lambda comes with them.
use Rattle.std.proofs.Common.{◌≡◌, ℕ, zero, suc, ◌+◌, ◌-◌, ◌<◌, ◌≤◌, Bool, true, false, ◌&&◌, nat_lt, if◌then◌else◌, IsTrue, List, [], ◌∷◌, ◌++◌, length, slice_get, ap, subst, refl, sym, ◌∙◌, Some, None, arith, add-one}
use Rattle.std.specs.Prelude.{Option, unwrap_or}
use Rattle.std.proofs.lemmas.Bool.Decides.{nat_tests}
use Rattle.hol_terms.specs.declared.ty.Ty.{Ty}
use Rattle.hol_terms.specs.declared.sig.Sig.{Sig}
use Rattle.hol_terms.specs.declared.konst.Konst.{Konst}
use Rattle.hol_terms.specs.declared.term.Term.{Term}
use Rattle.hol_terms.specs.declared.term.Term.TheOpen.{Term-F}
use Rattle.hol_terms.specs.declared.term.Term.TheFolds.{fold-roll-Term}
use Rattle.hol_terms.specs.Types.{function_ty}
use Rattle.hol_terms.specs.Typing.{type_in, type_of_term, applied, under}
use Rattle.hol_terms.proofs.TermCases.{by_cases}
use Rattle.hol_terms.proofs.Both.{both_true, and_true}
use Rattle.hol_terms.proofs.Closed.{typed_closed}
use Rattle.hol_terms.proofs.Preserves.{slice_get_front, type_closed}
use Rattle.hol_terms.proofs.TypedParts.{applied_fits, applied_parts, under_parts, under_so}
use Rattle.hol_terms.proofs.Equations.{type-bound, type-free, type-con, type-app, type-lam}
use Rattle.kernel_rules.specs.Connectives.{apply, lambda, constant}
use Rattle.lambda_lift.specs.Standing.{Each}
use Rattle.hol_derived.proofs.PutPut.{bound}
use Rattle.fol_encode.specs.Laws.{lambda_free, lambda_free_step}
use Rattle.formula_clauses.specs.Choices.{Variable, put_in, applied_to}
use Rattle.hol_clausify.proofs.Opening.{free}
use Rattle.hol_clausify.proofs.Wider.{less_told}
use Rattle.hol_clausify.proofs.Scopes.{put_in-bound, put_in-free, put_in-con, put_in-app, put_in-lam, in_below, in_above}

-- ---- types
-- the scope's terms have the types of the binders
abbrev pub Scoped : Sig → List Term → List Ty → Type 0
Scoped s [] [] = Unit {0}
Scoped s [] (a ∷ c) = ⊥
Scoped s (t ∷ e) [] = ⊥
Scoped s (t ∷ e) (a ∷ c) = (type_of_term s t ≡ Some a) × Scoped s e c

pub record Got (s : Sig) (e : List Term) (i : ℕ) (a : Ty) : Type 0 where
  pub term : Term
  pub at : slice_get e i ≡ Some term
  pub typed : type_of_term s term ≡ Some a

pub scoped_got : (s : Sig) (e : List Term) (c : List Ty) (i : ℕ) (a : Ty) → Scoped s e c → slice_get c i ≡ Some a → Got s e i a
scoped_got s [] [] i a h g = cc
scoped_got s [] (b ∷ c) i a h g = absurd h
scoped_got s (t ∷ e) [] i a h g = absurd h
scoped_got s (t ∷ e) (b ∷ c) zero a h g = record { term = t; at = refl; typed = h.0 ∙ g }
scoped_got s (t ∷ e) (b ∷ c) (suc i) a h g = let inner = scoped_got s e c i a h.1 g in record { term = inner.term; at = inner.at; typed = inner.typed }

pub scoped_long : (s : Sig) (e : List Term) (c : List Ty) → Scoped s e c → length e ≡ length c
scoped_long s [] [] h = refl
scoped_long s [] (b ∷ c) h = absurd h
scoped_long s (t ∷ e) [] h = absurd h
scoped_long s (t ∷ e) (b ∷ c) h = ap suc (scoped_long s e c h.1)

get_back : {X : Type 0} (c d : List X) (i : ℕ) → length c ≤ i → slice_get (c ++ d) i ≡ slice_get d (i - length c)
get_back [] d i h = let same : i ≡ i - 0 = omega arith in ap (slice_get d) same
get_back (x ∷ c) d zero h = absurd (omega (arith, h))
get_back (x ∷ c) d (suc i) h =
    let less : length c ≤ i = omega (arith, h) in
    let same : i - length c ≡ suc i - suc (length c) = omega arith in
    get_back c d i less ∙ ap (slice_get d) same

module _ (s : Sig) (e : List Term) (scope : List Ty) (scoped : Scoped s e scope) where
  abbrev Put : Term → Type 0
  Put t = (d : List Ty) (a : Ty) → type_in s t (d ++ scope) ≡ Some a → type_in s (put_in e t (length d)) d ≡ Some a

  low : (i : ℕ) (d : List Ty) (a : Ty) → nat_lt i (length d) ≡ true → slice_get (d ++ scope) i ≡ Some a → type_in s (put_in e (bound i) (length d)) d ≡ Some a
  low i d a h g =
      let below : i < length d = grind (arith, nat_tests, h) in
      ap (λ t. type_in s t d) (in_below e i (length d) below) ∙ type-bound s i d ∙ sym (slice_get_front d scope i h) ∙ g

  high : (i : ℕ) (d : List Ty) (a : Ty) → nat_lt i (length d) ≡ false → slice_get (d ++ scope) i ≡ Some a → type_in s (put_in e (bound i) (length d)) d ≡ Some a
  high i d a h g =
      let beyond : length d < i + 1 = grind (arith, nat_tests, h) in
      let least : length d ≤ i = omega arith in
      let got = scoped_got s e scope (i - length d) a scoped (sym (get_back d scope i least) ∙ g) in
      ap (λ t. type_in s t d) (in_above e i (length d) got.term beyond got.at) ∙ type_closed s got.term [] d (typed_closed s got.term [] a got.typed) ∙ got.typed

  put_bound : (i : ℕ) → Put (bound i)
  put_bound i d a h = at (nat_lt i (length d)) refl where
    at : (b : Bool) → nat_lt i (length d) ≡ b → type_in s (put_in e (bound i) (length d)) d ≡ Some a
    at true k = low i d a k (sym (type-bound s i (d ++ scope)) ∙ h)
    at false k = high i d a k (sym (type-bound s i (d ++ scope)) ∙ h)

  put_app : (f x : Term) → Put f → Put x → Put (apply f x)
  put_app f x hf hx d a h =
      let from = applied_parts (type_in s f (d ++ scope)) (type_in s x (d ++ scope)) a (sym (type-app s f x (d ++ scope)) ∙ h) in
      let n = length d in
      ap (λ t. type_in s t d) (put_in-app e f x n) ∙ type-app s (put_in e f n) (put_in e x n) d
      ∙ (λ i. applied (hf d (function_ty from.0 a) from.1.0 i) (hx d from.0 from.1.1 i)) ∙ applied_fits from.0 a

  put_lam : (b : Ty) (t : Term) → Put t → Put (lambda b t)
  put_lam b t ht d a h =
      let from = under_parts s.types b (type_in s t (b ∷ (d ++ scope))) a (sym (type-lam s b t (d ++ scope)) ∙ h) in
      let n = length d in
      let inner : type_in s (put_in e t (n + 1)) (b ∷ d) ≡ Some from.0 = subst (λ m. type_in s (put_in e t m) (b ∷ d) ≡ Some from.0) (sym (add-one n)) (ht (b ∷ d) from.0 from.1.0) in
      ap (λ z. type_in s z d) (put_in-lam e b t n) ∙ type-lam s b (put_in e t (n + 1)) d ∙ under_so s.types b (type_in s (put_in e t (n + 1)) (b ∷ d)) from.0 inner from.1.1.1
      ∙ ap Some (sym from.1.1.0)

  pub put_typed : (t : Term) → Put t
  put_typed =
      by_cases Put put_bound (λ n b d a h. ap (λ t. type_in s t d) (put_in-free e n b (length d)) ∙ type-free s n b d ∙ sym (type-free s n b (d ++ scope)) ∙ h)
      (λ k d a h. ap (λ t. type_in s t d) (put_in-con e k (length d)) ∙ type-con s k d ∙ sym (type-con s k (d ++ scope)) ∙ h) put_app put_lam

-- ---- lambdas
pub plain-bound : (i : ℕ) → IsTrue (lambda_free (bound i))
plain-bound i = fold-roll-Term Bool lambda_free_step (Term-F.Bound i)

pub plain-free : (n : ℕ) (a : Ty) → IsTrue (lambda_free (free n a))
plain-free n a = fold-roll-Term Bool lambda_free_step (Term-F.Free n a)

pub plain-con : (k : Konst) → IsTrue (lambda_free (constant k))
plain-con k = fold-roll-Term Bool lambda_free_step (Term-F.Con k)

pub plain-app : (f x : Term) → lambda_free (apply f x) ≡ (lambda_free f && lambda_free x)
plain-app f x = fold-roll-Term Bool lambda_free_step (Term-F.App f x)

pub plain-lam : (a : Ty) (b : Term) → lambda_free (lambda a b) ≡ false
plain-lam a b = fold-roll-Term Bool lambda_free_step (Term-F.Lam a b)

pub plain_app : (f x : Term) → IsTrue (lambda_free f) → IsTrue (lambda_free x) → IsTrue (lambda_free (apply f x))
plain_app f x h k = plain-app f x ∙ and_true (lambda_free f) (lambda_free x) h k

pub applied_plain : (vs : List Variable) (f : Term) → IsTrue (lambda_free f) → IsTrue (lambda_free (applied_to f vs))
applied_plain [] f h = h
applied_plain (v ∷ vs) f h = applied_plain vs (apply f (free v.0 v.1)) (plain_app f (free v.0 v.1) h (plain-free v.0 v.1))

module _ (e : List Term) (all : Each (λ t. IsTrue (lambda_free t)) e) where
  abbrev Plain : Term → Type 0
  Plain t = (d : ℕ) → IsTrue (lambda_free t) → IsTrue (lambda_free (put_in e t d))

  got_plain : (i j : ℕ) (o : Option Term) → slice_get e j ≡ o → IsTrue (lambda_free (unwrap_or o (bound i)))
  got_plain i j None h = plain-bound i
  got_plain i j (Some u) h = all j u h

  plain_either : (i d : ℕ) (c : Bool) → IsTrue (lambda_free (if c then bound i else unwrap_or (slice_get e (i - d)) (bound i)))
  plain_either i d true = plain-bound i
  plain_either i d false = got_plain i (i - d) (slice_get e (i - d)) refl

  plain_lam : (a : Ty) (b : Term) → Plain (lambda a b)
  plain_lam a b d h = let none : false ≡ true = sym (plain-lam a b) ∙ h in cc

  pub put_plain : (t : Term) → Plain t
  put_plain =
      by_cases Plain (λ i d h. ap lambda_free (put_in-bound e i d) ∙ plain_either i d (nat_lt i d)) (λ n a d h. ap lambda_free (put_in-free e n a d) ∙ h)
      (λ k d h. ap lambda_free (put_in-con e k d) ∙ h)
      (λ f x hf hx d h. let both = both_true (lambda_free f) (lambda_free x) (sym (plain-app f x) ∙ h) in ap lambda_free (put_in-app e f x d) ∙ plain_app (put_in e f d) (put_in e x d) (hf d both.0) (hx d both.1))
      (λ a b hb d h. plain_lam a b d h)
