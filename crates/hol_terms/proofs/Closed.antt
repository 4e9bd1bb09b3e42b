-- Terms without loose indexes: they stay as they are when they are lifted, and those that have a type are closed.
use Rattle.std.proofs.Common.{◌≡◌, ℕ, zero, suc, ◌+◌, IsTrue, subst, refl, sym, ◌∙◌, rules, arith, List, [], ◌∷◌, length, slice_get, nat_lt, Some, None}
use Rattle.std.specs.Prelude.{Option}
use Rattle.hol_terms.specs.declared.ty.Ty.{Ty}
use Rattle.hol_terms.specs.declared.konst.Konst.{Konst}
use Rattle.hol_terms.specs.declared.sig.Sig.{Sig}
use Rattle.hol_terms.specs.declared.term.Term.{Term, roll-Term}
use Rattle.hol_terms.specs.declared.term.Term.TheOpen.{Term-F}
use Rattle.hol_terms.specs.declared.term.Term.TheFolds.{the_lemmas}
use Rattle.hol_terms.specs.Substitution.{lift, closed_under}
use Rattle.hol_terms.specs.Typing.{type_in, applied, under}
use Rattle.hol_terms.proofs.TermCases.{by_cases}
use Rattle.hol_terms.proofs.Both.{both_true, and_true}
use Rattle.hol_terms.proofs.Equations.{closed-bound, closed-free, closed-con, closed-app, closed-lam, lift-app, type-bound, type-app, type-lam}

abbrev Kept : ℕ → Term → Type 0
Kept by t = (k : ℕ) → IsTrue (closed_under t k) → lift by t k ≡ t

bound : (by i : ℕ) → Kept by (roll-Term (Term-F.Bound i))
bound by i k h = search (rules, the_lemmas)

free : (by n : ℕ) (a : Ty) → Kept by (roll-Term (Term-F.Free n a))
free by n a k h = search (rules, the_lemmas)

con : (by : ℕ) (c : Konst) → Kept by (roll-Term (Term-F.Con c))
con by c k h = search (rules, the_lemmas)

app : (by : ℕ) (f x : Term) → Kept by f → Kept by x → Kept by (roll-Term (Term-F.App f x))
app by f x hf hx k h =
    let both = both_true (closed_under f k) (closed_under x k) (subst IsTrue (closed-app f x k) h) in
    let left = hf k both.0 in
    let right = hx k both.1 in
    rw (lift-app by f x k, left, right) refl

lam : (by : ℕ) (a : Ty) (b : Term) → Kept by b → Kept by (roll-Term (Term-F.Lam a b))
lam by a b hb k h = search (rules, the_lemmas)

pub lift_closed : (by : ℕ) (t : Term) (k : ℕ) → IsTrue (closed_under t k) → lift by t k ≡ t
lift_closed by t = by_cases (Kept by) (bound by) (free by) (con by) (app by) (lam by) t

-- ---- a term that has a type under binders has no index beyond them

abbrev Typed : Sig → Term → Type 0
Typed sig t = (c : List Ty) (s : Ty) → type_in sig t c ≡ Some s → IsTrue (closed_under t (length c))

within : (c : List Ty) (i : ℕ) (s : Ty) → slice_get c i ≡ Some s → IsTrue (nat_lt i (length c))
within [] i s h = cc
within (x ∷ c) zero s h = search rules
within (x ∷ c) (suc i) s h = let inner = within c i s h in search (rules, inner)

typed_parts : (f x : Option Ty) (s : Ty) → applied f x ≡ Some s → ((a : Ty) × (f ≡ Some a)) × ((b : Ty) × (x ≡ Some b))
typed_parts None x s h = cc
typed_parts (Some f) None s h = cc
typed_parts (Some f) (Some x) s h = ((f, refl), (x, refl))

typed_body : (types : ℕ) (a : Ty) (b : Option Ty) (s : Ty) → under types a b ≡ Some s → (c : Ty) × (b ≡ Some c)
typed_body types a None s h = cc
typed_body types a (Some b) s h = (b, refl)

typed_bound : (sig : Sig) (i : ℕ) → Typed sig (roll-Term (Term-F.Bound i))
typed_bound sig i c s h = closed-bound i (length c) ∙ within c i s (sym (type-bound sig i c) ∙ h)

typed_app : (sig : Sig) (f x : Term) → Typed sig f → Typed sig x → Typed sig (roll-Term (Term-F.App f x))
typed_app sig f x hf hx c s h =
    let parts = typed_parts (type_in sig f c) (type_in sig x c) s (sym (type-app sig f x c) ∙ h) in
    closed-app f x (length c) ∙ and_true (closed_under f (length c)) (closed_under x (length c)) (hf c parts.0.0 parts.0.1) (hx c parts.1.0 parts.1.1)

typed_lam : (sig : Sig) (a : Ty) (b : Term) → Typed sig b → Typed sig (roll-Term (Term-F.Lam a b))
typed_lam sig a b hb c s h =
    let inner = typed_body sig.types a (type_in sig b (a ∷ c)) s (sym (type-lam sig a b c) ∙ h) in
    let longer : length (a ∷ c) ≡ length c + 1 = omega arith in
    closed-lam a b (length c) ∙ subst (λ n. IsTrue (closed_under b n)) longer (hb (a ∷ c) inner.0 inner.1)

pub typed_closed : (sig : Sig) (t : Term) → Typed sig t
typed_closed sig t = by_cases (Typed sig) (typed_bound sig) (λ n a c s h. closed-free n a (length c)) (λ k c s h. closed-con k (length c)) (typed_app sig) (typed_lam sig) t
