-- A term with a hole at a path.
use Rattle.std.proofs.Common.{◌≡◌, ℕ, ◌+◌, Bool, true, false, ◌==◌, if◌then◌else◌, ◌⊎◌, inl, inr, IsTrue, refl, sym, ◌∙◌, ap, subst, List, [], ◌∷◌, Some, None, rules}
use Rattle.std.specs.Prelude.{Option}
use Rattle.std.proofs.lemmas.Bool.{eqb-true}
use Rattle.hol_terms.specs.declared.ty.Ty.{Ty}
use Rattle.hol_terms.specs.declared.konst.Konst.{Konst}
use Rattle.hol_terms.specs.declared.sig.Sig.{Sig}
use Rattle.hol_terms.specs.declared.term.Term as term
use Rattle.hol_terms.specs.declared.term.Term.{Term, roll-Term, out-Term}
use Rattle.hol_terms.specs.declared.term.Term.TheOpen.{Term-F}
use Rattle.hol_terms.specs.declared.term.Term.TheFolds.{the_lemmas}
use Rattle.hol_terms.specs.declared.term.Term.TheViews.{out-roll-Term, roll-out-Term}
use Rattle.hol_terms.specs.Substitution.{lift, put, closed_under, is_closed}
use Rattle.hol_terms.specs.Typing.{type_in, type_of_term, applied}
use Rattle.hol_terms.specs.Formulas.{aux_free}
use Rattle.hol_terms.proofs.Both.{both_true, and_true}
use Rattle.hol_terms.proofs.TermCases.{by_cases}
use Rattle.hol_terms.proofs.Closed.{lift_closed}
use Rattle.hol_terms.proofs.Preserves.{type_closed}
use Rattle.hol_terms.proofs.Equations.{closed-app, closed-lam, put-app, put-lam, type-bound, type-app, aux_free-bound, aux_free-app}
use Rattle.kernel_rules.specs.Connectives.{apply}
use Rattle.hol_derived.specs.Paths.{child, behind, part_at, with_child, replaced_at}

-- the index of the binder next to it
abbrev pub gap : Term
gap = roll-Term (Term-F.Bound 0)

-- as clauses write it
pub gap_is : term.Bound 0 ≡ gap
unfolding term.roll-Term denote.Hole.Carrier.roll
gap_is = refl

-- ---- a closed term stays where a term is put for an index
abbrev Kept : Term → Term → Type 0
Kept u t = (k : ℕ) → IsTrue (closed_under t k) → put u t k ≡ t

kept_bound : (u : Term) (i : ℕ) → Kept u (roll-Term (Term-F.Bound i))
kept_bound u i k h = search (rules, the_lemmas)

kept_free : (u : Term) (n : ℕ) (a : Ty) → Kept u (roll-Term (Term-F.Free n a))
kept_free u n a k h = search (rules, the_lemmas)

kept_con : (u : Term) (c : Konst) → Kept u (roll-Term (Term-F.Con c))
kept_con u c k h = search (rules, the_lemmas)

kept_app : (u f x : Term) → Kept u f → Kept u x → Kept u (roll-Term (Term-F.App f x))
kept_app u f x hf hx k h =
    let both = both_true (closed_under f k) (closed_under x k) (subst IsTrue (closed-app f x k) h) in
    put-app u f x k ∙ (λ i. apply (hf k both.0 i) (hx k both.1 i))

kept_lam : (u : Term) (a : Ty) (b : Term) → Kept u b → Kept u (roll-Term (Term-F.Lam a b))
kept_lam u a b hb k h = put-lam u a b k ∙ ap (λ z. roll-Term (Term-F.Lam a z)) (hb (k + 1) (subst IsTrue (closed-lam a b k) h))

pub put_closed : (u t : Term) (k : ℕ) → IsTrue (closed_under t k) → put u t k ≡ t
put_closed u t = by_cases (Kept u) (kept_bound u) (kept_free u) (kept_con u) (kept_app u) (kept_lam u) t

put_hole : (u : Term) → IsTrue (is_closed u) → put u gap 0 ≡ u
put_hole u h = let stays : lift 0 u 0 ≡ u = lift_closed 0 u 0 h in search (rules, the_lemmas, stays)

-- ---- the first step of a path
record GoesLeft (d : ℕ) (path : List ℕ) (t s : Term) : Type 0 where
  f : Term
  x : Term
  is_zero : d ≡ 0
  whole : t ≡ apply f x
  part : part_at path f ≡ Some s

record GoesRight (d : ℕ) (path : List ℕ) (t s : Term) : Type 0 where
  f : Term
  x : Term
  is_one : d ≡ 1
  whole : t ≡ apply f x
  part : part_at path x ≡ Some s

goes_app : (d : ℕ) (path : List ℕ) (t s f x : Term) (zero_is one_is : Bool) → (d == 0) ≡ zero_is → (d == 1) ≡ one_is → t ≡ apply f x →
    behind (if zero_is then Some f else (if one_is then Some x else None)) (part_at path) ≡ Some s → GoesLeft d path t s ⊎ GoesRight d path t s
goes_app d path t s f x true one_is e g whole h = inl (record { f = f; x = x; is_zero = eqb-true d 0 e; whole = whole; part = h })
goes_app d path t s f x false true e g whole h = inr (record { f = f; x = x; is_one = eqb-true d 1 g; whole = whole; part = h })
goes_app d path t s f x false false e g whole h = cc

goes_at : (d : ℕ) (path : List ℕ) (t s : Term) (y : Term-F Term) → t ≡ roll-Term y → behind (child d y) (part_at path) ≡ Some s → GoesLeft d path t s ⊎ GoesRight d path t s
goes_at d path t s (Term-F.App f x) e h = goes_app d path t s f x (d == 0) (d == 1) refl refl e h
goes_at d path t s (Term-F.Bound i) e h = cc
goes_at d path t s (Term-F.Free n a) e h = cc
goes_at d path t s (Term-F.Con k) e h = cc
goes_at d path t s (Term-F.Lam a b) e h = cc

goes : (d : ℕ) (path : List ℕ) (t s : Term) → part_at (d ∷ path) t ≡ Some s → GoesLeft d path t s ⊎ GoesRight d path t s
goes d path t s h = goes_at d path t s (out-Term t) (sym (roll-out-Term t)) h

replaced_left : (d : ℕ) (path : List ℕ) (t s u : Term) (l : GoesLeft d path t s) → replaced_at (d ∷ path) u t ≡ apply (replaced_at path u l.f) l.x
replaced_left d path t s u l = (λ i. with_child (l.is_zero i) (l.whole i) (out-Term (l.whole i)) (replaced_at path u)) ∙ ap (λ y. with_child 0 (apply l.f l.x) y (replaced_at path u)) (out-roll-Term (Term-F.App l.f l.x))

replaced_right : (d : ℕ) (path : List ℕ) (t s u : Term) (r : GoesRight d path t s) → replaced_at (d ∷ path) u t ≡ apply r.f (replaced_at path u r.x)
replaced_right d path t s u r = (λ i. with_child (r.is_one i) (r.whole i) (out-Term (r.whole i)) (replaced_at path u)) ∙ ap (λ y. with_child 1 (apply r.f r.x) y (replaced_at path u)) (out-roll-Term (Term-F.App r.f r.x))

closed_parts : (t f x : Term) → t ≡ apply f x → IsTrue (is_closed t) → IsTrue (is_closed f) × IsTrue (is_closed x)
closed_parts t f x e h = both_true (is_closed f) (is_closed x) (sym (closed-app f x 0) ∙ subst (λ z. IsTrue (is_closed z)) e h)

part_itself : (t s : Term) → ◌≡◌ {A = Option Term} (Some t) (Some s) → t ≡ s
part_itself t s h = cc

-- the part itself put back
pub whole_again : (path : List ℕ) (t s : Term) → part_at path t ≡ Some s → replaced_at path s t ≡ t
whole_again [] t s h = sym (part_itself t s h)
whole_again (d ∷ path) t s h = elim (goes d path t s h) [
  | inl l ↦ replaced_left d path t s s l ∙ ap (λ z. apply z l.x) (whole_again path l.f s l.part) ∙ sym l.whole
  | inr r ↦ replaced_right d path t s s r ∙ ap (apply r.f) (whole_again path r.x s r.part) ∙ sym r.whole
]

-- a term put for the hole stands at the path
pub hole_filled : (path : List ℕ) (t s u : Term) → part_at path t ≡ Some s → IsTrue (is_closed t) → IsTrue (is_closed u) → put u (replaced_at path gap t) 0 ≡ replaced_at path u t
hole_filled [] t s u h ct cu = put_hole u cu
hole_filled (d ∷ path) t s u h ct cu = elim (goes d path t s h) [
  | inl l ↦ let parts = closed_parts t l.f l.x l.whole ct in
      ap (λ z. put u z 0) (replaced_left d path t s gap l) ∙ put-app u (replaced_at path gap l.f) l.x 0
      ∙ (λ i. apply (hole_filled path l.f s u l.part parts.0 cu i) (put_closed u l.x 0 parts.1 i)) ∙ sym (replaced_left d path t s u l)
  | inr r ↦ let parts = closed_parts t r.f r.x r.whole ct in
      ap (λ z. put u z 0) (replaced_right d path t s gap r) ∙ put-app u r.f (replaced_at path gap r.x) 0
      ∙ (λ i. apply (put_closed u r.f 0 parts.0 i) (hole_filled path r.x s u r.part parts.1 cu i)) ∙ sym (replaced_right d path t s u r)
]

-- under a binder of the part's type, the term with the hole has its type
pub hole_typed : (sig : Sig) (a : Ty) (path : List ℕ) (t s : Term) → type_of_term sig s ≡ Some a → part_at path t ≡ Some s → IsTrue (is_closed t) →
    type_in sig (replaced_at path gap t) (a ∷ []) ≡ type_of_term sig t
hole_typed sig a [] t s hs h ct = type-bound sig 0 (a ∷ []) ∙ sym hs ∙ ap (type_of_term sig) (sym (part_itself t s h))
hole_typed sig a (d ∷ path) t s hs h ct = elim (goes d path t s h) [
  | inl l ↦ let parts = closed_parts t l.f l.x l.whole ct in
      ap (λ z. type_in sig z (a ∷ [])) (replaced_left d path t s gap l) ∙ type-app sig (replaced_at path gap l.f) l.x (a ∷ [])
      ∙ (λ i. applied (hole_typed sig a path l.f s hs l.part parts.0 i) (type_closed sig l.x [] (a ∷ []) parts.1 i)) ∙ sym (type-app sig l.f l.x []) ∙ ap (type_of_term sig) (sym l.whole)
  | inr r ↦ let parts = closed_parts t r.f r.x r.whole ct in
      ap (λ z. type_in sig z (a ∷ [])) (replaced_right d path t s gap r) ∙ type-app sig r.f (replaced_at path gap r.x) (a ∷ [])
      ∙ (λ i. applied (type_closed sig r.f [] (a ∷ []) parts.0 i) (hole_typed sig a path r.x s hs r.part parts.1 i)) ∙ sym (type-app sig r.f r.x []) ∙ ap (type_of_term sig) (sym r.whole)
]

pub hole_aux_free : (path : List ℕ) (t s : Term) → part_at path t ≡ Some s → IsTrue (aux_free t) → IsTrue (aux_free (replaced_at path gap t))
hole_aux_free [] t s h free = aux_free-bound 0
hole_aux_free (d ∷ path) t s h free = elim (goes d path t s h) [
  | inl l ↦ let parts = both_true (aux_free l.f) (aux_free l.x) (sym (aux_free-app l.f l.x) ∙ subst (λ z. IsTrue (aux_free z)) l.whole free) in
      ap aux_free (replaced_left d path t s gap l) ∙ aux_free-app (replaced_at path gap l.f) l.x
      ∙ and_true (aux_free (replaced_at path gap l.f)) (aux_free l.x) (hole_aux_free path l.f s l.part parts.0) parts.1
  | inr r ↦ let parts = both_true (aux_free r.f) (aux_free r.x) (sym (aux_free-app r.f r.x) ∙ subst (λ z. IsTrue (aux_free z)) r.whole free) in
      ap aux_free (replaced_right d path t s gap r) ∙ aux_free-app r.f (replaced_at path gap r.x)
      ∙ and_true (aux_free r.f) (aux_free (replaced_at path gap r.x)) parts.0 (hole_aux_free path r.x s r.part parts.1)
]
