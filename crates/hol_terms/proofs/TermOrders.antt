-- The order of terms is total, and only equal terms tie.
use Rattle.std.proofs.Common.{◌≡◌, ℕ, nat_eq, cond, refl, sym, ◌∙◌, ap, subst}
use Rattle.std.specs.Ordering.{ordering_then, ordering_reverse}
use Rattle.std.specs.declared.cmp.Ordering.{Ordering}
use Rattle.std.specs.declared.cmp.Ordering.TheVariants.{Less, Equal, Greater}
use Rattle.std.specs.Cmp.{IsTotalOrder, nat_cmp_total, then_flip}
use Rattle.std.specs.FinMap.{IsAntisymmetric, nat_cmp-IsAntisymmetric}
use Rattle.hol_terms.specs.declared.ty.Ty.{Ty, roll-Ty}
use Rattle.hol_terms.specs.declared.ty.Ty.TheOpen.{Ty-F}
use Rattle.hol_terms.specs.declared.ty.Ty.TheFolds.{fold-roll-Ty}
use Rattle.hol_terms.specs.declared.konst.Konst.{Konst}
use Rattle.hol_terms.specs.declared.konst.Konst.TheVariants as konst
use Rattle.hol_terms.specs.declared.term.Term.{Term, roll-Term}
use Rattle.hol_terms.specs.declared.term.Term.TheOpen.{Term-F}
use Rattle.hol_terms.specs.declared.term.Term.TheFolds.{fold-roll-Term}
use Rattle.hol_terms.specs.Types.{bool_ty}
use Rattle.hol_terms.specs.Order.{Spelling, number, pair, spelling_cmp, ty_spelling, ty_spelling_step, konst_spelling, spelling, spelling_step, term_cmp}
use Rattle.hol_terms.proofs.TyCases as ty
use Rattle.hol_terms.proofs.TermCases as term

-- ---- spellings
then_equal : (p q : Ordering) → ordering_then p q ≡ Equal → (p ≡ Equal) × (q ≡ Equal)
then_equal Less q h = cc
then_equal Equal q h = (refl, h)
then_equal Greater q h = cc

spelled_apart : (a b : Spelling) → spelling_cmp a b ≡ Equal → a ≡ b
spelled_apart (number m) (number n) h = ap number (nat_cmp-IsAntisymmetric m n h)
spelled_apart (number m) (pair c d) h = cc
spelled_apart (pair a b) (number n) h = cc
spelled_apart (pair a b) (pair c d) h =
    let parts = then_equal (spelling_cmp a c) (spelling_cmp b d) h in
    let first = spelled_apart a c parts.0 in
    let second = spelled_apart b d parts.1 in
    cc

turned : (a b : Spelling) → spelling_cmp a b ≡ ordering_reverse (spelling_cmp b a)
turned (number m) (number n) = nat_cmp_total.antisymm m n
turned (number m) (pair c d) = refl
turned (pair a b) (number n) = refl
turned (pair a b) (pair c d) = (λ i. ordering_then (turned a c i) (turned b d i)) ∙ then_flip (spelling_cmp c a) (spelling_cmp d b)

-- the first parts decide, or else the second
by_parts : (a b c d e f : Spelling) → (spelling_cmp a c ≡ Less → spelling_cmp c e ≡ Less → spelling_cmp a e ≡ Less) → (spelling_cmp b d ≡ Less → spelling_cmp d f ≡ Less → spelling_cmp b f ≡ Less) →
    (k m : Ordering) → spelling_cmp a c ≡ k → spelling_cmp c e ≡ m → ordering_then k (spelling_cmp b d) ≡ Less → ordering_then m (spelling_cmp d f) ≡ Less →
    ordering_then (spelling_cmp a e) (spelling_cmp b f) ≡ Less
by_parts a b c d e f first second Less Less p q h g = ap (λ z. ordering_then z (spelling_cmp b f)) (first p q)
by_parts a b c d e f first second Less Equal p q h g = ap (λ z. ordering_then z (spelling_cmp b f)) (subst (λ z. spelling_cmp a z ≡ Less) (spelled_apart c e q) p)
by_parts a b c d e f first second Equal Less p q h g = ap (λ z. ordering_then z (spelling_cmp b f)) (subst (λ z. spelling_cmp z e ≡ Less) (sym (spelled_apart a c p)) q)
by_parts a b c d e f first second Equal Equal p q h g = ap (λ z. ordering_then z (spelling_cmp b f)) (subst (λ z. spelling_cmp z e ≡ Equal) (sym (spelled_apart a c p)) q) ∙ second h g
by_parts a b c d e f first second Greater m p q h g = cc
by_parts a b c d e f first second Less Greater p q h g = cc
by_parts a b c d e f first second Equal Greater p q h g = cc

chained : (a b c : Spelling) → spelling_cmp a b ≡ Less → spelling_cmp b c ≡ Less → spelling_cmp a c ≡ Less
chained (number m) (number n) (number k) p q = nat_cmp_total.trans m n k p q
chained (number m) (number n) (pair e f) p q = refl
chained (number m) (pair c d) (number k) p q = cc
chained (number m) (pair c d) (pair e f) p q = refl
chained (pair a b) (number n) z p q = cc
chained (pair a b) (pair c d) (number k) p q = cc
chained (pair a b) (pair c d) (pair e f) p q = by_parts a b c d e f (chained a c e) (chained b d f) (spelling_cmp a c) (spelling_cmp c e) refl refl p q

-- ---- what is spelled
as_number : Spelling → ℕ
as_number (number n) = n
as_number (pair a b) = 0

ty_of : Spelling → Ty
ty_of (number n) = bool_ty
ty_of (pair k (number a)) = roll-Ty (Ty-F.Base a)
ty_of (pair k (pair a b)) = roll-Ty (Ty-F.Arrow (ty_of a) (ty_of b))

ty_back : (a : Ty) → ty_of (ty_spelling a) ≡ a
unfolding ty_of
ty_back =
    ty.by_cases (λ a. ty_of (ty_spelling a) ≡ a) (λ a. ap ty_of (fold-roll-Ty Spelling ty_spelling_step (Ty-F.Base a)))
    (λ a b left right. ap ty_of (fold-roll-Ty Spelling ty_spelling_step (Ty-F.Arrow a b)) ∙ (λ i. roll-Ty (Ty-F.Arrow (left i) (right i))))

konst_of_kind : ℕ → Spelling → Konst
konst_of_kind k p =
    cond (nat_eq k 0) (konst.Named (as_number p)) (cond (nat_eq k 1) (konst.Aux (as_number p)) (cond (nat_eq k 2) konst.True (cond (nat_eq k 3) konst.False (cond (nat_eq k 4) konst.Not (cond (nat_eq k 5) konst.And
    (cond (nat_eq k 6) konst.Or (cond (nat_eq k 7) konst.Imp (cond (nat_eq k 8) (konst.Eq (ty_of p)) (cond (nat_eq k 9) (konst.All (ty_of p)) (cond (nat_eq k 10) (konst.Ex (ty_of p)) (konst.Eps (ty_of p))))))))))))

konst_of : Spelling → Konst
konst_of (number n) = konst.True
konst_of (pair k p) = konst_of_kind (as_number k) p

konst_back : (k : Konst) → konst_of (konst_spelling k) ≡ k
unfolding konst_of konst_of_kind as_number
konst_back (konst.Named k) = refl
konst_back (konst.Aux k) = refl
konst_back konst.True = refl
konst_back konst.False = refl
konst_back konst.Not = refl
konst_back konst.And = refl
konst_back konst.Or = refl
konst_back konst.Imp = refl
konst_back (konst.Eq a) = ap konst.Eq (ty_back a)
konst_back (konst.All a) = ap konst.All (ty_back a)
konst_back (konst.Ex a) = ap konst.Ex (ty_back a)
konst_back (konst.Eps a) = ap konst.Eps (ty_back a)

term_of : Spelling → Term
term_of (number n) = roll-Term (Term-F.Bound 0)
term_of (pair k (number i)) = roll-Term (Term-F.Bound i)
term_of (pair k (pair a b)) =
    cond (nat_eq (as_number k) 1) (roll-Term (Term-F.Free (as_number a) (ty_of b))) (cond (nat_eq (as_number k) 2) (roll-Term (Term-F.Con (konst_of (pair a b))))
    (cond (nat_eq (as_number k) 3) (roll-Term (Term-F.App (term_of a) (term_of b))) (roll-Term (Term-F.Lam (ty_of a) (term_of b)))))

term_back : (t : Term) → term_of (spelling t) ≡ t
unfolding term_of as_number
term_back =
    term.by_cases (λ t. term_of (spelling t) ≡ t) (λ i. ap term_of (fold-roll-Term Spelling spelling_step (Term-F.Bound i)))
    (λ n a. ap term_of (fold-roll-Term Spelling spelling_step (Term-F.Free n a)) ∙ ap (λ z. roll-Term (Term-F.Free n z)) (ty_back a))
    (λ k. ap term_of (fold-roll-Term Spelling spelling_step (Term-F.Con k)) ∙ ap (λ z. roll-Term (Term-F.Con z)) (konst_back k))
    (λ f x left right. ap term_of (fold-roll-Term Spelling spelling_step (Term-F.App f x)) ∙ (λ i. roll-Term (Term-F.App (left i) (right i))))
    (λ a b right. ap term_of (fold-roll-Term Spelling spelling_step (Term-F.Lam a b)) ∙ (λ i. roll-Term (Term-F.Lam (ty_back a i) (right i))))

-- ---- the order of terms
pub apart : IsAntisymmetric term_cmp
unfolding term_cmp
apart s t e = sym (term_back s) ∙ ap term_of (spelled_apart (spelling s) (spelling t) e) ∙ term_back t

pub total : IsTotalOrder term_cmp
unfolding term_cmp
total = record {
  antisymm = λ s t. turned (spelling s) (spelling t);
  trans = λ s t u p q. chained (spelling s) (spelling t) (spelling u) p q;
  congr = λ s t u e. ap (λ z. spelling_cmp z (spelling u)) (spelled_apart (spelling s) (spelling t) e);
}
