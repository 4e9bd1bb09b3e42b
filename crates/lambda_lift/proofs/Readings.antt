-- One equation of the reading for each constructor, and what it says of the term itself.
use Rattle.std.proofs.Common.{◌≡◌, ℕ, ap, ◌∙◌}
use Rattle.hol_terms.specs.declared.ty.Ty.{Ty}
use Rattle.hol_terms.specs.declared.konst.Konst.{Konst}
use Rattle.hol_terms.specs.declared.sig.Sig.{Sig}
use Rattle.hol_terms.specs.declared.term.Term.{Term, roll-Term}
use Rattle.hol_terms.specs.declared.term.Term.TheOpen.{Term-F}
use Rattle.hol_terms.specs.declared.term.Term.TheFolds.{fold-roll-Term}
use Rattle.hol_terms.proofs.TermCases.{by_cases}
use Rattle.lambda_lift.specs.Walks.{Reading, read_step, reading, whole, plain, konst_head, app_reading, lam_reading, both, apply, lifted_out, stays}

pub reading_bound : (sig : Sig) (i : ℕ) → reading sig (roll-Term (Term-F.Bound i)) ≡ whole (roll-Term (Term-F.Bound i)) plain
unfolding reading
reading_bound sig i = fold-roll-Term Reading (read_step sig) (Term-F.Bound i)

pub reading_free : (sig : Sig) (n : ℕ) (a : Ty) → reading sig (roll-Term (Term-F.Free n a)) ≡ whole (roll-Term (Term-F.Free n a)) plain
unfolding reading
reading_free sig n a = fold-roll-Term Reading (read_step sig) (Term-F.Free n a)

pub reading_con : (sig : Sig) (k : Konst) → reading sig (roll-Term (Term-F.Con k)) ≡ whole (roll-Term (Term-F.Con k)) (konst_head k)
unfolding reading
reading_con sig k = fold-roll-Term Reading (read_step sig) (Term-F.Con k)

pub reading_app : (sig : Sig) (f x : Term) → reading sig (roll-Term (Term-F.App f x)) ≡ app_reading (reading sig f) (reading sig x)
unfolding reading
reading_app sig f x = fold-roll-Term Reading (read_step sig) (Term-F.App f x)

pub reading_lam : (sig : Sig) (a : Ty) (b : Term) → reading sig (roll-Term (Term-F.Lam a b)) ≡ lam_reading sig a (reading sig b)
unfolding reading
reading_lam sig a b = fold-roll-Term Reading (read_step sig) (Term-F.Lam a b)

-- ---- the term itself

own_app : (sig : Sig) (f x : Term) → (reading sig f).own ≡ f → (reading sig x).own ≡ x → (reading sig (roll-Term (Term-F.App f x))).own ≡ roll-Term (Term-F.App f x)
own_app sig f x hf hx = ap (λ r. r.own) (reading_app sig f x) ∙ (λ i. apply (hf i) (hx i))

own_lam : (sig : Sig) (a : Ty) (b : Term) → (reading sig b).own ≡ b → (reading sig (roll-Term (Term-F.Lam a b))).own ≡ roll-Term (Term-F.Lam a b)
own_lam sig a b hb = ap (λ r. r.own) (reading_lam sig a b) ∙ ap (λ t. roll-Term (Term-F.Lam a t)) hb

pub own_is : (sig : Sig) (t : Term) → (reading sig t).own ≡ t
own_is sig =
    by_cases (λ t. (reading sig t).own ≡ t) (λ i. ap (λ r. r.own) (reading_bound sig i)) (λ n a. ap (λ r. r.own) (reading_free sig n a)) (λ k. ap (λ r. r.own) (reading_con sig k))
    (own_app sig) (own_lam sig)

-- ---- how the term is lifted as an atom

pub atom_bound : (sig : Sig) (i : ℕ) → (reading sig (roll-Term (Term-F.Bound i))).atom ≡ stays (roll-Term (Term-F.Bound i))
atom_bound sig i = ap (λ r. r.atom) (reading_bound sig i)

pub atom_free : (sig : Sig) (n : ℕ) (a : Ty) → (reading sig (roll-Term (Term-F.Free n a))).atom ≡ stays (roll-Term (Term-F.Free n a))
atom_free sig n a = ap (λ r. r.atom) (reading_free sig n a)

pub atom_con : (sig : Sig) (k : Konst) → (reading sig (roll-Term (Term-F.Con k))).atom ≡ stays (roll-Term (Term-F.Con k))
atom_con sig k = ap (λ r. r.atom) (reading_con sig k)

pub atom_app : (sig : Sig) (f x : Term) → (reading sig (roll-Term (Term-F.App f x))).atom ≡ both apply (reading sig f).atom (reading sig x).atom
atom_app sig f x = ap (λ r. r.atom) (reading_app sig f x)

pub atom_lam : (sig : Sig) (a : Ty) (b : Term) → (reading sig (roll-Term (Term-F.Lam a b))).atom ≡ lifted_out sig (roll-Term (Term-F.Lam a b))
atom_lam sig a b = ap (λ r. r.atom) (reading_lam sig a b) ∙ ap (λ t. lifted_out sig (roll-Term (Term-F.Lam a t))) (own_is sig b)
