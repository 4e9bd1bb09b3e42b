-- A term that is closed under some binders has one type whatever stands behind them.
use Rattle.std.proofs.Common.{◌≡◌, ℕ, zero, suc, ◌+◌, IsTrue, subst, refl, sym, ◌∙◌, rules, arith, List, [], ◌∷◌, ◌++◌, length, slice_get, nat_lt}
use Rattle.std.proofs.lemmas.Grind.{common_steps}
use Rattle.hol_terms.specs.declared.ty.Ty.{Ty}
use Rattle.hol_terms.specs.declared.konst.Konst.{Konst}
use Rattle.hol_terms.specs.declared.sig.Sig.{Sig}
use Rattle.hol_terms.specs.declared.term.Term.{Term, roll-Term}
use Rattle.hol_terms.specs.declared.term.Term.TheOpen.{Term-F}
use Rattle.hol_terms.specs.declared.term.Term.TheFolds.{the_lemmas}
use Rattle.hol_terms.specs.Substitution.{closed_under}
use Rattle.hol_terms.specs.Typing.{type_in}
use Rattle.hol_terms.proofs.TermCases.{by_cases}
use Rattle.hol_terms.proofs.Both.{both_true}
use Rattle.hol_terms.proofs.Equations.{type-bound, type-app, type-lam, closed-bound, closed-app, closed-lam}

-- ---- a term that is closed under the binders `c` has one type, whatever stands behind them

pub slice_get_front : {X : Type 0} (c d : List X) (i : ℕ) → IsTrue (nat_lt i (length c)) → slice_get (c ++ d) i ≡ slice_get c i
slice_get_front [] d i h = search (rules, common_steps)
slice_get_front (x ∷ c) d zero h = refl
slice_get_front (x ∷ c) d (suc i) h = slice_get_front c d i (search (rules, h))

abbrev Same : Sig → Term → Type 0
Same sig t = (c d : List Ty) → IsTrue (closed_under t (length c)) → type_in sig t (c ++ d) ≡ type_in sig t c

bound : (sig : Sig) (i : ℕ) → Same sig (roll-Term (Term-F.Bound i))
bound sig i c d h = type-bound sig i (c ++ d) ∙ slice_get_front c d i (subst IsTrue (closed-bound i (length c)) h) ∙ sym (type-bound sig i c)

free : (sig : Sig) (n : ℕ) (a : Ty) → Same sig (roll-Term (Term-F.Free n a))
free sig n a c d h = search (rules, the_lemmas)

con : (sig : Sig) (k : Konst) → Same sig (roll-Term (Term-F.Con k))
con sig k c d h = search (rules, the_lemmas)

app : (sig : Sig) (f x : Term) → Same sig f → Same sig x → Same sig (roll-Term (Term-F.App f x))
app sig f x hf hx c d h =
    let both = both_true (closed_under f (length c)) (closed_under x (length c)) (subst IsTrue (closed-app f x (length c)) h) in
    let left = hf c d both.0 in
    let right = hx c d both.1 in
    rw (type-app sig f x (c ++ d), type-app sig f x c, left, right) refl

lam : (sig : Sig) (a : Ty) (b : Term) → Same sig b → Same sig (roll-Term (Term-F.Lam a b))
lam sig a b hb c d h =
    let longer : length (a ∷ c) ≡ length c + 1 = omega arith in
    let inner = hb (a ∷ c) d (subst (λ n. IsTrue (closed_under b n)) (sym longer) (subst IsTrue (closed-lam a b (length c)) h)) in
    rw (type-lam sig a b (c ++ d), type-lam sig a b c, inner) refl

pub type_closed : (sig : Sig) (t : Term) → Same sig t
type_closed sig t = by_cases (Same sig) (bound sig) (free sig) (con sig) (app sig) (lam sig) t
