-- Substitution of a term of the binder's type keeps the type.
use Rattle.std.proofs.Common.{◌≡◌, ℕ, ◌+◌, ◌-◌, ◌<◌, IsTrue, nat_lt, ap, subst, refl, sym, ◌∙◌, rules, arith, List, [], ◌∷◌, ◌++◌, length, slice_get, Some}
use Rattle.hol_terms.specs.declared.ty.Ty.{Ty}
use Rattle.hol_terms.specs.declared.konst.Konst.{Konst}
use Rattle.hol_terms.specs.declared.sig.Sig.{Sig}
use Rattle.hol_terms.specs.declared.term.Term.{Term, roll-Term}
use Rattle.hol_terms.specs.declared.term.Term.TheOpen.{Term-F}
use Rattle.hol_terms.specs.declared.term.Term.TheFolds.{the_lemmas}
use Rattle.hol_terms.specs.Substitution.{lift, put, closed_under}
use Rattle.hol_terms.specs.Typing.{type_in}
use Rattle.hol_terms.proofs.TermCases.{by_cases}
use Rattle.hol_terms.proofs.Gets.{slice_get_tail}
use Rattle.hol_terms.proofs.Closed.{lift_closed, typed_closed}
use Rattle.hol_terms.proofs.Preserves.{type_closed, slice_get_front}
use Rattle.hol_terms.proofs.Equations.{type-bound, type-app, type-lam, put-app, put-lam}

pub get_middle : {X : Type 0} (c d : List X) (s : X) → slice_get (c ++ s ∷ d) (length c) ≡ Some s
get_middle [] d s = refl
get_middle (x ∷ c) d s = get_middle c d s

pub get_behind : {X : Type 0} (c d : List X) (s : X) (i : ℕ) → length c < i → slice_get (c ++ s ∷ d) i ≡ slice_get (c ++ d) (i - 1)
get_behind [] d s i h = slice_get_tail s d i (omega arith)
get_behind (x ∷ c) d s i h =
    let beyond : length c < i - 1 = omega arith in
    slice_get_tail x (c ++ s ∷ d) i (omega arith) ∙ get_behind c d s (i - 1) beyond ∙ sym (slice_get_tail x (c ++ d) (i - 1) (omega arith))

put_below : (u : Term) (i k : ℕ) → i < k → put u (roll-Term (Term-F.Bound i)) k ≡ roll-Term (Term-F.Bound i)
put_below u i k h = search (rules, the_lemmas)

put_here : (u : Term) (i k : ℕ) → i ≡ k → put u (roll-Term (Term-F.Bound i)) k ≡ lift k u 0
put_here u i k h = search (rules, the_lemmas)

put_above : (u : Term) (i k : ℕ) → k < i → put u (roll-Term (Term-F.Bound i)) k ≡ roll-Term (Term-F.Bound (i - 1))
put_above u i k h = search (rules, the_lemmas)

module _ (sig : Sig) (u : Term) (s : Ty) (typed : type_in sig u [] ≡ Some s) where
  closed : IsTrue (closed_under u 0)
  closed = typed_closed sig u [] s typed

  abbrev Fits : Term → Type 0
  Fits t = (c d : List Ty) → type_in sig (put u t (length c)) (c ++ d) ≡ type_in sig t (c ++ s ∷ d)

  below : (i : ℕ) (c d : List Ty) → i < length c → type_in sig (put u (roll-Term (Term-F.Bound i)) (length c)) (c ++ d) ≡ type_in sig (roll-Term (Term-F.Bound i)) (c ++ s ∷ d)
  below i c d h =
      let within : IsTrue (nat_lt i (length c)) = search (rules, h) in
      ap (λ t. type_in sig t (c ++ d)) (put_below u i (length c) h) ∙ type-bound sig i (c ++ d) ∙ slice_get_front c d i within ∙ sym (slice_get_front c (s ∷ d) i within) ∙ sym (type-bound sig i (c ++ s ∷ d))

  here : (i : ℕ) (c d : List Ty) → i ≡ length c → type_in sig (put u (roll-Term (Term-F.Bound i)) (length c)) (c ++ d) ≡ type_in sig (roll-Term (Term-F.Bound i)) (c ++ s ∷ d)
  here i c d h =
      ap (λ t. type_in sig t (c ++ d)) (put_here u i (length c) h ∙ lift_closed (length c) u 0 closed) ∙ type_closed sig u [] (c ++ d) closed ∙ typed
      ∙ sym (get_middle c d s) ∙ ap (slice_get (c ++ s ∷ d)) (sym h) ∙ sym (type-bound sig i (c ++ s ∷ d))

  above : (i : ℕ) (c d : List Ty) → length c < i → type_in sig (put u (roll-Term (Term-F.Bound i)) (length c)) (c ++ d) ≡ type_in sig (roll-Term (Term-F.Bound i)) (c ++ s ∷ d)
  above i c d h =
      ap (λ t. type_in sig t (c ++ d)) (put_above u i (length c) h) ∙ type-bound sig (i - 1) (c ++ d) ∙ sym (get_behind c d s i h) ∙ sym (type-bound sig i (c ++ s ∷ d))

  bound : (i : ℕ) → Fits (roll-Term (Term-F.Bound i))
  bound i c d = grind (arith, below i c d, here i c d, above i c d)

  free : (n : ℕ) (a : Ty) → Fits (roll-Term (Term-F.Free n a))
  free n a c d = search (rules, the_lemmas)

  con : (k : Konst) → Fits (roll-Term (Term-F.Con k))
  con k c d = search (rules, the_lemmas)

  app : (f x : Term) → Fits f → Fits x → Fits (roll-Term (Term-F.App f x))
  app f x hf hx c d =
      let left = hf c d in
      let right = hx c d in
      rw (put-app u f x (length c), type-app sig (put u f (length c)) (put u x (length c)) (c ++ d), type-app sig f x (c ++ s ∷ d), left, right) refl

  lam : (a : Ty) (b : Term) → Fits b → Fits (roll-Term (Term-F.Lam a b))
  lam a b hb c d =
      let longer : length (a ∷ c) ≡ length c + 1 = omega arith in
      let inner = subst (λ n. type_in sig (put u b n) (a ∷ (c ++ d)) ≡ type_in sig b (a ∷ (c ++ s ∷ d))) longer (hb (a ∷ c) d) in
      rw (put-lam u a b (length c), type-lam sig a (put u b (length c + 1)) (c ++ d), type-lam sig a b (c ++ s ∷ d), inner) refl

  pub type_put : (t : Term) → Fits t
  type_put t = by_cases Fits bound free con app lam t
