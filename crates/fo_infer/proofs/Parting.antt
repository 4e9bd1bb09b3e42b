-- Literals that share no variables can be sent apart.
use Rattle.std.proofs.Common.{◌≡◌, ◌↔◌, inl, inr, ℕ, ◌+◌, ◌≤◌, Bool, true, false, if◌then◌else◌, IsTrue, List, [], ◌∷◌, ◌++◌, length, refl, sym, ap, subst, ◌∙◌, arith}
use Rattle.std.specs.Prelude.{Contains, Some, slice_get}
use Rattle.std.specs.List.Sorted.{IsPermutation}
use Rattle.std.proofs.lemmas.List.{length-append}
use Rattle.std.proofs.lemmas.List.Sorted.{IsPermutation-sym}
use Rattle.std.proofs.lemmas.Map.Views.{All-map-IsPermutation}
use Rattle.fo_terms.specs.declared.term.FoTerm.{FoTerm}
use Rattle.fo_terms.specs.declared.atom.Atom.{Atom}
use Rattle.fo_terms.specs.declared.atom.Atom.TheVariants.{Holds, Eq}
use Rattle.fo_terms.specs.declared.literal.Literal.{Literal}
use Rattle.fo_terms.specs.Substitution.{var, put_atom, put_literal, occurs_in}
use Rattle.fo_terms.proofs.Substitution.{put_agree, true_left, true_right, or_cases, or_false}
use Rattle.fo_terms.specs.declared.clause.Clause.{Clause}
use Rattle.fo_infer.specs.Subsumption.{Subsumes}
use Rattle.fo_infer.specs.declared.seeking.Sought.{Sought}
use Rattle.fo_infer.specs.inner.Covering.{Sends, Covers}
use Rattle.fo_infer.specs.inner.Components.{literals, occurs_atom, occurs_literal, occurs_literals, Off, OffAll, Apart, SortsOut, Splits, SameSends, Sendable}
use Rattle.fo_infer.proofs.Narrowing.{sends_all, all_sends}

-- ---- substitutions that agree on variables

atom_agree : (v w : ℕ → FoTerm) (a : Atom) → ((x : ℕ) → IsTrue (occurs_atom x a) → v x ≡ w x) → put_atom v a ≡ put_atom w a
atom_agree v w (Holds t) h = ap Holds (put_agree v w t h)
atom_agree v w (Eq s t) h =
    let left = put_agree v w s (λ x o. h x (true_left (occurs_in x s) (occurs_in x t) o)) in
    let right = put_agree v w t (λ x o. h x (true_right (occurs_in x s) (occurs_in x t) o)) in
    λ i. Eq (left i) (right i)

literal_agree : (v w : ℕ → FoTerm) (l : Literal) → ((x : ℕ) → IsTrue (occurs_literal x l) → v x ≡ w x) → put_literal v l ≡ put_literal w l
literal_agree v w l h = let atoms = atom_agree v w l.atom h in λ i. record { positive = l.positive; atom = atoms i }

sends_agree : (v w : ℕ → FoTerm) (d ls : List Literal) → ((x : ℕ) → IsTrue (occurs_literals x ls) → v x ≡ w x) → Sends v d ls → Sends w d ls
sends_agree v w d [] h s = tt
sends_agree v w d (l ∷ ls) h s = (
  subst (Contains d) (literal_agree v w l (λ x o. h x (true_left (occurs_literal x l) (occurs_literals x ls) o))) s.0,
  sends_agree v w d ls (λ x o. h x (true_right (occurs_literal x l) (occurs_literals x ls) o)) s.1,
)

-- ---- lists without a variable in common

off_all : (ms : List Literal) (l : Literal) → OffAll ms l → (x : ℕ) → IsTrue (occurs_literal x l) → occurs_literals x ms ≡ false
off_all [] l o x h = refl
off_all (m ∷ ms) l o x h = or_false (occurs_literal x m) (occurs_literals x ms) (o.0 x h) (off_all ms l o.1 x h)

apart_lacks : (ms ls : List Literal) → Apart ms ls → (x : ℕ) → IsTrue (occurs_literals x ls) → occurs_literals x ms ≡ false
apart_lacks ms [] a x h = let clash : false ≡ true = h in cc
apart_lacks ms (l ∷ ls) a x h = or_cases (occurs_literal x l) (occurs_literals x ls) h (λ o. off_all ms l a.0 x o) (λ o. apart_lacks ms ls a.1 x o)

apart_push : (ms ls : List Literal) (l : Literal) → Apart ms ls → OffAll ms l → Apart ms (ls ++ l ∷ [])
apart_push ms [] l a o = (o, tt)
apart_push ms (k ∷ ls) l a o = (a.0, apart_push ms ls l a.1 o)

abbrev either : (ℕ → FoTerm) → (ℕ → FoTerm) → List Literal → ℕ → FoTerm
either v w ms x = if occurs_literals x ms then v x else w x

joined : (v w : ℕ → FoTerm) (d ms ls : List Literal) → Apart ms ls → Sends v d ms → Sends w d ls → Sends (either v w ms) d ms × Sends (either v w ms) d ls
joined v w d ms ls a s t = (
  sends_agree v (either v w ms) d ms (λ x o. sym (ap (λ b. if b then v x else w x) o)) s,
  sends_agree w (either v w ms) d ls (λ x o. sym (ap (λ b. if b then v x else w x) (apart_lacks ms ls a x o))) t,
)

-- ---- one literal more

sends_push : (v : ℕ → FoTerm) (d ls : List Literal) (l : Literal) → Sends v d ls → Contains d (put_literal v l) → Sends v d (ls ++ l ∷ [])
sends_push v d [] l s c = (c, tt)
sends_push v d (k ∷ ls) l s c = (s.0, sends_push v d ls l s.1 c)

sends_front : (v : ℕ → FoTerm) (d ls : List Literal) (l : Literal) → Sends v d (ls ++ l ∷ []) → Sends v d ls × Contains d (put_literal v l)
sends_front v d [] l s = (tt, s.0)
sends_front v d (k ∷ ls) l s = let rest = sends_front v d ls l s.1 in ((s.0, rest.0), rest.1)

pub splits_more : (a b p q : List Literal) (l : Literal) (more rest : List Literal) → Splits a b p q → SortsOut p q l more rest → Splits a (b ++ l ∷ []) more rest
splits_more a b p q l more rest h (inl new) v d = (
  λ s. (let parts = sends_front v d b l s.1 in let moved = (h v d).0 (s.0, parts.0) in
      (subst (Sends v d) (sym new.0) (sends_push v d p l moved.0 parts.1), subst (Sends v d) (sym new.1) moved.1)),
  λ s. (let parts = sends_front v d p l (subst (Sends v d) new.0 s.0) in let moved = (h v d).1 (parts.0, subst (Sends v d) new.1 s.1) in
      (moved.0, sends_push v d b l moved.1 parts.1)),
)
splits_more a b p q l more rest h (inr new) v d = (
  λ s. (let parts = sends_front v d b l s.1 in let moved = (h v d).0 (s.0, parts.0) in
      (subst (Sends v d) (sym new.0) moved.0, subst (Sends v d) (sym new.1) (sends_push v d q l moved.1 parts.1))),
  λ s. (let parts = sends_front v d q l (subst (Sends v d) new.1 s.1) in let moved = (h v d).1 (subst (Sends v d) new.0 s.0, parts.0) in
      (moved.0, sends_push v d b l moved.1 parts.1)),
)

pub splits_start : (a q : List Literal) → q ≡ [] → Splits a [] a q
splits_start a q none v d = (λ s. (s.0, subst (Sends v d) (sym none) tt), λ s. (s.0, tt))

pub splits_then : (a b p q x y : List Literal) → Splits a b p q → Splits p q x y → Splits a b x y
splits_then a b p q x y h k v d = (λ s. (k v d).0 ((h v d).0 s), λ s. (h v d).1 ((k v d).1 s))

pub fewer_more : (p q : List Literal) (l : Literal) (more rest : List Literal) (i : ℕ) → length q ≤ i → SortsOut p q l more rest → length rest ≤ i + 1
fewer_more p q l more rest i few (inl new) = let same : length rest ≡ length q = ap length new.1 in omega arith
fewer_more p q l more rest i few (inr new) = let grown : length rest ≡ length q + 1 = ap length new.1 ∙ length-append q (l ∷ []) in omega arith

pub apart_more : (p q : List Literal) (l : Literal) (more rest : List Literal) (i : ℕ) → length q ≤ i → (length q ≡ i → Apart p q) → SortsOut p q l more rest → length rest ≡ i + 1 → Apart more rest
apart_more p q l more rest i few apart (inl new) all = let same : length rest ≡ length q = ap length new.1 in absurd (omega arith)
apart_more p q l more rest i few apart (inr new) all =
    let grown : length rest ≡ length q + 1 = ap length new.1 ∙ length-append q (l ∷ []) in
    let full : length q ≡ i = omega arith in
    subst (λ m. Apart m rest) (sym new.0) (subst (Apart p) (sym new.1) (apart_push p q l (apart full) new.2))

-- ---- the same literals in another order

permuted_one : (found out : List Sought) → IsPermutation found out → (v : ℕ → FoTerm) (d : List Literal) → Sends v d (literals found) → Sends v d (literals out)
permuted_one found out order v d s =
    all_sends v d (literals out) (All-map-IsPermutation (λ s. s.literal.now) (λ l. Contains d (put_literal v l)) found out order (sends_all v d (literals found) s))

pub permuted : (found out : List Sought) → IsPermutation found out → SameSends (literals found) (literals out)
permuted found out order v d = (permuted_one found out order v d, permuted_one out found (IsPermutation-sym found out order) v d)

-- ---- one part, and then the others

module _ (d ls p q : List Literal) (first : Literal) (tail : List Literal) (whole : ls ≡ first ∷ tail) (splits : Splits (first ∷ []) tail p q) where
  taken : (v : ℕ → FoTerm) → Sends v d ls → Sends v d p × Sends v d q
  taken v s = let each : Sends v d (first ∷ tail) = subst (Sends v d) whole s in (splits v d).0 ((each.0, tt), each.1)

  put_back : (v : ℕ → FoTerm) → Sends v d p × Sends v d q → Sends v d ls
  put_back v s = let each = (splits v d).1 s in subst (Sends v d) (sym whole) (each.0.0, each.1)

  pub component_not : Covers [] d p false → IsTrue false ↔ Sendable d ls
  component_not none = (λ told. (let clash : false ≡ true = told in cc), λ s. absurd (none (s.0, tt, (taken s.0 s.1).0)))

  pub component_then : Apart p q → Covers [] d p true → (made : Bool) → IsTrue made ↔ Sendable d q → IsTrue made ↔ Sendable d ls
  component_then apart some made rest = (
    λ told. (let other = rest.0 told in (either some.0 other.0 p, put_back (either some.0 other.0 p) (joined some.0 other.0 d p q apart some.2 other.1))),
    λ s. rest.1 (s.0, (taken s.0 s.1).1),
  )

pub nothing_to_send : (d : List Literal) (rest : List Sought) → length rest ≡ 0 → IsTrue true ↔ Sendable d (literals rest)
nothing_to_send d [] none = (λ told. (var, tt), λ s. refl)
nothing_to_send d (s ∷ rest) none = absurd (omega arith)

-- ---- literals that share no variable

pub off_holds : (l m : Literal) (t : FoTerm) → l.atom ≡ Holds t → ((x : ℕ) → IsTrue (occurs_in x t) → occurs_literal x m ≡ false) → Off m l
off_holds l m t is h x o = h x (subst (λ a. IsTrue (occurs_atom x a)) is o)

pub off_sides : (l m : Literal) (s t : FoTerm) → l.atom ≡ Eq s t → ((x : ℕ) → IsTrue (occurs_in x s) → occurs_literal x m ≡ false) → ((x : ℕ) → IsTrue (occurs_in x t) → occurs_literal x m ≡ false) → Off m l
off_sides l m s t is h k x o = or_cases (occurs_in x s) (occurs_in x t) (subst (λ a. IsTrue (occurs_atom x a)) is o) (h x) (k x)

-- ---- as the definition of subsumption says it

pub subsumes_not : (c d : Clause) → ((v : ℕ → FoTerm) → Sends v d.literals c.literals → ⊥) → IsTrue false ↔ Subsumes c d
subsumes_not c d none = (λ told. (let clash : false ≡ true = told in cc), λ some. absurd (none some.1.0 (all_sends some.1.0 d.literals c.literals some.1.1)))

pub subsumes_when : (c d : Clause) (ls : List Literal) (made : Bool) → length c.literals ≤ length d.literals → SameSends c.literals ls → IsTrue made ↔ Sendable d.literals ls → IsTrue made ↔ Subsumes c d
subsumes_when c d ls made fewer same says = (
  λ told. (let some = says.0 told in (fewer, (some.0, sends_all some.0 d.literals c.literals ((same some.0 d.literals).1 some.1)))),
  λ some. says.1 (some.1.0, (same some.1.0 d.literals).0 (all_sends some.1.0 d.literals c.literals some.1.1)),
)

-- one literal, with nothing bound before
pub one_sends : (d ls : List Literal) (made : Bool) → Covers [] d ls made → IsTrue made ↔ Sendable d ls
one_sends d ls true h = (λ told. (h.0, h.2), λ some. refl)
one_sends d ls false h = (λ told. (let clash : false ≡ true = told in cc), λ some. absurd (h (some.0, tt, some.1)))

-- a clause of one literal
pub only_one : (ls : List Literal) (l : Literal) → length ls ≡ 1 → slice_get ls 0 ≡ Some l → ls ≡ l ∷ []
only_one [] l long at = absurd (omega arith)
only_one (m ∷ []) l long at = let same : m ≡ l = cc in λ i. same i ∷ []
only_one (m ∷ n ∷ ls) l long at = absurd (omega arith)

pub same_sends : (a b : List Literal) → a ≡ b → SameSends a b
same_sends a b e = subst (SameSends a) e (λ v d. (λ h. h, λ h. h))
