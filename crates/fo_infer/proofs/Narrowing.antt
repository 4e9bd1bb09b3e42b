-- Laws of the search for a subsuming substitution.
use Rattle.std.proofs.Common.{◌≡◌, ◌≢◌, ◌==◌, ℕ, zero, suc, ◌+◌, ◌<◌, ◌≤◌, Bool, true, false, IsTrue, List, [], ◌∷◌, length, get_or, refl, sym, ap, subst, ◌∙◌, arith}
use Rattle.std.specs.Prelude.{Contains, All}
use Rattle.std.proofs.lemmas.List.Elements.{All-cons, All-head, All-tail, All-nil}
use Rattle.fo_terms.specs.declared.term.FoTerm.{FoTerm}
use Rattle.fo_terms.specs.declared.atom.Atom.{Atom}
use Rattle.fo_terms.specs.declared.atom.Atom.TheVariants.{Holds, Eq}
use Rattle.fo_terms.specs.declared.literal.Literal.{Literal}
use Rattle.fo_terms.specs.Substitution.{put, put_atom, put_literal}
use Rattle.fo_terms.specs.declared.clause.Clause.{Clause}
use Rattle.fo_infer.specs.Subsumption.{Subsumes}
use Rattle.fo_terms.proofs.Substitution.{equal_true, equal_from}
use Rattle.fo_unify.specs.declared.subst.Bind.{Bind}
use Rattle.fo_unify.specs.Lookup.{term_of}
use Rattle.fo_unify.specs.Match.{Unique, Fits}
use Rattle.fo_unify.proofs.MatchLaws.{unique_fits}
use Rattle.fo_infer.specs.inner.Covering.{Narrows, Sends, Coverable, CoverableBy, Covers, CoversBy}

module _ (P Q : (ℕ → FoTerm) → Type 0) (to : (v : ℕ → FoTerm) → P v → Q v) (from : (v : ℕ → FoTerm) → Q v → P v) where
  pub narrows_map : (old new : List Bind) (made : Bool) → Narrows P old new made → Narrows Q old new made
  narrows_map old new true h = (h.0, λ v. (λ f. (let both = (h.1 v).0 f in (both.0, to v both.1)), λ f. (h.1 v).1 (f.0, from v f.1)))
  narrows_map old new false h = λ v f q. h v f (from v q)

module _ (P Q : (ℕ → FoTerm) → Type 0) where
  -- one narrowing after another
  pub narrows_then : (old mid new : List Bind) (made : Bool) → Narrows P old mid true → Narrows Q mid new made → Narrows (λ v. P v × Q v) old new made
  narrows_then old mid new true first second = (
    second.0,
    λ v. (
      λ f. (let last = (second.1 v).0 f in let start = (first.1 v).0 last.0 in (start.0, (start.1, last.1))),
      λ f. (second.1 v).1 ((first.1 v).1 (f.0, f.1.0), f.1.1),
    ),
  )
  narrows_then old mid new false first second = λ v f both. second v ((first.1 v).1 (f, both.0)) both.1

  pub narrows_not : (old mid : List Bind) → Narrows P old mid false → Narrows (λ v. P v × Q v) old mid false
  narrows_not old mid first = λ v f both. first v f both.0

-- ---- atoms and literals

pub atom_holds : (old new : List Bind) (made : Bool) (a b : Atom) (s t : FoTerm) → a ≡ Holds s → b ≡ Holds t → Narrows (λ v. put v s ≡ t) old new made → Narrows (λ v. put_atom v a ≡ b) old new made
atom_holds old new made a b s t is it =
    narrows_map (λ v. put v s ≡ t) (λ v. put_atom v a ≡ b) (λ v e. ap (put_atom v) is ∙ ap Holds e ∙ sym it)
    (λ v e. let same : Holds (put v s) ≡ Holds t = sym (ap (put_atom v) is) ∙ e ∙ it in cc) old new made

pub atom_sides : (old new : List Bind) (made : Bool) (a b : Atom) (s t x y : FoTerm) → a ≡ Eq s t → b ≡ Eq x y → Narrows (λ v. (put v s ≡ x) × (put v t ≡ y)) old new made → Narrows (λ v. put_atom v a ≡ b) old new made
atom_sides old new made a b s t x y is it =
    narrows_map (λ v. (put v s ≡ x) × (put v t ≡ y)) (λ v. put_atom v a ≡ b) (λ v e. ap (put_atom v) is ∙ (λ i. Eq (e.0 i) (e.1 i)) ∙ sym it)
    (λ v e. let same : Eq (put v s) (put v t) ≡ Eq x y = sym (ap (put_atom v) is) ∙ e ∙ it in (cc, cc)) old new made

pub literal_narrows : (old new : List Bind) (made : Bool) (l m : Literal) → l.positive ≡ m.positive → Narrows (λ v. put_atom v l.atom ≡ m.atom) old new made → Narrows (λ v. put_literal v l ≡ m) old new made
literal_narrows old new made l m signs =
    narrows_map (λ v. put_atom v l.atom ≡ m.atom) (λ v. put_literal v l ≡ m) (λ v e i. record { positive = signs i; atom = e i }) (λ v e. ap (λ k. k.atom) e) old new made

-- ---- the search

-- all literals are sent already
pub covered_all : (binds : List Bind) (d : List Literal) (ls : List Literal) → Unique binds → ls ≡ [] → Coverable binds d ls
covered_all binds d ls unique none = (term_of binds, unique_fits binds unique, subst (Sends (term_of binds) d) (sym none) tt)

pub by_not : (old new : List Bind) (d : List Literal) (m l : Literal) (ls rest : List Literal) → ls ≡ l ∷ rest → Narrows (λ v. put_literal v l ≡ m) old new false → CoverableBy old d m ls → ⊥
by_not old new d m l ls rest is none some = let found : CoverableBy old d m (l ∷ rest) = subst (CoverableBy old d m) is some in none found.0 found.1 found.2

pub by_next : (old mid : List Bind) (d : List Literal) (m l : Literal) (ls rest : List Literal) (made : Bool) → ls ≡ l ∷ rest → Narrows (λ v. put_literal v l ≡ m) old mid true → Covers mid d rest made → CoversBy old d m ls made
by_next old mid d m l ls rest true is first = λ next.
    let start = (first.1 next.0).0 next.1 in
    subst (CoverableBy old d m) (sym is) (next.0, start.0, start.1, next.2)
by_next old mid d m l ls rest false is first = λ next some.
    let found : CoverableBy old d m (l ∷ rest) = subst (CoverableBy old d m) is some in
    next (found.0, (first.1 found.0).1 (found.1, found.2), found.3)

-- no literal of those before the place is one that the first literal can be sent to
abbrev pub NoneBefore : List Bind → List Literal → List Literal → ℕ → Type 0
NoneBefore binds d ls n = (k : ℕ) (m : Literal) → k < n → get_or d k m ≡ m → CoverableBy binds d m ls → ⊥

pub found_one : (binds : List Bind) (d : List Literal) (ls : List Literal) (n : ℕ) (m : Literal) → n < length d → m ≡ get_or d n m → CoverableBy binds d m ls → Coverable binds d ls
found_one binds d [] n m within is some = absurd some
found_one binds d (l ∷ ls) n m within is some =
    (some.0, some.1, ((n, within, ap (get_or d n) some.2 ∙ sym is ∙ sym some.2), some.3))

pub found_none : (binds : List Bind) (d : List Literal) (ls : List Literal) (n : ℕ) → length d ≤ n → (ls ≡ [] → ⊥) → NoneBefore binds d ls n → Coverable binds d ls → ⊥
found_none binds d [] n over some none h = some refl
found_none binds d (l ∷ ls) n over some none h =
    let place = h.2.0 in
    let within : place.0 < n = (let inside : place.0 < length d = place.1 in omega arith) in
    none place.0 (put_literal h.0 l) within place.2 (h.0, h.1, refl, h.2.1)

-- ---- as the definition says it

pub sends_all : (v : ℕ → FoTerm) (d ls : List Literal) → Sends v d ls → All (λ l. Contains d (put_literal v l)) ls
sends_all v d [] h = All-nil (λ l. Contains d (put_literal v l))
sends_all v d (l ∷ ls) h = All-cons (λ l. Contains d (put_literal v l)) l ls h.0 (sends_all v d ls h.1)

pub all_sends : (v : ℕ → FoTerm) (d ls : List Literal) → All (λ l. Contains d (put_literal v l)) ls → Sends v d ls
all_sends v d [] h = tt
all_sends v d (l ∷ ls) h = (All-head (λ l. Contains d (put_literal v l)) l ls h, all_sends v d ls (All-tail (λ l. Contains d (put_literal v l)) l ls h))

get_same : {X : Type 0} (xs : List X) (i : ℕ) (x y : X) → i < length xs → get_or xs i x ≡ get_or xs i y
get_same [] i x y h = absurd (omega arith)
get_same (z ∷ zs) zero x y h = refl
get_same (z ∷ zs) (suc i) x y h = let inside : i < length zs = omega arith in get_same zs i x y inside

-- one more literal that it can't be sent to
pub none_more : (binds : List Bind) (d ls : List Literal) (n : ℕ) (m : Literal) → m ≡ get_or d n m → n < length d → NoneBefore binds d ls n → (CoverableBy binds d m ls → ⊥) → NoneBefore binds d ls (n + 1)
none_more binds d ls n m is within none here k l below at some = none_cases (k == n) refl
  where
    none_cases : (test : Bool) → (k == n) ≡ test → ⊥
    none_cases true e =
        let same : k ≡ n = equal_from k n e in
        let item : l ≡ m = sym at ∙ ap (λ i. get_or d i l) same ∙ get_same d n l m within ∙ sym is in
        here (subst (λ r. CoverableBy binds d r ls) item some)
    none_cases false e =
        let other : k ≢ n = λ same. (let yes_same : (k == k) ≡ false = subst (λ i. (k == i) ≡ false) (sym same) e in let there = equal_true k in cc) in
        let earlier : k < n = omega arith in
        none k l earlier at some

-- with no bindings and all literals, it is subsumption
pub subsumes_is : (c d : Clause) (binds : List Bind) (made : Bool) → binds ≡ [] → length c.literals ≤ length d.literals → Covers binds d.literals c.literals made → (IsTrue made → Subsumes c d) × (Subsumes c d → IsTrue made)
subsumes_is c d binds true none fewer h = (λ yes_so. (fewer, (h.0, sends_all h.0 d.literals c.literals h.2)), λ some. refl)
subsumes_is c d binds false none fewer h = (
  λ so. (let clash : false ≡ true = so in cc),
  λ some. absurd (h (some.1.0, subst (Fits some.1.0) (sym none) tt, all_sends some.1.0 d.literals c.literals some.1.1)),
)
