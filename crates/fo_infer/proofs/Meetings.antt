-- Clauses whose literals can't meet have no inferences.
use Rattle.std.proofs.Common.{◌≡◌, ℕ, ◌+◌, ◌<◌, ◌≤◌, Bool, true, false, List, [], ◌∷◌, map, length, get_or, Option, Some, None, slice_get, option_map, zero, suc, refl, sym, ap, subst, ◌∙◌, arith, below_more}
use Rattle.std.proofs.lemmas.List.{length-map}
use Rattle.std.proofs.lemmas.Option.{get_or_from_slice_get, slice_get_within, slice_get-map}
use Rattle.fo_terms.specs.declared.term.FoTerm.{FoTerm}
use Rattle.fo_terms.specs.declared.atom.Atom.{Atom}
use Rattle.fo_terms.specs.declared.atom.Atom.TheVariants.{Holds, Eq}
use Rattle.fo_terms.specs.declared.literal.Literal.{Literal}
use Rattle.fo_terms.specs.declared.clause.Clause.{Clause}
use Rattle.fo_terms.specs.Substitution.{var, fun, put, put_atom, put_literal}
use Rattle.fo_terms.specs.Normal.{clause_variables}
use Rattle.fo_terms.proofs.Heads.{fun_same}
use Rattle.fo_terms.proofs.Substitution.{put_fun, put_put}
use Rattle.fo_unify.specs.Lookup.{term_of}
use Rattle.fo_infer.specs.declared.made.Rule.{Rule}
use Rattle.fo_infer.specs.declared.made.Rule.TheVariants.{Resolve, Para, Factor, Reflex}
use Rattle.fo_infer.specs.Inferences.{Position, above_all, Resolves, PairGives, Listed, done, skip}
use Rattle.fo_infer.specs.inner.Meeting.{Meet, NoneMeets, LacksEquations}
use Rattle.fo_infer.proofs.Resolvents.{some_same}

-- ---- terms

pub meet_parts : (s t : FoTerm) (f g : ℕ) (xs ys : List FoTerm) → s ≡ fun f xs → t ≡ fun g ys → (h : Meet s t) → (f ≡ g) × (map (put h.0) xs ≡ map (put h.1) ys)
meet_parts s t f g xs ys is it h =
    fun_same f g (map (put h.0) xs) (map (put h.1) ys) (sym (put_fun h.0 f xs) ∙ sym (ap (put h.0) is) ∙ h.2 ∙ ap (put h.1) it ∙ put_fun h.1 g ys)

pub same_lengths : (v w : ℕ → FoTerm) (xs ys : List FoTerm) → map (put v) xs ≡ map (put w) ys → length xs ≡ length ys
same_lengths v w xs ys e = sym (length-map xs (put v)) ∙ ap length e ∙ length-map ys (put w)

pub meet_at : (v w : ℕ → FoTerm) (xs ys : List FoTerm) (i : ℕ) (x y : FoTerm) → i < length xs → x ≡ get_or xs i x → y ≡ get_or ys i y → map (put v) xs ≡ map (put w) ys → put v x ≡ put w y
meet_at v w [] ys i x y within is it e = absurd (omega arith)
meet_at v w (a ∷ xs) [] i x y within is it e = cc
meet_at v w (a ∷ xs) (b ∷ ys) zero x y within is it e = let first : put v a ≡ put w b = cc in ap (put v) is ∙ first ∙ sym (ap (put w) it)
meet_at v w (a ∷ xs) (b ∷ ys) (suc i) x y within is it e =
    let inside : i < length xs = omega arith in
    let rest : map (put v) xs ≡ map (put w) ys = cc in
    meet_at v w xs ys i x y inside is it rest

-- ---- all literals, one after another

pub all_at : {X : Type 0} (P : X → Type 0) (q : List X) (n : ℕ) → length q ≤ n → ((j : ℕ) → j < n → (m : X) → slice_get q j ≡ Some m → P m) → (j : ℕ) (m : X) → slice_get q j ≡ Some m → P m
all_at P q n over each j m at = each j (let within = slice_get_within q j m at in omega arith) m at

pub more_at : {X : Type 0} (P : X → Type 0) (q : List X) (n : ℕ) (item : X) → item ≡ get_or q n item → ((j : ℕ) → j < n → (m : X) → slice_get q j ≡ Some m → P m) → P item
    → (j : ℕ) → j < n + 1 → (m : X) → slice_get q j ≡ Some m → P m
more_at {X} P q n item is each here =
    below_more (λ j. (m : X) → slice_get q j ≡ Some m → P m) n each (λ m at. subst P (is ∙ get_or_from_slice_get q n m item at) here)

-- ---- rules

held_back : (v : ℕ → FoTerm) (m : Literal) (a : Atom) (t : FoTerm) → m.atom ≡ a → put_literal v m ≡ record { positive = false; atom = Holds t }
    → (u : FoTerm) × (m ≡ record { positive = false; atom = Holds u }) × (put v u ≡ t)
held_back v m (Holds u) t is e =
    let signs : m.positive ≡ false = ap (λ l. l.positive) e in
    let terms : Holds (put v u) ≡ Holds t = sym (ap (put_atom v) is) ∙ ap (λ l. l.atom) e in
    (u, (λ i. record { positive = signs i; atom = is i }), cc)
held_back v m (Eq x y) t is e = let clash : Eq (put v x) (put v y) ≡ Holds t = sym (ap (put_atom v) is) ∙ ap (λ l. l.atom) e in cc

some_back : (v : ℕ → FoTerm) (o : Option Literal) (t : FoTerm) → option_map (put_literal v) o ≡ Some (record { positive = false; atom = Holds t })
    → (m : Literal) × (o ≡ Some m) × (put_literal v m ≡ record { positive = false; atom = Holds t })
some_back v None t e = cc
some_back v (Some m) t e = (m, refl, some_same (put_literal v m) (record { positive = false; atom = Holds t }) e)

abbrev pub NoPairs : Clause → Clause → Type 0
NoPairs p q = (i : ℕ) (l : Literal) → slice_get p.literals i ≡ Some l → LacksEquations l × ((j : ℕ) (m : Literal) → slice_get q.literals j ≡ Some m → NoneMeets l m)

none_resolve : (p q : Clause) → NoPairs p q → (i j : ℕ) (c : Clause) → Resolves p q i j c → ⊥
none_resolve p q none i j c h =
    let shift : ℕ → FoTerm = λ x. var (x + above_all (clause_variables p.literals)) in
    let v = term_of h.binds in
    let left : Literal = record { positive = true; atom = Holds h.s } in
    let found = some_back shift (slice_get q.literals j) h.t (sym (slice_get-map (put_literal shift) q.literals j) ∙ h.right_is) in
    let back = held_back shift found.0 found.0.atom h.t refl found.2 in
    let same : put v h.s ≡ put (λ y. put v (shift y)) back.0 = h.unifier.unifies.0 ∙ ap (put v) (sym back.2) ∙ put_put v shift back.0 in
    (none i left h.left_is).1 j found.0 found.1 h.s refl back.0 back.1 (v, (λ y. put v (shift y)), same)

none_gives : (position : Position) (p q : Clause) → NoPairs p q → (r : Rule) (c : Clause) → PairGives position p q r c → ⊥
none_gives position p q none (Resolve i j) c h = none_resolve p q none i j c h
none_gives position p q none (Para i swapped j path) c h = (none i (record { positive = true; atom = Eq h.a h.b }) h.left_is).0 h.a h.b refl
none_gives position p q none (Factor i j) c h = h
none_gives position p q none (Reflex i) c h = h

nothing : (Gives : Rule → Clause → Type 0) → ((r : Rule) (c : Clause) → Gives r c → ⊥) → (rs : List Rule) → Listed Gives rs []
nothing Gives none [] = done
nothing Gives none (r ∷ rs) = skip (none r) (nothing Gives none rs)

pub no_inferences : (position : Position) (p q : Clause) → NoPairs p q → (rs : List Rule) → Listed (PairGives position p q) rs []
no_inferences position p q none rs = nothing (PairGives position p q) (none_gives position p q none) rs

-- ---- a literal's term

pub one_term : (l : Literal) (b : Bool) (s t : FoTerm) → l ≡ record { positive = b; atom = Holds s } → l ≡ record { positive = b; atom = Holds t } → s ≡ t
one_term l b s t is it = let same : Holds s ≡ Holds t = ap (λ k. k.atom) (sym is ∙ it) in cc
