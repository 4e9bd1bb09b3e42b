-- Where names are found: among declarations and those behind them, and among the names of bound variables.
use Rattle.std.proofs.Common.{◌≡◌, ℕ, zero, suc, ◌+◌, ◌<◌, ◌^◌, Bool, true, false, cond, nat_lt, if◌then◌else◌, List, [], ◌∷◌, ◌++◌, map, length, slice_get, refl, sym, ap, subst, ◌∙◌, arith, add-one, decimal}
use Rattle.std.specs.Prelude.{Option, Some, None, All, IsTrue}
use Rattle.std.specs.List.{position_or_len, list_all}
use Rattle.std.specs.Option.{option_map}
use Rattle.std.specs.Str.{bytes_eq}
use Rattle.std.proofs.lemmas.Bool.Decides.{nat_tests}
use Rattle.std.proofs.lemmas.Fmt.{decimal_injective}
use Rattle.std.proofs.lemmas.Grind.{common_steps}
use Rattle.std.proofs.lemmas.List.Elements.{All-head, All-tail}
use Rattle.std.proofs.lemmas.Slice.Eq.{bytes_eq-Decides}
use Rattle.hol_terms.specs.declared.ty.Ty.{Ty}
use Rattle.hol_terms.proofs.Both.{both_true}
use Rattle.theory_terms.specs.declared.decl.Decl.{Decl}
use Rattle.theory_terms.specs.Words.{place}
use Rattle.theory_terms.specs.Signature.{found, further}
use Rattle.theory_terms.specs.Meanings.{Scope}
use Rattle.theory_print.specs.Names.{beginning, variable, BeginsElse}
use Rattle.theory_print.specs.Written.{constant_name}

-- ---- names

pub eq_same : (a b : List ℕ) → bytes_eq a b ≡ true → a ≡ b
eq_same a b h = (bytes_eq-Decides a b).0 h

pub eq_true : (a b : List ℕ) → a ≡ b → bytes_eq a b ≡ true
eq_true a b h = (bytes_eq-Decides a b).1 h

other : (a b : List ℕ) (t : Bool) → bytes_eq a b ≡ t → (a ≡ b → ⊥) → t ≡ false
other a b true h n = absurd (n (eq_same a b h))
other a b false h n = refl

pub eq_false : (a b : List ℕ) → (a ≡ b → ⊥) → bytes_eq a b ≡ false
eq_false a b n = let t = bytes_eq a b in other a b t refl n

cancel : (xs ys zs : List ℕ) → xs ++ ys ≡ xs ++ zs → ys ≡ zs
cancel [] ys zs h = h
cancel (x ∷ xs) ys zs h = cancel xs ys zs cc

-- ---- declarations

more_step : (d : Decl) (rest more : Option (ℕ × Ty)) (b : Bool) (v : ℕ × Ty) → ((w : ℕ × Ty) → rest ≡ Some w → more ≡ Some w) →
    (if b then Some (0, d.ty) else further rest) ≡ Some v → (if b then Some (0, d.ty) else further more) ≡ Some v
more_step d rest more true v ih h = h
more_step d None more false v ih h = cc
more_step d (Some w) more false v ih h = ap further (ih w refl) ∙ h

-- what is found is found when more is declared
pub found_front : (name : List ℕ) (ds es : List Decl) (v : ℕ × Ty) → found name ds ≡ Some v → found name (ds ++ es) ≡ Some v
found_front name [] es v h = cc
found_front name (d ∷ ds) es v h = more_step d (found name ds) (found name (ds ++ es)) (bytes_eq name d.name) v (found_front name ds es) h

abbrev Named : List ℕ → List Decl → ℕ × Ty → Type 0
Named name ds v = constant_name (slice_get ds v.0) ≡ name

named_rest : (name : List ℕ) (d : Decl) (ds : List Decl) (o : Option (ℕ × Ty)) (v : ℕ × Ty) → ((w : ℕ × Ty) → o ≡ Some w → Named name ds w) →
    further o ≡ Some v → Named name (d ∷ ds) v
named_rest name d ds None v ih h = cc
named_rest name d ds (Some w) v ih h =
    let e : (w.0 + 1, w.1) ≡ v = cc in
    let k : Named name (d ∷ ds) (w.0 + 1, w.1) = rw add-one (ih w refl) in
    subst (Named name (d ∷ ds)) e k

named_step : (name : List ℕ) (d : Decl) (ds : List Decl) (b : Bool) (v : ℕ × Ty) → bytes_eq name d.name ≡ b → ((w : ℕ × Ty) → found name ds ≡ Some w → Named name ds w) →
    (if b then Some (0, d.ty) else further (found name ds)) ≡ Some v → Named name (d ∷ ds) v
named_step name d ds true v e ih h = let k : (0, d.ty) ≡ v = cc in subst (Named name (d ∷ ds)) k (sym (eq_same name d.name e))
named_step name d ds false v e ih h = named_rest name d ds (found name ds) v ih h

-- what is found has the name
pub found_name : (name : List ℕ) (ds : List Decl) (v : ℕ × Ty) → found name ds ≡ Some v → Named name ds v
found_name name [] v h = cc
found_name name (d ∷ ds) v h = named_step name d ds (bytes_eq name d.name) v refl (found_name name ds) h

typed_rest : (d : Decl) (ds : List Decl) (o : Option (ℕ × Ty)) (v : ℕ × Ty) → ((w : ℕ × Ty) → o ≡ Some w → slice_get (map (λ d. d.ty) ds) w.0 ≡ Some w.1) →
    further o ≡ Some v → slice_get (map (λ d. d.ty) (d ∷ ds)) v.0 ≡ Some v.1
typed_rest d ds None v ih h = cc
typed_rest d ds (Some w) v ih h =
    let e : (w.0 + 1, w.1) ≡ v = cc in
    let k : slice_get (map (λ d. d.ty) (d ∷ ds)) (w.0 + 1) ≡ Some w.1 = rw add-one (ih w refl) in
    subst (λ u. slice_get (map (λ d. d.ty) (d ∷ ds)) u.0 ≡ Some u.1) e k

typed_step : (d : Decl) (ds : List Decl) (o : Option (ℕ × Ty)) (b : Bool) (v : ℕ × Ty) → ((w : ℕ × Ty) → o ≡ Some w → slice_get (map (λ d. d.ty) ds) w.0 ≡ Some w.1) →
    (if b then Some (0, d.ty) else further o) ≡ Some v → slice_get (map (λ d. d.ty) (d ∷ ds)) v.0 ≡ Some v.1
typed_step d ds o true v ih h = let k : (0, d.ty) ≡ v = cc in subst (λ u. slice_get (map (λ d. d.ty) (d ∷ ds)) u.0 ≡ Some u.1) k refl
typed_step d ds o false v ih h = typed_rest d ds o v ih h

-- and the type
pub found_ty : (name : List ℕ) (ds : List Decl) (v : ℕ × Ty) → found name ds ≡ Some v → slice_get (map (λ d. d.ty) ds) v.0 ≡ Some v.1
found_ty name [] v h = cc
found_ty name (d ∷ ds) v h = typed_step d ds (found name ds) (bytes_eq name d.name) v (found_ty name ds) h

some_further : (o : Option (ℕ × Ty)) (v : ℕ × Ty) → further o ≡ Some v → (w : ℕ × Ty) × (o ≡ Some w)
some_further None v h = cc
some_further (Some w) v h = (w, refl)

else_step : (front name : List ℕ) (d : Decl) (o : Option (ℕ × Ty)) (b : Bool) (v : ℕ × Ty) → bytes_eq name d.name ≡ b → BeginsElse front d.name →
    ((w : ℕ × Ty) → o ≡ Some w → BeginsElse front name) → (if b then Some (0, d.ty) else further o) ≡ Some v → BeginsElse front name
else_step front name d o true v e n ih h = subst (BeginsElse front) (sym (eq_same name d.name e)) n
else_step front name d o false v e n ih h = let s = some_further o v h in ih s.0 s.1

-- what is found begins as all names do
pub found_else : (front name : List ℕ) (ds : List Decl) (v : ℕ × Ty) → All (λ d. BeginsElse front d.name) ds → found name ds ≡ Some v → BeginsElse front name
found_else front name [] v a h = cc
found_else front name (d ∷ ds) v a h =
    let first = All-head (λ d. BeginsElse front d.name) d ds a in
    let rest = All-tail (λ d. BeginsElse front d.name) d ds a in
    else_step front name d (found name ds) (bytes_eq name d.name) v refl first (λ w e. found_else front name ds w rest e) h

ok_step : (ok : List ℕ → Bool) (name : List ℕ) (d : Decl) (o : Option (ℕ × Ty)) (b : Bool) (v : ℕ × Ty) → bytes_eq name d.name ≡ b → IsTrue (ok d.name) →
    ((w : ℕ × Ty) → o ≡ Some w → IsTrue (ok name)) → (if b then Some (0, d.ty) else further o) ≡ Some v → IsTrue (ok name)
ok_step ok name d o true v e n ih h = subst (λ z. IsTrue (ok z)) (sym (eq_same name d.name e)) n
ok_step ok name d o false v e n ih h = let s = some_further o v h in ih s.0 s.1

-- what is found passes a test that all names pass
pub found_ok : (ok : List ℕ → Bool) (name : List ℕ) (ds : List Decl) (v : ℕ × Ty) → IsTrue (list_all (λ d. ok d.name) ds) → found name ds ≡ Some v → IsTrue (ok name)
found_ok ok name [] v a h = cc
found_ok ok name (d ∷ ds) v a h =
    let s = both_true (ok d.name) (list_all (λ d. ok d.name) ds) a in
    ok_step ok name d (found name ds) (bytes_eq name d.name) v refl s.0 (λ w e. found_ok ok name ds w s.1 e) h

pub all_get : (ok : List ℕ → Bool) (xs : List (List ℕ)) (i : ℕ) (x : List ℕ) → IsTrue (list_all ok xs) → slice_get xs i ≡ Some x → IsTrue (ok x)
all_get ok [] i x a h = cc
all_get ok (y ∷ ys) zero x a h = let e : y ≡ x = cc in subst (λ z. IsTrue (ok z)) e (both_true (ok y) (list_all ok ys) a).0
all_get ok (y ∷ ys) (suc i) x a h = all_get ok ys i x (both_true (ok y) (list_all ok ys) a).1 h

-- ---- bound variables

-- bound variables of these types, the innermost first, with the names that are printed
abbrev pub scope_of : ℕ → List Ty → Scope
scope_of k [] = []
scope_of k (a ∷ as_) = record { name = variable k (length as_); ty = a } ∷ scope_of k as_

-- a name that begins otherwise is none of theirs
pub unbound : (k : ℕ) (name : List ℕ) (tys : List Ty) → BeginsElse (beginning k) name → found name (scope_of k tys) ≡ None
unbound k name [] n = refl
unbound k name (a ∷ tys) n =
    let e : bytes_eq name (variable k (length tys)) ≡ false = eq_false name (variable k (length tys)) (λ s. n (decimal (length tys)) s) in
    rw (e, unbound k name tys n) refl

other_depth : (k m n : ℕ) → m < 2 ^ 64 → n < 2 ^ 64 → m < n → bytes_eq (variable k m) (variable k n) ≡ false
other_depth k m n a b l =
    eq_false (variable k m) (variable k n) (λ s. let e : m ≡ n = decimal_injective m n a b (cancel (beginning k) (decimal m) (decimal n) s) in let f : ⊥ = omega arith in f)

-- the variable that stands in this number of others is found at its index
pub rebound : (k d : ℕ) (tys : List Ty) (i : ℕ) (a : Ty) → length tys < 2 ^ 64 → d + (i + 1) ≡ length tys → slice_get tys i ≡ Some a →
    found (variable k d) (scope_of k tys) ≡ Some (i, a)
rebound k d [] i a low e h = cc
rebound k d (b ∷ tys) zero a low e h =
    let same : d ≡ length tys = omega arith in
    let t : bytes_eq (variable k d) (variable k (length tys)) ≡ true = eq_true (variable k d) (variable k (length tys)) (ap (variable k) same) in
    rw t (let f : b ≡ a = cc in ap (λ z. Some (0, z)) f)
rebound k d (b ∷ tys) (suc i) a low e h =
    let l : d + (i + 1) ≡ length tys = omega arith in
    let t : bytes_eq (variable k d) (variable k (length tys)) ≡ false = other_depth k d (length tys) (omega arith) (omega arith) (omega arith) in
    rw t (ap further (rebound k d tys i a (omega arith) l h) ∙ ap (λ n. Some (n, a)) (add-one i))

-- ---- types

module _ (name : List ℕ) where
  shifted : (k n : ℕ) → cond (nat_lt (1 + k) (suc n)) (Some (1 + k)) None ≡ option_map (λ i. i + 1) (cond (nat_lt k n) (Some k) None)
  shifted k n = grind (arith, nat_tests)

  pub at_first : (x : List ℕ) (xs : List (List ℕ)) → bytes_eq name x ≡ true → place name (x ∷ xs) ≡ Some 0
  at_first x xs h = grind (arith, nat_tests, common_steps)

  pub at_rest : (x : List ℕ) (xs : List (List ℕ)) → bytes_eq name x ≡ false → place name (x ∷ xs) ≡ option_map (λ i. i + 1) (place name xs)
  at_rest x xs h = rw h (shifted (position_or_len (bytes_eq name) xs) (length xs))

  some_map : (o : Option ℕ) (i : ℕ) → option_map (λ i. i + 1) o ≡ Some i → (j : ℕ) × (o ≡ Some j) × (j + 1 ≡ i)
  some_map None i h = cc
  some_map (Some j) i h = (j, refl, cc)

  -- what a place says: the name is there, and it stays when more is declared
  abbrev pub Placed_at : List (List ℕ) → ℕ → Type 0
  Placed_at xs i = (slice_get xs i ≡ Some name) × ((ys : List (List ℕ)) → place name (xs ++ ys) ≡ Some i) × ((ys : List (List ℕ)) → slice_get (xs ++ ys) i ≡ slice_get xs i)

  place_step : (x : List ℕ) (xs : List (List ℕ)) (b : Bool) (i : ℕ) → bytes_eq name x ≡ b → ((j : ℕ) → place name xs ≡ Some j → Placed_at xs j) →
      place name (x ∷ xs) ≡ Some i → Placed_at (x ∷ xs) i
  place_step x xs true i e ih h =
      let k : 0 ≡ i = let f : Some 0 ≡ Some i = sym (at_first x xs e) ∙ h in cc in
      subst (Placed_at (x ∷ xs)) k (ap (λ z. Some z) (sym (eq_same name x e)), (λ ys. at_first x (xs ++ ys) e), (λ ys. refl))
  place_step x xs false i e ih h =
      let s = some_map (place name xs) i (sym (at_rest x xs e) ∙ h) in
      let r = ih s.0 s.1 in
      let k : suc s.0 ≡ i = sym (add-one s.0) ∙ s.2 in
      subst (Placed_at (x ∷ xs)) k (r.0, (λ ys. at_rest x (xs ++ ys) e ∙ ap (option_map (λ i. i + 1)) (r.1 ys) ∙ ap (λ n. Some n) (add-one s.0)), r.2)

  pub placed_at : (xs : List (List ℕ)) (i : ℕ) → place name xs ≡ Some i → Placed_at xs i
  placed_at [] i h = cc
  placed_at (x ∷ xs) i h = place_step x xs (bytes_eq name x) i refl (placed_at xs) h
