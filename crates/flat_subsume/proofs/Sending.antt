-- The literals of one clause are sent to those of another, one after the other.
use Rattle.std.proofs.Common.{◌≡◌, ℕ, ◌+◌, ◌<◌, ◌≤◌, below_more, Bool, true, false, Option, None, Some, List, [], ◌∷◌, ◌++◌, length, map, drop, get_or, slice_get, refl, sym, ap, subst, ◌∙◌, arith}
use Rattle.std.proofs.lemmas.List.{length-map, map-append, drop_all}
use Rattle.std.proofs.lemmas.Option.{slice_get-get_or, get_or_from_slice_get, slice_get_within}
use Rattle.fo_terms.specs.declared.term.FoTerm.{FoTerm}
use Rattle.fo_terms.specs.declared.atom.Atom.{Atom}
use Rattle.fo_terms.specs.declared.atom.Atom.TheVariants.{Holds, Eq}
use Rattle.fo_terms.specs.declared.literal.Literal.{Literal}
use Rattle.fo_terms.specs.Substitution.{var, fun, put, put_atom, put_literal}
use Rattle.fo_terms.specs.Normal.{atom_terms}
use Rattle.fo_terms.proofs.Heads.{fun_same}
use Rattle.fo_terms.proofs.Substitution.{put_var, put_fun}
use Rattle.fo_unify.proofs.Closing.{drop_read}
use Rattle.fo_cells.specs.declared.cell.Cell.{Cell}
use Rattle.fo_cells.specs.declared.cell.Cell.TheVariants.{Var, Fun}
use Rattle.fo_cells.specs.Binds.{Agrees}
use Rattle.fo_cells.specs.Cells.{joined, cells_of, is_equation}
use Rattle.fo_cells.proofs.Rows.{Split, split, SplitVariable, split_variable, no_terms, never}
use Rattle.fo_cells.proofs.Terms.{cells_fun, cells_injective}
use Rattle.fo_infer.specs.inner.Covering.{Sends}
use Rattle.flat_subsume.specs.inner.Covering.{Tells, Covers, CoversBy, GoesOn}

abbrev pub Bounds : Type 0
Bounds = List (ℕ × List Cell)

-- ---- answers

pub told_as : (r : Option Bool) (P Q : Type 0) → (P → Q) → (Q → P) → Tells r P → Tells r Q
told_as None P Q to from h = tt
told_as (Some b) P Q to from h = (λ yes. to (h.0 yes), λ q. h.1 (from q))

pub told_not : (P : Type 0) → (P → ⊥) → Tells (Some false) P
told_not P none = (λ yes. never yes, λ p. absurd (none p))

-- ---- literals of d in turn

-- none of the first literals of d is what the literal at place k is sent to
abbrev pub NoneBefore : Bounds → List Literal → ℕ → List Literal → ℕ → Type 0
NoneBefore bs c k d j =
    (i : ℕ) → i < j → (l m : Literal) → slice_get c k ≡ Some l → slice_get d i ≡ Some m → CoversBy bs d (drop (k + 1) c) l m → ⊥

some_same : (l m : Literal) → Some l ≡ Some m → l ≡ m
some_same l m h = cc

pub none_more : (bs : Bounds) (c : List Literal) (k : ℕ) (d : List Literal) (j : ℕ) → NoneBefore bs c k d j
    → ((l m : Literal) → slice_get c k ≡ Some l → slice_get d j ≡ Some m → CoversBy bs d (drop (k + 1) c) l m → ⊥) → NoneBefore bs c k d (j + 1)
none_more bs c k d j none here =
    below_more (λ i. (l m : Literal) → slice_get c k ≡ Some l → slice_get d i ≡ Some m → CoversBy bs d (drop (k + 1) c) l m → ⊥) j none here

drop_here : (c : List Literal) (k : ℕ) (l : Literal) → slice_get c k ≡ Some l → drop k c ≡ l ∷ drop (k + 1) c
drop_here c k l at = drop_read c k l (slice_get_within c k l at) (sym (get_or_from_slice_get c k l l at))

pub all_sent : (bs : Bounds) (c : List Literal) (k : ℕ) (d : List Literal) → length c ≤ k → (v : ℕ → FoTerm) → Agrees v bs → Covers bs d (drop k c)
all_sent bs c k d over v agree = (v, agree, subst (Sends v d) (sym (drop_all k c over)) tt)

pub found : (bs : Bounds) (c : List Literal) (k : ℕ) (d : List Literal) (j : ℕ) (l m : Literal) → slice_get c k ≡ Some l → slice_get d j ≡ Some m
    → CoversBy bs d (drop (k + 1) c) l m → Covers bs d (drop k c)
found bs c k d j l m here there h =
    let v : ℕ → FoTerm = h.0 in
    let image : Literal = put_literal v l in
    let at : get_or d j image ≡ image = get_or_from_slice_get d j m image there ∙ sym h.2 in
    (v, h.1, subst (Sends v d) (sym (drop_here c k l here)) ((j, slice_get_within d j m there, at), h.3))

pub none_found : (bs : Bounds) (c : List Literal) (k : ℕ) (d : List Literal) (j : ℕ) → k < length c → length d ≤ j → NoneBefore bs c k d j → Covers bs d (drop k c) → ⊥
none_found bs c k d j within over none h =
    let v : ℕ → FoTerm = h.0 in
    let l : Literal = get_or c k (record { positive = true; atom = Holds (var 0) }) in
    let here : slice_get c k ≡ Some l = slice_get-get_or c k (record { positive = true; atom = Holds (var 0) }) within in
    let sent : Sends v d (l ∷ drop (k + 1) c) = subst (Sends v d) (drop_here c k l here) h.2 in
    let place = sent.0 in
    none place.0 (omega (arith, place.1)) l (put_literal v l) here (slice_get-get_or d place.0 (put_literal v l) place.1 ∙ ap Some place.2) (v, h.1, refl, sent.1)

-- ---- a literal is sent to another

same_kind : (v : ℕ → FoTerm) (a : Atom) → is_equation a ≡ is_equation (put_atom v a)
same_kind v (Holds t) = refl
same_kind v (Eq s t) = refl

pub other_sign : (bs : Bounds) (d ls : List Literal) (l m : Literal) → (l.positive ≡ m.positive → ⊥) → CoversBy bs d ls l m → ⊥
other_sign bs d ls l m apart h = apart (ap (λ k. k.positive) h.2)

pub other_kind : (bs : Bounds) (d ls : List Literal) (l m : Literal) → (is_equation l.atom ≡ is_equation m.atom → ⊥) → CoversBy bs d ls l m → ⊥
other_kind bs d ls l m apart h = apart (same_kind h.0 l.atom ∙ ap (λ k. is_equation k.atom) h.2)

put_terms : (v : ℕ → FoTerm) (a b : Atom) → put_atom v a ≡ b → map (put v) (atom_terms a) ≡ atom_terms b
put_terms v (Holds t) b is = ap atom_terms is
put_terms v (Eq s t) b is = ap atom_terms is

one_same : (s t : FoTerm) → s ∷ [] ≡ t ∷ [] → s ≡ t
one_same s t h = cc

two_same : (s t a b : FoTerm) → s ∷ t ∷ [] ≡ a ∷ b ∷ [] → (s ≡ a) × (t ≡ b)
two_same s t a b h = (cc, cc)

from_terms : (v : ℕ → FoTerm) (a b : Atom) → is_equation a ≡ is_equation b → map (put v) (atom_terms a) ≡ atom_terms b → put_atom v a ≡ b
from_terms v (Holds s) (Holds t) kind is = ap Holds (one_same (put v s) t is)
from_terms v (Holds s) (Eq c d) kind is = never kind
from_terms v (Eq a b) (Holds t) kind is = never (sym kind)
from_terms v (Eq a b) (Eq c d) kind is =
    let both : (put v a ≡ c) × (put v b ≡ d) = two_same (put v a) (put v b) c d is in
    let left : put v a ≡ c = both.0 in
    let right : put v b ≡ d = both.1 in
    λ i. Eq (left i) (right i)

pub by_terms : (r : Option Bool) (bs : Bounds) (d ls : List Literal) (l m : Literal) → l.positive ≡ m.positive → is_equation l.atom ≡ is_equation m.atom
    → Tells r (GoesOn bs d ls (atom_terms l.atom) (atom_terms m.atom)) → Tells r (CoversBy bs d ls l m)
by_terms r bs d ls l m sign kind told =
    told_as r (GoesOn bs d ls (atom_terms l.atom) (atom_terms m.atom)) (CoversBy bs d ls l m)
    (λ h. (h.0, h.1, made h.0 (from_terms h.0 l.atom m.atom kind h.2), h.3))
    (λ h. (h.0, h.1, put_terms h.0 l.atom m.atom (ap (λ k. k.atom) h.2), h.3))
    told
  where
    made : (v : ℕ → FoTerm) → put_atom v l.atom ≡ m.atom → put_literal v l ≡ m
    made v atom i = record { positive = sign i; atom = atom i }

-- ---- along the cells of two literals

pub at_end : (r : Option Bool) (bs : Bounds) (d ls : List Literal) (ps ts : List FoTerm) → joined (map cells_of ps) ≡ [] → joined (map cells_of ts) ≡ []
    → Tells r (Covers bs d ls) → Tells r (GoesOn bs d ls ps ts)
at_end r bs d ls ps ts left right told =
    let none : ps ≡ [] = no_terms ps left in
    let nothing : ts ≡ [] = no_terms ts right in
    told_as r (Covers bs d ls) (GoesOn bs d ls ps ts)
    (λ h. (h.0, h.1, ap (map (put h.0)) none ∙ sym nothing, h.2))
    (λ h. (h.0, h.1, h.3))
    told

pub not_end : (bs : Bounds) (d ls : List Literal) (ps ts : List FoTerm) (right : List Cell) → joined (map cells_of ps) ≡ [] → joined (map cells_of ts) ≡ right → 0 < length right
    → GoesOn bs d ls ps ts → ⊥
not_end bs d ls ps ts right left row some h =
    let nothing : ts ≡ [] = sym h.2 ∙ ap (map (put h.0)) (no_terms ps left) in
    omega (arith, some, ap length (sym row ∙ ap (λ us. joined (map cells_of us)) nothing))

front_same : (xs ys us vs : List FoTerm) → length xs ≡ length ys → xs ++ us ≡ ys ++ vs → (xs ≡ ys) × (us ≡ vs)
front_same [] [] us vs long is = (refl, is)
front_same [] (y ∷ ys) us vs long is = absurd (omega (arith, long))
front_same (x ∷ xs) [] us vs long is = absurd (omega (arith, long))
front_same (x ∷ xs) (y ∷ ys) us vs long is =
    let rest : (xs ≡ ys) × (us ≡ vs) = front_same xs ys us vs (omega (arith, long)) (tails x y (xs ++ us) (ys ++ vs) is) in
    let first : x ≡ y = heads x y (xs ++ us) (ys ++ vs) is in
    ((λ i. first i ∷ rest.0 i), rest.1)
  where
    heads : (x y : FoTerm) (xs ys : List FoTerm) → x ∷ xs ≡ y ∷ ys → x ≡ y
    heads x y xs ys h = cc

    tails : (x y : FoTerm) (xs ys : List FoTerm) → x ∷ xs ≡ y ∷ ys → xs ≡ ys
    tails x y xs ys h = cc

conses_same : (x y : FoTerm) (xs ys : List FoTerm) → x ∷ xs ≡ y ∷ ys → (x ≡ y) × (xs ≡ ys)
conses_same x y xs ys h = (cc, cc)

module _ (v : ℕ → FoTerm) (f : ℕ) (args more us rest : List FoTerm) (long : length args ≡ length us) where
  symbol_in : map (put v) (args ++ more) ≡ us ++ rest → map (put v) (fun f args ∷ more) ≡ fun f us ∷ rest
  symbol_in is =
      let both : (map (put v) args ≡ us) × (map (put v) more ≡ rest) =
      front_same (map (put v) args) us (map (put v) more) rest (length-map args (put v) ∙ long) (sym (map-append (put v) args more) ∙ is) in
      let first : put v (fun f args) ≡ fun f us = put_fun v f args ∙ ap (fun f) both.0 in
      let others : map (put v) more ≡ rest = both.1 in
      λ i. first i ∷ others i

  symbol_out : map (put v) (fun f args ∷ more) ≡ fun f us ∷ rest → map (put v) (args ++ more) ≡ us ++ rest
  symbol_out is =
      let both : (put v (fun f args) ≡ fun f us) × (map (put v) more ≡ rest) = conses_same (put v (fun f args)) (fun f us) (map (put v) more) rest is in
      let same : map (put v) args ≡ us = (fun_same f f (map (put v) args) us (sym (put_fun v f args) ∙ both.0)).1 in
      let others : map (put v) more ≡ rest = both.1 in
      map-append (put v) args more ∙ (λ i. same i ++ others i)

pub at_symbol : (r : Option Bool) (bs : Bounds) (d ls : List Literal) (ps ts : List FoTerm) (n f size other : ℕ) (left right behind rest : List Cell)
    → joined (map cells_of ps) ≡ left → joined (map cells_of ts) ≡ right → left ≡ Fun n size f ∷ behind → Fun n other f ∷ rest ≡ right
    → ((qs us : List FoTerm) → joined (map cells_of qs) ≡ behind → joined (map cells_of us) ≡ rest → Tells r (GoesOn bs d ls qs us))
    → Tells r (GoesOn bs d ls ps ts)
at_symbol r bs d ls ps ts n f size other left right behind rest lrow rrow lis ris says =
    let p : Split n f behind ps = split ps n size f behind (lrow ∙ lis) in
    let t : Split n f rest ts = split ts n other f rest (rrow ∙ sym ris) in
    let long : length p.0 ≡ length t.0 = p.3 ∙ sym t.3 in
    told_as r (GoesOn bs d ls (p.0 ++ p.1) (t.0 ++ t.1)) (GoesOn bs d ls ps ts)
    (λ h. (h.0, h.1, ap (map (put h.0)) p.2 ∙ symbol_in h.0 f p.0 p.1 t.0 t.1 long h.2 ∙ sym t.2, h.3))
    (λ h. (h.0, h.1, symbol_out h.0 f p.0 p.1 t.0 t.1 long (sym (ap (map (put h.0)) p.2) ∙ h.2 ∙ t.2), h.3))
    (says (p.0 ++ p.1) (t.0 ++ t.1) p.4 t.4)

pub no_symbol : (bs : Bounds) (d ls : List Literal) (ps ts : List FoTerm) (n f size : ℕ) (left right behind : List Cell)
    → joined (map cells_of ps) ≡ left → joined (map cells_of ts) ≡ right → left ≡ Fun n size f ∷ behind → ((other : ℕ) (rest : List Cell) → Fun n other f ∷ rest ≡ right → ⊥)
    → GoesOn bs d ls ps ts → ⊥
no_symbol bs d ls ps ts n f size left right behind lrow rrow lis none h =
    let p : Split n f behind ps = split ps n size f behind (lrow ∙ lis) in
    let us : List FoTerm = map (put h.0) p.0 in
    let more : List FoTerm = map (put h.0) p.1 in
    let is : fun f us ∷ more ≡ ts = (λ i. sym (put_fun h.0 f p.0) i ∷ more) ∙ sym (ap (map (put h.0)) p.2) ∙ h.2 in
    let count : length (map cells_of us) ≡ n = length-map us cells_of ∙ length-map p.0 (put h.0) ∙ p.3 in
    let size : ℕ = length (joined (map cells_of us)) + 1 in
    let front : Fun n size f ∷ joined (map cells_of us) ≡ cells_of (fun f us) = (λ i. Fun (sym count i) size f ∷ joined (map cells_of us)) ∙ sym (cells_fun f us) in
    none size (joined (map cells_of us) ++ joined (map cells_of more))
    (ap (λ c. c ++ joined (map cells_of more)) front ∙ ap (λ ks. joined (map cells_of ks)) is ∙ rrow)

pub at_variable : (r : Option Bool) (bs : Bounds) (d ls : List Literal) (ps ts : List FoTerm) (x : ℕ) (left behind : List Cell) → joined (map cells_of ps) ≡ left → left ≡ Var x ∷ behind
    → ((qs : List FoTerm) → joined (map cells_of qs) ≡ behind → Tells r (GoesOn bs d ls (var x ∷ qs) ts)) → Tells r (GoesOn bs d ls ps ts)
at_variable r bs d ls ps ts x left behind row is says =
    let p : SplitVariable x behind ps = split_variable ps x behind (row ∙ is) in
    subst (λ qs. Tells r (GoesOn bs d ls qs ts)) (sym p.1) (says p.0 p.2)

-- ---- a variable and the first term on the right

pub no_term : (bs : Bounds) (d ls : List Literal) (x : ℕ) (ps ts : List FoTerm) → joined (map cells_of ts) ≡ [] → GoesOn bs d ls (var x ∷ ps) ts → ⊥
no_term bs d ls x ps ts row h =
    let wrong : map (put h.0) (var x ∷ ps) ≡ [] = h.2 ∙ no_terms ts row in omega (arith, ap length wrong)

module _ (bs : Bounds) (d ls : List Literal) (x : ℕ) (ps ts us : List FoTerm) (t : FoTerm) (is : ts ≡ t ∷ us) where
  into : (v : ℕ → FoTerm) → v x ≡ t → map (put v) ps ≡ us → map (put v) (var x ∷ ps) ≡ ts
  into v first rest = (λ i. (put_var v x ∙ first) i ∷ rest i) ∙ sym is

  out : (v : ℕ → FoTerm) → map (put v) (var x ∷ ps) ≡ ts → (v x ≡ t) × (map (put v) ps ≡ us)
  out v made =
      let both : (put v (var x) ≡ t) × (map (put v) ps ≡ us) = conses_same (put v (var x)) t (map (put v) ps) us (made ∙ is) in
      (sym (put_var v x) ∙ both.0, both.1)

  pub held_other : (held : List Cell) → ((v : ℕ → FoTerm) → Agrees v bs → cells_of (v x) ≡ held) → (held ≡ cells_of t → ⊥) → GoesOn bs d ls (var x ∷ ps) ts → ⊥
  held_other held stands apart h = apart (sym (stands h.0 h.1) ∙ ap cells_of (out h.0 h.2).0)

  pub held_same : (r : Option Bool) (held : List Cell) → ((v : ℕ → FoTerm) → Agrees v bs → cells_of (v x) ≡ held) → held ≡ cells_of t
      → Tells r (GoesOn bs d ls ps us) → Tells r (GoesOn bs d ls (var x ∷ ps) ts)
  held_same r held stands same told =
      told_as r (GoesOn bs d ls ps us) (GoesOn bs d ls (var x ∷ ps) ts)
      (λ h. (h.0, h.1, into h.0 (cells_injective (h.0 x) t (stands h.0 h.1 ∙ same)) h.2, h.3))
      (λ h. (h.0, h.1, (out h.0 h.2).1, h.3))
      told

  pub held_new : (r : Option Bool) (first : List Cell) → first ≡ cells_of t → Tells r (GoesOn ((x, first) ∷ bs) d ls ps us) → Tells r (GoesOn bs d ls (var x ∷ ps) ts)
  held_new r first same told =
      told_as r (GoesOn ((x, first) ∷ bs) d ls ps us) (GoesOn bs d ls (var x ∷ ps) ts)
      (λ h. (h.0, h.1.1, into h.0 (cells_injective (h.0 x) t (h.1.0 ∙ same)) h.2, h.3))
      (λ h. let both : (h.0 x ≡ t) × (map (put h.0) ps ≡ us) = out h.0 h.2 in (h.0, (ap cells_of both.0 ∙ sym same, h.1), both.1, h.3))
      told
