-- Literals that are added to others.
use Rattle.std.proofs.Common.{◌≡◌, ◌↔◌, ℕ, zero, suc, ◌+◌, ◌<◌, ◌≤◌, Bool, true, false, not, ◌==◌, ◌&&◌, ◌||◌, if◌then◌else◌, IsTrue, List, [], ◌∷◌, ◌++◌, map, length, take, drop, get_or, sum, ◌-◌, length-drop, refl, sym, ap, subst, ◌∙◌, arith}
use Rattle.std.specs.List.{list_any}
use Rattle.std.proofs.lemmas.List.{append_assoc, append-nil, map-append, take_all}
use Rattle.fo_terms.specs.declared.term.FoTerm.{FoTerm}
use Rattle.fo_terms.specs.declared.atom.Atom.{Atom}
use Rattle.fo_terms.specs.declared.atom.Atom.TheVariants.{Holds, Eq}
use Rattle.fo_terms.specs.declared.literal.Literal.{Literal}
use Rattle.fo_terms.specs.Substitution.{var, put, put_atom, put_literal, put_literals}
use Rattle.fo_terms.specs.Weight.{size_of, literal_size, atom_size}
use Rattle.fo_terms.specs.Same.{is_term, is_literal}
use Rattle.fo_terms.specs.Normal.{is_refuted, lasting, numbered, firsts, clause_variables, place_of}
use Rattle.fo_terms.specs.inner.Gathered.{added, kept}
use Rattle.fo_terms.proofs.Induction.{Each, by_cases}
use Rattle.fo_terms.proofs.Substitution.{put_var, put_fun, size_var, size_fun, sum_cons}
use Rattle.fo_terms.proofs.Sameness.{is_term_itself, is_term_sound, is_literal_sound}
use Rattle.fo_terms.proofs.Gathering.{lasting_push}
use Rattle.fo_unify.proofs.Closing.{drop_read}
use Rattle.fo_cells.specs.declared.cell.Cell.{Cell}
use Rattle.fo_cells.specs.Cells.{cells_of}
use Rattle.fo_cells.proofs.Terms.{cells_size}
use Rattle.fo_light.specs.Written.{Written}
use Rattle.fo_light.specs.Grown.{weight_of, all_kept, Grown, Concluded}

-- ---- one after another

pub all_kept_append : (old a b : List Literal) → all_kept old (a ++ b) ≡ all_kept (all_kept old a) b
all_kept_append old [] b = refl
all_kept_append old (l ∷ a) b = all_kept_append (kept old l) a b

pub all_kept_lasting : (done ls : List Literal) → all_kept (lasting done) ls ≡ lasting (done ++ ls)
all_kept_lasting done [] = ap lasting (sym (append-nil done))
all_kept_lasting done (l ∷ ls) = ap (λ k. all_kept k ls) (lasting_push done l) ∙ all_kept_lasting (done ++ l ∷ []) ls ∙ ap lasting (append_assoc done (l ∷ []) ls)

-- ---- weights

weight_push : (ls : List Literal) (l : Literal) → weight_of (ls ++ l ∷ []) ≡ weight_of ls + literal_size l
weight_push [] l = omega (arith, sum_cons (literal_size l) [])
weight_push (m ∷ ls) l = omega (arith, weight_push ls l, sum_cons (literal_size m) (map literal_size ls), sum_cons (literal_size m) (map literal_size (ls ++ l ∷ [])))

added_weight : (ls : List Literal) (l : Literal) (refuted there : Bool) → weight_of ls ≤ weight_of (if refuted then ls else (if there then ls else ls ++ l ∷ []))
added_weight ls l true there = omega arith
added_weight ls l false true = omega arith
added_weight ls l false false = omega (arith, weight_push ls l)

kept_weight : (ls : List Literal) (l : Literal) → weight_of ls ≤ weight_of (kept ls l)
kept_weight ls l = added_weight ls l (is_refuted l) (list_any (λ y. is_literal y l) ls)

pub all_kept_weight : (old ls : List Literal) → weight_of old ≤ weight_of (all_kept old ls)
all_kept_weight old [] = omega arith
all_kept_weight old (l ∷ ls) = omega (arith, kept_weight old l, all_kept_weight (kept old l) ls)

there_on : (m : Literal) (ls : List Literal) (l : Literal) (b : Bool) → is_literal m l ≡ b → list_any (λ y. is_literal y l) (m ∷ ls) ≡ true
    → (list_any (λ y. is_literal y l) ls ≡ true → literal_size l ≤ weight_of ls) → literal_size l ≤ weight_of (m ∷ ls)
there_on m ls l true e h rest = let same : literal_size m ≡ literal_size l = ap literal_size (is_literal_sound m l e) in omega (arith, same, sum_cons (literal_size m) (map literal_size ls))
there_on m ls l false e h rest =
    let later : list_any (λ y. is_literal y l) ls ≡ true = sym (ap (λ b. b || list_any (λ y. is_literal y l) ls) e) ∙ h in
    omega (arith, rest later, sum_cons (literal_size m) (map literal_size ls))

-- a literal that is there weighs no more than all
there_weight : (ls : List Literal) (l : Literal) → list_any (λ y. is_literal y l) ls ≡ true → literal_size l ≤ weight_of ls
there_weight [] l h = let clash : false ≡ true = h in cc
there_weight (m ∷ ls) l h = there_on m ls l (is_literal m l) refl h (there_weight ls l)

-- ---- one literal that has no room

new_weight : (ls : List Literal) (l : Literal) (there : Bool) → list_any (λ y. is_literal y l) ls ≡ there → weight_of ls ≤ 512 → 512 < literal_size l → 512 < weight_of (if there then ls else ls ++ l ∷ [])
new_weight ls l true e light large = absurd (let part = there_weight ls l e in omega arith)
new_weight ls l false e light large = omega (arith, weight_push ls l)

pub no_room : (old : List Literal) (l : Literal) (r : Bool) → weight_of old ≤ 512 → 512 < literal_size l → r ≡ is_refuted l → Grown old (l ∷ []) r old
no_room old l true light large is = (sym (ap (λ b. if b then old else added is_literal old l) (sym is)), light)
no_room old l false light large is =
    subst (λ b. 512 < weight_of (if b then old else added is_literal old l)) is (new_weight old l (list_any (λ y. is_literal y l) old) refl light large)

pub holds_lasts : (positive : Bool) (t : FoTerm) → false ≡ is_refuted (record { positive = positive; atom = Holds t })
holds_lasts true t = refl
holds_lasts false t = refl

same_tests : (b c : Bool) (s t : FoTerm) → is_term s t ≡ c → IsTrue b ↔ (s ≡ t) → b ≡ c
same_tests true true s t e h = refl
same_tests true false s t e h = let here : is_term s t ≡ true = subst (λ u. is_term s u ≡ true) (h.0 refl) (is_term_itself s) in sym here ∙ e
same_tests false true s t e h = h.1 (is_term_sound s t e)
same_tests false false s t e h = refl

pub sides_refuted : (positive : Bool) (b : Bool) (s t : FoTerm) → positive ≡ false → IsTrue b ↔ (s ≡ t) → b ≡ is_refuted (record { positive = positive; atom = Eq s t })
sides_refuted positive b s t e h = same_tests b (is_term s t) s t refl h ∙ sym (ap (λ p. not p && is_term s t) e)

pub sides_last : (positive : Bool) (s t : FoTerm) → positive ≡ true → false ≡ is_refuted (record { positive = positive; atom = Eq s t })
sides_last positive s t e = sym (ap (λ p. not p && is_term s t) e)

-- ---- several

module _ (old : List Literal) (a b : List Literal) where
  pub grown_then : (mid new : List Literal) (r : Bool) → Grown old a true mid → Grown mid b r new → Grown old (a ++ b) r new
  grown_then mid new true h k = (k.0 ∙ ap (λ o. all_kept o b) h.0 ∙ sym (all_kept_append old a b), k.1)
  grown_then mid new false h k = subst (λ ls. 512 < weight_of ls) (ap (λ o. all_kept o b) h.0 ∙ sym (all_kept_append old a b)) k

  pub grown_stops : (mid new : List Literal) → Grown old a false mid → Grown old (a ++ b) false new
  grown_stops mid new h = subst (λ ls. 512 < weight_of ls) (sym (all_kept_append old a b)) (let more = all_kept_weight (all_kept old a) b in omega arith)

pub rest_all : {X : Type 0} (k : ℕ) (xs : List X) → take (length xs - k) (drop k xs) ≡ drop k xs
rest_all k xs = take_all (length xs - k) (drop k xs) (let size : length (drop k xs) ≡ length xs - k = length-drop k xs in omega arith)

-- two parts of a list of literals
module _ (v : ℕ → FoTerm) (old mid : List Literal) (a b ls : List Literal) (is : ls ≡ a ++ b) where
  put_parts : put_literals v ls ≡ put_literals v a ++ put_literals v b
  put_parts = ap (put_literals v) is ∙ map-append (put_literal v) a b

  pub both_stop : (new : List Literal) → Grown old (put_literals v a) false mid → Grown old (put_literals v ls) false new
  both_stop new h = subst (λ s. Grown old s false new) (sym put_parts) (grown_stops old (put_literals v a) (put_literals v b) mid new h)

  pub both_then : (new : List Literal) (r : Bool) → Grown old (put_literals v a) true mid → Grown mid (put_literals v b) r new → Grown old (put_literals v ls) r new
  both_then new r h k = subst (λ s. Grown old s r new) (sym put_parts) (grown_then old (put_literals v a) (put_literals v b) mid new r h k)

-- two parts with a literal between them
module _ (v : ℕ → FoTerm) (old mid next : List Literal) (a b ls : List Literal) (by : Literal) (is : ls ≡ a ++ by ∷ b) (first : Grown old (put_literals v a) true mid) where
  put_around : put_literals v ls ≡ (put_literals v a ++ put_literal v by ∷ []) ++ put_literals v b
  put_around = ap (put_literals v) is ∙ map-append (put_literal v) a (by ∷ b) ∙ sym (append_assoc (put_literals v a) (put_literal v by ∷ []) (put_literals v b))

  pub changed_stop : Grown mid (put_literal v by ∷ []) false next → Grown old (put_literals v ls) false next
  changed_stop h =
      subst (λ s. Grown old s false next) (sym put_around)
      (grown_stops old (put_literals v a ++ put_literal v by ∷ []) (put_literals v b) next next (grown_then old (put_literals v a) (put_literal v by ∷ []) mid next false first h))

  pub changed_then : Grown mid (put_literal v by ∷ []) true next → (new : List Literal) (r : Bool) → Grown next (put_literals v b) r new → Grown old (put_literals v ls) r new
  changed_then h new r k =
      subst (λ s. Grown old s r new) (sym put_around)
      (grown_then old (put_literals v a ++ put_literal v by ∷ []) (put_literals v b) next new r (grown_then old (put_literals v a) (put_literal v by ∷ []) mid next true first h) k)

parts : {X : Type 0} (i : ℕ) (xs : List X) → take i xs ++ drop i xs ≡ xs
parts zero xs = refl
parts (suc i) [] = refl
parts (suc i) (x ∷ xs) = ap (λ l. x ∷ l) (parts i xs)

-- where one of the literals has no room
pub grown_within : (v : ℕ → FoTerm) (old mid new ls : List Literal) (i : ℕ) (l : Literal) → i < length ls → l ≡ get_or ls i l
    → Grown old (put_literals v (take i ls)) true mid → Grown mid (put_literal v l ∷ []) false new → Grown old (put_literals v ls) false new
grown_within v old mid new ls i l within is h k =
    let front = put_literals v (take i ls) in
    let here = grown_then old front (put_literal v l ∷ []) mid new false h k in
    let whole : put_literals v ls ≡ (front ++ put_literal v l ∷ []) ++ put_literals v (drop (i + 1) ls) =
    ap (put_literals v) (sym (parts i ls) ∙ ap (λ r. take i ls ++ r) (drop_read ls i l within is))
    ∙ map-append (put_literal v) (take i ls) (l ∷ drop (i + 1) ls) ∙ sym (append_assoc front (put_literal v l ∷ []) (put_literals v (drop (i + 1) ls))) in
    subst (λ s. Grown old s false new) (sym whole) (grown_stops old (front ++ put_literal v l ∷ []) (put_literals v (drop (i + 1) ls)) new new here)

-- ---- numbers

names_size : (g : ℕ → ℕ) (t : FoTerm) → size_of (put (λ x. var (g x)) t) ≡ size_of t
names_size g = by_cases (λ t. size_of (put (λ x. var (g x)) t) ≡ size_of t)
    (λ x. ap size_of (put_var (λ y. var (g y)) x) ∙ size_var (g x) ∙ sym (size_var x))
    (λ f args each. ap size_of (put_fun (λ y. var (g y)) f args) ∙ size_fun f (map (put (λ y. var (g y))) args) ∙ ap (λ n. 1 + n) (sizes args each) ∙ sym (size_fun f args))
  where
    sizes : (ts : List FoTerm) → Each (λ t. size_of (put (λ x. var (g x)) t) ≡ size_of t) ts → sum (map size_of (map (put (λ x. var (g x))) ts)) ≡ sum (map size_of ts)
    sizes [] each = refl
    sizes (t ∷ ts) each =
        sum_cons (size_of (put (λ x. var (g x)) t)) (map size_of (map (put (λ x. var (g x))) ts)) ∙ (λ i. each.0 i + sizes ts each.1 i) ∙ sym (sum_cons (size_of t) (map size_of ts))

literal_names : (g : ℕ → ℕ) (a : Atom) → atom_size (put_atom (λ x. var (g x)) a) ≡ atom_size a
literal_names g (Holds t) = names_size g t
literal_names g (Eq s t) = λ i. names_size g s i + names_size g t i

names_weight : (g : ℕ → ℕ) (ls : List Literal) → weight_of (put_literals (λ x. var (g x)) ls) ≡ weight_of ls
names_weight g [] = refl
names_weight g (l ∷ ls) =
    sum_cons (literal_size (put_literal (λ x. var (g x)) l)) (map literal_size (put_literals (λ x. var (g x)) ls)) ∙ (λ i. literal_names g l.atom i + names_weight g ls i) ∙ sym (sum_cons (literal_size l) (map literal_size ls))

pub numbered_weight : (ls : List Literal) → weight_of (numbered ls) ≡ weight_of ls
numbered_weight ls = names_weight (λ x. place_of x (firsts ◌==◌ (clause_variables ls))) ls

pub concluded : (ls new out : List Literal) → Grown [] ls true new → out ≡ numbered new → Concluded ls true out
concluded ls new out h is =
    let all : new ≡ lasting ls = h.0 ∙ all_kept_lasting [] ls in
    (is ∙ ap numbered all, (let light : weight_of new ≤ 512 = h.1 in let w : weight_of out ≡ weight_of new = ap weight_of is ∙ numbered_weight new in omega arith))

pub too_heavy : (ls new out : List Literal) → Grown [] ls false new → Concluded ls false out
too_heavy ls new out h = subst (λ n. 512 < n) (ap weight_of (all_kept_lasting [] ls) ∙ sym (numbered_weight (lasting ls))) h

-- ---- sizes of cells that have no room

pub side_large : (s t : FoTerm) (positive : Bool) (old cells : List Cell) → old ≡ [] → Written old (cells_of s) false cells → 512 < literal_size (record { positive = positive; atom = Eq s t })
side_large s t positive old cells none h =
    let e : length old ≡ 0 = ap length none in let size : length (cells_of s) ≡ size_of s = cells_size s in omega arith

pub sides_large : (s t : FoTerm) (positive : Bool) (old mid cells : List Cell) → old ≡ [] → Written old (cells_of s) true mid → Written mid (cells_of t) false cells
    → 512 < literal_size (record { positive = positive; atom = Eq s t })
sides_large s t positive old mid cells none first h =
    let e : length mid ≡ length (cells_of s) = ap length (first.0 ∙ ap (λ o. o ++ cells_of s) none) in
    let left : length (cells_of s) ≡ size_of s = cells_size s in
    let right : length (cells_of t) ≡ size_of t = cells_size t in
    omega arith

pub term_large : (t : FoTerm) (positive : Bool) (old cells : List Cell) → old ≡ [] → Written old (cells_of t) false cells → 512 < literal_size (record { positive = positive; atom = Holds t })
term_large t positive old cells none h =
    let e : length old ≡ 0 = ap length none in let size : length (cells_of t) ≡ size_of t = cells_size t in omega arith
