-- What literals of the tree subsume, by words.
use Rattle.std.proofs.Common.{◌≡◌, ℕ, ◌+◌, ◌<◌, ◌≤◌, below_more, Bool, true, Some, List, [], ◌∷◌, ◌++◌, length, map, get_or, slice_get, refl, sym, ap, subst, ◌∙◌, arith}
use Rattle.std.proofs.lemmas.List.{append_assoc, map-append}
use Rattle.std.proofs.lemmas.Option.{slice_get-get_or}
use Rattle.fo_terms.specs.declared.term.FoTerm.{FoTerm}
use Rattle.fo_terms.specs.declared.atom.Atom.{Atom}
use Rattle.fo_terms.specs.declared.atom.Atom.TheVariants.{Holds, Eq}
use Rattle.fo_terms.specs.declared.literal.Literal.{Literal}
use Rattle.fo_terms.specs.Substitution.{put, put_atom, put_literal}
use Rattle.fo_terms.specs.Normal.{atom_terms}
use Rattle.fo_cells.specs.declared.cell.Cell.{Cell}
use Rattle.fo_cells.specs.Cells.{joined, cells_of, is_equation, atom_cells}
use Rattle.fo_cells.proofs.Rows.{row_of}
use Rattle.unit_tree.specs.declared.token.Token.{Token}
use Rattle.unit_tree.specs.declared.token.Token.TheVariants.{Head, End}
use Rattle.unit_tree.specs.declared.token.Edge.{Edge}
use Rattle.unit_tree.specs.Tree as tree
use Rattle.unit_tree.specs.Tree.{token_of, word_of, SubsumesOne}
use Rattle.unit_tree.specs.inner.Following.{GoesOn, Matches}
use Rattle.unit_tree.proofs.Matching.{tokens, Parsed, fits, parse, ends}
use Rattle.unit_tree.proofs.Ways.{joins, goes_from_root}

atom_word : Atom → List Token
atom_word a = map token_of (atom_cells a) ++ End ∷ []

sides_word : (s t : FoTerm) → map token_of (cells_of s ++ cells_of t) ++ End ∷ [] ≡ tokens s ++ (tokens t ++ End ∷ [])
sides_word s t = ap (λ l. l ++ End ∷ []) (map-append token_of (cells_of s) (cells_of t)) ∙ append_assoc (tokens s) (tokens t) (End ∷ [])

fits_atom : (v : ℕ → FoTerm) (a : Atom) → Matches v (map token_of (atom_cells a) ++ End ∷ []) (atom_terms (put_atom v a))
fits_atom v (Holds t) = fits v t (put v t) (End ∷ []) [] refl (refl, refl)
fits_atom v (Eq s t) =
    subst (λ w. Matches v w (put v s ∷ put v t ∷ [])) (sym (sides_word s t))
    (fits v s (put v s) (tokens t ++ End ∷ []) (put v t ∷ []) refl (fits v t (put v t) (End ∷ []) [] refl (refl, refl)))

same_kind : (v : ℕ → FoTerm) (a : Atom) → is_equation a ≡ is_equation (put_atom v a)
same_kind v (Holds t) = refl
same_kind v (Eq s t) = refl

-- a way of the tree is that of the literal's terms
abbrev pub OnWay : List (List Edge) → Bool → Bool → List FoTerm → Type 0
OnWay nodes positive equation ts = (word : List Token) × GoesOn nodes 0 (Head positive equation ∷ word) × ((v : ℕ → FoTerm) × Matches v word ts)

-- a literal of the tree is made into this one
abbrev pub One : List (List Edge) → Literal → Type 0
One nodes m = (l : Literal) × tree.Holds nodes l × ((v : ℕ → FoTerm) × (put_literal v l ≡ m))

pub to_way : (nodes : List (List Edge)) (m : Literal) → One nodes m → OnWay nodes m.positive (is_equation m.atom) (atom_terms m.atom)
to_way nodes m one =
    let l : Literal = one.0 in
    let v : ℕ → FoTerm = one.2.0 in
    let goes : GoesOn nodes 0 (word_of l) = goes_from_root nodes (word_of l) one.1.0 one.1.1 in
    let kind : GoesOn nodes 0 (Head l.positive (is_equation (put_atom v l.atom)) ∷ (map token_of (atom_cells l.atom) ++ End ∷ [])) =
    subst (λ b. GoesOn nodes 0 (Head l.positive b ∷ (map token_of (atom_cells l.atom) ++ End ∷ []))) (same_kind v l.atom) goes in
    subst (λ k. OnWay nodes k.positive (is_equation k.atom) (atom_terms k.atom)) one.2.1
    (map token_of (atom_cells l.atom) ++ End ∷ [], kind, (v, fits_atom v l.atom))

atom_from_word : (v : ℕ → FoTerm) (a : Atom) (word : List Token) → Matches v word (atom_terms a)
    → (b : Atom) × (word ≡ map token_of (atom_cells b) ++ End ∷ []) × (is_equation b ≡ is_equation a) × (put_atom v b ≡ a)
atom_from_word v (Holds t) word h =
    let one : Parsed v word t [] = parse v t word [] h in
    (Holds one.0, one.2 ∙ ap (λ w. tokens one.0 ++ w) (ends v one.1 one.4), refl, ap Holds one.3)
atom_from_word v (Eq s t) word h =
    let left : Parsed v word s (t ∷ []) = parse v s word (t ∷ []) h in
    let right : Parsed v left.1 t [] = parse v t left.1 [] left.4 in (
      Eq left.0 right.0,
      left.2 ∙ ap (λ w. tokens left.0 ++ w) (right.2 ∙ ap (λ w. tokens right.0 ++ w) (ends v right.1 right.4)) ∙ sym (sides_word left.0 right.0),
      refl,
      (λ i. Eq (left.3 i) (right.3 i)),
    )

pub from_way : (nodes : List (List Edge)) (m : Literal) → OnWay nodes m.positive (is_equation m.atom) (atom_terms m.atom) → One nodes m
from_way nodes m way =
    let v : ℕ → FoTerm = way.2.0 in
    let made : (b : Atom) × (way.0 ≡ map token_of (atom_cells b) ++ End ∷ []) × (is_equation b ≡ is_equation m.atom) × (put_atom v b ≡ m.atom) = atom_from_word v m.atom way.0 way.2.1 in
    let l : Literal = record { positive = m.positive; atom = made.0 } in
    let word : Head m.positive (is_equation m.atom) ∷ way.0 ≡ word_of l = λ i. Head m.positive (sym made.2 i) ∷ made.1 i in
    let goes : GoesOn nodes 0 (word_of l) = subst (GoesOn nodes 0) word way.1 in
    (l, joins nodes (word_of l) [] 0 refl goes, (v, (λ i. record { positive = m.positive; atom = made.3 i })))

-- ---- all literals

pub hit : (nodes : List (List Edge)) (ls : List Literal) (i : ℕ) (m : Literal) → i < length ls → slice_get ls i ≡ Some m → One nodes m → SubsumesOne nodes ls
hit nodes ls i m within there one =
    let v : ℕ → FoTerm = one.2.0 in
    let made : Literal = put_literal v one.0 in
    let found : Some (get_or ls i made) ≡ Some m = sym (slice_get-get_or ls i made within) ∙ there in
    let same : get_or ls i made ≡ m = cc in
    (one.0, one.1, (v, (i, within, same ∙ sym one.2.1)))

pub none_hit : (nodes : List (List Edge)) (ls : List Literal) → ((i : ℕ) (m : Literal) → i < length ls → slice_get ls i ≡ Some m → One nodes m → ⊥) → SubsumesOne nodes ls → ⊥
none_hit nodes ls none h =
    let v : ℕ → FoTerm = h.2.0 in
    let place = h.2.1 in
    let made : Literal = put_literal v h.0 in
    none place.0 made place.1 (slice_get-get_or ls place.0 made place.1 ∙ ap Some place.2) (h.0, h.1, (v, refl))

-- what the code learns of one literal
pub reach_one : (nodes given : List (List Edge)) (m : Literal) (positive equation : Bool) (cells : List Cell) (r : Bool) → given ≡ nodes → positive ≡ m.positive → equation ≡ is_equation m.atom
    → cells ≡ atom_cells m.atom → ((ts : List FoTerm) → joined (map cells_of ts) ≡ cells → (r ≡ true → OnWay given positive equation ts) × (OnWay given positive equation ts → r ≡ true))
    → (r ≡ true → One nodes m) × (One nodes m → r ≡ true)
reach_one nodes given m positive equation cells r same sign kind row says =
    let ts : List FoTerm = atom_terms m.atom in
    let plain : (r ≡ true → OnWay given positive equation ts) × (OnWay given positive equation ts → r ≡ true) = says ts (row_of m.atom ∙ sym row) in
    let full : (r ≡ true → OnWay nodes m.positive (is_equation m.atom) ts) × (OnWay nodes m.positive (is_equation m.atom) ts → r ≡ true) =
    subst (λ b. (r ≡ true → OnWay nodes m.positive b ts) × (OnWay nodes m.positive b ts → r ≡ true)) kind
    (subst (λ b. (r ≡ true → OnWay nodes b equation ts) × (OnWay nodes b equation ts → r ≡ true)) sign
    (subst (λ k. (r ≡ true → OnWay k positive equation ts) × (OnWay k positive equation ts → r ≡ true)) same plain)) in
    (λ h. from_way nodes m (full.0 h), λ h. full.1 (to_way nodes m h))

-- none of the first literals
abbrev pub AreNot : List (List Edge) → List Literal → ℕ → Type 0
AreNot nodes ls n = (k : ℕ) → k < n → (m : Literal) → slice_get ls k ≡ Some m → One nodes m → ⊥

some_same : (a b : Literal) → Some a ≡ Some b → a ≡ b
some_same a b h = cc

pub not_more : (nodes : List (List Edge)) (ls : List Literal) (i : ℕ) (m : Literal) → slice_get ls i ≡ Some m → AreNot nodes ls i → (One nodes m → ⊥) → AreNot nodes ls (i + 1)
not_more nodes ls i m there none here =
    below_more (λ k. (n : Literal) → slice_get ls k ≡ Some n → One nodes n → ⊥) i none
    (λ n at one. here (subst (One nodes) (some_same n m (sym at ∙ there)) one))

pub none_at_all : (nodes : List (List Edge)) (ls : List Literal) (i : ℕ) → length ls ≤ i → AreNot nodes ls i → SubsumesOne nodes ls → ⊥
none_at_all nodes ls i over none = none_hit nodes ls (λ k m within there one. none k (omega (arith, within, over)) m there one)
