-- The word of a unit is put in, and no other.
use Rattle.std.proofs.Common.{◌≡◌, ℕ, ◌+◌, ◌<◌, ◌≤◌, ◌⊎◌, inl, inr, Bool, Result, Ok, Err, List, [], ◌∷◌, ◌++◌, length, map, take, drop, get_or, refl, sym, subst}
use Rattle.std.specs.Prelude.{OnOk}
use Rattle.std.proofs.lemmas.List.{append-nil}
use Rattle.fo_terms.specs.declared.literal.Literal.{Literal}
use Rattle.fo_cells.specs.declared.cell.Cell.{Cell}
use Rattle.fo_cells.specs.Cells.{is_equation, atom_cells}
use Rattle.unit_tree.specs.declared.token.Token.{Token}
use Rattle.unit_tree.specs.declared.token.Token.TheVariants.{Head, End}
use Rattle.unit_tree.specs.declared.token.Edge.{Edge}
use Rattle.unit_tree.specs.Tree.{token_of, word_of, Reached, IsTree, Holds, onto}
use Rattle.unit_tree.specs.inner.Growth.{GrowsBy, Grows, IsFront}
use Rattle.unit_tree.proofs.Going.{Going, starts, goes_next, grows_so, so_far, so_far_more, rest_of, all_of}
use Rattle.unit_tree.proofs.Words.{front_same}

abbrev pub whole_of : Token → List Cell → List Token
whole_of head cells = head ∷ (map token_of cells ++ End ∷ [])

pub begun : (old next : List (List Edge)) (head : Token) (to : ℕ) → IsTree old → GrowsBy old next 0 head to → Going old next (head ∷ []) to
begun old next head to tree grows = goes_next old old next [] 0 to head (starts old tree) grows

pub one_more : (old now next : List (List Edge)) (head token : Token) (cells : List Cell) (i at to : ℕ) (d : Cell) → i < length cells → Going old now (so_far head (take i cells)) at
    → token ≡ token_of (get_or cells i d) → GrowsBy now next at token to → Going old next (so_far head (take (i + 1) cells)) to
one_more old now next head token cells i at to d within going is grows =
    subst (λ w. Going old next w to) (so_far_more head cells i d within)
    (goes_next old now next (so_far head (take i cells)) at to (token_of (get_or cells i d)) going (subst (λ k. GrowsBy now next at k to) is grows))

pub unbegun : (old next : List (List Edge)) (whole : List Token) → IsTree old → next ≡ old → Grows old next whole
unbegun old next whole tree is = subst (λ k. Grows old k whole) (sym is) (grows_so old old [] (onto whole []) whole 0 (starts old tree) (append-nil (onto whole [])))

pub stopped : (old now next : List (List Edge)) (head : Token) (cells : List Cell) (i at : ℕ) → Going old now (so_far head (take i cells)) at → next ≡ now → Grows old next (whole_of head cells)
stopped old now next head cells i at going is =
    subst (λ k. Grows old k (whole_of head cells)) (sym is)
    (grows_so old now (so_far head (take i cells)) (onto (map token_of (drop i cells) ++ End ∷ []) []) (whole_of head cells) at going (rest_of head cells i))

module _ (old now next : List (List Edge)) (head : Token) (cells : List Cell) (i at to : ℕ) (over : length cells ≤ i) (going : Going old now (so_far head (take i cells)) at) (grows : GrowsBy now next at End to) where
  ended : Going old next (onto (whole_of head cells) []) to
  ended = subst (λ w. Going old next w to) (all_of head cells i over) (goes_next old now next (so_far head (take i cells)) at to End going grows)

  pub ended_grows : Grows old next (whole_of head cells)
  ended_grows = grows_so old next (onto (whole_of head cells) []) [] (whole_of head cells) to ended refl

  pub ended_here : (n : ℕ) × Reached next (onto (whole_of head cells) []) n
  ended_here = (to, ended.here)

-- ---- literals

pub new_word : (positive equation : Bool) (cells : List Cell) (l : Literal) → positive ≡ l.positive → equation ≡ is_equation l.atom → cells ≡ atom_cells l.atom
    → whole_of (Head positive equation) cells ≡ word_of l
new_word positive equation cells l sign kind row = λ i. Head (sign i) (kind i) ∷ (map token_of (row i) ++ End ∷ [])

held_cases : (old : List (List Edge)) (whole : List Token) (l m : Literal) → whole ≡ word_of l → ((n : ℕ) × Reached old (onto (word_of m) []) n) ⊎ IsFront (onto (word_of m) []) whole → Holds old m ⊎ (m ≡ l)
held_cases old whole l m is (inl h) = inl h
held_cases old whole l m is (inr h) = inr (front_same m l (subst (IsFront (onto (word_of m) [])) is h))

pub held_by : (old new : List (List Edge)) (whole : List Token) (l m : Literal) → whole ≡ word_of l → Grows old new whole → Holds new m → Holds old m ⊎ (m ≡ l)
held_by old new whole l m is grows h = held_cases old whole l m is (grows.apart (onto (word_of m) []) h.0 h.1)

pub held_still : (old new : List (List Edge)) (whole : List Token) (m : Literal) → Grows old new whole → Holds old m → Holds new m
held_still old new whole m grows h = (h.0, grows.stays (onto (word_of m) []) h.0 h.1)

pub on_ok : {X E : Type 0} (r : Result X E) (P Q : Type 0) → (P → Q) → OnOk r P → OnOk r Q
on_ok (Ok x) P Q f h = f h
on_ok (Err e) P Q f h = h

pub held_now : (new : List (List Edge)) (whole : List Token) (l : Literal) → whole ≡ word_of l → (n : ℕ) × Reached new (onto whole []) n → Holds new l
held_now new whole l is h = (h.0, subst (λ w. Reached new (onto w []) h.0) is h.1)
