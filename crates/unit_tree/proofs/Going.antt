-- A word is put in token by token.
use Rattle.std.proofs.Common.{◌≡◌, ℕ, ◌+◌, ◌<◌, ◌≤◌, ◌⊎◌, inl, inr, List, [], ◌∷◌, ◌++◌, length, map, take, drop, get_or, refl, sym, ap, ◌∙◌}
use Rattle.std.proofs.lemmas.List.{append_assoc, map-append, take_more, take_all, take-append-drop}
use Rattle.fo_cells.specs.declared.cell.Cell.{Cell}
use Rattle.unit_tree.specs.declared.token.Token.{Token}
use Rattle.unit_tree.specs.declared.token.Token.TheVariants.{End}
use Rattle.unit_tree.specs.declared.token.Edge.{Edge}
use Rattle.unit_tree.specs.Tree.{token_of, Reached, IsTree, onto}
use Rattle.unit_tree.specs.inner.Growth.{GrowsBy, Grows, IsFront}
use Rattle.unit_tree.proofs.Ways.{one_word}

-- ---- words that are turned round

pub onto-append : {X : Type 0} (xs ys zs : List X) → onto (xs ++ ys) zs ≡ onto ys (onto xs zs)
onto-append [] ys zs = refl
onto-append (x ∷ xs) ys zs = onto-append xs ys (x ∷ zs)

pub onto_front : {X : Type 0} (xs zs : List X) → onto xs zs ≡ onto xs [] ++ zs
onto_front [] zs = refl
onto_front (x ∷ xs) zs = onto_front xs (x ∷ zs) ∙ sym (append_assoc (onto xs []) (x ∷ []) zs) ∙ ap (λ l. l ++ zs) (sym (onto_front xs (x ∷ [])))

pub onto_twice : {X : Type 0} (xs ys zs : List X) → onto (onto xs ys) zs ≡ onto ys (xs ++ zs)
onto_twice [] ys zs = refl
onto_twice (x ∷ xs) ys zs = onto_twice xs (x ∷ ys) zs

-- ---- the tree so far

-- the way of these tokens, the last first, leads here, and fronts of it alone are new
pub record Going (old now : List (List Edge)) (front : List Token) (at : ℕ) : Type 0 where
  pub tree : IsTree now
  pub within : at < length now
  pub stays : (word : List Token) (n : ℕ) → Reached old word n → Reached now word n
  pub here : Reached now front at
  pub apart : (word : List Token) (n : ℕ) → Reached now word n → ((m : ℕ) × Reached old word m) ⊎ ((rest : List Token) × (rest ++ word ≡ front))

pub starts : (old : List (List Edge)) → IsTree old → Going old old [] 0
starts old tree = record {
  tree = tree;
  within = tree.rooted;
  stays = λ word n h. h;
  here = refl;
  apart = λ word n h. inl (n, h);
}

longer : (old : List (List Edge)) (front word : List Token) (token : Token) → ((m : ℕ) × Reached old word m) ⊎ ((rest : List Token) × (rest ++ word ≡ front))
    → ((m : ℕ) × Reached old word m) ⊎ ((rest : List Token) × (rest ++ word ≡ token ∷ front))
longer old front word token (inl h) = inl h
longer old front word token (inr h) = inr (token ∷ h.0, ap (λ l. token ∷ l) h.1)

apart_next : (old now : List (List Edge)) (front : List Token) (at : ℕ) (token : Token) → Going old now front at → (word : List Token) (n : ℕ)
    → Reached now word n ⊎ ((rest : List Token) × (word ≡ token ∷ rest) × Reached now rest at)
    → ((m : ℕ) × Reached old word m) ⊎ ((rest : List Token) × (rest ++ word ≡ token ∷ front))
apart_next old now front at token going word n (inl h) = longer old front word token (going.apart word n h)
apart_next old now front at token going word n (inr h) =
    inr ([], h.1 ∙ ap (λ l. token ∷ l) (one_word now going.tree h.0 front at h.2 going.here))

pub goes_next : (old now next : List (List Edge)) (front : List Token) (at to : ℕ) (token : Token) → Going old now front at → GrowsBy now next at token to → Going old next (token ∷ front) to
goes_next old now next front at to token going grows = record {
  tree = grows.tree;
  within = grows.within;
  stays = λ word n h. grows.stays word n (going.stays word n h);
  here = grows.leads front going.here;
  apart = λ word n h. apart_next old now front at token going word n (grows.apart word n h);
}

fronts : (old : List (List Edge)) (front more word whole : List Token) → more ++ front ≡ onto whole [] → ((m : ℕ) × Reached old word m) ⊎ ((rest : List Token) × (rest ++ word ≡ front))
    → ((m : ℕ) × Reached old word m) ⊎ IsFront word whole
fronts old front more word whole is (inl h) = inl h
fronts old front more word whole is (inr h) = inr (more ++ h.0, append_assoc more h.0 word ∙ ap (λ l. more ++ l) h.1 ∙ is)

pub grows_so : (old now : List (List Edge)) (front more whole : List Token) (at : ℕ) → Going old now front at → more ++ front ≡ onto whole [] → Grows old now whole
grows_so old now front more whole at going is = record {
  tree = going.tree;
  stays = going.stays;
  apart = λ word n h. fronts old front more word whole is (going.apart word n h);
}

-- ---- the word of a literal

-- its tokens so far, the last first
abbrev pub so_far : Token → List Cell → List Token
so_far head cells = onto (map token_of cells) (head ∷ [])

pub so_far_more : (head : Token) (cells : List Cell) (i : ℕ) (d : Cell) → i < length cells → token_of (get_or cells i d) ∷ so_far head (take i cells) ≡ so_far head (take (i + 1) cells)
so_far_more head cells i d within =
    sym (ap (λ l. onto (map token_of l) (head ∷ [])) (take_more cells i d within) ∙ ap (λ l. onto l (head ∷ [])) (map-append token_of (take i cells) (get_or cells i d ∷ []))
    ∙ onto-append (map token_of (take i cells)) (token_of (get_or cells i d) ∷ []) (head ∷ []))

pub rest_of : (head : Token) (cells : List Cell) (i : ℕ) → onto (map token_of (drop i cells) ++ End ∷ []) [] ++ so_far head (take i cells) ≡ onto (head ∷ (map token_of cells ++ End ∷ [])) []
rest_of head cells i =
    let all : map token_of cells ++ End ∷ [] ≡ map token_of (take i cells) ++ (map token_of (drop i cells) ++ End ∷ []) =
    ap (λ l. map token_of l ++ End ∷ []) (sym (take-append-drop i cells)) ∙ ap (λ l. l ++ End ∷ []) (map-append token_of (take i cells) (drop i cells))
    ∙ append_assoc (map token_of (take i cells)) (map token_of (drop i cells)) (End ∷ []) in
    sym (ap (λ l. onto l (head ∷ [])) all ∙ onto-append (map token_of (take i cells)) (map token_of (drop i cells) ++ End ∷ []) (head ∷ [])
    ∙ onto_front (map token_of (drop i cells) ++ End ∷ []) (so_far head (take i cells)))

pub all_of : (head : Token) (cells : List Cell) (i : ℕ) → length cells ≤ i → End ∷ so_far head (take i cells) ≡ onto (head ∷ (map token_of cells ++ End ∷ [])) []
all_of head cells i over =
    ap (λ l. End ∷ so_far head l) (take_all i cells over) ∙ sym (onto-append (map token_of cells) (End ∷ []) (head ∷ []))
