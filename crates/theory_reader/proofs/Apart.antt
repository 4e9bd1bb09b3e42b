-- The tokens of a piece are those of the text.
use Rattle.std.proofs.Common.{◌≡◌, ℕ, zero, suc, ◌+◌, ◌-◌, ◌≤◌, ◌<◌, ◌^◌, List, [], ◌∷◌, ◌++◌, map, take, drop, length, slice_get, Some, sym, ap, subst, ◌∙◌, drop-drop, length-drop, arith}
use Rattle.std.proofs.lemmas.List.{take-append-drop, drop_all, append-nil, length-take}
use Rattle.std.proofs.lemmas.List.Elements.{All-map, All-weaker}
use Rattle.std.specs.List.{All}
use Rattle.text_kit.specs.declared.cut.Kind.TheVariants as kind
use Rattle.text_kit.specs.declared.cut.Token.{Token}
use Rattle.text_kit.specs.Tokens.{Cuts, IsWithin}
use Rattle.theory_reader.specs.inner.Pieces.{moved, EndsInSemi, EndsInMark, StandsApart, last, closed}
use Rattle.theory_reader.proofs.Seams.{shifted, no_tokens, extended}

mark_moved : (m e : ℕ) (cut : List Token) → EndsInMark e cut → EndsInMark (m + e) (map (moved m) cut)
mark_moved m e [] h = h
mark_moved m e (t ∷ []) h = (omega (arith, h.0), h.1)
mark_moved m e (t ∷ u ∷ ts) h = mark_moved m e (u ∷ ts) h

module _ (text : List ℕ) (from to : ℕ) (up : from ≤ to) (within : to ≤ length text) (piece : List ℕ) (is : piece ≡ take (to - from) (drop from text)) where
  split : drop from text ≡ piece ++ drop to text
  split =
      let sum : from + (to - from) ≡ to = omega arith in
      sym (take-append-drop (to - from) (drop from text)) ∙ (λ i. sym is i ++ drop-drop (to - from) from text i) ∙ ap (λ n. piece ++ drop n text) sum

  counted : length piece ≡ to - from
  counted = omega (arith, ap length is, length-take (to - from) (drop from text), length-drop from text)

  pub stands_within : from + length piece ≤ length text
  stands_within = omega (arith, counted)

  module _ (cut : List Token) (cuts : Cuts 0 piece cut) where
    here : Cuts from piece (map (moved from) cut)
    here = let zero : from + 0 ≡ from = omega arith in subst (λ n. Cuts n piece (map (moved from) cut)) zero (shifted from cuts)

    pub piece_cuts : StandsApart (length text) to piece cut → (ts : List Token) → Cuts to (drop to text) ts → Cuts from (drop from text) (map (moved from) cut ++ ts)
    piece_cuts (last le) ts c =
        let none : drop to text ≡ [] = drop_all to text le in
        let no_more : ts ≡ [] = no_tokens c (ap length none) in
        let bytes : drop from text ≡ piece = split ∙ ap (λ xs. piece ++ xs) none ∙ append-nil piece in
        let tokens : map (moved from) cut ++ ts ≡ map (moved from) cut = ap (λ us. map (moved from) cut ++ us) no_more ∙ append-nil (map (moved from) cut) in
        subst (λ xs. Cuts from xs (map (moved from) cut ++ ts)) (sym bytes) (subst (Cuts from piece) (sym tokens) here)
    piece_cuts (closed h) ts c =
        let count : to ≡ from + length piece = omega (arith, counted) in
        let mark : EndsInMark to (map (moved from) cut) = subst (λ e. EndsInMark e (map (moved from) cut)) (sym count) (mark_moved from (length piece) cut h.mark) in
        subst (λ xs. Cuts from xs (map (moved from) cut ++ ts)) (sym split) (extended (drop to text) to ts c count here h.byte mark)

-- the last byte
pub semi_at : (xs : List ℕ) (i b : ℕ) → i ≡ length xs - 1 → slice_get xs i ≡ Some b → b ≡ 59 → EndsInSemi xs
semi_at [] i b e is f = cc
semi_at (x ∷ []) zero b e is f = let same : x ≡ b = cc in same ∙ f
semi_at (x ∷ []) (suc i) b e is f = absurd (omega arith)
semi_at (x ∷ y ∷ ys) zero b e is f = absurd (omega arith)
semi_at (x ∷ y ∷ ys) (suc i) b e is f = let less : i ≡ length (y ∷ ys) - 1 = omega arith in semi_at (y ∷ ys) i b less is f

-- the last token
pub mark_at : (end : ℕ) (cut : List Token) (i : ℕ) (t : Token) → i ≡ length cut - 1 → slice_get cut i ≡ Some t → t.at + t.len ≡ end → t.kind ≡ kind.Mark → EndsInMark end cut
mark_at end [] i t e is at mark = cc
mark_at end (x ∷ []) zero t e is at mark =
    let same : x ≡ t = cc in (ap (λ (u : Token). u.at + u.len) same ∙ at, ap (λ (u : Token). u.kind) same ∙ mark)
mark_at end (x ∷ []) (suc i) t e is at mark = absurd (omega arith)
mark_at end (x ∷ y ∷ ys) zero t e is at mark = absurd (omega arith)
mark_at end (x ∷ y ∷ ys) (suc i) t e is at mark = let less : i ≡ length (y ∷ ys) - 1 = omega arith in mark_at end (y ∷ ys) i t less is at mark

-- the tokens of a piece stand in the text
pub within_moved : (m len most : ℕ) (cut : List Token) → m + len ≤ most → All (IsWithin len) cut → All (IsWithin most) (map (moved m) cut)
within_moved m len most cut le all =
    All-map (IsWithin most) (moved m) cut
    (All-weaker (IsWithin len) (λ t. IsWithin most (moved m t)) (λ t h. record { some = h.some; inside = omega (arith, h.inside) }) cut all)

pub fits_moved : (m len most : ℕ) (cut : List Token) → m + len ≤ most → most < 2 ^ 64 → All (IsWithin len) cut → All (λ t. m + t.at < 2 ^ 64) cut
fits_moved m len most cut le fits all =
    All-weaker (IsWithin len) (λ t. m + t.at < 2 ^ 64) (λ t h. let inside : t.at + t.len ≤ len = h.inside in omega arith) cut all
