-- Where a text may be cut in two: behind a token `;`.
use Rattle.std.proofs.Common.{◌≡◌, ℕ, ◌+◌, ◌≤◌, Bool, List, [], ◌∷◌, ◌++◌, map, length, refl, sym, ap, subst, ◌∙◌, append_assoc, append-nil, length-append, arith}
use Rattle.std.proofs.lemmas.Bool.{eqb-false}
use Rattle.text_kit.specs.declared.cut.Kind.{Kind}
use Rattle.text_kit.specs.declared.cut.Kind.TheVariants as kind
use Rattle.text_kit.specs.declared.cut.Token.{Token}
use Rattle.text_kit.specs.Tokens.{is_inside_line, is_word_byte, IsMark, short, arrow, implies, StopsAt, IsGap, blank, comment, Stands, word, mark, token, Cuts, end, gap, next}
use Rattle.text_kit.proofs.Cutting.{gap_some, token_some}
use Rattle.text_kit.proofs.Pieces.{heads, tails}
use Rattle.theory_reader.specs.inner.Pieces.{moved, EndsInSemi, EndsInMark}

-- the tokens of a piece, by their places in the whole
pub shifted : (m : ℕ) {n : ℕ} {xs : List ℕ} {ts : List Token} → Cuts n xs ts → Cuts (m + n) xs (map (moved m) ts)
shifted m end = end
shifted m (gap {n = n} {piece = piece} {rest = rest} {ts = ts} g c) =
    let same : m + (n + length piece) ≡ (m + n) + length piece = omega arith in
    gap g (subst (λ i. Cuts i rest (map (moved m) ts)) same (shifted m c))
shifted m (next {n = n} {k = k} {piece = piece} {rest = rest} {ts = ts} s c) =
    let same : m + (n + length piece) ≡ (m + n) + length piece = omega arith in
    next s (subst (λ i. Cuts i rest (map (moved m) ts)) same (shifted m c))

-- what has tokens has bytes
some_bytes : {n : ℕ} {xs : List ℕ} {ts : List Token} → Cuts n xs ts → (t : Token) (us : List Token) → ts ≡ t ∷ us → 1 ≤ length xs
some_bytes end t us e = cc
some_bytes (gap {piece = piece} {rest = rest} g c) t us e = omega (arith, length-append piece rest, some_bytes c t us e)
some_bytes (next {k = k} {piece = piece} {rest = rest} s c) t us e = omega (arith, length-append piece rest, token_some k piece rest s)

-- what has no bytes has no tokens
pub no_tokens : {n : ℕ} {xs : List ℕ} {ts : List Token} → Cuts n xs ts → length xs ≡ 0 → ts ≡ []
no_tokens end e = refl
no_tokens (gap {piece = piece} {rest = rest} g c) e = absurd (omega (arith, length-append piece rest, gap_some piece rest g))
no_tokens (next {k = k} {piece = piece} {rest = rest} s c) e = absurd (omega (arith, length-append piece rest, token_some k piece rest s))

-- the end of a list is the end of what stands behind its front
last_behind : (piece : List ℕ) (b : ℕ) (bs : List ℕ) → EndsInSemi (piece ++ b ∷ bs) → EndsInSemi (b ∷ bs)
last_behind [] b bs h = h
last_behind (p ∷ []) b bs h = h
last_behind (p ∷ q ∷ ps) b bs h = last_behind (q ∷ ps) b bs h

module _ (more : List ℕ) where
  stops_on : (p : ℕ → Bool) (rest : List ℕ) → EndsInSemi rest → StopsAt p rest → StopsAt p (rest ++ more)
  stops_on p [] h s = absurd h
  stops_on p (b ∷ bs) h s = s

  gap_on : (piece rest : List ℕ) → EndsInSemi rest → IsGap piece rest → IsGap piece (rest ++ more)
  gap_on piece rest h (blank t) = blank t
  gap_on piece rest h (comment t s) = comment t (stops_on is_inside_line rest h s)

  -- no mark goes on over the bytes behind
  arrow_on : (b : ℕ) (rest : List ℕ) → EndsInSemi rest → ((other behind : List ℕ) → IsMark other → other ++ behind ≡ b ∷ rest → length other ≤ 1) →
      (behind : List ℕ) → 45 ∷ 62 ∷ behind ≡ b ∷ (rest ++ more) → ⊥
  arrow_on b [] h longest behind e = h
  arrow_on b (c ∷ cs) h longest behind e =
      let first : 45 ≡ b = heads e in
      let second : 62 ≡ c = heads (tails e) in
      let le : 2 ≤ 1 = longest (45 ∷ 62 ∷ []) cs arrow (ap (λ x. x ∷ 62 ∷ cs) first ∙ ap (λ x. b ∷ x ∷ cs) second) in omega arith

  implies_on : (b : ℕ) (rest : List ℕ) → EndsInSemi rest → ((other behind : List ℕ) → IsMark other → other ++ behind ≡ b ∷ rest → length other ≤ 1) →
      (behind : List ℕ) → 61 ∷ 61 ∷ 62 ∷ behind ≡ b ∷ (rest ++ more) → ⊥
  implies_on b [] h longest behind e = h
  implies_on b (c ∷ []) h longest behind e = let second : 61 ≡ c = heads (tails e) in eqb-false 61 59 refl (second ∙ h)
  implies_on b (c ∷ d ∷ ds) h longest behind e =
      let first : 61 ≡ b = heads e in
      let second : 61 ≡ c = heads (tails e) in
      let third : 62 ≡ d = heads (tails (tails e)) in
      let le : 3 ≤ 1 = longest (61 ∷ 61 ∷ 62 ∷ []) ds implies
      (ap (λ x. x ∷ 61 ∷ 62 ∷ ds) first ∙ ap (λ x. b ∷ x ∷ 62 ∷ ds) second ∙ ap (λ x. b ∷ c ∷ x ∷ ds) third) in omega arith

  longest_on : (m rest : List ℕ) → IsMark m → EndsInSemi rest → ((other behind : List ℕ) → IsMark other → other ++ behind ≡ m ++ rest → length other ≤ length m) →
      (other behind : List ℕ) → IsMark other → other ++ behind ≡ m ++ (rest ++ more) → length other ≤ length m
  longest_on m rest (short t) h longest other behind (short s) e = omega arith
  longest_on m rest (short {b = b} t) h longest other behind arrow e = absurd (arrow_on b rest h longest behind e)
  longest_on m rest (short {b = b} t) h longest other behind implies e = absurd (implies_on b rest h longest behind e)
  longest_on m rest arrow h longest other behind (short s) e = omega arith
  longest_on m rest arrow h longest other behind arrow e = omega arith
  longest_on m rest arrow h longest other behind implies e = absurd (eqb-false 61 45 refl (heads e))
  longest_on m rest implies h longest other behind (short s) e = omega arith
  longest_on m rest implies h longest other behind arrow e = omega arith
  longest_on m rest implies h longest other behind implies e = omega arith

  stands_on : (k : Kind) (piece rest : List ℕ) → EndsInSemi rest → Stands k piece rest → Stands k piece (rest ++ more)
  stands_on k piece rest h (word t u s small) = word t u (stops_on is_word_byte rest h s) small
  stands_on k piece rest h (mark m longest) = mark m (longest_on piece rest m h longest)

  -- the last mark is the longest whatever stands behind
  last_longest : (b : ℕ) → b ≡ 59 → (other behind : List ℕ) → IsMark other → other ++ behind ≡ b ∷ more → length other ≤ 1
  last_longest b is other behind (short s) e = omega arith
  last_longest b is other behind arrow e = absurd (eqb-false 45 59 refl (heads e ∙ is))
  last_longest b is other behind implies e = absurd (eqb-false 61 59 refl (heads e ∙ is))

  last_on : (piece rest : List ℕ) → EndsInSemi piece → Stands kind.Mark piece rest → Stands kind.Mark piece more
  last_on piece rest h (mark (short {b = b} t) longest) = mark (short t) (last_longest b h)
  last_on piece rest h (mark arrow longest) = absurd (eqb-false 62 59 refl h)
  last_on piece rest h (mark implies longest) = absurd (eqb-false 62 59 refl h)

  module _ (e : ℕ) (us : List Token) (after : Cuts e more us) where
    -- the tokens go on behind the last one
    last_token : (n : ℕ) (k : Kind) (piece rest : List ℕ) → e ≡ n + length (piece ++ rest) → Stands k piece rest → EndsInSemi (piece ++ rest) →
        (n + length piece ≡ e) × (k ≡ kind.Mark) → Cuts n ((piece ++ rest) ++ more) (token n (length piece) k ∷ us)
    last_token n k piece [] same s h m =
        let whole : piece ++ [] ≡ piece = append-nil piece in
        let stands : Stands kind.Mark piece [] = subst (λ j. Stands j piece []) m.1 s in
        subst (λ xs. Cuts n (xs ++ more) (token n (length piece) k ∷ us)) (sym whole)
        (next (subst (λ j. Stands j piece more) (sym m.1) (last_on piece [] (subst EndsInSemi whole h) stands)) (subst (λ i. Cuts i more us) (sym m.0) after))
    last_token n k piece (b ∷ bs) same s h m = absurd (omega (arith, length-append piece (b ∷ bs), m.0))

    pub extended : {n : ℕ} {xs : List ℕ} {ts : List Token} → e ≡ n + length xs → Cuts n xs ts → EndsInSemi xs → EndsInMark e ts →
        Cuts n (xs ++ more) (ts ++ us)
    extended same end h m = absurd m
    extended same (gap {n = n} {piece = piece} {rest = []} {ts = ts} g c) h m = absurd (subst (EndsInMark e) (no_tokens c refl) m)
    extended same (gap {n = n} {piece = piece} {rest = b ∷ bs} {ts = ts} g c) h m =
        let behind = last_behind piece b bs h in
        let count : e ≡ (n + length piece) + length (b ∷ bs) = omega (arith, length-append piece (b ∷ bs)) in
        subst (λ xs. Cuts n xs (ts ++ us)) (sym (append_assoc piece (b ∷ bs) more))
        (gap (gap_on piece (b ∷ bs) behind g) (extended count c behind m))
    extended same (next {n = n} {k = k} {piece = piece} {rest = rest} {ts = []} s c) h m = last_token n k piece rest same s h m
    extended same (next {n = n} {k = k} {piece = piece} {rest = []} {ts = t ∷ ts} s c) h m = absurd (subst (EndsInMark e) (no_tokens c refl) m)
    extended same (next {n = n} {k = k} {piece = piece} {rest = b ∷ bs} {ts = t ∷ ts} s c) h m =
        let behind = last_behind piece b bs h in
        let count : e ≡ (n + length piece) + length (b ∷ bs) = omega (arith, length-append piece (b ∷ bs)) in
        subst (λ xs. Cuts n xs (token n (length piece) k ∷ (t ∷ ts) ++ us)) (sym (append_assoc piece (b ∷ bs) more))
        (next (stands_on k piece (b ∷ bs) behind s) (extended count c behind m))
