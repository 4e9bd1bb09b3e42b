-- Each text has one cut: what the cutter tells decides it, piece by piece.
use Rattle.std.proofs.Common.{◌≡◌, ℕ, ◌+◌, ◌≤◌, ◌<◌, List, [], ◌∷◌, ◌++◌, length, take, drop, refl, sym, ◌∙◌, ap, subst, arith, length-append, length-drop, append_assoc, zero, suc}
use Rattle.std.proofs.lemmas.List.{length-take}
use Rattle.std.proofs.lemmas.List.{take-append-drop, drop_all, append-nil}
use Rattle.std.proofs.lemmas.List.Elements.{All-append, All-cons, All-nil}
use Rattle.std.specs.List.{All}
use Rattle.std.proofs.Math.Seq.{drop-append_seam}
use Rattle.text_kit.specs.declared.cut.Kind.{Kind}
use Rattle.text_kit.specs.declared.cut.Token.{Token}
use Rattle.text_kit.specs.declared.cut.Front.{Front}
use Rattle.text_kit.specs.declared.cut.Front.TheVariants as front
use Rattle.text_kit.specs.Tokens.{IsGap, blank, comment, Stands, word, mark, short, arrow, implies, BeginsNothing, token, Cuts, end, gap, next, Breaks, here, behind_gap, behind_token, IsWithin, Cut, Into, BadAt, IsCut, HasAnswer}
use Rattle.text_kit.specs.inner.Front.{front_of}
use Rattle.text_kit.proofs.Pieces.{Split, Told, told, tells, tells_gap, begins_nothing}

-- a piece holds a byte
pub gap_some : (piece rest : List ℕ) → IsGap piece rest → 1 ≤ length piece
gap_some piece rest (blank t) = omega arith
gap_some piece rest (comment t s) = omega arith

pub token_some : (k : Kind) (piece rest : List ℕ) → Stands k piece rest → 1 ≤ length piece
token_some k piece rest (word t u s small) = omega arith
token_some k piece rest (mark (short t) longest) = omega arith
token_some k piece rest (mark arrow longest) = omega arith
token_some k piece rest (mark implies longest) = omega arith

-- what stands behind a piece
pub behind_piece : (at : ℕ) (text piece rest : List ℕ) → at ≤ length text → drop at text ≡ piece ++ rest → drop (at + length piece) text ≡ rest
behind_piece at text piece rest le e =
    let whole : text ≡ (take at text ++ piece) ++ rest = (sym (take-append-drop at text) ∙ ap (λ xs. take at text ++ xs) e ∙ sym (append_assoc (take at text) piece rest)) in
    let count : at + length piece ≡ length (take at text ++ piece) = omega (arith, length-append (take at text) piece, length-take at text) in
    ap (λ xs. drop (at + length piece) xs) whole ∙ ap (λ n. drop n ((take at text ++ piece) ++ rest)) count ∙ drop-append_seam (take at text ++ piece) rest

pub piece_within : (at : ℕ) (text piece rest : List ℕ) → at ≤ length text → drop at text ≡ piece ++ rest → at + length piece ≤ length text
piece_within at text piece rest le e = omega (arith, length-drop at text, length-append piece rest, ap length e)

-- how the rest of a text goes on
pub record SoFar (text : List ℕ) (at : ℕ) (found : List Token) : Type 0 where
  pub within : at ≤ length text
  pub cuts : (ts : List Token) → Cuts at (drop at text) ts → Cuts 0 text (found ++ ts)
  pub breaks : (p : ℕ) → Breaks at (drop at text) p → Breaks 0 text p
  pub inside : All (IsWithin (length text)) found

pub begin : (text : List ℕ) → SoFar text 0 []
begin text = record { within = omega arith; cuts = λ ts c. c; breaks = λ p b. b; inside = All-nil (IsWithin (length text)) }

module _ (text : List ℕ) (at : ℕ) (found : List Token) (so_far : SoFar text at found) where
  passes_piece : (piece rest : List ℕ) → drop at text ≡ piece ++ rest → IsGap piece rest → SoFar text (at + length piece) found
  passes_piece piece rest e g = let here_rest = behind_piece at text piece rest so_far.within e in record {
    within = piece_within at text piece rest so_far.within e;
    cuts = λ ts c. so_far.cuts ts (rw e (gap g (rw here_rest at c)));
    breaks = λ p b. so_far.breaks p (rw e (behind_gap g (rw here_rest at b)));
    inside = so_far.inside;
  }

  pub passes : (m : ℕ) → Split m (drop at text) IsGap → SoFar text (at + m) found
  passes m s = subst (λ n. SoFar text (at + n) found) s.counted (passes_piece s.piece s.rest s.split s.stands)

  takes_piece : (k : Kind) (piece rest : List ℕ) → drop at text ≡ piece ++ rest → Stands k piece rest →
      SoFar text (at + length piece) (found ++ token at (length piece) k ∷ [])
  takes_piece k piece rest e t = let here_rest = behind_piece at text piece rest so_far.within e in record {
    within = piece_within at text piece rest so_far.within e;
    cuts = λ ts c. rw append_assoc (so_far.cuts (token at (length piece) k ∷ ts) (rw e (next t (rw here_rest at c))));
    breaks = λ p b. so_far.breaks p (rw e (behind_token t (rw here_rest at b)));
    inside = All-append (IsWithin (length text)) found (token at (length piece) k ∷ []) so_far.inside
        (All-cons (IsWithin (length text)) (token at (length piece) k) []
        (record { some = token_some k piece rest t; inside = piece_within at text piece rest so_far.within e }) (All-nil (IsWithin (length text))));
  }

  pub takes : (m : ℕ) (k : Kind) → Split m (drop at text) (Stands k) → SoFar text (at + m) (found ++ token at m k ∷ [])
  takes m k s = subst (λ n. SoFar text (at + n) (found ++ token at n k ∷ [])) s.counted (takes_piece k s.piece s.rest s.split s.stands)

  pub done : length text ≤ at → Cuts 0 text found
  done le = rw (append-nil found) at (so_far.cuts [] (rw (drop_all at text le) end))

  pub stops : at < length text → front_of (drop at text) ≡ front.Nothing → Breaks 0 text at
  stops lt e = so_far.breaks at (stuck (drop at text) (omega (arith, length-drop at text)) (begins_nothing (drop at text) e))
    where
      stuck : (rest : List ℕ) → 1 ≤ length rest → BeginsNothing rest → Breaks at rest at
      stuck [] some b = absurd (omega arith)
      stuck (x ∷ xs) some b = here b

  -- one turn of the loop, by what was told of the text that is seen
  pub gap_turn : (seen : List ℕ) (m : ℕ) → seen ≡ drop at text → front.Gap m ≡ front_of seen → SoFar text (at + m) found × (1 ≤ m)
  gap_turn seen m here_seen e =
      let s : Split m (drop at text) IsGap = subst (λ xs. Split m xs IsGap) here_seen (rw (sym e) at (told seen)) in
      (passes m s, omega (arith, s.counted, gap_some s.piece s.rest s.stands))

  pub token_turn : (seen : List ℕ) (k : Kind) (m : ℕ) → seen ≡ drop at text → front.Token k m ≡ front_of seen →
      SoFar text (at + m) (found ++ token at m k ∷ []) × (1 ≤ m)
  token_turn seen k m here_seen e =
      let s : Split m (drop at text) (Stands k) = subst (λ xs. Split m xs (Stands k)) here_seen (rw (sym e) at (told seen)) in
      (takes m k s, omega (arith, s.counted, token_some k s.piece s.rest s.stands))

  pub nothing_turn : (seen : List ℕ) → at < length text → seen ≡ drop at text → front.Nothing ≡ front_of seen → Breaks 0 text at
  nothing_turn seen lt here_seen e = stops lt (ap front_of (sym here_seen) ∙ sym e)

-- the cut, by what is told of each front; `k` bounds the pieces
abbrev with_token : Token → Cut → Cut
with_token t (Into ts) = Into (t ∷ ts)
with_token t (BadAt at) = BadAt at

abbrev after : ℕ → Front → (ℕ → Cut) → Cut
after n (front.Gap m) go = go m
after n (front.Token k m) go = with_token (token n m k) (go m)
after n front.Nothing go = BadAt n

abbrev walk : ℕ → ℕ → List ℕ → Cut
walk zero n text = BadAt n
walk (suc k) n [] = Into []
walk (suc k) n (b ∷ bs) = after n (front_of (b ∷ bs)) (λ m. walk k (n + m) (drop m (b ∷ bs)))

walk_some : (k n : ℕ) (text : List ℕ) → 1 ≤ length text → walk (suc k) n text ≡ after n (front_of text) (λ m. walk k (n + m) (drop m text))
walk_some k n [] some = absurd (omega arith)
walk_some k n (b ∷ bs) some = refl

some_append : (piece rest : List ℕ) → 1 ≤ length piece → 1 ≤ length (piece ++ rest)
some_append piece rest some = omega (arith, length-append piece rest)

-- a walk goes on behind what is told of the front
walk_gap : (k n : ℕ) (piece rest : List ℕ) → IsGap piece rest → walk (suc k) n (piece ++ rest) ≡ walk k (n + length piece) rest
walk_gap k n piece rest g =
    walk_some k n (piece ++ rest) (some_append piece rest (gap_some piece rest g))
    ∙ ap (λ f. after n f (λ m. walk k (n + m) (drop m (piece ++ rest)))) (tells_gap piece rest g)
    ∙ ap (λ xs. walk k (n + length piece) xs) (drop-append_seam piece rest)

walk_token : (k n : ℕ) (kind : Kind) (piece rest : List ℕ) → Stands kind piece rest →
    walk (suc k) n (piece ++ rest) ≡ with_token (token n (length piece) kind) (walk k (n + length piece) rest)
walk_token k n kind piece rest t =
    walk_some k n (piece ++ rest) (some_append piece rest (token_some kind piece rest t))
    ∙ ap (λ f. after n f (λ m. walk k (n + m) (drop m (piece ++ rest)))) (tells kind piece rest t)
    ∙ ap (λ xs. with_token (token n (length piece) kind) (walk k (n + length piece) xs)) (drop-append_seam piece rest)

shorter : (piece rest : List ℕ) (k : ℕ) → 1 ≤ length piece → length (piece ++ rest) < suc k → length rest < k
shorter piece rest k some lt = omega (arith, length-append piece rest)

is_walk : (n : ℕ) (text : List ℕ) (ts : List Token) → Cuts n text ts → (k : ℕ) → length text < k → walk k n text ≡ Into ts
is_walk n text ts c zero lt = absurd (omega arith)
is_walk n text ts end (suc k) lt = refl
is_walk n text ts (gap {piece} {rest} g c) (suc k) lt =
    walk_gap k n piece rest g ∙ is_walk (n + length piece) rest ts c k (shorter piece rest k (gap_some piece rest g) lt)
is_walk n text ts (next {k = kind} {piece} {rest} {ts = us} t c) (suc k) lt =
    walk_token k n kind piece rest t
    ∙ ap (with_token (token n (length piece) kind)) (is_walk (n + length piece) rest us c k (shorter piece rest k (token_some kind piece rest t) lt))

nothing_told : (text : List ℕ) → BeginsNothing text → (f : Front) → front_of text ≡ f → f ≡ front.Nothing
nothing_told text b (front.Gap m) e = let s : Told text (front.Gap m) = (rw e at (told text)) in absurd (b.no_gap s.piece s.rest s.split s.stands)
nothing_told text b (front.Token k m) e = let s : Told text (front.Token k m) = (rw e at (told text)) in absurd (b.no_token k s.piece s.rest s.split s.stands)
nothing_told text b front.Nothing e = refl

is_break : (n : ℕ) (text : List ℕ) (at : ℕ) → Breaks n text at → (k : ℕ) → length text < k → walk k n text ≡ BadAt at
is_break n text at b zero lt = absurd (omega arith)
is_break n text at (here {b} {rest} none) (suc k) lt =
    ap (λ f. after n f (λ m. walk k (n + m) (drop m (b ∷ rest)))) (nothing_told (b ∷ rest) none (front_of (b ∷ rest)) refl)
is_break n text at (behind_gap {piece} {rest} g b) (suc k) lt =
    walk_gap k n piece rest g ∙ is_break (n + length piece) rest at b k (shorter piece rest k (gap_some piece rest g) lt)
is_break n text at (behind_token {k = kind} {piece} {rest} t b) (suc k) lt =
    walk_token k n kind piece rest t
    ∙ ap (with_token (token n (length piece) kind)) (is_break (n + length piece) rest at b k (shorter piece rest k (token_some kind piece rest t) lt))

is_cut : (n : ℕ) (text : List ℕ) (a : Cut) → IsCut n text a → walk (suc (length text)) n text ≡ a
is_cut n text (Into ts) c = is_walk n text ts c (suc (length text)) (omega arith)
is_cut n text (BadAt at) b = is_break n text at b (suc (length text)) (omega arith)

pub one_cut : (n : ℕ) (text : List ℕ) (a b : Cut) → IsCut n text a → IsCut n text b → a ≡ b
one_cut n text a b c d = sym (is_cut n text a c) ∙ is_cut n text b d

-- and each text has one
answer_gap : (n : ℕ) (piece rest : List ℕ) → IsGap piece rest → HasAnswer (n + length piece) rest → HasAnswer n (piece ++ rest)
answer_gap n piece rest g (Into ts, c) = (Into ts, gap g c)
answer_gap n piece rest g (BadAt at, b) = (BadAt at, behind_gap g b)

answer_token : (n : ℕ) (k : Kind) (piece rest : List ℕ) → Stands k piece rest → HasAnswer (n + length piece) rest → HasAnswer n (piece ++ rest)
answer_token n k piece rest t (Into ts, c) = (Into (token n (length piece) k ∷ ts), next t c)
answer_token n k piece rest t (BadAt at, b) = (BadAt at, behind_token t b)

shorter_rest : (text piece rest : List ℕ) (k : ℕ) → text ≡ piece ++ rest → 1 ≤ length piece → length text < suc k → length rest < k
shorter_rest text piece rest k e some lt = omega (arith, length-append piece rest, ap length e)

settle : (k n b : ℕ) (bs : List ℕ) → length (b ∷ bs) < suc k → ((m : ℕ) (rest : List ℕ) → length rest < k → HasAnswer m rest) →
    (f : Front) → front_of (b ∷ bs) ≡ f → Told (b ∷ bs) f → HasAnswer n (b ∷ bs)
settle k n b bs lt more (front.Gap m) e s = subst (HasAnswer n) (sym s.split)
    (answer_gap n s.piece s.rest s.stands (more (n + length s.piece) s.rest (shorter_rest (b ∷ bs) s.piece s.rest k s.split (gap_some s.piece s.rest s.stands) lt)))
settle k n b bs lt more (front.Token kind m) e s = subst (HasAnswer n) (sym s.split)
    (answer_token n kind s.piece s.rest s.stands (more (n + length s.piece) s.rest (shorter_rest (b ∷ bs) s.piece s.rest k s.split (token_some kind s.piece s.rest s.stands) lt)))
settle k n b bs lt more front.Nothing e s = (BadAt n, here (begins_nothing (b ∷ bs) e))

answer : (k n : ℕ) (text : List ℕ) → length text < k → HasAnswer n text
answer zero n text lt = absurd (omega arith)
answer (suc k) n [] lt = (Into [], end)
answer (suc k) n (b ∷ bs) lt = settle k n b bs lt (answer k) (front_of (b ∷ bs)) refl (told (b ∷ bs))

pub has_answer : (n : ℕ) (text : List ℕ) → HasAnswer n text
has_answer n text = answer (suc (length text)) n text (omega arith)
