-- How bytes are cut at their front.
use Rattle.std.proofs.Common.{◌≡◌, ℕ, ◌<◌, ◌==◌, if◌then◌else◌, Bool, true, false, List, [], ◌∷◌, ◌++◌, length, IsTrue, refl, sym, ap, ◌∙◌, append_assoc, arith, rules}
use Rattle.std.specs.List.{list_all}
use Rattle.hol_terms.proofs.Both.{both_true}
use Rattle.text_kit.specs.Tokens.{is_word_byte, StopsAt}
use Rattle.first_fault.specs.Levels.{put}
use Rattle.proof_syntax.specs.Tokens.{Sign, LineEnd, Space, Hash, Dollar, OpenRound, CloseRound, Dot, Colon, Greater, OpenSquare, CloseSquare, OpenBrace, CloseBrace, Other, sign_byte, sign_of, Tok, Word, Mark, joined, cut, spelling, spelled}
use Rattle.proof_syntax.specs.Grammar.{Placed}
use Rattle.proof_syntax.specs.Parts.{IsNot, NoWord}

joined_none : (b : ℕ) (rest : List ℕ) → StopsAt is_word_byte rest → joined b (cut rest) ≡ Word (b ∷ []) ∷ cut rest
joined_none b [] h = refl
joined_none b (c ∷ cs) h = rw h refl

word_from : (b : ℕ) (bs rest : List ℕ) → IsTrue (list_all is_word_byte (b ∷ bs)) → StopsAt is_word_byte rest → cut (b ∷ bs ++ rest) ≡ Word (b ∷ bs) ∷ cut rest
word_from b [] rest all stops = rw (both_true (is_word_byte b) true all).0 (joined_none b rest stops)
word_from b (c ∷ cs) rest all stops =
    let both = both_true (is_word_byte b) (list_all is_word_byte (c ∷ cs)) all in
    let more = word_from c cs rest both.1 stops in
    rw both.0 (ap (joined b) more)

-- a word before what doesn't go on with one
pub cut_word : (w rest : List ℕ) → 0 < length w → IsTrue (list_all is_word_byte w) → StopsAt is_word_byte rest → cut (w ++ rest) ≡ Word w ∷ cut rest
cut_word [] rest some all stops = absurd (omega arith)
cut_word (b ∷ bs) rest some all stops = word_from b bs rest all stops

pub cut_sign : (b : ℕ) (bs : List ℕ) → is_word_byte b ≡ false → cut (b ∷ bs) ≡ Mark (sign_of b) ∷ cut bs
cut_sign b bs h = rw h refl

-- ---- bytes of tokens

pick : (b n : ℕ) (s t : Sign) (c : Bool) → b == n ≡ c → sign_byte s ≡ n → sign_byte t ≡ b → sign_byte (if c then s else t) ≡ b
pick b n s t true e here other = let same : b ≡ n = search (rules, e) in here ∙ sym same
pick b n s t false e here other = other

pub sign_back : (b : ℕ) → sign_byte (sign_of b) ≡ b
sign_back b = pick b 10 LineEnd _ (b == 10) refl refl (pick b 32 Space _ (b == 32) refl refl (pick b 35 Hash _ (b == 35) refl refl
    (pick b 36 Dollar _ (b == 36) refl refl (pick b 40 OpenRound _ (b == 40) refl refl (pick b 41 CloseRound _ (b == 41) refl refl
    (pick b 46 Dot _ (b == 46) refl refl (pick b 58 Colon _ (b == 58) refl refl (pick b 62 Greater _ (b == 62) refl refl
    (pick b 91 OpenSquare _ (b == 91) refl refl (pick b 93 CloseSquare _ (b == 93) refl refl (pick b 123 OpenBrace _ (b == 123) refl refl
    (pick b 125 CloseBrace (Other b) (b == 125) refl refl refl))))))))))))

spelled_joined : (b : ℕ) (ts : List Tok) → spelled (joined b ts) ≡ b ∷ spelled ts
spelled_joined b [] = refl
spelled_joined b (Word w ∷ ts) = refl
spelled_joined b (Mark s ∷ ts) = refl

spelled_front : (b : ℕ) (bs : List ℕ) (c : Bool) → spelled (cut bs) ≡ bs → spelled (if c then joined b (cut bs) else Mark (sign_of b) ∷ cut bs) ≡ b ∷ bs
spelled_front b bs true h = spelled_joined b (cut bs) ∙ ap (λ xs. b ∷ xs) h
spelled_front b bs false h = ap (λ x. x ∷ spelled (cut bs)) (sign_back b) ∙ ap (λ xs. b ∷ xs) h

-- nothing is lost
pub spelled_cut : (bs : List ℕ) → spelled (cut bs) ≡ bs
spelled_cut [] = refl
spelled_cut (b ∷ bs) = spelled_front b bs (is_word_byte b) (spelled_cut bs)

pub cut_length : (bs : List ℕ) → length (spelled (cut bs)) ≡ length bs
cut_length bs = ap (λ xs. length xs) (spelled_cut bs)

pub spelled_put : (p : List Placed) (ts : List Tok) → spelled (put p ts) ≡ spelled (put p []) ++ spelled ts
spelled_put [] ts = refl
spelled_put (x ∷ p) ts = ap (λ bs. spelling x.tok ++ bs) (spelled_put p ts) ∙ sym (append_assoc (spelling x.tok) (spelled (put p [])) (spelled ts))

-- ---- the token at the front

is_joined : (b : ℕ) (ts : List Tok) (s : Sign) (rest : List Tok) → joined b ts ≡ Mark s ∷ rest → ⊥
is_joined b [] s rest e = cc
is_joined b (Word w ∷ ts) s rest e = cc
is_joined b (Mark t ∷ ts) s rest e = cc

sign_front : (b : ℕ) (bs : List ℕ) (c : Bool) (s : Sign) (rest : List Tok) → (if c then joined b (cut bs) else Mark (sign_of b) ∷ cut bs) ≡ Mark s ∷ rest → b ≡ sign_byte s
sign_front b bs true s rest e = absurd (is_joined b (cut bs) s rest e)
sign_front b bs false s rest e = let same : sign_of b ≡ s = cc in sym (sign_back b) ∙ ap sign_byte same

-- a text that doesn't begin with the byte of a sign isn't cut into one that begins with the sign
pub no_sign : (s : Sign) (bs : List ℕ) → ((rest : List ℕ) → bs ≡ sign_byte s ∷ rest → ⊥) → IsNot (Mark s) (cut bs)
no_sign s [] n = λ rest e. cc
no_sign s (b ∷ bs) n = λ rest e. n bs (ap (λ x. x ∷ bs) (sign_front b bs (is_word_byte b) s rest e))

-- nor one that doesn't begin with a word's byte into one that begins with a word
pub no_word : (bs : List ℕ) → StopsAt is_word_byte bs → NoWord (cut bs)
no_word [] h = λ w rest e. cc
no_word (b ∷ bs) h = rw h (λ w rest e. cc)
