-- Bytes in a row and the tokens that they are cut into, within the greatest level.
use Rattle.std.proofs.Common.{◌≡◌, ℕ, ◌≤◌, false, List, [], ◌∷◌, ◌++◌, sym, ap, ◌∙◌}
use Rattle.text_kit.specs.Tokens.{is_word_byte, StopsAt}
use Rattle.first_fault.specs.Levels.{put, Within}
use Rattle.first_fault.proofs.Fronts.{put-append, within-append}
use Rattle.proof_syntax.specs.Tokens.{Word, Mark, sign_of, cut}
use Rattle.proof_syntax.specs.Grammar.{Placed, at, most}
use Rattle.proof_syntax.proofs.Cutting.{cut_word, cut_sign}
use Rattle.proof_text.proofs.Wordy.{IsWordy}

-- the text is cut into these tokens and those of the rest
pub record Lies (text : List ℕ) (p : List Placed) (rest : List ℕ) : Type 0 where
  pub tokens : cut text ≡ put p (cut rest)
  pub within : Within most p

pub joined : (text middle rest : List ℕ) (p q : List Placed) → Lies text p middle → Lies middle q rest → Lies text (p ++ q) rest
joined text middle rest p q h k =
    record { tokens = h.tokens ∙ ap (λ ts. put p ts) k.tokens ∙ sym (put-append p q (cut rest)); within = within-append most p q h.within k.within }

pub word_lies : (l : ℕ) (w rest : List ℕ) → l ≤ most → IsWordy w → StopsAt is_word_byte rest → Lies (w ++ rest) (at l (Word w) ∷ []) rest
word_lies l w rest low wordy stops = record { tokens = cut_word w rest wordy.some wordy.bytes stops; within = (low, tt) }

pub sign_lies : (l b : ℕ) (rest : List ℕ) → l ≤ most → is_word_byte b ≡ false → Lies (b ∷ rest) (at l (Mark (sign_of b)) ∷ []) rest
sign_lies l b rest low is = record { tokens = cut_sign b rest is; within = (low, tt) }

-- a word or a sign before what lies already
pub word_then : (l : ℕ) (w middle rest : List ℕ) (p : List Placed) → l ≤ most → IsWordy w → StopsAt is_word_byte middle → Lies middle p rest → Lies (w ++ middle) (at l (Word w) ∷ p) rest
word_then l w middle rest p low wordy stops h = joined (w ++ middle) middle rest (at l (Word w) ∷ []) p (word_lies l w middle low wordy stops) h

pub sign_then : (l b : ℕ) (middle rest : List ℕ) (p : List Placed) → l ≤ most → is_word_byte b ≡ false → Lies middle p rest → Lies (b ∷ middle) (at l (Mark (sign_of b)) ∷ p) rest
sign_then l b middle rest p low is h = joined (b ∷ middle) middle rest (at l (Mark (sign_of b)) ∷ []) p (sign_lies l b middle low is) h

-- two parts, and signs before, between and behind them
pub between : (l b c d : ℕ) (first second rest : List ℕ) (p q : List Placed) → l ≤ most → is_word_byte b ≡ false → is_word_byte c ≡ false → is_word_byte d ≡ false →
    Lies (first ++ c ∷ (second ++ d ∷ rest)) p (c ∷ (second ++ d ∷ rest)) → Lies (second ++ d ∷ rest) q (d ∷ rest) →
    Lies (b ∷ (first ++ c ∷ (second ++ d ∷ rest))) (at l (Mark (sign_of b)) ∷ p ++ at l (Mark (sign_of c)) ∷ q ++ at l (Mark (sign_of d)) ∷ []) rest
between l b c d first second rest p q low hb hc hd h k =
    let behind = second ++ d ∷ rest in
    let front = sign_then l b (first ++ c ∷ behind) (c ∷ behind) p low hb h in
    let back = sign_then l c behind (d ∷ rest) q low hc k in
    let x = at l (Mark (sign_of b)) in
    let y = at l (Mark (sign_of c)) in
    joined (b ∷ (first ++ c ∷ behind)) (d ∷ rest) rest (x ∷ p ++ y ∷ q) (at l (Mark (sign_of d)) ∷ [])
    (joined (b ∷ (first ++ c ∷ behind)) (c ∷ behind) (d ∷ rest) (x ∷ p) (y ∷ q) front back) (sign_lies l d rest low hd)
