-- The word and the sign at the front of a text.
use Rattle.std.proofs.Common.{◌≡◌, ℕ, ◌+◌, ◌<◌, ◌≤◌, List, [], ◌∷◌, ◌++◌, length, take, drop, get_or, sym, ap, ◌∙◌, arith, subst}
use Rattle.std.specs.List.{prefix_len}
use Rattle.std.proofs.lemmas.List.{length-append}
use Rattle.std.proofs.Math.Seq.{take-append_seam, drop-append_seam}
use Rattle.text_kit.specs.Tokens.{is_word_byte, StopsAt}
use Rattle.text_kit.proofs.Pieces.{run_of}
use Rattle.proof_syntax.specs.Tokens.{Sign, Tok, Word, Mark, sign_byte, sign_of, cut, spelled}
use Rattle.proof_syntax.specs.Parts.{IsNot, NoWord}
use Rattle.proof_syntax.proofs.Cutting.{cut_word, cut_length, no_sign, no_word, sign_back}

-- the first bytes that a word has are its word
pub word_front : (text : List ℕ) → 0 < prefix_len is_word_byte text → cut text ≡ Word (take (prefix_len is_word_byte text) text) ∷ cut (drop (prefix_len is_word_byte text) text)
word_front text some =
    let r = run_of is_word_byte text in
    let front : take (prefix_len is_word_byte text) text ≡ r.run = rw r.counted (ap (take (length r.run)) r.split ∙ take-append_seam r.run r.rest) in
    let back : drop (prefix_len is_word_byte text) text ≡ r.rest = rw r.counted (ap (drop (length r.run)) r.split ∙ drop-append_seam r.run r.rest) in
    rw (front, back) (ap cut r.split ∙ cut_word r.run r.rest (omega (arith, r.counted)) r.passes r.stops)

stops_here : (text run rest : List ℕ) → text ≡ run ++ rest → length run ≡ 0 → StopsAt is_word_byte rest → StopsAt is_word_byte text
stops_here text [] rest split none stops = subst (StopsAt is_word_byte) (sym split) stops
stops_here text (b ∷ bs) rest split none stops = absurd (omega arith)

pub no_word_front : (text : List ℕ) → prefix_len is_word_byte text ≡ 0 → NoWord (cut text)
no_word_front text none =
    let r = run_of is_word_byte text in
    no_word text (stops_here text r.run r.rest r.split (sym r.counted ∙ none) r.stops)

-- another byte than the sign's
pub other_front : (wanted : ℕ) (text : List ℕ) → (get_or text 0 0 ≡ wanted → ⊥) → 1 ≤ length text → IsNot (Mark (sign_of wanted)) (cut text)
other_front wanted [] differ some = absurd (omega arith)
other_front wanted (b ∷ bs) differ some =
    no_sign (sign_of wanted) (b ∷ bs) (λ rest e. differ (let heads : b ≡ sign_byte (sign_of wanted) = cc in heads ∙ sign_back wanted))

-- ---- what is left gets shorter

pub sign_shorter : (m : Sign) (text rest : List ℕ) → cut text ≡ Mark m ∷ cut rest → length rest + 1 ≡ length text
sign_shorter m text rest e = let f = ap (λ ts. length (spelled ts)) e in let a = cut_length text in let b = cut_length rest in omega arith

pub word_shorter : (w text rest : List ℕ) → cut text ≡ Word w ∷ cut rest → length rest ≤ length text
word_shorter w text rest e =
    let f : length (spelled (cut text)) ≡ length (w ++ spelled (cut rest)) = ap (λ ts. length (spelled ts)) e in
    let a = cut_length text in let b = cut_length rest in omega (arith, length-append w (spelled (cut rest)))

-- a word at the front is within the text
pub word_within : (w text : List ℕ) (rest : List Tok) → cut text ≡ Word w ∷ rest → length w ≤ length text
word_within w text rest e =
    let f : length (spelled (cut text)) ≡ length (w ++ spelled rest) = ap (λ ts. length (spelled ts)) e in
    let a = cut_length text in omega (arith, length-append w (spelled rest))
