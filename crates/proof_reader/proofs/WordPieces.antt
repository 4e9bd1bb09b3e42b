-- A word at the front that is none of those that are meant.
use Rattle.std.proofs.Common.{◌≡◌, inr, ℕ, ◌-◌, ◌≤◌, List, [], ◌∷◌, length, ap, sym, ◌∙◌, arith, length-append}
use Rattle.proof_words.specs.Sharing.{Shares}
use Rattle.proof_syntax.specs.declared.fault.PartFault.TheVariants as fault
use Rattle.proof_syntax.specs.Tokens.{Tok, Word, cut, spelled}
use Rattle.proof_syntax.specs.Grammar.{Placed}
use Rattle.proof_syntax.specs.Machine.{put}
use Rattle.proof_syntax.proofs.Cutting.{cut_length, spelled_put}
use Rattle.proof_reader.specs.inner.Words.{FailsWord}

-- a word at the front is no longer than the text
pub word_within : (text w : List ℕ) (rest : List Tok) → cut text ≡ Word w ∷ rest → length w ≤ length text
word_within text w rest e =
    let all = sym (cut_length text) ∙ ap (λ ts. length (spelled ts)) e ∙ length-append w (spelled rest) in
    omega arith

-- nor are the bytes behind some tokens more than those with them
pub not_longer : (p : List Placed) (ts : List Tok) → length (spelled ts) ≤ length (spelled (put p ts))
not_longer p ts = let all = ap (λ bs. length bs) (spelled_put p ts) ∙ length-append (spelled (put p [])) (spelled ts) in omega arith

module _ (Meant : List ℕ → Type 0) (text w : List ℕ) (n : ℕ) (front : (rest : List Tok) × (cut text ≡ Word w ∷ rest)) (shares : Shares Meant w n) where
  pub shared_within : n ≤ length text
  shared_within = let within = word_within text w front.0 front.1 in let room = shares.room in omega arith

  pub other_word : FailsWord Meant text (fault.Stops (length text - n))
  other_word = inr (record {
    word = w;
    rest = front.0;
    tokens = front.1;
    into = n;
    shares = shares;
    count = let within = shared_within in omega arith;
  })
