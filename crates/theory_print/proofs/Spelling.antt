-- Lexemes and tokens in a row: what is spelled, put and bounded of two lists one after the other.
use Rattle.std.proofs.Common.{◌≡◌, ℕ, List, [], ◌∷◌, ◌++◌, refl, ap, ◌∙◌}
use Rattle.theory_syntax.specs.declared.tokens.Tok.{Tok}
use Rattle.theory_syntax.specs.Grammar.{Placed}
use Rattle.theory_syntax.specs.Machine.{put}
use Rattle.theory_syntax.specs.Reading.{Within}
use Rattle.theory_print.specs.Lexemes.{Lexeme, Spells}

-- tokens that spell the first lexemes, and the others
pub record Split (out : List ℕ) (xs ys : List Lexeme) (ts : List Tok) : Type 0 where
  pub front : List Tok
  pub back : List Tok
  pub joined : ts ≡ front ++ back
  pub first : Spells out xs front
  pub second : Spells out ys back

pub split : (out : List ℕ) (xs ys : List Lexeme) (ts : List Tok) → Spells out (xs ++ ys) ts → Split out xs ys ts
split out [] ys ts h = record { front = []; back = ts; joined = refl; first = refl; second = h }
split out (x ∷ xs) ys ts h =
    let s = split out xs ys h.1 h.4 in
    record { front = h.0 ∷ s.front; back = s.back; joined = h.2 ∙ ap (λ us. h.0 ∷ us) s.joined; first = (h.0, s.front, refl, h.3, s.first); second = s.second }

pub put_join : (p q : List Placed) → put p [] ++ put q [] ≡ put (p ++ q) []
put_join [] q = refl
put_join (x ∷ p) q = ap (λ us. x.tok ∷ us) (put_join p q)

pub within_split : (m : ℕ) (p q : List Placed) → Within m (p ++ q) → Within m p × Within m q
within_split m [] q h = (tt, h)
within_split m (x ∷ p) q h = let r = within_split m p q h.1 in ((h.0, r.0), r.1)
