-- Lexemes of which the brackets nest no deeper than they may, and whose names are known.
use Rattle.std.proofs.Common.{◌≡◌, ℕ, ◌+◌, ◌-◌, ◌≤◌, nat_le, IsTrue, List, [], ◌∷◌, map, subst, arith}
use Rattle.std.proofs.lemmas.Bool.{leb-true}
use Rattle.hol_terms.proofs.Both.{both_true}
use Rattle.tptp_syntax.specs.Grammar.{most}
use Rattle.problem_laws.specs.Laws.{nests}
use Rattle.problem_laws.proofs.Lexemes.{Open, Close, SquareOpen, SquareClose, Colon, Comma, NextPart, Dot, Tilde, Each, One, And, Or, Imp, Iff, Equal, Lexeme, Name, Variable, Truth, Sign, variable_word}
use Rattle.problem_laws.proofs.Words.{tok_of, IsKnown, AreKnown}

module _ (W : List (List ℕ)) where
  -- so many brackets are open before
  abbrev pub Sound : ℕ → List Lexeme → Type 0
  Sound l [] = Unit {0}
  Sound l (Name w ∷ ys) = IsKnown W w × Sound l ys
  Sound l (Variable n ∷ ys) = IsKnown W (variable_word n) × Sound l ys
  Sound l (Truth b ∷ ys) = Sound l ys
  Sound l (Sign Open ∷ ys) = (l + 1 ≤ most) × Sound (l + 1) ys
  Sound l (Sign SquareOpen ∷ ys) = (l + 1 ≤ most) × Sound (l + 1) ys
  Sound l (Sign Close ∷ ys) = Sound (l - 1) ys
  Sound l (Sign SquareClose ∷ ys) = Sound (l - 1) ys
  Sound l (Sign Colon ∷ ys) = Sound l ys
  Sound l (Sign Comma ∷ ys) = Sound l ys
  Sound l (Sign NextPart ∷ ys) = Sound l ys
  Sound l (Sign Dot ∷ ys) = Sound l ys
  Sound l (Sign Tilde ∷ ys) = Sound l ys
  Sound l (Sign Each ∷ ys) = Sound l ys
  Sound l (Sign One ∷ ys) = Sound l ys
  Sound l (Sign And ∷ ys) = Sound l ys
  Sound l (Sign Or ∷ ys) = Sound l ys
  Sound l (Sign Imp ∷ ys) = Sound l ys
  Sound l (Sign Iff ∷ ys) = Sound l ys
  Sound l (Sign Equal ∷ ys) = Sound l ys

  few : (l : ℕ) → IsTrue (nat_le l most) → l ≤ most
  few l h = leb-true l most h

  pub all_sound : (ys : List Lexeme) (l : ℕ) → AreKnown W ys → IsTrue (nests l (map (tok_of W) ys)) → Sound l ys
  all_sound [] l k h = tt
  all_sound (Name w ∷ ys) l k h = (k.0, all_sound ys l k.1 h)
  all_sound (Variable n ∷ ys) l k h = (k.0, all_sound ys l k.1 h)
  all_sound (Truth b ∷ ys) l k h = all_sound ys l k h
  all_sound (Sign Open ∷ ys) l k h = let both = both_true (nat_le (l + 1) most) (nests (l + 1) (map (tok_of W) ys)) h in (few (l + 1) both.0, all_sound ys (l + 1) k both.1)
  all_sound (Sign SquareOpen ∷ ys) l k h = let both = both_true (nat_le (l + 1) most) (nests (l + 1) (map (tok_of W) ys)) h in (few (l + 1) both.0, all_sound ys (l + 1) k both.1)
  all_sound (Sign Close ∷ ys) l k h = all_sound ys (l - 1) k h
  all_sound (Sign SquareClose ∷ ys) l k h = all_sound ys (l - 1) k h
  all_sound (Sign Colon ∷ ys) l k h = all_sound ys l k h
  all_sound (Sign Comma ∷ ys) l k h = all_sound ys l k h
  all_sound (Sign NextPart ∷ ys) l k h = all_sound ys l k h
  all_sound (Sign Dot ∷ ys) l k h = all_sound ys l k h
  all_sound (Sign Tilde ∷ ys) l k h = all_sound ys l k h
  all_sound (Sign Each ∷ ys) l k h = all_sound ys l k h
  all_sound (Sign One ∷ ys) l k h = all_sound ys l k h
  all_sound (Sign And ∷ ys) l k h = all_sound ys l k h
  all_sound (Sign Or ∷ ys) l k h = all_sound ys l k h
  all_sound (Sign Imp ∷ ys) l k h = all_sound ys l k h
  all_sound (Sign Iff ∷ ys) l k h = all_sound ys l k h
  all_sound (Sign Equal ∷ ys) l k h = all_sound ys l k h

  -- behind a bracket that closes
  pub closed : (l : ℕ) (ys : List Lexeme) → Sound (l + 1 - 1) ys → Sound l ys
  closed l ys h = let e : l + 1 - 1 ≡ l = omega arith in subst (λ m. Sound m ys) e h
