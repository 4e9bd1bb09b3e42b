-- The bytes of lexemes in a row are cut into tokens that say them.
use Rattle.std.proofs.Common.{◌≡◌, ℕ, ◌+◌, ◌≤◌, Bool, true, false, List, [], ◌∷◌, ◌++◌, map, length, IsTrue, codes, refl, sym, ap, subst, ◌∙◌, arith, append_assoc, length-append}
use Rattle.std.specs.List.{list_all}
use Rattle.std.specs.Char.{is_ascii_alphabetic}
use Rattle.hol_terms.proofs.Both.{both_true}
use Rattle.text_kit.specs.declared.cut.Kind.{Kind}
use Rattle.text_kit.specs.declared.cut.Kind.TheVariants as kind
use Rattle.text_kit.specs.declared.cut.Token.{Token}
use Rattle.text_kit.specs.Tokens.{is_word_byte, IsMark, short, arrow, implies, Stands, word, mark, blank, token, Cuts, end, gap, next}
use Rattle.theory_syntax.specs.declared.tokens.Quant.TheVariants as quant
use Rattle.theory_syntax.specs.declared.tokens.Tok.{Tok}
use Rattle.theory_syntax.specs.declared.tree.Op.TheVariants as op
use Rattle.theory_print.specs.Lexemes.{Lexeme, Name, Truth, Binder, Sign, Equal, Tilde, Open, Close, Colon, Dot, Arrow, BoolWord, TypeWord, ConstWord, FactWord, GoalWord, AssumeWord, Semi, spelling, behind, laid, name_passes, names_pass, Says, Spells}

-- a letter, and then letters, digits and `_`, at most 64 bytes
abbrev pub IsWord : List ℕ → Type 0
IsWord [] = ⊥
IsWord (b ∷ bs) = IsTrue (is_ascii_alphabetic b) × IsTrue (list_all is_word_byte bs) × (length (b ∷ bs) ≤ 64)

abbrev pub kind_of : Lexeme → Kind
kind_of (Name n) = kind.Word
kind_of (Truth b) = kind.Word
kind_of BoolWord = kind.Word
kind_of TypeWord = kind.Word
kind_of ConstWord = kind.Word
kind_of FactWord = kind.Word
kind_of GoalWord = kind.Word
kind_of AssumeWord = kind.Word
kind_of _ = kind.Mark

-- the tokens of lexemes in a row, the first of which stands at this place
abbrev pub tokens_at : ℕ → List Lexeme → List Token
tokens_at n [] = []
tokens_at n (x ∷ xs) = token n (length (spelling x)) (kind_of x) ∷ tokens_at (n + length (spelling x) + 1) xs

-- ---- a lexeme stands before a blank

-- no longer mark than one of a byte stands before a space or the end of a line
longest : (c : ℕ) (b : ℕ) (rest other tail : List ℕ) → (b ≡ 62 → ⊥) → (b ≡ 61 → ⊥) → IsMark other → other ++ tail ≡ c ∷ b ∷ rest → length other ≤ 1
longest c b rest other tail n m (short t) h = omega arith
longest c b rest other tail n m arrow h = absurd (n cc)
longest c b rest other tail n m implies h = absurd (m cc)

first_same : (c d : ℕ) (xs ys : List ℕ) → c ∷ xs ≡ d ∷ ys → c ≡ d
first_same c d xs ys h = cc

one_mark : (c : ℕ) (rest : List ℕ) → IsMark (c ∷ []) → Stands kind.Mark (c ∷ []) (32 ∷ rest)
one_mark c rest h = mark h (λ other tail m e. longest c 32 rest other tail (λ z. omega arith) (λ z. omega arith) m e)

arrow_longest : (rest other tail : List ℕ) → IsMark other → other ++ tail ≡ codes "->" ++ 32 ∷ rest → length other ≤ 2
arrow_longest rest other tail (short t) h = omega arith
arrow_longest rest other tail arrow h = omega arith
arrow_longest rest other tail implies h = let e = first_same 61 45 (61 ∷ 62 ∷ tail) (62 ∷ 32 ∷ rest) h in omega arith

implies_longest : (rest other tail : List ℕ) → IsMark other → other ++ tail ≡ codes "==>" ++ 32 ∷ rest → length other ≤ 3
implies_longest rest other tail (short t) h = omega arith
implies_longest rest other tail arrow h = omega arith
implies_longest rest other tail implies h = omega arith

name_stands : (n rest : List ℕ) → IsWord n → Stands kind.Word n (32 ∷ rest)
name_stands [] rest h = absurd h
name_stands (b ∷ bs) rest h = word h.0 h.1 refl h.2

module _ (ok : List ℕ → Bool) (is_word : (n : List ℕ) → IsTrue (ok n) → IsWord n) where
  stands : (x : Lexeme) (rest : List ℕ) → IsTrue (name_passes ok x) → Stands (kind_of x) (spelling x) (behind x ∷ rest)
  stands (Name n) rest h = name_stands n rest (is_word n h)
  stands (Truth true) rest h = word refl refl refl (omega arith)
  stands (Truth false) rest h = word refl refl refl (omega arith)
  stands (Binder quant.All) rest h = one_mark 33 rest (short refl)
  stands (Binder quant.Ex) rest h = one_mark 63 rest (short refl)
  stands (Binder quant.Lambda) rest h = one_mark 92 rest (short refl)
  stands (Binder quant.Eps) rest h = one_mark 64 rest (short refl)
  stands (Sign op.Imp) rest h = mark implies (implies_longest rest)
  stands (Sign op.Or) rest h = one_mark 124 rest (short refl)
  stands (Sign op.And) rest h = one_mark 38 rest (short refl)
  stands Equal rest h = one_mark 61 rest (short refl)
  stands Tilde rest h = one_mark 126 rest (short refl)
  stands Open rest h = one_mark 40 rest (short refl)
  stands Close rest h = one_mark 41 rest (short refl)
  stands Colon rest h = one_mark 58 rest (short refl)
  stands Dot rest h = one_mark 46 rest (short refl)
  stands Arrow rest h = mark arrow (arrow_longest rest)
  stands BoolWord rest h = word refl refl refl (omega arith)
  stands TypeWord rest h = word refl refl refl (omega arith)
  stands ConstWord rest h = word refl refl refl (omega arith)
  stands FactWord rest h = word refl refl refl (omega arith)
  stands GoalWord rest h = word refl refl refl (omega arith)
  stands AssumeWord rest h = word refl refl refl (omega arith)
  stands Semi rest h = mark (short refl) (λ other tail m e. longest 59 10 rest other tail (λ z. omega arith) (λ z. omega arith) m e)

  blank_behind : (x : Lexeme) (n : ℕ) (rest : List ℕ) (ts : List Token) → Cuts (n + 1) rest ts → Cuts n (behind x ∷ rest) ts
  blank_behind Semi n rest ts c = gap {piece = 10 ∷ []} (blank refl) c
  blank_behind _ n rest ts c = gap {piece = 32 ∷ []} (blank refl) c

  pub cuts : (n : ℕ) (xs : List Lexeme) → IsTrue (names_pass ok xs) → Cuts n (laid xs) (tokens_at n xs)
  cuts n [] h = end
  cuts n (x ∷ xs) h =
      let b = both_true (name_passes ok x) (names_pass ok xs) h in
      next (stands x (laid xs) b.0) (blank_behind x (n + length (spelling x)) (laid xs) (tokens_at (n + length (spelling x) + 1) xs) (cuts (n + length (spelling x) + 1) xs b.1))

  -- what the tokens of a text say is told from where they stand
  module _ (tok_of : List ℕ → Token → Tok)
      (speaks : (x : Lexeme) (front rest : List ℕ) → IsTrue (name_passes ok x) →
      Says (front ++ (spelling x ++ behind x ∷ rest)) x (tok_of (front ++ (spelling x ++ behind x ∷ rest)) (token (length front) (length (spelling x)) (kind_of x)))) where
    pub spells : (front : List ℕ) (xs : List Lexeme) (text : List ℕ) (n : ℕ) → text ≡ front ++ laid xs → n ≡ length front → IsTrue (names_pass ok xs) →
        Spells text xs (map (tok_of text) (tokens_at n xs))
    spells front [] text n e l h = refl
    spells front (x ∷ xs) text n e l h =
        let b = both_true (name_passes ok x) (names_pass ok xs) h in
        let more = front ++ (spelling x ++ behind x ∷ []) in
        let whole : text ≡ more ++ laid xs = e ∙ ap (λ z. front ++ z) (sym (append_assoc (spelling x) (behind x ∷ []) (laid xs))) ∙ sym (append_assoc front (spelling x ++ behind x ∷ []) (laid xs)) in
        let count : n + length (spelling x) + 1 ≡ length more = omega (arith, length-append front (spelling x ++ behind x ∷ []), length-append (spelling x) (behind x ∷ [])) in
        let here : Says text x (tok_of text (token n (length (spelling x)) (kind_of x))) =
        subst (λ z. Says z x (tok_of z (token n (length (spelling x)) (kind_of x)))) (sym e)
        (subst (λ m. Says (front ++ laid (x ∷ xs)) x (tok_of (front ++ laid (x ∷ xs)) (token m (length (spelling x)) (kind_of x)))) (sym l) (speaks x front (laid xs) b.0)) in (
          tok_of text (token n (length (spelling x)) (kind_of x)),
          map (tok_of text) (tokens_at (n + length (spelling x) + 1) xs),
          refl,
          here,
          spells more xs text (n + length (spelling x) + 1) whole count b.1,
        )
