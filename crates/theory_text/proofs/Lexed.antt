-- What is printed is cut into tokens that say its lexemes.
use Rattle.std.proofs.Common.{◌≡◌, ℕ, ◌+◌, ◌≤◌, ◌<◌, ◌^◌, not, ◌||◌, ◌&&◌, if◌then◌else◌, Bool, true, false, List, [], ◌∷◌, ◌++◌, length, take, IsTrue, codes, decimal, nat_le, refl, sym, ap, subst, ◌∙◌, arith, rules, length-append}
use Rattle.std.specs.Prelude.{slice_index}
use Rattle.std.specs.List.{list_all, list_any}
use Rattle.std.specs.Char.{is_ascii_alphabetic}
use Rattle.std.specs.Str.{bytes_eq}
use Rattle.std.proofs.Math.Seq.{drop-append_seam}
use Rattle.std.proofs.lemmas.Fmt.{length-decimal-le}
use Rattle.std.proofs.lemmas.Grind.{common_steps}
use Rattle.std.proofs.lemmas.List.Folds.{list_all-append}
use Rattle.hol_terms.proofs.Both.{both_true, and_true}
use Rattle.text_kit.specs.Tokens.{is_word_byte, token, Cuts}
use Rattle.theory_syntax.specs.declared.tokens.Word.{Word}
use Rattle.theory_syntax.specs.declared.tokens.Quant.TheVariants as quant
use Rattle.theory_syntax.specs.declared.tokens.Tok.TheVariants as tok
use Rattle.theory_syntax.specs.declared.tree.Op.TheVariants as op
use Rattle.theory_terms.specs.Words.{word_at}
use Rattle.theory_print.specs.Lexemes.{Lexeme, Name, Truth, Binder, Sign, Equal, Tilde, Open, Close, Colon, Dot, Arrow, BoolWord, TypeWord, ConstWord, FactWord, GoalWord, AssumeWord, Semi, spelling, behind, laid, name_passes, names_pass, Says, Spells}
use Rattle.theory_print.specs.Names.{variable}
use Rattle.theory_print.proofs.Digits.{digits_pass}
use Rattle.theory_print.proofs.Lexing as lexing
use Rattle.theory_reader.specs.Names.{is_word, is_name, reserved}
use Rattle.theory_reader.specs.Toks.{word_tok, mark_tok, tok_of, toks_of}

-- ---- names

pub name_word : (n : List ℕ) → IsTrue (is_name n) → IsTrue (is_word n) × IsTrue (not (list_any (bytes_eq n) reserved))
unfolding is_name
name_word n h = both_true (is_word n) (not (list_any (bytes_eq n) reserved)) h

word_is : (n : List ℕ) → IsTrue (is_word n) → lexing.IsWord n
word_is [] h = cc
word_is (b ∷ bs) h =
    let outer = both_true (is_ascii_alphabetic b && list_all is_word_byte bs) (nat_le (length (b ∷ bs)) 64) h in
    let inner = both_true (is_ascii_alphabetic b) (list_all is_word_byte bs) outer.0 in
    let short = outer.1 in
    (inner.0, inner.1, search (rules, short))

pub is_word_of : (n : List ℕ) → IsTrue (is_name n) → lexing.IsWord n
is_word_of n h = word_is n (name_word n h).0

digit_word : (b : ℕ) → b < 10 → IsTrue (is_word_byte (48 + b))
digit_word b h = grind (arith, common_steps)

-- the names of bound variables are names
pub variable_name : (k d : ℕ) → k < 2 ^ 32 → d < 2 ^ 64 → IsTrue (is_name (variable k d))
unfolding is_name
variable_name k d hk hd =
    let rest = (decimal k ++ 95 ∷ []) ++ decimal d in
    let front : IsTrue (list_all is_word_byte (decimal k ++ 95 ∷ [])) =
    subst (λ b. IsTrue b) (sym (list_all-append is_word_byte (decimal k) (95 ∷ []))) (and_true (list_all is_word_byte (decimal k)) true (digits_pass is_word_byte digit_word k (omega arith)) refl) in
    let whole : IsTrue (list_all is_word_byte rest) =
    subst (λ b. IsTrue b) (sym (list_all-append is_word_byte (decimal k ++ 95 ∷ []) (decimal d))) (and_true (list_all is_word_byte (decimal k ++ 95 ∷ [])) (list_all is_word_byte (decimal d)) front (digits_pass is_word_byte digit_word d hd)) in
    let lk : length (decimal k) ≤ 10 = length-decimal-le 10 k (omega arith) (omega arith) (omega arith) in
    let ld : length (decimal d) ≤ 20 = length-decimal-le 20 d (omega arith) (omega arith) hd in
    let long : length (120 ∷ rest) ≤ 64 = omega (arith, length-append (decimal k ++ 95 ∷ []) (decimal d), length-append (decimal k) (95 ∷ [])) in
    let small : IsTrue (nat_le (length (120 ∷ rest)) 64) = search (rules, long) in
    and_true (is_word (120 ∷ rest)) (not (list_any (bytes_eq (120 ∷ rest)) reserved))
    (and_true (is_ascii_alphabetic 120 && list_all is_word_byte rest) (nat_le (length (120 ∷ rest)) 64) (and_true (is_ascii_alphabetic 120) (list_all is_word_byte rest) refl whole) small) refl

-- ---- what stands in a text behind so many bytes

take_front : (xs ys : List ℕ) → take (length xs) (xs ++ ys) ≡ xs
take_front [] ys = refl
take_front (x ∷ xs) ys = ap (λ zs. x ∷ zs) (take_front xs ys)

word_here : (front s rest : List ℕ) → word_at (front ++ (s ++ rest)) (record { start = length front; len = length s }) ≡ s
word_here front s rest = ap (take (length s)) (drop-append_seam front (s ++ rest)) ∙ take_front s rest

byte_here : (front : List ℕ) (c : ℕ) (rest : List ℕ) → slice_index (front ++ c ∷ rest) (length front) ≡ c
byte_here [] c rest = refl
byte_here (b ∷ bs) c rest = byte_here bs c rest

no_at : (b r : Bool) → IsTrue (not (b || r)) → (b ≡ false) × IsTrue (not r)
no_at true r h = cc
no_at false r h = (refl, h)

no_word : (n w : List ℕ) (ws : List (List ℕ)) → IsTrue (not (list_any (bytes_eq n) (w ∷ ws))) → (bytes_eq n w ≡ false) × IsTrue (not (list_any (bytes_eq n) ws))
no_word n w ws h = no_at (bytes_eq n w) (list_any (bytes_eq n) ws) h

passed : {A : Type 0} (b : Bool) (x y : A) → b ≡ false → (if b then x else y) ≡ y
passed true x y h = cc
passed false x y h = refl

-- a word that isn't reserved is a name
word_tok_name : (n : List ℕ) (w : Word) → IsTrue (not (list_any (bytes_eq n) reserved)) → word_tok n w ≡ tok.Word w
word_tok_name n w h =
    let a = no_word n (codes "type") (codes "const" ∷ codes "fact" ∷ codes "goal" ∷ codes "assume" ∷ codes "bool" ∷ codes "true" ∷ codes "false" ∷ []) h in
    let b = no_word n (codes "const") (codes "fact" ∷ codes "goal" ∷ codes "assume" ∷ codes "bool" ∷ codes "true" ∷ codes "false" ∷ []) a.1 in
    let c = no_word n (codes "fact") (codes "goal" ∷ codes "assume" ∷ codes "bool" ∷ codes "true" ∷ codes "false" ∷ []) b.1 in
    let d = no_word n (codes "goal") (codes "assume" ∷ codes "bool" ∷ codes "true" ∷ codes "false" ∷ []) c.1 in
    let e = no_word n (codes "assume") (codes "bool" ∷ codes "true" ∷ codes "false" ∷ []) d.1 in
    let f = no_word n (codes "bool") (codes "true" ∷ codes "false" ∷ []) e.1 in
    let g = no_word n (codes "true") (codes "false" ∷ []) f.1 in
    let k = no_word n (codes "false") [] g.1 in
    passed (bytes_eq n (codes "type")) tok.Type _ a.0 ∙ passed (bytes_eq n (codes "const")) tok.Const _ b.0 ∙ passed (bytes_eq n (codes "fact")) tok.Fact _ c.0
    ∙ passed (bytes_eq n (codes "goal")) tok.Goal _ d.0 ∙ passed (bytes_eq n (codes "assume")) tok.Assume _ e.0 ∙ passed (bytes_eq n (codes "bool")) tok.Bool _ f.0
    ∙ passed (bytes_eq n (codes "true")) (tok.Truth true w.start) _ g.0 ∙ passed (bytes_eq n (codes "false")) (tok.Truth false w.start) (tok.Word w) k.0

-- ---- what each lexeme's token says

module _ (front rest : List ℕ) where
  abbrev Spoken : Lexeme → Type 0
  Spoken x =
      Says (front ++ (spelling x ++ behind x ∷ rest)) x (tok_of (front ++ (spelling x ++ behind x ∷ rest)) (token (length front) (length (spelling x)) (lexing.kind_of x)))

  said : (bytes : List ℕ) →
      word_tok (word_at (front ++ (bytes ++ 32 ∷ rest)) (record { start = length front; len = length bytes })) (record { start = length front; len = length bytes }) ≡
      word_tok bytes (record { start = length front; len = length bytes })
  said bytes = ap (λ z. word_tok z (record { start = length front; len = length bytes })) (word_here front bytes (32 ∷ rest))

  marked : (c len : ℕ) (more : List ℕ) → mark_tok (slice_index (front ++ c ∷ more) (length front)) len (length front) ≡ mark_tok c len (length front)
  marked c len more = ap (λ b. mark_tok b len (length front)) (byte_here front c more)

  name_spoken : (n : List ℕ) → IsTrue (is_name n) → Spoken (Name n)
  name_spoken n h =
      (record { start = length front; len = length n }, said n ∙ word_tok_name n (record { start = length front; len = length n }) (name_word n h).1, word_here front n (32 ∷ rest))

  pub speaks : (x : Lexeme) → IsTrue (name_passes is_name x) → Spoken x
  speaks (Name n) h = name_spoken n h
  speaks (Truth true) h = (length front, said (codes "true"))
  speaks (Truth false) h = (length front, said (codes "false"))
  speaks (Binder quant.All) h = (length front, marked 33 1 (32 ∷ rest))
  speaks (Binder quant.Ex) h = (length front, marked 63 1 (32 ∷ rest))
  speaks (Binder quant.Lambda) h = (length front, marked 92 1 (32 ∷ rest))
  speaks (Binder quant.Eps) h = (length front, marked 64 1 (32 ∷ rest))
  speaks (Sign op.Imp) h = marked 61 3 (61 ∷ 62 ∷ 32 ∷ rest)
  speaks (Sign op.Or) h = marked 124 1 (32 ∷ rest)
  speaks (Sign op.And) h = marked 38 1 (32 ∷ rest)
  speaks Equal h = marked 61 1 (32 ∷ rest)
  speaks Tilde h = (length front, marked 126 1 (32 ∷ rest))
  speaks Open h = (length front, marked 40 1 (32 ∷ rest))
  speaks Close h = marked 41 1 (32 ∷ rest)
  speaks Colon h = marked 58 1 (32 ∷ rest)
  speaks Dot h = marked 46 1 (32 ∷ rest)
  speaks Arrow h = marked 45 2 (62 ∷ 32 ∷ rest)
  speaks BoolWord h = said (codes "bool")
  speaks TypeWord h = said (codes "type")
  speaks ConstWord h = said (codes "const")
  speaks FactWord h = said (codes "fact")
  speaks GoalWord h = said (codes "goal")
  speaks AssumeWord h = said (codes "assume")
  speaks Semi h = marked 59 1 (10 ∷ rest)

-- ---- whole texts

-- lexemes whose names are names are cut into tokens
pub printed_cuts : (xs : List Lexeme) → IsTrue (names_pass is_name xs) → Cuts 0 (laid xs) (lexing.tokens_at 0 xs)
printed_cuts xs h = lexing.cuts is_name is_word_of 0 xs h

-- that say them
pub printed_spells : (xs : List Lexeme) → IsTrue (names_pass is_name xs) → Spells (laid xs) xs (toks_of (laid xs) (lexing.tokens_at 0 xs))
printed_spells xs h = lexing.spells is_name is_word_of tok_of (λ x front rest. speaks front rest x) [] xs (laid xs) 0 refl refl h
