-- Lexemes that were laid are cut again.
use Rattle.std.proofs.Common.{◌≡◌, ℕ, nat_lt, zero, suc, ◌+◌, ◌-◌, ◌<◌, ◌/◌, ◌%◌, ◌==◌, Bool, true, false, ◌&&◌, IsTrue, List, [], ◌∷◌, ◌++◌, length, take, refl, ap, ◌∙◌, arith, if◌then◌else◌}
use Rattle.std.specs.Prelude.{codes, decimal}
use Rattle.std.specs.Fmt.{digits, digits_onto, digit_glyph}
use Rattle.std.specs.List.{list_all}
use Rattle.std.proofs.lemmas.Bool.{lt-ltb}
use Rattle.std.proofs.lemmas.Grind.{common_steps}
use Rattle.std.proofs.Math.Seq.{take-append_seam}
use Rattle.text_kit.specs.Tokens.{StopsAt}
use Rattle.text_kit.proofs.Pieces.{prefix_len_run}
use Rattle.hol_terms.proofs.Both.{both_true, and_true}
use Rattle.tptp_syntax.specs.declared.tokens.Tok.{Tok}
use Rattle.tptp_syntax.specs.declared.tokens.Tok.TheVariants as tok
use Rattle.tptp_syntax.specs.declared.front.Front.{Front}
use Rattle.tptp_syntax.specs.declared.front.Front.TheVariants as front
use Rattle.tptp_syntax.specs.Tokens.{is_lower, is_word_byte, word_len, dollar, number_of, with_word, with_token, cut, cut_front, front_of}
use Rattle.problem_laws.proofs.Lexemes.{Mark, Open, Close, SquareOpen, SquareClose, Colon, Comma, NextPart, Dot, Tilde, Each, One, And, Or, Imp, Iff, Equal, mark_spelling, mark_tok, Lexeme, Name, Variable, Truth, Sign, variable_word, spelling, laid, sign_first, cuttable}

-- ---- the digits of any number are bytes of a word
digit_word : (d : ℕ) → d < 10 → IsTrue (is_word_byte (48 + d))
digit_word d h = grind (arith, common_steps)

glyph_by : (d : ℕ) (b : Bool) → d < 10 → b ≡ true → IsTrue (is_word_byte (if b then 48 + d else 87 + d))
glyph_by d true h e = digit_word d h
glyph_by d false h e = cc

glyph_word : (n : ℕ) → IsTrue (is_word_byte (digit_glyph false (n % 10)))
glyph_word n = let less : n % 10 < 10 = omega arith in glyph_by (n % 10) (nat_lt (n % 10) 10) less (lt-ltb (n % 10) 10 less)

onto_words : (k n : ℕ) (acc : List ℕ) → IsTrue (list_all is_word_byte acc) → IsTrue (list_all is_word_byte (digits_onto k 10 false n acc))
onto_words zero n acc h = h
onto_words (suc k) n acc h =
    let here = and_true (is_word_byte (digit_glyph false (n % 10))) (list_all is_word_byte acc) (glyph_word n) h in
    by (n / 10 == 0) (onto_words k (n / 10) (digit_glyph false (n % 10) ∷ acc) here) here
  where
    by : (b : Bool) → IsTrue (list_all is_word_byte (digits_onto k 10 false (n / 10) (digit_glyph false (n % 10) ∷ acc))) → IsTrue (list_all is_word_byte (digit_glyph false (n % 10) ∷ acc)) →
        IsTrue (list_all is_word_byte (if b then digit_glyph false (n % 10) ∷ acc else digits_onto k 10 false (n / 10) (digit_glyph false (n % 10) ∷ acc)))
    by true rest here = here
    by false rest here = rest

pub decimal_word : (n : ℕ) → IsTrue (list_all is_word_byte (decimal n))
unfolding digits
decimal_word n = onto_words 64 n [] refl

-- ---- one piece
past : (ws : List (List ℕ)) (n : ℕ) (bs rest : List ℕ) → (m : ℕ) × (cut ws n (length bs) (bs ++ rest) ≡ cut ws m 0 rest)
past ws n [] rest = (n, refl)
past ws n (b ∷ bs) rest = past ws (n + 1) bs rest

-- the tokens and the names that a text is cut into, one token more than another's
pub record OneMore (ws : List (List ℕ)) (n : ℕ) (text : List ℕ) (t : Tok) (after : List (List ℕ)) (rest : List ℕ) : Type 0 where
  pub place : ℕ
  pub tokens : (cut ws n 0 text).tokens ≡ t ∷ (cut after place 0 rest).tokens
  pub words : (cut ws n 0 text).words ≡ (cut after place 0 rest).words

one_more : (ws : List (List ℕ)) (n : ℕ) (text : List ℕ) (t : Tok) (after : List (List ℕ)) (rest : List ℕ) (k : ℕ) → cut ws n 0 text ≡ with_token n t (cut after k 0 rest) → OneMore ws n text t after rest
one_more ws n text t after rest k e = record { place = k; tokens = λ i. (e i).tokens; words = λ i. (e i).words }

sign_cut : (m : Mark) (ws : List (List ℕ)) (n : ℕ) (rest : List ℕ) → OneMore ws n (mark_spelling m ++ rest) (mark_tok m) ws rest
sign_cut Open ws n rest = record { place = _; tokens = refl; words = refl }
sign_cut Close ws n rest = record { place = _; tokens = refl; words = refl }
sign_cut SquareOpen ws n rest = record { place = _; tokens = refl; words = refl }
sign_cut SquareClose ws n rest = record { place = _; tokens = refl; words = refl }
sign_cut Colon ws n rest = record { place = _; tokens = refl; words = refl }
sign_cut Comma ws n rest = record { place = _; tokens = refl; words = refl }
sign_cut NextPart ws n rest = record { place = _; tokens = refl; words = refl }
sign_cut Dot ws n rest = record { place = _; tokens = refl; words = refl }
sign_cut Tilde ws n rest = record { place = _; tokens = refl; words = refl }
sign_cut Each ws n rest = record { place = _; tokens = refl; words = refl }
sign_cut One ws n rest = record { place = _; tokens = refl; words = refl }
sign_cut And ws n rest = record { place = _; tokens = refl; words = refl }
sign_cut Or ws n rest = record { place = _; tokens = refl; words = refl }
sign_cut Imp ws n rest = record { place = _; tokens = refl; words = refl }
sign_cut Iff ws n rest = record { place = _; tokens = refl; words = refl }
sign_cut Equal ws n rest = record { place = _; tokens = refl; words = refl }

chosen : (c : Bool) (x y : Front) → c ≡ true → (if c then x else y) ≡ x
chosen true x y h = refl
chosen false x y h = cc

module _ (ws : List (List ℕ)) (n b : ℕ) (bs rest : List ℕ) (all : IsTrue (list_all is_word_byte bs)) (stop : StopsAt is_word_byte rest) where
  run : word_len (bs ++ rest) ≡ length bs
  run = prefix_len_run is_word_byte bs rest all stop

  abbrev text : List ℕ
  text = b ∷ (bs ++ rest)

  took : take (1 + length bs) text ≡ b ∷ bs
  took = let next : 1 + length bs ≡ suc (length bs) = omega arith in ap (λ k. take k text) next ∙ ap (λ xs. b ∷ xs) (take-append_seam bs rest)

  less : 1 + length bs - 1 ≡ length bs
  less = omega arith

  lower_front : is_lower b ≡ true → front_of text ≡ front.Lower (1 + length bs)
  lower_front h = chosen (is_lower b) (front.Lower (1 + word_len (bs ++ rest))) _ h ∙ ap (λ k. front.Lower (1 + k)) run

  pub lower_cut : is_lower b ≡ true → OneMore ws n text (tok.Name false (number_of (b ∷ bs) ws)) (with_word ws (b ∷ bs)) rest
  lower_cut h =
      let end = past (with_word ws (b ∷ bs)) (n + 1) bs rest in
      one_more ws n text (tok.Name false (number_of (b ∷ bs) ws)) (with_word ws (b ∷ bs)) rest end.0
      (ap (λ f. cut_front ws n text f (λ vs m. cut vs (n + 1) m (bs ++ rest))) (lower_front h)
      ∙ (λ i. with_token n (tok.Name false (number_of (took i) ws)) (cut (with_word ws (took i)) (n + 1) (less i) (bs ++ rest)))
      ∙ ap (with_token n (tok.Name false (number_of (b ∷ bs) ws))) end.1)

  pub upper_cut : b ≡ 88 → OneMore ws n text (tok.Upper (number_of (b ∷ bs) ws)) (with_word ws (b ∷ bs)) rest
  upper_cut h =
      let end = past (with_word ws (b ∷ bs)) (n + 1) bs rest in
      let seen : front_of text ≡ front.Upper (1 + length bs) = ap (λ c. front_of (c ∷ (bs ++ rest))) h ∙ ap (λ k. front.Upper (1 + k)) run in
      one_more ws n text (tok.Upper (number_of (b ∷ bs) ws)) (with_word ws (b ∷ bs)) rest end.0
      (ap (λ f. cut_front ws n text f (λ vs m. cut vs (n + 1) m (bs ++ rest))) seen
      ∙ (λ i. with_token n (tok.Upper (number_of (took i) ws)) (cut (with_word ws (took i)) (n + 1) (less i) (bs ++ rest)))
      ∙ ap (with_token n (tok.Upper (number_of (b ∷ bs) ws))) end.1)

truth_cut : (b : Bool) (ws : List (List ℕ)) (n : ℕ) (rest : List ℕ) → StopsAt is_word_byte rest → OneMore ws n (spelling (Truth b) ++ rest) (tok.Truth b) ws rest
truth_cut true ws n rest stop =
    let bs = codes "true" in
    let run : word_len (bs ++ rest) ≡ 4 = prefix_len_run is_word_byte bs rest refl stop in
    let seen : front_of (36 ∷ (bs ++ rest)) ≡ front.Sign (tok.Truth true) 5 = ap (λ k. dollar (take k (bs ++ rest))) run in
    one_more ws n (36 ∷ (bs ++ rest)) (tok.Truth true) ws rest _ (ap (λ f. cut_front ws n (36 ∷ (bs ++ rest)) f (λ vs m. cut vs (n + 1) m (bs ++ rest))) seen)
truth_cut false ws n rest stop =
    let bs = codes "false" in
    let run : word_len (bs ++ rest) ≡ 5 = prefix_len_run is_word_byte bs rest refl stop in
    let seen : front_of (36 ∷ (bs ++ rest)) ≡ front.Sign (tok.Truth false) 6 = ap (λ k. dollar (take k (bs ++ rest))) run in
    one_more ws n (36 ∷ (bs ++ rest)) (tok.Truth false) ws rest _ (ap (λ f. cut_front ws n (36 ∷ (bs ++ rest)) f (λ vs m. cut vs (n + 1) m (bs ++ rest))) seen)

-- ---- whole texts
abbrev pub toks : List (List ℕ) → List Lexeme → List Tok
toks ws [] = []
toks ws (Name w ∷ xs) = tok.Name false (number_of w ws) ∷ toks (with_word ws w) xs
toks ws (Variable n ∷ xs) = tok.Upper (number_of (variable_word n) ws) ∷ toks (with_word ws (variable_word n)) xs
toks ws (Truth b ∷ xs) = tok.Truth b ∷ toks ws xs
toks ws (Sign m ∷ xs) = mark_tok m ∷ toks ws xs

abbrev pub names : List (List ℕ) → List Lexeme → List (List ℕ)
names ws [] = ws
names ws (Name w ∷ xs) = names (with_word ws w) xs
names ws (Variable n ∷ xs) = names (with_word ws (variable_word n)) xs
names ws (Truth b ∷ xs) = names ws xs
names ws (Sign m ∷ xs) = names ws xs

pub record IsCut (ws : List (List ℕ)) (n : ℕ) (text : List ℕ) (ts : List Tok) (after : List (List ℕ)) : Type 0 where
  pub tokens : (cut ws n 0 text).tokens ≡ ts
  pub words : (cut ws n 0 text).words ≡ after

mark_stops : (m : Mark) (rest : List ℕ) → StopsAt is_word_byte (mark_spelling m ++ rest)
mark_stops Open rest = refl
mark_stops Close rest = refl
mark_stops SquareOpen rest = refl
mark_stops SquareClose rest = refl
mark_stops Colon rest = refl
mark_stops Comma rest = refl
mark_stops NextPart rest = refl
mark_stops Dot rest = refl
mark_stops Tilde rest = refl
mark_stops Each rest = refl
mark_stops One rest = refl
mark_stops And rest = refl
mark_stops Or rest = refl
mark_stops Imp rest = refl
mark_stops Iff rest = refl
mark_stops Equal rest = refl

stops : (xs : List Lexeme) → IsTrue (sign_first xs) → StopsAt is_word_byte (laid xs)
stops [] h = tt
stops (Sign m ∷ xs) h = mark_stops m (laid xs)
stops (Name w ∷ xs) h = cc
stops (Variable n ∷ xs) h = cc
stops (Truth b ∷ xs) h = cc

one_then : (ws : List (List ℕ)) (n : ℕ) (bytes : List ℕ) (t : Tok) (vs : List (List ℕ)) (rest : List ℕ) (ts : List Tok) (after : List (List ℕ)) →
    (o : OneMore ws n bytes t vs rest) → IsCut vs o.place rest ts after → IsCut ws n bytes (t ∷ ts) after
one_then ws n bytes t vs rest ts after o h = record { tokens = o.tokens ∙ ap (λ us. t ∷ us) h.tokens; words = o.words ∙ h.words }

pub cuts : (xs : List Lexeme) → IsTrue (cuttable xs) → (ws : List (List ℕ)) (n : ℕ) → IsCut ws n (laid xs) (toks ws xs) (names ws xs)
cuts [] h ws n = record { tokens = refl; words = refl }
cuts (Name [] ∷ xs) h ws n = cc
cuts (Name (b ∷ bs) ∷ xs) h ws n =
    let outer = both_true (is_lower b && list_all is_word_byte bs) (sign_first xs && cuttable xs) h in
    let word = both_true (is_lower b) (list_all is_word_byte bs) outer.0 in
    let inner = both_true (sign_first xs) (cuttable xs) outer.1 in
    let o = lower_cut ws n b bs (laid xs) word.1 (stops xs inner.0) word.0 in
    one_then ws n (laid (Name (b ∷ bs) ∷ xs)) _ (with_word ws (b ∷ bs)) (laid xs) _ _ o (cuts xs inner.1 (with_word ws (b ∷ bs)) o.place)
cuts (Variable k ∷ xs) h ws n =
    let inner = both_true (sign_first xs) (cuttable xs) h in
    let o = upper_cut ws n 88 (decimal k) (laid xs) (decimal_word k) (stops xs inner.0) refl in
    one_then ws n (laid (Variable k ∷ xs)) _ (with_word ws (variable_word k)) (laid xs) _ _ o (cuts xs inner.1 (with_word ws (variable_word k)) o.place)
cuts (Truth b ∷ xs) h ws n =
    let inner = both_true (sign_first xs) (cuttable xs) h in
    let o = truth_cut b ws n (laid xs) (stops xs inner.0) in
    one_then ws n (laid (Truth b ∷ xs)) _ ws (laid xs) _ _ o (cuts xs inner.1 ws o.place)
cuts (Sign m ∷ xs) h ws n = let o = sign_cut m ws n (laid xs) in one_then ws n (laid (Sign m ∷ xs)) _ ws (laid xs) _ _ o (cuts xs h ws o.place)
