-- The numbers of names in a text: each name keeps its number, and tells it.
use Rattle.std.proofs.Common.{◌≡◌, inl, inr, ℕ, zero, suc, ◌+◌, ◌<◌, nat_eq, Bool, true, false, not, cond, List, [], ◌∷◌, ◌++◌, length, map, get_or, refl, sym, ap, subst, ◌∙◌, arith, if◌then◌else◌, append_assoc, eq-eqb}
use Rattle.std.specs.List.{list_any, position_or_len}
use Rattle.std.specs.Cmp.Lexicographic.{pointwise, bytes_decides}
use Rattle.std.proofs.Math.Seq.{get_or-append_seam}
use Rattle.std.proofs.lemmas.Bool.{cases_lt, eqb-true}
use Rattle.std.proofs.lemmas.List.{append-nil, length-append, get_or_append_left}
use Rattle.tptp_syntax.specs.declared.tokens.Tok.{Tok}
use Rattle.tptp_syntax.specs.declared.tokens.Tok.TheVariants as tok
use Rattle.tptp_syntax.specs.Tokens.{number_of, with_word, known_words}
use Rattle.tptp_syntax.specs.Reading.{said}
use Rattle.problem_laws.specs.Statements.{place_of}
use Rattle.problem_laws.proofs.Places.{any_stays, none_stays, none_length, within_any, noted_more, stays, within}
use Rattle.problem_laws.proofs.Lexemes.{Lexeme, Name, Variable, Truth, Sign, variable_word, mark_tok}
use Rattle.problem_laws.proofs.Cutting.{toks, names}

abbrev same : List ℕ → List ℕ → Bool
same w v = pointwise nat_eq w v

pub itself : (w : List ℕ) → same w w ≡ true
itself w = (bytes_decides w w).1 refl

-- ---- the names of a text go on
abbrev pub Grows : List (List ℕ) → List (List ℕ) → Type 0
Grows ws vs = (m : List (List ℕ)) × (vs ≡ ws ++ m)

noted_grows : (w : List ℕ) (ws vs : List (List ℕ)) → Grows (with_word ws w) vs → Grows ws vs
noted_grows w ws vs h = let one = noted_more (same w) w ws in (one.0 ++ h.0, h.1 ∙ ap (λ l. l ++ h.0) one.1 ∙ append_assoc ws one.0 h.0)

pub grows : (xs : List Lexeme) (ws : List (List ℕ)) → Grows ws (names ws xs)
grows [] ws = ([], sym (append-nil ws))
grows (Name w ∷ xs) ws = noted_grows w ws (names (with_word ws w) xs) (grows xs (with_word ws w))
grows (Variable n ∷ xs) ws = noted_grows (variable_word n) ws (names (with_word ws (variable_word n)) xs) (grows xs (with_word ws (variable_word n)))
grows (Truth b ∷ xs) ws = grows xs ws
grows (Sign m ∷ xs) ws = grows xs ws

-- ---- over all the names of a text
module _ (W : List (List ℕ)) where
  abbrev pub num : List ℕ → ℕ
  num w = number_of w W

  abbrev pub tok_of : Lexeme → Tok
  tok_of (Name w) = tok.Name false (num w)
  tok_of (Variable n) = tok.Upper (num (variable_word n))
  tok_of (Truth b) = tok.Truth b
  tok_of (Sign m) = mark_tok m

  abbrev pub IsKnown : List ℕ → Type 0
  IsKnown w = num w < length W

  abbrev pub AreKnown : List Lexeme → Type 0
  AreKnown [] = Unit {0}
  AreKnown (Name w ∷ xs) = IsKnown w × AreKnown xs
  AreKnown (Variable n ∷ xs) = IsKnown (variable_word n) × AreKnown xs
  AreKnown (Truth b ∷ xs) = AreKnown xs
  AreKnown (Sign m ∷ xs) = AreKnown xs

  module _ (w : List ℕ) (ws : List (List ℕ)) (h : Grows (with_word ws w) W) where
    pub number_stays : number_of w ws ≡ num w
    number_stays = sym (stays (same w) w (itself w) ws h.0) ∙ ap (number_of w) (sym h.1)

    pub is_known : IsKnown w
    is_known =
        let less = within (same w) w (itself w) ws h.0 in
        subst (λ l. number_of w l < length l) (sym h.1) (subst (λ k. k < length (with_word ws w ++ h.0)) (sym (stays (same w) w (itself w) ws h.0)) less)

  pub toks_are : (xs : List Lexeme) (ws : List (List ℕ)) → W ≡ names ws xs → toks ws xs ≡ map tok_of xs
  toks_are [] ws e = refl
  toks_are (Name w ∷ xs) ws e =
      let g = grows xs (with_word ws w) in
      λ i. tok.Name false (number_stays w ws (g.0, e ∙ g.1) i) ∷ toks_are xs (with_word ws w) e i
  toks_are (Variable n ∷ xs) ws e =
      let g = grows xs (with_word ws (variable_word n)) in
      λ i. tok.Upper (number_stays (variable_word n) ws (g.0, e ∙ g.1) i) ∷ toks_are xs (with_word ws (variable_word n)) e i
  toks_are (Truth b ∷ xs) ws e = ap (λ ts. tok.Truth b ∷ ts) (toks_are xs ws e)
  toks_are (Sign m ∷ xs) ws e = ap (λ ts. mark_tok m ∷ ts) (toks_are xs ws e)

  pub all_known : (xs : List Lexeme) (ws : List (List ℕ)) → W ≡ names ws xs → AreKnown xs
  all_known [] ws e = tt
  all_known (Name w ∷ xs) ws e = let g = grows xs (with_word ws w) in (is_known w ws (g.0, e ∙ g.1), all_known xs (with_word ws w) e)
  all_known (Variable n ∷ xs) ws e = let g = grows xs (with_word ws (variable_word n)) in (is_known (variable_word n) ws (g.0, e ∙ g.1), all_known xs (with_word ws (variable_word n)) e)
  all_known (Truth b ∷ xs) ws e = all_known xs ws e
  all_known (Sign m ∷ xs) ws e = all_known xs ws e

-- a name that is there is at its place
said_step : (w x : List ℕ) (W : List (List ℕ)) (b : Bool) (n : ℕ) → same w x ≡ b → cond (not b) (1 + n) 0 < suc (length W) → (n < length W → get_or W n [] ≡ w) → get_or (x ∷ W) (cond (not b) (1 + n) 0) [] ≡ w
said_step w x W true n e less rest = sym ((bytes_decides w x).0 e)
said_step w x W false n e less rest = let next : 1 + n ≡ suc n = omega arith in ap (λ k. get_or (x ∷ W) k []) next ∙ rest (omega arith)

pub said_is : (W : List (List ℕ)) (w : List ℕ) → number_of w W < length W → said W (number_of w W) ≡ w
said_is [] w h = absurd (omega arith)
said_is (x ∷ W) w h = said_step w x W (same w x) (number_of w W) refl h (said_is W w)

pub one_number : (W : List (List ℕ)) (v w : List ℕ) → number_of v W < length W → number_of w W < length W → number_of v W ≡ number_of w W → v ≡ w
one_number W v w hv hw e = sym (said_is W v hv) ∙ ap (said W) e ∙ said_is W w hw

-- ---- each name stands once
abbrev pub AreOnce : List (List ℕ) → Type 0
AreOnce W = (s : ℕ) → s < length W → number_of (said W s) W ≡ s

once_last : (w : List ℕ) (ws : List (List ℕ)) → list_any (same w) ws ≡ false → AreOnce ws → AreOnce (ws ++ w ∷ [])
once_last w ws none once s less = elim (cases_lt s (length ws)) [
  | inl before ↦
      let v = said ws s in
      let is : said (ws ++ w ∷ []) s ≡ v = get_or_append_left ws (w ∷ []) [] s before in
      let here = once s before in
      let there : list_any (same v) ws ≡ true = within_any (same v) ws (omega arith) in
      ap (λ u. number_of u (ws ++ w ∷ [])) is ∙ any_stays (same v) ws (w ∷ []) there ∙ here
  | inr behind ↦
      let len = length-append ws (w ∷ []) in
      let one : length (w ∷ []) ≡ 1 = refl in
      let at : s ≡ length ws = omega arith in
      let is : said (ws ++ w ∷ []) s ≡ w = ap (λ k. get_or (ws ++ w ∷ []) k []) at ∙ get_or-append_seam ws w [] [] in
      ap (λ u. number_of u (ws ++ w ∷ [])) is ∙ none_stays (same w) ws w [] none (itself w) ∙ none_length (same w) ws none ∙ sym at
]

once_noted : (w : List ℕ) (ws : List (List ℕ)) → AreOnce ws → AreOnce (with_word ws w)
once_noted w ws once = by (list_any (same w) ws) refl
  where
    by : (b : Bool) → list_any (same w) ws ≡ b → AreOnce (if b then ws else ws ++ w ∷ [])
    by true e = once
    by false e = once_last w ws e once

pub names_once : (xs : List Lexeme) (ws : List (List ℕ)) → AreOnce ws → AreOnce (names ws xs)
names_once [] ws h = h
names_once (Name w ∷ xs) ws h = names_once xs (with_word ws w) (once_noted w ws h)
names_once (Variable n ∷ xs) ws h = names_once xs (with_word ws (variable_word n)) (once_noted (variable_word n) ws h)
names_once (Truth b ∷ xs) ws h = names_once xs ws h
names_once (Sign m ∷ xs) ws h = names_once xs ws h

pub known_once : AreOnce known_words
known_once zero h = refl
known_once (suc zero) h = refl
known_once (suc (suc zero)) h = refl
known_once (suc (suc (suc n))) h = absurd (let three : length known_words ≡ 3 = refl in omega arith)

-- ---- symbols by their names
abbrev pub Below : ℕ → List ℕ → Type 0
Below m [] = Unit {0}
Below m (s ∷ ss) = (s < m) × Below m ss

module _ (W : List (List ℕ)) (once : AreOnce W) (w : List ℕ) where
  agree_by : (s : ℕ) → s < length W → (b : Bool) → same w (said W s) ≡ b → (c : Bool) → nat_eq (number_of w W) s ≡ c → c ≡ b
  agree_by s h true e true f = refl
  agree_by s h false e false f = refl
  agree_by s h true e false f =
      let is : w ≡ said W s = (bytes_decides w (said W s)).0 e in
      let number : number_of w W ≡ s = ap (λ v. number_of v W) is ∙ once s h in
      sym f ∙ eq-eqb (number_of w W) s number
  agree_by s h false e true f =
      let number : number_of w W ≡ s = eqb-true (number_of w W) s f in
      let is : said W s ≡ w = ap (said W) (sym number) ∙ said_is W w (omega arith) in
      sym (sym e ∙ ap (same w) is ∙ itself w)

  pub place_is : (S : List ℕ) → Below (length W) S → position_or_len (nat_eq (number_of w W)) S ≡ place_of (map (said W) S) w
  place_is [] h = refl
  place_is (s ∷ S) h =
      let here : nat_eq (number_of w W) s ≡ same w (said W s) = agree_by s h.0 (same w (said W s)) refl (nat_eq (number_of w W) s) refl in
      let rest = place_is S h.1 in
      λ i. cond (not (here i)) (1 + rest i) 0
