-- What the loop over a text has cut so far.
use Rattle.std.proofs.Common.{◌≡◌, ℕ, ◌+◌, ◌-◌, ◌<◌, ◌≤◌, List, [], ◌∷◌, ◌++◌, length, drop, get_or, refl, sym, ◌∙◌, ap, arith, Some, None, append_assoc, length-drop, drop-cons, drop-drop, zero, suc}
use Rattle.std.proofs.lemmas.List.{drop_all, append-nil}
use Rattle.tptp_syntax.specs.declared.tokens.Tok.{Tok}
use Rattle.tptp_syntax.specs.declared.lexer.Lexed.{Lexed}
use Rattle.tptp_syntax.specs.declared.front.Front.{Front}
use Rattle.tptp_syntax.specs.declared.front.Front.TheVariants as front
use Rattle.tptp_syntax.specs.Tokens.{with_token, cut, cut_front, front_of, lexed, known_words}
use Rattle.tptp_syntax.specs.inner.Fronts.{FrontFits, pushed, put_front, front_len}

-- these tokens, and then those of a text with the names as they are then
abbrev pub joined : Lexed → Lexed → Lexed
joined l m = record { tokens = l.tokens ++ m.tokens; places = l.places ++ m.places; words = m.words }

joined_push : (l : Lexed) (at : ℕ) (t : Tok) (ws : List (List ℕ)) (m : Lexed) → joined l (with_token at t m) ≡ joined (pushed l at t ws) m
joined_push l at t ws m = (λ i. record {
  tokens = sym (append_assoc l.tokens (t ∷ []) m.tokens) i;
  places = sym (append_assoc l.places (at ∷ []) m.places) i;
  words = m.words;
})

cut_inside : (ws : List (List ℕ)) (n m : ℕ) (xs : List ℕ) → m ≤ length xs → cut ws n m xs ≡ cut ws (n + m) 0 (drop m xs)
cut_inside ws n zero xs le = ap (λ k. cut ws k 0 xs) (plus_zero n)
  where
    plus_zero : (n : ℕ) → n ≡ n + zero
    plus_zero n = omega arith
cut_inside ws n (suc m) [] le = absurd (omega arith)
cut_inside ws n (suc m) (b ∷ rest) le = cut_inside ws (n + 1) m rest (omega arith) ∙ ap (λ k. cut ws k 0 (drop m rest)) (shift n m)
  where
    shift : (n m : ℕ) → n + 1 + m ≡ n + suc m
    shift n m = omega arith

pub record CutSoFar (text : List ℕ) (at : ℕ) (l : Lexed) : Type 0 where
  pub within : at ≤ length text
  pub cuts : lexed text ≡ joined l (cut l.words at 0 (drop at text))

pub cut_begin : (text : List ℕ) → CutSoFar text 0 (record { tokens = []; places = []; words = known_words })
cut_begin text = record { within = omega arith; cuts = refl }

module _ (text : List ℕ) (at : ℕ) (l : Lexed) (so_far : CutSoFar text at l) (lt : at < length text) (seen : List ℕ) (see : seen ≡ drop at text) where
  abbrev here : ℕ
  here = get_or text at 0

  abbrev behind : List ℕ
  behind = drop (at + 1) text

  front_byte : drop at text ≡ here ∷ behind
  front_byte = drop-cons text at 0 lt ∙ ap (λ k. here ∷ drop k text) (suc_is at)
    where
      suc_is : (i : ℕ) → suc i ≡ i + 1
      suc_is i = omega arith

  seen_is : seen ≡ here ∷ behind
  seen_is = see ∙ front_byte

  abbrev go : List (List ℕ) → ℕ → Lexed
  go ws m = cut ws (at + 1) m behind

  cut_here : (f : Front) → f ≡ front_of seen → lexed text ≡ joined l (cut_front l.words at seen f go)
  cut_here f is = so_far.cuts ∙ ap (λ xs. joined l (cut l.words at 0 xs)) front_byte
      ∙ ap (λ g. joined l (cut_front l.words at (here ∷ behind) g go)) (sym (is ∙ ap front_of seen_is)) ∙ ap (λ xs. joined l (cut_front l.words at xs f go)) (sym seen_is)

  rest_cut : (ws : List (List ℕ)) (m : ℕ) → 1 ≤ m → m ≤ length seen → go ws (m - 1) ≡ cut ws (at + m) 0 (drop (at + m) text)
  rest_cut ws m some le =
      let len : length behind + 1 ≡ length seen = omega (arith, ap length seen_is) in
      let a : at + 1 + (m - 1) ≡ at + m = omega arith in
      cut_inside ws (at + 1) (m - 1) behind (omega arith)
      ∙ ap (λ xs. cut ws (at + 1 + (m - 1)) 0 xs) (drop-drop (m - 1) (at + 1) text)
      ∙ ap (λ k. cut ws k 0 (drop k text)) a

  seen_len : at + length seen ≡ length text
  seen_len = omega (arith, ap length see, length-drop at text)

  one_token : (m : ℕ) (t : Tok) (ws : List (List ℕ)) → 1 ≤ m → m ≤ length seen → lexed text ≡ joined l (with_token at t (go ws (m - 1))) → CutSoFar text (at + m) (pushed l at t ws)
  one_token m t ws some le is = record {
    within = omega (arith, seen_len);
    cuts = is ∙ joined_push l at t ws (go ws (m - 1)) ∙ ap (joined (pushed l at t ws)) (rest_cut ws m some le);
  }

  pub cut_on : (f : Front) (m : ℕ) → f ≡ front_of seen → FrontFits (length seen) f → front_len f ≡ Some m → CutSoFar text (at + m) (put_front l at seen f)
  cut_on (front.Gap n) m is fits len =
      let same : n ≡ m = cc in
      let some = fits.0 in
      let le = fits.1 in
      let step : lexed text ≡ joined l (go l.words (n - 1)) = cut_here (front.Gap n) is in
      rw (sym same) (record { within = omega (arith, seen_len); cuts = step ∙ ap (joined l) (rest_cut l.words n some le) })
  cut_on (front.Sign t n) m is fits len = let same : n ≡ m = cc in rw (sym same) (one_token n t l.words fits.0 fits.1 (cut_here (front.Sign t n) is))
  cut_on (front.Lower n) m is fits len = let same : n ≡ m = cc in rw (sym same) (one_token n _ _ fits.0 fits.1 (cut_here (front.Lower n) is))
  cut_on (front.Quoted n) m is fits len = let same : n ≡ m = cc in let some = fits.0 in let least : 1 ≤ n = omega arith in rw (sym same) (one_token n _ _ least fits.1 (cut_here (front.Quoted n) is))
  cut_on (front.Upper n) m is fits len = let same : n ≡ m = cc in rw (sym same) (one_token n _ _ fits.0 fits.1 (cut_here (front.Upper n) is))
  cut_on front.Nothing m is fits len = cc

  pub cut_bad : (f : Front) → f ≡ front_of seen → front_len f ≡ None → put_front l at seen f ≡ lexed text
  cut_bad (front.Gap n) is len = cc
  cut_bad (front.Sign t n) is len = cc
  cut_bad (front.Lower n) is len = cc
  cut_bad (front.Quoted n) is len = cc
  cut_bad (front.Upper n) is len = cc
  cut_bad front.Nothing is len = sym (cut_here front.Nothing is)

pub cut_done : (text : List ℕ) (at : ℕ) (l : Lexed) → CutSoFar text at l → length text ≤ at → l ≡ lexed text
cut_done text at l so_far le = sym (
    so_far.cuts ∙ ap (λ xs. joined l (cut l.words at 0 xs)) (drop_all at text le) ∙ (λ i. record { tokens = append-nil l.tokens i; places = append-nil l.places i; words = l.words })
    )
