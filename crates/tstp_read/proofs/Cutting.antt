-- What the loops over lines and bytes have found so far.
use Rattle.std.proofs.Common.{◌≡◌, ℕ, ◌+◌, ◌-◌, ◌<◌, ◌≤◌, Bool, true, false, List, [], ◌∷◌, ◌++◌, length, take, drop, get_or, refl, sym, ◌∙◌, ap, subst, arith, inl, inr, Option, Some, None, append_assoc, length-drop, drop-cons, drop-drop, add-one, zero, suc, eqb}
use Rattle.std.specs.Prelude.{All, if◌then◌else◌, ◌&&◌, ◌||◌, not}
use Rattle.std.specs.Option.{option_map}
use Rattle.std.specs.List.{prefix_len, list_any}
use Rattle.std.proofs.lemmas.Bool.{cases_Bool, eqb-true}
use Rattle.std.proofs.lemmas.List.{drop_all, append-nil}
use Rattle.std.proofs.lemmas.List.Elements.{All-append, All-cons, All-nil}
use Rattle.tstp_read.specs.declared.tokens.Kind.{Kind}
use Rattle.tstp_read.specs.declared.tokens.Token.{Token}
use Rattle.tstp_read.specs.declared.tokens.Front.{Front}
use Rattle.tstp_read.specs.declared.tokens.Front.TheVariants as front
use Rattle.tstp_read.specs.Lines.{is_inside_line, goes_on_with, line_with}
use Rattle.tstp_read.specs.Tokens.{more, closing, comment_end, unescaped, front_of, front_at, cut, cut_front, with_token, Cut, Into, BadAt, IsWithin, least_len, FrontFits}

-- ---- lines

-- the line behind one that ends `length` bytes further on
abbrev pub inside_len : List ℕ → ℕ
inside_len xs = prefix_len is_inside_line xs

behind_byte : (words : List ℕ) (n b : ℕ) (rest : List ℕ) (c : Bool) (k m : ℕ) → k ≡ n + 1 + (if not c then 1 + inside_len rest else 0) → m ≡ 1 + (if not c then 1 + inside_len rest else 0) →
    line_with words false (n + 1) rest ≡ line_with words true (n + 1 + 1 + inside_len rest) (drop (1 + inside_len rest) rest) →
    line_with words c (n + 1) rest ≡ line_with words true k (drop m (b ∷ rest))
behind_byte words n b rest true k m kn mn below =
    let a : n + 1 ≡ k = omega arith in
    let d : suc zero ≡ m = omega arith in
    ap (λ j. line_with words true j rest) a ∙ ap (λ j. line_with words true k (drop j (b ∷ rest))) d
behind_byte words n b rest false k m kn mn below =
    let a : n + 1 + 1 + inside_len rest ≡ k = omega arith in
    let d : suc (1 + inside_len rest) ≡ m = omega arith in
    below ∙ ap (λ j. line_with words true j (drop (1 + inside_len rest) rest)) a ∙ ap (λ j. line_with words true k (drop j (b ∷ rest))) d

next_line : (words : List ℕ) (n : ℕ) (xs : List ℕ) → line_with words false n xs ≡ line_with words true (n + 1 + inside_len xs) (drop (1 + inside_len xs) xs)
next_line words n [] = refl
next_line words n (b ∷ rest) = behind_byte words n b rest (eqb b 10) (n + 1 + inside_len (b ∷ rest)) (1 + inside_len (b ∷ rest)) refl refl (next_line words (n + 1) rest)

pub other_line : (words : List ℕ) (n : ℕ) (xs : List ℕ) → 0 < length xs → goes_on_with words xs ≡ false →
    line_with words true n xs ≡ line_with words true (n + (inside_len xs + 1)) (drop (inside_len xs + 1) xs)
other_line words n [] some other = absurd (omega arith)
other_line words n (b ∷ rest) some other =
    let a : n + (inside_len (b ∷ rest) + 1) ≡ n + 1 + inside_len (b ∷ rest) = omega arith in
    let d : inside_len (b ∷ rest) + 1 ≡ 1 + inside_len (b ∷ rest) = omega arith in
    ap (λ c. if c then Some n else line_with words (eqb b 10) (n + 1) rest) other
    ∙ behind_byte words n b rest (eqb b 10) (n + (inside_len (b ∷ rest) + 1)) (inside_len (b ∷ rest) + 1) a d (next_line words (n + 1) rest)

pub this_line : (words : List ℕ) (n : ℕ) (xs : List ℕ) → 0 < length xs → goes_on_with words xs ≡ true → line_with words true n xs ≡ Some n
this_line words n [] some here = absurd (omega arith)
this_line words n (b ∷ rest) some here = ap (λ c. if c then Some n else line_with words (eqb b 10) (n + 1) rest) here

pub no_line : (words : List ℕ) (n : ℕ) (xs : List ℕ) → length xs ≡ 0 → line_with words true n xs ≡ None
no_line words n [] none = refl
no_line words n (b ∷ rest) none = absurd (omega arith)

-- a turn of the loop over lines
module _ (words text : List ℕ) (from at : ℕ) (so_far : line_with words true from (drop from text) ≡ line_with words true at (drop at text)) (lt : at < length text) where
  pub found_here : goes_on_with words (drop at text) ≡ true → Some at ≡ line_with words true from (drop from text)
  found_here here = sym (so_far ∙ this_line words at (drop at text) (omega (arith, length-drop at text)) here)

  pub passed : goes_on_with words (drop at text) ≡ false → (len : ℕ) → len ≡ inside_len (drop at text) →
      line_with words true from (drop from text) ≡ line_with words true (at + (len + 1)) (drop (at + (len + 1)) text)
  passed other len is =
      so_far ∙ other_line words at (drop at text) (omega (arith, length-drop at text)) other
      ∙ ap (λ k. line_with words true (at + (k + 1)) (drop (k + 1) (drop at text))) (sym is)
      ∙ ap (λ xs. line_with words true (at + (len + 1)) xs) (drop-drop (len + 1) at text)

  pub nowhere : goes_on_with words (drop at text) ≡ false → (len : ℕ) → len ≡ inside_len (drop at text) → len ≡ length (drop at text) →
      None ≡ line_with words true from (drop from text)
  nowhere other len is all =
      sym (so_far ∙ other_line words at (drop at text) (omega (arith, length-drop at text)) other
      ∙ no_line words (at + (inside_len (drop at text) + 1)) (drop (inside_len (drop at text) + 1) (drop at text)) (omega (arith, length-drop (inside_len (drop at text) + 1) (drop at text))))

-- ---- names in quotes, comments

more-more : (a b : ℕ) (o : Option ℕ) → more a (more b o) ≡ more (a + b) o
more-more a b None = refl
more-more a b (Some m) = ap Some (omega arith)

module _ (text : List ℕ) (i : ℕ) (lt : i < length text) where
  front_byte : drop i text ≡ get_or text i 0 ∷ drop (i + 1) text
  front_byte = drop-cons text i 0 lt ∙ ap (λ k. get_or text i 0 ∷ drop k text) (suc_is i)
    where
      suc_is : (i : ℕ) → suc i ≡ i + 1
      suc_is i = omega arith

  pub closes_on : (quote : ℕ) (escaped later : Bool) → closing quote false text ≡ more i (closing quote escaped (drop i text)) →
      closing quote escaped (get_or text i 0 ∷ drop (i + 1) text) ≡ more 1 (closing quote later (drop (i + 1) text)) →
      closing quote false text ≡ more (i + 1) (closing quote later (drop (i + 1) text))
  closes_on quote escaped later so_far one =
      so_far ∙ ap (λ xs. more i (closing quote escaped xs)) front_byte ∙ ap (more i) one ∙ more-more i 1 (closing quote later (drop (i + 1) text))

  pub closes_here : (quote : ℕ) (escaped : Bool) (o : Option ℕ) → closing quote false text ≡ more i (closing quote escaped (drop i text)) →
      closing quote escaped (get_or text i 0 ∷ drop (i + 1) text) ≡ o → more i o ≡ closing quote false text
  closes_here quote escaped o so_far one = sym (so_far ∙ ap (λ xs. more i (closing quote escaped xs)) front_byte ∙ ap (more i) one)

  pub comments_on : (starred later : Bool) → comment_end false text ≡ more i (comment_end starred (drop i text)) →
      comment_end starred (get_or text i 0 ∷ drop (i + 1) text) ≡ more 1 (comment_end later (drop (i + 1) text)) →
      comment_end false text ≡ more (i + 1) (comment_end later (drop (i + 1) text))
  comments_on starred later so_far one =
      so_far ∙ ap (λ xs. more i (comment_end starred xs)) front_byte ∙ ap (more i) one ∙ more-more i 1 (comment_end later (drop (i + 1) text))

  pub comment_here : (starred : Bool) (o : Option ℕ) → comment_end false text ≡ more i (comment_end starred (drop i text)) →
      comment_end starred (get_or text i 0 ∷ drop (i + 1) text) ≡ o → more i o ≡ comment_end false text
  comment_here starred o so_far one = sym (so_far ∙ ap (λ xs. more i (comment_end starred xs)) front_byte ∙ ap (more i) one)

  pub unescapes_on : (escaped later : Bool) (out more_out : List ℕ) → unescaped false text ≡ out ++ unescaped escaped (drop i text) →
      unescaped escaped (get_or text i 0 ∷ drop (i + 1) text) ≡ more_out ++ unescaped later (drop (i + 1) text) →
      unescaped false text ≡ (out ++ more_out) ++ unescaped later (drop (i + 1) text)
  unescapes_on escaped later out more_out so_far one =
      so_far ∙ ap (λ xs. out ++ unescaped escaped xs) front_byte ∙ ap (λ xs. out ++ xs) one ∙ sym (append_assoc out more_out (unescaped later (drop (i + 1) text)))

-- ---- tokens

-- a cut with these tokens in front
abbrev pub prefixed : List Token → Cut → Cut
prefixed [] c = c
prefixed (t ∷ ts) c = with_token t (prefixed ts c)

pub prefixed-push : (ts : List Token) (t : Token) (c : Cut) → prefixed (ts ++ t ∷ []) c ≡ prefixed ts (with_token t c)
prefixed-push [] t c = refl
prefixed-push (x ∷ ts) t c = ap (with_token x) (prefixed-push ts t c)

pub prefixed_into : (ts us : List Token) → prefixed ts (Into us) ≡ Into (ts ++ us)
prefixed_into [] us = refl
prefixed_into (t ∷ ts) us = ap (with_token t) (prefixed_into ts us)

pub prefixed_bad : (ts : List Token) (at : ℕ) → prefixed ts (BadAt at) ≡ BadAt at
prefixed_bad [] at = refl
prefixed_bad (t ∷ ts) at = ap (with_token t) (prefixed_bad ts at)

cut_inside : (n m : ℕ) (xs : List ℕ) → m ≤ length xs → cut n m xs ≡ cut (n + m) 0 (drop m xs)
cut_inside n zero xs le = ap (λ k. cut k 0 xs) (plus_zero n)
  where
    plus_zero : (n : ℕ) → n ≡ n + zero
    plus_zero n = omega arith
cut_inside n (suc m) [] le = absurd (omega arith)
cut_inside n (suc m) (b ∷ rest) le = cut_inside (n + 1) m rest (omega arith) ∙ ap (λ k. cut k 0 (drop m rest)) (shift n m)
  where
    shift : (n m : ℕ) → n + 1 + m ≡ n + suc m
    shift n m = omega arith

pub record CutSoFar (text : List ℕ) (at : ℕ) (found : List Token) : Type 0 where
  pub within : at ≤ length text
  pub cuts : cut 0 0 text ≡ prefixed found (cut at 0 (drop at text))
  pub inside : All (IsWithin (length text)) found

pub cut_begin : (text : List ℕ) → CutSoFar text 0 []
cut_begin text = record { within = omega arith; cuts = refl; inside = All-nil (IsWithin (length text)) }

cut_of : (n b : ℕ) (rest : List ℕ) → cut n 0 (b ∷ rest) ≡ cut_front n (front_at b rest) (λ m. cut (n + 1) m rest)
cut_of n b rest = refl

module _ (text : List ℕ) (at : ℕ) (found : List Token) (so_far : CutSoFar text at found) (lt : at < length text) (seen : List ℕ) (see : seen ≡ drop at text) where
  abbrev here : ℕ
  here = get_or text at 0

  abbrev behind : List ℕ
  behind = drop (at + 1) text

  seen_is : seen ≡ here ∷ behind
  seen_is = see ∙ front_byte text at lt

  cut_here : (f : Front) → f ≡ front_of seen → cut 0 0 text ≡ prefixed found (cut_front at f (λ m. cut (at + 1) m behind))
  cut_here f is = so_far.cuts ∙ ap (λ xs. prefixed found (cut at 0 xs)) (front_byte text at lt)
      ∙ ap (λ g. prefixed found (cut_front at g (λ m. cut (at + 1) m behind))) (sym (is ∙ ap front_of seen_is))

  rest_cut : (m : ℕ) → 1 ≤ m → m ≤ length seen → cut (at + 1) (m - 1) behind ≡ cut (at + m) 0 (drop (at + m) text)
  rest_cut m some le =
      let len : length behind + 1 ≡ length seen = omega (arith, ap length seen_is) in
      let a : at + 1 + (m - 1) ≡ at + m = omega arith in
      cut_inside (at + 1) (m - 1) behind (omega arith)
      ∙ ap (λ xs. cut (at + 1 + (m - 1)) 0 xs) (drop-drop (m - 1) (at + 1) text)
      ∙ ap (λ k. cut k 0 (drop k text)) a

  seen_len : at + length seen ≡ length text
  seen_len = omega (arith, ap length see, length-drop at text)

  pub cut_gap : (m : ℕ) → front.Gap m ≡ front_of seen → FrontFits (length seen) (front.Gap m) → CutSoFar text (at + m) found
  cut_gap m is fits = record {
    within = omega (arith, seen_len, fits.1);
    cuts = cut_here (front.Gap m) is ∙ ap (prefixed found) (rest_cut m fits.0 fits.1);
    inside = so_far.inside;
  }

  pub cut_token : (k : Kind) (m : ℕ) → front.Token k m ≡ front_of seen → FrontFits (length seen) (front.Token k m) →
      CutSoFar text (at + m) (found ++ record { at = at; len = m; kind = k } ∷ [])
  cut_token k m is fits =
      let t : Token = record { at = at; len = m; kind = k } in
      record {
        within = omega (arith, seen_len, fits.2);
        cuts = cut_here (front.Token k m) is ∙ ap (λ c. prefixed found (with_token t c)) (rest_cut m fits.1 fits.2) ∙ sym (prefixed-push found t (cut (at + m) 0 (drop (at + m) text)));
        inside = All-append (IsWithin (length text)) found (t ∷ []) so_far.inside
            (All-cons (IsWithin (length text)) t [] (record { some = fits.0; inside = omega (arith, seen_len, fits.2) }) (All-nil (IsWithin (length text))));
      }

  pub cut_nothing : front.Nothing ≡ front_of seen → cut 0 0 text ≡ BadAt at
  cut_nothing is = cut_here front.Nothing is ∙ prefixed_bad found at

pub cut_done : (text : List ℕ) (at : ℕ) (found : List Token) → CutSoFar text at found → length text ≤ at → cut 0 0 text ≡ Into found
cut_done text at found so_far le =
    so_far.cuts ∙ ap (λ xs. prefixed found (cut at 0 xs)) (drop_all at text le) ∙ prefixed_into found [] ∙ ap Into (append-nil found)

-- without backslashes there is nothing to leave out
pub plain_unescaped : (xs : List ℕ) → list_any (λ y. eqb y 92) xs ≡ false → unescaped false xs ≡ xs
plain_unescaped [] none = refl
plain_unescaped (x ∷ xs) none = by (eqb x 92) none (plain_unescaped xs)
  where
    by : (c : Bool) → (c || list_any (λ y. eqb y 92) xs) ≡ false → (list_any (λ y. eqb y 92) xs ≡ false → unescaped false xs ≡ xs) →
        (if not false && c then unescaped true xs else x ∷ unescaped false xs) ≡ x ∷ xs
    by true none below = absurd cc
    by false none below = ap (λ ys. x ∷ ys) (below none)
