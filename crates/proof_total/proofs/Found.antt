-- Finding by words: what is found has the word, and what has the word is found.
use Rattle.std.proofs.Common.{◌≡◌, ◌⊎◌, inl, inr, ℕ, if◌then◌else◌, Bool, true, false, List, [], ◌∷◌, ◌++◌, map, Option, Some, None, refl, ap, ◌∙◌}
use Rattle.std.specs.Str.{bytes_eq}
use Rattle.proof_words.specs.Sharing.{IsOneOf}
use Rattle.proof_syntax.proofs.Numbers.{eq_true, eq_same}
use Rattle.proof_syntax.specs.Forms.{Plain, plain_word, Typed, typed_word}
use Rattle.proof_syntax.specs.Machine.{Rule, rule_in, plain_in, typed_in}

module _ (A : Type 0) (word : A → List ℕ) where
  abbrev pub found : List ℕ → List A → Option A
  found w [] = None
  found w (k ∷ ks) = if bytes_eq w (word k) then Some k else found w ks

  -- ---- what is found has the word

  has_word : (w : List ℕ) (k c : A) (o : Option A) (b : Bool) → bytes_eq w (word k) ≡ b → (o ≡ Some c → w ≡ word c) → (if b then Some k else o) ≡ Some c → w ≡ word c
  has_word w k c o true e more h = let same : k ≡ c = cc in eq_same w (word k) e ∙ ap word same
  has_word w k c o false e more h = more h

  pub found_word : (w : List ℕ) (ks : List A) (c : A) → found w ks ≡ Some c → w ≡ word c
  found_word w [] c h = cc
  found_word w (k ∷ ks) c h = has_word w k c (found w ks) (bytes_eq w (word k)) refl (found_word w ks c) h

  one_more : (w : List ℕ) (k c : A) (ks : List A) (o : Option A) (b : Bool) → bytes_eq w (word k) ≡ b → (o ≡ Some c → IsOneOf (map word ks) w) → (if b then Some k else o) ≡ Some c →
      IsOneOf (map word (k ∷ ks)) w
  one_more w k c ks o true e more h = inl (eq_same w (word k) e)
  one_more w k c ks o false e more h = inr (more h)

  pub found_one : (w : List ℕ) (ks : List A) (c : A) → found w ks ≡ Some c → IsOneOf (map word ks) w
  found_one w [] c h = cc
  found_one w (k ∷ ks) c h = one_more w k c ks (found w ks) (bytes_eq w (word k)) refl (found_one w ks c) h

  -- ---- what has the word is found

  abbrev Finds : Option A → Type 0
  Finds o = (c : A) × (o ≡ Some c)

  finds : (w : List ℕ) (k : A) (o : Option A) (b : Bool) → bytes_eq w (word k) ≡ b → (w ≡ word k) ⊎ Finds o → Finds (if b then Some k else o)
  finds w k o true e h = (k, refl)
  finds w k o false e (inl is) = let other = eq_true w (word k) is in cc
  finds w k o false e (inr more) = more

  pub one_found : (w : List ℕ) (ks : List A) → IsOneOf (map word ks) w → (c : A) × (found w ks ≡ Some c)
  one_found w [] h = absurd h
  one_found w (k ∷ ks) h = finds w k (found w ks) (bytes_eq w (word k)) refl (elim h [ inl is ↦ inl is | inr more ↦ inr (one_found w ks more) ])

-- ---- the words of rules and of constants

pub plain_is : (w : List ℕ) (ks : List Plain) → plain_in w ks ≡ found Plain plain_word w ks
plain_is w [] = refl
plain_is w (k ∷ ks) = ap (λ o. if bytes_eq w (plain_word k) then Some k else o) (plain_is w ks)

pub typed_is : (w : List ℕ) (ks : List Typed) → typed_in w ks ≡ found Typed typed_word w ks
typed_is w [] = refl
typed_is w (k ∷ ks) = ap (λ o. if bytes_eq w (typed_word k) then Some k else o) (typed_is w ks)

abbrev pub rule_word : Rule → List ℕ
rule_word r = r.word

pub rule_is : (w : List ℕ) (rs : List Rule) → rule_in w rs ≡ found Rule rule_word w rs
rule_is w [] = refl
rule_is w (r ∷ rs) = ap (λ o. if bytes_eq w r.word then Some r else o) (rule_is w rs)

-- ---- one of two lists of words

pub either : (ws vs : List (List ℕ)) (w : List ℕ) → IsOneOf (ws ++ vs) w → IsOneOf ws w ⊎ IsOneOf vs w
either [] vs w h = inr h
either (u ∷ ws) vs w (inl is) = inl (inl is)
either (u ∷ ws) vs w (inr more) = elim (either ws vs w more) [ inl a ↦ inl (inr a) | inr b ↦ inr b ]

pub left_one : (ws vs : List (List ℕ)) (w : List ℕ) → IsOneOf ws w → IsOneOf (ws ++ vs) w
left_one [] vs w h = absurd h
left_one (u ∷ ws) vs w (inl is) = inl is
left_one (u ∷ ws) vs w (inr more) = inr (left_one ws vs w more)

pub right_one : (ws vs : List (List ℕ)) (w : List ℕ) → IsOneOf vs w → IsOneOf (ws ++ vs) w
right_one [] vs w h = h
right_one (u ∷ ws) vs w h = inr (right_one ws vs w h)
