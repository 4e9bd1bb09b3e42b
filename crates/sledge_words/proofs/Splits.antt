-- Parts of words, one word after another.
use Rattle.std.proofs.Common.{◌≡◌, ℕ, ◌+◌, ◌<◌, Global, Bool, true, false, List, [], ◌∷◌, ◌++◌, map, drop, length, get_or, refl, sym, ap, subst, ◌∙◌, arith}
use Rattle.std.specs.Prelude.{String, ◌≤◌, ◌==◌, if◌then◌else◌, codes, Option, Some, None, is_some, string_bytes}
use Rattle.std.specs.Option.{option_map}
use Rattle.std.specs.List.{list_any, position_or_len, before_first, after_first}
use Rattle.std.specs.Str.{bytes_eq}
use Rattle.sledge_words.specs.Options.{flag_of}
use Rattle.std.proofs.lemmas.List.{append-nil, drop_more, drop_all}
use Rattle.std.proofs.lemmas.Grind.{common_steps}
use Rattle.std.proofs.lemmas.Bool.Decides.{nat_tests}
use Rattle.sledge_words.specs.Pieces.{is_plain, Said, Argument, Ends, said, opened, joined, Parts, Standing, Before, Due, Behind, nothing, ended, parts_from}
use Rattle.sledge_words.specs.inner.Split.{behind}

pub behind_nothing : (o : Option Parts) → behind nothing o ≡ o
behind_nothing None = refl
behind_nothing (Some p) = refl

pub behind_end : (p : Parts) → behind p (Some nothing) ≡ Some p
behind_end p = let a = append-nil p.places in let b = append-nil p.given in λ i. Some (record { places = a i; given = b i })

pub ends : (s : Standing) → is_some (ended s) ≡ true → ended s ≡ Some nothing
ends Before h = refl
ends (Due f) h = cc
ends Behind h = refl

pub ends_not : (s : Standing) → is_some (ended s) ≡ false → ended s ≡ None
ends_not Before h = cc
ends_not (Due f) h = refl
ends_not Behind h = cc

-- a list in which nothing passes
module _ {X : Type 0} (p : X → Bool) where
  step : (x : X) (xs : List X) (b : Bool) → p x ≡ b → position_or_len p (x ∷ xs) ≡ length (x ∷ xs) → (position_or_len p xs ≡ length xs → list_any p xs ≡ false) → list_any p (x ∷ xs) ≡ false
  step x xs true e h rest = absurd (let none : position_or_len p (x ∷ xs) ≡ 0 = rw e refl in omega arith)
  step x xs false e h rest =
      let more : position_or_len p (x ∷ xs) ≡ position_or_len p xs + 1 = grind (arith, common_steps, nat_tests) in
      let less : position_or_len p xs ≡ length xs = omega arith in rw e (rest less)

  pub none_passes : (xs : List X) → position_or_len p xs ≡ length xs → list_any p xs ≡ false
  none_passes [] h = refl
  none_passes (x ∷ xs) h = step x xs (p x) refl h (none_passes xs)

-- ---- one word after another

module _ (words : List (String Global)) (i : ℕ) (x : (String Global)) (w : List ℕ) (old : Parts) (s : Standing) (k : ℕ) (all : Option Parts) (within : i < length words) (is : x ≡ get_or words i x)
    (said : w ≡ string_bytes x) (so_far : behind old (parts_from (map string_bytes (drop i words)) k s) ≡ all) where
  cut : behind old (parts_from (w ∷ map string_bytes (drop (i + 1) words)) k s) ≡ all
  cut =
      ap (λ v. behind old (parts_from (v ∷ map string_bytes (drop (i + 1) words)) k s)) said ∙
      ap (λ l. behind old (parts_from (map string_bytes l) k s)) (sym (drop_more words i x within ∙ ap (λ y. y ∷ drop (i + 1) words) (sym is))) ∙ so_far

  pub goes_on : (new : Parts) (t : Standing) → ((ws : List (List ℕ)) → behind old (parts_from (w ∷ ws) k s) ≡ behind new (parts_from ws (k + 1) t)) →
      behind new (parts_from (map string_bytes (drop (i + 1) words)) (k + 1) t) ≡ all
  goes_on new t reads = sym (reads (map string_bytes (drop (i + 1) words))) ∙ cut

  pub is_refused : ((ws : List (List ℕ)) → parts_from (w ∷ ws) k s ≡ None) → None ≡ all
  is_refused reads = sym (ap (behind old) (reads (map string_bytes (drop (i + 1) words)))) ∙ cut

-- the words are all read
pub at_end : (words : List (String Global)) (i : ℕ) (old : Parts) (s : Standing) (k : ℕ) (all : Option Parts) → length words ≤ i → behind old (parts_from (map string_bytes (drop i words)) k s) ≡ all →
    behind old (ended s) ≡ all
at_end words i old s k all past h = sym (ap (λ l. behind old (parts_from (map string_bytes l) k s)) (drop_all i words past)) ∙ h

-- ---- a word that begins with `-`, isn't `--` and has no `=`

pub said_option : (w : List ℕ) → is_plain w ≡ false → bytes_eq w (codes "--") ≡ false → list_any (λ b. b == 61) w ≡ false → said w ≡ opened (flag_of w)
said_option w plain ends none =
    let valued : Said = joined (flag_of (before_first (λ b. b == 61) w)) (after_first (λ b. b == 61) w) in
    let bare : Said = opened (flag_of w) in
    ap (λ v. if v then Argument else (if bytes_eq w (codes "--") then Ends else (if list_any (λ b. b == 61) w then valued else bare))) plain ∙
    ap (λ v. if v then Ends else (if list_any (λ b. b == 61) w then valued else bare)) ends ∙
    ap (λ v. if v then valued else bare) none
