-- Texts with a sign between each two.
use Rattle.std.proofs.Common.{◌≡◌, ℕ, zero, suc, ◌+◌, ◌<◌, ◌==◌, Bool, true, false, List, [], ◌∷◌, ◌++◌, length, map, take, get_or, refl, sym, ap, ◌∙◌, arith, append_assoc}
use Rattle.std.specs.Prelude.{if◌then◌else◌}
use Rattle.std.specs.List.{flat_map}
use Rattle.std.proofs.lemmas.Grind.{flat_map-append}
use Rattle.std.proofs.lemmas.Bool.Decides.{nat_tests}
use Rattle.std.proofs.lemmas.List.{append-nil, take_more, map-append, length-map, length-take-le}
use Rattle.tstp_print.specs.Terms.{separated}

-- one text more
pub separated_more : (sign t : List ℕ) (ts : List (List ℕ)) → separated sign (ts ++ t ∷ []) ≡ separated sign ts ++ (if length ts == 0 then [] else sign) ++ t
separated_more sign t [] = append-nil t
separated_more sign t (u ∷ us) =
    ap (λ l. u ++ l) (flat_map-append (λ v. sign ++ v) us (t ∷ []) ∙ ap (λ l. flat_map (λ v. sign ++ v) us ++ l) (append-nil (sign ++ t))) ∙
    sym (append_assoc u (flat_map (λ v. sign ++ v) us) (sign ++ t)) ∙ sym (append_assoc (u ++ flat_map (λ v. sign ++ v) us) sign t) ∙
    (let some : (length (u ∷ us) == 0) ≡ false = grind (arith, nat_tests) in ap (λ b. separated sign (u ∷ us) ++ (if b then [] else sign) ++ t) (sym some))

-- the text of one item more, behind the others
module _ {X : Type 0} (sign : List ℕ) (text : X → List ℕ) (xs : List X) where
  pub one_more : (i : ℕ) (x : X) (start out between new : List ℕ) → i < length xs → x ≡ get_or xs i x → out ≡ start ++ separated sign (map text (take i xs)) →
      between ≡ out ++ (if i == 0 then [] else sign) → new ≡ between ++ text x → new ≡ start ++ separated sign (map text (take (i + 1) xs))
  one_more i x start out between new within is h g f =
      let front : take (i + 1) xs ≡ take i xs ++ x ∷ [] = take_more xs i x within ∙ ap (λ y. take i xs ++ y ∷ []) (sym is) in
      let texts : map text (take (i + 1) xs) ≡ map text (take i xs) ++ text x ∷ [] = ap (map text) front ∙ map-append text (take i xs) (x ∷ []) in
      let count : length (map text (take i xs)) ≡ i = length-map (take i xs) text ∙ length-take-le i xs (omega arith) in
      let whole : separated sign (map text (take (i + 1) xs)) ≡ separated sign (map text (take i xs)) ++ (if i == 0 then [] else sign) ++ text x =
      ap (separated sign) texts ∙ separated_more sign (text x) (map text (take i xs)) ∙ ap (λ n. separated sign (map text (take i xs)) ++ (if n == 0 then [] else sign) ++ text x) count in
      let so_far : List ℕ = separated sign (map text (take i xs)) in
      let sep : List ℕ = if i == 0 then [] else sign in
      f ∙ ap (λ l. l ++ text x) (g ∙ ap (λ l. l ++ sep) h ∙ append_assoc start so_far sep) ∙ append_assoc start (so_far ++ sep) (text x) ∙ ap (λ l. start ++ l) (sym whole)

-- three pieces, one behind another
pub three : (out a b c first second third : List ℕ) → first ≡ out ++ a → second ≡ first ++ b → third ≡ second ++ c → third ≡ out ++ (a ++ b ++ c)
three out a b c first second third f g h =
    h ∙ ap (λ l. l ++ c) (g ∙ ap (λ l. l ++ b) f ∙ append_assoc out a b) ∙ append_assoc out (a ++ b) c
