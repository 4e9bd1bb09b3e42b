-- Lists of keys, and what they are keys of.
use Rattle.std.proofs.Common.{◌≡◌, ℕ, Bool, true, false, nat_eq, List, [], ◌∷◌, ◌++◌, map, refl, sym, ap, ◌∙◌, if◌then◌else◌, arith}
use Rattle.std.specs.List.{list_any, position_or_len}
use Rattle.std.specs.Cmp.Lexicographic.{pointwise}
use Rattle.std.proofs.lemmas.Grind.{common_steps}
use Rattle.std.proofs.lemmas.List.{map-append}
use Rattle.indexmap.specs.IndexSet.{insert_key}
use Rattle.tptp_syntax.specs.Tokens.{with_word}

module _ {X Y : Type 0} (f : X → Y) (p : Y → Bool) where
  pub any_map : (xs : List X) → list_any p (map f xs) ≡ list_any (λ x. p (f x)) xs
  any_map [] = refl
  any_map (x ∷ xs) = let rest = any_map xs in grind (arith, common_steps)

  pub place_map : (xs : List X) → position_or_len p (map f xs) ≡ position_or_len (λ x. p (f x)) xs
  place_map [] = refl
  place_map (x ∷ xs) = let rest = place_map xs in grind (arith, common_steps)

pub key_added : {K : Type 0} (items : K → List ℕ) (ks : List K) (k : K) → map items (insert_key (λ x y. pointwise nat_eq (items x) (items y)) ks k) ≡ with_word (map items ks) (items k)
key_added items ks k = by (list_any (λ x. pointwise nat_eq (items k) (items x)) ks) ∙ ap (λ b. if b then map items ks else map items ks ++ items k ∷ []) (sym (any_map items (pointwise nat_eq (items k)) ks))
  where
    by : (b : Bool) → map items (if b then ks else ks ++ k ∷ []) ≡ (if b then map items ks else map items ks ++ items k ∷ [])
    by true = refl
    by false = map-append items ks (k ∷ [])
