-- Lists of keys, and what they are keys of.
use Rattle.std.proofs.Common.{◌≡◌, ℕ, Bool, false, cond, nat_eq, nat_lt, List, [], ◌∷◌, ◌++◌, map, length, sym, ap, ◌∙◌, if◌then◌else◌}
use Rattle.std.specs.Prelude.{Some, None, position}
use Rattle.std.specs.List.{list_any, position_or_len}
use Rattle.std.specs.Cmp.Lexicographic.{pointwise}
use Rattle.std.proofs.lemmas.List.{length-map, map-append}
use Rattle.indexmap.specs.IndexSet.{insert_key}
use Rattle.lambda_lift.proofs.Looking.{any_map, place_map, first_any, got_none}

pub position_map : {X Y : Type 0} (f : X → Y) (p : Y → Bool) (xs : List X) → position p (map f xs) ≡ position (λ x. p (f x)) xs
position_map f p xs = (λ i. cond (nat_lt (place_map f p xs i) (length-map xs f i)) (Some (place_map f p xs i)) None)

pub none_passes : {X : Type 0} (p : X → Bool) (xs : List X) → position p xs ≡ None → list_any p xs ≡ false
none_passes p xs h = sym (first_any p xs) ∙ got_none (nat_lt (position_or_len p xs) (length xs)) (position_or_len p xs) h

pub key_added : {K : Type 0} (items : K → List ℕ) (ks : List K) (k : K) → position (pointwise nat_eq (items k)) (map items ks) ≡ None →
    map items (insert_key (λ x y. pointwise nat_eq (items x) (items y)) ks k) ≡ map items ks ++ items k ∷ []
key_added items ks k h =
    ap (λ b. map items (if b then ks else ks ++ k ∷ [])) (sym (any_map items (pointwise nat_eq (items k)) ks) ∙ none_passes (pointwise nat_eq (items k)) (map items ks) h) ∙ map-append items ks (k ∷ [])
