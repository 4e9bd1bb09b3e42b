-- Signs that are looked up by their keys.
use Rattle.std.proofs.Common.{◌≡◌, ℕ, nat_eq, nat_lt, List, [], ◌∷◌, ◌++◌, map, length, sym, ap, ◌∙◌, if◌then◌else◌}
use Rattle.std.specs.Prelude.{Some, None, position}
use Rattle.std.specs.List.{position_or_len}
use Rattle.std.specs.Cmp.Lexicographic.{pointwise}
use Rattle.indexmap.specs.IndexSet.{insert_key}
use Rattle.lambda_lift.proofs.Looking.{first_any, past_all, got}
use Rattle.lambda_lift.proofs.KeySets.{position_map, none_passes}
use Rattle.fol_encode.specs.declared.sign.Sign.{Sign}
use Rattle.fol_encode.specs.Signs.{sign_key, is_sign, number_of}

-- a key is at the place of its sign
pub positions : (signs : List Sign) (keys : List (List ℕ)) (s : Sign) (k : List ℕ) → keys ≡ map sign_key signs → k ≡ sign_key s → position (pointwise nat_eq k) keys ≡ position (is_sign s) signs
positions signs keys s k agree of = (λ i. position (pointwise nat_eq (of i)) (agree i)) ∙ position_map sign_key (pointwise nat_eq (sign_key s)) signs

pub found : (signs : List Sign) (s : Sign) (n : ℕ) → position (is_sign s) signs ≡ Some n → (n ≡ number_of signs s) × (signs ≡ insert_key is_sign signs s)
found signs s n h =
    let both = got (nat_lt (position_or_len (is_sign s) signs) (length signs)) (position_or_len (is_sign s) signs) n h in
    (sym both.1, sym (ap (λ b. if b then signs else signs ++ s ∷ []) (sym (first_any (is_sign s) signs) ∙ both.0)))

pub fresh : (signs : List Sign) (s : Sign) → position (is_sign s) signs ≡ None → (length signs ≡ number_of signs s) × (signs ++ s ∷ [] ≡ insert_key is_sign signs s)
fresh signs s h =
    let none = none_passes (is_sign s) signs h in (sym (past_all (is_sign s) signs none), sym (ap (λ b. if b then signs else signs ++ s ∷ []) none))
