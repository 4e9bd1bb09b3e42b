-- Types that are looked up by their keys.
use Rattle.std.proofs.Common.{◌≡◌, ℕ, nat_eq, nat_lt, List, [], ◌∷◌, ◌++◌, map, length, sym, ap, ◌∙◌, if◌then◌else◌}
use Rattle.std.specs.Prelude.{Some, None, position}
use Rattle.std.specs.List.{position_or_len}
use Rattle.std.specs.Cmp.Lexicographic.{pointwise}
use Rattle.hol_terms.specs.declared.ty.Ty.{Ty}
use Rattle.hol_terms.specs.Types.{is_ty}
use Rattle.lambda_lift.specs.Keys.{ty_key}
use Rattle.lambda_lift.proofs.Looking.{first_any, past_all, got}
use Rattle.lambda_lift.proofs.KeySets.{position_map, none_passes}
use Rattle.lambda_lift.proofs.KeysApart.{same_ty_key}
use Rattle.tptp_print.specs.Numbers.{number_in, with_type}

-- a key is at the place of its type
pub positions : (types now : List Ty) (keys : List (List ℕ)) (a : Ty) (k : List ℕ) → types ≡ now → keys ≡ map ty_key types → k ≡ ty_key a → position (pointwise nat_eq k) keys ≡ position (is_ty a) now
positions types now keys a k is agree of =
    (λ i. position (pointwise nat_eq (of i)) (agree i)) ∙ position_map ty_key (pointwise nat_eq (ty_key a)) types ∙ (λ i. position (λ b. same_ty_key a b i) (is i))

pub found : (types : List Ty) (a : Ty) (k : ℕ) → position (is_ty a) types ≡ Some k → (k ≡ number_in types a) × (types ≡ with_type types a)
found types a k h =
    let both = got (nat_lt (position_or_len (is_ty a) types) (length types)) (position_or_len (is_ty a) types) k h in
    (sym both.1, sym (ap (λ b. if b then types else types ++ a ∷ []) (sym (first_any (is_ty a) types) ∙ both.0)))

pub fresh : (types : List Ty) (a : Ty) → position (is_ty a) types ≡ None → (length types ≡ number_in types a) × (types ++ a ∷ [] ≡ with_type types a)
fresh types a h =
    let none = none_passes (is_ty a) types h in (sym (past_all (is_ty a) types none), sym (ap (λ b. if b then types else types ++ a ∷ []) none))
