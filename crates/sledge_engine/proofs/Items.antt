-- Items of lists that are mapped, and values that are there.
use Rattle.std.proofs.Common.{ℕ, zero, suc, ◌≡◌, ◌<◌, ◌∙◌, nat_lt, true, List, [], ◌∷◌, length, get_or, map, Some, None, slice_get, refl, sym, ap, subst, arith}
use Rattle.std.specs.Prelude.{Option, is_some}
use Rattle.std.proofs.lemmas.Bool.Decides.{nat_tests}
use Rattle.std.proofs.lemmas.List.{get_or-map, length-map}

pub has : {X : Type 0} (o : Option X) (x : X) → o ≡ Some x → is_some o ≡ true
has None x e = absurd cc
has (Some y) x e = refl

pub get_map : {X Y : Type 0} (f : X → Y) (xs : List X) (k : ℕ) (x : X) → slice_get xs k ≡ Some x → slice_get (map f xs) k ≡ Some (f x)
get_map f [] k x e = absurd cc
get_map f (y ∷ ys) zero x e = cc e
get_map f (y ∷ ys) (suc k) x e = get_map f ys k x e

-- an item of a list that is mapped twice
pub get_both : {X Y Z : Type 0} (f : X → Y) (g : Y → Z) (xs : List X) (n : ℕ) (x : X) (z : Z) → n < length xs → get_or (map g (map f xs)) n z ≡ g (f (get_or xs n x))
get_both f g xs n x z lt =
    get_or-map g (map f xs) n (f x) z (subst (λ k. n < k) (sym (length-map xs f)) lt) ∙ ap g (get_or-map f xs n x (f x) lt)

pub from_test : (m n : ℕ) → true ≡ nat_lt m n → m < n
from_test m n e = grind (arith, nat_tests)
