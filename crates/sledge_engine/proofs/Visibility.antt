-- Names of the words looked at so far.
use Rattle.std.proofs.Common.{ℕ, zero, suc, ◌≡◌, ◌∙◌, ◌+◌, ◌<◌, false, List, [], ◌∷◌, ◌++◌, length, take, drop, map, get_or, ap, sym, subst, arith}
use Rattle.std.specs.List.{All}
use Rattle.std.proofs.lemmas.List.{take_more, drop_more, take-append-drop, map-append}
use Rattle.std.proofs.lemmas.List.Elements.{All-append}
use Rattle.sledge_engine.specs.Choice.{AllNamed, IsFirstOther, is_named}

one : {X : Type 0} (P : X → Type 0) (x : X) → P x → All P (x ∷ [])
one P x p zero d k = p
one P x p (suc i) d k = absurd (omega (arith, k))

-- one more word has the property
pub all_more : {X Y : Type 0} (f : X → Y) (P : Y → Type 0) (ws : List X) (i : ℕ) (d : X) → i < length ws → All P (map f (take i ws)) → P (f (get_or ws i d)) →
    All P (map f (take (i + 1) ws))
all_more f P ws i d lt all p =
    subst (λ ts. All P (map f ts)) (sym (take_more ws i d lt))
    (subst (All P) (sym (map-append f (take i ws) (get_or ws i d ∷ [])))
    (All-append P (map f (take i ws)) (f (get_or ws i d) ∷ []) all (one P (f (get_or ws i d)) p)))

-- the words are those before a place, the one there, and the rest
split_words : {X Y : Type 0} (f : X → Y) (ws : List X) (i : ℕ) (d : X) → i < length ws →
    map f ws ≡ map f (take i ws) ++ f (get_or ws i d) ∷ map f (drop (i + 1) ws)
split_words f ws i d lt =
    ap (map f) (sym (take-append-drop i ws)) ∙ map-append f (take i ws) (drop i ws) ∙ ap (λ ts. map f (take i ws) ++ map f ts) (drop_more ws i d lt)

pub first_other_at : {X : Type 0} (f : X → List ℕ) (there : List (List ℕ)) (ws : List X) (i : ℕ) (d : X) → i < length ws →
    AllNamed there (map f (take i ws)) → is_named there (f (get_or ws i d)) ≡ false → IsFirstOther there (map f ws) (f (get_or ws i d))
first_other_at f there ws i d lt all other =
    record { before = map f (take i ws); rest = map f (drop (i + 1) ws); is = split_words f ws i d lt; named = all; other = other }
