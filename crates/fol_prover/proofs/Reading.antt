-- What was read of a pipe.
use Rattle.std.proofs.Common.{◌≡◌, ℕ, ◌+◌, ◌<◌, ◌≤◌, List, [], ◌∷◌, ◌++◌, length, refl, sym, ap, subst, ◌∙◌, arith, length-append}
use Rattle.std.specs.Prelude.{Option, Some, None}
use Rattle.std.proofs.lemmas.List.{append-nil, append_assoc}
use Rattle.race_outside.specs.Pipes.{Moves, IsEnded}
use Rattle.fol_prover.specs.Replies.{WereLeft, IsLong, most_bytes}

-- nothing was moved yet
pub none_moved : (left : Option (List ℕ)) → Moves [] left left
none_moved (Some bytes) = refl
none_moved None = tt

-- one piece more was moved
pub more_moved : (bytes piece : List ℕ) (first before now : Option (List ℕ)) → Moves bytes first before → Moves piece before now → Moves (bytes ++ piece) first now
more_moved bytes piece (Some a) (Some b) (Some c) h g = h ∙ ap (λ l. bytes ++ l) g ∙ sym (append_assoc bytes piece c)
more_moved bytes piece (Some a) (Some b) None h g = g
more_moved bytes piece (Some a) None now h g = absurd h
more_moved bytes piece None (Some b) now h g = absurd h
more_moved bytes piece None None (Some c) h g = g
more_moved bytes piece None None None h g = tt

-- all was moved
pub all_moved : (bytes : List ℕ) (first before : Option (List ℕ)) → Moves bytes first before → IsEnded before → WereLeft first bytes
all_moved bytes (Some a) (Some b) h ended = sym (h ∙ ap (λ l. bytes ++ l) ended ∙ append-nil bytes)
all_moved bytes (Some a) None h ended = absurd h
all_moved bytes None before h ended = tt

-- too many were moved
pub long_moved : (bytes : List ℕ) (first before : Option (List ℕ)) → Moves bytes first before → most_bytes < length bytes → IsLong first
long_moved bytes (Some a) (Some b) h long = let e = ap length h ∙ length-append bytes b in omega arith
long_moved bytes (Some a) None h long = absurd h
long_moved bytes None before h long = tt
