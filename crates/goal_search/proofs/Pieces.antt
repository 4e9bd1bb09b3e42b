-- Clauses listed fact by fact.
use Rattle.std.proofs.Common.{◌≡◌, ◌∙◌, ℕ, ◌+◌, ◌<◌, Bool, true, false, IsTrue, List, [], ◌∷◌, ◌++◌, take, get_or, length, sym, ap, subst}
use Rattle.std.specs.Prelude.{All, Some, slice_get, unwrap_or, Result, Ok, Err}
use Rattle.std.specs.Option.{option_map_or}
use Rattle.std.specs.List.{flat_map, list_all}
use Rattle.std.proofs.lemmas.List.{take_more}
use Rattle.std.proofs.lemmas.List.Sums.{AllPass-from_list_all}
use Rattle.std.proofs.lemmas.Option.{slice_get_within, get_or_from_slice_get}
use Rattle.std.proofs.lemmas.List.Elements.{All-push}
use Rattle.std.proofs.lemmas.Grind.{flat_map-append}
use Rattle.std.proofs.lemmas.List.{append-nil}
use Rattle.hol_terms.specs.declared.env.Env.{Env}
use Rattle.hol_terms.specs.declared.term.Term.{Term}
use Rattle.kernel_rules.specs.Connectives.{verum}
use Rattle.hol_kernel.specs.Logs.{fact_at}
use Rattle.formula_clauses.specs.declared.fault.ClauseFault.{ClauseFault}
use Rattle.formula_clauses.specs.declared.fault.ClauseFault.TheVariants.{TooLarge, NoMemory}
use Rattle.formula_clauses.specs.Fits.{fits}
use Rattle.goal_search.specs.Fitting.{MadeIf, fits_at}

-- one more piece
pub pieces_more : {X Y : Type 0} (f : X → List Y) (xs : List X) (i : ℕ) (x : X) → i < length xs → x ≡ get_or xs i x → flat_map f (take (i + 1) xs) ≡ flat_map f (take i xs) ++ f x
pieces_more f xs i x lt is =
    ap (flat_map f) (take_more xs i x lt ∙ ap (λ y. take i xs ++ y ∷ []) (sym is)) ∙ flat_map-append f (take i xs) (x ∷ []) ∙ ap (λ l. flat_map f (take i xs) ++ l) (append-nil (f x))

-- one more fact fits
pub all_more : (P : ℕ → Type 0) (xs : List ℕ) (i : ℕ) → i < length xs → All P (take i xs) → P (get_or xs i 0) → All P (take (i + 1) xs)
all_more P xs i lt all here = subst (All P) (sym (take_more xs i 0 lt)) (All-push P (take i xs) (get_or xs i 0) all here)

-- what is made where it can be made, said in other words
pub made_map : {X : Type 0} (F G : Type 0) (P : X → Type 0) (r : Result X ClauseFault) → (F → G) → (G → F) → (Q : X → Type 0) → ((x : X) → P x → Q x) → MadeIf F P r → MadeIf G Q r
made_map F G P (Ok x) f g Q h m = (f m.0, h x m.1)
made_map F G P (Err TooLarge) f g Q h m = λ k. m (g k)
made_map F G P (Err NoMemory) f g Q h m = tt

pub passes : {X : Type 0} (p : X → Bool) (xs : List X) (n : ℕ) (x : X) → IsTrue (list_all p xs) → slice_get xs n ≡ Some x → IsTrue (p x)
passes p xs n x all is =
    subst (λ y. IsTrue (p y)) (get_or_from_slice_get xs n x x is) (AllPass-from_list_all p xs all n x (slice_get_within xs n x is))

-- a fact of the environment
module _ (env : Env) (n : ℕ) (t : Term) (at : slice_get env.facts n ≡ Some t) where
  pub fact_is : fact_at env n ≡ t
  unfolding fact_at
  fact_is = ap (λ o. unwrap_or o verum) at

  pub fits_is : fits_at env n ≡ fits env.sig t false
  fits_is = ap (λ o. option_map_or (λ u. fits env.sig u false) o false) at
