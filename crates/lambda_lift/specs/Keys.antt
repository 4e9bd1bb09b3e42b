-- Terms as lists of numbers, by which they are looked up: no two terms have one list.
use Rattle.std.specs.Prelude.{ℕ, Bool, nat_eq, List, [], ◌∷◌, ◌++◌}
use Rattle.std.specs.Cmp.Lexicographic.{pointwise}
use Rattle.hol_terms.specs.declared.ty.Ty.{Ty}
use Rattle.hol_terms.specs.declared.ty.Ty.TheOpen.{Ty-F}
use Rattle.hol_terms.specs.declared.ty.Ty.TheFolds.{fold-Ty}
use Rattle.hol_terms.specs.declared.konst.Konst.{Konst}
use Rattle.hol_terms.specs.declared.konst.Konst.TheVariants as konst
use Rattle.hol_terms.specs.declared.term.Term.{Term}
use Rattle.hol_terms.specs.declared.term.Term.TheOpen.{Term-F}
use Rattle.hol_terms.specs.declared.term.Term.TheFolds.{fold-Term}
use Rattle.hol_terms.specs.Types.{bool_ty}

abbrev pub ty_key_step : Ty-F (List ℕ) → List ℕ
ty_key_step (Ty-F.Base a) = 0 ∷ a ∷ []
ty_key_step (Ty-F.Arrow a b) = 1 ∷ a ++ b

abbrev pub ty_key : Ty → List ℕ
ty_key = fold-Ty (List ℕ) ty_key_step

-- a constant by its kind, its number and its type, which are 0 and bool where it has none
abbrev pub kind_of : Konst → ℕ
kind_of (konst.Named n) = 0
kind_of (konst.Aux n) = 1
kind_of konst.True = 2
kind_of konst.False = 3
kind_of konst.Not = 4
kind_of konst.And = 5
kind_of konst.Or = 6
kind_of konst.Imp = 7
kind_of (konst.Eq a) = 8
kind_of (konst.All a) = 9
kind_of (konst.Ex a) = 10
kind_of (konst.Eps a) = 11

abbrev pub number_of : Konst → ℕ
number_of (konst.Named n) = n
number_of (konst.Aux n) = n
number_of _ = 0

abbrev pub type_of : Konst → Ty
type_of (konst.Eq a) = a
type_of (konst.All a) = a
type_of (konst.Ex a) = a
type_of (konst.Eps a) = a
type_of _ = bool_ty

abbrev pub key_step : Term-F (List ℕ) → List ℕ
key_step (Term-F.Bound i) = 0 ∷ i ∷ []
key_step (Term-F.Free n a) = 1 ∷ n ∷ ty_key a
key_step (Term-F.Con k) = 2 ∷ kind_of k ∷ number_of k ∷ ty_key (type_of k)
key_step (Term-F.App f x) = 3 ∷ f ++ x
key_step (Term-F.Lam a b) = 4 ∷ ty_key a ++ b

abbrev pub key : Term → List ℕ
key = fold-Term (List ℕ) key_step

-- the same term, as a test
unfoldable pub is_same : Term → Term → Bool
is_same s t = pointwise nat_eq (key s) (key t)
