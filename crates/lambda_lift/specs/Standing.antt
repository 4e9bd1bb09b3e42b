-- What stands alone: the entries of a table over a signature, and lifted formulas over the signature and the table.
use Rattle.std.specs.Prelude.{◌≡◌, ◌<◌, ℕ, Bool, true, ◌&&◌, nat_lt, IsTrue, List, ◌++◌, map, length, slice_get, Some}
use Rattle.hol_terms.specs.declared.konst.Konst.{Konst}
use Rattle.hol_terms.specs.declared.konst.Konst.TheVariants as konst
use Rattle.hol_terms.specs.declared.sig.Sig.{Sig}
use Rattle.hol_terms.specs.declared.term.Term.{Term}
use Rattle.hol_terms.specs.declared.term.Term.TheOpen.{Term-F}
use Rattle.hol_terms.specs.declared.term.Term.TheFolds.{fold-Term}
use Rattle.hol_terms.specs.Types.{bool_ty}
use Rattle.hol_terms.specs.Typing.{type_of_term}
use Rattle.hol_terms.specs.Substitution.{is_closed}
use Rattle.hol_terms.specs.Formulas.{aux_free, var_free, IsSentence}
use Rattle.lambda_lift.specs.declared.table.Aux.{Aux}
use Rattle.lambda_lift.specs.Lifting.{lifted}

-- it holds of each element of the list
abbrev pub Each : {X : Type 0} → (X → Type 0) → List X → Type 0
Each P xs = (i : ℕ) (x : _) → slice_get xs i ≡ Some x → P x

-- the signature with the table's constants
abbrev pub over : Sig → List Aux → Sig
over sig table = record sig { aux = map (λ e. e.ty) table }

-- an entry's closed term has its type over the signature (so it has no loose index), no auxiliary constant and no free variable
pub record StandsAlone (sig : Sig) (e : Aux) : Type 0 where
  pub typed : type_of_term sig e.closed ≡ Some e.ty
  pub without_aux : IsTrue (aux_free e.closed)
  pub without_free : IsTrue (var_free e.closed)

-- each auxiliary constant of the term has a number below `n`
abbrev pub konst_below : ℕ → Konst → Bool
konst_below n (konst.Aux k) = nat_lt k n
konst_below n _ = true

abbrev pub below_step : ℕ → Term-F Bool → Bool
below_step n (Term-F.Bound i) = true
below_step n (Term-F.Free m a) = true
below_step n (Term-F.Con k) = konst_below n k
below_step n (Term-F.App f x) = f && x
below_step n (Term-F.Lam a b) = b

abbrev pub aux_below : ℕ → Term → Bool
aux_below n = fold-Term Bool (below_step n)

-- a formula of the signature and the table: of type bool, without loose indexes and free variables, and with the table's constants alone
pub record StandsOver (sig : Sig) (table : List Aux) (t : Term) : Type 0 where
  pub typed : type_of_term (over sig table) t ≡ Some bool_ty
  pub closed : IsTrue (is_closed t)
  pub without_free : IsTrue (var_free t)
  pub known : IsTrue (aux_below (length table) t)

-- what a lift gives stands over the table that it leaves, which has the old entries first and stands alone as the old one did
pub record Stands (sig : Sig) (table : List Aux) (t : Term) : Type 0 where
  pub more : List Aux
  pub grown : (lifted sig table t).table ≡ table ++ more
  pub entries : Each (StandsAlone sig) (lifted sig table t).table
  pub body : StandsOver sig (lifted sig table t).table (lifted sig table t).body
  pub equations : Each (StandsOver sig (lifted sig table t).table) (lifted sig table t).equations

abbrev pub LiftedStands : Sig → List Aux → Term → Type 0
LiftedStands sig table t = 0 < sig.types → Each (StandsAlone sig) table → IsSentence sig t → Stands sig table t
