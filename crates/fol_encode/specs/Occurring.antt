-- The signs that the encoding of a term has.
use Rattle.std.specs.Prelude.{List, [], ◌∷◌, ◌++◌}
use Rattle.std.specs.List.{flat_map}
use Rattle.hol_terms.specs.declared.ty.Ty.{Ty, out-Ty}
use Rattle.hol_terms.specs.declared.konst.Konst.{Konst}
use Rattle.hol_terms.specs.declared.sig.Sig.{Sig}
use Rattle.hol_terms.specs.declared.konst.Konst.TheVariants as konst
use Rattle.hol_terms.specs.declared.term.Term.{Term, roll-Term}
use Rattle.hol_terms.specs.declared.term.Term.TheOpen.{Term-F}
use Rattle.hol_terms.specs.declared.term.Term.TheFolds.{fold-Term}
use Rattle.hol_terms.specs.Types.{function_ty}
use Rattle.lambda_lift.specs.declared.table.Aux.{Aux}
use Rattle.lambda_lift.specs.Closing.{ty_at}
use Rattle.lambda_lift.specs.Equations.{result_at}
use Rattle.lambda_lift.specs.Lifting.{entry_at}
use Rattle.lambda_lift.specs.Tables.{own_ty}
use Rattle.fol_encode.specs.declared.sign.Sign.{Sign}
use Rattle.fol_encode.specs.declared.sign.Sign.TheVariants as sign
use Rattle.fol_encode.specs.Signs.{in_order, once}

-- the type of a constant over the signature and the table; bool where there is no such constant
abbrev pub konst_ty : Sig → List Aux → Konst → Ty
konst_ty sig table (konst.Aux k) = (entry_at table k).ty
konst_ty sig table k = own_ty sig (roll-Term (Term-F.Con k))

-- a term's type, and the signs below its tag
pub record Parts : Type 0 where
  pub ty : Ty
  pub signs : List Sign

-- with the tag
abbrev pub all_signs : Parts → List Sign
all_signs p = p.signs ++ sign.Tag p.ty ∷ []

abbrev pub parts_step : Sig → List Aux → Term-F (List Ty → Parts) → List Ty → Parts
parts_step sig table (Term-F.Bound i) c = record { ty = ty_at c i; signs = [] }
parts_step sig table (Term-F.Free n a) c = record { ty = a; signs = [] }
parts_step sig table (Term-F.Con k) c = record { ty = konst_ty sig table k; signs = sign.Constant k (konst_ty sig table k) ∷ [] }
parts_step sig table (Term-F.App f x) c =
    record { ty = result_at (f c).ty (out-Ty (f c).ty); signs = (all_signs (f c) ++ all_signs (x c)) ++ sign.Apply ∷ [] }
parts_step sig table (Term-F.Lam a b) c = record { ty = function_ty a (b (a ∷ c)).ty; signs = all_signs (b (a ∷ c)) }

abbrev pub parts : Sig → List Aux → Term → List Ty → Parts
parts sig table = fold-Term (List Ty → Parts) (parts_step sig table)

abbrev pub occurring : Sig → List Aux → Term → List Sign
occurring sig table t = all_signs (parts sig table t [])

-- the signs of terms over the signature and the table, each once, in their order
abbrev pub signs_for : Sig → List Aux → List Term → List Sign
signs_for sig table terms = once [] (in_order [] (flat_map (occurring sig table) terms))
