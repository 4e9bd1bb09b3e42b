-- What a term is written as: its signs with their sides, its binders with their bodies.
use Rattle.std.specs.Prelude.{ℕ, Bool, true, false}
use Rattle.hol_terms.specs.declared.ty.Ty.{Ty}
use Rattle.hol_terms.specs.declared.konst.Konst.{Konst}
use Rattle.hol_terms.specs.declared.konst.Konst.TheVariants as konst
use Rattle.hol_terms.specs.declared.term.Term.{Term}
use Rattle.hol_terms.specs.declared.term.Term.TheOpen.{Term-F}
use Rattle.hol_terms.specs.declared.term.Term.TheFolds.{fold-Term}
use Rattle.theory_syntax.specs.declared.tokens.Quant.{Quant}
use Rattle.theory_syntax.specs.declared.tokens.Quant.TheVariants as quant
use Rattle.theory_syntax.specs.declared.tree.Op.{Op}
use Rattle.theory_syntax.specs.declared.tree.Op.TheVariants as op

-- a variable is by its index, a constant by its number
pub data Shape : Type 0 where
  Variable : ℕ → Shape
  Constant : ℕ → Shape
  Truth : Bool → Shape
  Apply : Shape → Shape → Shape
  Equals : Shape → Shape → Shape
  Not : Shape → Shape
  Join : Op → Shape → Shape → Shape
  Bind : Quant → Ty → Shape → Shape

-- a term that can be written, or what lacks a side of it
pub data Part : Type 0 where
  Whole : Shape → Part
  Sign : Konst → Part
  Left : Op → Shape → Part
  LeftEqual : Shape → Part
  Unwritten : Part

abbrev pub constant_part : Konst → Part
constant_part (konst.Named k) = Whole (Constant k)
constant_part (konst.Aux k) = Unwritten
constant_part konst.True = Whole (Truth true)
constant_part konst.False = Whole (Truth false)
constant_part k = Sign k

-- a quantifier stands on a lambda
abbrev pub quantified : Quant → Shape → Part
quantified q (Bind quant.Lambda a b) = Whole (Bind q a b)
quantified q _ = Unwritten

-- a sign with its first side
abbrev pub signed : Konst → Shape → Part
signed konst.Not x = Whole (Not x)
signed konst.And x = Left op.And x
signed konst.Or x = Left op.Or x
signed konst.Imp x = Left op.Imp x
signed (konst.Eq a) x = LeftEqual x
signed (konst.All a) x = quantified quant.All x
signed (konst.Ex a) x = quantified quant.Ex x
signed (konst.Eps a) x = quantified quant.Eps x
signed _ x = Unwritten

abbrev pub put_to : Part → Shape → Part
put_to (Whole f) x = Whole (Apply f x)
put_to (Sign k) x = signed k x
put_to (Left o a) x = Whole (Join o a x)
put_to (LeftEqual a) x = Whole (Equals a x)
put_to Unwritten x = Unwritten

abbrev pub applied : Part → Part → Part
applied f (Whole x) = put_to f x
applied f _ = Unwritten

abbrev pub under : Ty → Part → Part
under a (Whole b) = Whole (Bind quant.Lambda a b)
under a _ = Unwritten

abbrev pub part_step : Term-F Part → Part
part_step (Term-F.Bound i) = Whole (Variable i)
part_step (Term-F.Free n a) = Unwritten
part_step (Term-F.Con k) = constant_part k
part_step (Term-F.App f x) = applied f x
part_step (Term-F.Lam a b) = under a b

-- what a term is written as; a sign without its sides, a quantifier on no lambda, a free variable and an auxiliary constant
-- are written in no text
abbrev pub part_of : Term → Part
part_of = fold-Term Part part_step
