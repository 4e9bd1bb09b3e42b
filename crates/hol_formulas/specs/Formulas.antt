-- A term read as a formula: by its connectives and quantifiers, down to its atoms.
use Rattle.std.specs.Prelude.{if◌then◌else◌}
use Rattle.hol_terms.specs.declared.ty.Ty.{Ty}
use Rattle.hol_terms.specs.declared.konst.Konst.{Konst}
use Rattle.hol_terms.specs.declared.konst.Konst.TheVariants as konst
use Rattle.hol_terms.specs.declared.term.Term.{Term, roll-Term}
use Rattle.hol_terms.specs.declared.term.Term.TheOpen.{Term-F}
use Rattle.hol_terms.specs.declared.term.Term.TheFolds.{fold-Term}
use Rattle.hol_terms.specs.Types.{is_ty, bool_ty}
use Rattle.hol_formulas.specs.declared.formula.Junction.TheVariants as junctions
use Rattle.hol_formulas.specs.declared.formula.Quantifier.{Quantifier}
use Rattle.hol_formulas.specs.declared.formula.Quantifier.TheVariants as quantifiers
use Rattle.hol_formulas.specs.declared.formula.Formula.{Formula, roll-Formula}
use Rattle.hol_formulas.specs.declared.formula.Formula.TheOpen.{Formula-F}
use Rattle.hol_formulas.specs.declared.reading.Head.{Head}
use Rattle.hol_formulas.specs.declared.reading.Head.TheVariants.{Plain, Negation, Junction as Joining, Half, Quantifier as Quantifying, Abstraction}
use Rattle.hol_formulas.specs.declared.reading.Reading.{Reading}

abbrev pub atom : Term → Formula
atom t = roll-Formula (Formula-F.Atom t)

abbrev pub konst_head : Konst → Head
konst_head konst.Not = Negation
konst_head konst.And = Joining junctions.And
konst_head konst.Or = Joining junctions.Or
konst_head konst.Imp = Joining junctions.Imp
konst_head (konst.Eq a) = if is_ty a bool_ty then Joining junctions.Iff else Plain
konst_head (konst.All a) = Quantifying quantifiers.All a
konst_head (konst.Ex a) = Quantifying quantifiers.Ex a
konst_head _ = Plain

abbrev pub konst_formula : Konst → Formula
konst_formula konst.True = roll-Formula Formula-F.True
konst_formula konst.False = roll-Formula Formula-F.False
konst_formula k = atom (roll-Term (Term-F.Con k))

-- a quantifier on a lambda of its own type; on another term it makes an atom
abbrev pub quantified : Quantifier → Ty → Head → Term → Formula
quantified q a (Abstraction b t f) own = if is_ty a b then roll-Formula (Formula-F.Quantified q b t f) else atom own
quantified q a _ own = atom own

abbrev pub app_formula : Head → Reading → Term → Formula
app_formula Negation x own = roll-Formula (Formula-F.Not x.formula)
app_formula (Half j left) x own = roll-Formula (Formula-F.Two j left x.formula)
app_formula (Quantifying q a) x own = quantified q a x.head own
app_formula _ x own = atom own

abbrev pub app_head : Head → Reading → Head
app_head (Joining j) x = Half j x.formula
app_head _ x = Plain

abbrev pub app_reading : Reading → Reading → Reading
app_reading f x =
    let own = roll-Term (Term-F.App f.own x.own) in
    record { own = own; formula = app_formula f.head x own; head = app_head f.head x }

abbrev pub lam_reading : Ty → Reading → Reading
lam_reading a b =
    let own = roll-Term (Term-F.Lam a b.own) in
    record { own = own; formula = atom own; head = Abstraction a b.own b.formula }

abbrev pub simple : Term → Reading
simple t = record { own = t; formula = atom t; head = Plain }

abbrev pub read_step : Term-F Reading → Reading
read_step (Term-F.Bound i) = simple (roll-Term (Term-F.Bound i))
read_step (Term-F.Free n a) = simple (roll-Term (Term-F.Free n a))
read_step (Term-F.Con k) = record { own = roll-Term (Term-F.Con k); formula = konst_formula k; head = konst_head k }
read_step (Term-F.App f x) = app_reading f x
read_step (Term-F.Lam a b) = lam_reading a b

abbrev pub reading : Term → Reading
reading = fold-Term Reading read_step

-- the term as a formula
abbrev pub formula_of : Term → Formula
formula_of t = (reading t).formula
