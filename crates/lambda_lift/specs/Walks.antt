-- The walk that lifts the lambdas out of a formula.
use Rattle.std.specs.Prelude.{ℕ, nat_eq, if◌then◌else◌, List, ◌∷◌, length}
use Rattle.indexmap.specs.IndexSet.{insert_key}
use Rattle.hol_terms.specs.declared.ty.Ty.{Ty}
use Rattle.hol_terms.specs.declared.konst.Konst.{Konst}
use Rattle.hol_terms.specs.declared.konst.Konst.TheVariants as konst
use Rattle.hol_terms.specs.declared.sig.Sig.{Sig}
use Rattle.hol_terms.specs.declared.term.Term.{Term, roll-Term}
use Rattle.hol_terms.specs.declared.term.Term.TheOpen.{Term-F}
use Rattle.hol_terms.specs.declared.term.Term.TheFolds.{fold-Term}
use Rattle.hol_terms.specs.Types.{is_ty, bool_ty}
use Rattle.lambda_lift.specs.declared.table.Aux.{Aux}
use Rattle.lambda_lift.specs.Tables.{place, with_entry, own_ty}
use Rattle.lambda_lift.specs.Closing.{closed_over, occurs_in, variables, applied_to}

-- the table so far, and the numbers that the formula has met, each once, in the order of their first meeting
pub record Stage : Type 0 where
  pub table : List Aux
  pub met : List ℕ

-- what a walk makes of a term, and the stage behind it
pub record Walked : Type 0 where
  pub term : Term
  pub after : Stage

-- from the types of the quantifiers around the term, the innermost first, and the stage before it
abbrev pub Walk : Type 0
Walk = List Ty → Stage → Walked

-- a term that stays
abbrev pub stays : Term → Walk
stays t binders s = record { term = t; after = s }

-- one term made of what two walks make, the left one first
abbrev pub both : (Term → Term → Term) → Walk → Walk → Walk
both make f x binders s =
    let left = f binders s in
    let right = x binders left.after in
    record { term = make left.term right.term; after = right.after }

abbrev pub one : (Term → Term) → Walk → Walk
one make x binders s = let inner = x binders s in record { term = make inner.term; after = inner.after }

-- a lambda becomes the auxiliary constant of its closed term, applied to the variables that occur in it
abbrev pub met_closed : Sig → Term → List ℕ → Term → Stage → Walked
met_closed sig closed occurring lambda s =
    let k = place s.table closed in
    record {
      term = applied_to (roll-Term (Term-F.Con (konst.Aux k))) occurring;
      after = record { table = with_entry s.table (own_ty sig closed) closed; met = insert_key nat_eq s.met k };
    }

abbrev pub lifted_out : Sig → Term → Walk
lifted_out sig t binders s = met_closed sig (closed_over binders t) (variables (occurs_in t) (length binders)) t s

abbrev pub apply : Term → Term → Term
apply f x = roll-Term (Term-F.App f x)

abbrev pub with_two : Konst → Term → Term → Term
with_two k a b = apply (apply (roll-Term (Term-F.Con k)) a) b

-- a quantifier on a lambda, whose body is a formula under one binder more
abbrev pub scope : Konst → Ty → Walk → Walk
scope k a body binders s =
    let inner = body (a ∷ binders) s in
    record { term = apply (roll-Term (Term-F.Con k)) (roll-Term (Term-F.Lam a inner.term)); after = inner.after }

-- what a term is at the head of an application
pub data Head : Type 0 where
  plain : Head
  negation : Head
  junction : Konst → Head
  half : Konst → Walk → Head
  quantifier : Konst → Head
  abstraction : Ty → Walk → Head

abbrev pub konst_head : Konst → Head
konst_head konst.Not = negation
konst_head konst.And = junction konst.And
konst_head konst.Or = junction konst.Or
konst_head konst.Imp = junction konst.Imp
konst_head (konst.Eq a) = if is_ty a bool_ty then junction (konst.Eq a) else plain
konst_head (konst.All a) = quantifier (konst.All a)
konst_head (konst.Ex a) = quantifier (konst.Ex a)
konst_head _ = plain

-- a term, and how it is lifted where it is an atom or a part of one, and where it is a formula
pub record Reading : Type 0 where
  pub own : Term
  pub atom : Walk
  pub formula : Walk
  pub head : Head

abbrev pub quantified : Konst → Head → Walk → Walk
quantified k (abstraction a body) atom = scope k a body
quantified k _ atom = atom

-- an application as a formula, from the head of its function, its argument and itself as an atom
abbrev pub app_formula : Head → Reading → Walk → Walk
app_formula negation x atom = one (apply (roll-Term (Term-F.Con konst.Not))) x.formula
app_formula (half k left) x atom = both (with_two k) left x.formula
app_formula (quantifier k) x atom = quantified k x.head atom
app_formula _ x atom = atom

abbrev pub app_head : Head → Walk → Head
app_head (junction k) left = half k left
app_head _ left = plain

abbrev pub whole : Term → Head → Reading
whole t head = record { own = t; atom = stays t; formula = stays t; head = head }

abbrev pub app_reading : Reading → Reading → Reading
app_reading f x =
    record {
      own = apply f.own x.own;
      atom = both apply f.atom x.atom;
      formula = app_formula f.head x (both apply f.atom x.atom);
      head = app_head f.head x.formula;
    }

abbrev pub lam_reading : Sig → Ty → Reading → Reading
lam_reading sig a b =
    let own = roll-Term (Term-F.Lam a b.own) in
    record { own = own; atom = lifted_out sig own; formula = lifted_out sig own; head = abstraction a b.formula }

abbrev pub read_step : Sig → Term-F Reading → Reading
read_step sig (Term-F.Bound i) = whole (roll-Term (Term-F.Bound i)) plain
read_step sig (Term-F.Free n a) = whole (roll-Term (Term-F.Free n a)) plain
read_step sig (Term-F.Con k) = whole (roll-Term (Term-F.Con k)) (konst_head k)
read_step sig (Term-F.App f x) = app_reading f x
read_step sig (Term-F.Lam a b) = lam_reading sig a b

unfoldable pub reading : Sig → Term → Reading
reading sig = fold-Term Reading (read_step sig)
