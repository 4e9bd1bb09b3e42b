-- The outermost form of a formula, and how it is lifted.
use Rattle.std.specs.Prelude.{ℕ, ◌+◌, ◌<◌, max, List}
use Rattle.hol_terms.specs.declared.konst.Konst.{Konst}
use Rattle.hol_terms.specs.declared.konst.Konst.TheVariants as konst
use Rattle.hol_terms.specs.declared.sig.Sig.{Sig}
use Rattle.hol_terms.specs.declared.term.Term.{Term, roll-Term}
use Rattle.hol_terms.specs.declared.term.Term.TheOpen.{Term-F}
use Rattle.hol_terms.specs.declared.term.Term.TheFolds.{fold-Term}
use Rattle.lambda_lift.specs.declared.table.Aux.{Aux}
use Rattle.lambda_lift.specs.declared.view.View.{View}
use Rattle.lambda_lift.specs.declared.view.View.TheVariants as view
use Rattle.lambda_lift.specs.declared.view.Sign.{Sign}
use Rattle.lambda_lift.specs.declared.view.Sign.TheVariants as sign
use Rattle.lambda_lift.specs.Walks.{Stage, Walked, Walk, one, both, scope, apply, with_two, reading, Head, plain, negation, junction, quantifier}

-- how a formula of this form is lifted, where it is lifted so as an atom
abbrev pub seen : Sig → Walk → View → Walk
seen sig atom (view.Negation a) = one (apply (roll-Term (Term-F.Con konst.Not))) (reading sig a.now).formula
seen sig atom (view.Junction k a b) = both (with_two k.now) (reading sig a.now).formula (reading sig b.now).formula
seen sig atom (view.Quantifier k a b) = scope k.now a.now (reading sig b.now).formula
seen sig atom view.Atom = atom

-- what a constant of this sign is at the head of an application
abbrev pub sign_head : Sign → Konst → Head
sign_head sign.Negation k = negation
sign_head sign.Junction k = junction k
sign_head sign.Quantifier k = quantifier k
sign_head sign.Plain k = plain

-- the height of a term's tree
abbrev pub height_step : Term-F ℕ → ℕ
height_step (Term-F.Bound i) = 1
height_step (Term-F.Free n a) = 1
height_step (Term-F.Con k) = 1
height_step (Term-F.App f x) = 1 + max f x
height_step (Term-F.Lam a b) = 1 + b

abbrev pub height : Term → ℕ
height = fold-Term ℕ height_step

-- the terms in a view are less high
abbrev pub Below : View → ℕ → Type 0
Below (view.Negation a) n = height a.now < n
Below (view.Junction k a b) n = (height a.now < n) × (height b.now < n)
Below (view.Quantifier k a b) n = height b.now < n
Below view.Atom n = Unit {0}

-- a walk that ends with this term, over this table and these numbers
abbrev pub stage : List Aux → List ℕ → Stage
stage table met = record { table = table; met = met }

abbrev pub ends : Term → List Aux → List ℕ → Walked
ends t table met = record { term = t; after = stage table met }
