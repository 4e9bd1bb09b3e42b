-- The outermost form of a term, and the shape that it gives.
use Rattle.std.specs.Prelude.{ℕ, ◌<◌, nat_le, Bool, ◌&&◌, Option, Some, None, is_some}
use Rattle.std.specs.Option.{option_map}
use Rattle.hol_terms.specs.declared.konst.Konst.{Konst}
use Rattle.hol_terms.specs.declared.konst.Konst.TheVariants as konst
use Rattle.theory_syntax.specs.declared.tokens.Quant.{Quant}
use Rattle.theory_syntax.specs.declared.tokens.Quant.TheVariants as quant
use Rattle.theory_syntax.specs.declared.tree.Op.TheVariants as op
use Rattle.hol_terms.specs.declared.term.Term.{Term}
use Rattle.theory_terms.specs.Meanings.{depth}
use Rattle.theory_print.specs.declared.view.View.{View}
use Rattle.theory_print.specs.declared.view.View.TheVariants as view
use Rattle.theory_print.specs.declared.view.Sign.{Sign}
use Rattle.theory_print.specs.declared.view.Sign.TheVariants as sign
use Rattle.theory_print.specs.Shapes.{Shape, Variable, Constant, Truth, Apply, Equals, Not, Join, Bind, Part, Whole, quantified, part_of}

-- the shape, where the part is whole
abbrev pub whole : Part → Option Shape
whole (Whole p) = Some p
whole _ = None

-- some text has the term: it can be written, and its tree is no deeper than any that is read
abbrev pub has_text : Term → Bool
has_text t = nat_le (depth t) 1024 && is_some (whole (part_of t))

-- a shape of two, where both parts are whole
abbrev pub both_whole : (Shape → Shape → Shape) → Part → Part → Option Shape
both_whole make (Whole p) (Whole q) = Some (make p q)
both_whole make _ _ = None

-- a quantifier on a part, where that is a whole lambda
abbrev pub bind_whole : Quant → Part → Option Shape
bind_whole q (Whole p) = whole (quantified q p)
bind_whole q _ = None

abbrev pub seen : View → Option Shape
seen (view.Variable i) = Some (Variable i)
seen (view.Constant c) = Some (Constant c)
seen (view.Truth b) = Some (Truth b)
seen (view.Apply f x) = both_whole Apply (part_of f.now) (part_of x.now)
seen (view.Equals a b) = both_whole Equals (part_of a.now) (part_of b.now)
seen (view.Not a) = option_map Not (whole (part_of a.now))
seen (view.Join o a b) = both_whole (Join o) (part_of a.now) (part_of b.now)
seen (view.Bind q a b) = option_map (Bind q a.now) (whole (part_of b.now))
seen view.Unwritten = None

-- the terms in a view are less deep
abbrev pub Below : View → ℕ → Type 0
Below (view.Apply f x) n = (depth f.now < n) × (depth x.now < n)
Below (view.Equals a b) n = (depth a.now < n) × (depth b.now < n)
Below (view.Not a) n = depth a.now < n
Below (view.Join o a b) n = (depth a.now < n) × (depth b.now < n)
Below (view.Bind q a b) n = depth b.now < n
Below _ n = Unit {0}

abbrev pub sign_of : Konst → Sign
sign_of (konst.Named c) = sign.Alone
sign_of (konst.Aux c) = sign.Unwritten
sign_of konst.True = sign.Alone
sign_of konst.False = sign.Alone
sign_of konst.Not = sign.Negation
sign_of konst.And = sign.Operator op.And
sign_of konst.Or = sign.Operator op.Or
sign_of konst.Imp = sign.Operator op.Imp
sign_of (konst.Eq a) = sign.Equality
sign_of (konst.All a) = sign.Quantifier quant.All
sign_of (konst.Ex a) = sign.Quantifier quant.Ex
sign_of (konst.Eps a) = sign.Quantifier quant.Eps
