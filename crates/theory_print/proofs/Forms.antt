-- An application is no lambda.
use Rattle.std.proofs.Common.{◌≡◌, refl, ap, ◌∙◌}
use Rattle.std.specs.Prelude.{None}
use Rattle.hol_terms.specs.declared.konst.Konst.{Konst}
use Rattle.hol_terms.specs.declared.konst.Konst.TheVariants as konst
use Rattle.hol_terms.specs.declared.term.Term.{Term}
use Rattle.hol_terms.specs.declared.term.Term as views
use Rattle.hol_terms.specs.declared.term.Term.TheVariants as term
use Rattle.theory_syntax.specs.declared.tokens.Quant.{Quant}
use Rattle.theory_syntax.specs.declared.tokens.Quant.TheVariants as quant
use Rattle.theory_print.specs.Shapes.{Shape, Bind, Part, Whole, Sign, Left, LeftEqual, Unwritten, quantified, signed, applied, part_of}
use Rattle.theory_print.specs.Views.{bind_whole}
use Rattle.theory_print.proofs.Equations.{part_app}

bind_all : (q : Quant) (s : Shape) → bind_whole q (quantified quant.All s) ≡ None
bind_all q (Bind quant.Lambda a b) = refl
bind_all q _ = refl

bind_ex : (q : Quant) (s : Shape) → bind_whole q (quantified quant.Ex s) ≡ None
bind_ex q (Bind quant.Lambda a b) = refl
bind_ex q _ = refl

bind_eps : (q : Quant) (s : Shape) → bind_whole q (quantified quant.Eps s) ≡ None
bind_eps q (Bind quant.Lambda a b) = refl
bind_eps q _ = refl

bind_signed : (q : Quant) (k : Konst) (s : Shape) → bind_whole q (signed k s) ≡ None
bind_signed q konst.Not s = refl
bind_signed q konst.And s = refl
bind_signed q konst.Or s = refl
bind_signed q konst.Imp s = refl
bind_signed q (konst.Eq a) s = refl
bind_signed q (konst.All a) s = bind_all q s
bind_signed q (konst.Ex a) s = bind_ex q s
bind_signed q (konst.Eps a) s = bind_eps q s
bind_signed q _ s = refl

-- an application is no lambda
pub bind_applied : (q : Quant) (f x : Part) → bind_whole q (applied f x) ≡ None
bind_applied q (Whole f) (Whole x) = refl
bind_applied q (Sign k) (Whole x) = bind_signed q k x
bind_applied q (Left o a) (Whole x) = refl
bind_applied q (LeftEqual a) (Whole x) = refl
bind_applied q Unwritten (Whole x) = refl
bind_applied q f _ = refl

pub bind_application : (q : Quant) (f x : Term) → bind_whole q (part_of (term.App f x)) ≡ None
unfolding views.roll-Term denote.Hole.Carrier.roll
bind_application q f x = ap (bind_whole q) (part_app f x) ∙ bind_applied q (part_of f) (part_of x)
