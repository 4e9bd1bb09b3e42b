use Rattle.std.proofs.Common.{◌≡◌, Bool, true, false, ◌∙◌, refl, sym, ap, ◌&&◌}
use Rattle.std.specs.Prelude.{not}
use mathlib.Core.Bool.{beq}
use Rattle.fo_terms.specs.Same.{is_sign, is_atom}
use Rattle.fo_terms.proofs.literal.Literal.opposes.Goals as goal

signs : (p q : Bool) → beq p q ≡ false → is_sign (not p) q ≡ true
signs true true h = cc
signs true false h = refl
signs false true h = refl
signs false false h = cc

pub returns : goal.returns
returns c = c.agree_atoms.ensures ∙ sym (ap (λ b. b && is_atom c.args.self.now.atom c.args.other.now.atom) (signs c.args.self.now.positive c.args.other.now.positive c.if-self-other.false))
