-- How a part starts, and what stands behind its first token.
use Rattle.std.specs.Prelude.{◌≡◌, List, ◌∷◌}
use Rattle.theory_syntax.specs.declared.tokens.Tok.{Tok}
use Rattle.theory_syntax.specs.declared.tokens.Tok.TheVariants as tok
use Rattle.theory_syntax.specs.declared.front.Operand.{Operand}
use Rattle.theory_syntax.specs.declared.front.Operand.TheVariants as operand
use Rattle.theory_syntax.specs.declared.front.AtomFront.{AtomFront}
use Rattle.theory_syntax.specs.declared.front.AtomFront.TheVariants as single
use Rattle.theory_syntax.specs.declared.front.TypeFront.{TypeFront}
use Rattle.theory_syntax.specs.declared.front.TypeFront.TheVariants as type_front
use Rattle.theory_syntax.specs.declared.front.ItemFront.{ItemFront}
use Rattle.theory_syntax.specs.declared.front.ItemFront.TheVariants as item_front
use Rattle.theory_syntax.specs.declared.front.Heading.{Heading}
use Rattle.theory_syntax.specs.declared.front.Heading.TheVariants as heading
use Rattle.theory_syntax.specs.Machine as machine
use Rattle.theory_syntax.specs.inner.Parts.{NoOperand, NoAtom, NoType, NoItem}

abbrev pub IsOperand : List Tok → Operand → Type 0
IsOperand ts (operand.Word x rest) = ts ≡ tok.Word x ∷ rest.now
IsOperand ts (operand.Truth b n rest) = ts ≡ tok.Truth b n ∷ rest.now
IsOperand ts (operand.Open n rest) = ts ≡ tok.Open n ∷ rest.now
IsOperand ts (operand.Tilde n rest) = ts ≡ tok.Tilde n ∷ rest.now
IsOperand ts (operand.Quant q n rest) = ts ≡ tok.Quant q n ∷ rest.now
IsOperand ts operand.Other = NoOperand ts

abbrev pub IsAtomFront : List Tok → AtomFront → Type 0
IsAtomFront ts (single.Word x rest) = ts ≡ tok.Word x ∷ rest.now
IsAtomFront ts (single.Truth b n rest) = ts ≡ tok.Truth b n ∷ rest.now
IsAtomFront ts (single.Open n rest) = ts ≡ tok.Open n ∷ rest.now
IsAtomFront ts single.Other = NoAtom ts

abbrev pub IsTypeFront : List Tok → TypeFront → Type 0
IsTypeFront ts (type_front.Word x rest) = ts ≡ tok.Word x ∷ rest.now
IsTypeFront ts (type_front.Bool rest) = ts ≡ tok.Bool ∷ rest.now
IsTypeFront ts (type_front.Open n rest) = ts ≡ tok.Open n ∷ rest.now
IsTypeFront ts type_front.Other = NoType ts

abbrev pub opening : Heading → Tok
opening heading.Const = tok.Const
opening heading.Fact = tok.Fact
opening heading.Goal = tok.Goal

abbrev pub IsItemFront : List Tok → ItemFront → Type 0
IsItemFront ts (item_front.Type rest) = ts ≡ tok.Type ∷ rest.now
IsItemFront ts (item_front.Stated h rest) = ts ≡ opening h ∷ rest.now
IsItemFront ts item_front.Other = NoItem ts

-- the declaration of the walk that has this heading
abbrev pub stated : Heading → machine.Stated
stated heading.Const = machine.Const
stated heading.Fact = machine.Fact
stated heading.Goal = machine.Goal
