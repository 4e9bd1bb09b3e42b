-- What a literal is, told by its sign and kind.
use Rattle.std.specs.Prelude.{◌≡◌, Bool, Option, Some, None}
use Rattle.std.specs.Borrow.{Bor}
use Rattle.fo_terms.specs.declared.term.FoTerm.{FoTerm}
use Rattle.fo_terms.specs.declared.atom.Atom.TheVariants.{Holds, Eq}
use Rattle.fo_terms.specs.declared.literal.Literal.{Literal}

-- the literal says of a term, with this sign, that it holds
abbrev pub HeldAs : Literal → Bool → Option (Bor FoTerm) → Type 0
HeldAs l positive None = (t : FoTerm) → l ≡ record { positive = positive; atom = Holds t } → ⊥
HeldAs l positive (Some t) = l ≡ record { positive = positive; atom = Holds t.now }

-- the literal is an equation of this sign
abbrev pub SidesAs : Literal → Bool → Option (Bor FoTerm × Bor FoTerm) → Type 0
SidesAs l positive None = (s t : FoTerm) → l ≡ record { positive = positive; atom = Eq s t } → ⊥
SidesAs l positive (Some e) = l ≡ record { positive = positive; atom = Eq e.0.now e.1.now }
