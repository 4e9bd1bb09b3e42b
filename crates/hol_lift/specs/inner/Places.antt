-- Places in what tagged atoms stand for.
use Rattle.std.specs.Prelude.{ℕ, zero, suc, List, [], ◌∷◌}
use Rattle.fo_terms.specs.declared.atom.Atom.{Atom}
use Rattle.fo_terms.specs.declared.atom.Atom.TheVariants.{Holds, Eq}

-- 0 goes to the function of an application, each other number to its argument
abbrev pub direction : ℕ → ℕ
direction zero = 0
direction (suc d) = 1

-- the path to a side of an atom's formula
abbrev pub side_path : Atom → ℕ → List ℕ
side_path (Holds t) side = []
side_path (Eq s t) zero = 0 ∷ 1 ∷ []
side_path (Eq s t) (suc side) = 1 ∷ []
