-- The literals that a row of cells stands for.
use Rattle.std.specs.Prelude.{◌≡◌, ℕ, ◌+◌, Bool, true, false, if◌then◌else◌, List, [], ◌∷◌, length, take, drop, map}
use Rattle.fo_cells.specs.declared.cell.Cell.{Cell}
use Rattle.fo_cells.specs.declared.cell.Cell.TheVariants.{Var, Fun}
use Rattle.fo_cells.specs.declared.place.Place.{Place}
use Rattle.fo_terms.specs.declared.term.FoTerm.{FoTerm}
use Rattle.fo_terms.specs.declared.atom.Atom.{Atom}
use Rattle.fo_terms.specs.declared.atom.Atom.TheVariants.{Holds, Eq}
use Rattle.fo_terms.specs.declared.literal.Literal.{Literal}
use Rattle.fo_terms.specs.Substitution.{var, fun}
use Rattle.fo_terms.specs.Normal.{place_of}
use Rattle.fo_cells.specs.Cells.{joined, is_equation, atom_cells}

-- the terms of a row of cells, read from its end: a symbol takes as many of the terms behind it as it has arguments
abbrev pub cell_terms : Cell → List FoTerm → List FoTerm
cell_terms (Var x) ts = var x ∷ ts
cell_terms (Fun n size f) ts = fun f (take n ts) ∷ drop n ts

abbrev pub terms_of : List Cell → List FoTerm
terms_of [] = []
terms_of (c ∷ cs) = cell_terms c (terms_of cs)

-- an atom takes one term, an equation two
abbrev pub atom_from : Bool → List FoTerm → Atom
atom_from true (s ∷ t ∷ ts) = Eq s t
atom_from true (s ∷ []) = Holds s
atom_from true [] = Holds (var 0)
atom_from false (t ∷ ts) = Holds t
atom_from false [] = Holds (var 0)

abbrev pub literals_from : List Place → List FoTerm → List Literal
literals_from [] ts = []
literals_from (p ∷ ps) ts =
    record { positive = p.positive; atom = atom_from p.equation ts } ∷ literals_from ps (drop (if p.equation then 2 else 1) ts)

abbrev pub literals_of : List Cell → List Place → List Literal
literals_of cells places = literals_from places (terms_of cells)

-- the cells of literals in a row
abbrev pub all_cells : List Literal → List Cell
all_cells ls = joined (map (λ l. atom_cells l.atom) ls)

-- where they stand, from a place on
abbrev pub places_from : ℕ → List Literal → List Place
places_from n [] = []
places_from n (l ∷ ls) =
    record { positive = l.positive; equation = is_equation l.atom; start = n; end = n + length (atom_cells l.atom) }
    ∷ places_from (n + length (atom_cells l.atom)) ls

-- cells and places of these literals
pub record AreOf (cells : List Cell) (places : List Place) (ls : List Literal) : Type 0 where
  pub cells_are : cells ≡ all_cells ls
  pub places_are : places ≡ places_from 0 ls

-- cells and places of some literals
abbrev pub AreWhole : List Cell → List Place → Type 0
AreWhole cells places = AreOf cells places (literals_of cells places)

-- the literal has this sign and these cells, and is an equation or not
pub record IsMadeOf (l : Literal) (positive equation : Bool) (cells : List Cell) : Type 0 where
  pub sign : l.positive ≡ positive
  pub kind : is_equation l.atom ≡ equation
  pub cells_are : atom_cells l.atom ≡ cells

-- the variables of cells in reading order
abbrev pub cell_variables : List Cell → List ℕ
cell_variables [] = []
cell_variables (Var x ∷ cs) = x ∷ cell_variables cs
cell_variables (Fun n size f ∷ cs) = cell_variables cs

-- the cell with each variable changed into its place
abbrev pub cell_numbered : List ℕ → Cell → Cell
cell_numbered noted (Var x) = Var (place_of x noted)
cell_numbered noted (Fun n size f) = Fun n size f

-- how many cells the first cell's term takes
abbrev pub first_len : List Cell → ℕ
first_len [] = 0
first_len (Var x ∷ cs) = 1
first_len (Fun n size f ∷ cs) = size
