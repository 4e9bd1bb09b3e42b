-- What the marks of a clause are.
use Rattle.std.specs.Prelude.{◌≡◌, ℕ, Bool, true, false, List, [], ◌∷◌, if◌then◌else◌, Some, slice_get}
use Rattle.std.specs.List.{flat_map, Contains}
use Rattle.fo_terms.specs.declared.term.FoTerm.{FoTerm}
use Rattle.fo_terms.specs.declared.atom.Atom.{Atom}
use Rattle.fo_terms.specs.declared.atom.Atom.TheVariants.{Holds, Eq}
use Rattle.fo_terms.specs.declared.literal.Literal.{Literal}
use Rattle.fo_terms.specs.declared.clause.Clause.{Clause}
use Rattle.fo_infer.specs.Paths.{at_path}
use Rattle.pair_marks.specs.declared.marks.Marks.{Marks}
use Rattle.pair_marks.specs.declared.pairs.PairMarks.{PairMarks}
use Rattle.pair_marks.specs.Tops.{term_top, is_position}
use Rattle.pair_marks.specs.Sets.{need, offer, AllShare, Within}

abbrev pub held_needs : Atom → List Marks
held_needs (Holds s) = need (term_top s) ∷ []
held_needs (Eq a b) = []

abbrev pub equation_needs : Atom → List Marks
equation_needs (Holds s) = []
equation_needs (Eq a b) = need (term_top a) ∷ need (term_top b) ∷ []

-- what the term of a positive literal needs, where it is no equation
abbrev pub positive_needs : Literal → List Marks
positive_needs l = if l.positive then held_needs l.atom else []

-- what the sides of a positive equation need
abbrev pub side_needs : Literal → List Marks
side_needs l = if l.positive then equation_needs l.atom else []

-- what each position in the term offers is among the marks
abbrev pub HasParts : Bool → Marks → FoTerm → Type 0
HasParts plain m t = (path : List ℕ) (u : FoTerm) → at_path path t ≡ Some u → is_position plain (term_top u) ≡ true → Within (offer (term_top u)) m

abbrev pub HasAtomParts : Bool → Marks → Atom → Type 0
HasAtomParts plain m (Holds t) = HasParts plain m t
HasAtomParts plain m (Eq s t) = HasParts plain m s × HasParts plain m t

abbrev pub HasHeld : Marks → Atom → Type 0
HasHeld m (Holds t) = Within (offer (term_top t)) m
HasHeld m (Eq s t) = Unit {0}

-- what the term of a negative literal offers is, where it is no equation
abbrev pub HasNegative : Marks → Literal → Type 0
HasNegative m l = l.positive ≡ false → HasHeld m l.atom

-- no need shares a mark with the offers in each word
abbrev pub NoneShares : List Marks → Marks → Type 0
NoneShares needs offers = (n : Marks) → Contains needs n → AllShare n offers → ⊥

-- the clause's needs are listed, and its offers are among the marks
pub record AreMarksOf (plain : Bool) (p : Clause) (m : PairMarks) : Type 0 where
  pub positives : m.positives ≡ flat_map positive_needs p.literals
  pub sides : m.sides ≡ flat_map side_needs p.literals
  pub negatives : (j : ℕ) (l : Literal) → slice_get p.literals j ≡ Some l → HasNegative m.negatives l
  pub parts : (j : ℕ) (l : Literal) → slice_get p.literals j ≡ Some l → HasAtomParts plain m.parts l.atom
