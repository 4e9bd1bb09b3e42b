-- What the reader of a part promises to the readers around it. Places are counted in the bytes that are left.
use Rattle.std.specs.Prelude.{◌≡◌, ◌⊎◌, ℕ, ◌+◌, ◌≤◌, ◌<◌, List, [], ◌∷◌, ◌++◌, length, take}
use Rattle.hol_terms.specs.declared.ty.Ty.{Ty}
use Rattle.hol_terms.specs.declared.term.Term.{Term}
use Rattle.first_fault.specs.Levels.{Within}
pub use Rattle.first_fault.specs.Fails.{end_of}
use Rattle.proof_syntax.specs.declared.fault.PartFault.{PartFault}
use Rattle.proof_syntax.specs.declared.fault.PartFault.TheVariants as fault
use Rattle.proof_syntax.specs.Tokens.{Tok, Word, Mark, cut, spelled}
use Rattle.proof_syntax.specs.Names.{Names}
use Rattle.proof_syntax.specs.Grammar.{Placed, at, most, IsType, IsTerm}
use Rattle.proof_syntax.specs.Machine.{put, goes, Stuck, run, State, Frame, level, WantType, WantTerm}

-- `n` bytes of the word are those of a word with which the part goes on, and no walk takes a word that shares more
-- `B` says what begins the part, `st i` are the states in which the part is wanted
pub record SharesPart (names : Names) (B : List Placed → Type 0) (I : Type 0) (st : I → State) (p : List Placed) (w : List ℕ) (n : ℕ) : Type 0 where
  pub room : n ≤ length w
  pub some : (n ≡ 0) ⊎ ((v : List ℕ) × ((l : ℕ) × B (p ++ at l (Word v) ∷ [])) × (take n v ≡ take n w))
  pub most : (v : List ℕ) → take (n + 1) v ≡ take (n + 1) w → (i : I) (others : List Tok) →
      run names (st i) (put p (Word v ∷ others)) ≡ goes p Stuck

abbrev pub IntoPart : Names → (List Placed → Type 0) → (I : Type 0) → (I → State) → List Placed → List Tok → ℕ → Type 0
IntoPart names B I st p [] n = n ≡ 0
IntoPart names B I st p (Mark s ∷ rest) n = n ≡ 0
IntoPart names B I st p (Word w ∷ rest) n = SharesPart names B I st p w n

-- the part begins as `before`, and no walk in which it is wanted takes the next token, of which `into` bytes still go on
pub record Halts (names : Names) (B : List Placed → Type 0) (I : Type 0) (st : I → State) (text : List ℕ) (left : ℕ) : Type 0 where
  pub before : List Placed
  pub rest : List Tok
  pub tokens : cut text ≡ put before rest
  pub within : Within most before
  pub begins : B before
  pub stuck : (i : I) → run names (st i) (cut text) ≡ goes before (end_of rest)
  pub into : ℕ
  pub is_into : IntoPart names B I st before rest into
  pub count : left + into ≡ length (spelled rest)

-- the part begins as `before` and the next token, whose level is the first above the limit
pub record Exceeds (B : List Placed → Type 0) (text : List ℕ) (left : ℕ) : Type 0 where
  pub before : List Placed
  pub token : Tok
  pub level : ℕ
  pub rest : List Tok
  pub tokens : cut text ≡ put before (token ∷ rest)
  pub within : Within most before
  pub begins : B (before ++ at level token ∷ [])
  pub above : most < level
  pub count : left ≡ length (spelled (token ∷ rest))

abbrev pub Fails : Names → (List Placed → Type 0) → (I : Type 0) → (I → State) → List ℕ → PartFault → Type 0
Fails names B I st text (fault.Stops left) = Halts names B I st text left
Fails names B I st text (fault.GoesBeyond left) = Exceeds B text left
Fails names B I st text fault.NoMemory = Unit {0}

-- the frames below a part
pub record Below (l : ℕ) : Type 0 where
  pub frames : List Frame
  pub is_level : level frames ≡ l

-- ---- a type

pub record GotType (names : Names) (l : ℕ) (text : List ℕ) (a : Ty) (rest : List ℕ) : Type 0 where
  pub placed : List Placed
  pub derived : IsType names l placed a
  pub within : Within most placed
  pub tokens : cut text ≡ put placed (cut rest)

abbrev pub BegunType : Names → ℕ → List Placed → Type 0
BegunType names l p = (q : List Placed) × (a : Ty) × IsType names l (p ++ q) a

abbrev pub wants_type : (l : ℕ) → Below l → State
wants_type l i = WantType i.frames

abbrev pub FailsType : Names → ℕ → List ℕ → PartFault → Type 0
FailsType names l text e = Fails names (BegunType names l) (Below l) (wants_type l) text e

-- ---- a term

pub record GotTerm (names : Names) (l : ℕ) (text : List ℕ) (t : Term) (rest : List ℕ) : Type 0 where
  pub placed : List Placed
  pub derived : IsTerm names l placed t
  pub within : Within most placed
  pub tokens : cut text ≡ put placed (cut rest)

abbrev pub BegunTerm : Names → ℕ → List Placed → Type 0
BegunTerm names l p = (q : List Placed) × (t : Term) × IsTerm names l (p ++ q) t

abbrev pub wants_term : (l : ℕ) → Below l → State
wants_term l i = WantTerm i.frames

abbrev pub FailsTerm : Names → ℕ → List ℕ → PartFault → Type 0
FailsTerm names l text e = Fails names (BegunTerm names l) (Below l) (wants_term l) text e

-- ---- the token at the front

abbrev pub IsNot : Tok → List Tok → Type 0
IsNot x ts = (rest : List Tok) → ts ≡ x ∷ rest → ⊥

abbrev pub NoWord : List Tok → Type 0
NoWord ts = (w : List ℕ) → IsNot (Word w) ts
