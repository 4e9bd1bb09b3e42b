-- The list of statements, and the first token at which no such list goes on.
use Rattle.std.specs.Prelude.{◌≡◌, ℕ, ◌+◌, ◌-◌, ◌≤◌, ◌==◌, ◌||◌, ◌&&◌, not, Bool, true, false, List, [], ◌∷◌, ◌++◌, length, codes, IsTrue, All, if◌then◌else◌, nat_eq}
use Rattle.std.specs.List.{filter, list_any}
use Rattle.std.specs.Cmp.Lexicographic.{pointwise}
use Rattle.tstp_read.specs.declared.tokens.Kind.{Kind}
use Rattle.tstp_read.specs.declared.tokens.Kind.TheVariants as kind
use Rattle.tstp_read.specs.Tokens.{Tok}

abbrev pub word : List ℕ → Tok
word w = record { kind = kind.Word; said = w }

abbrev pub mark : ℕ → Tok
mark b = record { kind = kind.Mark; said = b ∷ [] }

abbrev pub is_mark_kind : Kind → Bool
is_mark_kind kind.Mark = true
is_mark_kind _ = false

abbrev pub is_word_kind : Kind → Bool
is_word_kind kind.Word = true
is_word_kind _ = false

-- a word or a quoted name
abbrev pub is_name : Tok → Bool
is_name t = not (is_mark_kind t.kind)

-- the mark of this byte
abbrev pub is_mark : ℕ → Tok → Bool
is_mark b t = is_mark_kind t.kind && pointwise nat_eq t.said (b ∷ [])

-- `(`, `)`, `[` and `]`
abbrev pub is_bracket : Tok → Bool
is_bracket t = is_mark 40 t || (is_mark 41 t || (is_mark 91 t || is_mark 93 t))

abbrev pub is_comma : Tok → Bool
is_comma t = is_mark 44 t

-- tokens with their brackets: what stands before the last token or the last pair of brackets, and what stands within it
pub data Forest : Type 0 where
  Start : Forest
  Then : Forest → Tok → Forest
  Round : Forest → Forest → Forest
  Square : Forest → Forest → Forest

abbrev pub opening : Bool → Tok
opening square = if square then mark 91 else mark 40

abbrev pub ending : Bool → Tok
ending square = if square then mark 93 else mark 41

abbrev pub flat : Forest → List Tok
flat Start = []
flat (Then f t) = flat f ++ t ∷ []
flat (Round f g) = flat f ++ (opening false ∷ flat g) ++ ending false ∷ []
flat (Square f g) = flat f ++ (opening true ∷ flat g) ++ ending true ∷ []

-- no bracket stands alone, and pairs stand within one another at most `deep` times
abbrev pub Nests : ℕ → Forest → Type 0
Nests deep Start = Unit {0}
Nests deep (Then f t) = Nests deep f × (is_bracket t ≡ false)
Nests deep (Round f g) = Nests deep f × (1 ≤ deep) × Nests (deep - 1) g
Nests deep (Square f g) = Nests deep f × (1 ≤ deep) × Nests (deep - 1) g

-- what stands behind the last comma that is in no bracket
abbrev pub last : Forest → Forest
last Start = Start
last (Then f t) = if is_comma t then Start else Then (last f) t
last (Round f g) = Round (last f) g
last (Square f g) = Square (last f) g

-- the parts that end at such commas
abbrev pub before : Forest → List Forest
before Start = []
before (Then f t) = if is_comma t then before f ++ last f ∷ [] else before f
before (Round f g) = before f
before (Square f g) = before f

abbrev pub parts : Forest → List Forest
parts f = before f ++ last f ∷ []

abbrev pub HasToken : Forest → Type 0
HasToken Start = ⊥
HasToken _ = Unit {0}

-- `kind(name, role, formula, source, ..).`, with the parts from the formula on in the body
pub record Statement : Type 0 where
  pub kind : List ℕ
  pub name : Tok
  pub role : List ℕ
  pub body : Forest

abbrev pub head : Statement → List Tok
head s = word s.kind ∷ mark 40 ∷ s.name ∷ mark 44 ∷ word s.role ∷ mark 44 ∷ []

abbrev pub written : Statement → List Tok
written s = head s ++ flat s.body ++ (mark 41 ∷ mark 46 ∷ [])

abbrev pub all_written : List Statement → List Tok
all_written [] = []
all_written (s ∷ ss) = written s ++ all_written ss

-- brackets stand at most so deep within one another, a statement's own ones being the first
abbrev pub MAX_DEPTH : ℕ
MAX_DEPTH = 4096

pub record IsStatement (s : Statement) : Type 0 where
  pub named : is_name s.name ≡ true
  pub nests : Nests (MAX_DEPTH - 1) s.body
  pub filled : All HasToken (parts s.body)

-- the tokens are these statements
pub record IsList (ts : List Tok) (ss : List Statement) : Type 0 where
  pub tokens : ts ≡ all_written ss
  pub sound : All IsStatement ss

-- some list of statements goes on so
abbrev pub Begins : List Tok → Type 0
Begins ts = (more : List Tok) × (ss : List Statement) × IsList (ts ++ more) ss

-- none goes on with the next token; at the end, none ends there
abbrev pub NoneGoesOn : List Tok → List Tok → Type 0
NoneGoesOn ts [] = (ss : List Statement) → IsList ts ss → ⊥
NoneGoesOn ts (t ∷ rest) = Begins (ts ++ t ∷ []) → ⊥

-- the first token at which no list of statements goes on, or the end, where none ends there
pub record IsFault (ts : List Tok) (place : ℕ) : Type 0 where
  pub front : List Tok
  pub rest : List Tok
  pub tokens : ts ≡ front ++ rest
  pub count : length front ≡ place
  pub begins : Begins front
  pub stops : NoneGoesOn front rest

-- ---- what a statement says

abbrev pub first : List Forest → Forest
first [] = Start
first (f ∷ fs) = f

abbrev pub formula : Statement → Forest
formula s = first (parts s.body)

abbrev pub is_no_bracket : Tok → Bool
is_no_bracket t = not (is_bracket t)

-- without brackets the formula is `$false`
abbrev pub Refutes : Statement → Type 0
Refutes s = filter is_no_bracket (flat (formula s)) ≡ word (codes "$false") ∷ []
