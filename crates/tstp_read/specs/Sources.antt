-- The references and leaves that a statement's source gives.
use Rattle.std.specs.Prelude.{◌≡◌, ℕ, ◌||◌, Bool, true, false, List, [], ◌∷◌, codes, Contains, if◌then◌else◌}
use Rattle.tstp_read.specs.declared.sources.Parent.{Parent}
use Rattle.tstp_read.specs.declared.sources.Parent.TheVariants as parent
use Rattle.tstp_read.specs.Tokens.{Tok}
use Rattle.tstp_read.specs.Statements.{Forest, Start, Then, Round, Square, Statement, is_name, is_mark, parts}

-- a colon that is in no bracket
abbrev pub has_colon : Forest → Bool
has_colon Start = false
has_colon (Then f t) = has_colon f || is_mark 58 t
has_colon (Round f g) = has_colon f
has_colon (Square f g) = has_colon f

-- what stands before the first such colon, or all
abbrev pub before_colon : Forest → Forest
before_colon Start = Start
before_colon (Then f t) = if has_colon f then before_colon f else (if is_mark 58 t then f else Then f t)
before_colon (Round f g) = if has_colon f then before_colon f else Round f g
before_colon (Square f g) = if has_colon f then before_colon f else Square f g

-- the name, quoted or not
pub record IsCalled (w : List ℕ) (t : Tok) : Type 0 where
  pub named : is_name t ≡ true
  pub says : t.said ≡ w

-- the source gives this reference or leaf: a name alone, the second part of a `file`, or what a member of a list gives,
-- also of the list that is the third and last part of an `inference`
pub data Gives : Forest → Parent → Type 0 where
  name : {t : Tok} → is_name t ≡ true → Gives (Then Start t) (parent.Reference t.said)
  file : {t u : Tok} {a g : Forest} {others : List Forest} → IsCalled (codes "file") t → parts g ≡ a ∷ Then Start u ∷ others → is_name u ≡ true →
      Gives (Round (Then Start t) g) (parent.Leaf u.said)
  member : {g m : Forest} {p : Parent} → Contains (parts g) m → Gives (before_colon m) p → Gives (Square Start g) p
  inference : {t : Tok} {a b g h : Forest} {p : Parent} → IsCalled (codes "inference") t → parts g ≡ a ∷ b ∷ Square Start h ∷ [] →
      Gives (Square Start h) p → Gives (Round (Then Start t) g) p

abbrev pub FromParts : List ℕ → List Forest → Parent → Type 0
FromParts own (f ∷ source ∷ others) p = Gives source p
FromParts own _ p = p ≡ parent.Leaf own

-- what the source of a statement gives; without a source, the leaf of its own name
abbrev pub HasParent : Statement → Parent → Type 0
HasParent s p = FromParts s.name.said (parts s.body) p
