-- What the private reader of one piece of a text promises.
use Rattle.std.specs.Prelude.{◌≡◌, ℕ, ◌+◌, ◌≤◌, List, [], ◌∷◌, ◌++◌, drop, length}
use Rattle.text_kit.specs.declared.cut.Token.{Token}
use Rattle.text_kit.specs.declared.cut.Kind.TheVariants as kind
use Rattle.text_kit.specs.Tokens.{Cuts}
use Rattle.theory_syntax.specs.declared.tree.Item.{Item}
use Rattle.theory_syntax.specs.Reading as syntax
use Rattle.theory_terms.specs.Answers.{Good}
use Rattle.theory_reader.specs.declared.parts.Parts.{Parts}
use Rattle.theory_reader.specs.Toks.{toks_of}
use Rattle.theory_reader.specs.Declaring.{theory_of}
use Rattle.theory_reader.specs.inner.Stages.{so_far, Agrees}

-- a token of a piece that begins at the place `m`, by its place in the whole
abbrev pub moved : ℕ → Token → Token
moved m t = record { at = m + t.at; len = t.len; kind = t.kind }

-- the last byte is `;`
abbrev pub EndsInSemi : List ℕ → Type 0
EndsInSemi [] = ⊥
EndsInSemi (b ∷ []) = b ≡ 59
EndsInSemi (b ∷ c ∷ bs) = EndsInSemi (c ∷ bs)

-- the last token is a mark that ends at this place
abbrev pub EndsInMark : ℕ → List Token → Type 0
EndsInMark e [] = ⊥
EndsInMark e (t ∷ []) = (t.at + t.len ≡ e) × (t.kind ≡ kind.Mark)
EndsInMark e (t ∷ u ∷ ts) = EndsInMark e (u ∷ ts)

-- the piece's last byte is its last token `;`
pub record IsClosed (piece : List ℕ) (cut : List Token) : Type 0 where
  pub byte : EndsInSemi piece
  pub mark : EndsInMark (length piece) cut

-- nothing stands behind the piece, which ends at the place `to` of a text of this length, or the piece is closed
pub data StandsApart : ℕ → ℕ → List ℕ → List Token → Type 0 where
  last : {len to : ℕ} {piece : List ℕ} {cut : List Token} → len ≤ to → StandsApart len to piece cut
  closed : {len to : ℕ} {piece : List ℕ} {cut : List Token} → IsClosed piece cut → StandsApart len to piece cut

-- the text from one place to another reads as these declarations, whatever stands behind
pub record ReadsPiece (text : List ℕ) (from to : ℕ) (items : List Item) : Type 0 where
  pub tokens : List Token
  pub cut : (ts : List Token) → Cuts to (drop to text) ts → Cuts from (drop from text) (tokens ++ ts)
  pub derived : syntax.Reads 256 (toks_of text tokens) items

-- the text up to this place has been read, and these are the parts that it declares
pub record ReadSoFar (text : List ℕ) (at : ℕ) (p : Parts) : Type 0 where
  pub within : at ≤ length text
  pub items : List Item
  pub read : ReadsPiece text 0 at items
  pub declared : theory_of text items ≡ Good (so_far p)
  pub agrees : Agrees p
