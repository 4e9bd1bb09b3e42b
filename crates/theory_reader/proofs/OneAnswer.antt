-- Each text has one answer: its tokens, its declarations and what they make are one each.
use Rattle.std.proofs.Common.{◌≡◌, ℕ, ◌∙◌, ap, sym, subst, refl, List}
use Rattle.text_kit.specs.declared.cut.Token.{Token}
use Rattle.text_kit.specs.Tokens.{Cut, Into, BadAt, IsCut, HasAnswer, Cuts, Breaks}
use Rattle.theory_syntax.specs.declared.tree.Item.{Item}
use Rattle.theory_syntax.specs.Reading as syntax
use Rattle.first_fault.specs.Answers as answers
use Rattle.theory_terms.specs.declared.fault.TheoryKind.{TheoryKind}
use Rattle.theory_terms.specs.declared.fault.TheoryKind.TheVariants as kind
use Rattle.theory_terms.specs.Answers.{Answer, Good, Bad}
use Rattle.theory_reader.specs.Declarations.{Declarations}
use Rattle.theory_reader.specs.Toks.{toks_of, byte_at}
use Rattle.theory_reader.specs.Declaring.{theory_of}
use Rattle.theory_reader.specs.Reading.{ReadsItems, Faulty, IsAnswer, SomeAnswer, OneAnswer}
use Rattle.theory_reader.specs.Reading as faulty

-- what the tokens' answer says of the text
abbrev pub after : List ℕ → List Token → syntax.Answer → Answer Declarations
after text ts (answers.Text items) = theory_of text items
after text ts (answers.Syntax place) = Bad (byte_at text ts place) kind.Syntax
after text ts (answers.TooDeep place) = Bad (byte_at text ts place) kind.TooDeep

-- an answer, by the stage that gave it
pub data Told (text : List ℕ) (a : Answer Declarations) : Type 0 where
  by_byte : {at : ℕ} → Breaks 0 text at → a ≡ Bad at kind.Token → Told text a
  by_tokens : {ts : List Token} (s : syntax.Answer) → Cuts 0 text ts → syntax.IsAnswer 256 (toks_of text ts) s → a ≡ after text ts s →
      Told text a

told_fault : (text : List ℕ) (at : ℕ) (k : TheoryKind) → Faulty text at k → Told text (Bad at k)
told_fault text at k (faulty.bad_byte b) = by_byte b refl
told_fault text at k (faulty.syntax_at cut r) = by_tokens (answers.Syntax _) cut r refl
told_fault text at k (faulty.too_deep_at cut r) = by_tokens (answers.TooDeep _) cut r refl
told_fault text at k (faulty.bad_declaration r e) = by_tokens (answers.Text _) r.cut r.derived (sym e)

told : (text : List ℕ) (a : Answer Declarations) → IsAnswer text a → Told text a
told text (Good d) r = by_tokens (answers.Text r.items) r.read.cut r.read.derived (sym r.declared)
told text (Bad at k) f = told_fault text at k f

-- the declarations' answer
whole : (text : List ℕ) (items : List Item) → ReadsItems text items → (a : Answer Declarations) → theory_of text items ≡ a →
    (a : Answer Declarations) × IsAnswer text a
whole text items r (Good d) e = (Good d, record { items = items; read = r; declared = e })
whole text items r (Bad at k) e = (Bad at k, faulty.bad_declaration r e)

parsed : (text : List ℕ) (ts : List Token) → Cuts 0 text ts → (s : syntax.Answer) → syntax.IsAnswer 256 (toks_of text ts) s →
    (a : Answer Declarations) × IsAnswer text a
parsed text ts cut (answers.Text items) r = whole text items (record { tokens = ts; cut = cut; derived = r }) (theory_of text items) refl
parsed text ts cut (answers.Syntax place) r = (Bad (byte_at text ts place) kind.Syntax, faulty.syntax_at cut r)
parsed text ts cut (answers.TooDeep place) r = (Bad (byte_at text ts place) kind.TooDeep, faulty.too_deep_at cut r)

module _ (some_cut : (n : ℕ) (text : List ℕ) → HasAnswer n text)
    (one_cut : (n : ℕ) (text : List ℕ) (a b : Cut) → IsCut n text a → IsCut n text b → a ≡ b)
    (some_items : syntax.SomeAnswer) (one_items : syntax.OneAnswer) where
  at_cut : (text : List ℕ) (c : Cut) → IsCut 0 text c → (a : Answer Declarations) × IsAnswer text a
  at_cut text (Into ts) cut = let r = some_items 256 (toks_of text ts) in parsed text ts cut r.0 r.1
  at_cut text (BadAt at) b = (Bad at kind.Token, faulty.bad_byte b)

  pub some_answer : SomeAnswer
  some_answer text = let c = some_cut 0 text in at_cut text c.0 c.1

  same_tokens : (text : List ℕ) (ts us : List Token) (s t : syntax.Answer) → Cuts 0 text ts → Cuts 0 text us →
      syntax.IsAnswer 256 (toks_of text ts) s → syntax.IsAnswer 256 (toks_of text us) t → after text ts s ≡ after text us t
  same_tokens text ts us s t c d h k =
      let cuts : Into ts ≡ Into us = one_cut 0 text (Into ts) (Into us) c d in
      let e : us ≡ ts = cc in
      let P : List Token → Type 0 = λ vs. syntax.IsAnswer 256 (toks_of text vs) t in
      let f : s ≡ t = one_items 256 (toks_of text ts) s t h (subst P e k) in
      ap (after text ts) f ∙ ap (λ vs. after text vs t) (sym e)

  same_told : (text : List ℕ) (a b : Answer Declarations) → Told text a → Told text b → a ≡ b
  same_told text a b (by_byte {at = at} x e) (by_byte {at = other} y f) =
      let cuts : BadAt at ≡ BadAt other = one_cut 0 text (BadAt at) (BadAt other) x y in cc
  same_told text a b (by_byte {at = at} x e) (by_tokens {ts = ts} s c h f) =
      let cuts : BadAt at ≡ Into ts = one_cut 0 text (BadAt at) (Into ts) x c in cc
  same_told text a b (by_tokens {ts = ts} s c h e) (by_byte {at = at} y f) =
      let cuts : BadAt at ≡ Into ts = one_cut 0 text (BadAt at) (Into ts) y c in cc
  same_told text a b (by_tokens {ts = ts} s c h e) (by_tokens {ts = us} t d k f) =
      e ∙ same_tokens text ts us s t c d h k ∙ sym f

  pub one_answer : OneAnswer
  one_answer text a b x y = same_told text a b (told text a x) (told text b y)
