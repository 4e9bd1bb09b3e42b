-- Four words.
use Rattle.std.proofs.Common.{◌≡◌, ℕ, ◌≤◌, ◌<◌, Global, List, [], ◌∷◌, map, length, get_or, refl, sym, ap, ◌∙◌, arith}
use Rattle.std.specs.Prelude.{String, string_bytes}

four : {X : Type 0} (xs : List X) (a b c d : X) → length xs ≡ 4 → xs ≡ get_or xs 0 a ∷ get_or xs 1 b ∷ get_or xs 2 c ∷ get_or xs 3 d ∷ []
four [] a b c d e = absurd (omega arith)
four (w ∷ []) a b c d e = absurd (omega arith)
four (w ∷ x ∷ []) a b c d e = absurd (omega arith)
four (w ∷ x ∷ y ∷ []) a b c d e = absurd (omega arith)
four (w ∷ x ∷ y ∷ z ∷ []) a b c d e = refl
four (w ∷ x ∷ y ∷ z ∷ v ∷ vs) a b c d e = absurd (omega arith)

pub four_words : (words : List (String Global)) (a b c d : String Global) (first second third fourth : List ℕ) → 4 ≤ length words → length words < 5 → a ≡ get_or words 0 a → b ≡ get_or words 1 b → c ≡ get_or words 2 c → d ≡ get_or words 3 d →
    first ≡ string_bytes a → second ≡ string_bytes b → third ≡ string_bytes c → fourth ≡ string_bytes d → map string_bytes words ≡ first ∷ second ∷ third ∷ fourth ∷ []
four_words words a b c d first second third fourth low high ea eb ec ed ha hb hc hd =
    ap (map string_bytes) (four words a b c d (omega arith)) ∙
    (λ i. (ap string_bytes (sym ea) ∙ sym ha) i ∷ (ap string_bytes (sym eb) ∙ sym hb) i ∷ (ap string_bytes (sym ec) ∙ sym hc) i ∷ (ap string_bytes (sym ed) ∙ sym hd) i ∷ [])
