-- States that take a word alone.
use Rattle.std.proofs.Common.{◌≡◌, List, [], ◌∷◌, None, refl}
use Rattle.proof_syntax.specs.Tokens.{Sign, Tok, Word, Mark}
use Rattle.proof_syntax.specs.Names.{Names}
use Rattle.proof_syntax.specs.Machine.{State, step, accepted}
use Rattle.proof_syntax.specs.Parts.{NoWord}
use Rattle.proof_syntax.proofs.Inside.{Refuses}

pub refuses_signs : (names : Names) (s : State) → accepted s ≡ None → ((m : Sign) → step names s (Mark m) ≡ None) → (ts : List Tok) → NoWord ts → Refuses names s ts
refuses_signs names s end signs [] n = end
refuses_signs names s end signs (Mark m ∷ rest) n = signs m
refuses_signs names s end signs (Word w ∷ rest) n = absurd (n w rest refl)
