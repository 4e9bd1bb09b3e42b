-- A fault of the grammar is a fault of the text.
use Rattle.std.proofs.Common.{◌≡◌, ℕ, subst, sym, List, Err}
use Rattle.text_kit.specs.declared.cut.Token.{Token}
use Rattle.text_kit.specs.Tokens.{Cuts}
use Rattle.first_fault.specs.declared.fault.Fault.{Fault}
use Rattle.first_fault.specs.declared.fault.Fault.TheVariants as fault
use Rattle.theory_syntax.specs.declared.tokens.Tok.{Tok}
use Rattle.theory_syntax.specs.Reading as syntax
use Rattle.theory_terms.specs.declared.fault.TheoryFault.{TheoryFault}
use Rattle.theory_reader.specs.Toks.{toks_of}
use Rattle.theory_reader.specs.Reading as faulty
use Rattle.theory_reader.specs.inner.Stages.{GivesItems, Located}

told : (text : List ℕ) (ts : List Token) → Cuts 0 text ts → (e : Fault) → syntax.Refused 256 (toks_of text ts) e →
    (r : TheoryFault) → Located text ts e r → GivesItems text (Err r)
told text ts cut (fault.Syntax place) h r e =
    let P : TheoryFault → Type 0 = λ f. GivesItems text (Err f) in subst P (sym e) (faulty.syntax_at cut h)
told text ts cut (fault.TooDeep place) h r e =
    let P : TheoryFault → Type 0 = λ f. GivesItems text (Err f) in subst P (sym e) (faulty.too_deep_at cut h)
told text ts cut fault.NoMemory h r e =
    let P : TheoryFault → Type 0 = λ f. GivesItems text (Err f) in subst P (sym e) tt

pub refused : (text : List ℕ) (ts : List Token) (toks : List Tok) → Cuts 0 text ts → toks ≡ toks_of text ts → (e : Fault) →
    syntax.Refused 256 toks e → (r : TheoryFault) → Located text ts e r → GivesItems text (Err r)
refused text ts toks cut said e h r l =
    let P : List Tok → Type 0 = λ us. syntax.Refused 256 us e in told text ts cut e (subst P said h) r l
