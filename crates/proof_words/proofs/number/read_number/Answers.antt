use Rattle.std.proofs.Common.{inl, inr, arith}
use Rattle.proof_words.proofs.Digits.{begins_with, begins_none}
use Rattle.proof_words.proofs.number.read_number.Goals as goal

pub returns-in-None : goal.returns-in-None
returns-in-None c = begins_none c.args.word.now c.in-None.ensures.item.3

pub returns-then-not-is_ascii_digit : goal.returns-then-not-is_ascii_digit
returns-then-not-is_ascii_digit c =
    let item = c.in-Some.ensures.item in
    let d = c.if-not-is_ascii_digit.ensures in
    begins_with c.args.word.now c.in-Some.field-0.now item.3.0 item.1 (λ low high. elim d.cases [ inl below ↦ omega arith | inr above ↦ omega arith ])
