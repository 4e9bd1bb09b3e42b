-- Where a line ends: before the first LF.
use Rattle.std.proofs.Common.{ℕ, ◌≡◌, ◌<◌, ◌≤◌, Bool, true, false, not, List, length, get_or, ap, arith, refl}
use Rattle.std.specs.Prelude.{Option, Some, None}
use Rattle.std.specs.List.{prefix_len}
use Rattle.std.proofs.lemmas.List.Sums.{prefix_len_is}
use Rattle.memchr.specs.Find.{IsFirstByte, Passes, is_byte}
use Rattle.tstp_read.specs.Lines.{is_inside_line}

passes_not : (b : Bool) → (b ≡ true → ⊥) → not b ≡ true
passes_not true h = absurd (h refl)
passes_not false h = refl

inside : (text : List ℕ) (k : ℕ) → (Passes (is_byte 10) text k → ⊥) → is_inside_line (get_or text k 0) ≡ true
inside text k h = passes_not (is_byte 10 (get_or text k 0)) h

pub no_end : (text : List ℕ) → IsFirstByte (is_byte 10) text None → prefix_len is_inside_line text ≡ length text
no_end text h =
    prefix_len_is is_inside_line text (length text) 0 (omega arith) (λ k lt. inside text k (h k (omega arith) lt)) (λ lt. absurd (omega (arith, lt)))

pub first_end : (text : List ℕ) (at : ℕ) → IsFirstByte (is_byte 10) text (Some at) → prefix_len is_inside_line text ≡ at
first_end text at h =
    prefix_len_is is_inside_line text at 0 (omega (arith, h.0.high)) (λ k lt. inside text k (h.0.before k (omega arith) lt)) (λ lt. ap not h.1)
