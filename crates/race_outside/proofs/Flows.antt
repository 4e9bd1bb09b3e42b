-- Bytes that are moved to the front of a buffer.
use Rattle.std.proofs.Common.{◌≡◌, ℕ, ◌+◌, ◌≤◌, List, [], ◌∷◌, ◌++◌, length, take, drop, refl, sym, ap, ◌∙◌, arith, zero, suc}
use Rattle.std.proofs.Math.Seq.{take-append_seam}
use Rattle.std.proofs.lemmas.List.{take-append-drop, length-take-le}

drop-none : (m : ℕ) → drop m (let none : List ℕ = [] in none) ≡ []
drop-none zero = refl
drop-none (suc m) = refl

drop-on : (bytes : List ℕ) (at m : ℕ) → drop (at + m) bytes ≡ drop m (drop at bytes)
drop-on bytes zero m = (let e : zero + m ≡ m = omega arith in ap (λ n. drop n bytes) e)
drop-on [] (suc at) m = drop-none (suc at + m) ∙ sym (drop-none m)
drop-on (b ∷ bytes) (suc at) m =
    let e : suc at + m ≡ suc (at + m) = omega arith in ap (λ n. drop n (b ∷ bytes)) e ∙ drop-on bytes at m

pub pours : (bytes into moved left : List ℕ) (at m : ℕ) → left ≡ drop at bytes → moved ≡ take m (drop at bytes) → m ≤ length (drop at bytes) → left ≡ take m (moved ++ drop m into) ++ drop (at + m) bytes
pours bytes into moved left at m is copied fits =
    let many : length moved ≡ m = ap length copied ∙ length-take-le m (drop at bytes) fits in
    let front : take m (moved ++ drop m into) ≡ moved = ap (λ n. take n (moved ++ drop m into)) (sym many) ∙ take-append_seam moved (drop m into) in
    is ∙ sym (take-append-drop m (drop at bytes))
    ∙ ap (λ l. l ++ drop m (drop at bytes)) (sym copied ∙ sym front)
    ∙ ap (λ l. take m (moved ++ drop m into) ++ l) (sym (drop-on bytes at m))
