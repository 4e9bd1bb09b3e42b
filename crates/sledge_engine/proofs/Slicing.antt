-- The number of a slice that words ask for.
use Rattle.std.proofs.Common.{ℕ, ◌≡◌, ◌<◌, List, None, Some, arith}
use Rattle.std.specs.Prelude.{MatchOption, Option}
use Rattle.sledge_words.specs.Lines.{IsNumber}

-- it is one of the 64
pub slice_below : (o : Option (List ℕ)) (n : ℕ) → MatchOption o (n ≡ 0) (λ word. IsNumber 0 63 word n) → n < 64
slice_below None n e = omega (arith, e)
slice_below (Some word) n h = let most = h.most in omega (arith, most)
