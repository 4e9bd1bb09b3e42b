-- Facts of tests.
use Rattle.std.proofs.Common.{◌≡◌, Bool, true, false}

pub true_or_false : (a : Bool) → a ≡ true → a ≡ false → ⊥
true_or_false a h k = cc
