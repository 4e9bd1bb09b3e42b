-- What a good answer rests on.
use Rattle.std.proofs.Common.{◌≡◌, ℕ, Bool, true, false, if◌then◌else◌, refl}
use Rattle.theory_terms.specs.declared.fault.TheoryKind.{TheoryKind}
use Rattle.theory_terms.specs.Answers.{Answer, Good, Bad, and_then}

-- both readings are good
pub opened : {A B : Type 0} (a : Answer A) (f : A → Answer B) (b : B) → and_then a f ≡ Good b → (v : A) × ((a ≡ Good v) × (f v ≡ Good b))
opened (Good v) f b h = (v, (refl, h))
opened (Bad at k) f b h = cc

-- the test holds
pub if_good : {A : Type 0} (t : Bool) (x y : A) (at : ℕ) (k : TheoryKind) → (if t then Good x else Bad at k) ≡ Good y → (t ≡ true) × (x ≡ y)
if_good true x y at k h = (refl, cc)
if_good false x y at k h = cc

pub good_same : {A : Type 0} (x y : A) → Good x ≡ Good y → x ≡ y
good_same x y h = cc
