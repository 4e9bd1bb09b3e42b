-- That what pipes in memory tell keeps the laws of pipes.
use Rattle.std.specs.Prelude.{◌≡◌, ◌&&◌, ◌==◌, Bool, true, false, IsTrue, IsSome, refl}
use Rattle.std.proofs.lemmas.Bool.{eqb-true}
use Rattle.race_outside.specs.Shelves.{is_none_listed}
use Rattle.race_outside.specs.Memory.{MemoryFlow, told_by}

pub sound-tells : (p : MemoryFlow) → IsTrue (told_by p).sound → IsSome (told_by p).whole
sound-tells p sound = refl

both : (a b : Bool) → (a && b) ≡ true → b ≡ true
both true b e = e
both false b e = cc

pub sound-unfailed : (p : MemoryFlow) → IsTrue (told_by p).sound → p.faults ≡ 0
sound-unfailed p sound = eqb-true p.faults 0 (both (is_none_listed p.fails) (p.faults == 0) sound)
