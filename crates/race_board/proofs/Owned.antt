-- What is kept of a drained pipe is a slot's own.
use Rattle.std.proofs.Common.{◌≡◌, ℕ, ◌≤◌, false, List, length, take, refl, sym, ap, ◌∙◌, subst, arith, Option, Some, None}
use Rattle.std.specs.Prelude.{IsTrue}
use Rattle.std.proofs.lemmas.Bool.{false≢true}
use Rattle.std.proofs.lemmas.List.{take_all}
use Rattle.race_outside.specs.Pipes.{Told}
use Rattle.race_board.specs.declared.drain_end.DrainEnd.{DrainEnd}
use Rattle.race_board.specs.declared.drain_end.DrainEnd.TheVariants as drain
use Rattle.race_board.specs.Drains.{most_bytes, AreBegun, AreFirst, AreAll, IsDrained}
use Rattle.race_board.specs.Ends.{IsOwn}
use Rattle.race_board.specs.Calls.{is_short}

all-first : (whole : Option (List ℕ)) (bytes : List ℕ) → length bytes ≤ most_bytes → AreAll whole bytes → AreFirst most_bytes whole bytes
all-first None bytes most all = tt
all-first (Some whole) bytes most all =
    all ∙ sym (take_all most_bytes whole (omega (arith, most, ap length all)))

begun-first : (whole : Option (List ℕ)) (bytes : List ℕ) → length bytes ≡ most_bytes → AreBegun whole bytes → AreFirst most_bytes whole bytes
begun-first None bytes long begun = tt
begun-first (Some whole) bytes long begun = begun ∙ ap (λ n. take n whole) long

firsts : (told : Told) (left : Option (List ℕ)) (faults : ℕ) (bytes : List ℕ) (pipe_faults : ℕ) (end : DrainEnd) → IsDrained told left faults bytes pipe_faults end → is_short end ≡ false → pipe_faults ≡ 0 → AreFirst most_bytes told.whole bytes
firsts told left faults bytes pipe_faults drain.Ended d short none = all-first told.whole bytes d.most (d.ended refl).1
firsts told left faults bytes pipe_faults drain.Failed d short none = absurd (omega (arith, d.failed refl, none))
firsts told left faults bytes pipe_faults drain.Long d short none = begun-first told.whole bytes (d.long.0 refl) d.begun
firsts told left faults bytes pipe_faults drain.NoMemory d short none = absurd (false≢true (sym short))

pub own-is : (told child : Told) (left : Option (List ℕ)) (faults : ℕ) (bytes : List ℕ) (pipe_faults : ℕ) (end : DrainEnd) → IsDrained told left faults bytes pipe_faults end → told ≡ child → (IsTrue told.sound → faults ≡ 0)
    → IsOwn child (record { bytes = bytes; pipe_faults = pipe_faults; short = is_short end; stray = None })
own-is told child left faults bytes pipe_faults end d same law =
    let C : Told → Type 0 = λ t. IsOwn t (record { bytes = bytes; pipe_faults = pipe_faults; short = is_short end; stray = None }) in
    subst C same (record {
      unlost = refl;
      most = d.most;
      begun = d.begun;
      all = λ short none. firsts told left faults bytes pipe_faults end d short none;
      sound = λ sound. d.counted ∙ law sound;
    })
