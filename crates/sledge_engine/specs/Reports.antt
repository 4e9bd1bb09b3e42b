-- What is told of a finished race: its status and its text.
use Rattle.std.specs.Prelude.{ℕ, ◌+◌, Bool, true, false, if◌then◌else◌, List, [], ◌∷◌, ◌++◌, codes, decimal, map, length, slice_get, Option, Some, None}
use Rattle.std.specs.List.{flat_map, list_any, range_with_len}
use Rattle.std.specs.Option.{option_and_then}
use Rattle.hol_kernel.specs.declared.proven.Proven.{Proven}
use Rattle.race_core.specs.declared.outcome.Outcome.{Outcome}
use Rattle.race_core.specs.declared.outcome.Outcome.TheVariants as outcome
use Rattle.race_core.specs.declared.slot.SlotEnd.{SlotEnd}
use Rattle.theory_reader.specs.declared.theory.Theory.{Theory}
use Rattle.theory_reader.specs.Sound.{fact_names}
use Rattle.theory_reader.specs.Seen.{seen}
use Rattle.sledge_engine.specs.declared.finished.Finished.{Finished}
use Rattle.sledge_engine.specs.Choice.{names_at}
use Rattle.sledge_engine.specs.Metis.{shown}
use Rattle.sledge_engine.specs.Orders.{sliced}
use Rattle.sledge_engine.specs.Texts.{around, metis_text, spaced}

-- ---- a slot

-- what is said of a slot that ended so, with the names of the facts
abbrev pub outcome_text : List (List ℕ) → Outcome Proven → List ℕ
outcome_text names (outcome.Proved p) = codes "proved" ++ spaced (names_at names p.names)
outcome_text names outcome.NoStart = codes "no start"
outcome_text names (outcome.Lost i) = codes "lost " ++ decimal i
outcome_text names outcome.ReadFault = codes "read fault"
outcome_text names outcome.TooLong = codes "too long"
outcome_text names outcome.NoStatus = codes "no status"
outcome_text names outcome.NoProof = codes "no proof"
outcome_text names (outcome.BadText at) = codes "bad text at " ++ decimal at
outcome_text names outcome.Saturated = codes "saturated"
outcome_text names outcome.Spent = codes "spent"
outcome_text names outcome.TimedOut = codes "timed out"
outcome_text names outcome.Cancelled = codes "cancelled"
outcome_text names outcome.NoMemory = codes "out of memory"

abbrev pub slot_text : List (List ℕ) → ℕ → Outcome Proven → List ℕ
slot_text names k o = around (codes "slot ") (decimal k) (around (codes ": ") (outcome_text names o) (codes "\n"))

-- a line for each slot, from this number on
abbrev pub slot_texts : List (List ℕ) → ℕ → List (SlotEnd Proven) → List ℕ
slot_texts names k [] = []
slot_texts names k (end ∷ ends) = slot_text names k end.outcome ++ slot_texts names (k + 1) ends

-- ---- the race

abbrev pub is_out_of_memory : Outcome Proven → Bool
is_out_of_memory outcome.NoMemory = true
is_out_of_memory _ = false

abbrev pub is_lost : Outcome Proven → Bool
is_lost (outcome.Lost i) = true
is_lost _ = false

abbrev pub some_slot : (Outcome Proven → Bool) → List (SlotEnd Proven) → Bool
some_slot p ends = list_any (λ end. p end.outcome) ends

-- 0 with a winner; else 6 where a slot wanted for memory, 8 where one is lost, and 1
abbrev pub unwon_status : List (SlotEnd Proven) → ℕ
unwon_status ends = if some_slot is_out_of_memory ends then 6 else (if some_slot is_lost ends then 8 else 1)

abbrev pub status_of : Option ℕ → List (SlotEnd Proven) → ℕ
status_of (Some k) ends = 0
status_of None ends = unwon_status ends

abbrev pub race_status : Finished → ℕ
race_status f = status_of f.winner f.slots

abbrev pub proof_of : Outcome Proven → Option Proven
proof_of (outcome.Proved p) = Some p
proof_of _ = None

abbrev pub slot_proof : List (SlotEnd Proven) → ℕ → Option Proven
slot_proof ends k = option_and_then (λ end. proof_of end.outcome) (slice_get ends k)

-- the winner's proof
abbrev pub accepted : Finished → Option Proven
accepted f = option_and_then (slot_proof f.slots) f.winner

-- the last line: the winner's, or that there is none
abbrev pub won_text : List (List ℕ) → Option Proven → List ℕ
won_text names (Some p) = metis_text (names_at names p.names)
won_text names None = []

abbrev pub unwon_text : List (SlotEnd Proven) → List ℕ
unwon_text ends =
    if some_slot is_out_of_memory ends then codes "proof: out of memory\n" else (if some_slot is_lost ends then codes "proof: lost\n" else codes "proof: not found\n")

abbrev pub end_text_of : List (List ℕ) → Option ℕ → Finished → List ℕ
end_text_of names (Some k) f = won_text names (accepted f)
end_text_of names None f = unwon_text f.slots

abbrev pub end_text : List (List ℕ) → Finished → List ℕ
end_text names f = end_text_of names f.winner f

-- ---- the commands

-- the proof's text behind the report, where it is to be shown
abbrev pub proof_shown : Bool → Theory → ℕ → Option Proven → List ℕ
proof_shown shows t goal (Some p) = shown shows t goal p.steps
proof_shown shows t goal None = []

-- `prove`: a line for each slot and the last line, and the proof behind it
abbrev pub prove_text : Bool → Theory → ℕ → Finished → List ℕ
prove_text shows t goal f =
    slot_texts (fact_names (seen t goal)) 0 f.slots ++ end_text (fact_names (seen t goal)) f ++ proof_shown shows t goal (accepted f)

-- a space and a number, for each
abbrev pub numbers_text : List ℕ → List ℕ
numbers_text ns = flat_map (λ n. 32 ∷ decimal n) ns

-- `drill`: the number of facts, how many of them each slice has chosen, and the last line
abbrev pub drill_text : ℕ → List ℕ → Theory → ℕ → Finished → List ℕ
drill_text n chosen t goal f =
    around (codes "facts ") (decimal n) (codes "\n") ++ around (codes "chosen") (numbers_text chosen) (codes "\n")
    ++ end_text (fact_names (seen t goal)) f

-- how many facts each of so many slices chooses
abbrev pub chosen_counts : Theory → ℕ → ℕ → List ℕ
chosen_counts t goal slices = map (λ k. length (sliced t goal k)) (range_with_len 0 slices)
