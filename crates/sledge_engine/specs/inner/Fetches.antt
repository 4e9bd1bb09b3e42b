-- What the code holds of a file.
use Rattle.std.specs.Prelude.{ℕ, ◌≡◌, ◌<◌, ◌≤◌, Bool, List, [], length, Option}
use Rattle.race_outside.specs.Shelves.{Files, Fetched}
use Rattle.theory_terms.specs.declared.fault.TheoryKind.{TheoryKind}
use Rattle.theory_reader.specs.Reading.{Reads, Faulty}
use Rattle.theory_reader.specs.Seen.{declarations}
use Rattle.sledge_engine.specs.declared.fetching.Fetch.{Fetch}
use Rattle.sledge_engine.specs.declared.fetching.Fetch.TheVariants.{Whole, TooLong, Failed}
use Rattle.sledge_engine.specs.declared.opening.Opened.{Opened}
use Rattle.sledge_engine.specs.declared.opening.Opened.TheVariants.{Read, Refused}
use Rattle.sledge_engine.specs.Files.{Outside, NoFile, Holds, HoldsTheory, TheoryRefusal}
use Rattle.sledge_engine.specs.Texts.{theory_text}

abbrev pub outside : Option Files → Bool → ℕ → ℕ → Outside
outside files sure before after = record { files = files; sure = sure; before = before; after = after }

abbrev pub IsFetch : Outside → List ℕ → ℕ → Fetch → Type 0
IsFetch o name limit (Whole bytes) = Holds o.files name limit bytes
IsFetch o name limit TooLong = (bytes : List ℕ) × Fetched o.files name limit bytes × (limit < length bytes)
IsFetch o name limit Failed = NoFile o name

-- the bytes, where they are within the limit
abbrev pub IsWithin : ℕ → List ℕ → Fetch → Type 0
IsWithin limit bytes (Whole given) = (given ≡ bytes) × (length bytes ≤ limit)
IsWithin limit bytes TooLong = limit < length bytes
IsWithin limit bytes Failed = ⊥

-- the theory and no text yet, or a refusal with its text
abbrev pub IsOpened : Outside → List ℕ → List ℕ → Opened → Type 0
IsOpened o name text (Read t) = HoldsTheory o.files name t × (text ≡ [])
IsOpened o name text (Refused status) = TheoryRefusal o name status text

-- what was fetched whole is within the limit
abbrev pub IsShort : ℕ → Fetch → Type 0
IsShort limit (Whole bytes) = length bytes ≤ limit
IsShort limit TooLong = Unit {0}
IsShort limit Failed = Unit {0}

-- what the bytes read as: the theory and no text yet, or its first fault with the text
abbrev pub IsTheoryOf : List ℕ → List ℕ → Opened → Type 0
IsTheoryOf bytes text (Read t) = Reads bytes (declarations t) × (text ≡ [])
IsTheoryOf bytes text (Refused status) = (at : ℕ) × (k : TheoryKind) × Faulty bytes at k × (status ≡ 4) × (text ≡ theory_text at k)
