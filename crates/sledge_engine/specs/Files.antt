-- What a command finds in files.
use Rattle.std.specs.Prelude.{ℕ, ◌<◌, ◌≤◌, Bool, IsTrue, List, length, Option}
use Rattle.race_outside.specs.Causes.{Rose}
use Rattle.race_outside.specs.Shelves.{Files, Fetched, Lacks}
use Rattle.theory_terms.specs.declared.fault.TheoryKind.{TheoryKind}
use Rattle.theory_reader.specs.declared.theory.Theory.{Theory}
use Rattle.theory_reader.specs.Reading.{Reads, Faulty}
use Rattle.theory_reader.specs.Seen.{declarations}
use Rattle.sledge_engine.specs.Texts.{file_text, long_file_text, theory_text}

-- a theory file holds at most 16 MiB, a proof file 64 MiB
abbrev pub most_theory_bytes : ℕ
most_theory_bytes = 16777216

abbrev pub most_proof_bytes : ℕ
most_proof_bytes = 67108864

-- a shelf: what it tells of its files, whether it is sure, and its count of faults before and after
pub record Outside : Type 0 where
  pub files : Option Files
  pub sure : Bool
  pub before : ℕ
  pub after : ℕ

-- the shelf failed, and where it is sure, it holds no such file
pub record NoFile (o : Outside) (name : List ℕ) : Type 0 where
  pub failed : Rose o.before o.after
  pub absent : IsTrue o.sure → Lacks o.files name

-- these bytes were fetched whole under this name; where the shelf tells, they are what it holds
pub record Holds (files : Option Files) (name : List ℕ) (limit : ℕ) (bytes : List ℕ) : Type 0 where
  pub fetched : Fetched files name limit bytes
  pub short : length bytes ≤ limit

-- the shelf failed, or the file is too long
pub data FileRefusal (o : Outside) (name : List ℕ) (limit : ℕ) : ℕ → List ℕ → Type 0 where
  no_file : NoFile o name → FileRefusal o name limit 3 (file_text name)
  long_file : (bytes : List ℕ) → Fetched o.files name limit bytes → limit < length bytes → FileRefusal o name limit 3 (long_file_text name)

-- what was fetched under this name reads as the theory
pub record HoldsTheory (files : Option Files) (name : List ℕ) (t : Theory) : Type 0 where
  pub bytes : List ℕ
  pub held : Holds files name most_theory_bytes bytes
  pub reads : Reads bytes (declarations t)

-- no theory was found under this name
pub data TheoryRefusal (o : Outside) (name : List ℕ) : ℕ → List ℕ → Type 0 where
  no_bytes : (status : ℕ) (text : List ℕ) → FileRefusal o name most_theory_bytes status text → TheoryRefusal o name status text
  faulty : (bytes : List ℕ) (at : ℕ) (k : TheoryKind) → Holds o.files name most_theory_bytes bytes → Faulty bytes at k → TheoryRefusal o name 4 (theory_text at k)
