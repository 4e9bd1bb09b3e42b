-- What the child answers to its words and its input: its exit status and its text, and why.
use Rattle.std.specs.Prelude.{◌≡◌, ◌<◌, ◌≤◌, ℕ, List, [], ◌∷◌, length, codes, Option, Some, None}
use Rattle.race_outside.specs.Causes.{Rose}
use Rattle.race_outside.specs.Sinks.{TookAll, TookSome}
use Rattle.sledge_words.specs.Lines.{IsNumber}
use Rattle.fol_prover.specs.Texts.{error_text, memory_text}
use Rattle.fol_prover.specs.Proving.{Proves}

-- the four words: a budget of picks, and the age
pub record IsAsked (words : List (List ℕ)) (budget age : ℕ) : Type 0 where
  pub first : List ℕ
  pub second : List ℕ
  pub words_are : words ≡ codes "--budget" ∷ first ∷ codes "--age" ∷ second ∷ []
  pub budget_is : IsNumber 1 1000000 first budget
  pub age_is : IsNumber 1 1000 second age

-- the input: the bytes that were left at the call, where it tells, and its count of faults before and after
pub record Heard : Type 0 where
  pub left : Option (List ℕ)
  pub before : ℕ
  pub after : ℕ

abbrev pub most_bytes : ℕ
most_bytes = 67108864

-- these bytes were left, where the input tells
abbrev pub WereLeft : Option (List ℕ) → List ℕ → Type 0
WereLeft (Some left) bytes = bytes ≡ left
WereLeft None bytes = Unit {0}

-- more than 64 MiB were left, where the input tells
abbrev pub IsLong : Option (List ℕ) → Type 0
IsLong (Some left) = most_bytes < length left
IsLong None = Unit {0}

-- to words and an input
pub data Reply (words : List (List ℕ)) (i : Heard) : ℕ → List ℕ → Type 0 where
  usage : ((budget age : ℕ) → IsAsked words budget age → ⊥) → Reply words i 2 []
  failed : (budget age : ℕ) → IsAsked words budget age → Rose i.before i.after → Reply words i 3 error_text
  too_long : (budget age : ℕ) → IsAsked words budget age → IsLong i.left → Reply words i 3 error_text
  answer : {status : ℕ} {text : List ℕ} → (budget age : ℕ) (bytes : List ℕ) → IsAsked words budget age → WereLeft i.left bytes → length bytes ≤ most_bytes →
      Proves bytes budget age status text → Reply words i status text
  -- want of memory, at any time
  memory : (budget age : ℕ) → IsAsked words budget age → Reply words i 6 memory_text

-- the output: what it took, where it tells, and its count of faults, before and after
pub record Told : Type 0 where
  pub taken : Option (List ℕ)
  pub now : Option (List ℕ)
  pub before : ℕ
  pub after : ℕ

-- the status is that of a reply whose text the output took; where the output failed it is 5, and it took a beginning of such a text
pub data Answered (words : List (List ℕ)) (i : Heard) (o : Told) : ℕ → Type 0 where
  told : (status : ℕ) (text : List ℕ) → Reply words i status text → TookAll o.taken text o.now → Answered words i o status
  cut_off : (status : ℕ) (text : List ℕ) → Reply words i status text → TookSome o.taken text o.now → Rose o.before o.after → Answered words i o 5
