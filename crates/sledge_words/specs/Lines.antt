-- The line that words stand for.
use Rattle.std.specs.Prelude.{ℕ, ◌≡◌, ◌≤◌, ◌==◌, nat_le, Bool, true, false, not, ◌&&◌, if◌then◌else◌, IsTrue, List, [], ◌∷◌, length, drop, slice_get, find, decimal, Option, Some, None, is_some, MatchOption}
use Rattle.std.specs.List.{list_all, list_any}
use Rattle.std.specs.Option.{option_map, option_map_or, option_and_then}
use Rattle.sledge_words.specs.declared.command.Command.{Command}
use Rattle.sledge_words.specs.declared.command.Command.TheVariants as command
use Rattle.sledge_words.specs.declared.option.Flag.{Flag}
use Rattle.sledge_words.specs.declared.option.Flag.TheVariants as flag
use Rattle.sledge_words.specs.declared.line.Line.{Line}
use Rattle.sledge_words.specs.Options.{command_of, takes, arguments, has_facts, default_prover}
use Rattle.sledge_words.specs.Pieces.{Given, Parts, parts_from, Before}

abbrev pub flag_place : Flag → ℕ
flag_place flag.Slices = 0
flag_place flag.Workers = 1
flag_place flag.Budget = 2
flag_place flag.Timeout = 3
flag_place flag.Prover = 4
flag_place flag.Slice = 5
flag_place flag.Size = 6
flag_place flag.Proof = 7

abbrev pub same_flag : Flag → Flag → Bool
same_flag f g = flag_place f == flag_place g

-- the value that is given for an option
abbrev pub value_of : Flag → List Given → Option (List ℕ)
value_of f given = option_map (λ g. g.value) (find (λ g. same_flag f g.flag) given)

-- no option is given twice
abbrev pub once : List Given → Bool
once [] = true
once (g ∷ gs) = not (list_any (λ h. same_flag g.flag h.flag) gs) && once gs

-- the command has so many arguments
abbrev pub has_arguments : Command → ℕ → Bool
has_arguments c n = if has_facts c then nat_le (arguments c) n else n == arguments c

-- the command takes so many arguments and these options
abbrev pub is_shaped : Command → Parts → Bool
is_shaped c p = has_arguments c (length p.places) && list_all (λ g. takes c g.flag) p.given && once p.given

-- a number within its bounds, in digits without a leading zero
pub record IsNumber (low high : ℕ) (word : List ℕ) (n : ℕ) : Type 0 where
  pub least : low ≤ n
  pub most : n ≤ high
  pub digits : word ≡ decimal n

-- the value of an option that is a number, or what stands where it isn't given
abbrev pub IsSetting : Flag → ℕ → ℕ → ℕ → List Given → ℕ → Type 0
IsSetting f low high default given n = MatchOption (value_of f given) (n ≡ default) (λ word. IsNumber low high word n)

-- a limit of time is given or there is none
abbrev pub IsLimit : List Given → Option ℕ → Type 0
IsLimit given None = value_of flag.Timeout given ≡ None
IsLimit given (Some n) = MatchOption (value_of flag.Timeout given) ⊥ (λ word. IsNumber 1 600000 word n)

-- the first argument, as a word
abbrev pub first_argument : List (List ℕ) → List ℕ → List ℕ
first_argument words [] = []
first_argument words (place ∷ places) = option_map_or (λ w. w) (slice_get words place) []

-- the number that `drill` and `gen` are asked for; 0 for the others
abbrev pub IsCount : Command → List ℕ → ℕ → Type 0
IsCount command.Drill word n = IsNumber 1 20000 word n
IsCount command.Gen word n = IsNumber 1 20000 word n
IsCount _ word n = n ≡ 0

-- the words are this line
pub record IsLine (words : List (List ℕ)) (l : Line) : Type 0 where
  pub named : option_and_then command_of (slice_get words 0) ≡ Some l.command
  pub parts : Parts
  pub cut : parts_from (drop 1 words) 1 Before ≡ Some parts
  pub shaped : IsTrue (is_shaped l.command parts)
  pub places : l.places ≡ parts.places
  pub number : IsCount l.command (first_argument words parts.places) l.number
  pub slices : IsSetting flag.Slices 1 64 4 parts.given l.slices
  pub workers : IsSetting flag.Workers 1 16 4 parts.given l.workers
  pub budget : IsSetting flag.Budget 1 10000 2000 parts.given l.budget
  pub slice : IsSetting flag.Slice 0 63 0 parts.given l.slice
  pub size : IsSetting flag.Size 1 4 2 parts.given l.size
  pub timeout : IsLimit parts.given l.timeout
  pub prover : l.prover ≡ option_map_or (λ w. w) (value_of flag.Prover parts.given) (default_prover l.command)
  pub proof : l.proof ≡ is_some (value_of flag.Proof parts.given)
