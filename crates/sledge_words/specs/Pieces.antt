-- How the words behind a command are cut into arguments and options.
use Rattle.std.specs.Prelude.{ℕ, ◌+◌, ◌==◌, Bool, true, false, not, ◌&&◌, if◌then◌else◌, List, [], ◌∷◌, codes, Option, Some, None}
use Rattle.std.specs.List.{list_any, before_first, after_first}
use Rattle.std.specs.Str.{bytes_eq}
use Rattle.sledge_words.specs.declared.option.Flag.{Flag}
use Rattle.sledge_words.specs.declared.option.Flag.TheVariants as flag
use Rattle.sledge_words.specs.Options.{flag_of}

-- an option with its value; `--proof` has the empty one
pub record Given : Type 0 where
  pub flag : Flag
  pub value : List ℕ

-- the places of the arguments among all words, and the options, each in the order of the words
pub record Parts : Type 0 where
  pub places : List ℕ
  pub given : List Given

abbrev pub nothing : Parts
nothing = record { places = []; given = [] }

abbrev pub with_argument : ℕ → Option Parts → Option Parts
with_argument place None = None
with_argument place (Some p) = Some (record p { places = place ∷ p.places })

abbrev pub with_option : Flag → List ℕ → Option Parts → Option Parts
with_option f value None = None
with_option f value (Some p) = Some (record p { given = record { flag = f; value = value } ∷ p.given })

-- a word that may be an argument or a value before `--`: it isn't empty and doesn't begin with `-`
abbrev pub is_plain : List ℕ → Bool
is_plain [] = false
is_plain (b ∷ bs) = not (b == 45)

-- a word that may be an argument behind `--`: it isn't empty and isn't `-`
abbrev pub is_argument : List ℕ → Bool
is_argument [] = false
is_argument (b ∷ bs) = not (bytes_eq (b ∷ bs) (codes "-"))

-- every option but `--proof` has a value
abbrev pub has_value : Flag → Bool
has_value flag.Proof = false
has_value _ = true

-- what a word is before `--`
pub data Said : Type 0 where
  Argument : Said
  -- `--`
  Ends : Said
  -- an option whose value is the next word
  Opens : Flag → Said
  -- a whole option, with what follows `=` as its value
  Gives : Flag → List ℕ → Said
  Wrong : Said

abbrev pub opened : Option Flag → Said
opened None = Wrong
opened (Some f) = if has_value f then Opens f else Gives f []

abbrev pub joined : Option Flag → List ℕ → Said
joined None value = Wrong
joined (Some f) value = if has_value f && is_plain value then Gives f value else Wrong

abbrev pub said : List ℕ → Said
said w =
    if is_plain w then Argument
    else (if bytes_eq w (codes "--") then Ends
    else (if list_any (λ b. b == 61) w then joined (flag_of (before_first (λ b. b == 61) w)) (after_first (λ b. b == 61) w)
    else opened (flag_of w)))

-- where in a line a word stands: before `--`, where the value of an option is due, or behind `--`
pub data Standing : Type 0 where
  Before : Standing
  Due : Flag → Standing
  Behind : Standing

-- what a word before `--` says, with the parts of the words behind it
abbrev pub before : Said → ℕ → (Standing → Option Parts) → Option Parts
before Argument place rest = with_argument place (rest Before)
before Ends place rest = rest Behind
before (Opens f) place rest = rest (Due f)
before (Gives f value) place rest = with_option f value (rest Before)
before Wrong place rest = None

-- a word at this place, with the parts of the words behind it
abbrev pub read_word : Standing → ℕ → List ℕ → (Standing → Option Parts) → Option Parts
read_word Before place w rest = before (said w) place rest
read_word (Due f) place w rest = if is_plain w then with_option f w (rest Before) else None
read_word Behind place w rest = if is_argument w then with_argument place (rest Behind) else None

-- the end of the words, where no value is due
abbrev pub ended : Standing → Option Parts
ended Before = Some nothing
ended (Due f) = None
ended Behind = Some nothing

-- the parts of the words from a place on, where they have some
abbrev pub parts_from : List (List ℕ) → ℕ → Standing → Option Parts
parts_from [] place s = ended s
parts_from (w ∷ ws) place s = read_word s place w (parts_from ws (place + 1))
