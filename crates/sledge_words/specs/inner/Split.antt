-- How the code's parts stand for the definition's.
use Rattle.std.specs.Prelude.{◌≡◌, ℕ, ◌+◌, List, ◌∷◌, ◌++◌, map, Option, Some, None, IsTrue, is_some}
use Rattle.std.specs.Option.{option_map_or}
use Rattle.sledge_words.specs.declared.pieces.Given as code
use Rattle.sledge_words.specs.declared.pieces.Parts as codes
use Rattle.sledge_words.specs.declared.pieces.Said as spoken
use Rattle.sledge_words.specs.declared.pieces.Said.TheVariants as speaks
use Rattle.sledge_words.specs.declared.pieces.Standing as place
use Rattle.sledge_words.specs.declared.pieces.Standing.TheVariants as stands
use Rattle.sledge_words.specs.declared.settings.Settings.{Settings}
use Rattle.sledge_words.specs.declared.option.Flag.TheVariants as flag
use Rattle.sledge_words.specs.Lines.{IsSetting, IsLimit, IsCount, first_argument, is_shaped, value_of}
use Rattle.sledge_words.specs.Options.{default_prover}
use Rattle.sledge_words.specs.declared.line.Line.{Line}
use Rattle.sledge_words.specs.declared.command.Command.{Command}
use Rattle.sledge_words.specs.Pieces.{Given, Parts, Said, Argument, Ends, Opens, Gives, Wrong, Standing, Before, Due, Behind, parts_from}

abbrev pub given_of : code.Given → Given
given_of g = record { flag = g.flag; value = g.value.now }

abbrev pub parts_of : codes.Parts → Parts
parts_of p = record { places = p.places; given = map given_of p.given }

abbrev pub said_of : spoken.Said → Said
said_of speaks.Argument = Argument
said_of speaks.Ends = Ends
said_of (speaks.Opens f) = Opens f
said_of (speaks.Gives f value) = Gives f value.now
said_of speaks.Wrong = Wrong

abbrev pub standing_of : place.Standing → Standing
standing_of stands.Before = Before
standing_of (stands.Due f) = Due f
standing_of stands.Behind = Behind

-- earlier parts before later ones
abbrev pub behind : Parts → Option Parts → Option Parts
behind old None = None
behind old (Some p) = Some (record { places = old.places ++ p.places; given = old.given ++ p.given })

-- a word that is read: the words behind it have the parts that are left, or the whole has none
abbrev pub Reads : Parts → Parts → Standing → ℕ → List ℕ → Option place.Standing → Type 0
Reads old new s k w None = (ws : List (List ℕ)) → parts_from (w ∷ ws) k s ≡ None
Reads old new s k w (Some t) = (ws : List (List ℕ)) → behind old (parts_from (w ∷ ws) k s) ≡ behind new (parts_from ws (k + 1) (standing_of t))

-- the options whose values are numbers
pub record AreSettings (given : List Given) (s : Settings) : Type 0 where
  pub slices : IsSetting flag.Slices 1 64 4 given s.slices
  pub workers : IsSetting flag.Workers 1 16 4 given s.workers
  pub budget : IsSetting flag.Budget 1 10000 2000 given s.budget
  pub slice : IsSetting flag.Slice 0 63 0 given s.slice
  pub size : IsSetting flag.Size 1 4 2 given s.size
  pub timeout : IsLimit given s.timeout

-- the values of a line's options
abbrev pub settings_of : Line → Settings
settings_of l = record { slices = l.slices; workers = l.workers; budget = l.budget; slice = l.slice; size = l.size; timeout = l.timeout }

-- arguments, number and values of a command fit
pub record Fits (words : List (List ℕ)) (c : Command) (p : Parts) (n : ℕ) (s : Settings) : Type 0 where
  pub shaped : IsTrue (is_shaped c p)
  pub number : IsCount c (first_argument words p.places) n
  pub settings : AreSettings p.given s

abbrev pub NoValues : List (List ℕ) → Command → Parts → Type 0
NoValues words c p = (n : ℕ) (s : Settings) → Fits words c p n s → ⊥

-- the line of a command with these parts and values
abbrev pub IsLineOf : Command → Parts → ℕ → Settings → Line → Type 0
IsLineOf c p n s l =
    l ≡ record {
      command = c;
      places = p.places;
      number = n;
      slices = s.slices;
      workers = s.workers;
      budget = s.budget;
      slice = s.slice;
      size = s.size;
      timeout = s.timeout;
      prover = option_map_or (λ w. w) (value_of flag.Prover p.given) (default_prover c);
      proof = is_some (value_of flag.Proof p.given);
    }
