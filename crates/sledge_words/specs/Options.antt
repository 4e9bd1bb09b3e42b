-- The commands and the options that each of them takes.
use Rattle.std.specs.Prelude.{ℕ, Bool, true, false, if◌then◌else◌, List, codes, Option, Some, None}
use Rattle.std.specs.Str.{bytes_eq}
use Rattle.sledge_words.specs.declared.command.Command.{Command}
use Rattle.sledge_words.specs.declared.command.Command.TheVariants as command
use Rattle.sledge_words.specs.declared.option.Flag.{Flag}
use Rattle.sledge_words.specs.declared.option.Flag.TheVariants as flag

-- the command of this name
abbrev pub command_of : List ℕ → Option Command
command_of w =
    if bytes_eq w (codes "prove") then Some command.Prove
    else (if bytes_eq w (codes "drill") then Some command.Drill
    else (if bytes_eq w (codes "metis") then Some command.Metis
    else (if bytes_eq w (codes "check") then Some command.Check
    else (if bytes_eq w (codes "filter") then Some command.Filter
    else (if bytes_eq w (codes "problem") then Some command.Problem
    else (if bytes_eq w (codes "gen") then Some command.Gen
    else (if bytes_eq w (codes "model") then Some command.Model
    else (if bytes_eq w (codes "refute") then Some command.Refute
    else (if bytes_eq w (codes "chain") then Some command.Chain
    else (if bytes_eq w (codes "batch") then Some command.Batch
    else None))))))))))

-- the option of this name
abbrev pub flag_of : List ℕ → Option Flag
flag_of w =
    if bytes_eq w (codes "--slices") then Some flag.Slices
    else (if bytes_eq w (codes "--workers") then Some flag.Workers
    else (if bytes_eq w (codes "--budget") then Some flag.Budget
    else (if bytes_eq w (codes "--timeout") then Some flag.Timeout
    else (if bytes_eq w (codes "--prover") then Some flag.Prover
    else (if bytes_eq w (codes "--slice") then Some flag.Slice
    else (if bytes_eq w (codes "--size") then Some flag.Size
    else (if bytes_eq w (codes "--proof") then Some flag.Proof
    else None)))))))

-- the options that a command takes
abbrev pub takes : Command → Flag → Bool
takes command.Prove flag.Slices = true
takes command.Prove flag.Workers = true
takes command.Prove flag.Budget = true
takes command.Prove flag.Timeout = true
takes command.Prove flag.Prover = true
takes command.Prove flag.Proof = true
takes command.Drill flag.Workers = true
takes command.Drill flag.Prover = true
takes command.Metis flag.Budget = true
takes command.Metis flag.Proof = true
takes command.Filter flag.Slice = true
takes command.Problem flag.Slice = true
takes command.Model flag.Size = true
takes command.Refute flag.Workers = true
takes command.Refute flag.Prover = true
takes command.Chain flag.Budget = true
takes command.Chain flag.Proof = true
takes command.Batch flag.Slices = true
takes command.Batch flag.Workers = true
takes command.Batch flag.Budget = true
takes command.Batch flag.Timeout = true
takes command.Batch flag.Prover = true
takes _ _ = false

-- how many arguments a command has, where facts may follow
abbrev pub arguments : Command → ℕ
arguments command.Prove = 2
arguments command.Drill = 1
arguments command.Metis = 2
arguments command.Check = 2
arguments command.Filter = 2
arguments command.Problem = 2
arguments command.Gen = 1
arguments command.Model = 2
arguments command.Refute = 2
arguments command.Chain = 3
arguments command.Batch = 1

-- facts may follow the arguments
abbrev pub has_facts : Command → Bool
has_facts command.Metis = true
has_facts command.Model = true
has_facts command.Refute = true
has_facts _ = false

-- the prover where none is given
abbrev pub default_prover : Command → List ℕ
default_prover command.Refute = codes "sledge"
default_prover _ = codes "sledge_atp"
