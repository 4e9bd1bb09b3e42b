-- Refusals of the parts of the reader as refusals of the whole, with places from the output's first byte.
use Rattle.std.specs.Prelude.{ℕ, ◌+◌, ◌<◌, ◌^◌}
use Rattle.tstp_read.specs.declared.answer.UsedFault.{UsedFault}
use Rattle.tstp_read.specs.declared.answer.UsedFault.TheVariants as used
use Rattle.tstp_read.specs.declared.tokens.CutFault.{CutFault}
use Rattle.tstp_read.specs.declared.tokens.CutFault.TheVariants as cut
use Rattle.tstp_read.specs.declared.statements.ReadFault.{ReadFault}
use Rattle.tstp_read.specs.declared.statements.ReadFault.TheVariants as read

abbrev pub cut_fault : ℕ → CutFault → UsedFault
cut_fault from (cut.BadByte at) = used.BadText (from + at)
cut_fault from cut.NoMemory = used.NoMemory

abbrev pub FitsCut : ℕ → CutFault → Type 0
FitsCut from (cut.BadByte at) = from + at < 2 ^ 64
FitsCut from cut.NoMemory = Unit {0}

abbrev pub read_fault : ℕ → ReadFault → UsedFault
read_fault from (read.Stop at) = used.BadText (from + at)
read_fault from read.NoMemory = used.NoMemory

abbrev pub FitsRead : ℕ → ReadFault → Type 0
FitsRead from (read.Stop at) = from + at < 2 ^ 64
FitsRead from read.NoMemory = Unit {0}
