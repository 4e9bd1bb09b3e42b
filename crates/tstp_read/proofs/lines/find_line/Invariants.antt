use Rattle.std.proofs.Common.{◌≡◌, ◌-◌, ◌≤◌, length, drop, true}
use Rattle.tstp_read.specs.Lines.{line_with}
use Rattle.tstp_read.proofs.Cutting as cutting
use Rattle.tstp_read.proofs.lines.find_line.Given as goal

abbrev pub invariant-lines : goal.invariant-lines
invariant-lines l = (l.from ≤ l.at) × (l.at ≤ length l.text) × (line_with l.words true l.from (drop l.from l.text) ≡ line_with l.words true l.at (drop l.at l.text))

abbrev pub decreases-lines : goal.decreases-lines
decreases-lines l = length l.text - l.at
