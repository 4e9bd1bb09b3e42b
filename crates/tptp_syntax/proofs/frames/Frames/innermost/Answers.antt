use Rattle.std.proofs.Common.{◌≡◌, ◌+◌, ◌-◌, ◌∙◌, sym, length, take, arith}
use Rattle.std.specs.Prelude.{reverse}
use Rattle.tptp_syntax.proofs.Scopes.{last_first}
use Rattle.tptp_syntax.proofs.frames.Frames.innermost.Goals as goal

pub returns-in_default : goal.returns-in_default
returns-in_default c =
    let xs = c.self.inside.outermost_first in
    let len : length xs ≡ (c.len.result - 1) + 1 = omega arith in
    (reverse (take (c.len.result - 1) xs), sym c.self.view_is ∙ last_first xs (c.len.result - 1) c.at.result.now len c.at.ensures)
