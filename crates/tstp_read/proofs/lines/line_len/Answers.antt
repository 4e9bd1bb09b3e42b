use Rattle.std.proofs.Common.{◌≡◌, Some, None, sym, subst}
use Rattle.memchr.specs.Find.{IsFirstByte, is_byte}
use Rattle.tstp_read.proofs.LineEnds.{first_end, no_end}
use Rattle.tstp_read.proofs.lines.line_len.Goals as goal

pub returns-in-Some-clause-value : goal.returns-in-Some-clause-value
returns-in-Some-clause-value c =
    sym (first_end c.args.text.now c.in-Some.at (subst (IsFirstByte (is_byte 10) c.args.text.now) c.in-Some.is c.find_byte.ensures))

pub returns-in-None-clause-value : goal.returns-in-None-clause-value
returns-in-None-clause-value c =
    sym (no_end c.args.text.now (subst (IsFirstByte (is_byte 10) c.args.text.now) c.in-None.is c.find_byte.ensures))
