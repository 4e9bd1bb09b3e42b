use Rattle.theory_reader.specs.Reading as faulty
use Rattle.theory_reader.proofs.items.token_fault.Goals as goal

pub returns-in-BadByte : goal.returns-in-BadByte
returns-in-BadByte c = faulty.bad_byte (rw c.in-BadByte.is at c.requires)
