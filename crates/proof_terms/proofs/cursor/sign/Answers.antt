use Rattle.proof_terms.proofs.Front as front
use Rattle.proof_terms.proofs.cursor.sign.Goals as goal

pub returns-else-first-wanted : goal.returns-else-first-wanted
returns-else-first-wanted c = front.other_front c.args.wanted c.args.text.now c.if-first-wanted.false c.in-len1-up.len_at_least
