use Rattle.std.proofs.Common.{sym, rules, ◌∙◌}
use Rattle.proof_terms.proofs.Front as front
use Rattle.proof_terms.proofs.cursor.word.Goals as goal

pub returns-then-len-eq0 : goal.returns-then-len-eq0
returns-then-len-eq0 c = front.no_word_front c.args.text.now (sym c.word_len-len.ensures.value ∙ c.if-len-eq0.true)

pub returns-else-len-eq0 : goal.returns-else-len-eq0
returns-else-len-eq0 c = rw (c.split_at.ensures.front, c.split_at.ensures.back, c.word_len-len.ensures.value)
    (front.word_front c.args.text.now (search rules))
