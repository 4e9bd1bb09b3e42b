use Rattle.std.proofs.Common.{inr, arith}
use Rattle.proof_syntax.specs.Tokens.{cut}
use Rattle.proof_terms.proofs.Front.{word_within}
use Rattle.proof_terms.proofs.number_reader.read_number.Goals as goal

pub overflow_sub-result : goal.overflow_sub-result
overflow_sub-result c =
    omega (arith, c.in-Begins.ensures.room, word_within c.in-Some.digits.now c.args.text.now (cut c.in-Some.rest.now) c.in-Some.ensures)

pub returns-in-Begins : goal.returns-in-Begins
returns-in-Begins c =
    let less = c.in-Begins.ensures.room in
    let within = word_within c.in-Some.digits.now c.args.text.now (cut c.in-Some.rest.now) c.in-Some.ensures in
    inr (record {
      word = c.in-Some.digits.now;
      rest = cut c.in-Some.rest.now;
      tokens = c.in-Some.ensures;
      into = c.in-Begins.len;
      shares = c.in-Begins.ensures;
      count = omega arith;
    })
