use Rattle.proof_syntax.specs.Reading.{never_starts}
use Rattle.proof_reader.proofs.TextPieces as pieces
use Rattle.proof_reader.proofs.reader.read_text.Goals as goal

pub overflow_sub-result : goal.overflow_sub-result
overflow_sub-result c = pieces.stops_within c.args.theory.now c.args.text.now c.in-Some.body.now c.in-Some.ensures c.in-Err-Stops.left
    (rw c.in-Err-Stops.field-0-is at c.in-Err-Stops.ensures.read)

pub overflow_sub-result-in-Err-GoesBeyond : goal.overflow_sub-result-in-Err-GoesBeyond
overflow_sub-result-in-Err-GoesBeyond c = pieces.beyond_within c.args.theory.now c.args.text.now c.in-Some.body.now c.in-Some.ensures c.in-Err-GoesBeyond.left
    (rw c.in-Err-GoesBeyond.field-0-is at c.in-Err-GoesBeyond.ensures.read)

pub returns-in-None-clause-read : goal.returns-in-None-clause-read
returns-in-None-clause-read c = never_starts c.in-None.ensures

pub returns-in-Err-Stops-clause-read : goal.returns-in-Err-Stops-clause-read
returns-in-Err-Stops-clause-read c = pieces.stops_there c.args.theory.now c.args.text.now c.in-Some.body.now c.in-Some.ensures c.in-Err-Stops.left
    (rw c.in-Err-Stops.field-0-is at c.in-Err-Stops.ensures.read)

pub returns-in-Err-GoesBeyond-clause-read : goal.returns-in-Err-GoesBeyond-clause-read
returns-in-Err-GoesBeyond-clause-read c = pieces.beyond_there c.args.theory.now c.args.text.now c.in-Some.body.now c.in-Some.ensures c.in-Err-GoesBeyond.left
    (rw c.in-Err-GoesBeyond.field-0-is at c.in-Err-GoesBeyond.ensures.read)
