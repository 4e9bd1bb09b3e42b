use Rattle.std.proofs.Common.{◌≡◌, ℕ, ◌+◌, ◌*◌, ◌<◌, Option, List, length, subst, sym, arith}
use Rattle.hol_terms.specs.declared.ty.Ty.{Ty}
use Rattle.proof_syntax.specs.Tokens.{Greater, CloseRound}
use Rattle.proof_syntax.specs.Names.{Names}
use Rattle.proof_terms.specs.declared.sides.Side.{Side}
use Rattle.proof_terms.proofs.Around.{SoFar}
use Rattle.proof_terms.proofs.Front.{sign_shorter}
use Rattle.proof_terms.proofs.TypeTurns as turns
use Rattle.proof_terms.proofs.TypeTurns.{wanted}
use Rattle.proof_terms.proofs.type_reader.read_type.Goals as goal

-- what was read, where it is known whether a type is wanted
known : {names : Names} {l : ℕ} {text rest : List ℕ} {s : List Side} {had o : Option Ty} → had ≡ o → SoFar names l text s had rest → SoFar names l text s o rest
known {names} {l} {text} {rest} {s} is g = subst (λ h. SoFar names l text s h rest) is g

pub tokens-init : goal.tokens-init
tokens-init c = λ l room. rw c.begin-sides.ensures (turns.start c.args.names.now l room c.args.text.now)

pub returns-in-Err : goal.returns-in-Err
returns-in-Err c = λ l room. turns.began_not c.args.names.now l room c.args.text.now c.tokens.sides c.tokens.rest.now _ (known c.in-None.is (c.tokens.invariant l room)) (rw c.types.ensures at c.in-Err.ensures)

pub tokens-smaller-in-Ok : goal.tokens-smaller-in-Ok
tokens-smaller-in-Ok c = subst (λ had. 2 * length c.in-Ok.end.now + wanted c.in-Ok.base < 2 * length c.tokens.rest.now + wanted had) (sym c.in-None.is)
    (turns.began_shorter c.types.result.now c.tokens.sides _ c.in-Ok.base c.tokens.rest.now c.in-Ok.end.now c.in-Ok.ensures)

pub tokens-preserved-in-Ok : goal.tokens-preserved-in-Ok
tokens-preserved-in-Ok c = λ l room. turns.began c.args.names.now l room c.args.text.now c.tokens.sides _ c.in-Ok.base c.tokens.rest.now c.in-Ok.end.now (known c.in-None.is (c.tokens.invariant l room))
    (rw c.types.ensures at c.in-Ok.ensures)

pub returns-in-Err-go_on : goal.returns-in-Err-go_on
returns-in-Err-go_on c = λ l room. turns.gone_on_not c.args.names.now l room c.args.text.now c.tokens.sides c.in-Some.part c.tokens.rest.now _ (known c.in-Some.is (c.tokens.invariant l room)) c.in-Err-go_on.ensures

pub returns-in-Ok-Ends : goal.returns-in-Ok-Ends
returns-in-Ok-Ends c = λ l room. let h = rw c.in-Ok-Ends.field-0-is at c.in-Ok-Ends.ensures in
    turns.ended c.args.names.now l room c.args.text.now c.tokens.sides c.in-Some.part c.in-Ok-Ends.whole c.tokens.rest.now (known c.in-Some.is (c.tokens.invariant l room)) h.0 h.1

pub tokens-smaller-in-Ok-Wants : goal.tokens-smaller-in-Ok-Wants
tokens-smaller-in-Ok-Wants c = let h = rw c.in-Ok-Wants.field-0-is at c.in-Ok-Wants.ensures in
    omega (arith, sign_shorter Greater c.tokens.rest.now c.in-Ok-Wants.more.now h.3)

pub tokens-preserved-in-Ok-Wants : goal.tokens-preserved-in-Ok-Wants
tokens-preserved-in-Ok-Wants c = λ l room. turns.turned c.args.names.now l room c.args.text.now c.tokens.sides _ c.in-Some.part c.tokens.rest.now c.in-Ok-Wants.more.now
    (known c.in-Some.is (c.tokens.invariant l room)) (rw c.in-Ok-Wants.field-0-is at c.in-Ok-Wants.ensures)

pub tokens-smaller : goal.tokens-smaller
tokens-smaller c = let h = rw c.in-Ok-Has.field-0-is at c.in-Ok-Has.ensures in
    omega (arith, sign_shorter CloseRound c.tokens.rest.now c.in-Ok-Has.end.now h.3)

pub tokens-preserved : goal.tokens-preserved
tokens-preserved c = λ l room. turns.closed c.args.names.now l room c.args.text.now c.tokens.sides _ c.in-Some.part c.in-Ok-Has.whole c.tokens.rest.now c.in-Ok-Has.end.now
    (known c.in-Some.is (c.tokens.invariant l room)) (rw c.in-Ok-Has.field-0-is at c.in-Ok-Has.ensures)
