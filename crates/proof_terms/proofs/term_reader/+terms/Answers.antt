use Rattle.proof_terms.proofs.Atoms as atoms
use Rattle.proof_terms.proofs.Nested as nested
use Rattle.proof_terms.proofs.term_reader.+terms.Goals as goal

pub read_application-returns-in-Err : goal.read_application-returns-in-Err
read_application-returns-in-Err t c = λ text eq. nested.no_function c.args.names.now c.args.level text c.requires c.args.inner.now eq _ c.in-Err.ensures

pub read_application-returns-in-None : goal.read_application-returns-in-None
read_application-returns-in-None t c = λ text eq. nested.no_space c.args.names.now c.args.level text c.requires c.args.inner.now eq _ _ c.in-Ok.ensures c.in-None.ensures

pub read_application-returns-in-Err-read_term : goal.read_application-returns-in-Err-read_term
read_application-returns-in-Err-read_term t c = λ text eq. nested.no_argument c.args.names.now c.args.level text c.requires c.args.inner.now eq _ _ c.in-Ok.ensures _ c.in-Some.ensures _ c.in-Err-read_term.ensures

pub read_application-returns-in-None-sign : goal.read_application-returns-in-None-sign
read_application-returns-in-None-sign t c = λ text eq. nested.no_close c.args.names.now c.args.level text c.requires c.args.inner.now eq _ _ c.in-Ok.ensures _ c.in-Some.ensures _ _ c.in-Ok-read_term.ensures
    c.in-None-sign.ensures

pub read_application-returns-in-Ok-applied : goal.read_application-returns-in-Ok-applied
read_application-returns-in-Ok-applied t c = λ text eq. rw c.in-Ok-applied.ensures (nested.application c.args.names.now c.args.level text c.requires c.args.inner.now eq _ _ c.in-Ok.ensures _ c.in-Some.ensures _ _
    c.in-Ok-read_term.ensures _ c.in-Some-sign.ensures)

pub read_lambda-returns-in-Err : goal.read_lambda-returns-in-Err
read_lambda-returns-in-Err t c = λ text eq. nested.no_bound_type c.args.names.now c.args.level text c.requires c.args.inner.now eq _ (c.in-Err.ensures _ (nested.deeper c.args.names.now c.args.level text c.requires))

pub read_lambda-returns-in-None : goal.read_lambda-returns-in-None
read_lambda-returns-in-None t c = λ text eq. nested.no_brace c.args.names.now c.args.level text c.requires c.args.inner.now eq _ _ (c.in-Ok.ensures _ (nested.deeper c.args.names.now c.args.level text c.requires))
    c.in-None.ensures

pub read_lambda-returns-in-Err-read_term : goal.read_lambda-returns-in-Err-read_term
read_lambda-returns-in-Err-read_term t c = λ text eq. nested.no_body c.args.names.now c.args.level text c.requires c.args.inner.now eq _ _
    (c.in-Ok.ensures _ (nested.deeper c.args.names.now c.args.level text c.requires)) _ c.in-Some.ensures _ c.in-Err-read_term.ensures

pub read_lambda-returns-in-Ok-abstracted : goal.read_lambda-returns-in-Ok-abstracted
read_lambda-returns-in-Ok-abstracted t c = λ text eq. rw c.in-Ok-abstracted.ensures (nested.lambda_whole c.args.names.now c.args.level text c.requires c.args.inner.now eq _ _
    (c.in-Ok.ensures _ (nested.deeper c.args.names.now c.args.level text c.requires)) _ c.in-Some.ensures _ _ c.in-Ok-read_term.ensures)

pub read_term-returns-else-level-lt-DEEPEST : goal.read_term-returns-else-level-lt-DEEPEST
read_term-returns-else-level-lt-DEEPEST t c = nested.too_deep_round c.args.names.now c.args.level c.args.text.now c.in-Round.inner.now c.if-level-lt-DEEPEST.false c.in-Round.ensures

pub read_term-returns-else-level-lt-DEEPEST-2 : goal.read_term-returns-else-level-lt-DEEPEST-2
read_term-returns-else-level-lt-DEEPEST-2 t c = nested.too_deep_brace c.args.names.now c.args.level c.args.text.now c.in-Brace.inner.now c.if-level-lt-DEEPEST-2.false c.in-Brace.ensures

pub read_term-returns-in-Other : goal.read_term-returns-in-Other
read_term-returns-in-Other t c = atoms.no_term c.args.names.now c.args.level c.requires c.args.text.now c.in-Other.ensures
