use Rattle.std.proofs.Common.{◌∷◌, subst, ap, ◌∙◌}
use Rattle.std.proofs.lemmas.Result.{MatchResult-weaker}
use Rattle.theory_syntax.specs.inner.Parts.{IsNot}
use Rattle.theory_syntax.proofs.TermPieces as pieces
use Rattle.theory_syntax.proofs.term_reader.+terms.Goals as goal

pub atom-returns-in-Word : goal.atom-returns-in-Word
atom-returns-in-Word t c = pieces.a_name c.args.limit c.args.level c.args.toks.now _ _ c.requires c.in-Word.ensures

pub atom-returns-in-Truth : goal.atom-returns-in-Truth
atom-returns-in-Truth t c = pieces.a_truth c.args.limit c.args.level c.args.toks.now _ _ _ c.requires c.in-Truth.ensures

pub atom-returns-in-Err : goal.atom-returns-in-Err
atom-returns-in-Err t c = pieces.open_fails c.args.limit c.args.level c.args.toks.now _ _ _ c.requires c.in-Open.ensures c.in-Err.ensures

pub atom-returns-in-None : goal.atom-returns-in-None
atom-returns-in-None t c = pieces.unclosed c.args.limit c.args.level c.args.toks.now _ _ _ _ c.requires c.in-Open.ensures c.in-Ok.ensures c.in-None.ensures

pub atom-returns-in-Ok-round : goal.atom-returns-in-Ok-round
atom-returns-in-Ok-round t c = rw c.in-Ok-round.ensures (pieces.closed c.args.limit c.args.level c.args.toks.now _ _ _ _ _ c.requires c.in-Open.ensures c.in-Ok.ensures c.in-Some.ensures)

pub atom-returns-in-Other : goal.atom-returns-in-Other
atom-returns-in-Other t c = pieces.no_atom c.args.limit c.args.level c.args.toks.now c.in-Other.ensures

pub app-returns-in-Err : goal.app-returns-in-Err
app-returns-in-Err t c = pieces.app_fails c.args.limit c.args.level c.args.toks.now _ c.in-Err.ensures

pub app-returns-in-Ok : goal.app-returns-in-Ok
app-returns-in-Ok t c = MatchResult-weaker c.args-in-Ok.result c.args-in-Ok.ensures
    (λ r h. pieces.applied c.args.limit c.args.level c.args.toks.now _ _ _ _ c.in-Ok.ensures h) (λ e h. pieces.args_fail c.args.limit c.args.level c.args.toks.now _ _ e c.in-Ok.ensures h)

pub args-more-init : goal.args-more-init
args-more-init t c = pieces.begins c.args.limit c.args.level c.args.head c.args.toks.now c.requires

pub args-more-preserved : goal.args-more-preserved
args-more-preserved t c = rw c.in-Ok-apply.ensures (pieces.goes_on c.args.limit c.args.level c.args.head c.args.toks.now _ _ _ _ c.more.invariant c.in-Ok.ensures)

pub args-more-smaller : goal.args-more-smaller
args-more-smaller t c = pieces.shorter c.args.limit c.args.level _ _ _ c.in-Ok.ensures

pub args-returns-in-Err : goal.args-returns-in-Err
args-returns-in-Err t c = pieces.arg_fails c.args.limit c.args.level c.args.head c.args.toks.now _ _ _ c.more.invariant c.more-test.ensures c.in-Err.ensures

pub args-returns : goal.args-returns
args-returns t c = pieces.args_end c.args.limit c.args.level c.args.head c.args.toks.now _ _ c.more.invariant c.more-test.ensures

pub eq-returns-in-Err : goal.eq-returns-in-Err
eq-returns-in-Err t c = pieces.eq_fails c.args.limit c.args.level c.args.toks.now _ c.in-Err.ensures

pub eq-returns-in-None : goal.eq-returns-in-None
eq-returns-in-None t c = pieces.eq_alone c.args.limit c.args.level c.args.toks.now _ _ c.in-Ok.ensures c.in-None.ensures

pub eq-returns-in-Err-app : goal.eq-returns-in-Err-app
eq-returns-in-Err-app t c = pieces.eq_right_fails c.args.limit c.args.level c.args.toks.now _ _ _ _ c.in-Ok.ensures c.in-Some.ensures c.in-Err-app.ensures

pub eq-returns-in-Some-behind : goal.eq-returns-in-Some-behind
eq-returns-in-Some-behind t c = pieces.eq_again c.args.limit c.args.level c.args.toks.now _ _ _ _ _ _ c.in-Ok.ensures c.in-Some.ensures c.in-Ok-app.ensures c.in-Some-behind.ensures

pub eq-returns-in-Ok-equals : goal.eq-returns-in-Ok-equals
eq-returns-in-Ok-equals t c = rw c.in-Ok-equals.ensures (pieces.eq_both c.args.limit c.args.level c.args.toks.now _ _ _ _ _ c.in-Ok.ensures c.in-Some.ensures c.in-Ok-app.ensures c.in-None-behind.ensures)

pub eq_as_neg-returns-in-Err : goal.eq_as_neg-returns-in-Err
eq_as_neg-returns-in-Err t c = pieces.same_fails c.args.limit c.args.level c.args.toks.now _ c.requires.start c.in-Err.ensures

pub eq_as_neg-returns-in-Ok : goal.eq_as_neg-returns-in-Ok
eq_as_neg-returns-in-Ok t c = pieces.same_ok c.args.limit c.args.level c.args.toks.now _ _ c.in-Ok.ensures

pub neg-returns-in-Err : goal.neg-returns-in-Err
neg-returns-in-Err t c = pieces.not_fails c.args.limit c.args.level c.args.toks.now _ _ _ c.requires c.in-Some.ensures c.in-Err.ensures

pub neg-returns-in-Ok-not : goal.neg-returns-in-Ok-not
neg-returns-in-Ok-not t c = rw c.in-Ok-not.ensures (pieces.not_ok c.args.limit c.args.level c.args.toks.now _ _ _ _ c.requires c.in-Some.ensures c.in-Ok.ensures)

pub chain-returns-in-Err : goal.chain-returns-in-Err
chain-returns-in-Err t c = pieces.chain_fails c.args.limit c.args.level c.args.toks.now c.args.op _ c.in-Err.ensures

pub chain-returns-in-None : goal.chain-returns-in-None
chain-returns-in-None t c = pieces.chain_alone c.args.limit c.args.level c.args.toks.now c.args.op _ _ c.in-Ok.ensures (subst (λ x. IsNot x c.in-Ok.end.now) c.sign_of.ensures c.in-None.ensures)

pub chain-returns-in-Err-right_part : goal.chain-returns-in-Err-right_part
chain-returns-in-Err-right_part t c = pieces.chain_right_fails c.args.limit c.args.level c.args.toks.now c.args.op _ _ _ _ c.in-Ok.ensures (c.in-Some.ensures ∙ ap (λ x. x ∷ c.in-Some.more.now) c.sign_of.ensures) c.in-Err-right_part.ensures

pub chain-returns-in-Ok-join : goal.chain-returns-in-Ok-join
chain-returns-in-Ok-join t c = rw c.in-Ok-join.ensures (pieces.chain_both c.args.limit c.args.level c.args.toks.now c.args.op _ _ _ _ _ c.in-Ok.ensures (c.in-Some.ensures ∙ ap (λ x. x ∷ c.in-Some.more.now) c.sign_of.ensures) c.in-Ok-right_part.ensures)

pub plain-returns-in-Err : goal.plain-returns-in-Err
plain-returns-in-Err t c = pieces.plain_fails c.args.limit c.args.level c.args.toks.now _ c.requires.start c.in-Err.ensures

pub plain-returns-in-Ok : goal.plain-returns-in-Ok
plain-returns-in-Ok t c = pieces.plain_ok c.args.limit c.args.level c.args.toks.now _ _ c.in-Ok.ensures

pub binder-returns-in-None : goal.binder-returns-in-None
binder-returns-in-None t c = pieces.no_name c.args.limit c.args.level c.args.toks.now c.args.q c.args.n c.args.bound.now c.requires.room c.requires.start c.in-None.ensures

pub binder-returns-in-None-behind : goal.binder-returns-in-None-behind
binder-returns-in-None-behind t c = pieces.no_colon c.args.limit c.args.level c.args.toks.now c.args.q c.args.n c.args.bound.now c.requires.room c.requires.start _ _ c.in-Some.ensures c.in-None-behind.ensures

pub binder-returns-in-Err : goal.binder-returns-in-Err
binder-returns-in-Err t c = pieces.type_fails c.args.limit c.args.level c.args.toks.now c.args.q c.args.n c.args.bound.now c.requires.room c.requires.start _ _ c.in-Some.ensures _ c.in-Some-behind.ensures _ c.in-Err.ensures

pub binder-returns-in-None-behind-2 : goal.binder-returns-in-None-behind-2
binder-returns-in-None-behind-2 t c = pieces.no_dot c.args.limit c.args.level c.args.toks.now c.args.q c.args.n c.args.bound.now c.requires.room c.requires.start _ _ c.in-Some.ensures _ c.in-Some-behind.ensures _ _ c.in-Ok.ensures c.in-None-behind-2.ensures

pub binder-returns-in-Err-deeper : goal.binder-returns-in-Err-deeper
binder-returns-in-Err-deeper t c = pieces.body_fails c.args.limit c.args.level c.args.toks.now c.args.q c.args.n c.args.bound.now c.requires.room c.requires.start _ _ c.in-Some.ensures _ c.in-Some-behind.ensures _ _ c.in-Ok.ensures _ c.in-Some-behind-2.ensures _ c.in-Err-deeper.ensures

pub binder-returns-in-Ok-bind : goal.binder-returns-in-Ok-bind
binder-returns-in-Ok-bind t c = rw c.in-Ok-bind.ensures (pieces.bound_ok c.args.limit c.args.level c.args.toks.now c.args.q c.args.n c.args.bound.now c.requires.room c.requires.start _ _ c.in-Some.ensures _ c.in-Some-behind.ensures _ _ c.in-Ok.ensures _ c.in-Some-behind-2.ensures _ _ c.in-Ok-deeper.ensures)
