use Rattle.std.proofs.Common.{◌≡◌, map, sym, ap, subst, ◌∙◌, rules}
use Rattle.theory_terms.specs.Answers.{Refused}
use Rattle.theory_terms.specs.Meanings.{meaning}
use Rattle.theory_terms.specs.inner.Scopes.{variables, numbered_types}
use Rattle.theory_terms.specs.inner.Parts.{meaning_of, Reads}
use Rattle.theory_terms.proofs.Equations.{meaning_apply, meaning_truth}
use Rattle.theory_terms.proofs.Arguments.{goes_on, is_refused, refused_all}
use Rattle.theory_terms.proofs.Kept.{keeps_all, keeps_noted}
use Rattle.theory_terms.proofs.term_reader.+terms.Goals as goal

pub arguments-returns-in-Err : goal.arguments-returns-in-Err
arguments-returns-in-Err t c = record {
  read =
      is_refused (meaning c.args.text.now c.args.decls.now.declared) c.args.xs.now (variables c.args.scope.now) (meaning_of c.loop-x.whole) c.loop-x.x-index c.x-item.result _
      c.loop-x-test.true c.x-item.is c.loop-x.invariant.rest c.in-Err.e c.in-Err.ensures.read;
  keeps = λ n a h. c.argument.ensures.keeps n a (c.loop-x.invariant.keeps n a h);
  decls = c.argument.ensures.decls;
  scope = c.argument.ensures.scope;
}

pub arguments-loop-x-preserved : goal.arguments-loop-x-preserved
arguments-loop-x-preserved t c = record {
  rest =
      goes_on (meaning c.args.text.now c.args.decls.now.declared) c.args.xs.now (variables c.args.scope.now) (meaning_of c.loop-x.whole) c.loop-x.x-index c.x-item.result _
      c.loop-x-test.true c.x-item.is c.loop-x.invariant.rest (meaning_of c.in-Ok.more) c.in-Ok.ensures.read.0;
  whole = c.in-Ok.ensures.read.1;
  keeps = λ n a h. c.argument.ensures.keeps n a (c.loop-x.invariant.keeps n a h);
  decls = c.argument.ensures.decls;
  scope = c.argument.ensures.scope;
}

pub read-returns-in-Err-read : goal.read-returns-in-Err-read
read-returns-in-Err-read t c = record {
  read =
      subst (λ a. Refused a c.in-Err-read.e)
      (sym (ap (λ t. meaning c.args.text.now c.args.decls.now.declared t (variables c.args.scope.now)) c.in-Apply.is ∙ meaning_apply c.args.text.now c.args.decls.now.declared c.in-Apply.f c.in-Apply.xs (variables c.args.scope.now)))
      (refused_all _ (map (meaning c.args.text.now c.args.decls.now.declared) c.in-Apply.xs) (variables c.args.scope.now) c.in-Err-read.e
      (subst (λ f. Refused (meaning c.args.text.now c.args.decls.now.declared f (variables c.args.scope.now)) c.in-Err-read.e) c.get-in-Apply.ensures c.in-Err-read.ensures.read));
  keeps = c.in-Err-read.ensures.keeps;
  decls = c.in-Err-read.ensures.decls;
  scope = c.in-Err-read.ensures.scope;
}

pub read-returns-in-Truth-clause-read : goal.read-returns-in-Truth-clause-read
read-returns-in-Truth-clause-read t c =
    let text = c.args.text.now in
    let known = c.args.decls.now.declared in
    let scope = variables c.args.scope.now in
    let tree = ap (λ t. meaning text known t scope) c.in-Truth.is ∙ meaning_truth text known c.in-Truth.value c.in-Truth.at scope in
    subst (λ a. Reads a c.args.types.now c.truth.result) (sym tree) (c.truth.ensures c.args.types.now)

pub sided-returns-in-Ok-clause-decls : goal.sided-returns-in-Ok-clause-decls
sided-returns-in-Ok-clause-decls t c = keeps_noted c.read.new.types c.signed.new.types c.args.decls.now c.signed.ensures.keeps c.read.ensures.decls

pub sided-returns-in-Ok-clause-scope : goal.sided-returns-in-Ok-clause-scope
sided-returns-in-Ok-clause-scope t c =
    keeps_all c.args.types.now c.signed.new.types (λ n a h. c.signed.ensures.keeps n a (c.read.ensures.keeps n a h)) (numbered_types c.args.scope.now) c.requires.scope

pub binder-returns-in-Ok-clause-decls : goal.binder-returns-in-Ok-clause-decls
binder-returns-in-Ok-clause-decls t c = keeps_noted c.read.new.types c.bound.new.types c.args.decls.now c.bound.ensures.keeps c.read.ensures.decls

pub binder-returns-in-Ok-clause-scope : goal.binder-returns-in-Ok-clause-scope
binder-returns-in-Ok-clause-scope t c =
    keeps_all c.args.types.now c.bound.new.types (λ n a h. c.bound.ensures.keeps n a (c.read.ensures.keeps n a h)) (numbered_types c.args.scope.now) c.requires.scope

pub binder-returns-in-Err-clause-scope : goal.binder-returns-in-Err-clause-scope
binder-returns-in-Err-clause-scope t c = keeps_all c.args.types.now c.read.new.types c.read.ensures.keeps (numbered_types c.args.scope.now) c.requires.scope
