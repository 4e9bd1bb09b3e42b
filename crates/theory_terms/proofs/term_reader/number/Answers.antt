use Rattle.theory_terms.specs.inner.Scopes.{numbered_types}
use Rattle.theory_terms.proofs.Kept.{keeps_all, keeps_noted}
use Rattle.theory_terms.proofs.term_reader.number.Goals as goal

pub returns-clause-decls : goal.returns-clause-decls
returns-clause-decls c = keeps_noted c.args.types.now c.number.new.self c.args.decls.now c.number.ensures.keeps c.requires.decls

pub returns-clause-scope : goal.returns-clause-scope
returns-clause-scope c = keeps_all c.args.types.now c.number.new.self c.number.ensures.keeps (numbered_types c.args.scope.now) c.requires.scope

pub returns-in_err-number-clause-decls : goal.returns-in_err-number-clause-decls
returns-in_err-number-clause-decls c = keeps_noted c.args.types.now c.number.new.self c.args.decls.now c.number.ensures.keeps c.requires.decls

pub returns-in_err-number-clause-scope : goal.returns-in_err-number-clause-scope
returns-in_err-number-clause-scope c = keeps_all c.args.types.now c.number.new.self c.number.ensures.keeps (numbered_types c.args.scope.now) c.requires.scope
