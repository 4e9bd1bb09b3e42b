use Rattle.std.proofs.Common.{◌≡◌, List, ◌++◌, [], sym, ap, subst, arith}
use Rattle.theory_syntax.specs.declared.tree.Item.{Item}
use Rattle.theory_terms.specs.Answers.{Good}
use Rattle.theory_reader.specs.Declaring.{declared_all, nothing}
use Rattle.theory_reader.specs.inner.Stages.{so_far}
use Rattle.theory_reader.proofs.Joined.{none_read, pieces_join, declared_join}
use Rattle.theory_reader.proofs.reader.statements.Goals as goal

pub statements-init : goal.statements-init
statements-init c = record {
  within = omega arith;
  items = [];
  read = none_read c.args.text.now;
  declared = ap Good (sym c.begin-parts.ensures.nothing);
  agrees = c.begin-parts.ensures.agrees;
}

pub statements-preserved : goal.statements-preserved
statements-preserved c =
    let done = c.statements.invariant in record {
      within = omega arith;
      items = done.items ++ c.in_ok-items.items;
      read = pieces_join c.args.text.now 0 c.statements.at _ done.items c.in_ok-items.items done.read c.in_ok-items.ensures;
      declared = declared_join c.args.text.now nothing (so_far c.statements.parts) (so_far c.declare.new.parts) done.items c.in_ok-items.items done.declared
          (subst (λ (ds : List Item). declared_all c.args.text.now (so_far c.statements.parts) ds ≡ Good (so_far c.declare.new.parts)) c.as_slice.ensures c.in_ok-declare.ensures.0);
      agrees = c.in_ok-declare.ensures.1;
    }
