use Rattle.tagged_terms.specs.Readings.{signs_of}
use Rattle.clause_instances.proofs.Answered.{if_ok_map}
use Rattle.hol_lift.proofs.Readying.{lifted_by, lifted_both, input_within, thms_within, input_tagged, input_thm, input_false, input_gives, parent_within, made_within, parent_made, parent_lifted, parent_tagged, is_parent, alone_gives, is_left, is_right, pair_gives}
use Rattle.hol_lift.proofs.line.lift_line.Goals as goal

pub at-p-requires : goal.at-p-requires
at-p-requires c = input_within c.requires.ready.0 c.args.log.now (signs_of c.args.symbols.now) c.args.clauses.now c.args.thms.now c.args.lines.now c.args.made.now c.args.line.now c.requires.ready.1 c.in-Input.number c.in-Input.is

pub at-th-requires : goal.at-th-requires
at-th-requires c = thms_within c.requires.ready.0 c.args.log.now (signs_of c.args.symbols.now) c.args.clauses.now c.args.thms.now c.args.lines.now c.args.made.now c.args.line.now c.requires.ready.1 c.in-Input.number c.in-Input.is

pub lift_input-requires-clause-symbols : goal.lift_input-requires-clause-symbols
lift_input-requires-clause-symbols c = c.requires.symbols

pub lift_input-requires-clause-tagged : goal.lift_input-requires-clause-tagged
lift_input-requires-clause-tagged c = input_tagged c.requires.ready.0 c.args.log.now (signs_of c.args.symbols.now) c.args.clauses.now c.args.thms.now c.args.lines.now c.args.made.now c.args.line.now c.requires.ready.1 c.in-Input.number c.in-Input.is c.at-p.result.now c.at-th.result.now c.at-p.ensures c.at-th.ensures

pub lift_input-requires-clause-th : goal.lift_input-requires-clause-th
lift_input-requires-clause-th c = input_thm c.requires.ready.0 c.args.log.now (signs_of c.args.symbols.now) c.args.clauses.now c.args.thms.now c.args.lines.now c.args.made.now c.args.line.now c.requires.ready.1 c.in-Input.number c.in-Input.is c.at-p.result.now c.at-th.result.now c.at-p.ensures c.at-th.ensures

pub lift_input-requires-clause-false_is : goal.lift_input-requires-clause-false_is
lift_input-requires-clause-false_is c = input_false c.requires.ready.0 c.args.log.now (signs_of c.args.symbols.now) c.args.clauses.now c.args.thms.now c.args.lines.now c.args.made.now c.args.line.now c.requires.ready.1 c.in-Input.number c.in-Input.is c.at-p.result.now c.at-th.result.now c.at-p.ensures c.at-th.ensures

pub at-requires : goal.at-requires
at-requires c = parent_within c.requires.ready.0 c.args.log.now (signs_of c.args.symbols.now) c.args.clauses.now c.args.thms.now c.args.lines.now c.args.made.now c.args.line.now c.requires.ready.1 c.in-Alone.of (is_parent c.requires.ready.0 c.args.log.now (signs_of c.args.symbols.now) c.args.clauses.now c.args.thms.now c.args.lines.now c.args.made.now c.args.line.now c.requires.ready.1 c.in-Alone.of c.in-Alone.rule c.in-Alone.is)

pub made_at-requires-clause-within : goal.made_at-requires-clause-within
made_at-requires-clause-within c = made_within c.requires.ready.0 c.args.log.now (signs_of c.args.symbols.now) c.args.clauses.now c.args.thms.now c.args.lines.now c.args.made.now c.args.line.now c.requires.ready.1 c.in-Alone.of (is_parent c.requires.ready.0 c.args.log.now (signs_of c.args.symbols.now) c.args.clauses.now c.args.thms.now c.args.lines.now c.args.made.now c.args.line.now c.requires.ready.1 c.in-Alone.of c.in-Alone.rule c.in-Alone.is)

pub made_at-requires-clause-is : goal.made_at-requires-clause-is
made_at-requires-clause-is c = parent_made c.requires.ready.0 c.args.log.now (signs_of c.args.symbols.now) c.args.clauses.now c.args.thms.now c.args.lines.now c.args.made.now c.args.line.now c.requires.ready.1 c.in-Alone.of (is_parent c.requires.ready.0 c.args.log.now (signs_of c.args.symbols.now) c.args.clauses.now c.args.thms.now c.args.lines.now c.args.made.now c.args.line.now c.requires.ready.1 c.in-Alone.of c.in-Alone.rule c.in-Alone.is)

pub lift_alone-requires-clause-symbols : goal.lift_alone-requires-clause-symbols
lift_alone-requires-clause-symbols c = c.requires.symbols

pub lift_alone-requires-clause-tagged : goal.lift_alone-requires-clause-tagged
lift_alone-requires-clause-tagged c = parent_tagged c.requires.ready.0 c.args.log.now (signs_of c.args.symbols.now) c.args.clauses.now c.args.thms.now c.args.lines.now c.args.made.now c.args.line.now c.requires.ready.1 c.in-Alone.of (is_parent c.requires.ready.0 c.args.log.now (signs_of c.args.symbols.now) c.args.clauses.now c.args.thms.now c.args.lines.now c.args.made.now c.args.line.now c.requires.ready.1 c.in-Alone.of c.in-Alone.rule c.in-Alone.is) c.at.result.now c.at.ensures

pub lift_alone-requires-clause-rule : goal.lift_alone-requires-clause-rule
lift_alone-requires-clause-rule c = (c.args.line.now.clause, alone_gives c.requires.ready.0 c.args.log.now (signs_of c.args.symbols.now) c.args.clauses.now c.args.thms.now c.args.lines.now c.args.made.now c.args.line.now c.requires.ready.1 c.in-Alone.of c.in-Alone.rule c.in-Alone.is c.at.result.now c.at.ensures)

pub lift_alone-requires-clause-th : goal.lift_alone-requires-clause-th
lift_alone-requires-clause-th c = (parent_lifted c.requires.ready.0 c.args.log.now (signs_of c.args.symbols.now) c.args.clauses.now c.args.thms.now c.args.lines.now c.args.made.now c.args.line.now c.requires.ready.1 c.in-Alone.of (is_parent c.requires.ready.0 c.args.log.now (signs_of c.args.symbols.now) c.args.clauses.now c.args.thms.now c.args.lines.now c.args.made.now c.args.line.now c.requires.ready.1 c.in-Alone.of c.in-Alone.rule c.in-Alone.is) c.at.result.now c.made_at.result c.at.ensures c.made_at.ensures).is_thm

pub lift_alone-requires-clause-false_is : goal.lift_alone-requires-clause-false_is
lift_alone-requires-clause-false_is c = (parent_lifted c.requires.ready.0 c.args.log.now (signs_of c.args.symbols.now) c.args.clauses.now c.args.thms.now c.args.lines.now c.args.made.now c.args.line.now c.requires.ready.1 c.in-Alone.of (is_parent c.requires.ready.0 c.args.log.now (signs_of c.args.symbols.now) c.args.clauses.now c.args.thms.now c.args.lines.now c.args.made.now c.args.line.now c.requires.ready.1 c.in-Alone.of c.in-Alone.rule c.in-Alone.is) c.at.result.now c.made_at.result c.at.ensures c.made_at.ensures).concl

pub at-requires-in-Pair : goal.at-requires-in-Pair
at-requires-in-Pair c = parent_within c.requires.ready.0 c.args.log.now (signs_of c.args.symbols.now) c.args.clauses.now c.args.thms.now c.args.lines.now c.args.made.now c.args.line.now c.requires.ready.1 c.in-Pair.left (is_left c.requires.ready.0 c.args.log.now (signs_of c.args.symbols.now) c.args.clauses.now c.args.thms.now c.args.lines.now c.args.made.now c.args.line.now c.requires.ready.1 c.in-Pair.left c.in-Pair.right c.in-Pair.rule c.in-Pair.is)

pub at-requires-in-Pair-2 : goal.at-requires-in-Pair-2
at-requires-in-Pair-2 c = parent_within c.requires.ready.0 c.args.log.now (signs_of c.args.symbols.now) c.args.clauses.now c.args.thms.now c.args.lines.now c.args.made.now c.args.line.now c.requires.ready.1 c.in-Pair.right (is_right c.requires.ready.0 c.args.log.now (signs_of c.args.symbols.now) c.args.clauses.now c.args.thms.now c.args.lines.now c.args.made.now c.args.line.now c.requires.ready.1 c.in-Pair.left c.in-Pair.right c.in-Pair.rule c.in-Pair.is)

pub made_at-requires-in-Pair-clause-within : goal.made_at-requires-in-Pair-clause-within
made_at-requires-in-Pair-clause-within c = made_within c.requires.ready.0 c.args.log.now (signs_of c.args.symbols.now) c.args.clauses.now c.args.thms.now c.args.lines.now c.args.made.now c.args.line.now c.requires.ready.1 c.in-Pair.left (is_left c.requires.ready.0 c.args.log.now (signs_of c.args.symbols.now) c.args.clauses.now c.args.thms.now c.args.lines.now c.args.made.now c.args.line.now c.requires.ready.1 c.in-Pair.left c.in-Pair.right c.in-Pair.rule c.in-Pair.is)

pub made_at-requires-in-Pair-clause-is : goal.made_at-requires-in-Pair-clause-is
made_at-requires-in-Pair-clause-is c = parent_made c.requires.ready.0 c.args.log.now (signs_of c.args.symbols.now) c.args.clauses.now c.args.thms.now c.args.lines.now c.args.made.now c.args.line.now c.requires.ready.1 c.in-Pair.left (is_left c.requires.ready.0 c.args.log.now (signs_of c.args.symbols.now) c.args.clauses.now c.args.thms.now c.args.lines.now c.args.made.now c.args.line.now c.requires.ready.1 c.in-Pair.left c.in-Pair.right c.in-Pair.rule c.in-Pair.is)

pub made_at-requires-in-Pair-2-clause-within : goal.made_at-requires-in-Pair-2-clause-within
made_at-requires-in-Pair-2-clause-within c = made_within c.requires.ready.0 c.args.log.now (signs_of c.args.symbols.now) c.args.clauses.now c.args.thms.now c.args.lines.now c.args.made.now c.args.line.now c.requires.ready.1 c.in-Pair.right (is_right c.requires.ready.0 c.args.log.now (signs_of c.args.symbols.now) c.args.clauses.now c.args.thms.now c.args.lines.now c.args.made.now c.args.line.now c.requires.ready.1 c.in-Pair.left c.in-Pair.right c.in-Pair.rule c.in-Pair.is)

pub made_at-requires-in-Pair-2-clause-is : goal.made_at-requires-in-Pair-2-clause-is
made_at-requires-in-Pair-2-clause-is c = parent_made c.requires.ready.0 c.args.log.now (signs_of c.args.symbols.now) c.args.clauses.now c.args.thms.now c.args.lines.now c.args.made.now c.args.line.now c.requires.ready.1 c.in-Pair.right (is_right c.requires.ready.0 c.args.log.now (signs_of c.args.symbols.now) c.args.clauses.now c.args.thms.now c.args.lines.now c.args.made.now c.args.line.now c.requires.ready.1 c.in-Pair.left c.in-Pair.right c.in-Pair.rule c.in-Pair.is)

pub lift_pair-requires-clause-symbols : goal.lift_pair-requires-clause-symbols
lift_pair-requires-clause-symbols c = c.requires.symbols

pub lift_pair-requires-clause-left_tagged : goal.lift_pair-requires-clause-left_tagged
lift_pair-requires-clause-left_tagged c = parent_tagged c.requires.ready.0 c.args.log.now (signs_of c.args.symbols.now) c.args.clauses.now c.args.thms.now c.args.lines.now c.args.made.now c.args.line.now c.requires.ready.1 c.in-Pair.left (is_left c.requires.ready.0 c.args.log.now (signs_of c.args.symbols.now) c.args.clauses.now c.args.thms.now c.args.lines.now c.args.made.now c.args.line.now c.requires.ready.1 c.in-Pair.left c.in-Pair.right c.in-Pair.rule c.in-Pair.is) c.at-in-Pair.result.now c.at-in-Pair.ensures

pub lift_pair-requires-clause-right_tagged : goal.lift_pair-requires-clause-right_tagged
lift_pair-requires-clause-right_tagged c = parent_tagged c.requires.ready.0 c.args.log.now (signs_of c.args.symbols.now) c.args.clauses.now c.args.thms.now c.args.lines.now c.args.made.now c.args.line.now c.requires.ready.1 c.in-Pair.right (is_right c.requires.ready.0 c.args.log.now (signs_of c.args.symbols.now) c.args.clauses.now c.args.thms.now c.args.lines.now c.args.made.now c.args.line.now c.requires.ready.1 c.in-Pair.left c.in-Pair.right c.in-Pair.rule c.in-Pair.is) c.at-in-Pair-2.result.now c.at-in-Pair-2.ensures

pub lift_pair-requires-clause-rule : goal.lift_pair-requires-clause-rule
lift_pair-requires-clause-rule c = (c.args.line.now.clause, pair_gives c.requires.ready.0 c.args.log.now (signs_of c.args.symbols.now) c.args.clauses.now c.args.thms.now c.args.lines.now c.args.made.now c.args.line.now c.requires.ready.1 c.in-Pair.left c.in-Pair.right c.in-Pair.rule c.in-Pair.is c.at-in-Pair.result.now c.at-in-Pair-2.result.now c.at-in-Pair.ensures c.at-in-Pair-2.ensures)

pub lift_pair-requires-clause-left : goal.lift_pair-requires-clause-left
lift_pair-requires-clause-left c = (parent_lifted c.requires.ready.0 c.args.log.now (signs_of c.args.symbols.now) c.args.clauses.now c.args.thms.now c.args.lines.now c.args.made.now c.args.line.now c.requires.ready.1 c.in-Pair.left (is_left c.requires.ready.0 c.args.log.now (signs_of c.args.symbols.now) c.args.clauses.now c.args.thms.now c.args.lines.now c.args.made.now c.args.line.now c.requires.ready.1 c.in-Pair.left c.in-Pair.right c.in-Pair.rule c.in-Pair.is) c.at-in-Pair.result.now c.made_at-in-Pair.result c.at-in-Pair.ensures c.made_at-in-Pair.ensures).is_thm

pub lift_pair-requires-clause-right : goal.lift_pair-requires-clause-right
lift_pair-requires-clause-right c = (parent_lifted c.requires.ready.0 c.args.log.now (signs_of c.args.symbols.now) c.args.clauses.now c.args.thms.now c.args.lines.now c.args.made.now c.args.line.now c.requires.ready.1 c.in-Pair.right (is_right c.requires.ready.0 c.args.log.now (signs_of c.args.symbols.now) c.args.clauses.now c.args.thms.now c.args.lines.now c.args.made.now c.args.line.now c.requires.ready.1 c.in-Pair.left c.in-Pair.right c.in-Pair.rule c.in-Pair.is) c.at-in-Pair-2.result.now c.made_at-in-Pair-2.result c.at-in-Pair-2.ensures c.made_at-in-Pair-2.ensures).is_thm

pub lift_pair-requires-clause-left_false : goal.lift_pair-requires-clause-left_false
lift_pair-requires-clause-left_false c = (parent_lifted c.requires.ready.0 c.args.log.now (signs_of c.args.symbols.now) c.args.clauses.now c.args.thms.now c.args.lines.now c.args.made.now c.args.line.now c.requires.ready.1 c.in-Pair.left (is_left c.requires.ready.0 c.args.log.now (signs_of c.args.symbols.now) c.args.clauses.now c.args.thms.now c.args.lines.now c.args.made.now c.args.line.now c.requires.ready.1 c.in-Pair.left c.in-Pair.right c.in-Pair.rule c.in-Pair.is) c.at-in-Pair.result.now c.made_at-in-Pair.result c.at-in-Pair.ensures c.made_at-in-Pair.ensures).concl

pub lift_pair-requires-clause-right_false : goal.lift_pair-requires-clause-right_false
lift_pair-requires-clause-right_false c = (parent_lifted c.requires.ready.0 c.args.log.now (signs_of c.args.symbols.now) c.args.clauses.now c.args.thms.now c.args.lines.now c.args.made.now c.args.line.now c.requires.ready.1 c.in-Pair.right (is_right c.requires.ready.0 c.args.log.now (signs_of c.args.symbols.now) c.args.clauses.now c.args.thms.now c.args.lines.now c.args.made.now c.args.line.now c.requires.ready.1 c.in-Pair.left c.in-Pair.right c.in-Pair.rule c.in-Pair.is) c.at-in-Pair-2.result.now c.made_at-in-Pair-2.result c.at-in-Pair-2.ensures c.made_at-in-Pair-2.ensures).concl

pub returns-in-Input-clause-kept : goal.returns-in-Input-clause-kept
returns-in-Input-clause-kept c = c.lift_input.ensures.kept

pub returns-in-Input-clause-facts : goal.returns-in-Input-clause-facts
returns-in-Input-clause-facts c = c.lift_input.ensures.facts

pub returns-in-Input-clause-gives : goal.returns-in-Input-clause-gives
returns-in-Input-clause-gives c = if_ok_map c.lift_input.result _ _ (λ r g start rd. input_gives start c.args.log.now (signs_of c.args.symbols.now) c.args.clauses.now c.args.thms.now c.args.lines.now c.args.made.now c.args.line.now rd c.in-Input.number c.in-Input.is c.at-p.result.now c.at-th.result.now c.at-p.ensures c.at-th.ensures c.lift_input.new.log r.0 g) c.lift_input.ensures.gives

pub returns-in-Alone-clause-kept : goal.returns-in-Alone-clause-kept
returns-in-Alone-clause-kept c = c.lift_alone.ensures.kept

pub returns-in-Alone-clause-facts : goal.returns-in-Alone-clause-facts
returns-in-Alone-clause-facts c = c.lift_alone.ensures.facts

pub returns-in-Alone-clause-gives : goal.returns-in-Alone-clause-gives
returns-in-Alone-clause-gives c = if_ok_map c.lift_alone.result _ _ (λ r g start rd. let h = g c.args.line.now.clause (alone_gives start c.args.log.now (signs_of c.args.symbols.now) c.args.clauses.now c.args.thms.now c.args.lines.now c.args.made.now c.args.line.now rd c.in-Alone.of c.in-Alone.rule c.in-Alone.is c.at.result.now c.at.ensures) in
    (lifted_by start c.args.log.now c.lift_alone.new.log (signs_of c.args.symbols.now) c.args.clauses.now c.args.thms.now c.at.result.now.clause.literals c.args.line.now.clause.literals c.made_at.result.0 r.0 (parent_lifted start c.args.log.now (signs_of c.args.symbols.now) c.args.clauses.now c.args.thms.now c.args.lines.now c.args.made.now c.args.line.now rd c.in-Alone.of (is_parent start c.args.log.now (signs_of c.args.symbols.now) c.args.clauses.now c.args.thms.now c.args.lines.now c.args.made.now c.args.line.now rd c.in-Alone.of c.in-Alone.rule c.in-Alone.is) c.at.result.now c.made_at.result c.at.ensures c.made_at.ensures) h.0, h.1)) c.lift_alone.ensures.gives

pub returns-in-Pair-clause-kept : goal.returns-in-Pair-clause-kept
returns-in-Pair-clause-kept c = c.lift_pair.ensures.kept

pub returns-in-Pair-clause-facts : goal.returns-in-Pair-clause-facts
returns-in-Pair-clause-facts c = c.lift_pair.ensures.facts

pub returns-in-Pair-clause-gives : goal.returns-in-Pair-clause-gives
returns-in-Pair-clause-gives c = if_ok_map c.lift_pair.result _ _ (λ r g start rd. let h = g c.args.line.now.clause (pair_gives start c.args.log.now (signs_of c.args.symbols.now) c.args.clauses.now c.args.thms.now c.args.lines.now c.args.made.now c.args.line.now rd c.in-Pair.left c.in-Pair.right c.in-Pair.rule c.in-Pair.is c.at-in-Pair.result.now c.at-in-Pair-2.result.now c.at-in-Pair.ensures c.at-in-Pair-2.ensures) in (
  lifted_both start c.args.log.now c.lift_pair.new.log (signs_of c.args.symbols.now) c.args.clauses.now c.args.thms.now c.at-in-Pair.result.now.clause.literals c.at-in-Pair-2.result.now.clause.literals c.args.line.now.clause.literals c.made_at-in-Pair.result.0 c.made_at-in-Pair-2.result.0 r.0
      (parent_lifted start c.args.log.now (signs_of c.args.symbols.now) c.args.clauses.now c.args.thms.now c.args.lines.now c.args.made.now c.args.line.now rd c.in-Pair.left (is_left start c.args.log.now (signs_of c.args.symbols.now) c.args.clauses.now c.args.thms.now c.args.lines.now c.args.made.now c.args.line.now rd c.in-Pair.left c.in-Pair.right c.in-Pair.rule c.in-Pair.is) c.at-in-Pair.result.now c.made_at-in-Pair.result c.at-in-Pair.ensures c.made_at-in-Pair.ensures) (parent_lifted start c.args.log.now (signs_of c.args.symbols.now) c.args.clauses.now c.args.thms.now c.args.lines.now c.args.made.now c.args.line.now rd c.in-Pair.right (is_right start c.args.log.now (signs_of c.args.symbols.now) c.args.clauses.now c.args.thms.now c.args.lines.now c.args.made.now c.args.line.now rd c.in-Pair.left c.in-Pair.right c.in-Pair.rule c.in-Pair.is) c.at-in-Pair-2.result.now c.made_at-in-Pair-2.result c.at-in-Pair-2.ensures c.made_at-in-Pair-2.ensures) h.0,
  h.1,
)) c.lift_pair.ensures.gives
