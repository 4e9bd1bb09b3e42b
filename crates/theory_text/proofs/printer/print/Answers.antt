use Rattle.std.proofs.Common.{◌≡◌, ◌∙◌, ℕ, List, sym, subst}
use Rattle.std.specs.List.{list_all}
use Rattle.theory_print.specs.Lexemes.{laid}
use Rattle.theory_print.specs.Names.{IsFresh}
use Rattle.theory_reader.specs.Declarations.{known}
use Rattle.theory_reader.specs.Seen.{declarations}
use Rattle.theory_reader.specs.Reading.{Reads}
use Rattle.theory_text.specs.Printed.{theory_lexemes, FactsWritten, GoalsWritten, facts_have_text, goal_has_text}
use Rattle.theory_text.proofs.HaveText.{facts, goals, both_have}
use Rattle.theory_text.proofs.ReadAgain.{reads_again, facts_are_written, goals_are_written}
use Rattle.theory_text.proofs.Laying.{if_ok}
use Rattle.theory_text.proofs.printer.print.Goals as goal

pub returns-then-have_text-clause-text : goal.returns-then-have_text-clause-text
returns-then-have_text-clause-text c =
    let d = declarations c.args.theory.now in
    let k = c.in_ok-number.number in
    let fresh : IsFresh k d.consts = subst (IsFresh k) c.as_slice.ensures c.in_ok-number.ensures.0 in
    if_ok c.printed.result (λ out. FactsWritten k (known d) d.facts → GoalsWritten k (known d) d.goals → out ≡ laid (theory_lexemes k d))
    (λ out. (text : List ℕ) → Reads text d → Reads out d)
    (λ out is text r. subst (λ o. Reads o d) (sym (is (facts_are_written text k d fresh r) (goals_are_written text k d fresh r))) (reads_again text k d fresh r))
    c.printed.ensures

pub returns-else-have_text-clause-text : goal.returns-else-have_text-clause-text
returns-else-have_text-clause-text c text r =
    let d = declarations c.args.theory.now in
    let k = c.in_ok-number.number in
    let fresh : IsFresh k d.consts = subst (IsFresh k) c.as_slice.ensures c.in_ok-number.ensures.0 in
    let have = sym c.have_text.ensures ∙ c.if-have_text.false in
    let all = both_have (facts_have_text d.facts) (list_all goal_has_text d.goals) (facts k (known d) d.facts (facts_are_written text k d fresh r)) (goals k (known d) d.goals (goals_are_written text k d fresh r)) in
    cc
