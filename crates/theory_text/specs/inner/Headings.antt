-- The words that declarations begin with.
use Rattle.theory_text.specs.declared.statements.Heading.{Heading}
use Rattle.theory_text.specs.declared.statements.Heading.TheVariants as heading
use Rattle.theory_print.specs.Lexemes.{Lexeme, ConstWord, FactWord, GoalWord, AssumeWord}

abbrev pub opening : Heading → Lexeme
opening heading.Const = ConstWord
opening heading.Fact = FactWord
opening heading.Goal = GoalWord
opening heading.Assume = AssumeWord
