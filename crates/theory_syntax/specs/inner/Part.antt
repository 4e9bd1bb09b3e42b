-- The sort of a part that may stand deeper.
use Rattle.theory_syntax.specs.declared.term_reader.Part.{Part}
use Rattle.theory_syntax.specs.declared.term_reader.Part.TheVariants as part
use Rattle.theory_syntax.specs.Grammar.{Sort, Formula, Chain, Neg}

abbrev pub sort_of : Part → Sort
sort_of part.Formula = Formula
sort_of (part.Chain o) = Chain o
sort_of part.Neg = Neg
