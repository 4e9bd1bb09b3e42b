-- The result of a reading is the text's answer.
use Rattle.std.proofs.Common.{ℕ, List}
use Rattle.std.specs.Prelude.{Result, Ok, Err}
use Rattle.theory_syntax.specs.declared.tree.Item.{Item}
use Rattle.theory_terms.specs.declared.fault.TheoryFault.{TheoryFault}
use Rattle.theory_terms.specs.declared.fault.TheoryFault.TheVariants as fault
use Rattle.theory_terms.specs.Answers.{Answer, Good, Bad}
use Rattle.theory_reader.specs.declared.theory.Theory.{Theory}
use Rattle.theory_reader.specs.Declarations.{Declarations}
use Rattle.theory_reader.specs.Seen.{declarations}
use Rattle.theory_reader.specs.Declaring.{theory_of}
use Rattle.theory_reader.specs.Reading.{ReadsItems, IsAnswer, IsReadAs, Tells, OneAnswer}
use Rattle.theory_reader.specs.Reading as faulty

pub answered : (text : List ℕ) (items : List Item) → ReadsItems text items → (r : Result Theory TheoryFault) → Tells (theory_of text items) r →
    IsReadAs text r
answered text items read (Ok t) h = record { items = items; read = read; declared = h }
answered text items read (Err (fault.At at k)) h = faulty.bad_declaration read h
answered text items read (Err fault.NoMemory) h = tt

pub only : OneAnswer → (text : List ℕ) (r : Result Theory TheoryFault) → IsReadAs text r → (a : Answer Declarations) → IsAnswer text a → Tells a r
only one text (Ok t) h a is = one text a (Good (declarations t)) is h
only one text (Err (fault.At at k)) h a is = one text a (Bad at k) is h
only one text (Err fault.NoMemory) h a is = tt
