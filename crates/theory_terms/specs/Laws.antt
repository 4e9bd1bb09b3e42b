-- What is read is typed over the signature of what is declared.
use Rattle.std.specs.Prelude.{◌≡◌, ℕ, ◌+◌, List, [], ◌∷◌, length, IsTrue, All}
use Rattle.hol_terms.specs.declared.ty.Ty.{Ty}
use Rattle.hol_terms.specs.declared.term.Term.{Term}
use Rattle.hol_terms.specs.Types.{ty_fits}
use Rattle.hol_terms.specs.Formulas.{IsSentence}
use Rattle.theory_syntax.specs.declared.tree.TyTree.{TyTree}
use Rattle.theory_syntax.specs.declared.tree.Tree.{Tree}
use Rattle.theory_terms.specs.declared.decl.Decl.{Decl}
use Rattle.theory_terms.specs.Answers.{Answer, Good}
use Rattle.theory_terms.specs.Signature.{Declared, sig_of}
use Rattle.theory_terms.specs.Types.{type_of_tree}
use Rattle.theory_terms.specs.Meanings.{sentence}

-- a type that is read has base types of the signature alone
abbrev pub TypesFit : List ℕ → Declared → TyTree → Type 0
TypesFit text known tree = (a : Ty) → type_of_tree text known tree ≡ Good a → IsTrue (ty_fits (1 + length known.types) a)

-- where the constants' types have base types of the signature alone, what is read is a sentence over it
abbrev pub SentencesAreSentences : List ℕ → Declared → Tree → Type 0
SentencesAreSentences text known tree = All (λ d. IsTrue (ty_fits (1 + length known.types) d.ty)) known.consts →
    (t : Term) → sentence text known tree ≡ Good t → IsSentence (sig_of known) t
