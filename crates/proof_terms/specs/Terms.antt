-- How a term begins, and what its words say.
use Rattle.std.specs.Prelude.{◌≡◌, ℕ, ◌≤◌, List, [], ◌∷◌, codes, Option, Some, None, Result, MatchResult}
use Rattle.std.specs.Borrow.{Bor}
use Rattle.hol_terms.specs.declared.term.Term.{Term}
use Rattle.proof_syntax.specs.declared.fault.PartFault.{PartFault}
use Rattle.proof_syntax.specs.Tokens.{Tok, Word, Mark, Hash, Dollar, Dot, OpenRound, OpenBrace, cut, hash, dollar, dot, open_round, open_brace}
use Rattle.proof_syntax.specs.Forms as forms
use Rattle.proof_syntax.specs.Names.{Names}
use Rattle.proof_syntax.specs.Grammar.{most}
use Rattle.proof_syntax.specs.Parts.{GotTerm, FailsTerm}
use Rattle.proof_syntax.specs.Machine.{plain_in, plains, typed_in, typeds}
use Rattle.proof_terms.specs.declared.term_front.TermFront.{TermFront}
use Rattle.proof_terms.specs.declared.term_front.TermFront.TheVariants as front
use Rattle.proof_terms.specs.declared.term_word.TypedWord.{TypedWord}
use Rattle.proof_terms.specs.declared.term_word.TypedWord.TheVariants as typed
use Rattle.proof_terms.specs.declared.term_word.TermWord.{TermWord}
use Rattle.proof_terms.specs.declared.term_word.TermWord.TheVariants as word

-- no term begins with the token
abbrev pub NoTerm : List Tok → Type 0
NoTerm (Word w ∷ rest) = ⊥
NoTerm (Mark Hash ∷ rest) = ⊥
NoTerm (Mark Dollar ∷ rest) = ⊥
NoTerm (Mark Dot ∷ rest) = ⊥
NoTerm (Mark OpenRound ∷ rest) = ⊥
NoTerm (Mark OpenBrace ∷ rest) = ⊥
NoTerm _ = Unit {0}

-- the token at the front of the text, with the bytes behind it
abbrev pub IsTermFront : List Tok → TermFront → Type 0
IsTermFront ts (front.Word w rest) = ts ≡ Word w.now ∷ cut rest.now
IsTermFront ts (front.Hash rest) = ts ≡ hash ∷ cut rest.now
IsTermFront ts (front.Dollar rest) = ts ≡ dollar ∷ cut rest.now
IsTermFront ts (front.Dot rest) = ts ≡ dot ∷ cut rest.now
IsTermFront ts (front.Round rest) = ts ≡ open_round ∷ cut rest.now
IsTermFront ts (front.Brace rest) = ts ≡ open_brace ∷ cut rest.now
IsTermFront ts front.Other = NoTerm ts

-- the words of terms
abbrev pub term_words : List (List ℕ)
term_words = codes "true" ∷ codes "false" ∷ codes "not" ∷ codes "and" ∷ codes "or" ∷ codes "imp" ∷ codes "eq" ∷ codes "all" ∷ codes "ex" ∷ codes "eps" ∷ []

-- the word of a constant with a type
abbrev pub typed_of : TypedWord → forms.Typed
typed_of typed.Eq = forms.Eq
typed_of typed.All = forms.All
typed_of typed.Ex = forms.Ex
typed_of typed.Eps = forms.Eps

-- a word of terms: a constant, or one that a type follows
abbrev pub SaysOf : Option forms.Plain → Option forms.Typed → TermWord → Type 0
SaysOf p c (word.Plain k) = (a : forms.Plain) × (p ≡ Some a) × (k ≡ forms.plain_konst a)
SaysOf p c (word.Typed a) = (p ≡ None) × (c ≡ Some (typed_of a))
SaysOf p c word.Other = (p ≡ None) × (c ≡ None)

abbrev pub Says : List ℕ → TermWord → Type 0
Says w s = SaysOf (plain_in w plains) (typed_in w typeds) s

-- ---- what the readers of terms answer

abbrev pub ReadsTerm : Names → ℕ → List ℕ → Result (Term × Bor (List ℕ)) PartFault → Type 0
ReadsTerm names l text result = MatchResult result (λ r. GotTerm names l text r.0 r.1.now) (λ e. FailsTerm names l text e)

-- at every level that is allowed, where the text begins with the token
abbrev pub ReadsBehind : Names → Tok → List ℕ → Result (Term × Bor (List ℕ)) PartFault → Type 0
ReadsBehind names x behind result = (l : ℕ) (text : List ℕ) → l ≤ most → cut text ≡ x ∷ cut behind → ReadsTerm names l text result
