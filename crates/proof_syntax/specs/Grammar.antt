-- The grammar of proof texts: one constructor for each form of a rule. Each token is written with the level at which it stands: what the brackets of
-- an application or the braces of a lambda hold, with them and with the lambda's body, is one deeper; brackets of types change nothing. A name that
-- isn't declared goes on as any name does, but stands above every level that is allowed.
use Rattle.std.specs.Prelude.{ℕ, ◌+◌, ◌^◌, ◌<◌, List, [], ◌∷◌, ◌++◌, codes, decimal, Option, Some, None}
use Rattle.first_fault.specs.Levels as levels
use Rattle.hol_terms.specs.declared.ty.Ty.{Ty}
use Rattle.hol_terms.specs.declared.ty.Ty.TheVariants as types
use Rattle.hol_terms.specs.declared.konst.Konst.TheVariants as konst
use Rattle.hol_terms.specs.declared.term.Term.{Term}
use Rattle.hol_terms.specs.declared.term.Term.TheVariants as terms
use Rattle.kernel_rules.specs.declared.step.Step.{Step}
use Rattle.theory_terms.specs.Words.{place}
use Rattle.theory_reader.specs.declared.theory.Theory.{Theory}
use Rattle.theory_reader.specs.Sound.{goal_names}
use Rattle.proof_syntax.specs.declared.file.ProofFile.{ProofFile}
use Rattle.proof_syntax.specs.Tokens.{Tok, Word, line_end, space, hash, dollar, open_round, close_round, dot, colon, greater, open_square, close_square, open_brace, close_brace}
use Rattle.proof_syntax.specs.Names.{Names, names_of, number_of}
use Rattle.proof_syntax.specs.Forms.{Arg, FactArg, NumberArg, TypeArg, TermArg, form, Plain, plain_word, plain_konst, Typed, typed_word, typed_konst}

-- a token with its level
abbrev pub Placed : Type 0
Placed = levels.Placed Tok

abbrev pub at : ℕ → Tok → Placed
at l x = record { tok = x; level = l }

-- the greatest level that is allowed
abbrev pub most : ℕ
most = 4096

-- the level of a name from its number, where it has one
abbrev pub name_level : ℕ → Option ℕ → ℕ
name_level l None = most + 1
name_level l (Some n) = l

-- a name, looked up among these
abbrev pub name : ℕ → List ℕ → List (List ℕ) → Placed
name l x names = at (name_level l (place x names)) (Word x)

-- `IsType names l ps a`: the tokens `ps` are derivable as a type that stands at level `l`, and read as `a`
pub data IsType (names : Names) : ℕ → List Placed → Ty → Type 0 where
  base : {l : ℕ} {x : List ℕ} → IsType names l (name l x names.types ∷ []) (types.Base (number_of (place x names.types)))
  arrow : {l : ℕ} {p q : List Placed} {a b : Ty} → IsType names l p a → IsType names l q b →
      IsType names l (at l open_round ∷ p ++ at l greater ∷ q ++ at l close_round ∷ []) (types.Arrow a b)

-- `IsTerm names l ps t`: the same for terms
pub data IsTerm (names : Names) : ℕ → List Placed → Term → Type 0 where
  bound : {l n : ℕ} → n < 2 ^ 64 → IsTerm names l (at l hash ∷ at l (Word (decimal n)) ∷ []) (terms.Bound n)
  free : {l n : ℕ} {p : List Placed} {a : Ty} → n < 2 ^ 64 → IsType names l p a →
      IsTerm names l (at l dollar ∷ at l (Word (decimal n)) ∷ at l colon ∷ p) (terms.Free n a)
  named : {l : ℕ} {x : List ℕ} → IsTerm names l (at l dot ∷ name l x names.consts ∷ []) (terms.Con (konst.Named (number_of (place x names.consts))))
  plain : {l : ℕ} (k : Plain) → IsTerm names l (at l (Word (plain_word k)) ∷ []) (terms.Con (plain_konst k))
  typed : {l : ℕ} (k : Typed) {p : List Placed} {a : Ty} → IsType names l p a →
      IsTerm names l (at l (Word (typed_word k)) ∷ at l open_square ∷ p ++ at l close_square ∷ []) (terms.Con (typed_konst k a))
  apply : {l : ℕ} {p q : List Placed} {f x : Term} → IsTerm names (l + 1) p f → IsTerm names (l + 1) q x →
      IsTerm names l (at (l + 1) open_round ∷ p ++ at (l + 1) space ∷ q ++ at (l + 1) close_round ∷ []) (terms.App f x)
  lambda : {l : ℕ} {p q : List Placed} {a : Ty} {b : Term} → IsType names (l + 1) p a → IsTerm names (l + 1) q b →
      IsTerm names l (at (l + 1) open_brace ∷ p ++ at (l + 1) close_brace ∷ q) (terms.Lam a b)

-- what follows the word of a step
pub data IsArg (names : Names) : List Placed → Arg → Type 0 where
  fact : {x : List ℕ} → IsArg names (name 0 x names.facts ∷ []) (FactArg (number_of (place x names.facts)))
  number : {n : ℕ} → n < 2 ^ 64 → IsArg names (at 0 (Word (decimal n)) ∷ []) (NumberArg n)
  type : {p : List Placed} {a : Ty} → IsType names 0 p a → IsArg names p (TypeArg a)
  term : {p : List Placed} {t : Term} → IsTerm names 0 p t → IsArg names p (TermArg t)

pub data AreArgs (names : Names) : List Placed → List Arg → Type 0 where
  none : AreArgs names [] []
  more : {p q : List Placed} {a : Arg} {others : List Arg} → IsArg names p a → AreArgs names q others → AreArgs names (at 0 space ∷ p ++ q) (a ∷ others)

-- the steps from number `n` on, and the last line
pub data AreSteps (names : Names) : ℕ → List Placed → List Step → Type 0 where
  end : {n : ℕ} → AreSteps names n (at 0 (Word (codes "end")) ∷ at 0 line_end ∷ []) []
  step : {n : ℕ} {p q : List Placed} {s : Step} {more : List Step} → AreArgs names p (form s).args → AreSteps names (n + 1) q more →
      AreSteps names n (at 0 (Word (decimal n)) ∷ at 0 space ∷ at 0 (Word (form s).word) ∷ p ++ at 0 line_end ∷ q) (s ∷ more)

-- what stands behind the first line
pub data IsProof (t : Theory) : List Placed → ProofFile → Type 0 where
  proof : {x : List ℕ} {q : List Placed} {steps : List Step} → AreSteps (names_of t (number_of (place x (goal_names t.goals)))) 0 q steps →
      IsProof t (at 0 (Word (codes "goal")) ∷ at 0 space ∷ name 0 x (goal_names t.goals) ∷ at 0 line_end ∷ q)
      (record { goal = number_of (place x (goal_names t.goals)); steps = steps })
