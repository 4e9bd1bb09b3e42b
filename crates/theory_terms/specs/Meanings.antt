-- The term that a syntax tree stands for, and its type.
use Rattle.std.specs.Prelude.{ℕ, ◌+◌, max, Bool, true, false, nat_le, if◌then◌else◌, List, [], ◌∷◌, fold, Option, Some, None}
use Rattle.hol_terms.specs.declared.ty.Ty.{Ty, out-Ty}
use Rattle.hol_terms.specs.declared.ty.Ty.TheOpen.{Ty-F}
use Rattle.hol_terms.specs.declared.konst.Konst.{Konst}
use Rattle.hol_terms.specs.declared.konst.Konst.TheVariants as konst
use Rattle.hol_terms.specs.declared.term.Term.{Term, roll-Term}
use Rattle.hol_terms.specs.declared.term.Term.TheOpen.{Term-F}
use Rattle.hol_terms.specs.declared.term.Term.TheFolds.{fold-Term}
use Rattle.hol_terms.specs.Types.{is_ty, bool_ty, function_ty}
use Rattle.theory_syntax.specs.declared.tokens.Word.{Word}
use Rattle.theory_syntax.specs.declared.tokens.Quant.{Quant}
use Rattle.theory_syntax.specs.declared.tokens.Quant.TheVariants as quant
use Rattle.theory_syntax.specs.declared.tree.Op.{Op}
use Rattle.theory_syntax.specs.declared.tree.Op.TheVariants as op
use Rattle.theory_syntax.specs.declared.tree.Tree.{Tree}
use Rattle.theory_syntax.specs.declared.tree.Tree.TheOpen.{Tree-F}
use Rattle.theory_syntax.specs.declared.tree.Tree.TheFolds.{fold-Tree}
use Rattle.theory_terms.specs.declared.decl.Decl.{Decl}
use Rattle.theory_terms.specs.declared.fault.TheoryKind.{TheoryKind}
use Rattle.theory_terms.specs.declared.fault.TheoryKind.TheVariants as kind
use Rattle.theory_terms.specs.Answers.{Answer, Good, Bad, and_then}
use Rattle.theory_terms.specs.Words.{word_at}
use Rattle.theory_terms.specs.Signature.{Declared, found}
use Rattle.theory_terms.specs.Types.{type_of_tree}

-- the depth of a term's tree; a leaf has 1
abbrev pub depth_step : Term-F ℕ → ℕ
depth_step (Term-F.Bound i) = 1
depth_step (Term-F.Free n a) = 1
depth_step (Term-F.Con k) = 1
depth_step (Term-F.App f x) = 1 + max f x
depth_step (Term-F.Lam a b) = 1 + b

abbrev pub depth : Term → ℕ
depth = fold-Term ℕ depth_step

-- what a part of a text means: its first byte, with its bracket where it is written in one, its term and the term's type
pub record Meaning : Type 0 where
  pub at : ℕ
  pub term : Term
  pub ty : Ty

-- the bound variables around a part with their types, the innermost first
abbrev pub Scope : Type 0
Scope = List Decl

abbrev pub constant : Konst → Term
constant k = roll-Term (Term-F.Con k)

abbrev pub application : Term → Term → Term
application f x = roll-Term (Term-F.App f x)

abbrev pub lambda : Ty → Term → Term
lambda a b = roll-Term (Term-F.Lam a b)

-- a term that is put together, where its tree isn't too deep
abbrev pub made : ℕ → Term → Ty → Answer Meaning
made at t a = if nat_le (depth t) 1024 then Good (record { at = at; term = t; ty = a }) else Bad at kind.TooDeep

-- ---- names, `true` and `false`

-- a constant, where it is declared
abbrev pub const_as : ℕ → Option (ℕ × Ty) → Answer Meaning
const_as at None = Bad at kind.Unknown
const_as at (Some c) = Good (record { at = at; term = constant (konst.Named c.0); ty = c.1 })

-- a name is the innermost bound variable of that name, else a constant
abbrev pub named_as : ℕ → Option (ℕ × Ty) → Option (ℕ × Ty) → Answer Meaning
named_as at None c = const_as at c
named_as at (Some v) c = Good (record { at = at; term = roll-Term (Term-F.Bound v.0); ty = v.1 })

abbrev pub named : List ℕ → Declared → Word → Scope → Answer Meaning
named text known w scope = named_as w.start (found (word_at text w) scope) (found (word_at text w) known.consts)

abbrev pub truth : Bool → Konst
truth true = konst.True
truth false = konst.False

-- ---- arguments

-- the type of a head, which begins at `head_at`, with an argument more
abbrev pub target_as : ℕ → ℕ → Ty → Ty-F Ty → Answer Ty
target_as head_at arg_at arg (Ty-F.Base a) = Bad head_at kind.IllTyped
target_as head_at arg_at arg (Ty-F.Arrow a b) = if is_ty a arg then Good b else Bad arg_at kind.IllTyped

abbrev pub target : ℕ → Ty → ℕ → Ty → Answer Ty
target head_at head arg_at arg = target_as head_at arg_at arg (out-Ty head)

-- a head with an argument more
abbrev pub applied : Meaning → Meaning → Answer Meaning
applied f x = and_then (target f.at f.ty x.at x.ty) (made f.at (application f.term x.term))

-- a head with its arguments, each of which is read before it is put to the head
abbrev pub applied_all : Answer Meaning → List (Scope → Answer Meaning) → Scope → Answer Meaning
applied_all head [] scope = head
applied_all head (x ∷ xs) scope = applied_all (and_then head (λ f. and_then (x scope) (applied f))) xs scope

-- ---- signs: constants, which are put to their sides like any head and begin where these do

abbrev pub sign : ℕ → Konst → Ty → Meaning
sign at k a = record { at = at; term = constant k; ty = a }

abbrev pub operator_konst : Op → Konst
operator_konst op.Imp = konst.Imp
operator_konst op.Or = konst.Or
operator_konst op.And = konst.And

abbrev pub operator : Op → Meaning → Meaning
operator o left = sign left.at (operator_konst o) (function_ty bool_ty (function_ty bool_ty bool_ty))

abbrev pub equality : Meaning → Meaning
equality left = sign left.at (konst.Eq left.ty) (function_ty left.ty (function_ty left.ty bool_ty))

abbrev pub negation : ℕ → Meaning → Meaning
negation at part = sign at konst.Not (function_ty bool_ty bool_ty)

-- a sign with its left or only side
abbrev pub signed : (Meaning → Meaning) → Meaning → Answer Meaning
signed s part = applied (s part) part

-- a sign with both sides; the left one is put to it before the right one is read
abbrev pub between : (Meaning → Meaning) → Answer Meaning → Answer Meaning → Answer Meaning
between s a b = and_then (and_then a (signed s)) (λ f. and_then b (applied f))

-- ---- binders

-- the constant of a quantifier over variables of type `a`; a lambda has none
abbrev pub quantifier : Quant → ℕ → Ty → Option Meaning
quantifier quant.All at a = Some (sign at (konst.All a) (function_ty (function_ty a bool_ty) bool_ty))
quantifier quant.Ex at a = Some (sign at (konst.Ex a) (function_ty (function_ty a bool_ty) bool_ty))
quantifier quant.Eps at a = Some (sign at (konst.Eps a) (function_ty (function_ty a bool_ty) a))
quantifier quant.Lambda at a = None

-- a quantifier on a lambda, whose body begins at `at` and has to be a formula
abbrev pub quantified : Option Meaning → Bool → ℕ → Meaning → Answer Meaning
quantified None is_formula at l = Good l
quantified (Some k) is_formula at l = if is_formula then applied k l else Bad at kind.IllTyped

-- the lambda over variables of type `a` is made first
abbrev pub bound : Quant → ℕ → Ty → Meaning → Answer Meaning
bound q at a body =
    and_then (made at (lambda a body.term) (function_ty a body.ty)) (quantified (quantifier q at a) (is_ty bool_ty body.ty) body.at)

-- ---- terms

-- the same part from another first byte
abbrev pub moved : ℕ → Meaning → Answer Meaning
moved at m = Good (record m { at = at })

-- each part is read from left to right, a whole after its parts; what stands in brackets begins at the bracket
abbrev pub meaning_step : List ℕ → Declared → Tree-F (Scope → Answer Meaning) → Scope → Answer Meaning
meaning_step text known (Tree-F.Name w) scope = named text known w scope
meaning_step text known (Tree-F.Truth b at) scope = Good (record { at = at; term = constant (truth b); ty = bool_ty })
meaning_step text known (Tree-F.Round at t) scope = and_then (t scope) (moved at)
meaning_step text known (Tree-F.Apply f xs) scope = applied_all (f scope) xs scope
meaning_step text known (Tree-F.Equals a b) scope = between equality (a scope) (b scope)
meaning_step text known (Tree-F.Not at a) scope = and_then (a scope) (signed (negation at))
meaning_step text known (Tree-F.Join o a b) scope = between (operator o) (a scope) (b scope)
meaning_step text known (Tree-F.Bind q at x ty b) scope =
    and_then (type_of_tree text known ty) (λ a. and_then (b (record { name = word_at text x; ty = a } ∷ scope)) (bound q at a))

-- the meaning of a tree under bound variables
abbrev pub meaning : List ℕ → Declared → Tree → Scope → Answer Meaning
meaning text known = fold-Tree (Scope → Answer Meaning) (meaning_step text known)

-- what stands alone as a fact, a goal or an assumption
abbrev pub stated : Meaning → Answer Term
stated m = if is_ty bool_ty m.ty then Good m.term else Bad m.at kind.NotBool

abbrev pub sentence : List ℕ → Declared → Tree → Answer Term
sentence text known t = and_then (meaning text known t []) stated
