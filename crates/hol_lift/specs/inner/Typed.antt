-- Inferences on typed literals, with their theorems.
use Rattle.std.specs.Prelude.{◌≡◌, ℕ, Bool, List, [], ◌∷◌, Some, slice_get, IsTrue, ◌⊎◌}
use Rattle.std.specs.FinSet as set
use Rattle.hol_terms.specs.declared.ty.Ty.{Ty}
use Rattle.hol_terms.specs.declared.sig.Sig.{Sig}
use Rattle.hol_terms.specs.declared.term.Term.{Term}
use Rattle.hol_terms.specs.Formulas.{IsFormula}
use Rattle.hyp_sets.specs.Sets.{TermSet, only, Holds, Among}
use Rattle.kernel_rules.specs.Connectives.{falsum, neg, equal, is_equal}
use Rattle.hol_kernel.specs.Logs.{Logged, IsThm, thm}
use Rattle.hol_derived.specs.Paths.{part_at, replaced_at}
use Rattle.tagged_lines.specs.TypedLiterals.{IsIn}
use Rattle.hol_terms.specs.declared.literal.TypedLiteral.{TypedLiteral}
use Rattle.hol_clauses.specs.Literals.{denied, positive, negative, with_atom, source, target, allowed}
use Rattle.clause_instances.specs.Theorems.{VarFree}

-- each literal's atom is a formula
abbrev pub AllFormulas : Sig → List TypedLiteral → Type 0
AllFormulas sig [] = Unit {0}
AllFormulas sig (l ∷ ls) = IsFormula sig l.atom × AllFormulas sig ls

-- `t = t`
pub record IsIdentity (t : Term) : Type 0 where
  pub ty : Ty
  pub term : Term
  pub is : t ≡ equal ty term term

-- `~(t = t)`, which never holds
pub record IsRefuted (l : TypedLiteral) : Type 0 where
  pub ty : Ty
  pub term : Term
  pub is : l ≡ negative (equal ty term term)

-- each of the literals is one of the new ones or is refuted
abbrev pub Last : List TypedLiteral → List TypedLiteral → Type 0
Last olds news = (l : TypedLiteral) → IsIn olds l → IsIn news l ⊎ IsRefuted l

-- theorem `r` is theorem `th` with fewer hypotheses, and without what refuted ones of these literals leave as hypotheses
pub record Drops (old new : Logged) (ls : List TypedLiteral) (th r : ℕ) : Type 0 where
  pub is_thm : IsThm new r
  pub concl : (thm new r).concl ≡ (thm old th).concl
  pub among : Among (thm new r).hyps (thm old th).hyps
  pub gone : (l : TypedLiteral) → IsIn ls l → IsRefuted l → Holds (thm new r).hyps l.atom → ⊥

-- theorem `r` concludes `false`, and whatever the base is: where `left` is a theorem of the clause `p` and `right` one of `q`, `r` is one of `c`
pub record Joins (old new : Logged) (left : ℕ) (p : List TypedLiteral) (right : ℕ) (q : List TypedLiteral) (r : ℕ) (c : List TypedLiteral) : Type 0 where
  pub is_thm : IsThm new r
  pub concl : (thm new r).concl ≡ falsum
  pub lifts : (base : TermSet) → VarFree base → Among (thm old left).hyps (allowed base p) → Among (thm old right).hyps (allowed base q) → Among (thm new r).hyps (allowed base c)

-- the one literal is an atom, and the other its negation
pub record Opposed (p : List TypedLiteral) (i : ℕ) (q : List TypedLiteral) (j : ℕ) : Type 0 where
  pub atom : Term
  pub left : slice_get p i ≡ Some (positive atom)
  pub right : slice_get q j ≡ Some (negative atom)

-- the one literal is an equation, and the other has one side of it, the right one where it is `swapped`, at the path
pub record Rewrites (p : List TypedLiteral) (i : ℕ) (swapped : Bool) (q : List TypedLiteral) (j : ℕ) (path : List ℕ) : Type 0 where
  pub equation : Term
  pub is_equation : IsTrue (is_equal equation)
  pub into : TypedLiteral
  pub left : slice_get p i ≡ Some (positive equation)
  pub right : slice_get q j ≡ Some into
  pub part : part_at path into.atom ≡ Some (source swapped equation)

-- the literal with the other side of the equation at the path
abbrev pub rewritten : Term → Bool → List ℕ → TypedLiteral → TypedLiteral
rewritten e swapped path l = with_atom l (replaced_at path (target swapped e) l.atom)

-- theorem `r` is the paramodulant's of the equation `e` and the literal `l`, which became `m`; it doesn't have what a refuted `m` leaves
pub record Paramodulated (old new : Logged) (e : Term) (left : ℕ) (l m : TypedLiteral) (right r : ℕ) : Type 0 where
  pub is_thm : IsThm new r
  pub concl : (thm new r).concl ≡ falsum
  pub among : Among (thm new r).hyps (set.union (set.union (set.remove (thm old left).hyps (neg e)) (set.remove (thm old right).hyps (denied l))) (only (denied m)))
  pub gone : IsRefuted m → Holds (thm new r).hyps m.atom → ⊥
