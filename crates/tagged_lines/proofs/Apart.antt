-- Parents side by side: the right one's variables stand behind the left one's.
use Rattle.std.proofs.Common.{◌≡◌, ℕ, zero, suc, IsTrue, ◌+◌, ◌-◌, ◌<◌, ◌≤◌, Bool, true, false, ◌||◌, ◌==◌, Option, None, if◌then◌else◌, nat_lt, List, [], ◌∷◌, refl, sym, ap, subst, ◌∙◌, Some, arith}
use Rattle.std.specs.List.{list_any}
use Rattle.hol_terms.specs.declared.ty.Ty.{Ty}
use Rattle.hol_terms.specs.declared.sig.Sig.{Sig}
use Rattle.hol_terms.specs.Types.{ty_fits}
use Rattle.fo_terms.specs.declared.literal.Literal.{Literal}
use Rattle.fo_terms.specs.declared.clause.Clause.{Clause}
use Rattle.fo_terms.specs.Substitution.{var}
use Rattle.fo_terms.specs.Normal.{clause_variables}
use Rattle.fo_terms.proofs.Induction.{Each}
use Rattle.fo_terms.proofs.Renaming.{each_map}
use Rattle.fo_terms.proofs.Substitution.{equal_from}
use Rattle.fo_infer.specs.Inferences.{above_all}
use Rattle.tagged_terms.specs.Readings.{Signs, Types, free, variable, IsCore}
use Rattle.tagged_terms.specs.Clauses.{IsClause}
use Rattle.tagged_terms.specs.Fits.{AreOf, Fits}
use Rattle.tagged_terms.proofs.Steps.{read_var}
use Rattle.tagged_terms.proofs.Standing.{puts}
use Rattle.tagged_lines.specs.Variables.{own, beside, apart_from, final_types}
use Rattle.tagged_lines.proofs.Agreeing.{same_clause}
use Rattle.tagged_lines.proofs.Items.{Listed}

-- each number is below the least one above all
below_all : (xs : List ℕ) (n : ℕ) → above_all xs ≤ n → Each (λ x. x < n) xs
below_all [] n h = tt
below_all (x ∷ xs) n h = (omega arith, below_all xs n (omega arith))

left_of : (n x : ℕ) (left right : Types) (test : Bool) → nat_lt x n ≡ test → x < n → left x ≡ (if test then left x else right (x - n))
left_of n x left right true e h = refl
left_of n x left right false e h = absurd (grind (arith, e))

right_of : (n x : ℕ) (left right : Types) (test : Bool) → nat_lt (x + n) n ≡ test → (if test then left (x + n) else right ((x + n) - n)) ≡ right x
right_of n x left right true e = absurd (grind (arith, e))
right_of n x left right false e = ap right (omega arith)

pub beside_right : (n x : ℕ) (left right : Types) → beside n left right (x + n) ≡ right x
beside_right n x left right = right_of n x left right (nat_lt (x + n) n) refl

-- the left parent over both types
pub left_clause : (signs : Signs) (p : Clause) (left right : Types) → IsClause signs left p.literals → IsClause signs (beside (above_all (clause_variables p.literals)) left right) p.literals
left_clause signs p left right h =
    let n = above_all (clause_variables p.literals) in
    same_clause signs left (beside n left right) p.literals
    (each_map (λ x. x < n) (λ x. left x ≡ beside n left right x) (clause_variables p.literals) (λ x k. left_of n x left right (nat_lt x n) refl k) (below_all (clause_variables p.literals) n (omega arith))) h

variable_read : (signs : Signs) (types : Types) (x : ℕ) (s : Ty) → types x ≡ Some s → IsCore signs types (var x) s (free x s)
variable_read signs types x s is = read_var signs types x ∙ ap (λ o. variable o x) is

-- renaming apart fits
pub apart_fits : (signs : Signs) (p : Clause) (left right : Types) → Fits signs right (beside (above_all (clause_variables p.literals)) left right) (apart_from p)
apart_fits signs p left right x s is =
    let n = above_all (clause_variables p.literals) in
    puts signs (beside n left right) (apart_from p) x s (free (x + n) s) (variable_read signs (beside n left right) (x + n) s (beside_right n x left right ∙ is))

listed_step : (P : ℕ → Type 0) (y x : ℕ) (ys : List ℕ) (test : Bool) → (y == x) ≡ test → (test || list_any (λ z. z == x) ys) ≡ true → P y → (Listed ys x → P x) → P x
listed_step P y x ys true e h k rest = subst P (equal_from y x e) k
listed_step P y x ys false e h k rest = rest h

pub at_listed : (P : ℕ → Type 0) (xs : List ℕ) (x : ℕ) → Each P xs → Listed xs x → P x
at_listed P [] x h k = absurd (cc)
at_listed P (y ∷ ys) x h k = listed_step P y x ys (y == x) refl k h.0 (at_listed P ys x h.1)

pub own_parts : (o : Option Ty) (s : Ty) (test : Bool) → (if test then o else None) ≡ Some s → (test ≡ true) × (o ≡ Some s)
own_parts o s true h = (refl, h)
own_parts o s false h = absurd (cc)

-- a clause's own types are among the given ones
pub own_given : (ls : List Literal) (types : Types) (x : ℕ) (s : Ty) → own ls types x ≡ Some s → types x ≡ Some s
own_given ls types x s h = (own_parts (types x) s (list_any (λ y. y == x) (clause_variables ls)) h).1

-- and the left parent's own ones among both
pub own_left : (p : Clause) (left right : Types) (x : ℕ) (s : Ty) → own p.literals left x ≡ Some s → beside (above_all (clause_variables p.literals)) left right x ≡ Some s
own_left p left right x s h =
    let n = above_all (clause_variables p.literals) in
    let parts = own_parts (left x) s (list_any (λ y. y == x) (clause_variables p.literals)) h in
    sym (at_listed (λ y. left y ≡ beside n left right y) (clause_variables p.literals) x
    (each_map (λ y. y < n) (λ y. left y ≡ beside n left right y) (clause_variables p.literals) (λ y k. left_of n y left right (nat_lt y n) refl k) (below_all (clause_variables p.literals) n (omega arith)))
    parts.0)
    ∙ parts.1

-- ---- types of a signature

of_step : (sig : Sig) (n x : ℕ) (left right : Types) (s : Ty) (test : Bool) → AreOf sig left → AreOf sig right → (if test then left x else right (x - n)) ≡ Some s → IsTrue (ty_fits sig.types s)
of_step sig n x left right s true h k is = h x s is
of_step sig n x left right s false h k is = k (x - n) s is

pub beside_of : (sig : Sig) (n : ℕ) (left right : Types) → AreOf sig left → AreOf sig right → AreOf sig (beside n left right)
beside_of sig n left right h k x s is = of_step sig n x left right s (nat_lt x n) h k is

pub final_of : (sig : Sig) (seen : List ℕ) (types : Types) → AreOf sig types → AreOf sig (final_types seen types)
final_of sig [] types h x s is = h x s is
final_of sig (y ∷ ys) types h zero s is = h y s is
final_of sig (y ∷ ys) types h (suc x) s is = final_of sig ys types h x s is
