-- How deep a type or a term is written, counted from the level where it stands.
use Rattle.std.proofs.Common.{◌≡◌, ℕ, ◌+◌, ◌≤◌, ◌<◌, max, Bool, true, false, nat_le, if◌then◌else◌, refl, ap, rules, arith}
use Rattle.hol_terms.specs.declared.ty.Ty.{Ty, roll-Ty}
use Rattle.hol_terms.specs.declared.ty.Ty.TheOpen.{Ty-F}
use Rattle.hol_terms.specs.declared.ty.Ty.TheFolds.{fold-Ty, fold-roll-Ty}
use Rattle.hol_terms.specs.Types.{function_ty}
use Rattle.theory_syntax.specs.Grammar.{TypeSort, Whole, Single}
use Rattle.theory_print.specs.declared.sort.Sort.{Sort}
use Rattle.theory_print.specs.declared.sort.Sort.TheVariants as sort
use Rattle.theory_print.specs.Shapes.{Shape, Variable, Constant, Truth, Apply, Equals, Not, Join, Bind}
use Rattle.theory_print.specs.Written.{rank, left_of, right_of}

pub is_le : (m n : ℕ) → m ≤ n → nat_le m n ≡ true
is_le m n h = search (rules, h)

pub is_gt : (m n : ℕ) → n < m → nat_le m n ≡ false
is_gt m n h = search (rules, h)

-- ---- types

abbrev pub raised_ty : TypeSort → ℕ → ℕ
raised_ty Whole n = n
raised_ty Single n = n + 1

abbrev pub ty_depth_step : Ty-F (TypeSort → ℕ) → TypeSort → ℕ
ty_depth_step (Ty-F.Base i) s = 0
ty_depth_step (Ty-F.Arrow a b) s = raised_ty s (max (a Single) (b Whole + 1))

abbrev pub ty_depth : Ty → TypeSort → ℕ
ty_depth = fold-Ty (TypeSort → ℕ) ty_depth_step

pub base_depth : (i : ℕ) (s : TypeSort) → ty_depth (roll-Ty (Ty-F.Base i)) s ≡ 0
base_depth i s = ap (λ g. g s) (fold-roll-Ty (TypeSort → ℕ) ty_depth_step (Ty-F.Base i))

pub arrow_depth : (a b : Ty) (s : TypeSort) → ty_depth (function_ty a b) s ≡ raised_ty s (max (ty_depth a Single) (ty_depth b Whole + 1))
arrow_depth a b s = ap (λ g. g s) (fold-roll-Ty (TypeSort → ℕ) ty_depth_step (Ty-F.Arrow a b))

-- ---- terms

-- a level more, where brackets are wanted
abbrev pub raised : Sort → Sort → ℕ → ℕ
raised own wanted n = if nat_le (rank own) (rank wanted) then n else n + 1

abbrev pub depth : Shape → Sort → ℕ
depth (Variable i) s = 0
depth (Constant c) s = 0
depth (Truth b) s = 0
depth (Apply f x) s = raised sort.App s (max (depth f sort.App) (depth x sort.Atom))
depth (Equals a b) s = raised sort.Eq s (max (depth a sort.App) (depth b sort.App))
depth (Not a) s = raised sort.Neg s (depth a sort.Neg + 1)
depth (Join o a b) s = raised (sort.Chain o) s (max (depth a (left_of o)) (depth b (right_of o) + 1))
depth (Bind q a b) s = raised sort.Formula s (max (ty_depth a Whole) (depth b sort.Formula + 1))

pub raised_inside : (own s : Sort) (n : ℕ) → rank own ≤ rank s → raised own s n ≡ n
raised_inside own s n h = rw (is_le (rank own) (rank s) h) refl

pub raised_outside : (own s : Sort) (n : ℕ) → rank s < rank own → raised own s n ≡ n + 1
raised_outside own s n h = rw (is_gt (rank own) (rank s) h) refl

at_most : (b : Bool) (n : ℕ) → (if b then n else n + 1) ≤ n + 1
at_most true n = omega arith
at_most false n = omega arith

at_least : (b : Bool) (n : ℕ) → n ≤ (if b then n else n + 1)
at_least true n = omega arith
at_least false n = omega arith

pub raised_most : (own s : Sort) (n : ℕ) → raised own s n ≤ n + 1
raised_most own s n = at_most (nat_le (rank own) (rank s)) n

pub raised_least : (own s : Sort) (n : ℕ) → n ≤ raised own s n
raised_least own s n = at_least (nat_le (rank own) (rank s)) n

mono_at : (a b : Bool) (n : ℕ) → (a ≡ true → b ≡ true) → (if b then n else n + 1) ≤ (if a then n else n + 1)
mono_at true true n h = omega arith
mono_at true false n h = let e = h refl in cc
mono_at false true n h = omega arith
mono_at false false n h = omega arith

raised_mono : (own s t : Sort) (n : ℕ) → rank s ≤ rank t → raised own t n ≤ raised own s n
raised_mono own s t n h =
    mono_at (nat_le (rank own) (rank s)) (nat_le (rank own) (rank t)) n
    (λ e. let l : rank own ≤ rank s = search (rules, e) in is_le (rank own) (rank t) (omega arith))

-- where more may stand without brackets it is no deeper
pub depth_mono : (p : Shape) (s t : Sort) → rank s ≤ rank t → depth p t ≤ depth p s
depth_mono (Variable i) s t h = omega arith
depth_mono (Constant c) s t h = omega arith
depth_mono (Truth b) s t h = omega arith
depth_mono (Apply f x) s t h = raised_mono sort.App s t (max (depth f sort.App) (depth x sort.Atom)) h
depth_mono (Equals a b) s t h = raised_mono sort.Eq s t (max (depth a sort.App) (depth b sort.App)) h
depth_mono (Not a) s t h = raised_mono sort.Neg s t (depth a sort.Neg + 1) h
depth_mono (Join o a b) s t h = raised_mono (sort.Chain o) s t (max (depth a (left_of o)) (depth b (right_of o) + 1)) h
depth_mono (Bind q a b) s t h = raised_mono sort.Formula s t (max (ty_depth a Whole) (depth b sort.Formula + 1)) h

round_at : (own s t : Sort) (n : ℕ) → raised own s n ≤ raised own t n + 1
round_at own s t n = let h = raised_most own s n in let k = raised_least own t n in omega arith

-- brackets cost a level at most
pub depth_round : (p : Shape) (s t : Sort) → depth p s ≤ depth p t + 1
depth_round (Variable i) s t = omega arith
depth_round (Constant c) s t = omega arith
depth_round (Truth b) s t = omega arith
depth_round (Apply f x) s t = round_at sort.App s t (max (depth f sort.App) (depth x sort.Atom))
depth_round (Equals a b) s t = round_at sort.Eq s t (max (depth a sort.App) (depth b sort.App))
depth_round (Not a) s t = round_at sort.Neg s t (depth a sort.Neg + 1)
depth_round (Join o a b) s t = round_at (sort.Chain o) s t (max (depth a (left_of o)) (depth b (right_of o) + 1))
depth_round (Bind q a b) s t = round_at sort.Formula s t (max (ty_depth a Whole) (depth b sort.Formula + 1))
