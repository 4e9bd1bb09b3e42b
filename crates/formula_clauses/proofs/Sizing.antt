-- How many nodes closed terms have.
use Rattle.std.proofs.Common.{◌≡◌, ℕ, ◌+◌, ◌<◌, ◌≤◌, Bool, true, false, ◌&&◌, ◌==◌, nat_lt, nat_le, if◌then◌else◌, List, [], ◌∷◌, length, sym, ap, ◌∙◌, arith}
use Rattle.std.proofs.lemmas.Bool.Decides.{nat_tests}
use Rattle.hol_terms.specs.declared.ty.Ty.{Ty}
use Rattle.hol_terms.specs.declared.konst.Konst.{Konst}
use Rattle.hol_terms.specs.declared.konst.Konst.TheVariants as konst
use Rattle.hol_terms.specs.declared.term.Term.{Term, roll-Term}
use Rattle.hol_terms.specs.declared.term.Term.TheOpen.{Term-F}
use Rattle.hol_terms.specs.declared.term.Term.TheFolds.{fold-roll-Term}
use Rattle.hol_terms.specs.Types.{is_ty}
use Rattle.hol_terms.specs.Substitution.{abstracted_at}
use Rattle.hol_terms.proofs.TermCases.{by_cases}
use Rattle.hol_terms.proofs.Equations.{abstracted-bound, abstracted-free, abstracted-con, abstracted-app, abstracted-lam}
use Rattle.kernel_rules.specs.Connectives.{constant, apply, lambda, chosen}
use Rattle.lambda_lift.specs.declared.table.Aux.{Aux}
use Rattle.lambda_lift.specs.Tables.{expand}
use Rattle.formula_clauses.specs.Choices.{Variable, variables, closed_over, choice}
use Rattle.formula_clauses.specs.Sizes.{nodes, nodes_step, is_small}

nodes_app : (f x : Term) → nodes (apply f x) ≡ nodes f + nodes x + 1
nodes_app f x = fold-roll-Term ℕ nodes_step (Term-F.App f x)

nodes_lam : (a : Ty) (b : Term) → nodes (lambda a b) ≡ nodes b + 1
nodes_lam a b = fold-roll-Term ℕ nodes_step (Term-F.Lam a b)

nodes_con : (k : Konst) → nodes (constant k) ≡ 1
nodes_con k = fold-roll-Term ℕ nodes_step (Term-F.Con k)

nodes_bound : (i : ℕ) → nodes (roll-Term (Term-F.Bound i)) ≡ 1
nodes_bound i = fold-roll-Term ℕ nodes_step (Term-F.Bound i)

nodes_free : (n : ℕ) (a : Ty) → nodes (roll-Term (Term-F.Free n a)) ≡ 1
nodes_free n a = fold-roll-Term ℕ nodes_step (Term-F.Free n a)

-- ---- an abstracted term has the nodes of the term
module _ (n : ℕ) (a : Ty) where
  abbrev Same : Term → Type 0
  Same t = (d : ℕ) → nodes (abstracted_at n a t d) ≡ nodes t

  either : (b : Bool) (d m : ℕ) (c : Ty) → nodes (if b then roll-Term (Term-F.Bound d) else roll-Term (Term-F.Free m c)) ≡ 1
  either true d m c = nodes_bound d
  either false d m c = nodes_free m c

  pub nodes_abstracted : (t : Term) → Same t
  nodes_abstracted =
      by_cases Same (λ i d. ap nodes (abstracted-bound n a i d) ∙ nodes_bound (if nat_lt i d then i else i + 1) ∙ sym (nodes_bound i))
      (λ m c d. ap nodes (abstracted-free n a m c d) ∙ either (m == n && is_ty c a) d m c ∙ sym (nodes_free m c)) (λ k d. ap nodes (abstracted-con n a k d))
      (λ f x hf hx d. ap nodes (abstracted-app n a f x d) ∙ nodes_app _ _ ∙ (λ i. hf d i + hx d i + 1) ∙ sym (nodes_app f x))
      (λ c b hb d. ap nodes (abstracted-lam n a c b d) ∙ nodes_lam c _ ∙ ap (λ k. k + 1) (hb (d + 1)) ∙ sym (nodes_lam c b))

nodes_closed : (vs : List Variable) (t : Term) → nodes (closed_over vs t) ≡ length vs + nodes t
nodes_closed [] t = let same : nodes t ≡ 0 + nodes t = omega arith in same
nodes_closed (v ∷ vs) t =
    let one : nodes (closed_over (v ∷ vs) t) ≡ nodes (abstracted_at v.0 v.1 (closed_over vs t) 0) + 1 = nodes_lam v.1 (abstracted_at v.0 v.1 (closed_over vs t) 0) in
    let same : nodes (abstracted_at v.0 v.1 (closed_over vs t) 0) ≡ nodes (closed_over vs t) = nodes_abstracted v.0 v.1 (closed_over vs t) 0 in
    let rest : nodes (closed_over vs t) ≡ length vs + nodes t = nodes_closed vs t in
    grind (arith, one, same, rest)

pub nodes_choice : (table : List Aux) (a : Ty) (f : Term) → nodes (choice table a f) ≡ length (variables f) + (nodes (expand table f) + 2)
nodes_choice table a f =
    let closed = nodes_closed (variables f) (chosen a (expand table f)) in
    let one : nodes (chosen a (expand table f)) ≡ nodes (constant (konst.Eps a)) + nodes (expand table f) + 1 = nodes_app (constant (konst.Eps a)) (expand table f) in
    let two : nodes (constant (konst.Eps a)) ≡ 1 = nodes_con (konst.Eps a) in
    let three : nodes (chosen a (expand table f)) ≡ nodes (expand table f) + 2 = grind (arith, one, two) in
    closed ∙ ap (λ k. length (variables f) + k) three

is_above : (k m : ℕ) → m < k → nat_le k m ≡ false
is_above k m h = grind (arith, nat_tests, h)

is_within : (k m : ℕ) → k ≤ m → nat_le k m ≡ true
is_within k m h = grind (arith, nat_tests, h)

pub choice_large : (table : List Aux) (a : Ty) (f : Term) → 2046 < length (variables f) + nodes (expand table f) → is_small (choice table a f) ≡ false
choice_large table a f h =
    let all = nodes_choice table a f in
    is_above (nodes (choice table a f)) 2048 (grind (arith, all, h))

pub choice_small : (table : List Aux) (a : Ty) (f : Term) → length (variables f) + nodes (expand table f) ≤ 2046 → is_small (choice table a f) ≡ true
choice_small table a f h =
    let all = nodes_choice table a f in
    is_within (nodes (choice table a f)) 2048 (grind (arith, all, h))

-- ---- as they are counted: `left` of 2046 is left behind the property
pub variables_over : (table : List Aux) (a : Ty) (f : Term) (vs : List Variable) (n left : ℕ) → nodes (expand table f) + left ≡ 2046 → n ≡ length vs → vs ≡ variables f → left < n →
    is_small (choice table a f) ≡ false
variables_over table a f vs n left taken len are h =
    let k : n ≡ length (variables f) = len ∙ ap length are in
    choice_large table a f (omega (arith, taken, k, h))

pub variables_within : (table : List Aux) (a : Ty) (f : Term) (vs : List Variable) (n left : ℕ) → nodes (expand table f) + left ≡ 2046 → n ≡ length vs → vs ≡ variables f → n ≤ left →
    is_small (choice table a f) ≡ true
variables_within table a f vs n left taken len are h =
    let k : n ≡ length (variables f) = len ∙ ap length are in
    choice_small table a f (omega (arith, taken, k, h))

pub property_over : (table : List Aux) (a : Ty) (f : Term) → 2046 < nodes (expand table f) → is_small (choice table a f) ≡ false
property_over table a f h = choice_large table a f (omega (arith, h))
