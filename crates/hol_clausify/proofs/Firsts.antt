-- A list with a first element and others.
use Rattle.std.proofs.Common.{◌≡◌, ℕ, ◌<◌, ◌≤◌, ◌-◌, List, [], ◌∷◌, length, drop, take, get_or, ◌∙◌, sym, ap, subst, arith}
use Rattle.std.proofs.lemmas.List.{take_all}
use Rattle.hol_terms.specs.declared.term.Term.{Term}
use Rattle.lambda_lift.specs.Wholes.{conjunction, all_of}

-- the others of a list with a first one
abbrev pub others : List Term → List Term
others more = take (length more - 1) (drop 1 more)

pub split : (more : List Term) (x : Term) → 1 ≤ length more → x ≡ get_or more 0 x → more ≡ x ∷ others more
split [] x h e = absurd (omega (arith, h))
split (y ∷ ys) x h e = (λ i. sym e i ∷ sym (take_all (length (y ∷ ys) - 1) ys (omega arith)) i)

pub shorter : (more : List Term) → 1 ≤ length more → length (others more) < length more
shorter [] h = absurd (omega (arith, h))
shorter (y ∷ ys) h = subst (λ l. length l < length (y ∷ ys)) (sym (take_all (length (y ∷ ys) - 1) ys (omega arith))) (omega arith)

-- as one formula
pub joined_again : (ts : List Term) (x : Term) → 1 ≤ length ts → x ≡ get_or ts 0 x → conjunction x (others ts) ≡ all_of ts
joined_again ts x h e = ap all_of (sym (split ts x h e))
