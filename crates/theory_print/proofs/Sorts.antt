-- The sorts from the inside out: what is derivable as one is derivable as each that holds it.
use Rattle.std.proofs.Common.{◌≡◌, ℕ, ◌≤◌, not-suc-le-zero, List, ◌++◌, append_assoc, append-nil, refl, sym, subst, arith}
use Rattle.theory_syntax.specs.declared.tree.Op.{Op}
use Rattle.theory_syntax.specs.declared.tree.Op.TheVariants as op
use Rattle.theory_syntax.specs.declared.tree.Tree.{Tree}
use Rattle.theory_syntax.specs.Grammar.{Placed, Sort as Sort_, Formula, Chain, Neg, Eq, App, Args, Atom, lower, right, extend, Derives, bind, plain, one, more, not, same, side, sides, head, none, arg, name, truth, round}
use Rattle.theory_print.specs.declared.sort.Sort.{Sort}
use Rattle.theory_print.specs.declared.sort.Sort.TheVariants as sort
use Rattle.theory_print.specs.Written.{rank, left_of, right_of}

-- the grammar's name of a sort
abbrev pub of_grammar : Sort → Sort_
of_grammar sort.Atom = Atom
of_grammar sort.App = App
of_grammar sort.Eq = Eq
of_grammar sort.Neg = Neg
of_grammar (sort.Chain o) = Chain o
of_grammar sort.Formula = Formula

pub left_same : (o : Op) → of_grammar (left_of o) ≡ lower o
left_same op.And = refl
left_same op.Or = refl
left_same op.Imp = refl

pub right_same : (o : Op) → of_grammar (right_of o) ≡ right o
right_same op.And = refl
right_same op.Or = refl
right_same op.Imp = refl

-- a head without arguments
pub only : {l : ℕ} {p : List Placed} {t : Tree} → Derives l Atom p t → Derives l App p t
only {l = l} {p = p} {t = t} d = subst (λ q. Derives l App q t) (append-nil p) (head d none)

module _ (l : ℕ) (p : List Placed) (t : Tree) where
  from_formula : (s : Sort) → 7 ≤ rank s → Derives l Formula p t → Derives l (of_grammar s) p t
  from_formula sort.Atom h d = absurd (let e : 1 ≤ 0 = omega arith in not-suc-le-zero e)
  from_formula sort.App h d = absurd (let e : 1 ≤ 0 = omega arith in not-suc-le-zero e)
  from_formula sort.Eq h d = absurd (let e : 1 ≤ 0 = omega arith in not-suc-le-zero e)
  from_formula sort.Neg h d = absurd (let e : 1 ≤ 0 = omega arith in not-suc-le-zero e)
  from_formula (sort.Chain op.And) h d = absurd (let e : 1 ≤ 0 = omega arith in not-suc-le-zero e)
  from_formula (sort.Chain op.Or) h d = absurd (let e : 1 ≤ 0 = omega arith in not-suc-le-zero e)
  from_formula (sort.Chain op.Imp) h d = absurd (let e : 1 ≤ 0 = omega arith in not-suc-le-zero e)
  from_formula sort.Formula h d = d

  from_imp : (s : Sort) → 6 ≤ rank s → Derives l (Chain op.Imp) p t → Derives l (of_grammar s) p t
  from_imp sort.Atom h d = absurd (let e : 1 ≤ 0 = omega arith in not-suc-le-zero e)
  from_imp sort.App h d = absurd (let e : 1 ≤ 0 = omega arith in not-suc-le-zero e)
  from_imp sort.Eq h d = absurd (let e : 1 ≤ 0 = omega arith in not-suc-le-zero e)
  from_imp sort.Neg h d = absurd (let e : 1 ≤ 0 = omega arith in not-suc-le-zero e)
  from_imp (sort.Chain op.And) h d = absurd (let e : 1 ≤ 0 = omega arith in not-suc-le-zero e)
  from_imp (sort.Chain op.Or) h d = absurd (let e : 1 ≤ 0 = omega arith in not-suc-le-zero e)
  from_imp (sort.Chain op.Imp) h d = d
  from_imp sort.Formula h d = plain d

  from_or : (s : Sort) → 5 ≤ rank s → Derives l (Chain op.Or) p t → Derives l (of_grammar s) p t
  from_or sort.Atom h d = absurd (let e : 1 ≤ 0 = omega arith in not-suc-le-zero e)
  from_or sort.App h d = absurd (let e : 1 ≤ 0 = omega arith in not-suc-le-zero e)
  from_or sort.Eq h d = absurd (let e : 1 ≤ 0 = omega arith in not-suc-le-zero e)
  from_or sort.Neg h d = absurd (let e : 1 ≤ 0 = omega arith in not-suc-le-zero e)
  from_or (sort.Chain op.And) h d = absurd (let e : 1 ≤ 0 = omega arith in not-suc-le-zero e)
  from_or (sort.Chain op.Or) h d = d
  from_or (sort.Chain op.Imp) h d = one d
  from_or sort.Formula h d = plain (one d)

  from_and : (s : Sort) → 4 ≤ rank s → Derives l (Chain op.And) p t → Derives l (of_grammar s) p t
  from_and sort.Atom h d = absurd (let e : 1 ≤ 0 = omega arith in not-suc-le-zero e)
  from_and sort.App h d = absurd (let e : 1 ≤ 0 = omega arith in not-suc-le-zero e)
  from_and sort.Eq h d = absurd (let e : 1 ≤ 0 = omega arith in not-suc-le-zero e)
  from_and sort.Neg h d = absurd (let e : 1 ≤ 0 = omega arith in not-suc-le-zero e)
  from_and (sort.Chain op.And) h d = d
  from_and (sort.Chain op.Or) h d = one d
  from_and (sort.Chain op.Imp) h d = one (one d)
  from_and sort.Formula h d = plain (one (one d))

  from_neg : (s : Sort) → 3 ≤ rank s → Derives l Neg p t → Derives l (of_grammar s) p t
  from_neg sort.Atom h d = absurd (let e : 1 ≤ 0 = omega arith in not-suc-le-zero e)
  from_neg sort.App h d = absurd (let e : 1 ≤ 0 = omega arith in not-suc-le-zero e)
  from_neg sort.Eq h d = absurd (let e : 1 ≤ 0 = omega arith in not-suc-le-zero e)
  from_neg sort.Neg h d = d
  from_neg (sort.Chain op.And) h d = one d
  from_neg (sort.Chain op.Or) h d = one (one d)
  from_neg (sort.Chain op.Imp) h d = one (one (one d))
  from_neg sort.Formula h d = plain (one (one (one d)))

  from_eq : (s : Sort) → 2 ≤ rank s → Derives l Eq p t → Derives l (of_grammar s) p t
  from_eq sort.Atom h d = absurd (let e : 1 ≤ 0 = omega arith in not-suc-le-zero e)
  from_eq sort.App h d = absurd (let e : 1 ≤ 0 = omega arith in not-suc-le-zero e)
  from_eq sort.Eq h d = d
  from_eq sort.Neg h d = same d
  from_eq (sort.Chain op.And) h d = one (same d)
  from_eq (sort.Chain op.Or) h d = one (one (same d))
  from_eq (sort.Chain op.Imp) h d = one (one (one (same d)))
  from_eq sort.Formula h d = plain (one (one (one (same d))))

  from_app : (s : Sort) → 1 ≤ rank s → Derives l App p t → Derives l (of_grammar s) p t
  from_app sort.Atom h d = absurd (let e : 1 ≤ 0 = omega arith in not-suc-le-zero e)
  from_app sort.App h d = d
  from_app sort.Eq h d = side d
  from_app sort.Neg h d = same (side d)
  from_app (sort.Chain op.And) h d = one (same (side d))
  from_app (sort.Chain op.Or) h d = one (one (same (side d)))
  from_app (sort.Chain op.Imp) h d = one (one (one (same (side d))))
  from_app sort.Formula h d = plain (one (one (one (same (side d)))))

  from_atom : (s : Sort) → 0 ≤ rank s → Derives l Atom p t → Derives l (of_grammar s) p t
  from_atom sort.Atom h d = d
  from_atom sort.App h d = only d
  from_atom sort.Eq h d = side (only d)
  from_atom sort.Neg h d = same (side (only d))
  from_atom (sort.Chain op.And) h d = one (same (side (only d)))
  from_atom (sort.Chain op.Or) h d = one (one (same (side (only d))))
  from_atom (sort.Chain op.Imp) h d = one (one (one (same (side (only d)))))
  from_atom sort.Formula h d = plain (one (one (one (same (side (only d))))))

  pub raise : (own s : Sort) → rank own ≤ rank s → Derives l (of_grammar own) p t → Derives l (of_grammar s) p t
  raise sort.Atom s h d = from_atom s h d
  raise sort.App s h d = from_app s h d
  raise sort.Eq s h d = from_eq s h d
  raise sort.Neg s h d = from_neg s h d
  raise (sort.Chain op.And) s h d = from_and s h d
  raise (sort.Chain op.Or) s h d = from_or s h d
  raise (sort.Chain op.Imp) s h d = from_imp s h d
  raise sort.Formula s h d = from_formula s h d

-- an argument more
abbrev Appends : ℕ → Sort_ → List Placed → Tree → Type 0
Appends l App p t = (q : List Placed) (x : Tree) → Derives l Atom q x → Derives l App (p ++ q) (extend t x)
Appends l (Args f) p t = (q : List Placed) (x : Tree) → Derives l Atom q x → Derives l (Args f) (p ++ q) (extend t x)
Appends l _ p t = Unit {0}

appends : {l : ℕ} {s : Sort_} {p : List Placed} {t : Tree} → Derives l s p t → Appends l s p t
appends (bind d e) = tt
appends (plain d) = tt
appends (one d) = tt
appends (more d e) = tt
appends (not d) = tt
appends (same d) = tt
appends (side d) = tt
appends (sides d e) = tt
appends (head {l = l} {p = p} {q = q} {t = t} d e) = λ r x g. subst (λ z. Derives l App z (extend t x)) (sym (append_assoc p q r)) (head d (appends e r x g))
appends (none {l = l} {f = f}) = λ r x g. subst (λ z. Derives l (Args f) z (extend f x)) (append-nil r) (arg g none)
appends (arg {l = l} {f = f} {t = t} {p = p} {q = q} d e) = λ r x g.
    subst (λ z. Derives l (Args f) z (extend t x)) (sym (append_assoc p q r)) (arg d (appends e r x g))
appends name = tt
appends truth = tt
appends (round d) = tt

pub append_arg : {l : ℕ} {p q : List Placed} {f x : Tree} → Derives l App p f → Derives l Atom q x → Derives l App (p ++ q) (extend f x)
append_arg {q = q} {x = x} d e = appends d q x e
