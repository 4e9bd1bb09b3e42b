-- The walk that makes clauses of a formula.
use Rattle.std.specs.Prelude.{ℕ, ◌+◌, Bool, true, false, not, ◌&&◌, nat_le, if◌then◌else◌, List, [], ◌∷◌, ◌++◌, map, length}
use Rattle.hol_terms.specs.declared.ty.Ty.{Ty}
use Rattle.hol_terms.specs.declared.term.Term.{Term, roll-Term}
use Rattle.hol_terms.specs.declared.term.Term.TheOpen.{Term-F}
use Rattle.kernel_rules.specs.Connectives.{neg, lambda}
use Rattle.lambda_lift.specs.declared.table.Aux.{Aux}
use Rattle.hol_terms.specs.declared.literal.TypedLiteral.{TypedLiteral}
use Rattle.hol_formulas.specs.declared.formula.Junction.{Junction}
use Rattle.hol_formulas.specs.declared.formula.Junction.TheVariants as junctions
use Rattle.hol_formulas.specs.declared.formula.Quantifier.{Quantifier}
use Rattle.hol_formulas.specs.declared.formula.Quantifier.TheVariants as quantifiers
use Rattle.hol_formulas.specs.declared.formula.Formula.{Formula}
use Rattle.hol_formulas.specs.declared.formula.Formula.TheOpen.{Formula-F}
use Rattle.hol_formulas.specs.declared.formula.Formula.TheFolds.{fold-Formula}
use Rattle.formula_clauses.specs.Choices.{put_in, choice, chosen_term, with_choice}
use Rattle.formula_clauses.specs.Sizes.{is_small}

-- ---- lists of clauses

abbrev pub Clauses : Type 0
Clauses = List (List TypedLiteral)

-- each clause of the left list with each of the right one, the left one outermost
abbrev pub joined : Clauses → Clauses → Clauses
joined [] ds = []
joined (c ∷ cs) ds = map (λ d. c ++ d) ds ++ joined cs ds

abbrev pub appended : Clauses → Clauses → Clauses
appended cs ds = cs ++ ds

-- no clause where it is true, and the empty clause where it is false
abbrev pub truth : Bool → Clauses
truth b = if b then [] else [] ∷ []

abbrev pub literal : Bool → Term → Clauses
literal s t = (record { positive = s; atom = t } ∷ []) ∷ []

-- ---- the walk

-- the number of the next variable, and the table of closed terms so far
pub record Progress : Type 0 where
  pub next : ℕ
  pub table : List Aux

-- what the walk gives: the progress behind it, whether each list of clauses on the way has at most 64, whether each closed term on
-- the way is small, and the clauses
pub record Walked : Type 0 where
  pub after : Progress
  pub few : Bool
  pub small : Bool
  pub clauses : Clauses

-- from a sign (true is positive), the terms put for the variables of the quantifiers around, the innermost first, and the progress
abbrev pub Pass : Type 0
Pass = Progress → Walked

abbrev pub Walk : Type 0
Walk = Bool → List Term → Pass

abbrev pub leaf : Clauses → Pass
leaf cs p = record { after = p; few = true; small = true; clauses = cs }

-- the left pass, then the right one, and one list of the two
abbrev pub both : (Clauses → Clauses → Clauses) → Pass → Pass → Pass
both make x y p =
    let l = x p in
    let r = y l.after in
    let cs = make l.clauses r.clauses in
    record { after = r.after; few = l.few && (r.few && nat_le (length cs) 64); small = l.small && r.small; clauses = cs }

abbrev pub junction_pass : Junction → Walk → Walk → Walk
junction_pass junctions.And a b s e = both (if s then appended else joined) (a s e) (b s e)
junction_pass junctions.Or a b s e = both (if s then joined else appended) (a s e) (b s e)
junction_pass junctions.Imp a b s e = both (if s then joined else appended) (a (not s) e) (b s e)
junction_pass junctions.Iff a b s e = both appended (both joined (a (not s) e) (b true e)) (both joined (a s e) (b false e))

-- the term put for a quantifier's variable, the progress behind it, and whether the closed term made for it is small
pub record Opened : Type 0 where
  pub value : Term
  pub after : Progress
  pub small : Bool

abbrev pub next_variable : Ty → Progress → Opened
next_variable a p = record { value = roll-Term (Term-F.Free p.next a); after = record { next = p.next + 1; table = p.table }; small = true }

abbrev pub chosen_value : Ty → Term → Progress → Opened
chosen_value a f p =
    record {
      value = chosen_term p.table a f;
      after = record { next = p.next; table = with_choice p.table a f };
      small = is_small (choice p.table a f);
    }

-- the body holds for each value of the variable, where it stands with this sign
abbrev pub is_universal : Quantifier → Bool → Bool
is_universal quantifiers.All s = s
is_universal quantifiers.Ex s = not s

-- what a chosen value has to have: the body, or its negation, of a value that the quantified formula is about
abbrev pub property : Quantifier → Ty → Term → Term
property quantifiers.All a b = lambda a (neg b)
property quantifiers.Ex a b = lambda a b

abbrev pub opened : Quantifier → Ty → Term → Bool → List Term → Progress → Opened
opened q a t s e p = if is_universal q s then next_variable a p else chosen_value a (property q a (put_in e t 1)) p

abbrev pub inside : Opened → Walked → Walked
inside o w = record { after = w.after; few = w.few; small = o.small && w.small; clauses = w.clauses }

abbrev pub quantified_pass : Quantifier → Ty → Term → Walk → Walk
quantified_pass q a t b s e p = let o = opened q a t s e p in inside o (b s (o.value ∷ e) o.after)

abbrev pub walk_step : Formula-F Walk → Walk
walk_step Formula-F.True s e = leaf (truth s)
walk_step Formula-F.False s e = leaf (truth (not s))
walk_step (Formula-F.Atom t) s e = leaf (literal s (put_in e t 0))
walk_step (Formula-F.Not a) s e = a (not s) e
walk_step (Formula-F.Two j a b) s e = junction_pass j a b s e
walk_step (Formula-F.Quantified q a t b) s e = quantified_pass q a t b s e

unfoldable pub walked : Formula → Walk
walked = fold-Formula Walk walk_step
