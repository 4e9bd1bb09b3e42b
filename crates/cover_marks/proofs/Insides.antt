-- What a substitution makes of a literal has all marks of the literal.
use Rattle.std.proofs.Common.{◌≡◌, ℕ, ◌≤◌, Bool, if◌then◌else◌, List, [], ◌∷◌, map, sym, ap, subst, ◌∙◌, arith}
use Rattle.std.specs.Prelude.{bit_or}
use Rattle.std.specs.Int.{bit_at}
use Rattle.std.proofs.lemmas.Nat.Bits.{bit_at-zero, bit_at_or, same_from_bits}
use Rattle.fo_terms.specs.declared.term.FoTerm.{FoTerm}
use Rattle.fo_terms.specs.declared.term.FoTerm.TheOpen.{FoTerm-F}
use Rattle.fo_terms.specs.declared.term.FoTerm.TheFolds.{fold-roll-FoTerm}
use Rattle.fo_terms.specs.declared.term.FoTerm.TheVariants.{rolls-Var, rolls-Fun}
use Rattle.fo_terms.specs.declared.atom.Atom.{Atom}
use Rattle.fo_terms.specs.declared.atom.Atom.TheVariants.{Holds, Eq}
use Rattle.fo_terms.specs.declared.literal.Literal.{Literal}
use Rattle.fo_terms.specs.Substitution.{var, fun, put, put_atom, put_literal}
use Rattle.fo_terms.proofs.Induction.{Each, by_cases}
use Rattle.fo_terms.proofs.Substitution.{put_fun}
use Rattle.cover_marks.specs.Marks.{under, next, mark, arguments_marks, marks_step, term_marks, atom_marks, literal_marks}
use Rattle.cover_marks.specs.Cover.{IsWithin}

-- each mark of m is one of n
abbrev Inside : ℕ → ℕ → Type 0
Inside m n = (i : ℕ) → bit_at m i ≤ bit_at n i

itself : (m : ℕ) → Inside m m
itself m i = omega arith

none_inside : (n : ℕ) → Inside 0 n
none_inside n i = let none = bit_at-zero i in omega arith

both_inside : (a b c d : ℕ) → Inside a c → Inside b d → Inside (bit_or a b) (bit_or c d)
both_inside a b c d h k i = let left = bit_at_or a b i in let right = bit_at_or c d i in let first = h i in let second = k i in omega arith

within : (m n : ℕ) → Inside m n → IsWithin m n
within m n h = same_from_bits (bit_or m n) n (λ i. let both = bit_at_or m n i in let less = h i in omega arith)

-- ---- terms

pub marks_var : (x place : ℕ) → term_marks (var x) place ≡ 0
marks_var x place = ap (λ t. term_marks t place) (sym (rolls-Var x)) ∙ ap (λ m. m place) (fold-roll-FoTerm (ℕ → ℕ) marks_step (FoTerm-F.Var x))

pub marks_fun : (f : ℕ) (args : List FoTerm) (place : ℕ) → term_marks (fun f args) place ≡ arguments_marks (under place f) (mark (under place f)) (map term_marks args)
marks_fun f args place = ap (λ t. term_marks t place) (sym (rolls-Fun f args)) ∙ ap (λ m. m place) (fold-roll-FoTerm (ℕ → ℕ) marks_step (FoTerm-F.Fun f args))

module _ (v : ℕ → FoTerm) where
  abbrev Stays : FoTerm → Type 0
  Stays t = (place : ℕ) → Inside (term_marks t place) (term_marks (put v t) place)

  arguments_stay : (args : List FoTerm) (place a b : ℕ) → Inside a b → Each Stays args → Inside (arguments_marks place a (map term_marks args)) (arguments_marks place b (map term_marks (map (put v) args)))
  arguments_stay [] place a b h each = h
  arguments_stay (t ∷ ts) place a b h each =
      arguments_stay ts (next place) (bit_or a (term_marks t place)) (bit_or b (term_marks (put v t) place))
      (both_inside a (term_marks t place) b (term_marks (put v t) place) h (each.0 place)) each.1

  term_stays : (t : FoTerm) → Stays t
  term_stays = by_cases Stays
      (λ x place. subst (λ m. Inside m (term_marks (put v (var x)) place)) (sym (marks_var x place)) (none_inside (term_marks (put v (var x)) place)))
      (λ f args each place.
      let here = under place f in
      subst (λ m. Inside m (term_marks (put v (fun f args)) place)) (sym (marks_fun f args place))
      (subst (Inside (arguments_marks here (mark here) (map term_marks args))) (sym (ap (λ t. term_marks t place) (put_fun v f args) ∙ marks_fun f (map (put v) args) place))
      (arguments_stay args here (mark here) (mark here) (itself (mark here)) each)))

  -- ---- literals

  atom_stays : (positive : Bool) (a : Atom) → Inside (atom_marks positive a) (atom_marks positive (put_atom v a))
  atom_stays positive (Holds t) =
      let kind : ℕ = if positive then 1 else 2 in
      both_inside kind (term_marks t 1) kind (term_marks (put v t) 1) (itself kind) (term_stays t 1)
  atom_stays positive (Eq s t) =
      let kind : ℕ = if positive then 4 else 8 in
      both_inside (bit_or kind (term_marks s 2)) (term_marks t 3) (bit_or kind (term_marks (put v s) 2)) (term_marks (put v t) 3)
      (both_inside kind (term_marks s 2) kind (term_marks (put v s) 2) (itself kind) (term_stays s 2))
      (term_stays t 3)

  pub literal_stays : (l : Literal) → IsWithin (literal_marks l) (literal_marks (put_literal v l))
  literal_stays l = within (literal_marks l) (literal_marks (put_literal v l)) (atom_stays l.positive l.atom)
