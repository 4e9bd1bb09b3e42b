-- Names that pass a test, in lexemes one after the other.
use Rattle.std.proofs.Common.{ℕ, Bool, true, false, ◌&&◌, nat_le, if◌then◌else◌, List, [], ◌∷◌, ◌++◌, refl, sym, subst, IsTrue}
use Rattle.std.proofs.lemmas.List.Folds.{list_all-append}
use Rattle.hol_terms.proofs.Both.{and_true}
use Rattle.theory_syntax.specs.Grammar.{TypeSort, Whole, Single}
use Rattle.theory_print.specs.declared.sort.Sort.{Sort}
use Rattle.theory_print.specs.Lexemes.{Lexeme, Open, Close, name_passes, names_pass}
use Rattle.theory_print.specs.Types.{bracketed_type}
use Rattle.theory_print.specs.Written.{rank, within}

module _ (ok : List ℕ → Bool) where
  pub pass_append : (xs ys : List Lexeme) → IsTrue (names_pass ok xs) → IsTrue (names_pass ok ys) → IsTrue (names_pass ok (xs ++ ys))
  pass_append xs ys hx hy = subst (λ b. IsTrue b) (sym (list_all-append (name_passes ok) xs ys)) (and_true (names_pass ok xs) (names_pass ok ys) hx hy)

  pub pass_type : (s : TypeSort) (xs : List Lexeme) → IsTrue (names_pass ok xs) → IsTrue (names_pass ok (bracketed_type s xs))
  pass_type Whole xs h = h
  pass_type Single xs h = pass_append xs (Close ∷ []) h refl

  pass_if : (b : Bool) (xs : List Lexeme) → IsTrue (names_pass ok xs) → IsTrue (names_pass ok (if b then xs else Open ∷ xs ++ Close ∷ []))
  pass_if true xs h = h
  pass_if false xs h = pass_append xs (Close ∷ []) h refl

  pub pass_within : (own s : Sort) (xs : List Lexeme) → IsTrue (names_pass ok xs) → IsTrue (names_pass ok (within own s xs))
  pass_within own s xs h = pass_if (nat_le (rank own) (rank s)) xs h

  pub pass_name : (b : Bool) (c : Bool) → IsTrue b → IsTrue c → IsTrue (b && c)
  pass_name b c hb hc = and_true b c hb hc
