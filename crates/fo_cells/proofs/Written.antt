-- Terms are written behind what stands there.
use Rattle.std.proofs.Common.{◌≡◌, ℕ, zero, suc, ◌+◌, ◌-◌, ◌<◌, ◌≤◌, Bool, true, false, List, [], ◌∷◌, ◌++◌, length, map, take, drop, get_or, set, sum, sym, ap, ◌∙◌, arith}
use Rattle.std.specs.Bool.{MatchBool}
use Rattle.std.proofs.lemmas.List.{append_assoc, length-append, length-map, take-append-drop}
use Rattle.fo_terms.specs.declared.term.FoTerm.{FoTerm}
use Rattle.fo_terms.specs.Weight.{size_of, size_of_all}
use Rattle.fo_terms.proofs.Induction.{by_cases}
use Rattle.fo_terms.proofs.Substitution.{size_var, size_fun, sum_cons}
use Rattle.fo_cells.specs.declared.cell.Cell.{Cell}
use Rattle.fo_cells.specs.declared.cell.Cell.TheVariants.{Fun}
use Rattle.fo_cells.specs.Cells.{joined, symbol_cells, cells_of}
use Rattle.fo_cells.proofs.Lists.{take_front, set_middle}
use Rattle.fo_cells.proofs.Terms.{all_size, joined_more}

-- what was there before stays
pub kept_through : (old now new more : List Cell) → take (length now) new ≡ now → now ≡ old ++ more → take (length old) new ≡ old
kept_through old now new more stays is =
    let whole : new ≡ old ++ (more ++ drop (length now) new) =
    sym (take-append-drop (length now) new) ∙ ap (λ l. l ++ drop (length now) new) (stays ∙ is) ∙ append_assoc old more (drop (length now) new) in
    ap (take (length old)) whole ∙ take_front old (more ++ drop (length now) new)

pub written_more : (start now next : List Cell) (ts : List FoTerm) (i : ℕ) (t : FoTerm) → i < length ts → t ≡ get_or ts i t → now ≡ start ++ joined (map cells_of (take i ts))
    → next ≡ now ++ cells_of t → next ≡ start ++ joined (map cells_of (take (i + 1) ts))
written_more start now next ts i t within is so step =
    step ∙ ap (λ l. l ++ cells_of t) so ∙ append_assoc start (joined (map cells_of (take i ts))) (cells_of t) ∙ ap (λ l. start ++ l) (sym (joined_more cells_of ts i t within is))

pub sum_at : {X : Type 0} (f : X → ℕ) (xs : List X) (i : ℕ) (x : X) → i < length xs → x ≡ get_or xs i x → f x ≤ sum (map f xs)
sum_at f [] i x within is = absurd (omega arith)
sum_at f (y ∷ xs) zero x within is = omega (arith, sum_cons (f y) (map f xs), ap f is)
sum_at f (y ∷ xs) (suc i) x within is = omega (arith, sum_cons (f y) (map f xs), sum_at f xs i x (omega arith) is)

pub too_large : (ts : List FoTerm) (i : ℕ) (t : FoTerm) → i < length ts → t ≡ get_or ts i t → 65535 < size_of t → 65535 < size_of_all ts
too_large ts i t within is large = omega (arith, sum_at size_of ts i t within is)

size_some : (t : FoTerm) → 1 ≤ size_of t
size_some = by_cases (λ t. 1 ≤ size_of t) (λ x. omega (arith, size_var x)) (λ f args each. omega (arith, size_fun f args))

pub as_many : (ts : List FoTerm) → length ts ≤ size_of_all ts
as_many [] = omega arith
as_many (t ∷ ts) = omega (arith, as_many ts, size_some t, sum_cons (size_of t) (map size_of ts))

pub symbol_size : (old begun new : List Cell) (head : Cell) (args : List FoTerm) → begun ≡ old ++ head ∷ [] → new ≡ begun ++ joined (map cells_of args)
    → length new - length old ≡ size_of_all args + 1
symbol_size old begun new head args first rest =
    omega (arith, ap length first, ap length rest, length-append old (head ∷ []), length-append begun (joined (map cells_of args)), all_size args)

pub symbol_written : (old begun new last : List Cell) (head : Cell) (f arity size at : ℕ) (args : List FoTerm) → begun ≡ old ++ head ∷ [] → new ≡ begun ++ joined (map cells_of args)
    → at ≡ length old → arity ≡ length args → size ≡ length new - at → last ≡ set new at (Fun arity size f) → last ≡ old ++ symbol_cells f (map cells_of args)
symbol_written old begun new last head f arity size at args first rest place count is put =
    let all : new ≡ old ++ head ∷ joined (map cells_of args) =
    rest ∙ ap (λ l. l ++ joined (map cells_of args)) first ∙ append_assoc old (head ∷ []) (joined (map cells_of args)) in
    let n : arity ≡ length (map cells_of args) = count ∙ sym (length-map args cells_of) in
    let k : size ≡ length (joined (map cells_of args)) + 1 = omega (arith, ap length all, length-append old (head ∷ joined (map cells_of args))) in
    put ∙ ap (λ l. set l at (Fun arity size f)) all ∙ set_middle old (joined (map cells_of args)) head (Fun arity size f) at (sym place)
    ∙ (λ i. old ++ Fun (n i) (k i) f ∷ joined (map cells_of args))

pub match_true : (b : Bool) (P Q : Type 0) → b ≡ true → MatchBool b P Q → P
match_true true P Q is h = h
match_true false P Q is h = absurd (cannot is)
  where
    cannot : false ≡ true → ⊥
    cannot e = cc

pub match_false : (b : Bool) (P Q : Type 0) → b ≡ false → MatchBool b P Q → Q
match_false false P Q is h = h
match_false true P Q is h = absurd (cannot is)
  where
    cannot : true ≡ false → ⊥
    cannot e = cc
