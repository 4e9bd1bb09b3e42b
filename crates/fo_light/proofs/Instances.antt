-- Cells of terms with a substitution put through them.
use Rattle.std.proofs.Common.{◌≡◌, ℕ, zero, suc, ◌+◌, ◌<◌, ◌≤◌, true, false, List, [], ◌∷◌, ◌++◌, map, length, take, get_or, sum, refl, sym, ap, ◌∙◌, arith}
use Rattle.std.specs.Prelude.{slice_set}
use Rattle.std.proofs.lemmas.List.{length-append, append_assoc}
use Rattle.fo_terms.specs.declared.term.FoTerm.{FoTerm}
use Rattle.fo_terms.specs.Substitution.{var, fun, put}
use Rattle.fo_terms.specs.Weight.{size_of}
use Rattle.fo_terms.proofs.Induction.{by_cases}
use Rattle.fo_terms.proofs.Substitution.{put_var, put_fun, size_fun, map_map}
use Rattle.fo_cells.specs.declared.cell.Cell.{Cell}
use Rattle.fo_cells.specs.declared.cell.Cell.TheVariants.{Var, Fun}
use Rattle.fo_cells.specs.Cells.{joined, symbol_cells, cells_of}
use Rattle.fo_cells.proofs.Terms.{cells_var, cells_fun, joined_more}
use Rattle.fo_light.specs.Written.{cells_put, Written}
use Rattle.fo_light.specs.inner.Opened.{Opened}

module _ (v : ℕ → FoTerm) (t r : FoTerm) (same : put v r ≡ put v t) where
  pub instance_var : (x : ℕ) → r ≡ var x → v x ≡ var x → cells_put v t ≡ Var x ∷ []
  instance_var x is free = ap cells_of (sym same ∙ ap (put v) is ∙ put_var v x ∙ free) ∙ cells_var x

  pub instance_fun : (f : ℕ) (args : List FoTerm) → r ≡ fun f args → cells_put v t ≡ symbol_cells f (map (cells_put v) args)
  instance_fun f args is =
      ap cells_of (sym same ∙ ap (put v) is ∙ put_fun v f args) ∙ cells_fun f (map (put v) args) ∙ ap (symbol_cells f) (map_map cells_of (put v) args)

  pub instance_size : (f : ℕ) (args : List FoTerm) → r ≡ fun f args → size_of (put v t) ≡ 1 + sum (map size_of (map (put v) args))
  instance_size f args is = ap size_of (sym same ∙ ap (put v) is ∙ put_fun v f args) ∙ size_fun f (map (put v) args)

-- a term takes a cell at least
cells_some : (t : FoTerm) → 1 ≤ length (cells_of t)
cells_some = by_cases (λ t. 1 ≤ length (cells_of t))
    (λ x. let e : length (cells_of (var x)) ≡ 1 = ap length (cells_var x) in omega arith)
    (λ f args each. let e : length (cells_of (fun f args)) ≡ suc (length (joined (map cells_of args))) = ap length (cells_fun f args) in omega arith)

pub joined_long : (v : ℕ → FoTerm) (ts : List FoTerm) → length ts ≤ length (joined (map (cells_put v) ts))
joined_long v [] = omega arith
joined_long v (t ∷ ts) = omega (arith, joined_long v ts, cells_some (put v t), length-append (cells_put v t) (joined (map (cells_put v) ts)))

pub joined_within : (f : FoTerm → List Cell) (ts : List FoTerm) (i : ℕ) (t : FoTerm) → i < length ts → t ≡ get_or ts i t → length (joined (map f (take i ts))) + length (f t) ≤ length (joined (map f ts))
joined_within f [] i t within is = absurd (omega arith)
joined_within f (x ∷ ts) zero t within is =
    let e : length (f t) ≡ length (f x) = ap (λ y. length (f y)) is in
    let none : length (joined (map f (take zero (x ∷ ts)))) ≡ 0 = refl in
    omega (arith, e, none, length-append (f x) (joined (map f ts)))
joined_within f (x ∷ ts) (suc i) t within is =
    let inside : i < length ts = omega arith in
    omega (arith, joined_within f ts i t inside is, length-append (f x) (joined (map f ts)), length-append (f x) (joined (map f (take i ts))))

-- ---- a symbol and its arguments

module _ (old opened : List Cell) (symbol count : ℕ) (xs : List (List Cell)) where
  pub not_opened : count ≤ length (joined xs) → Opened old symbol count false opened → Written old (symbol_cells symbol xs) false opened
  not_opened few h = let e : length (symbol_cells symbol xs) ≡ suc (length (joined xs)) = refl in omega arith

  opened_length : opened ≡ old ++ Fun count 0 symbol ∷ [] → length opened ≡ length old + 1
  opened_length is = ap length is ∙ length-append old (Fun count 0 symbol ∷ [])

  pub not_filled : (new : List Cell) → Opened old symbol count true opened → Written opened (joined xs) false new → Written old (symbol_cells symbol xs) false new
  not_filled new begun h = let e : length (symbol_cells symbol xs) ≡ suc (length (joined xs)) = refl in let l = opened_length begun.0 in omega arith

  pub filled : (full new : List Cell) → count ≡ length xs → Opened old symbol count true opened → Written opened (joined xs) true full
      → new ≡ old ++ Fun count (length (joined xs) + 1) symbol ∷ joined xs → Written old (symbol_cells symbol xs) true new
  filled full new as_many begun h is =
      let whole : new ≡ old ++ symbol_cells symbol xs = is ∙ ap (λ n. old ++ Fun n (length (joined xs) + 1) symbol ∷ joined xs) as_many in
      let sizes : length new ≡ length old + length (symbol_cells symbol xs) = ap length whole ∙ length-append old (symbol_cells symbol xs) in
      let e : length (symbol_cells symbol xs) ≡ suc (length (joined xs)) = refl in
      let l = opened_length begun.0 in
      let full_length : length full ≡ length opened + length (joined xs) = ap length h.0 ∙ length-append opened (joined xs) in
      let within : length full ≤ 512 = h.1 in
      (whole, omega arith)

-- ---- terms in a row

module _ (f : FoTerm → List Cell) (ts : List FoTerm) (i : ℕ) (t : FoTerm) (old now : List Cell) (within : i < length ts) (is : t ≡ get_or ts i t)
    (so : Written old (joined (map f (take i ts))) true now) where
  pub row_more : (next : List Cell) → Written now (f t) true next → Written old (joined (map f (take (i + 1) ts))) true next
  row_more next h = (
    h.0 ∙ ap (λ o. o ++ f t) so.0 ∙ append_assoc old (joined (map f (take i ts))) (f t) ∙ ap (λ l. old ++ l) (sym (joined_more f ts i t within is)),
    h.1,
  )

  pub row_stops : (next : List Cell) → Written now (f t) false next → Written old (joined (map f ts)) false next
  row_stops next h =
      let l : length now ≡ length old + length (joined (map f (take i ts))) = ap length so.0 ∙ length-append old (joined (map f (take i ts))) in
      let part = joined_within f ts i t within is in
      omega arith

-- ---- a cell in the place of another

pub set_behind : (before args : List Cell) (c d : Cell) → slice_set ((before ++ c ∷ []) ++ args) (length before) d ≡ before ++ d ∷ args
set_behind [] args c d = refl
set_behind (b ∷ before) args c d = ap (λ l. b ∷ l) (set_behind before args c d)
