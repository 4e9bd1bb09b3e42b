-- One more variable stands for cells.
use Rattle.std.proofs.Common.{◌≡◌, ℕ, ◌==◌, if◌then◌else◌, List, [], ◌∷◌, sym, ap, subst, ◌∙◌, rules}
use Rattle.std.specs.Borrow.{Bor}
use Rattle.fo_terms.specs.declared.term.FoTerm.{FoTerm}
use Rattle.fo_terms.proofs.Substitution.{equal_true, unequal}
use Rattle.fo_cells.specs.declared.cell.Cell.{Cell}
use Rattle.fo_cells.specs.declared.binds.Binds.{Binds, More, Nothing}
use Rattle.fo_cells.specs.declared.binds.Binds.TheFolds.{the_lemmas}
use Rattle.fo_cells.specs.Cells.{cells_of}
use Rattle.fo_cells.specs.Binds.{Agrees, IsFree, binds_of}

-- the values with one more
abbrev pub with_value : (ℕ → FoTerm) → ℕ → FoTerm → ℕ → FoTerm
with_value v x t y = if y == x then t else v y

still_agrees : (v : ℕ → FoTerm) (x : ℕ) (t : FoTerm) (bs : List (ℕ × List Cell)) → IsFree x bs → Agrees v bs → Agrees (with_value v x t) bs
still_agrees v x t [] free agree = tt
still_agrees v x t (b ∷ bs) free agree =
    (ap cells_of (ap (λ c. if c then t else v b.0) (unequal b.0 x free.0)) ∙ agree.0, still_agrees v x t bs free.1 agree.1)

pub agrees_new : (v : ℕ → FoTerm) (x : ℕ) (t : FoTerm) (first : List Cell) (bs : List (ℕ × List Cell)) → IsFree x bs → Agrees v bs → first ≡ cells_of t → (w : ℕ → FoTerm) × Agrees w ((x, first) ∷ bs)
agrees_new v x t first bs free agree is =
    (with_value v x t, (ap cells_of (ap (λ c. if c then t else v x) (equal_true x)) ∙ sym is, still_agrees v x t bs free agree))

pub more_binds : (x : ℕ) (cells : Bor (List Cell)) (rest : Bor Binds) → binds_of (More x cells rest) ≡ (x, cells.now) ∷ binds_of rest.now
more_binds x cells rest = search (rules, the_lemmas)

pub more_agrees : (x : ℕ) (cells : Bor (List Cell)) (rest : Bor Binds) → (w : ℕ → FoTerm) × Agrees w ((x, cells.now) ∷ binds_of rest.now) → (w : ℕ → FoTerm) × Agrees w (binds_of (More x cells rest))
more_agrees x cells rest h = (h.0, subst (Agrees h.0) (sym (more_binds x cells rest)) h.1)

no_binds : binds_of Nothing ≡ []
no_binds = search (rules, the_lemmas)

pub any_agrees : (v : ℕ → FoTerm) → Agrees v (binds_of Nothing)
any_agrees v = subst (Agrees v) (sym no_binds) tt
