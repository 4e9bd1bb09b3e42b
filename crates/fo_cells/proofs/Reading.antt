-- Terms are read off the front of cells.
use Rattle.std.proofs.Common.{◌≡◌, ℕ, ◌+◌, ◌<◌, Option, Some, None, Bool, true, false, List, [], ◌++◌, length, map, take, drop, get_or, sym, ap, ◌∙◌}
use Rattle.std.specs.Prelude.{MatchOption}
use Rattle.std.specs.Borrow.{Bor}
use Rattle.std.proofs.lemmas.List.{append_assoc, append-nil, append_cancel_left, map-append, take-append-drop, drop_more}
use Rattle.fo_terms.specs.declared.term.FoTerm.{FoTerm}
use Rattle.fo_terms.specs.declared.atom.Atom.{Atom}
use Rattle.fo_terms.specs.Normal.{atom_terms}
use Rattle.fo_cells.specs.declared.cell.Cell.{Cell}
use Rattle.fo_cells.specs.Cells.{joined, cells_of, is_equation, atom_cells}
use Rattle.fo_cells.specs.inner.Seen.{terms_of, atom_from}
use Rattle.fo_cells.proofs.Terms.{joined-append, joined_more}
use Rattle.fo_cells.proofs.Literals.{reads_atom, atom_back}

pub behind_more : (ts : List FoTerm) (i : ℕ) (t : FoTerm) (cells rest next : List Cell) → i < length ts → t ≡ get_or ts i t → joined (map cells_of (take i ts)) ++ rest ≡ cells
    → cells_of t ++ next ≡ rest → joined (map cells_of (take (i + 1) ts)) ++ next ≡ cells
behind_more ts i t cells rest next within is so step =
    ap (λ l. l ++ next) (joined_more cells_of ts i t within is) ∙ append_assoc (joined (map cells_of (take i ts))) (cells_of t) next
    ∙ ap (λ l. joined (map cells_of (take i ts)) ++ l) step ∙ so

split_at : (ts : List FoTerm) (i : ℕ) (t : FoTerm) → i < length ts → t ≡ get_or ts i t
    → joined (map cells_of ts) ≡ joined (map cells_of (take i ts)) ++ (cells_of t ++ joined (map cells_of (drop (i + 1) ts)))
split_at ts i t within is =
    ap (λ l. joined (map cells_of l)) (sym (take-append-drop i ts)) ∙ ap joined (map-append cells_of (take i ts) (drop i ts))
    ∙ joined-append (map cells_of (take i ts)) (map cells_of (drop i ts)) ∙ ap (λ l. joined (map cells_of (take i ts)) ++ joined (map cells_of l)) (drop_more ts i t within)
    ∙ ap (λ u. joined (map cells_of (take i ts)) ++ (cells_of u ++ joined (map cells_of (drop (i + 1) ts)))) (sym is)

pub not_behind : (ts : List FoTerm) (i : ℕ) (t : FoTerm) (cells rest : List Cell) → i < length ts → t ≡ get_or ts i t → joined (map cells_of (take i ts)) ++ rest ≡ cells
    → ((more : List Cell) → cells_of t ++ more ≡ rest → ⊥) → (more : List Cell) → joined (map cells_of ts) ++ more ≡ cells → ⊥
not_behind ts i t cells rest within is so apart more h =
    let front : List Cell = joined (map cells_of (take i ts)) in
    let back : List Cell = joined (map cells_of (drop (i + 1) ts)) in
    let whole : front ++ (cells_of t ++ (back ++ more)) ≡ front ++ rest =
    ap (λ l. front ++ l) (sym (append_assoc (cells_of t) back more)) ∙ sym (append_assoc front (cells_of t ++ back) more)
    ∙ ap (λ l. l ++ more) (sym (split_at ts i t within is)) ∙ h ∙ sym so in
    apart (back ++ more) (append_cancel_left front (cells_of t ++ (back ++ more)) rest whole)

pub atom_read : (a : Atom) (equation : Bool) (row : List Cell) (ts : List FoTerm) → row ≡ atom_cells a → equation ≡ is_equation a → ts ≡ terms_of row → atom_from equation ts ≡ a
atom_read a equation row ts is kind read =
    let all : ts ≡ atom_terms a ++ [] = read ∙ ap terms_of (is ∙ sym (append-nil (atom_cells a))) ∙ reads_atom a [] in
    ap (λ b. atom_from b ts) kind ∙ ap (atom_from (is_equation a)) all ∙ atom_back a []

-- ---- an atom's cells are all there is

reads_nothing : true ≡ false → ⊥
reads_nothing h = cc

pub all_read : (front cells : List Cell) (o : Option (Bor (List Cell))) (r : Bool) → MatchOption o ((rest : List Cell) → front ++ rest ≡ cells → ⊥) (λ rest. front ++ rest.now ≡ cells)
    → MatchOption o (r ≡ false) (λ rest. (r ≡ true → rest.now ≡ []) × (rest.now ≡ [] → r ≡ true)) → (r ≡ true → front ≡ cells) × (front ≡ cells → r ≡ true)
all_read front cells None r none never = (λ h. absurd (reads_nothing (sym h ∙ never)), λ e. absurd (none [] (append-nil front ∙ e)))
all_read front cells (Some rest) r some says = (
  λ h. sym (append-nil front) ∙ ap (λ l. front ++ l) (sym (says.0 h)) ∙ some,
  λ e. says.1 (append_cancel_left front rest.now [] (some ∙ sym e ∙ sym (append-nil front))),
)

pub both_read : (front middle cells rest : List Cell) (o : Option (Bor (List Cell))) (r : Bool) → front ++ rest ≡ cells
    → MatchOption o ((more : List Cell) → middle ++ more ≡ rest → ⊥) (λ more. middle ++ more.now ≡ rest)
    → MatchOption o (r ≡ false) (λ more. (r ≡ true → more.now ≡ []) × (more.now ≡ [] → r ≡ true)) → (r ≡ true → front ++ middle ≡ cells) × (front ++ middle ≡ cells → r ≡ true)
both_read front middle cells rest o r first second says =
    let both : (r ≡ true → middle ≡ rest) × (middle ≡ rest → r ≡ true) = all_read middle rest o r second says in
    (λ h. ap (λ l. front ++ l) (both.0 h) ∙ first, λ e. both.1 (append_cancel_left front middle rest (e ∙ sym first)))
