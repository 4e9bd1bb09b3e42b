-- Edges that are tried in turn.
use Rattle.std.proofs.Common.{◌≡◌, ℕ, zero, suc, below_more, ◌+◌, ◌<◌, ◌≤◌, Bool, true, false, List, [], ◌∷◌, length, map, get_or, refl, sym, ap, subst, ◌∙◌, arith}
use Rattle.std.specs.Prelude.{Contains}
use Rattle.fo_terms.specs.declared.term.FoTerm.{FoTerm}
use Rattle.fo_cells.specs.declared.cell.Cell.{Cell}
use Rattle.fo_cells.specs.Cells.{joined, cells_of}
use Rattle.unit_tree.specs.declared.token.Token.{Token}
use Rattle.unit_tree.specs.declared.token.Token.TheVariants.{Head}
use Rattle.unit_tree.specs.declared.token.Edge.{Edge}
use Rattle.fo_cells.specs.declared.binds.Binds.{Binds}
use Rattle.fo_cells.specs.Binds.{Agrees, binds_of}
use Rattle.unit_tree.specs.Tree.{Leads}
use Rattle.unit_tree.specs.inner.Following.{GoesOn, Matches}

-- the way behind an edge is that of the terms
abbrev pub Behind : List (List Edge) → Edge → List (ℕ × List Cell) → List FoTerm → Type 0
Behind nodes edge bs ts = (word : List Token) × GoesOn nodes edge.to word × ((v : ℕ → FoTerm) × Agrees v bs × Matches v (edge.token ∷ word) ts)

-- none of the first edges of a node
abbrev pub AreNone : List (List Edge) → ℕ → List Cell → Binds → ℕ → Type 0
AreNone nodes at cells binds n =
    (k : ℕ) (edge : Edge) → k < n → get_or (get_or nodes at []) k edge ≡ edge → (ts : List FoTerm) → joined (map cells_of ts) ≡ cells → Behind nodes edge (binds_of binds) ts → ⊥

abbrev pub From : List (List Edge) → ℕ → List (ℕ × List Cell) → List FoTerm → Type 0
From nodes at bs ts = (word : List Token) × GoesOn nodes at word × ((v : ℕ → FoTerm) × Agrees v bs × Matches v word ts)

pub edge_found : (nodes : List (List Edge)) (at k : ℕ) (edge : Edge) (bs : List (ℕ × List Cell)) (ts : List FoTerm) → k < length (get_or nodes at []) → edge ≡ get_or (get_or nodes at []) k edge
    → Behind nodes edge bs ts → From nodes at bs ts
edge_found nodes at k edge bs ts within is h = (edge.token ∷ h.0, (edge.to, (k, within, sym is), h.1), h.2)

from_word : (nodes : List (List Edge)) (at n : ℕ) (cells : List Cell) (binds : Binds) (ts : List FoTerm) → length (get_or nodes at []) ≤ n → AreNone nodes at cells binds n
    → joined (map cells_of ts) ≡ cells → (word : List Token) → GoesOn nodes at word → (v : ℕ → FoTerm) → Agrees v (binds_of binds) → Matches v word ts → ⊥
from_word nodes at n cells binds ts over none row [] goes v agree h = h
from_word nodes at n cells binds ts over none row (token ∷ word) goes v agree h =
    let place = goes.1 in
    none place.0 (record { token = token; to = goes.0 }) (omega (arith, place.1)) place.2 ts row (word, goes.2, (v, agree, h))

pub from_edges : (nodes : List (List Edge)) (at n : ℕ) (cells : List Cell) (binds : Binds) (ts : List FoTerm) → length (get_or nodes at []) ≤ n → AreNone nodes at cells binds n
    → joined (map cells_of ts) ≡ cells → From nodes at (binds_of binds) ts → ⊥
from_edges nodes at n cells binds ts over none row h = from_word nodes at n cells binds ts over none row h.0 h.1 h.2.0 h.2.1 h.2.2

-- none of the first edges of the first node leads to what has this head
abbrev pub AreNoneOf : List (List Edge) → Bool → Bool → List Cell → ℕ → Type 0
AreNoneOf nodes positive equation cells n =
    (k : ℕ) (edge : Edge) → k < n → get_or (get_or nodes 0 []) k edge ≡ edge → edge.token ≡ Head positive equation → (ts : List FoTerm) → joined (map cells_of ts) ≡ cells
    → ((word : List Token) × GoesOn nodes edge.to word × ((v : ℕ → FoTerm) × Matches v word ts)) → ⊥

pub head_found : (nodes : List (List Edge)) (k : ℕ) (edge : Edge) (positive equation : Bool) (ts : List FoTerm) → k < length (get_or nodes 0 []) → edge ≡ get_or (get_or nodes 0 []) k edge
    → edge.token ≡ Head positive equation → (word : List Token) × GoesOn nodes edge.to word × ((v : ℕ → FoTerm) × Matches v word ts)
    → (word : List Token) × GoesOn nodes 0 (Head positive equation ∷ word) × ((v : ℕ → FoTerm) × Matches v word ts)
head_found nodes k edge positive equation ts within is head h =
    (h.0, (edge.to, subst (λ t. Leads nodes 0 t edge.to) head (k, within, sym is), h.1), h.2)

pub from_heads : (nodes : List (List Edge)) (n : ℕ) (positive equation : Bool) (cells : List Cell) (ts : List FoTerm) → length (get_or nodes 0 []) ≤ n → AreNoneOf nodes positive equation cells n
    → joined (map cells_of ts) ≡ cells → (word : List Token) × GoesOn nodes 0 (Head positive equation ∷ word) × ((v : ℕ → FoTerm) × Matches v word ts) → ⊥
from_heads nodes n positive equation cells ts over none row h =
    let place = h.1.1 in
    none place.0 (record { token = Head positive equation; to = h.1.0 }) (omega (arith, place.1)) place.2 refl ts row (h.0, h.1.2, h.2)

-- ---- the edge at a place

get_same : {X : Type 0} (xs : List X) (i : ℕ) (d e : X) → i < length xs → get_or xs i d ≡ get_or xs i e
get_same [] i d e h = absurd (omega (arith, h))
get_same (x ∷ xs) zero d e h = refl
get_same (x ∷ xs) (suc i) d e h = get_same xs i d e (omega (arith, h))

module _ (nodes : List (List Edge)) (at : ℕ) (es : List Edge) (i : ℕ) (d : Edge) (are : es ≡ get_or nodes at []) (within : i < length es) where
  pub item_leads : Leads nodes at (get_or es i d).token (get_or es i d).to
  item_leads =
      subst (λ l. Contains l (get_or es i d)) are (i, within, get_same es i (get_or es i d) d within)

  pub found_by : (bs : List (ℕ × List Cell)) (ts : List FoTerm) → Behind nodes (get_or es i d) bs ts → From nodes at bs ts
  found_by bs ts h = ((get_or es i d).token ∷ h.0, ((get_or es i d).to, item_leads, h.1), h.2)

  same_item : (edge : Edge) → get_or (get_or nodes at []) i edge ≡ edge → edge ≡ get_or es i d
  same_item edge is = sym is ∙ ap (λ l. get_or l i edge) (sym are) ∙ get_same es i edge d within

  pub none_more : (cells : List Cell) (binds : Binds) (r : Bool) → AreNone nodes at cells binds i
      → ((ts : List FoTerm) → joined (map cells_of ts) ≡ cells → (r ≡ true → Behind nodes (get_or es i d) (binds_of binds) ts) × (Behind nodes (get_or es i d) (binds_of binds) ts → r ≡ true))
      → r ≡ false → AreNone nodes at cells binds (i + 1)
  none_more cells binds r none says no_more k edge below =
      below_more (λ k. (edge : Edge) → get_or (get_or nodes at []) k edge ≡ edge → (ts : List FoTerm) → joined (map cells_of ts) ≡ cells → Behind nodes edge (binds_of binds) ts → ⊥) i
      (λ k h edge. none k edge h)
      (λ edge is ts row h. apart (sym no_more ∙ (says ts row).1 (subst (λ e. Behind nodes e (binds_of binds) ts) (same_item edge is) h)))
      k below edge
    where
      apart : false ≡ true → ⊥
      apart e = cc

  pub none_more_of : (positive equation : Bool) (cells : List Cell) (r : Bool) → at ≡ 0 → AreNoneOf nodes positive equation cells i
      → ((ts : List FoTerm) → joined (map cells_of ts) ≡ cells
      → (((get_or es i d).token ≡ Head positive equation) × ((word : List Token) × GoesOn nodes (get_or es i d).to word × ((v : ℕ → FoTerm) × Matches v word ts)) → r ≡ true))
      → r ≡ false → AreNoneOf nodes positive equation cells (i + 1)
  none_more_of positive equation cells r root none says no_more k edge below =
      below_more (λ k. (edge : Edge) → get_or (get_or nodes 0 []) k edge ≡ edge → edge.token ≡ Head positive equation → (ts : List FoTerm) → joined (map cells_of ts) ≡ cells
      → ((word : List Token) × GoesOn nodes edge.to word × ((v : ℕ → FoTerm) × Matches v word ts)) → ⊥) i
      (λ k h edge. none k edge h)
      (λ edge is head ts row h.
      let same : edge ≡ get_or es i d = same_item edge (ap (λ a. get_or (get_or nodes a []) i edge) root ∙ is) in
      apart (sym no_more ∙ says ts row (subst (λ e. e.token ≡ Head positive equation) same head, subst (λ e. (word : List Token) × GoesOn nodes e.to word × ((v : ℕ → FoTerm) × Matches v word ts)) same h)))
      k below edge
    where
      apart : false ≡ true → ⊥
      apart e = cc
