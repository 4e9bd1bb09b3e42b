-- One step along a way and the terms.
use Rattle.std.proofs.Common.{◌≡◌, ℕ, ◌+◌, ◌==◌, Bool, true, List, [], ◌∷◌, ◌++◌, length, map, refl, sym, ap, subst, ◌∙◌}
use Rattle.std.proofs.lemmas.List.{length-map}
use Rattle.std.specs.Borrow.{Bor}
use Rattle.fo_terms.specs.declared.term.FoTerm.{FoTerm}
use Rattle.fo_terms.specs.Substitution.{fun}
use Rattle.fo_terms.proofs.Heads.{fun_same}
use Rattle.fo_cells.specs.declared.binds.Binds.{Binds, More}
use Rattle.fo_cells.specs.declared.cell.Cell.{Cell}
use Rattle.fo_cells.specs.declared.cell.Cell.TheVariants.{Fun}
use Rattle.fo_cells.specs.Binds.{Agrees, binds_of}
use Rattle.fo_cells.specs.Cells.{joined, cells_of}
use Rattle.fo_cells.proofs.Binding.{more_binds}
use Rattle.fo_cells.proofs.Rows.{Split, split, no_terms, empty_test}
use Rattle.fo_cells.proofs.Terms.{cells_fun, cells_injective}
use Rattle.unit_tree.specs.declared.token.Token.{Token}
use Rattle.unit_tree.specs.declared.token.Token.TheVariants.{Head, Variable, Symbol, End}
use Rattle.unit_tree.specs.declared.token.Edge.{Edge}
use Rattle.unit_tree.specs.inner.Following.{GoesOn, Matches}
use Rattle.unit_tree.proofs.Follows.{Behind, From}

abbrev Bound : Type 0
Bound = ℕ × List Cell

-- ---- each kind of edge

module _ (nodes : List (List Edge)) (edge : Edge) (bs : List Bound) where
  pub no_head : (ts : List FoTerm) (positive equation : Bool) → edge.token ≡ Head positive equation → Behind nodes edge bs ts → ⊥
  no_head ts positive equation is h = subst (λ k. Matches h.2.0 (k ∷ h.0) ts) is h.2.2

  pub at_end : (ts : List FoTerm) (cells : List Cell) (r : Bool) → edge.token ≡ End → joined (map cells_of ts) ≡ cells → (v : ℕ → FoTerm) → Agrees v bs → r ≡ (length cells == 0)
      → (r ≡ true → Behind nodes edge bs ts) × (Behind nodes edge bs ts → r ≡ true)
  at_end ts cells r is row v agree says = (
    λ h. ([], tt, (v, agree, subst (λ k. Matches v (k ∷ []) ts) (sym is) (refl, no_terms ts (row ∙ empty_test cells r says h)))),
    λ h. let end : (h.0 ≡ []) × (ts ≡ []) = subst (λ k. Matches h.2.0 (k ∷ h.0) ts) is h.2.2 in
        says ∙ ap (λ l. length l == 0) (sym row) ∙ ap (λ l. length (joined (map cells_of l)) == 0) end.1,
  )

  pub at_symbol : (ts : List FoTerm) (n size f : ℕ) (cells rest : List Cell) (r : Bool) → edge.token ≡ Symbol n f → joined (map cells_of ts) ≡ cells → Fun n size f ∷ rest ≡ cells
      → ((us : List FoTerm) → joined (map cells_of us) ≡ rest → (r ≡ true → From nodes edge.to bs us) × (From nodes edge.to bs us → r ≡ true))
      → (r ≡ true → Behind nodes edge bs ts) × (Behind nodes edge bs ts → r ≡ true)
  at_symbol ts n size f cells rest r is row front says =
      let parts : Split n f rest ts = split ts n size f rest (row ∙ sym front) in
      let inner : (r ≡ true → From nodes edge.to bs (parts.0 ++ parts.1)) × (From nodes edge.to bs (parts.0 ++ parts.1) → r ≡ true) = says (parts.0 ++ parts.1) parts.4 in (
        λ h. let way : From nodes edge.to bs (parts.0 ++ parts.1) = inner.0 h in
            (way.0, way.1, (way.2.0, way.2.1, subst (λ k. Matches way.2.0 (k ∷ way.0) ts) (sym is) (subst (λ us. Matches way.2.0 (Symbol n f ∷ way.0) us) (sym parts.2) (parts.0, refl, parts.3, way.2.2)))),
        λ h. let matched : Matches h.2.0 (Symbol n f ∷ h.0) (fun f parts.0 ∷ parts.1) = subst (λ us. Matches h.2.0 (Symbol n f ∷ h.0) us) parts.2 (subst (λ k. Matches h.2.0 (k ∷ h.0) ts) is h.2.2) in
            let args : parts.0 ≡ matched.0 = (fun_same f f parts.0 matched.0 matched.1).1 in
            inner.1 (h.0, h.1, (h.2.0, h.2.1, subst (λ us. Matches h.2.0 h.0 (us ++ parts.1)) (sym args) matched.3)),
      )

  pub no_symbol : (ts : List FoTerm) (n f : ℕ) (cells : List Cell) → edge.token ≡ Symbol n f → joined (map cells_of ts) ≡ cells
      → ((size : ℕ) (rest : List Cell) → Fun n size f ∷ rest ≡ cells → ⊥) → Behind nodes edge bs ts → ⊥
  no_symbol ts n f cells is row none h = without ts row (subst (λ k. Matches h.2.0 (k ∷ h.0) ts) is h.2.2)
    where
      without : (us : List FoTerm) → joined (map cells_of us) ≡ cells → Matches h.2.0 (Symbol n f ∷ h.0) us → ⊥
      without [] so m = m
      without (u ∷ us) so m =
          let front : cells_of u ≡ Fun (length (map cells_of m.0)) (length (joined (map cells_of m.0)) + 1) f ∷ joined (map cells_of m.0) = ap cells_of m.1 ∙ cells_fun f m.0 in
          let count : length (map cells_of m.0) ≡ n = length-map m.0 cells_of ∙ m.2 in
          none (length (joined (map cells_of m.0)) + 1) (joined (map cells_of m.0) ++ joined (map cells_of us))
          ((λ i. Fun (sym count i) (length (joined (map cells_of m.0)) + 1) f ∷ (joined (map cells_of m.0) ++ joined (map cells_of us)))
          ∙ ap (λ c. c ++ joined (map cells_of us)) (sym front) ∙ so)

-- ---- a variable

-- the way behind an edge of this variable is that of the terms
abbrev pub Through : List (List Edge) → ℕ → ℕ → List Bound → List FoTerm → Type 0
Through nodes at x bs ts = (word : List Token) × GoesOn nodes at word × ((v : ℕ → FoTerm) × Agrees v bs × Matches v (Variable x ∷ word) ts)

pub no_term : (nodes : List (List Edge)) (at x : ℕ) (bs : List Bound) (ts : List FoTerm) → joined (map cells_of ts) ≡ [] → Through nodes at x bs ts → ⊥
no_term nodes at x bs ts row h = subst (λ us. Matches h.2.0 (Variable x ∷ h.0) us) (no_terms ts row) h.2.2

module _ (nodes : List (List Edge)) (at x : ℕ) (bs : List Bound) (t : FoTerm) (ts us : List FoTerm) (is : ts ≡ t ∷ us) where
  into : (v : ℕ → FoTerm) (word : List Token) → v x ≡ t → Matches v word us → Matches v (Variable x ∷ word) ts
  into v word e m = subst (λ k. Matches v (Variable x ∷ word) k) (sym is) (e, m)

  out : (v : ℕ → FoTerm) (word : List Token) → Matches v (Variable x ∷ word) ts → (v x ≡ t) × Matches v word us
  out v word m = subst (λ k. Matches v (Variable x ∷ word) k) is m

  pub held_other : (held : List Cell) → ((v : ℕ → FoTerm) → Agrees v bs → cells_of (v x) ≡ held) → (held ≡ cells_of t → ⊥) → Through nodes at x bs ts → ⊥
  held_other held stands apart h =
      let both : (h.2.0 x ≡ t) × Matches h.2.0 h.0 us = out h.2.0 h.0 h.2.2 in
      apart (sym (stands h.2.0 h.2.1) ∙ ap cells_of both.0)

  pub held_same : (held : List Cell) (r : Bool) → ((v : ℕ → FoTerm) → Agrees v bs → cells_of (v x) ≡ held) → held ≡ cells_of t
      → (r ≡ true → From nodes at bs us) × (From nodes at bs us → r ≡ true) → (r ≡ true → Through nodes at x bs ts) × (Through nodes at x bs ts → r ≡ true)
  held_same held r stands same says = (
    λ h. let way : From nodes at bs us = says.0 h in
        (way.0, way.1, (way.2.0, way.2.1, into way.2.0 way.0 (cells_injective (way.2.0 x) t (stands way.2.0 way.2.1 ∙ same)) way.2.2)),
    λ h. says.1 (h.0, h.1, (h.2.0, h.2.1, (out h.2.0 h.0 h.2.2).1)),
  )

  pub held_new : (first : List Cell) (r : Bool) → first ≡ cells_of t
      → (r ≡ true → From nodes at ((x, first) ∷ bs) us) × (From nodes at ((x, first) ∷ bs) us → r ≡ true) → (r ≡ true → Through nodes at x bs ts) × (Through nodes at x bs ts → r ≡ true)
  held_new first r same says = (
    λ h. let way : From nodes at ((x, first) ∷ bs) us = says.0 h in
        (way.0, way.1, (way.2.0, way.2.1.1, into way.2.0 way.0 (cells_injective (way.2.0 x) t (way.2.1.0 ∙ same)) way.2.2)),
    λ h. let both : (h.2.0 x ≡ t) × Matches h.2.0 h.0 us = out h.2.0 h.0 h.2.2 in
        says.1 (h.0, h.1, (h.2.0, (ap cells_of both.0 ∙ sym same, h.2.1), both.1)),
  )

pub at_variable : (nodes : List (List Edge)) (edge : Edge) (bs : List Bound) (x : ℕ) (ts : List FoTerm) (r : Bool) → edge.token ≡ Variable x
    → (r ≡ true → Through nodes edge.to x bs ts) × (Through nodes edge.to x bs ts → r ≡ true) → (r ≡ true → Behind nodes edge bs ts) × (Behind nodes edge bs ts → r ≡ true)
at_variable nodes edge bs x ts r is says = (
  λ h. let way : Through nodes edge.to x bs ts = says.0 h in (way.0, way.1, (way.2.0, way.2.1, subst (λ k. Matches way.2.0 (k ∷ way.0) ts) (sym is) way.2.2)),
  λ h. says.1 (h.0, h.1, (h.2.0, h.2.1, subst (λ k. Matches h.2.0 (k ∷ h.0) ts) is h.2.2)),
)

-- ---- one more variable that is bound

pub more_from : (nodes : List (List Edge)) (at x : ℕ) (cells : Bor (List Cell)) (rest : Bor Binds) (us : List FoTerm) (r : Bool)
    → (r ≡ true → From nodes at (binds_of (More x cells rest)) us) × (From nodes at (binds_of (More x cells rest)) us → r ≡ true)
    → (r ≡ true → From nodes at ((x, cells.now) ∷ binds_of rest.now) us) × (From nodes at ((x, cells.now) ∷ binds_of rest.now) us → r ≡ true)
more_from nodes at x cells rest us r says = subst (λ bs. (r ≡ true → From nodes at bs us) × (From nodes at bs us → r ≡ true)) (more_binds x cells rest) says
