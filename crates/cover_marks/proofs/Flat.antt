-- The marks of a term are found along its cells.
use Rattle.std.proofs.Common.{◌≡◌, ℕ, ◌+◌, ◌<◌, Bool, true, false, Some, List, [], ◌∷◌, ◌++◌, length, map, take, get_or, slice_get, refl, sym, ap, ◌∙◌}
use Rattle.std.specs.Prelude.{bit_or}
use Rattle.std.proofs.lemmas.List.{append-nil, map-append, take_more}
use Rattle.std.proofs.lemmas.Option.{get_or_from_slice_get}
use Rattle.fo_terms.specs.declared.term.FoTerm.{FoTerm}
use Rattle.fo_terms.specs.declared.atom.Atom.{Atom}
use Rattle.fo_terms.specs.declared.atom.Atom.TheVariants.{Holds, Eq}
use Rattle.fo_terms.specs.declared.literal.Literal.{Literal}
use Rattle.fo_terms.specs.Substitution.{var, fun}
use Rattle.fo_cells.specs.declared.cell.Cell.{Cell}
use Rattle.fo_cells.specs.declared.cell.Cell.TheVariants.{Var, Fun}
use Rattle.fo_cells.specs.Cells.{joined, cells_of, is_equation, atom_cells, IsTerm}
use Rattle.fo_cells.proofs.Lists.{some_at}
use Rattle.fo_cells.proofs.Rows.{Split, split, SplitVariable, split_variable, never}
use Rattle.cover_marks.specs.Marks.{under, next, mark, arguments_marks, term_marks, literal_marks}
use Rattle.cover_marks.proofs.Insides.{marks_var, marks_fun}

alone : (t : FoTerm) (cells : List Cell) → cells_of t ≡ cells → joined (map cells_of (t ∷ [])) ≡ cells
alone t cells is = append-nil (cells_of t) ∙ is

first_same : (s t : FoTerm) (ss ts : List FoTerm) → s ∷ ss ≡ t ∷ ts → (s ≡ t) × (ss ≡ ts)
first_same s t ss ts h = (cc, cc)

-- the arguments stand behind the symbol
abbrev pub Behind : ℕ → List Cell → FoTerm → Type 0
Behind f rest t = (args : List FoTerm) × (t ≡ fun f args) × (joined (map cells_of args) ≡ rest)

pub behind_symbol : (t : FoTerm) (n size f : ℕ) (rest cells : List Cell) → cells_of t ≡ cells → cells ≡ Fun n size f ∷ rest → Behind f rest t
behind_symbol t n size f rest cells is front =
    let parts : Split n f rest (t ∷ []) = split (t ∷ []) n size f rest (alone t cells is ∙ front) in
    let both : (t ≡ fun f parts.0) × ([] ≡ parts.1) = first_same t (fun f parts.0) [] parts.1 parts.2 in
    let none : parts.0 ≡ parts.0 ++ parts.1 = sym (append-nil parts.0) ∙ ap (λ l. parts.0 ++ l) both.1 in
    (parts.0, both.0, ap (λ l. joined (map cells_of l)) none ∙ parts.4)

pub symbol_marks : (t : FoTerm) (n size f place r : ℕ) (rest cells : List Cell) → cells_of t ≡ cells → cells ≡ Fun n size f ∷ rest
    → ((ts : List FoTerm) → joined (map cells_of ts) ≡ rest → r ≡ arguments_marks (under place f) (mark (under place f)) (map term_marks ts)) → r ≡ term_marks t place
symbol_marks t n size f place r rest cells is front says =
    let parts : Behind f rest t = behind_symbol t n size f rest cells is front in
    says parts.0 parts.2 ∙ sym (ap (λ u. term_marks u place) parts.1 ∙ marks_fun f parts.0 place)

pub variable_marks : (t : FoTerm) (x place : ℕ) (rest cells : List Cell) → cells_of t ≡ cells → cells ≡ Var x ∷ rest → 0 ≡ term_marks t place
variable_marks t x place rest cells is front =
    let parts : SplitVariable x rest (t ∷ []) = split_variable (t ∷ []) x rest (alone t cells is ∙ front) in
    let same : t ≡ var x = (first_same t (var x) [] parts.0 parts.1).0 in
    sym (ap (λ u. term_marks u place) same ∙ marks_var x place)

pub row_marks : (ts us : List FoTerm) (t : FoTerm) (place marks first r : ℕ) → ts ≡ t ∷ us → first ≡ term_marks t place → r ≡ arguments_marks (next place) (bit_or marks first) (map term_marks us)
    → r ≡ arguments_marks place marks (map term_marks ts)
row_marks ts us t place marks first r is one says =
    says ∙ ap (λ m. arguments_marks (next place) (bit_or marks m) (map term_marks us)) one ∙ sym (ap (λ l. arguments_marks place marks (map term_marks l)) is)

-- ---- literals

pub holds_marks : (l : Literal) (cells : List Cell) (positive equation : Bool) (r : ℕ) → cells ≡ atom_cells l.atom → positive ≡ l.positive → equation ≡ is_equation l.atom → equation ≡ false
    → ((t : FoTerm) → cells_of t ≡ cells → r ≡ literal_marks (record { positive = positive; atom = Holds t })) → r ≡ literal_marks l
holds_marks l cells positive equation r row sign same is_not says = by_atom l.atom refl
  where
    by_atom : (a : Atom) → l.atom ≡ a → r ≡ literal_marks l
    by_atom (Holds t) is =
        says t (sym (row ∙ ap atom_cells is)) ∙ (λ i. literal_marks (record { positive = sign i; atom = sym is i }))
    by_atom (Eq s t) is = never (sym is_not ∙ same ∙ ap is_equation is)

pub sides_marks : (l : Literal) (cells : List Cell) (positive equation : Bool) (r : ℕ) → cells ≡ atom_cells l.atom → positive ≡ l.positive → equation ≡ is_equation l.atom → equation ≡ true
    → ((s t : FoTerm) → cells_of s ++ cells_of t ≡ cells → r ≡ literal_marks (record { positive = positive; atom = Eq s t })) → r ≡ literal_marks l
sides_marks l cells positive equation r row sign same is_so says = by_atom l.atom refl
  where
    by_atom : (a : Atom) → l.atom ≡ a → r ≡ literal_marks l
    by_atom (Holds t) is = never (sym (ap is_equation is) ∙ sym same ∙ is_so)
    by_atom (Eq s t) is =
        says s t (sym (row ∙ ap atom_cells is)) ∙ (λ i. literal_marks (record { positive = sign i; atom = sym is i }))

-- what stands in a literal's cells
pub one_term : (l : Literal) (cells : List Cell) (equation : Bool) → cells ≡ atom_cells l.atom → equation ≡ is_equation l.atom → equation ≡ false → IsTerm cells
one_term l cells equation row same is_not = by_atom l.atom refl
  where
    by_atom : (a : Atom) → l.atom ≡ a → IsTerm cells
    by_atom (Holds t) is = (t, sym (row ∙ ap atom_cells is))
    by_atom (Eq s t) is = never (sym is_not ∙ same ∙ ap is_equation is)

pub two_terms : (l : Literal) (cells : List Cell) (equation : Bool) → cells ≡ atom_cells l.atom → equation ≡ is_equation l.atom → equation ≡ true
    → (s : FoTerm) × (t : FoTerm) × (cells_of s ++ cells_of t ≡ cells)
two_terms l cells equation row same is_so = by_atom l.atom refl
  where
    by_atom : (a : Atom) → l.atom ≡ a → (s : FoTerm) × (t : FoTerm) × (cells_of s ++ cells_of t ≡ cells)
    by_atom (Holds t) is = never (sym (ap is_equation is) ∙ sym same ∙ is_so)
    by_atom (Eq s t) is = (s, t, sym (row ∙ ap atom_cells is))

-- ---- one literal more

pub words_more : (ls : List Literal) (words now : List ℕ) (i word : ℕ) → i < length ls → words ≡ map literal_marks (take i ls) → now ≡ words ++ word ∷ []
    → ((l : Literal) → slice_get ls i ≡ Some l → word ≡ literal_marks l) → now ≡ map literal_marks (take (i + 1) ls)
words_more ls words now i word within so pushed says =
    let l = some_at ls i within in
    let here : get_or ls i l.0 ≡ l.0 = get_or_from_slice_get ls i l.0 l.0 l.1 in
    pushed ∙ (λ k. so k ++ says l.0 l.1 k ∷ []) ∙ ap (λ m. map literal_marks (take i ls) ++ literal_marks m ∷ []) (sym here)
    ∙ sym (map-append literal_marks (take i ls) (get_or ls i l.0 ∷ [])) ∙ ap (map literal_marks) (sym (take_more ls i l.0 within))
