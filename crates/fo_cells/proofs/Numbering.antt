-- Cells whose variables are numbered are those of the numbered terms.
use Rattle.std.proofs.Common.{◌≡◌, ℕ, ◌+◌, ◌<◌, ◌≤◌, ◌==◌, List, [], ◌∷◌, ◌++◌, length, map, take, get_or, refl, sym, ap, ◌∙◌}
use Rattle.std.specs.List.{concat}
use Rattle.std.proofs.lemmas.List.{append-nil, length-map, map-append, take_more, take_all}
use Rattle.fo_terms.specs.declared.term.FoTerm.{FoTerm}
use Rattle.fo_terms.specs.declared.atom.Atom.{Atom}
use Rattle.fo_terms.specs.declared.atom.Atom.TheVariants.{Holds, Eq}
use Rattle.fo_terms.specs.declared.literal.Literal.{Literal}
use Rattle.fo_terms.specs.Substitution.{fun, put, put_atom, put_literals}
use Rattle.fo_terms.specs.Normal.{firsts, place_of, numbering, numbered, variables_of, atom_terms, literal_variables, clause_variables}
use Rattle.fo_terms.specs.inner.Gathered.{all_added}
use Rattle.fo_terms.proofs.Induction.{Each, by_cases}
use Rattle.fo_terms.proofs.Substitution.{put_var, put_fun}
use Rattle.fo_terms.proofs.Renaming.{variables_var, variables_fun}
use Rattle.fo_terms.proofs.Gathering.{all_added-append, all_added_none}
use Rattle.fo_cells.specs.declared.cell.Cell.{Cell}
use Rattle.fo_cells.specs.declared.cell.Cell.TheVariants.{Var, Fun}
use Rattle.fo_cells.specs.declared.place.Place.{Place}
use Rattle.fo_cells.specs.Cells.{joined, cells_of, is_equation, atom_cells}
use Rattle.fo_cells.specs.inner.Seen.{cell_variables, cell_numbered, literals_of, all_cells, places_from, AreOf, AreWhole}
use Rattle.fo_cells.proofs.Terms.{cells_var, cells_fun}

-- ---- the variables of cells

pub cell_variables-append : (a b : List Cell) → cell_variables (a ++ b) ≡ cell_variables a ++ cell_variables b
cell_variables-append [] b = refl
cell_variables-append (Var x ∷ a) b = ap (λ l. x ∷ l) (cell_variables-append a b)
cell_variables-append (Fun n size f ∷ a) b = cell_variables-append a b

each_variables : (ts : List FoTerm) → Each (λ t. cell_variables (cells_of t) ≡ variables_of t) ts → cell_variables (joined (map cells_of ts)) ≡ concat (map variables_of ts)
each_variables [] each = refl
each_variables (t ∷ ts) each =
    cell_variables-append (cells_of t) (joined (map cells_of ts)) ∙ ap (λ l. l ++ cell_variables (joined (map cells_of ts))) each.0
    ∙ ap (λ l. variables_of t ++ l) (each_variables ts each.1)

term_variables : (t : FoTerm) → cell_variables (cells_of t) ≡ variables_of t
term_variables = by_cases (λ t. cell_variables (cells_of t) ≡ variables_of t)
    (λ x. ap cell_variables (cells_var x) ∙ sym (variables_var x))
    (λ f args each. ap cell_variables (cells_fun f args) ∙ each_variables args each ∙ sym (variables_fun f args))

atom_variables : (a : Atom) → cell_variables (atom_cells a) ≡ concat (map variables_of (atom_terms a))
atom_variables (Holds t) = term_variables t ∙ sym (append-nil (variables_of t))
atom_variables (Eq s t) =
    cell_variables-append (cells_of s) (cells_of t) ∙ ap (λ l. l ++ cell_variables (cells_of t)) (term_variables s)
    ∙ ap (λ l. variables_of s ++ l) (term_variables t ∙ sym (append-nil (variables_of t)))

all_variables : (ls : List Literal) → cell_variables (all_cells ls) ≡ clause_variables ls
all_variables [] = refl
all_variables (l ∷ ls) =
    cell_variables-append (atom_cells l.atom) (all_cells ls) ∙ ap (λ v. v ++ cell_variables (all_cells ls)) (atom_variables l.atom)
    ∙ ap (λ v. literal_variables l ++ v) (all_variables ls)

pub gather_more : (now next : List ℕ) (cells : List Cell) (i : ℕ) (d : Cell) → i < length cells → now ≡ all_added ◌==◌ [] (cell_variables (take i cells))
    → next ≡ all_added ◌==◌ now (cell_variables (get_or cells i d ∷ [])) → next ≡ all_added ◌==◌ [] (cell_variables (take (i + 1) cells))
gather_more now next cells i d within so step =
    let one : List ℕ = cell_variables (get_or cells i d ∷ []) in
    let whole : cell_variables (take (i + 1) cells) ≡ cell_variables (take i cells) ++ one =
    ap cell_variables (take_more cells i d within) ∙ cell_variables-append (take i cells) (get_or cells i d ∷ []) in
    step ∙ ap (λ l. all_added ◌==◌ l one) so ∙ sym (all_added-append ◌==◌ [] (cell_variables (take i cells)) one) ∙ ap (all_added ◌==◌ []) (sym whole)

pub gather_all : (noted : List ℕ) (cells : List Cell) (i : ℕ) → length cells ≤ i → noted ≡ all_added ◌==◌ [] (cell_variables (take i cells)) → noted ≡ firsts ◌==◌ (cell_variables cells)
gather_all noted cells i over so = so ∙ ap (λ l. all_added ◌==◌ [] (cell_variables l)) (take_all i cells over) ∙ all_added_none (cell_variables cells)

-- ---- numbered cells

module _ (noted : List ℕ) where
  abbrev Numbers : FoTerm → Type 0
  Numbers t = map (cell_numbered noted) (cells_of t) ≡ cells_of (put (numbering noted) t)

  each_numbered : (ts : List FoTerm) → Each Numbers ts → map (cell_numbered noted) (joined (map cells_of ts)) ≡ joined (map cells_of (map (put (numbering noted)) ts))
  each_numbered [] each = refl
  each_numbered (t ∷ ts) each =
      map-append (cell_numbered noted) (cells_of t) (joined (map cells_of ts)) ∙ ap (λ l. l ++ map (cell_numbered noted) (joined (map cells_of ts))) each.0
      ∙ ap (λ l. cells_of (put (numbering noted) t) ++ l) (each_numbered ts each.1)

  same_symbol : (f m n j k : ℕ) (cs ds : List Cell) → m ≡ n → j ≡ k → cs ≡ ds → Fun m j f ∷ cs ≡ Fun n k f ∷ ds
  same_symbol f m n j k cs ds e g h = λ i. Fun (e i) (g i) f ∷ h i

  fun_numbered : (f : ℕ) (args : List FoTerm) → Each Numbers args → Numbers (fun f args)
  fun_numbered f args each =
      let inner : map (cell_numbered noted) (joined (map cells_of args)) ≡ joined (map cells_of (map (put (numbering noted)) args)) = each_numbered args each in
      let count : length (map cells_of args) ≡ length (map cells_of (map (put (numbering noted)) args)) =
      length-map args cells_of ∙ sym (length-map args (put (numbering noted))) ∙ sym (length-map (map (put (numbering noted)) args) cells_of) in
      let size : length (joined (map cells_of args)) ≡ length (joined (map cells_of (map (put (numbering noted)) args))) =
      sym (length-map (joined (map cells_of args)) (cell_numbered noted)) ∙ ap length inner in
      ap (map (cell_numbered noted)) (cells_fun f args)
      ∙ same_symbol f (length (map cells_of args)) (length (map cells_of (map (put (numbering noted)) args))) (length (joined (map cells_of args)) + 1)
      (length (joined (map cells_of (map (put (numbering noted)) args))) + 1) (map (cell_numbered noted) (joined (map cells_of args)))
      (joined (map cells_of (map (put (numbering noted)) args))) count (ap (λ n. n + 1) size) inner
      ∙ sym (cells_fun f (map (put (numbering noted)) args)) ∙ ap cells_of (sym (put_fun (numbering noted) f args))

  pub term_numbered : (t : FoTerm) → map (cell_numbered noted) (cells_of t) ≡ cells_of (put (numbering noted) t)
  term_numbered = by_cases Numbers
      (λ x. ap (map (cell_numbered noted)) (cells_var x) ∙ sym (cells_var (place_of x noted)) ∙ ap cells_of (sym (put_var (numbering noted) x)))
      fun_numbered

  atom_numbered : (a : Atom) → map (cell_numbered noted) (atom_cells a) ≡ atom_cells (put_atom (numbering noted) a)
  atom_numbered (Holds t) = term_numbered t
  atom_numbered (Eq s t) =
      map-append (cell_numbered noted) (cells_of s) (cells_of t) ∙ ap (λ l. l ++ map (cell_numbered noted) (cells_of t)) (term_numbered s)
      ∙ ap (λ l. cells_of (put (numbering noted) s) ++ l) (term_numbered t)

  same_kind : (a : Atom) → is_equation a ≡ is_equation (put_atom (numbering noted) a)
  same_kind (Holds t) = refl
  same_kind (Eq s t) = refl

  all_numbered : (ls : List Literal) → map (cell_numbered noted) (all_cells ls) ≡ all_cells (put_literals (numbering noted) ls)
  all_numbered [] = refl
  all_numbered (l ∷ ls) =
      map-append (cell_numbered noted) (atom_cells l.atom) (all_cells ls) ∙ ap (λ c. c ++ map (cell_numbered noted) (all_cells ls)) (atom_numbered l.atom)
      ∙ ap (λ c. atom_cells (put_atom (numbering noted) l.atom) ++ c) (all_numbered ls)

  places_numbered : (n : ℕ) (ls : List Literal) → places_from n ls ≡ places_from n (put_literals (numbering noted) ls)
  places_numbered n [] = refl
  places_numbered n (l ∷ ls) =
      let len : length (atom_cells l.atom) ≡ length (atom_cells (put_atom (numbering noted) l.atom)) =
      sym (length-map (atom_cells l.atom) (cell_numbered noted)) ∙ ap length (atom_numbered l.atom) in
      let first : List Place → List Place = λ ps. record { positive = l.positive; equation = is_equation l.atom; start = n; end = n + length (atom_cells l.atom) } ∷ ps in
      ap first (places_numbered (n + length (atom_cells l.atom)) ls)
      ∙ (λ i. record { positive = l.positive; equation = same_kind l.atom i; start = n; end = n + len i } ∷ places_from (n + len i) (put_literals (numbering noted) ls))

pub numbered_are : (cells : List Cell) (places : List Place) (noted : List ℕ) → AreWhole cells places → noted ≡ firsts ◌==◌ (cell_variables cells)
    → AreOf (map (cell_numbered noted) cells) places (numbered (literals_of cells places))
numbered_are cells places noted are is =
    let ls : List Literal = literals_of cells places in
    let right : put_literals (numbering noted) ls ≡ numbered ls =
    ap (λ v. put_literals (numbering v) ls) (is ∙ ap (λ c. firsts ◌==◌ (cell_variables c)) are.cells_are ∙ ap (firsts ◌==◌) (all_variables ls)) in
    record {
      cells_are = ap (map (cell_numbered noted)) are.cells_are ∙ all_numbered noted ls ∙ ap all_cells right;
      places_are = are.places_are ∙ places_numbered noted 0 ls ∙ ap (places_from 0) right;
    }

pub numbered_as : (cells now given : List Cell) (places : List Place) (noted lent : List ℕ) → AreWhole cells places → noted ≡ firsts ◌==◌ (cell_variables given) → given ≡ cells → lent ≡ noted
    → now ≡ map (cell_numbered lent) cells → AreOf now places (numbered (literals_of cells places))
numbered_as cells now given places noted lent are is same also step =
    let plain = numbered_are cells places lent are (also ∙ is ∙ ap (λ c. firsts ◌==◌ (cell_variables c)) same) in
    record {
      cells_are = step ∙ plain.cells_are;
      places_are = plain.places_are;
    }
