-- The terms in a row of cells.
use Rattle.std.proofs.Common.{◌≡◌, ℕ, ◌+◌, ◌<◌, ◌==◌, Bool, true, false, List, [], ◌∷◌, ◌++◌, length, map, refl, sym, ap, ◌∙◌, arith}
use Rattle.std.proofs.lemmas.List.{append-nil, map-append, length-append, length-map}
use Rattle.fo_terms.specs.declared.term.FoTerm.{FoTerm}
use Rattle.fo_terms.specs.declared.atom.Atom.{Atom}
use Rattle.fo_terms.specs.declared.atom.Atom.TheVariants.{Holds, Eq}
use Rattle.fo_terms.specs.Substitution.{var, fun}
use Rattle.fo_terms.specs.Normal.{atom_terms}
use Rattle.fo_terms.proofs.Induction.{by_cases}
use Rattle.fo_terms.proofs.Substitution.{equal_true, unequal}
use Rattle.fo_cells.specs.declared.cell.Cell.{Cell}
use Rattle.fo_cells.specs.declared.cell.Cell.TheVariants.{Var, Fun}
use Rattle.fo_cells.specs.Cells.{joined, cells_of, atom_cells}
use Rattle.fo_cells.proofs.Terms.{cells_var, cells_fun, joined-append}

pub some_cells : (t : FoTerm) → 0 < length (cells_of t)
some_cells = by_cases (λ t. 0 < length (cells_of t)) (λ x. omega (arith, ap length (cells_var x))) (λ f args each. omega (arith, ap length (cells_fun f args)))

-- the cells of an atom are those of its terms
pub row_of : (a : Atom) → joined (map cells_of (atom_terms a)) ≡ atom_cells a
row_of (Holds t) = append-nil (cells_of t)
row_of (Eq s t) = ap (λ l. cells_of s ++ l) (append-nil (cells_of t))

pub no_terms : (ts : List FoTerm) → joined (map cells_of ts) ≡ [] → ts ≡ []
no_terms [] is = refl
no_terms (t ∷ ts) is = absurd (omega (arith, some_cells t, ap length is, length-append (cells_of t) (joined (map cells_of ts))))

-- ---- a row that begins with a symbol

abbrev pub Split : ℕ → ℕ → List Cell → List FoTerm → Type 0
Split n f rest ts = (args : List FoTerm) × (more : List FoTerm) × (ts ≡ fun f args ∷ more) × (length args ≡ n) × (joined (map cells_of (args ++ more)) ≡ rest)

var_apart : (x n size f : ℕ) (cs rest : List Cell) → Var x ∷ cs ≡ Fun n size f ∷ rest → ⊥
var_apart x n size f cs rest h = cc

funs_same : (m n j k f g : ℕ) (cs ds : List Cell) → Fun m j f ∷ cs ≡ Fun n k g ∷ ds → (m ≡ n) × (f ≡ g) × (cs ≡ ds)
funs_same m n j k f g cs ds h = (cc, cc, cc)

split_first : (t : FoTerm) (n size f : ℕ) (rest : List Cell) (more : List FoTerm) → cells_of t ++ joined (map cells_of more) ≡ Fun n size f ∷ rest → Split n f rest (t ∷ more)
split_first = by_cases (λ t. (n size f : ℕ) (rest : List Cell) (more : List FoTerm) → cells_of t ++ joined (map cells_of more) ≡ Fun n size f ∷ rest → Split n f rest (t ∷ more))
    (λ x n size f rest more h. absurd (var_apart x n size f (joined (map cells_of more)) rest (ap (λ c. c ++ joined (map cells_of more)) (sym (cells_var x)) ∙ h)))
    (λ g args each n size f rest more h.
    let same : (length (map cells_of args) ≡ n) × (g ≡ f) × (joined (map cells_of args) ++ joined (map cells_of more) ≡ rest) =
    funs_same (length (map cells_of args)) n (length (joined (map cells_of args)) + 1) size g f (joined (map cells_of args) ++ joined (map cells_of more)) rest
    (ap (λ c. c ++ joined (map cells_of more)) (sym (cells_fun g args)) ∙ h) in (
      args,
      more,
      ap (λ k. fun k args ∷ more) same.1,
      sym (length-map args cells_of) ∙ same.0,
      ap joined (map-append cells_of args more) ∙ joined-append (map cells_of args) (map cells_of more) ∙ same.2,
    ))

nothing_apart : (c : Cell) (cs : List Cell) → [] ≡ c ∷ cs → ⊥
nothing_apart c cs h = cc

pub split : (ts : List FoTerm) (n size f : ℕ) (rest : List Cell) → joined (map cells_of ts) ≡ Fun n size f ∷ rest → Split n f rest ts
split [] n size f rest h = absurd (nothing_apart (Fun n size f) rest h)
split (t ∷ ts) n size f rest h = split_first t n size f rest ts h

-- ---- a row that doesn't end here

abbrev pub FirstOf : List FoTerm → List Cell → Type 0
FirstOf ts cells = (t : FoTerm) × (us : List FoTerm) × (ts ≡ t ∷ us) × (cells_of t ++ joined (map cells_of us) ≡ cells)

pub first_of : (ts : List FoTerm) (cells : List Cell) → joined (map cells_of ts) ≡ cells → 0 < length cells → FirstOf ts cells
first_of [] cells row some = absurd (omega (arith, ap length row))
first_of (t ∷ us) cells row some = (t, us, refl, row)

-- ---- tests

pub never : {X : Type 0} → false ≡ true → X
never h = absurd (apart h)
  where
    apart : false ≡ true → ⊥
    apart e = cc

pub empty_test : (cells : List Cell) (r : Bool) → r ≡ (length cells == 0) → r ≡ true → cells ≡ []
empty_test [] r is h = refl
empty_test (c ∷ cells) r is h = never (sym (unequal (length (c ∷ cells)) 0 (λ e. omega (arith, e))) ∙ sym is ∙ h)

pub some_test : (cells : List Cell) (r : Bool) → r ≡ (length cells == 0) → r ≡ false → 0 < length cells
some_test [] r is h = never (sym h ∙ is ∙ equal_true 0)
some_test (c ∷ cells) r is h = omega arith

-- ---- a row that begins with a variable

abbrev pub SplitVariable : ℕ → List Cell → List FoTerm → Type 0
SplitVariable x rest ts = (more : List FoTerm) × (ts ≡ var x ∷ more) × (joined (map cells_of more) ≡ rest)

vars_same : (x y : ℕ) (cs ds : List Cell) → Var x ∷ cs ≡ Var y ∷ ds → (x ≡ y) × (cs ≡ ds)
vars_same x y cs ds h = (cc, cc)

fun_apart : (x n size f : ℕ) (cs rest : List Cell) → Fun n size f ∷ cs ≡ Var x ∷ rest → ⊥
fun_apart x n size f cs rest h = cc

split_variable_first : (t : FoTerm) (x : ℕ) (rest : List Cell) (more : List FoTerm) → cells_of t ++ joined (map cells_of more) ≡ Var x ∷ rest → SplitVariable x rest (t ∷ more)
split_variable_first = by_cases (λ t. (x : ℕ) (rest : List Cell) (more : List FoTerm) → cells_of t ++ joined (map cells_of more) ≡ Var x ∷ rest → SplitVariable x rest (t ∷ more))
    (λ y x rest more h.
    let same : (y ≡ x) × (joined (map cells_of more) ≡ rest) =
    vars_same y x (joined (map cells_of more)) rest (ap (λ c. c ++ joined (map cells_of more)) (sym (cells_var y)) ∙ h) in
    (more, ap (λ z. var z ∷ more) same.0, same.1))
    (λ g args each x rest more h. absurd (fun_apart x (length (map cells_of args)) (length (joined (map cells_of args)) + 1) g (joined (map cells_of args) ++ joined (map cells_of more)) rest
    (ap (λ c. c ++ joined (map cells_of more)) (sym (cells_fun g args)) ∙ h)))

pub split_variable : (ts : List FoTerm) (x : ℕ) (rest : List Cell) → joined (map cells_of ts) ≡ Var x ∷ rest → SplitVariable x rest ts
split_variable [] x rest h = absurd (nothing_apart (Var x) rest h)
split_variable (t ∷ ts) x rest h = split_variable_first t x rest ts h
