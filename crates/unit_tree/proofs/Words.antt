-- The word of a literal is no front of another's.
use Rattle.std.proofs.Common.{◌≡◌, Bool, true, false, List, [], ◌∷◌, ◌++◌, map, refl, sym, ap, ◌∙◌}
use Rattle.std.proofs.lemmas.List.{append_assoc, append-nil, map-append}
use Rattle.fo_terms.specs.declared.term.FoTerm.{FoTerm}
use Rattle.fo_terms.specs.declared.atom.Atom.{Atom}
use Rattle.fo_terms.specs.declared.atom.Atom.TheVariants.{Holds, Eq}
use Rattle.fo_terms.specs.declared.literal.Literal.{Literal}
use Rattle.fo_terms.specs.Normal.{atom_terms}
use Rattle.fo_cells.specs.declared.cell.Cell.{Cell}
use Rattle.fo_cells.specs.declared.cell.Cell.TheVariants.{Var, Fun}
use Rattle.fo_cells.specs.Cells.{is_equation, atom_cells}
use Rattle.fo_cells.specs.inner.Seen.{terms_of, cell_terms}
use Rattle.fo_cells.proofs.Literals.{reads_atom}
use Rattle.unit_tree.specs.declared.token.Token.{Token}
use Rattle.unit_tree.specs.declared.token.Token.TheVariants.{Head, Variable, Symbol, End}
use Rattle.unit_tree.specs.Tree.{token_of, word_of, onto}
use Rattle.unit_tree.specs.inner.Growth.{IsFront}
use Rattle.unit_tree.proofs.Going.{onto-append, onto_twice}

-- a cell of that token
abbrev cell_of : Token → Cell
cell_of (Head positive equation) = Var 0
cell_of (Variable x) = Var x
cell_of (Symbol n f) = Fun n 0 f
cell_of End = Var 0

same_terms : (cells rest : List Cell) → terms_of (map cell_of (map token_of cells) ++ rest) ≡ terms_of (cells ++ rest)
same_terms [] rest = refl
same_terms (Var x ∷ cells) rest = ap (cell_terms (Var x)) (same_terms cells rest)
same_terms (Fun n size f ∷ cells) rest = ap (cell_terms (Fun n size f)) (same_terms cells rest)

read_back : (a : Atom) (word : List Token) → terms_of (map cell_of (map token_of (atom_cells a) ++ word)) ≡ atom_terms a ++ terms_of (map cell_of word)
read_back a word =
    ap terms_of (map-append cell_of (map token_of (atom_cells a)) word) ∙ same_terms (atom_cells a) (map cell_of word) ∙ reads_atom a (map cell_of word)

kinds_apart : false ≡ true → ⊥
kinds_apart h = cc

first_same : (s t : FoTerm) (ss ts : List FoTerm) → s ∷ ss ≡ t ∷ ts → (s ≡ t) × (ss ≡ ts)
first_same s t ss ts h = (cc, cc)

atoms_same : (a b : Atom) (ss ts : List FoTerm) → is_equation a ≡ is_equation b → atom_terms a ++ ss ≡ atom_terms b ++ ts → a ≡ b
atoms_same (Holds s) (Holds t) ss ts kind is = ap Holds (first_same s t ss ts is).0
atoms_same (Holds s) (Eq c d) ss ts kind is = absurd (kinds_apart kind)
atoms_same (Eq a b) (Holds t) ss ts kind is = absurd (kinds_apart (sym kind))
atoms_same (Eq a b) (Eq c d) ss ts kind is =
    let left : (a ≡ c) × (b ∷ ss ≡ d ∷ ts) = first_same a c (b ∷ ss) (d ∷ ts) is in
    let right : (b ≡ d) × (ss ≡ ts) = first_same b d ss ts left.1 in
    let one : a ≡ c = left.0 in
    let two : b ≡ d = right.0 in
    λ i. Eq (one i) (two i)

heads_same : (p q d e : Bool) (v w : List Token) → Head p d ∷ v ≡ Head q e ∷ w → (p ≡ q) × (d ≡ e) × (v ≡ w)
heads_same p q d e v w h = (cc, cc, cc)

pub front_same : (m l : Literal) → IsFront (onto (word_of m) []) (word_of l) → m ≡ l
front_same m l front =
    let more : List Token = onto front.0 [] in
    let back : word_of l ≡ word_of m ++ more =
    sym (append-nil (word_of l)) ∙ sym (onto_twice (word_of l) [] []) ∙ ap (λ w. onto w []) (sym front.1) ∙ onto-append front.0 (onto (word_of m) []) []
    ∙ onto_twice (word_of m) [] more in
    let parts : (l.positive ≡ m.positive) × (is_equation l.atom ≡ is_equation m.atom)
    × (map token_of (atom_cells l.atom) ++ End ∷ [] ≡ (map token_of (atom_cells m.atom) ++ End ∷ []) ++ more) =
    heads_same l.positive m.positive (is_equation l.atom) (is_equation m.atom) (map token_of (atom_cells l.atom) ++ End ∷ []) ((map token_of (atom_cells m.atom) ++ End ∷ []) ++ more) back in
    let read : atom_terms l.atom ++ terms_of (map cell_of (End ∷ [])) ≡ atom_terms m.atom ++ terms_of (map cell_of (End ∷ more)) =
    sym (read_back l.atom (End ∷ [])) ∙ ap (λ w. terms_of (map cell_of w)) (parts.2 ∙ append_assoc (map token_of (atom_cells m.atom)) (End ∷ []) more) ∙ read_back m.atom (End ∷ more) in
    let sign : m.positive ≡ l.positive = sym parts.0 in
    let atom : m.atom ≡ l.atom = sym (atoms_same l.atom m.atom (terms_of (map cell_of (End ∷ []))) (terms_of (map cell_of (End ∷ more))) parts.1 read) in
    λ i. record { positive = sign i; atom = atom i }
