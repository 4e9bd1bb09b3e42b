-- Parts of typed terms by their paths, and the path in what a term stands for. A path's 0 goes to the function of an application, 1 to its argument.
use Rattle.std.specs.Prelude.{ℕ, zero, suc, ◌==◌, if◌then◌else◌, List, [], ◌∷◌, Option, Some, None}
use Rattle.hol_terms.specs.declared.term.Term.{Term, out-Term}
use Rattle.hol_terms.specs.declared.term.Term.TheOpen.{Term-F}
use Rattle.fo_terms.specs.declared.atom.Atom.{Atom}
use Rattle.fo_terms.specs.declared.atom.Atom.TheVariants.{Holds, Eq}
use Rattle.tagged_terms.specs.Readings.{application}

abbrev pub child : ℕ → Term-F Term → Option Term
child d (Term-F.App f x) = if d == 0 then Some f else (if d == 1 then Some x else None)
child d _ = None

abbrev pub behind : Option Term → (Term → Option Term) → Option Term
behind None g = None
behind (Some t) g = g t

-- the part at a path that crosses no binder, where there is one
abbrev pub part_at : List ℕ → Term → Option Term
part_at [] t = Some t
part_at (d ∷ path) t = behind (child d (out-Term t)) (part_at path)

abbrev pub with_child : ℕ → Term → Term-F Term → (Term → Term) → Term
with_child d t (Term-F.App f x) g = if d == 0 then application (g f) x else (if d == 1 then application f (g x) else t)
with_child d t _ g = t

-- the term with `u` in the place of the part at the path; the term itself where there is no such part
abbrev pub replaced_at : List ℕ → Term → Term → Term
replaced_at [] u t = u
replaced_at (d ∷ path) u t = with_child d t (out-Term t) (replaced_at path u)

-- the path in what a tagged term stands for: tags are left out
abbrev pub term_path : List ℕ → List ℕ
term_path [] = []
term_path (tag ∷ []) = []
term_path (tag ∷ d ∷ path) = d ∷ term_path path

-- the path in what an atom stands for
abbrev pub formula_path : Atom → List ℕ → List ℕ
formula_path a [] = []
formula_path (Holds t) (side ∷ path) = term_path path
formula_path (Eq s t) (zero ∷ path) = 0 ∷ 1 ∷ term_path path
formula_path (Eq s t) (suc side ∷ path) = 1 ∷ term_path path
