-- An order of terms, which tells any two apart.
use Rattle.std.specs.Prelude.{ℕ}
use Rattle.std.specs.Ordering.{nat_cmp, ordering_then}
use Rattle.std.specs.declared.cmp.Ordering.{Ordering}
use Rattle.std.specs.declared.cmp.Ordering.TheVariants.{Less, Greater}
use Rattle.hol_terms.specs.declared.ty.Ty.{Ty}
use Rattle.hol_terms.specs.declared.ty.Ty.TheOpen.{Ty-F}
use Rattle.hol_terms.specs.declared.ty.Ty.TheFolds.{fold-Ty}
use Rattle.hol_terms.specs.declared.konst.Konst.{Konst}
use Rattle.hol_terms.specs.declared.konst.Konst.TheVariants as konst
use Rattle.hol_terms.specs.declared.term.Term.{Term, out-Term}
use Rattle.hol_terms.specs.declared.term.Term.TheOpen.{Term-F}
use Rattle.hol_terms.specs.declared.term.Term.TheFolds.{fold-Term}

-- numbers, and pairs of what is spelled
pub data Spelling : Type 0 where
  number : ℕ → Spelling
  pair : Spelling → Spelling → Spelling

-- numbers by their size, pairs by their first parts and then by their second, a number before a pair
abbrev pub spelling_cmp : Spelling → Spelling → Ordering
spelling_cmp (number m) (number n) = nat_cmp m n
spelling_cmp (number m) (pair c d) = Less
spelling_cmp (pair a b) (number n) = Greater
spelling_cmp (pair a b) (pair c d) = ordering_then (spelling_cmp a c) (spelling_cmp b d)

-- a type is spelled by the number of its kind and its parts
abbrev pub ty_spelling_step : Ty-F Spelling → Spelling
ty_spelling_step (Ty-F.Base a) = pair (number 0) (number a)
ty_spelling_step (Ty-F.Arrow a b) = pair (number 1) (pair a b)

abbrev pub ty_spelling : Ty → Spelling
ty_spelling = fold-Ty Spelling ty_spelling_step

abbrev pub ty_cmp : Ty → Ty → Ordering
ty_cmp a b = spelling_cmp (ty_spelling a) (ty_spelling b)

-- the number of a constant's kind
abbrev pub konst_kind : Konst → ℕ
konst_kind (konst.Named k) = 0
konst_kind (konst.Aux k) = 1
konst_kind konst.True = 2
konst_kind konst.False = 3
konst_kind konst.Not = 4
konst_kind konst.And = 5
konst_kind konst.Or = 6
konst_kind konst.Imp = 7
konst_kind (konst.Eq a) = 8
konst_kind (konst.All a) = 9
konst_kind (konst.Ex a) = 10
konst_kind (konst.Eps a) = 11

-- what a constant carries
abbrev pub konst_part : Konst → Spelling
konst_part (konst.Named k) = number k
konst_part (konst.Aux k) = number k
konst_part (konst.Eq a) = ty_spelling a
konst_part (konst.All a) = ty_spelling a
konst_part (konst.Ex a) = ty_spelling a
konst_part (konst.Eps a) = ty_spelling a
konst_part _ = number 0

abbrev pub konst_spelling : Konst → Spelling
konst_spelling k = pair (number (konst_kind k)) (konst_part k)

abbrev pub konst_cmp : Konst → Konst → Ordering
konst_cmp j k = spelling_cmp (konst_spelling j) (konst_spelling k)

-- the number of a term's kind
abbrev pub kind_of_layer : Term-F Term → ℕ
kind_of_layer (Term-F.Bound i) = 0
kind_of_layer (Term-F.Free n a) = 1
kind_of_layer (Term-F.Con k) = 2
kind_of_layer (Term-F.App f x) = 3
kind_of_layer (Term-F.Lam a b) = 4

abbrev pub kind : Term → ℕ
kind t = kind_of_layer (out-Term t)

-- a term is spelled by the number of its kind and its parts
abbrev pub spelling_step : Term-F Spelling → Spelling
spelling_step (Term-F.Bound i) = pair (number 0) (number i)
spelling_step (Term-F.Free n a) = pair (number 1) (pair (number n) (ty_spelling a))
spelling_step (Term-F.Con k) = pair (number 2) (konst_spelling k)
spelling_step (Term-F.App f x) = pair (number 3) (pair f x)
spelling_step (Term-F.Lam a b) = pair (number 4) (pair (ty_spelling a) b)

abbrev pub spelling : Term → Spelling
spelling = fold-Term Spelling spelling_step

-- first by kind, then by the parts from left to right, as far as the first that differ
unfoldable pub term_cmp : Term → Term → Ordering
term_cmp s t = spelling_cmp (spelling s) (spelling t)
