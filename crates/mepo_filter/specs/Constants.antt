-- The named constants of a formula. They alone count.
use Rattle.std.specs.Prelude.{ℕ, Bool, ◌==◌, ◌||◌, false, if◌then◌else◌, List, [], ◌∷◌, ◌++◌, fold}
use Rattle.std.specs.List.{list_any}
use Rattle.hol_terms.specs.declared.konst.Konst.{Konst}
use Rattle.hol_terms.specs.declared.konst.Konst.TheVariants as konst
use Rattle.hol_terms.specs.declared.term.Term.{Term}
use Rattle.hol_terms.specs.declared.term.Term.TheOpen.{Term-F}
use Rattle.hol_terms.specs.declared.term.Term.TheFolds.{fold-Term}

abbrev pub named : Konst → List ℕ
named (konst.Named k) = k ∷ []
named _ = []

-- the numbers of the named constants, in reading order and as often as they stand there
abbrev pub names_step : Term-F (List ℕ) → List ℕ
names_step (Term-F.Bound i) = []
names_step (Term-F.Free n a) = []
names_step (Term-F.Con k) = named k
names_step (Term-F.App f x) = f ++ x
names_step (Term-F.Lam a b) = b

abbrev pub names : Term → List ℕ
names = fold-Term (List ℕ) names_step

-- the number stands in the list
abbrev pub occurs_in : List ℕ → ℕ → Bool
occurs_in cs c = list_any (λ d. d == c) cs

-- each number of the list once, in the order in which they first stand there
abbrev pub with_new : List ℕ → ℕ → List ℕ
with_new cs c = if occurs_in cs c then cs else cs ++ c ∷ []

abbrev pub each_once : List ℕ → List ℕ
each_once cs = fold with_new [] cs

-- the distinct constants of a formula
abbrev pub constants : Term → List ℕ
constants t = each_once (names t)

-- ---- sets of constants

abbrev pub no_constant : ℕ → Bool
no_constant c = false

abbrev pub with_constant : (ℕ → Bool) → ℕ → ℕ → Bool
with_constant set c d = set d || c == d

abbrev pub with_all : (ℕ → Bool) → List ℕ → ℕ → Bool
with_all set cs d = set d || occurs_in cs d
