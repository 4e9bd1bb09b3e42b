-- Theorems that refute a place's clauses, in order.
use Rattle.std.specs.Prelude.{◌≡◌, ℕ, Bool, if◌then◌else◌, List, [], ◌∷◌, ◌++◌, map}
use Rattle.std.specs.FinSet as set
use Rattle.hol_terms.specs.declared.term.Term.{Term}
use Rattle.hyp_sets.specs.Sets.{TermSet, only, set_of, Among}
use Rattle.kernel_rules.specs.declared.step.ThmId.{ThmId}
use Rattle.kernel_rules.specs.Connectives.{falsum, neg}
use Rattle.hol_kernel.specs.Logs.{Logged, IsThm, thm}
use Rattle.hol_clauses.specs.Literals.{denied}
use Rattle.hol_refutations.specs.Laws.{beside}
use Rattle.hol_terms.specs.declared.literal.TypedLiteral.{TypedLiteral}
use Rattle.formula_clauses.specs.Walks.{Clauses, joined}
use Rattle.hol_clausify.specs.declared.source.Source.{Source}
use Rattle.hol_clausify.specs.declared.refuting.Refutations.{Refutations}
use Rattle.hol_clausify.specs.Refutations.{Refuted}

-- the one hypothesis of a place: that it holds (positive), or that it fails
abbrev pub placed : Bool → Term → Term
placed s t = if s then t else neg t

abbrev pub denials : List TypedLiteral → TermSet
denials c = set_of (map denied c)

-- theorem `r` concludes `false`
pub record IsFalse (log : Logged) (r : ℕ) : Type 0 where
  pub is_thm : IsThm log r
  pub concl : (thm log r).concl ≡ falsum

-- it does so from these hypotheses and the denied literals of the clause
pub record IsRefuted (log : Logged) (from : TermSet) (c : List TypedLiteral) (r : ℕ) : Type 0 where
  pub refutes : IsFalse log r
  pub hyps : Among (thm log r).hyps (set.union from (denials c))

abbrev pub AllFalse : Logged → List ThmId → Type 0
AllFalse log [] = Unit {0}
AllFalse log (r ∷ rs) = IsFalse log r.0 × AllFalse log rs

-- one theorem for each clause, in order
abbrev pub AllRefuted : Logged → TermSet → Clauses → List ThmId → Type 0
AllRefuted log from [] [] = Unit {0}
AllRefuted log from [] (r ∷ rs) = ⊥
AllRefuted log from (c ∷ cs) [] = ⊥
AllRefuted log from (c ∷ cs) (r ∷ rs) = IsRefuted log from c r.0 × AllRefuted log from cs rs

-- ---- one theorem made of one, or of two

-- whatever the base is: where `th` refutes the part beside it, `r` refutes the whole beside it
pub record Lands (old new : Logged) (part : Term) (th : ℕ) (whole : TermSet) (r : ℕ) : Type 0 where
  pub refutes : IsFalse new r
  pub lifts : (base : TermSet) → Among (thm old th).hyps (beside part base) → Among (thm new r).hyps (set.union whole base)

pub record BothLand (old new : Logged) (p : Term) (left : ℕ) (q : Term) (right : ℕ) (whole : TermSet) (r : ℕ) : Type 0 where
  pub refutes : IsFalse new r
  pub lifts : (base : TermSet) → Among (thm old left).hyps (beside p base) → Among (thm old right).hyps (beside q base) → Among (thm new r).hyps (set.union whole base)

-- ---- lists of theorems, which are appended to a list

pub record Appended (log : Logged) (whole : TermSet) (cs : Clauses) (before after : List ThmId) : Type 0 where
  pub news : List ThmId
  pub is : after ≡ before ++ news
  pub refuted : AllRefuted log whole cs news

-- whatever the clauses are that these theorems refute from the part, those that are appended refute them from the whole
abbrev pub EachLands : Logged → Logged → Term → List ThmId → TermSet → List ThmId → List ThmId → Type 0
EachLands old new part rs whole before after = (cs : Clauses) → AllRefuted old (only part) cs rs → Appended new whole cs before after

-- the same for one theorem with each
abbrev pub WithEach : Logged → Logged → Term → ℕ → Term → List ThmId → TermSet → List ThmId → List ThmId → Type 0
WithEach old new p left q rights whole before after =
    (c : List TypedLiteral) (ds : Clauses) → IsRefuted old (only p) c left → AllRefuted old (only q) ds rights → Appended new whole (map (λ d. c ++ d) ds) before after

-- the same for each with each
abbrev pub EachWithEach : Logged → Logged → Term → List ThmId → Term → List ThmId → TermSet → List ThmId → List ThmId → Type 0
EachWithEach old new p lefts q rights whole before after =
    (cs ds : Clauses) → AllRefuted old (only p) cs lefts → AllRefuted old (only q) ds rights → Appended new whole (joined cs ds) before after

-- ---- the walk

-- theorems of the clauses that the walk gives, and the number of the next variable
pub record Refutes (log : Logged) (from : TermSet) (w : Refuted) (r : Refutations) : Type 0 where
  pub next : w.next ≡ r.next
  pub refuted : AllRefuted log from w.clauses r.thms

-- clauses with their theorems
abbrev pub paired : Clauses → List ThmId → List Source
paired (c ∷ cs) (r ∷ rs) = record { literals = c; thm = r } ∷ paired cs rs
paired _ _ = []
