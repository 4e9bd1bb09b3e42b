-- What the declarations of a file declare, in their order, or the first fault.
use Rattle.std.specs.Prelude.{ℕ, nat_le, Bool, true, false, ◌||◌, is_some, List, [], ◌∷◌, ◌++◌, length}
use Rattle.std.specs.Str.{bytes_eq}
use Rattle.theory_syntax.specs.declared.tokens.Word.{Word}
use Rattle.theory_syntax.specs.declared.tree.Hyp.{Hyp}
use Rattle.theory_syntax.specs.declared.tree.Item.{Item}
use Rattle.theory_syntax.specs.declared.tree.Item.TheVariants as item
use Rattle.theory_syntax.specs.declared.tree.Tree.{Tree}
use Rattle.theory_syntax.specs.declared.tree.TyTree.{TyTree}
use Rattle.hol_terms.specs.declared.ty.Ty.{Ty}
use Rattle.hol_terms.specs.declared.term.Term.{Term}
use Rattle.theory_terms.specs.declared.fault.TheoryKind.{TheoryKind}
use Rattle.theory_terms.specs.declared.fault.TheoryKind.TheVariants.{Repeated, TooMany}
use Rattle.theory_terms.specs.Answers.{Answer, Good, Bad, and_then}
use Rattle.theory_terms.specs.Words.{word_at, place}
use Rattle.theory_terms.specs.Signature.{found}
use Rattle.theory_terms.specs.Types.{type_of_tree}
use Rattle.theory_terms.specs.Meanings.{sentence}
use Rattle.theory_reader.specs.declared.statement.Fact.{Fact}
use Rattle.theory_reader.specs.declared.statement.Goal.{Goal}
use Rattle.theory_reader.specs.Sound.{fact_names, goal_names}
use Rattle.theory_reader.specs.Declarations.{Declarations, known}

-- the fault of this kind where the test passes, else the answer
abbrev pub unless : {A : Type 0} → Bool → ℕ → TheoryKind → Answer A → Answer A
unless true at k a = Bad at k
unless false at k a = a

-- a fact or a goal so far has the name
abbrev pub is_stated : Declarations → List ℕ → Bool
is_stated so n = is_some (place n (fact_names so.facts)) || is_some (place n (goal_names so.goals))

abbrev pub fact_of : List ℕ → Term → Fact
fact_of n f = record { name = n; formula = f }

abbrev pub goal_of : List ℕ → Term → ℕ → List Fact → Goal
goal_of n f before assumes = record { name = n; formula = f; before = before; assumes = assumes }

-- ---- what is declared, with one declaration more

abbrev pub with_type : Declarations → List ℕ → Declarations
with_type so n = record { types = so.types ++ n ∷ []; consts = so.consts; facts = so.facts; goals = so.goals }

abbrev pub with_const : Declarations → List ℕ → Ty → Declarations
with_const so n a = record { types = so.types; consts = so.consts ++ record { name = n; ty = a } ∷ []; facts = so.facts; goals = so.goals }

abbrev pub with_fact : Declarations → List ℕ → Term → Declarations
with_fact so n f = record { types = so.types; consts = so.consts; facts = so.facts ++ fact_of n f ∷ []; goals = so.goals }

abbrev pub with_goal : Declarations → List ℕ → Term → List Fact → Declarations
with_goal so n f assumes =
    record { types = so.types; consts = so.consts; facts = so.facts; goals = so.goals ++ goal_of n f (length so.facts) assumes ∷ [] }

-- ---- declarations

abbrev pub type_declared : List ℕ → Declarations → Word → Answer Declarations
type_declared text so w = unless (is_some (place (word_at text w) so.types)) w.start Repeated (Good (with_type so (word_at text w)))

abbrev pub const_declared : List ℕ → Declarations → Word → TyTree → Answer Declarations
const_declared text so w a =
    unless (is_some (found (word_at text w) so.consts)) w.start Repeated
    (and_then (type_of_tree text (known so) a) (λ ty. Good (with_const so (word_at text w) ty)))

-- there are at most 20,000 facts
abbrev pub fact_declared : List ℕ → Declarations → Word → Tree → Answer Declarations
fact_declared text so w t =
    unless (is_stated so (word_at text w)) w.start Repeated
    (unless (nat_le 20000 (length so.facts)) w.start TooMany
    (and_then (sentence text (known so) t) (λ f. Good (with_fact so (word_at text w) f))))

-- the assumptions of the goal `goal` so far with one more, of which there are at most 64: no fact or goal so far, nor the goal,
-- nor an assumption so far has its name
abbrev pub assumption : List ℕ → Declarations → List ℕ → List Fact → Hyp → Answer (List Fact)
assumption text so goal before h =
    unless (is_stated so (word_at text h.name) || (bytes_eq (word_at text h.name) goal || is_some (place (word_at text h.name) (fact_names before))))
    h.name.start Repeated
    (unless (nat_le 64 (length before)) h.name.start TooMany
    (and_then (sentence text (known so) h.tree) (λ f. Good (before ++ fact_of (word_at text h.name) f ∷ []))))

-- the assumptions so far, and then these
abbrev pub assumptions : List ℕ → Declarations → List ℕ → List Fact → List Hyp → Answer (List Fact)
assumptions text so goal before [] = Good before
assumptions text so goal before (h ∷ hs) = and_then (assumption text so goal before h) (λ more. assumptions text so goal more hs)

-- a goal's formula is read before its assumptions
abbrev pub goal_declared : List ℕ → Declarations → Word → Tree → List Hyp → Answer Declarations
goal_declared text so w t hs =
    unless (is_stated so (word_at text w)) w.start Repeated
    (and_then (sentence text (known so) t) (λ f.
    and_then (assumptions text so (word_at text w) [] hs) (λ assumes. Good (with_goal so (word_at text w) f assumes))))

abbrev pub declared : List ℕ → Declarations → Item → Answer Declarations
declared text so (item.Type w) = type_declared text so w
declared text so (item.Const w a) = const_declared text so w a
declared text so (item.Fact w t) = fact_declared text so w t
declared text so (item.Goal w t hs) = goal_declared text so w t hs

-- what is declared so far, and then these
abbrev pub declared_all : List ℕ → Declarations → List Item → Answer Declarations
declared_all text so [] = Good so
declared_all text so (d ∷ ds) = and_then (declared text so d) (λ next. declared_all text next ds)

abbrev pub nothing : Declarations
nothing = record { types = []; consts = []; facts = []; goals = [] }

-- what these declarations of the text make
abbrev pub theory_of : List ℕ → List Item → Answer Declarations
theory_of text items = declared_all text nothing items
