-- The inferences of the calculus: what each rule gives at given places of one or two clauses, and all of them in order.
use Rattle.std.specs.Prelude.{◌≡◌, ℕ, zero, suc, ◌+◌, ◌<◌, max, Bool, true, false, not, ◌&&◌, if◌then◌else◌, IsTrue, List, [], ◌∷◌, ◌++◌, map, length, Option, Some, None, slice_get, slice_set}
use Rattle.std.specs.List.{flat_map, remove}
use Rattle.fo_terms.specs.declared.term.FoTerm.{FoTerm, out-FoTerm}
use Rattle.fo_terms.specs.declared.term.FoTerm.TheOpen.{FoTerm-F}
use Rattle.fo_terms.specs.declared.atom.Atom.{Atom}
use Rattle.fo_terms.specs.declared.atom.Atom.TheVariants.{Holds, Eq}
use Rattle.fo_terms.specs.declared.literal.Literal.{Literal}
use Rattle.fo_terms.specs.declared.clause.Clause.{Clause}
use Rattle.fo_terms.specs.Substitution.{var, put, put_literals}
use Rattle.fo_terms.specs.Normal.{clause_variables, normal_of}
use Rattle.fo_unify.specs.declared.subst.Bind.{Bind}
use Rattle.fo_unify.specs.Lookup.{term_of}
use Rattle.fo_unify.specs.Unifier.{IsMostGeneral}
use Rattle.fo_order.specs.KnuthBendix.{Above}
use Rattle.fo_order.specs.Eligible.{IsEligible}
use Rattle.fo_infer.specs.declared.made.Made.{Made}
use Rattle.fo_infer.specs.declared.made.Rule.{Rule}
use Rattle.fo_infer.specs.declared.made.Rule.TheVariants.{Resolve, Para, Factor, Reflex}
use Rattle.fo_infer.specs.Paths.{at_atom_path, atom_paths, atom_replaced}

-- ---- clauses

-- the least number above all of these
abbrev pub above_all : List ℕ → ℕ
above_all [] = 0
above_all (x ∷ xs) = max (x + 1) (above_all xs)

-- the right clause's literals with their variables renamed apart from the left one's
abbrev pub renamed_apart : Clause → Clause → List Literal
renamed_apart p q = put_literals (λ x. var (x + above_all (clause_variables p.literals))) q.literals

-- a clause with the unifier put through it, in normal form
abbrev pub conclusion : List Bind → List Literal → Clause
conclusion binds ls = record { literals = normal_of (put_literals (term_of binds) ls) }

-- ---- one clause

-- the equations that make two atoms of one kind the same
abbrev pub atom_equations : Atom → Atom → Option (List (FoTerm × FoTerm))
atom_equations (Holds s) (Holds t) = Some ((s, t) ∷ [])
atom_equations (Holds s) (Eq c d) = None
atom_equations (Eq a b) (Holds t) = None
atom_equations (Eq a b) (Eq c d) = Some ((a, c) ∷ (b, d) ∷ [])

-- factoring: two literals of one sign and kind are made the same, and the later one goes
pub record Factors (p : Clause) (i j : ℕ) (c : Clause) : Type 0 where
  pub first : Literal
  pub second : Literal
  pub first_is : slice_get p.literals i ≡ Some first
  pub second_is : slice_get p.literals j ≡ Some second
  pub before : i < j
  pub signs : first.positive ≡ second.positive
  pub equations : List (FoTerm × FoTerm)
  pub kinds : atom_equations first.atom second.atom ≡ Some equations
  pub binds : List Bind
  pub unifier : IsMostGeneral equations binds
  pub gives : c ≡ conclusion binds (remove p.literals j)

-- reflexivity: the sides of a negated equation are made the same, and it goes
pub record Reflects (p : Clause) (i : ℕ) (c : Clause) : Type 0 where
  pub s : FoTerm
  pub t : FoTerm
  pub literal_is : slice_get p.literals i ≡ Some (record { positive = false; atom = Eq s t })
  pub binds : List Bind
  pub unifier : IsMostGeneral ((s, t) ∷ []) binds
  pub gives : c ≡ conclusion binds (remove p.literals i)

-- what a rule gives of one clause
abbrev pub AloneGives : Clause → Rule → Clause → Type 0
AloneGives p (Factor i j) c = Factors p i j c
AloneGives p (Reflex i) c = Reflects p i c
AloneGives p (Resolve i j) c = ⊥
AloneGives p (Para i swapped j path) c = ⊥

-- ---- two clauses

-- resolution: an eligible positive literal of p and an eligible negative one of q are made the same, and both go
pub record Resolves (p q : Clause) (i j : ℕ) (c : Clause) : Type 0 where
  pub s : FoTerm
  pub t : FoTerm
  pub left_is : slice_get p.literals i ≡ Some (record { positive = true; atom = Holds s })
  pub right_is : slice_get (renamed_apart p q) j ≡ Some (record { positive = false; atom = Holds t })
  pub left_eligible : IsEligible p i
  pub right_eligible : IsEligible q j
  pub binds : List Bind
  pub unifier : IsMostGeneral ((s, t) ∷ []) binds
  pub gives : c ≡ conclusion binds (remove p.literals i ++ remove (renamed_apart p q) j)

-- the side of an equation that is sought, and the one that is put in its place
abbrev pub sought : Bool → FoTerm → FoTerm → FoTerm
sought swapped a b = if swapped then b else a

abbrev pub put_in : Bool → FoTerm → FoTerm → FoTerm
put_in swapped a b = if swapped then a else b

-- a test of a position by its atom, its path and its subterm
abbrev pub Position : Type 0
Position = Atom → List ℕ → FoTerm → Bool

abbrev pub is_compound_layer : FoTerm-F FoTerm → Bool
is_compound_layer (FoTerm-F.Var x) = false
is_compound_layer (FoTerm-F.Fun f args) = true

-- no variable
abbrev pub is_compound : FoTerm → Bool
is_compound t = is_compound_layer (out-FoTerm t)

abbrev pub is_single_compound : List FoTerm → Bool
is_single_compound [] = false
is_single_compound (t ∷ []) = is_compound t
is_single_compound (t ∷ u ∷ more) = false

abbrev pub is_tagged_layer : FoTerm-F FoTerm → Bool
is_tagged_layer (FoTerm-F.Var x) = false
is_tagged_layer (FoTerm-F.Fun f args) = is_single_compound args

-- a symbol with one argument, which is no variable
abbrev pub is_tagged : FoTerm → Bool
is_tagged t = is_tagged_layer (out-FoTerm t)

-- a tag on a core that is no variable
abbrev pub tagged_position : Position
tagged_position a path u = is_tagged u

abbrev pub is_whole : Atom → List ℕ → Bool
is_whole (Holds t) (k ∷ []) = true
is_whole a path = false

-- no variable, and not the whole term of an atom that is no equation
abbrev pub plain_position : Position
plain_position a path u = is_compound u && not (is_whole a path)

-- the literal with another term at a path of its atom
abbrev pub literal_replaced : List ℕ → FoTerm → Literal → Literal
literal_replaced path r l = record { positive = l.positive; atom = atom_replaced path r l.atom }

-- paramodulation: an eligible positive equation of p, as written or swapped, is put into a position of an eligible literal of q, where the side
-- that is sought isn't less than or equal to the other one
pub record Paramodulates (position : Position) (p q : Clause) (i : ℕ) (swapped : Bool) (j : ℕ) (path : List ℕ) (c : Clause) : Type 0 where
  pub a : FoTerm
  pub b : FoTerm
  pub into : Literal
  pub u : FoTerm
  pub left_is : slice_get p.literals i ≡ Some (record { positive = true; atom = Eq a b })
  pub right_is : slice_get (renamed_apart p q) j ≡ Some into
  pub at : at_atom_path path into.atom ≡ Some u
  pub fits : IsTrue (position into.atom path u)
  pub left_eligible : IsEligible p i
  pub right_eligible : IsEligible q j
  pub binds : List Bind
  pub unifier : IsMostGeneral ((sought swapped a b, u) ∷ []) binds
  pub not_equal : put (term_of binds) (sought swapped a b) ≡ put (term_of binds) (put_in swapped a b) → ⊥
  pub not_less : Above (put (term_of binds) (put_in swapped a b)) (put (term_of binds) (sought swapped a b)) → ⊥
  pub gives : c ≡ conclusion binds (remove p.literals i ++ slice_set (renamed_apart p q) j (literal_replaced path (put_in swapped a b) into))

-- what a rule gives of two clauses
abbrev pub PairGives : Position → Clause → Clause → Rule → Clause → Type 0
PairGives position p q (Resolve i j) c = Resolves p q i j c
PairGives position p q (Para i swapped j path) c = Paramodulates position p q i swapped j path c
PairGives position p q (Factor i j) c = ⊥
PairGives position p q (Reflex i) c = ⊥

-- ---- the rules in the order in which they are tried

abbrev pub upto : ℕ → List ℕ
upto zero = []
upto (suc n) = upto n ++ n ∷ []

-- each pair of places is factored, then each place reflected
abbrev pub factor_rules : ℕ → ℕ → List Rule
factor_rules n i = map (λ j. Factor i j) (upto n)

abbrev pub all_factor_rules : Clause → List Rule
all_factor_rules p = flat_map (factor_rules (length p.literals)) (upto (length p.literals))

abbrev pub all_reflex_rules : Clause → List Rule
all_reflex_rules p = map (λ i. Reflex i) (upto (length p.literals))

abbrev pub alone_rules : Clause → List Rule
alone_rules p = all_factor_rules p ++ all_reflex_rules p

abbrev pub resolve_rules : ℕ → ℕ → List Rule
resolve_rules n i = map (λ j. Resolve i j) (upto n)

abbrev pub option_paths : Option Literal → List (List ℕ)
option_paths None = []
option_paths (Some l) = atom_paths l.atom

-- the positions of the literal at place j, for the equation i in one direction
abbrev pub position_rules : List Literal → ℕ → Bool → ℕ → List Rule
position_rules into i swapped j = map (λ path. Para i swapped j path) (option_paths (slice_get into j))

-- of all literals
abbrev pub direction_rules : List Literal → ℕ → Bool → List Rule
direction_rules into i swapped = flat_map (position_rules into i swapped) (upto (length into))

-- the equation as written, and then swapped
abbrev pub para_rules : List Literal → ℕ → List Rule
para_rules into i = direction_rules into i false ++ direction_rules into i true

abbrev pub all_resolve_rules : Clause → Clause → List Rule
all_resolve_rules p q = flat_map (resolve_rules (length q.literals)) (upto (length p.literals))

abbrev pub all_para_rules : Clause → Clause → List Rule
all_para_rules p q = flat_map (para_rules (renamed_apart p q)) (upto (length p.literals))

abbrev pub pair_rules : Clause → Clause → List Rule
pair_rules p q = all_resolve_rules p q ++ all_para_rules p q

-- ---- all inferences

-- what the rules give, one after another
pub data Listed (Gives : Rule → Clause → Type 0) : List Rule → List Made → Type 0 where
  done : Listed Gives [] []
  skip : {r : Rule} {rs : List Rule} {ms : List Made} → ((c : Clause) → Gives r c → ⊥) → Listed Gives rs ms → Listed Gives (r ∷ rs) ms
  give : {r : Rule} {c : Clause} {rs : List Rule} {ms : List Made} → Gives r c → Listed Gives rs ms → Listed Gives (r ∷ rs) (record { clause = c; rule = r } ∷ ms)

-- the inferences of one clause
abbrev pub Alone : Clause → List Made → Type 0
Alone p ms = Listed (AloneGives p) (alone_rules p) ms

-- the inferences of two clauses, on positions of this kind
abbrev pub BetweenAt : Position → Clause → Clause → List Made → Type 0
BetweenAt position p q ms = Listed (PairGives position p q) (pair_rules p q) ms

abbrev pub Between : Clause → Clause → List Made → Type 0
Between = BetweenAt tagged_position

abbrev pub BetweenPlain : Clause → Clause → List Made → Type 0
BetweenPlain = BetweenAt plain_position
