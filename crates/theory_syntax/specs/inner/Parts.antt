-- What the reader of a part promises to the readers around it.
use Rattle.std.specs.Prelude.{◌≡◌, ℕ, ◌≤◌, ◌<◌, List, [], ◌∷◌, ◌++◌, length}
use Rattle.theory_syntax.specs.declared.tokens.Word.{Word}
use Rattle.theory_syntax.specs.declared.tokens.Tok.{Tok}
use Rattle.theory_syntax.specs.declared.tokens.Tok.TheVariants as tok
use Rattle.theory_syntax.specs.declared.tree.TyTree.{TyTree}
use Rattle.theory_syntax.specs.declared.tree.Tree.{Tree}
use Rattle.theory_syntax.specs.declared.tree.Hyp.{Hyp}
use Rattle.theory_syntax.specs.declared.tree.Item.{Item}
use Rattle.first_fault.specs.declared.fault.Fault.{Fault}
use Rattle.first_fault.specs.Fails as fails
pub use Rattle.first_fault.specs.Fails.{end_of}
use Rattle.theory_syntax.specs.Grammar.{Placed, Declares, AreHyps, Sort, Derives, TypeSort, IsType}
use Rattle.theory_syntax.specs.Machine.{put, goes, run, State, Frame, InGoal, Stage, Side, OpenGoal, staged, level, top_rank, start, class, sort_rank, Ends, EndsTy, WantTy, Have, Top}
use Rattle.theory_syntax.specs.Reading.{Within, Begins}

abbrev pub Fails : ℕ → (List Placed → Type 0) → (I : Type 0) → (I → State) → List Tok → Fault → Type 0
Fails m B I st ts e = fails.Fails Tok (List Item) m B I (λ i xs. run (st i) xs) ts e

-- the frames below a part
pub record Below (l r : ℕ) : Type 0 where
  pub frames : List Frame
  pub is_level : level frames ≡ l
  pub is_rank : r ≤ top_rank frames

-- ---- a part of a term, at a level

pub record Got (m l : ℕ) (s : Sort) (ts : List Tok) (t : Tree) (rest : List Tok) : Type 0 where
  pub room : l ≤ m
  pub placed : List Placed
  pub derived : Derives l s placed t
  pub within : Within m placed
  pub tokens : ts ≡ put placed rest
  pub ends : Ends (sort_rank s) rest

abbrev pub Begun : ℕ → Sort → List Placed → Type 0
Begun l s p = (q : List Placed) × (t : Tree) × Derives l s (p ++ q) t

abbrev pub stance : (l : ℕ) (s : Sort) → Below l (sort_rank s) → State
stance l s i = start s (class s) i.frames

abbrev pub Fault_of : ℕ → ℕ → Sort → List Tok → Fault → Type 0
Fault_of m l s ts e = Fails m (Begun l s) (Below l (sort_rank s)) (stance l s) ts e

-- ---- a type

pub record GotTy (m l : ℕ) (w : TypeSort) (ts : List Tok) (a : TyTree) (rest : List Tok) : Type 0 where
  pub room : l ≤ m
  pub placed : List Placed
  pub derived : IsType l w placed a
  pub within : Within m placed
  pub tokens : ts ≡ put placed rest
  pub ends : EndsTy w rest

abbrev pub BegunTy : ℕ → TypeSort → List Placed → Type 0
BegunTy l w p = (q : List Placed) × (a : TyTree) × IsType l w (p ++ q) a

abbrev pub stance_ty : (l : ℕ) → Below l 0 → State
stance_ty l i = WantTy i.frames

abbrev pub Fault_of_ty : ℕ → ℕ → TypeSort → List Tok → Fault → Type 0
Fault_of_ty m l w ts e = Fails m (BegunTy l w) (Below l 0) (stance_ty l) ts e

-- ---- the assumptions of a goal

-- where the assumptions of a goal go on: behind a term of it
pub record InGoalAt : Type 0 where
  pub stage : Stage
  pub tree : Tree
  pub before : List Item

abbrev pub in_goal : InGoalAt → State
in_goal i = Have i.tree (InGoal i.stage i.before ∷ [])

abbrev pub BegunHyps : List Placed → Type 0
BegunHyps p = (q : List Placed) × (hs : List Hyp) × AreHyps (p ++ q) hs

abbrev pub Fault_of_hyps : ℕ → List Tok → Fault → Type 0
Fault_of_hyps m ts e = Fails m BegunHyps InGoalAt in_goal ts e

-- one assumption
pub record GotHyp (m : ℕ) (ts : List Tok) (h : Hyp) (rest : List Tok) : Type 0 where
  pub placed : List Placed
  pub within : Within m placed
  pub tokens : ts ≡ put placed rest
  pub ends : Ends 6 rest
  pub shorter : length rest < length ts
  pub joins : (q : List Placed) (hs : List Hyp) → AreHyps q hs → AreHyps (placed ++ q) (h ∷ hs)
  pub walks : (i : InGoalAt) → run (in_goal i) ts ≡ goes placed (run (Have h.tree (InGoal (Side (staged i.stage i.tree) h.name) i.before ∷ [])) rest)

-- the goal with these assumptions behind its own
abbrev pub supposing : OpenGoal → List Hyp → OpenGoal
supposing g hs = record { name = g.name; tree = g.tree; hyps = g.hyps ++ hs }

-- assumptions in a row
pub record GotHyps (m : ℕ) (ts : List Tok) (hs : List Hyp) (rest : List Tok) : Type 0 where
  pub placed : List Placed
  pub within : Within m placed
  pub tokens : ts ≡ put placed rest
  pub ends : Ends 6 rest
  pub joins : (q : List Placed) (more : List Hyp) → AreHyps q more → AreHyps (placed ++ q) (hs ++ more)
  pub stage : InGoalAt → Stage
  pub last : InGoalAt → Tree
  pub is_staged : (i : InGoalAt) → staged (stage i) (last i) ≡ supposing (staged i.stage i.tree) hs
  pub walks : (i : InGoalAt) → run (in_goal i) ts ≡ goes placed (run (Have (last i) (InGoal (stage i) i.before ∷ [])) rest)

-- ---- a declaration, and all declarations

pub record GotItem (m : ℕ) (ts : List Tok) (d : Item) (rest : List Tok) : Type 0 where
  pub placed : List Placed
  pub derived : Declares placed d
  pub within : Within m placed
  pub tokens : ts ≡ put placed rest
  pub shorter : length rest < length ts
  pub walks : (before : List Item) → run (Top before) ts ≡ goes placed (run (Top (before ++ d ∷ [])) rest)

abbrev pub Fault_of_item : ℕ → List Tok → Fault → Type 0
Fault_of_item m ts e = Fails m Begins (List Item) Top ts e

abbrev pub outset : Unit {0} → State
outset u = Top []

abbrev pub Fault_of_all : ℕ → List Tok → Fault → Type 0
Fault_of_all m ts e = Fails m Begins (Unit {0}) outset ts e

-- ---- the token at the front

abbrev pub IsNot : Tok → List Tok → Type 0
IsNot x ts = (rest : List Tok) → ts ≡ x ∷ rest → ⊥

-- this token stands at the front
abbrev pub Stands : Tok → List Tok → Type 0
Stands x ts = (rest : List Tok) × (ts ≡ x ∷ rest)

abbrev pub NoWord : List Tok → Type 0
NoWord ts = (x : Word) → IsNot (tok.Word x) ts

-- no operand starts so
abbrev pub NoOperand : List Tok → Type 0
NoOperand [] = Unit {0}
NoOperand (tok.Word x ∷ ts) = ⊥
NoOperand (tok.Truth b n ∷ ts) = ⊥
NoOperand (tok.Open n ∷ ts) = ⊥
NoOperand (tok.Tilde n ∷ ts) = ⊥
NoOperand (tok.Quant q n ∷ ts) = ⊥
NoOperand (_ ∷ ts) = Unit {0}

-- no atom starts so
abbrev pub NoAtom : List Tok → Type 0
NoAtom [] = Unit {0}
NoAtom (tok.Word x ∷ ts) = ⊥
NoAtom (tok.Truth b n ∷ ts) = ⊥
NoAtom (tok.Open n ∷ ts) = ⊥
NoAtom (_ ∷ ts) = Unit {0}

abbrev pub StartsAtom : List Tok → Type 0
StartsAtom [] = ⊥
StartsAtom (tok.Word x ∷ ts) = Unit {0}
StartsAtom (tok.Truth b n ∷ ts) = Unit {0}
StartsAtom (tok.Open n ∷ ts) = Unit {0}
StartsAtom (_ ∷ ts) = ⊥

-- no type starts so
abbrev pub NoType : List Tok → Type 0
NoType [] = Unit {0}
NoType (tok.Word x ∷ ts) = ⊥
NoType (tok.Bool ∷ ts) = ⊥
NoType (tok.Open n ∷ ts) = ⊥
NoType (_ ∷ ts) = Unit {0}

-- no declaration starts so
abbrev pub NoItem : List Tok → Type 0
NoItem [] = Unit {0}
NoItem (tok.Type ∷ ts) = ⊥
NoItem (tok.Const ∷ ts) = ⊥
NoItem (tok.Fact ∷ ts) = ⊥
NoItem (tok.Goal ∷ ts) = ⊥
NoItem (_ ∷ ts) = Unit {0}
