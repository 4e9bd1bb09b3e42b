-- What may come next, token after token: a walk over the tokens with a list of open frames. Proofs alone are by it.
use Rattle.std.specs.Prelude.{◌≡◌, ℕ, ◌+◌, ◌≤◌, ◌<◌, List, [], ◌∷◌, ◌++◌, Option, Some, None, if◌then◌else◌, nat_le}
use Rattle.first_fault.specs.Walk as walk
pub use Rattle.first_fault.specs.Levels.{put}
pub use Rattle.first_fault.specs.Walk.{goes, after, Done, Stuck, Goes}
use Rattle.theory_syntax.specs.declared.tokens.Word.{Word}
use Rattle.theory_syntax.specs.declared.tokens.Quant.{Quant}
use Rattle.theory_syntax.specs.declared.tokens.Tok.{Tok}
use Rattle.theory_syntax.specs.declared.tokens.Tok.TheVariants as tok
use Rattle.theory_syntax.specs.declared.tree.Op.{Op}
use Rattle.theory_syntax.specs.declared.tree.Op.TheVariants as op
use Rattle.theory_syntax.specs.declared.tree.TyTree.{TyTree}
use Rattle.theory_syntax.specs.declared.tree.TyTree.TheVariants as ty
use Rattle.theory_syntax.specs.declared.tree.Tree.{Tree}
use Rattle.theory_syntax.specs.declared.tree.Tree.TheVariants as tree
use Rattle.theory_syntax.specs.declared.tree.Hyp.{Hyp}
use Rattle.theory_syntax.specs.declared.tree.Item.{Item}
use Rattle.theory_syntax.specs.declared.tree.Item.TheVariants as item
use Rattle.theory_syntax.specs.Grammar.{Placed, Sort, Formula, Chain, Neg, Eq, App, Args, Atom, extend, TypeSort, Whole, Single}

-- a goal whose assumptions may go on
pub record OpenGoal : Type 0 where
  pub name : Word
  pub tree : Tree
  pub hyps : List Hyp

-- where in a goal a term stands: the goal's own, or an assumption's
pub data Stage : Type 0 where
  Main : Word → Stage
  Side : OpenGoal → Word → Stage

-- the goal with the term that stands there
abbrev pub staged : Stage → Tree → OpenGoal
staged (Main x) t = record { name = x; tree = t; hyps = [] }
staged (Side g y) t = record { name = g.name; tree = g.tree; hyps = g.hyps ++ record { name = y; tree = t } ∷ [] }

abbrev pub goal_of : OpenGoal → Item
goal_of g = item.Goal g.name g.tree g.hyps

-- the declarations with a name and a colon
pub data Stated : Type 0 where
  Const : Stated
  Fact : Stated
  Goal : Stated

-- what is open, the innermost first: a part whose right end has not come
pub data Frame : Type 0 where
  Head : Tree → Frame
  Left : Tree → Frame
  Not : ℕ → Frame
  Join : Op → Tree → Frame
  Bind : Quant → ℕ → Word → TyTree → Frame
  Round : ℕ → Frame
  Typed : Quant → ℕ → Word → Frame
  Arrow : TyTree → Frame
  Bracket : Frame
  InConst : Word → List Item → Frame
  InFact : Word → List Item → Frame
  InGoal : Stage → List Item → Frame

abbrev pub op_rank : Op → ℕ
op_rank op.And = 4
op_rank op.Or = 5
op_rank op.Imp = 6

-- a frame goes on over the tokens whose rank is no greater
abbrev pub frame_rank : Frame → ℕ
frame_rank (Head f) = 0
frame_rank (Left a) = 2
frame_rank (Not n) = 3
frame_rank (Join o a) = op_rank o
frame_rank (Bind q n x a) = 6
frame_rank _ = 9

abbrev pub rank : Tok → ℕ
rank (tok.Word x) = 1
rank (tok.Truth b n) = 1
rank (tok.Open n) = 1
rank tok.Equal = 2
rank tok.Amp = 4
rank tok.Bar = 5
rank tok.Imp = 6
rank _ = 7

abbrev pub sort_rank : Sort → ℕ
sort_rank Formula = 6
sort_rank (Chain o) = op_rank o
sort_rank Neg = 3
sort_rank Eq = 3
sort_rank App = 1
sort_rank (Args f) = 1
sort_rank Atom = 0

-- 2: any operand, 1: one without a binder, 0: an atom
abbrev pub class : Sort → ℕ
class Formula = 2
class (Chain o) = 1
class Neg = 1
class Eq = 0
class App = 0
class (Args f) = 0
class Atom = 0

abbrev pub frame_level : Frame → ℕ
frame_level (Head f) = 0
frame_level (Left a) = 0
frame_level (Not n) = 1
frame_level (Join o a) = 1
frame_level (Bind q n x a) = 1
frame_level (Round n) = 1
frame_level (Typed q n x) = 0
frame_level (Arrow a) = 1
frame_level Bracket = 1
frame_level (InConst x ds) = 0
frame_level (InFact x ds) = 0
frame_level (InGoal s ds) = 0

abbrev pub level : List Frame → ℕ
level [] = 0
level (f ∷ k) = level k + frame_level f

abbrev pub top_rank : List Frame → ℕ
top_rank [] = 6
top_rank (f ∷ k) = frame_rank f

abbrev pub fill : Frame → Tree → Tree
fill (Head f) t = extend f t
fill (Left a) t = tree.Equals a t
fill (Not n) t = tree.Not n t
fill (Join o a) t = tree.Join o a t
fill (Bind q n x a) t = tree.Bind q n x a t
fill _ t = t

pub data State : Type 0 where
  Want : ℕ → List Frame → State
  Name : Quant → ℕ → List Frame → State
  Colon : Quant → ℕ → Word → List Frame → State
  WantTy : List Frame → State
  HaveTy : TyTree → List Frame → State
  Have : Tree → List Frame → State
  Top : List Item → State
  TypeName : List Item → State
  TypeEnd : Word → List Item → State
  ItemName : Stated → List Item → State
  ItemColon : Stated → Word → List Item → State
  HypName : OpenGoal → List Item → State
  HypColon : OpenGoal → Word → List Item → State

-- a term and the frames that stay open when all that end before a token are closed
pub record Closed : Type 0 where
  pub tree : Tree
  pub frames : List Frame

abbrev pub reduce : ℕ → Tree → List Frame → Closed
reduce r t [] = record { tree = t; frames = [] }
reduce r t (f ∷ k) = if nat_le r (frame_rank f) then record { tree = t; frames = f ∷ k } else reduce r (fill f t) k

abbrev pub Step : Type 0
Step = walk.Step State

abbrev pub to : List Frame → State → Option Step
to k s = Some (record { level = level k; state = s })

abbrev pub outside : State → Option Step
outside s = Some (record { level = 0; state = s })

abbrev pub close : Tree → List Frame → Option Step
close t (Round n ∷ k) = to (Round n ∷ k) (Have (tree.Round n t) k)
close t _ = None

abbrev pub semi : Tree → List Frame → Option Step
semi t (InFact x ds ∷ k) = outside (Top (ds ++ item.Fact x t ∷ []))
semi t (InGoal s ds ∷ k) = outside (Top (ds ++ goal_of (staged s t) ∷ []))
semi t _ = None

abbrev pub assume : Tree → List Frame → Option Step
assume t (InGoal s ds ∷ k) = outside (HypName (staged s t) ds)
assume t _ = None

abbrev pub shift : Tok → Tree → List Frame → Option Step
shift (tok.Word y) t k = to k (Have (tree.Name y) (Head t ∷ k))
shift (tok.Truth b n) t k = to k (Have (tree.Truth b n) (Head t ∷ k))
shift (tok.Open n) t k = to k (Want 2 (Round n ∷ Head t ∷ k))
shift tok.Equal t k = if nat_le 3 (top_rank k) then to k (Want 0 (Left t ∷ k)) else None
shift tok.Amp t k = to k (Want 1 (Join op.And t ∷ k))
shift tok.Bar t k = to k (Want 1 (Join op.Or t ∷ k))
shift tok.Imp t k = to k (Want 2 (Join op.Imp t ∷ k))
shift tok.Close t k = close t k
shift tok.Semi t k = semi t k
shift tok.Assume t k = assume t k
shift _ t k = None

abbrev pub want : ℕ → List Frame → Tok → Option Step
want c k (tok.Word x) = to k (Have (tree.Name x) k)
want c k (tok.Truth b n) = to k (Have (tree.Truth b n) k)
want c k (tok.Open n) = to k (Want 2 (Round n ∷ k))
want c k (tok.Tilde n) = if nat_le 1 c then to k (Want 1 (Not n ∷ k)) else None
want c k (tok.Quant q n) = if nat_le 2 c then to k (Name q n k) else None
want c k _ = None

abbrev pub name : Quant → ℕ → List Frame → Tok → Option Step
name q n k (tok.Word x) = to k (Colon q n x k)
name q n k _ = None

abbrev pub colon : Quant → ℕ → Word → List Frame → Tok → Option Step
colon q n x k tok.Colon = to k (WantTy (Typed q n x ∷ k))
colon q n x k _ = None

abbrev pub want_ty : List Frame → Tok → Option Step
want_ty k (tok.Word a) = to k (HaveTy (ty.Named a) k)
want_ty k tok.Bool = to k (HaveTy ty.Bool k)
want_ty k (tok.Open n) = to k (WantTy (Bracket ∷ k))
want_ty k _ = None

-- a type and the frames that stay open when the arrows that end here are closed
pub record ClosedTy : Type 0 where
  pub type : TyTree
  pub frames : List Frame

abbrev pub reduce_ty : TyTree → List Frame → ClosedTy
reduce_ty b (Arrow a ∷ k) = reduce_ty (ty.Arrow a b) k
reduce_ty b k = record { type = b; frames = k }

abbrev pub close_ty : TyTree → List Frame → Option Step
close_ty a (Bracket ∷ k) = to (Bracket ∷ k) (HaveTy a k)
close_ty a _ = None

abbrev pub dot : TyTree → List Frame → Option Step
dot a (Typed q n x ∷ k) = to k (Want 2 (Bind q n x a ∷ k))
dot a _ = None

abbrev pub semi_ty : TyTree → List Frame → Option Step
semi_ty a (InConst x ds ∷ k) = outside (Top (ds ++ item.Const x a ∷ []))
semi_ty a _ = None

abbrev pub have_ty : TyTree → List Frame → Tok → Option Step
have_ty a k tok.Arrow = to k (WantTy (Arrow a ∷ k))
have_ty a k tok.Close = let c = reduce_ty a k in close_ty c.type c.frames
have_ty a k tok.Dot = let c = reduce_ty a k in dot c.type c.frames
have_ty a k tok.Semi = let c = reduce_ty a k in semi_ty c.type c.frames
have_ty a k _ = None

abbrev pub top : List Item → Tok → Option Step
top ds tok.Type = outside (TypeName ds)
top ds tok.Const = outside (ItemName Const ds)
top ds tok.Fact = outside (ItemName Fact ds)
top ds tok.Goal = outside (ItemName Goal ds)
top ds _ = None

abbrev pub type_name : List Item → Tok → Option Step
type_name ds (tok.Word x) = outside (TypeEnd x ds)
type_name ds _ = None

abbrev pub type_end : Word → List Item → Tok → Option Step
type_end x ds tok.Semi = outside (Top (ds ++ item.Type x ∷ []))
type_end x ds _ = None

abbrev pub item_name : Stated → List Item → Tok → Option Step
item_name k ds (tok.Word x) = outside (ItemColon k x ds)
item_name k ds _ = None

-- the state in which what is stated is wanted
abbrev pub body : Stated → Word → List Item → State
body Const x ds = WantTy (InConst x ds ∷ [])
body Fact x ds = Want 2 (InFact x ds ∷ [])
body Goal x ds = Want 2 (InGoal (Main x) ds ∷ [])

abbrev pub item_colon : Stated → Word → List Item → Tok → Option Step
item_colon k x ds tok.Colon = outside (body k x ds)
item_colon k x ds _ = None

abbrev pub hyp_name : OpenGoal → List Item → Tok → Option Step
hyp_name g ds (tok.Word y) = outside (HypColon g y ds)
hyp_name g ds _ = None

abbrev pub hyp_colon : OpenGoal → Word → List Item → Tok → Option Step
hyp_colon g y ds tok.Colon = outside (Want 2 (InGoal (Side g y) ds ∷ []))
hyp_colon g y ds _ = None

abbrev pub shifted : Tok → Closed → Option Step
shifted x c = shift x c.tree c.frames

abbrev pub step : State → Tok → Option Step
step (Want c k) x = want c k x
step (Name q n k) x = name q n k x
step (Colon q n y k) x = colon q n y k x
step (WantTy k) x = want_ty k x
step (HaveTy a k) x = have_ty a k x
step (Have t k) x = shifted x (reduce (rank x) t k)
step (Top ds) x = top ds x
step (TypeName ds) x = type_name ds x
step (TypeEnd y ds) x = type_end y ds x
step (ItemName k ds) x = item_name k ds x
step (ItemColon k y ds) x = item_colon k y ds x
step (HypName g ds) x = hyp_name g ds x
step (HypColon g y ds) x = hyp_colon g y ds x

abbrev pub accepted : State → Option (List Item)
accepted (Top ds) = Some ds
accepted _ = None

abbrev pub Run : Type 0
Run = walk.Run (List Item)

abbrev pub run : State → List Tok → Run
run s xs = walk.run step accepted s xs

-- no token comes that a part of this rank goes on with
abbrev pub Ends : ℕ → List Tok → Type 0
Ends r [] = Unit {0}
Ends r (x ∷ xs) = r < rank x

abbrev pub start : Sort → ℕ → List Frame → State
start (Args f) c k = Have f k
start _ c k = Want c k

-- the tokens of a part are taken at their levels, wherever the part is wanted
abbrev pub Runs : ℕ → Sort → List Placed → Tree → Type 0
Runs l s p t = (c : ℕ) (k : List Frame) (rest : List Tok) → class s ≤ c → level k ≡ l → sort_rank s ≤ top_rank k → Ends (sort_rank s) rest →
    run (start s c k) (put p rest) ≡ goes p (run (Have t k) rest)

abbrev pub EndsTy : TypeSort → List Tok → Type 0
EndsTy Single xs = Unit {0}
EndsTy Whole [] = Unit {0}
EndsTy Whole (tok.Arrow ∷ xs) = ⊥
EndsTy Whole (_ ∷ xs) = Unit {0}

abbrev pub RunsTy : ℕ → TypeSort → List Placed → TyTree → Type 0
RunsTy l w p a = (k : List Frame) (rest : List Tok) → level k ≡ l → EndsTy w rest →
    run (WantTy k) (put p rest) ≡ goes p (run (HaveTy a k) rest)
