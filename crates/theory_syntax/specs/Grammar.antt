-- The grammar of theory files: one constructor for each form of a rule. Each token is written with the level at which it
-- stands: what stands in brackets, behind a binder's dot, behind `~`, and on the right of `==>`, `|`, `&`, `->` is one deeper.
use Rattle.std.specs.Prelude.{ℕ, ◌+◌, Bool, List, [], ◌∷◌, ◌++◌}
use Rattle.first_fault.specs.Levels as levels
use Rattle.theory_syntax.specs.declared.tokens.Word.{Word}
use Rattle.theory_syntax.specs.declared.tokens.Quant.{Quant}
use Rattle.theory_syntax.specs.declared.tokens.Tok.{Tok}
use Rattle.theory_syntax.specs.declared.tokens.Tok.TheVariants as tok
use Rattle.theory_syntax.specs.declared.tree.Op.{Op}
use Rattle.theory_syntax.specs.declared.tree.Op.TheVariants as op
use Rattle.theory_syntax.specs.declared.tree.TyTree.{TyTree}
use Rattle.theory_syntax.specs.declared.tree.TyTree.TheVariants as ty
use Rattle.theory_syntax.specs.declared.tree.Tree.{Tree, out-Tree}
use Rattle.theory_syntax.specs.declared.tree.Tree.TheOpen.{Tree-F}
use Rattle.theory_syntax.specs.declared.tree.Tree.TheVariants as tree
use Rattle.theory_syntax.specs.declared.tree.Hyp.{Hyp}
use Rattle.theory_syntax.specs.declared.tree.Item.{Item}
use Rattle.theory_syntax.specs.declared.tree.Item.TheVariants as item

-- a token with its level
abbrev pub Placed : Type 0
Placed = levels.Placed Tok

abbrev pub at : ℕ → Tok → Placed
at l x = record { tok = x; level = l }

-- ---- types

-- `Whole`: an arrow may stand outside brackets
pub data TypeSort : Type 0 where
  Whole : TypeSort
  Single : TypeSort

-- `IsType l s ps t`: the tokens `ps` are derivable as a type of this sort that stands at level `l`, and read as `t`
pub data IsType : ℕ → TypeSort → List Placed → TyTree → Type 0 where
  truth : {l : ℕ} → IsType l Single (at l tok.Bool ∷ []) ty.Bool
  base : {l : ℕ} {x : Word} → IsType l Single (at l (tok.Word x) ∷ []) (ty.Named x)
  bracket : {l n : ℕ} {p : List Placed} {a : TyTree} → IsType (l + 1) Whole p a →
      IsType l Single (at l (tok.Open n) ∷ p ++ at (l + 1) tok.Close ∷ []) a
  single : {l : ℕ} {p : List Placed} {a : TyTree} → IsType l Single p a → IsType l Whole p a
  arrow : {l : ℕ} {p q : List Placed} {a b : TyTree} → IsType l Single p a → IsType (l + 1) Whole q b →
      IsType l Whole (p ++ at l tok.Arrow ∷ q) (ty.Arrow a b)

-- ---- terms

-- a head with its arguments, and one argument more
abbrev pub extend_at : Tree-F Tree → Tree → Tree → Tree
extend_at (Tree-F.Apply f xs) t x = tree.Apply f (xs ++ x ∷ [])
extend_at _ t x = tree.Apply t (x ∷ [])

abbrev pub extend : Tree → Tree → Tree
extend t x = extend_at (out-Tree t) t x

-- `Chain` of a sign is the rule that has the sign; `Args f` is what stands behind the head `f`, its arguments so far included
pub data Sort : Type 0 where
  Formula : Sort
  Chain : Op → Sort
  Neg : Sort
  Eq : Sort
  App : Sort
  Args : Tree → Sort
  Atom : Sort

abbrev pub sign : Op → Tok
sign op.Imp = tok.Imp
sign op.Or = tok.Bar
sign op.And = tok.Amp

-- what stands on the left of a sign, and on its right
abbrev pub lower : Op → Sort
lower op.Imp = Chain op.Or
lower op.Or = Chain op.And
lower op.And = Neg

abbrev pub right : Op → Sort
right op.Imp = Formula
right op.Or = Chain op.Or
right op.And = Chain op.And

-- `Derives l s ps t`: the tokens `ps` are derivable from `s` where `s` stands at level `l`, and read as `t`
pub data Derives : ℕ → Sort → List Placed → Tree → Type 0 where
  bind : {l n : ℕ} {k : Quant} {x : Word} {p q : List Placed} {a : TyTree} {b : Tree} → IsType l Whole p a → Derives (l + 1) Formula q b →
      Derives l Formula (at l (tok.Quant k n) ∷ at l (tok.Word x) ∷ at l tok.Colon ∷ p ++ at l tok.Dot ∷ q) (tree.Bind k n x a b)
  plain : {l : ℕ} {p : List Placed} {t : Tree} → Derives l (Chain op.Imp) p t → Derives l Formula p t
  one : {l : ℕ} {o : Op} {p : List Placed} {t : Tree} → Derives l (lower o) p t → Derives l (Chain o) p t
  more : {l : ℕ} {o : Op} {p q : List Placed} {a b : Tree} → Derives l (lower o) p a → Derives (l + 1) (right o) q b →
      Derives l (Chain o) (p ++ at l (sign o) ∷ q) (tree.Join o a b)
  not : {l n : ℕ} {p : List Placed} {t : Tree} → Derives (l + 1) Neg p t → Derives l Neg (at l (tok.Tilde n) ∷ p) (tree.Not n t)
  same : {l : ℕ} {p : List Placed} {t : Tree} → Derives l Eq p t → Derives l Neg p t
  side : {l : ℕ} {p : List Placed} {t : Tree} → Derives l App p t → Derives l Eq p t
  sides : {l : ℕ} {p q : List Placed} {a b : Tree} → Derives l App p a → Derives l App q b →
      Derives l Eq (p ++ at l tok.Equal ∷ q) (tree.Equals a b)
  head : {l : ℕ} {p q : List Placed} {f t : Tree} → Derives l Atom p f → Derives l (Args f) q t → Derives l App (p ++ q) t
  none : {l : ℕ} {f : Tree} → Derives l (Args f) [] f
  arg : {l : ℕ} {f x t : Tree} {p q : List Placed} → Derives l Atom p x → Derives l (Args (extend f x)) q t →
      Derives l (Args f) (p ++ q) t
  name : {l : ℕ} {x : Word} → Derives l Atom (at l (tok.Word x) ∷ []) (tree.Name x)
  truth : {l n : ℕ} {b : Bool} → Derives l Atom (at l (tok.Truth b n) ∷ []) (tree.Truth b n)
  round : {l n : ℕ} {p : List Placed} {t : Tree} → Derives (l + 1) Formula p t →
      Derives l Atom (at l (tok.Open n) ∷ p ++ at (l + 1) tok.Close ∷ []) (tree.Round n t)

-- ---- declarations

-- the assumptions of a goal
pub data AreHyps : List Placed → List Hyp → Type 0 where
  no_hyp : AreHyps [] []
  hyp : {x : Word} {p q : List Placed} {t : Tree} {hs : List Hyp} → Derives 0 Formula p t → AreHyps q hs →
      AreHyps (at 0 tok.Assume ∷ at 0 (tok.Word x) ∷ at 0 tok.Colon ∷ p ++ q) (record { name = x; tree = t } ∷ hs)

pub data Declares : List Placed → Item → Type 0 where
  a_type : {x : Word} → Declares (at 0 tok.Type ∷ at 0 (tok.Word x) ∷ at 0 tok.Semi ∷ []) (item.Type x)
  a_const : {x : Word} {p : List Placed} {a : TyTree} → IsType 0 Whole p a →
      Declares (at 0 tok.Const ∷ at 0 (tok.Word x) ∷ at 0 tok.Colon ∷ p ++ at 0 tok.Semi ∷ []) (item.Const x a)
  a_fact : {x : Word} {p : List Placed} {t : Tree} → Derives 0 Formula p t →
      Declares (at 0 tok.Fact ∷ at 0 (tok.Word x) ∷ at 0 tok.Colon ∷ p ++ at 0 tok.Semi ∷ []) (item.Fact x t)
  a_goal : {x : Word} {p q : List Placed} {t : Tree} {hs : List Hyp} → Derives 0 Formula p t → AreHyps q hs →
      Declares (at 0 tok.Goal ∷ at 0 (tok.Word x) ∷ at 0 tok.Colon ∷ p ++ (q ++ at 0 tok.Semi ∷ [])) (item.Goal x t hs)

-- a whole file: declarations in a row
pub data IsTheory : List Placed → List Item → Type 0 where
  empty : IsTheory [] []
  decl : {p q : List Placed} {d : Item} {ds : List Item} → Declares p d → IsTheory q ds → IsTheory (p ++ q) (d ∷ ds)
