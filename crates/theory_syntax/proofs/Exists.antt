-- Each list of tokens has an answer: the readers' ways out, joined without a program.
use Rattle.std.proofs.Common.{◌≡◌, ℕ, zero, suc, ◌+◌, ◌-◌, ◌*◌, ◌≤◌, ◌<◌, List, [], ◌∷◌, ◌++◌, length, inl, inr, ◌⊎◌, refl, ap, ◌∙◌, arith}
use Rattle.std.proofs.lemmas.Bool.{cases_lt}
use Rattle.first_fault.specs.declared.fault.Fault.{Fault}
use Rattle.first_fault.specs.declared.fault.Fault.TheVariants as fault
use Rattle.theory_syntax.specs.declared.tokens.Word.{Word}
use Rattle.theory_syntax.specs.declared.tokens.Quant.{Quant}
use Rattle.theory_syntax.specs.declared.tokens.Tok.{Tok}
use Rattle.theory_syntax.specs.declared.tokens.Tok.TheVariants as tok
use Rattle.theory_syntax.specs.declared.tree.Op.{Op}
use Rattle.theory_syntax.specs.declared.tree.Op.TheVariants as op
use Rattle.theory_syntax.specs.declared.tree.TyTree.{TyTree}
use Rattle.theory_syntax.specs.declared.tree.Tree.{Tree}
use Rattle.theory_syntax.specs.declared.tree.Hyp.{Hyp}
use Rattle.theory_syntax.specs.declared.tree.Item.{Item}
use Rattle.theory_syntax.specs.declared.front.Heading.{Heading}
use Rattle.theory_syntax.specs.declared.front.Heading.TheVariants as heading
use Rattle.theory_syntax.specs.declared.term_reader.Part.{Part}
use Rattle.theory_syntax.specs.declared.term_reader.Part.TheVariants as part
use Rattle.theory_syntax.specs.Grammar.{Sort, Formula, Chain, Neg, Eq, App, Args, Atom, sign, lower, right, TypeSort, Whole, Single}
use Rattle.theory_syntax.specs.inner.Front.{opening}
use Rattle.theory_syntax.specs.inner.Parts.{Got, Fault_of, GotTy, Fault_of_ty, GotHyp, GotHyps, Fault_of_hyps, GotItem, Fault_of_item, Fault_of_all, IsNot, NoWord, NoAtom, StartsAtom}
use Rattle.theory_syntax.specs.inner.Part.{sort_of}
use Rattle.theory_syntax.specs.Reading.{Answer, Text, Syntax, TooDeep, IsAnswer}
use Rattle.theory_syntax.proofs.TypePieces as types
use Rattle.theory_syntax.proofs.TermPieces as terms
use Rattle.theory_syntax.proofs.DeepPieces as deep
use Rattle.theory_syntax.proofs.HypPieces as hyps
use Rattle.theory_syntax.proofs.TextPieces as texts
use Rattle.theory_syntax.proofs.ItemPieces as items
use Rattle.theory_syntax.proofs.Places as places

-- ---- the token at the front

abbrev Front : Tok → List Tok → Type 0
Front x us = ((rest : List Tok) × (us ≡ x ∷ rest)) ⊎ IsNot x us

close : (us : List Tok) → Front tok.Close us
close [] = inr (λ r e. cc)
close (tok.Close ∷ us) = inl (us, refl)
close (_ ∷ us) = inr (λ r e. cc)

dot : (us : List Tok) → Front tok.Dot us
dot [] = inr (λ r e. cc)
dot (tok.Dot ∷ us) = inl (us, refl)
dot (_ ∷ us) = inr (λ r e. cc)

colon : (us : List Tok) → Front tok.Colon us
colon [] = inr (λ r e. cc)
colon (tok.Colon ∷ us) = inl (us, refl)
colon (_ ∷ us) = inr (λ r e. cc)

semi : (us : List Tok) → Front tok.Semi us
semi [] = inr (λ r e. cc)
semi (tok.Semi ∷ us) = inl (us, refl)
semi (_ ∷ us) = inr (λ r e. cc)

assume : (us : List Tok) → Front tok.Assume us
assume [] = inr (λ r e. cc)
assume (tok.Assume ∷ us) = inl (us, refl)
assume (_ ∷ us) = inr (λ r e. cc)

arrow : (us : List Tok) → Front tok.Arrow us
arrow [] = inr (λ r e. cc)
arrow (tok.Arrow ∷ us) = inl (us, refl)
arrow (_ ∷ us) = inr (λ r e. cc)

equal : (us : List Tok) → Front tok.Equal us
equal [] = inr (λ r e. cc)
equal (tok.Equal ∷ us) = inl (us, refl)
equal (_ ∷ us) = inr (λ r e. cc)

tilde : (us : List Tok) → ((n : ℕ) × (rest : List Tok) × (us ≡ tok.Tilde n ∷ rest)) ⊎ ((n : ℕ) → IsNot (tok.Tilde n) us)
tilde [] = inr (λ n r e. cc)
tilde (tok.Tilde n ∷ us) = inl (n, us, refl)
tilde (_ ∷ us) = inr (λ n r e. cc)

quant : (us : List Tok) → ((q : Quant) × (n : ℕ) × (rest : List Tok) × (us ≡ tok.Quant q n ∷ rest)) ⊎ ((q : Quant) (n : ℕ) → IsNot (tok.Quant q n) us)
quant [] = inr (λ q n r e. cc)
quant (tok.Quant q n ∷ us) = inl (q, n, us, refl)
quant (_ ∷ us) = inr (λ q n r e. cc)

signed : (o : Op) (us : List Tok) → Front (sign o) us
signed op.And [] = inr (λ r e. cc)
signed op.Or [] = inr (λ r e. cc)
signed op.Imp [] = inr (λ r e. cc)
signed op.And (tok.Amp ∷ us) = inl (us, refl)
signed op.Or (tok.Bar ∷ us) = inl (us, refl)
signed op.Imp (tok.Imp ∷ us) = inl (us, refl)
signed op.And (_ ∷ us) = inr (λ r e. cc)
signed op.Or (_ ∷ us) = inr (λ r e. cc)
signed op.Imp (_ ∷ us) = inr (λ r e. cc)

naming : (us : List Tok) → ((x : Word) × (rest : List Tok) × (us ≡ tok.Word x ∷ rest)) ⊎ NoWord us
naming [] = inr (λ x r e. cc)
naming (tok.Word x ∷ us) = inl (x, us, refl)
naming (_ ∷ us) = inr (λ x r e. cc)

atomic : (us : List Tok) → StartsAtom us ⊎ NoAtom us
atomic [] = inr tt
atomic (tok.Word x ∷ us) = inl tt
atomic (tok.Truth b n ∷ us) = inl tt
atomic (tok.Open n ∷ us) = inl tt
atomic (_ ∷ us) = inr tt

-- ---- a part is read, or has a fault that is no want of memory

abbrev IsPlain : Fault → Type 0
IsPlain (fault.Syntax n) = Unit {0}
IsPlain (fault.TooDeep n) = Unit {0}
IsPlain fault.NoMemory = ⊥

abbrev Settles : ℕ → ℕ → Sort → List Tok → Type 0
Settles m l s ts = ((t : Tree) × (rest : List Tok) × Got m l s ts t rest) ⊎ ((e : Fault) × IsPlain e × Fault_of m l s ts e)

abbrev SettlesTy : ℕ → ℕ → TypeSort → List Tok → Type 0
SettlesTy m l w ts = ((a : TyTree) × (rest : List Tok) × GotTy m l w ts a rest) ⊎ ((e : Fault) × IsPlain e × Fault_of_ty m l w ts e)

-- ---- types

abbrev ty_rank : TypeSort → ℕ
ty_rank Single = 1
ty_rank Whole = 2

abbrev BelowTy : ℕ → ℕ → TypeSort → Type 0
BelowTy m l w = (v : TypeSort) (k : ℕ) (us : List Tok) → k ≤ m → 4 * (m - k) + ty_rank v < 4 * (m - l) + ty_rank w → SettlesTy m k v us

beyond_ty : (m l : ℕ) (ts : List Tok) → m < l → SettlesTy m l Whole ts
beyond_ty m l [] above = inr (fault.Syntax 0, tt, types.single_fails m l [] (fault.Syntax 0) (types.none m l [] tt))
beyond_ty m l (tok.Word x ∷ us) above = inr (fault.TooDeep (length (tok.Word x ∷ us)), tt, types.too_deep_name m l (tok.Word x ∷ us) x us above refl)
beyond_ty m l (tok.Bool ∷ us) above = inr (fault.TooDeep (length (tok.Bool ∷ us)), tt, types.too_deep_truth m l (tok.Bool ∷ us) us above refl)
beyond_ty m l (tok.Open n ∷ us) above = inr (fault.TooDeep (length (tok.Open n ∷ us)), tt, types.too_deep_open m l (tok.Open n ∷ us) n us above refl)
beyond_ty m l (x ∷ us) above = inr (fault.Syntax (length (x ∷ us)), tt, types.single_fails m l (x ∷ us) (fault.Syntax (length (x ∷ us))) (types.none m l (x ∷ us) tt))

deeper_ty : (m l : ℕ) (w : TypeSort) (ts : List Tok) → l ≤ m → BelowTy m l w → SettlesTy m (l + 1) Whole ts
deeper_ty m l Single ts room ih = elim (cases_lt l m) [ inl less ↦ ih Whole (l + 1) ts (omega arith) (omega arith) | inr full ↦ beyond_ty m (l + 1) ts (omega arith) ]
deeper_ty m l Whole ts room ih = elim (cases_lt l m) [ inl less ↦ ih Whole (l + 1) ts (omega arith) (omega arith) | inr full ↦ beyond_ty m (l + 1) ts (omega arith) ]

one_ty : (m l : ℕ) (ts : List Tok) → l ≤ m → BelowTy m l Single → SettlesTy m l Single ts
one_ty m l [] room ih = inr (fault.Syntax 0, tt, types.none m l [] tt)
one_ty m l (tok.Word x ∷ us) room ih = inl (_, us, types.name m l (tok.Word x ∷ us) x us room refl)
one_ty m l (tok.Bool ∷ us) room ih = inl (_, us, types.of_truth m l (tok.Bool ∷ us) us room refl)
one_ty m l (tok.Open n ∷ us) room ih = elim (deeper_ty m l Single us room ih) [
  | inl g ↦ elim (close g.1) [
    | inl c ↦ inl (g.0, c.0, types.closed m l (tok.Open n ∷ us) n us g.0 g.1 c.0 room refl g.2 c.1)
    | inr bad ↦ inr (fault.Syntax (length g.1), tt, types.unclosed m l (tok.Open n ∷ us) n us g.0 g.1 room refl g.2 bad)
  ]
  | inr h ↦ inr (h.0, h.1, types.open_fails m l (tok.Open n ∷ us) n us h.0 room refl h.2)
]
one_ty m l (x ∷ us) room ih = inr (fault.Syntax (length (x ∷ us)), tt, types.none m l (x ∷ us) tt)

whole_ty : (m l : ℕ) (ts : List Tok) → l ≤ m → BelowTy m l Whole → SettlesTy m l Whole ts
whole_ty m l ts room ih = elim (ih Single l ts room (omega arith)) [
  | inl g ↦ elim (arrow g.1) [
    | inl a ↦ elim (deeper_ty m l Whole a.0 room ih) [
      | inl h ↦ inl (_, h.1, types.both m l ts g.0 h.0 g.1 a.0 h.1 g.2 a.1 h.2)
      | inr h ↦ inr (h.0, h.1, types.right_fails m l ts g.0 g.1 a.0 h.0 g.2 a.1 h.2)
    ]
    | inr bad ↦ inl (g.0, g.1, types.alone m l ts g.0 g.1 g.2 bad)
  ]
  | inr h ↦ inr (h.0, h.1, types.single_fails m l ts h.0 h.2)
]

below_ty : (n m l : ℕ) (w : TypeSort) (ts : List Tok) → l ≤ m → 4 * (m - l) + ty_rank w < n → SettlesTy m l w ts
below_ty zero m l w ts room less = absurd (omega arith)
below_ty (suc n) m l Single ts room less = one_ty m l ts room (λ v k us r s. below_ty n m k v us r (omega arith))
below_ty (suc n) m l Whole ts room less = whole_ty m l ts room (λ v k us r s. below_ty n m k v us r (omega arith))

type_settles : (m l : ℕ) (ts : List Tok) → l ≤ m → SettlesTy m l Whole ts
type_settles m l ts room = below_ty (4 * (m - l) + 3) m l Whole ts room (omega arith)

-- ---- formulas

abbrev op_place : Op → ℕ
op_place op.And = 6
op_place op.Or = 7
op_place op.Imp = 8

abbrev place : Sort → ℕ
place Atom = 1
place (Args f) = 2
place App = 3
place Eq = 4
place Neg = 5
place (Chain o) = op_place o
place Formula = 9

place_low : (s : Sort) → place s < 10
place_low Atom = omega arith
place_low (Args f) = omega arith
place_low App = omega arith
place_low Eq = omega arith
place_low Neg = omega arith
place_low (Chain op.And) = omega arith
place_low (Chain op.Or) = omega arith
place_low (Chain op.Imp) = omega arith
place_low Formula = omega arith

lower_place : (o : Op) → place (lower o) < op_place o
lower_place op.And = omega arith
lower_place op.Or = omega arith
lower_place op.Imp = omega arith

abbrev Settled : ℕ → ℕ → Sort → Type 0
Settled m l s = (v : Sort) (k : ℕ) (us : List Tok) → k ≤ m → 10 * (m - k) + place v < 10 * (m - l) + place s → Settles m k v us

beyond : (m l : ℕ) (x : Part) (ts : List Tok) → m < l → Settles m l (sort_of x) ts
beyond m l x (tok.Word n ∷ us) above = inr (fault.TooDeep (length (tok.Word n ∷ us)), tt, deep.deep_name m l (tok.Word n ∷ us) x n us above refl)
beyond m l x (tok.Truth b n ∷ us) above = inr (fault.TooDeep (length (tok.Truth b n ∷ us)), tt, deep.deep_truth m l (tok.Truth b n ∷ us) x b n us above refl)
beyond m l x (tok.Open n ∷ us) above = inr (fault.TooDeep (length (tok.Open n ∷ us)), tt, deep.deep_open m l (tok.Open n ∷ us) x n us above refl)
beyond m l x (tok.Tilde n ∷ us) above = inr (fault.TooDeep (length (tok.Tilde n ∷ us)), tt, deep.deep_not m l (tok.Tilde n ∷ us) x n us above refl)
beyond m l part.Formula (tok.Quant q n ∷ us) above = inr (fault.TooDeep (length (tok.Quant q n ∷ us)), tt, deep.deep_bind m l (tok.Quant q n ∷ us) q n us above refl)
beyond m l (part.Chain o) (tok.Quant q n ∷ us) above = inr (fault.Syntax (length (tok.Quant q n ∷ us)), tt, deep.stops m l (tok.Quant q n ∷ us) (part.Chain o) (deep.no_binder_chain o (tok.Quant q n ∷ us) q n us refl))
beyond m l part.Neg (tok.Quant q n ∷ us) above = inr (fault.Syntax (length (tok.Quant q n ∷ us)), tt, deep.stops m l (tok.Quant q n ∷ us) part.Neg (deep.no_binder_neg (tok.Quant q n ∷ us) q n us refl))
beyond m l x [] above = inr (fault.Syntax 0, tt, deep.stops m l [] x (deep.no_operand x [] tt))
beyond m l x (y ∷ us) above = inr (fault.Syntax (length (y ∷ us)), tt, deep.stops m l (y ∷ us) x (deep.no_operand x (y ∷ us) tt))

deeper : (m l : ℕ) (s : Sort) (x : Part) (ts : List Tok) → l ≤ m → Settled m l s → Settles m (l + 1) (sort_of x) ts
deeper m l s x ts room ih =
    let low = place_low (sort_of x) in
    elim (cases_lt l m) [ inl less ↦ ih (sort_of x) (l + 1) ts (omega arith) (omega arith) | inr full ↦ beyond m (l + 1) x ts (omega arith) ]

atom : (m l : ℕ) (ts : List Tok) → l ≤ m → Settled m l Atom → Settles m l Atom ts
atom m l [] room ih = inr (fault.Syntax 0, tt, terms.no_atom m l [] tt)
atom m l (tok.Word x ∷ us) room ih = inl (_, us, terms.a_name m l (tok.Word x ∷ us) x us room refl)
atom m l (tok.Truth b n ∷ us) room ih = inl (_, us, terms.a_truth m l (tok.Truth b n ∷ us) b n us room refl)
atom m l (tok.Open n ∷ us) room ih = elim (deeper m l Atom part.Formula us room ih) [
  | inl g ↦ elim (close g.1) [
    | inl c ↦ inl (_, c.0, terms.closed m l (tok.Open n ∷ us) n us g.0 g.1 c.0 room refl g.2 c.1)
    | inr bad ↦ inr (fault.Syntax (length g.1), tt, terms.unclosed m l (tok.Open n ∷ us) n us g.0 g.1 room refl g.2 bad)
  ]
  | inr h ↦ inr (h.0, h.1, terms.open_fails m l (tok.Open n ∷ us) n us h.0 room refl h.2)
]
atom m l (x ∷ us) room ih = inr (fault.Syntax (length (x ∷ us)), tt, terms.no_atom m l (x ∷ us) tt)

args_loop : (n m l : ℕ) (f : Tree) (ts : List Tok) (t : Tree) (rest : List Tok) → l ≤ m → ((us : List Tok) → Settles m l Atom us) → length rest < n → terms.SoFar m l f ts t rest → Settles m l (Args f) ts
args_loop zero m l f ts t rest room atoms less s = absurd (omega arith)
args_loop (suc n) m l f ts t rest room atoms less s = elim (atomic rest) [
  | inl starts ↦ elim (atoms rest) [
    | inl g ↦ let short = terms.shorter m l rest g.0 g.1 g.2 in args_loop n m l f ts _ g.1 room atoms (omega arith) (terms.goes_on m l f ts t g.0 rest g.1 s g.2)
    | inr h ↦ inr (h.0, h.1, terms.arg_fails m l f ts t rest h.0 s starts h.2)
  ]
  | inr bad ↦ inl (t, rest, terms.args_end m l f ts t rest s bad)
]

app : (m l : ℕ) (ts : List Tok) → l ≤ m → Settled m l App → Settles m l App ts
app m l ts room ih = elim (ih Atom l ts room (omega arith)) [
  | inl g ↦ elim (ih (Args g.0) l g.1 room (omega arith)) [
    | inl h ↦ inl (h.0, h.1, terms.applied m l ts g.0 h.0 g.1 h.1 g.2 h.2)
    | inr h ↦ inr (h.0, h.1, terms.args_fail m l ts g.0 g.1 h.0 g.2 h.2)
  ]
  | inr h ↦ inr (h.0, h.1, terms.app_fails m l ts h.0 h.2)
]

eq : (m l : ℕ) (ts : List Tok) → l ≤ m → Settled m l Eq → Settles m l Eq ts
eq m l ts room ih = elim (ih App l ts room (omega arith)) [
  | inl g ↦ elim (equal g.1) [
    | inl a ↦ elim (ih App l a.0 room (omega arith)) [
      | inl h ↦ elim (equal h.1) [
        | inl b ↦ inr (fault.Syntax (length h.1), tt, terms.eq_again m l ts g.0 h.0 g.1 a.0 h.1 b.0 g.2 a.1 h.2 b.1)
        | inr bad ↦ inl (_, h.1, terms.eq_both m l ts g.0 h.0 g.1 a.0 h.1 g.2 a.1 h.2 bad)
      ]
      | inr h ↦ inr (h.0, h.1, terms.eq_right_fails m l ts g.0 g.1 a.0 h.0 g.2 a.1 h.2)
    ]
    | inr bad ↦ inl (g.0, g.1, terms.eq_alone m l ts g.0 g.1 g.2 bad)
  ]
  | inr h ↦ inr (h.0, h.1, terms.eq_fails m l ts h.0 h.2)
]

neg : (m l : ℕ) (ts : List Tok) → l ≤ m → Settled m l Neg → Settles m l Neg ts
neg m l ts room ih = elim (tilde ts) [
  | inl a ↦ elim (deeper m l Neg part.Neg a.1 room ih) [
    | inl g ↦ inl (_, g.1, terms.not_ok m l ts a.0 g.0 a.1 g.1 room a.2 g.2)
    | inr h ↦ inr (h.0, h.1, terms.not_fails m l ts a.0 a.1 h.0 room a.2 h.2)
  ]
  | inr bad ↦ elim (ih Eq l ts room (omega arith)) [
    | inl g ↦ inl (g.0, g.1, terms.same_ok m l ts g.0 g.1 g.2)
    | inr h ↦ inr (h.0, h.1, terms.same_fails m l ts h.0 bad h.2)
  ]
]

right_part : (m l : ℕ) (o : Op) (ts : List Tok) → l ≤ m → Settled m l (Chain o) → Settles m (l + 1) (right o) ts
right_part m l op.Imp ts room ih = deeper m l (Chain op.Imp) part.Formula ts room ih
right_part m l op.Or ts room ih = deeper m l (Chain op.Or) (part.Chain op.Or) ts room ih
right_part m l op.And ts room ih = deeper m l (Chain op.And) (part.Chain op.And) ts room ih

chain : (m l : ℕ) (o : Op) (ts : List Tok) → l ≤ m → Settled m l (Chain o) → Settles m l (Chain o) ts
chain m l o ts room ih = elim (ih (lower o) l ts room (let low = lower_place o in omega arith)) [
  | inl g ↦ elim (signed o g.1) [
    | inl a ↦ elim (right_part m l o a.0 room ih) [
      | inl h ↦ inl (_, h.1, terms.chain_both m l ts o g.0 h.0 g.1 a.0 h.1 g.2 a.1 h.2)
      | inr h ↦ inr (h.0, h.1, terms.chain_right_fails m l ts o g.0 g.1 a.0 h.0 g.2 a.1 h.2)
    ]
    | inr bad ↦ inl (g.0, g.1, terms.chain_alone m l ts o g.0 g.1 g.2 bad)
  ]
  | inr h ↦ inr (h.0, h.1, terms.chain_fails m l ts o h.0 h.2)
]

formula : (m l : ℕ) (ts : List Tok) → l ≤ m → Settled m l Formula → Settles m l Formula ts
formula m l ts room ih = elim (quant ts) [
  | inl q ↦ elim (naming q.2) [
    | inl n ↦ elim (colon n.1) [
      | inl c ↦ elim (type_settles m l c.0 room) [
        | inl a ↦ elim (dot a.1) [
          | inl d ↦ elim (deeper m l Formula part.Formula d.0 room ih) [
            | inl b ↦ inl (_, b.1, terms.bound_ok m l ts q.0 q.1 q.2 room q.3 n.0 n.1 n.2 c.0 c.1 a.0 a.1 a.2 d.0 d.1 b.0 b.1 b.2)
            | inr h ↦ inr (h.0, h.1, terms.body_fails m l ts q.0 q.1 q.2 room q.3 n.0 n.1 n.2 c.0 c.1 a.0 a.1 a.2 d.0 d.1 h.0 h.2)
          ]
          | inr bad ↦ inr (fault.Syntax (length a.1), tt, terms.no_dot m l ts q.0 q.1 q.2 room q.3 n.0 n.1 n.2 c.0 c.1 a.0 a.1 a.2 bad)
        ]
        | inr h ↦ inr (h.0, h.1, terms.type_fails m l ts q.0 q.1 q.2 room q.3 n.0 n.1 n.2 c.0 c.1 h.0 h.2)
      ]
      | inr bad ↦ inr (fault.Syntax (length n.1), tt, terms.no_colon m l ts q.0 q.1 q.2 room q.3 n.0 n.1 n.2 bad)
    ]
    | inr bad ↦ inr (fault.Syntax (length q.2), tt, terms.no_name m l ts q.0 q.1 q.2 room q.3 bad)
  ]
  | inr bad ↦ elim (ih (Chain op.Imp) l ts room (omega arith)) [
    | inl g ↦ inl (g.0, g.1, terms.plain_ok m l ts g.0 g.1 g.2)
    | inr h ↦ inr (h.0, h.1, terms.plain_fails m l ts h.0 bad h.2)
  ]
]

below : (n m l : ℕ) (s : Sort) (ts : List Tok) → l ≤ m → 10 * (m - l) + place s < n → Settles m l s ts
below zero m l s ts room less = absurd (omega arith)
below (suc n) m l Atom ts room less = atom m l ts room (λ v k us r h. below n m k v us r (omega arith))
below (suc n) m l (Args f) ts room less = args_loop (length ts + 1) m l f ts f ts room (λ us. below n m l Atom us room (omega arith)) (omega arith) (terms.begins m l f ts room)
below (suc n) m l App ts room less = app m l ts room (λ v k us r h. below n m k v us r (omega arith))
below (suc n) m l Eq ts room less = eq m l ts room (λ v k us r h. below n m k v us r (omega arith))
below (suc n) m l Neg ts room less = neg m l ts room (λ v k us r h. below n m k v us r (omega arith))
below (suc n) m l (Chain o) ts room less = chain m l o ts room (λ v k us r h. below n m k v us r (omega arith))
below (suc n) m l Formula ts room less = formula m l ts room (λ v k us r h. below n m k v us r (omega arith))

formula_settles : (m : ℕ) (ts : List Tok) → Settles m 0 Formula ts
formula_settles m ts = below (10 * (m - 0) + 10) m 0 Formula ts (omega arith) (omega arith)

-- ---- assumptions

abbrev SettlesHyp : ℕ → List Tok → Type 0
SettlesHyp m ts = ((h : Hyp) × (rest : List Tok) × GotHyp m ts h rest) ⊎ ((e : Fault) × IsPlain e × Fault_of_hyps m ts e)

hyp : (m : ℕ) (ts named : List Tok) → ts ≡ tok.Assume ∷ named → SettlesHyp m ts
hyp m ts named word_is = elim (naming named) [
  | inl n ↦ elim (colon n.1) [
    | inl c ↦ elim (formula_settles m c.0) [
      | inl g ↦ inl (_, g.1, hyps.term_ok m ts named word_is n.0 n.1 n.2 c.0 c.1 g.0 g.1 g.2)
      | inr h ↦ inr (h.0, h.1, hyps.term_fails m ts named word_is n.0 n.1 n.2 c.0 c.1 h.0 h.2)
    ]
    | inr bad ↦ inr (fault.Syntax (length n.1), tt, hyps.no_colon m ts named word_is n.0 n.1 n.2 bad)
  ]
  | inr bad ↦ inr (fault.Syntax (length named), tt, hyps.no_name m ts named word_is bad)
]

abbrev SettlesHyps : ℕ → List Tok → Type 0
SettlesHyps m ts = ((hs : List Hyp) × (rest : List Tok) × GotHyps m ts hs rest × IsNot tok.Assume rest) ⊎ ((e : Fault) × IsPlain e × Fault_of_hyps m ts e)

hyps_loop : (n m : ℕ) (ts : List Tok) (hs : List Hyp) (rest : List Tok) → length rest < n → GotHyps m ts hs rest → SettlesHyps m ts
hyps_loop zero m ts hs rest less s = absurd (omega arith)
hyps_loop (suc n) m ts hs rest less s = elim (assume rest) [
  | inl a ↦ elim (hyp m rest a.0 a.1) [
    | inl g ↦ let short = g.2.shorter in hyps_loop n m ts (hs ++ g.0 ∷ []) g.1 (omega arith) (hyps.goes_on m ts hs g.0 rest g.1 s g.2)
    | inr h ↦ inr (h.0, h.1, hyps.hyp_fails m ts hs rest h.0 s h.2)
  ]
  | inr bad ↦ inl (hs, rest, s, bad)
]

-- ---- declarations

abbrev SettlesItem : ℕ → List Tok → Type 0
SettlesItem m ts = ((d : Item) × (rest : List Tok) × GotItem m ts d rest) ⊎ ((e : Fault) × IsPlain e × Fault_of_item m ts e)

type_item : (m : ℕ) (ts named : List Tok) → ts ≡ tok.Type ∷ named → SettlesItem m ts
type_item m ts named is = elim (naming named) [
  | inl n ↦ elim (semi n.1) [
    | inl s ↦ inl (_, s.0, texts.type_ok m ts named is n.0 n.1 n.2 s.0 s.1)
    | inr bad ↦ inr (fault.Syntax (length n.1), tt, texts.no_type_end m ts named is n.0 n.1 n.2 bad)
  ]
  | inr bad ↦ inr (fault.Syntax (length named), tt, texts.no_type_name m ts named is bad)
]

const_item : (m : ℕ) (ts : List Tok) (x : Word) (body : List Tok) → ts ≡ tok.Const ∷ tok.Word x ∷ tok.Colon ∷ body → SettlesItem m ts
const_item m ts x body front = elim (type_settles m 0 body (omega arith)) [
  | inl g ↦ elim (semi g.1) [
    | inl s ↦ inl (_, s.0, texts.const_ok m ts x body front g.0 g.1 g.2 s.0 s.1)
    | inr bad ↦ inr (fault.Syntax (length g.1), tt, texts.const_no_semi m ts x body front g.0 g.1 g.2 bad)
  ]
  | inr h ↦ inr (h.0, h.1, texts.const_fails m ts x body front h.0 h.2)
]

fact_item : (m : ℕ) (ts : List Tok) (x : Word) (body : List Tok) → ts ≡ tok.Fact ∷ tok.Word x ∷ tok.Colon ∷ body → SettlesItem m ts
fact_item m ts x body front = elim (formula_settles m body) [
  | inl g ↦ elim (semi g.1) [
    | inl s ↦ inl (_, s.0, texts.fact_ok m ts x body front g.0 g.1 g.2 s.0 s.1)
    | inr bad ↦ inr (fault.Syntax (length g.1), tt, texts.fact_no_semi m ts x body front g.0 g.1 g.2 bad)
  ]
  | inr h ↦ inr (h.0, h.1, texts.fact_fails m ts x body front h.0 h.2)
]

goal_item : (m : ℕ) (ts : List Tok) (x : Word) (body : List Tok) → ts ≡ tok.Goal ∷ tok.Word x ∷ tok.Colon ∷ body → SettlesItem m ts
goal_item m ts x body front = elim (formula_settles m body) [
  | inl g ↦ elim (hyps_loop (length g.1 + 1) m g.1 [] g.1 (omega arith) (hyps.begins m g.1 g.2.ends)) [
    | inl hs ↦ elim (semi hs.1) [
      | inl s ↦ inl (_, s.0, texts.goal_ok m ts x body front g.0 g.1 g.2 hs.0 hs.1 hs.2 s.0 s.1)
      | inr bad ↦ inr (fault.Syntax (length hs.1), tt, texts.goal_no_semi m ts x body front g.0 g.1 g.2 hs.0 hs.1 hs.2 hs.3 bad)
    ]
    | inr h ↦ inr (h.0, h.1, texts.hyps_fail m ts x body front g.0 g.1 g.2 h.0 h.2)
  ]
  | inr h ↦ inr (h.0, h.1, texts.goal_fails m ts x body front h.0 h.2)
]

-- what stands behind `const`, `fact`, `goal`
headed : (m : ℕ) (h : Heading) (ts named : List Tok) → ts ≡ opening h ∷ named →
    ((x : Word) (body : List Tok) → ts ≡ opening h ∷ tok.Word x ∷ tok.Colon ∷ body → SettlesItem m ts) → SettlesItem m ts
headed m h ts named is go = elim (naming named) [
  | inl n ↦ elim (colon n.1) [
    | inl c ↦ go n.0 c.0 (is ∙ ap (λ xs. opening h ∷ xs) (n.2 ∙ ap (λ xs. tok.Word n.0 ∷ xs) c.1))
    | inr bad ↦ inr (fault.Syntax (length n.1), tt, texts.no_colon m ts h named is n.0 n.1 n.2 bad)
  ]
  | inr bad ↦ inr (fault.Syntax (length named), tt, texts.no_name m ts h named is bad)
]

item : (m : ℕ) (ts : List Tok) → 0 < length ts → SettlesItem m ts
item m [] some = absurd (omega arith)
item m (tok.Type ∷ us) some = type_item m (tok.Type ∷ us) us refl
item m (tok.Const ∷ us) some = headed m heading.Const (tok.Const ∷ us) us refl (const_item m (tok.Const ∷ us))
item m (tok.Fact ∷ us) some = headed m heading.Fact (tok.Fact ∷ us) us refl (fact_item m (tok.Fact ∷ us))
item m (tok.Goal ∷ us) some = headed m heading.Goal (tok.Goal ∷ us) us refl (goal_item m (tok.Goal ∷ us))
item m (x ∷ us) some = inr (fault.Syntax (length (x ∷ us)), tt, texts.no_item m (x ∷ us) some tt)

answered : (m : ℕ) (ts : List Tok) (e : Fault) → IsPlain e → Fault_of_all m ts e → (a : Answer) × IsAnswer m ts a
answered m ts (fault.Syntax left) p h = (Syntax (length ts - left), places.refused m ts (fault.Syntax left) h)
answered m ts (fault.TooDeep left) p h = (TooDeep (length ts - left), places.refused m ts (fault.TooDeep left) h)
answered m ts fault.NoMemory p h = absurd p

all : (n m : ℕ) (ts : List Tok) (ds : List Item) (rest : List Tok) → length rest < n → items.ItemsSoFar m ts ds rest → (a : Answer) × IsAnswer m ts a
all zero m ts ds rest less s = absurd (omega arith)
all (suc n) m ts ds [] less s = (Text ds, items.text_ends m ts ds [] s refl)
all (suc n) m ts ds (x ∷ rest) less s = elim (item m (x ∷ rest) (omega arith)) [
  | inl g ↦ let short = g.2.shorter in all n m ts (ds ++ g.0 ∷ []) g.1 (omega arith) (items.goes_on m ts ds g.0 (x ∷ rest) g.1 s g.2)
  | inr h ↦ answered m ts h.0 h.1 (items.item_fails m ts ds (x ∷ rest) h.0 s h.2)
]

pub some_answer : (m : ℕ) (ts : List Tok) → (a : Answer) × IsAnswer m ts a
some_answer m ts = all (length ts + 1) m ts [] ts (omega arith) (items.begins m ts)
