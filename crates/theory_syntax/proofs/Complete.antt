-- What is derivable is walked through, at its levels, to its tree.
use Rattle.std.proofs.Common.{◌≡◌, ℕ, ◌+◌, ◌≤◌, ◌<◌, Bool, true, false, List, [], ◌∷◌, ◌++◌, nat_le, refl, sym, ap, ◌∙◌, arith, rules}
use Rattle.theory_syntax.specs.declared.tokens.Word.{Word}
use Rattle.theory_syntax.specs.declared.tokens.Quant.{Quant}
use Rattle.theory_syntax.specs.declared.tokens.Tok.{Tok}
use Rattle.theory_syntax.specs.declared.tokens.Tok.TheVariants as tok
use Rattle.theory_syntax.specs.declared.tree.Op.{Op}
use Rattle.theory_syntax.specs.declared.tree.Op.TheVariants as op
use Rattle.theory_syntax.specs.declared.tree.TyTree.{TyTree}
use Rattle.theory_syntax.specs.declared.tree.TyTree.TheVariants as ty
use Rattle.theory_syntax.specs.declared.tree.Tree.{Tree}
use Rattle.theory_syntax.specs.declared.tree.Tree.TheVariants as tree
use Rattle.theory_syntax.specs.Grammar.{Placed, at, Sort, Formula, Chain, Neg, Eq, App, Args, Atom, sign, lower, right, extend, TypeSort, Whole, IsType, truth as truth_ty, base, bracket, single, arrow, Derives, bind, plain, one, more, not, same, side, sides, head, none, arg, name, truth as truth_, round}
use Rattle.theory_syntax.specs.Machine.{Frame, Head, Left, Not, Join, Bind, Round, Typed, Arrow, Bracket, RunsTy, EndsTy, WantTy, HaveTy, op_rank, frame_rank, rank, sort_rank, class, level, top_rank, fill, Want, Have, reduce, shifted, after, run, put, goes, Goes, Ends, start, Runs}
use Rattle.first_fault.proofs.Fronts.{put-append, goes-append}

pub is_le : (m n : ℕ) → m ≤ n → nat_le m n ≡ true
is_le m n h = search (rules, h)

pub is_gt : (m n : ℕ) → n < m → nat_le m n ≡ false
is_gt m n h = search (rules, h)

-- a frame that goes on over the token stays
pub stays : (r : ℕ) (t : Tree) (k : List Frame) → r ≤ top_rank k → reduce r t k ≡ record { tree = t; frames = k }
stays r t [] h = refl
stays r t (f ∷ k) h = rw (is_le r (frame_rank f) h) refl

-- a frame that ends before the token is closed
pub closes : (r : ℕ) (t : Tree) (f : Frame) (k : List Frame) → frame_rank f < r → reduce r t (f ∷ k) ≡ reduce r (fill f t) k
closes r t f k h = rw (is_gt r (frame_rank f) h) refl

pub pops : (f : Frame) (k : List Frame) (t : Tree) (rest : List Tok) → frame_rank f < 7 → Ends (frame_rank f) rest → run (Have t (f ∷ k)) rest ≡ run (Have (fill f t) k) rest
pops f k t [] low e = refl
pops f k t (x ∷ xs) low e = ap (λ c. after (shifted x c) (λ s. run s xs)) (closes (rank x) t f k e)

pub ends_weaker : (m n : ℕ) (rest : List Tok) → m ≤ n → Ends n rest → Ends m rest
ends_weaker m n [] h e = e
ends_weaker m n (x ∷ xs) h e = omega arith

-- ---- the signs

pub lower_rank : (o : Op) → sort_rank (lower o) < op_rank o
lower_rank op.And = omega arith
lower_rank op.Or = omega arith
lower_rank op.Imp = omega arith

pub lower_class : (o : Op) → class (lower o) ≤ 1
lower_class op.And = omega arith
lower_class op.Or = omega arith
lower_class op.Imp = omega arith

pub right_rank : (o : Op) → sort_rank (right o) ≡ op_rank o
right_rank op.And = refl
right_rank op.Or = refl
right_rank op.Imp = refl

pub sign_rank : (o : Op) → rank (sign o) ≡ op_rank o
sign_rank op.And = refl
sign_rank op.Or = refl
sign_rank op.Imp = refl

op_low : (o : Op) → op_rank o < 7
op_low op.And = omega arith
op_low op.Or = omega arith
op_low op.Imp = omega arith

start_lower : (o : Op) (c : ℕ) (k : List Frame) → start (lower o) c k ≡ Want c k
start_lower op.And c k = refl
start_lower op.Or c k = refl
start_lower op.Imp c k = refl

pub sign_step : (o : Op) (a : Tree) (k : List Frame) (xs : List Tok) → op_rank o ≤ top_rank k →
    run (Have a k) (sign o ∷ xs) ≡ Goes (level k) (run (start (right o) (class (right o)) (Join o a ∷ k)) xs)
sign_step op.And a k xs h = ap (λ c. after (shifted tok.Amp c) (λ s. run s xs)) (stays 4 a k h)
sign_step op.Or a k xs h = ap (λ c. after (shifted tok.Bar c) (λ s. run s xs)) (stays 5 a k h)
sign_step op.Imp a k xs h = ap (λ c. after (shifted tok.Imp c) (λ s. run s xs)) (stays 6 a k h)

-- ---- one lemma for each constructor

runs_one : (l : ℕ) (o : Op) (p : List Placed) (t : Tree) → Runs l (lower o) p t → Runs l (Chain o) p t
runs_one l o p t h c k rest hc hl hk he =
    let low = lower_rank o in
    let cls = lower_class o in
    let e = ends_weaker (sort_rank (lower o)) (op_rank o) rest (omega arith) he in
    ap (λ s. run s (put p rest)) (sym (start_lower o c k)) ∙ h c k rest (omega arith) hl (omega arith) e

runs_more : (l : ℕ) (o : Op) (p q : List Placed) (a b : Tree) → Runs l (lower o) p a → Runs (l + 1) (right o) q b →
    Runs l (Chain o) (p ++ at l (sign o) ∷ q) (tree.Join o a b)
runs_more l o p q a b ha hb c k rest hc hl hk he =
    let low = lower_rank o in
    let cls = lower_class o in
    let same_rank = right_rank o in
    let sign_is = sign_rank o in
    let first : run (Want c k) (put p (sign o ∷ put q rest)) ≡ goes p (run (Have a k) (sign o ∷ put q rest)) =
    ap (λ s. run s (put p (sign o ∷ put q rest))) (sym (start_lower o c k)) ∙ ha c k (sign o ∷ put q rest) (omega arith) hl (omega arith) (omega arith) in
    let second = sign_step o a k (put q rest) hk in
    let third = hb (class (right o)) (Join o a ∷ k) rest (omega arith) (ap (λ n. n + 1) hl) (omega arith) (ends_weaker (sort_rank (right o)) (op_rank o) rest (omega arith) he) in
    let last = pops (Join o a) k b rest (op_low o) he in
    ap (λ xs. run (Want c k) xs) (put-append p (at l (sign o) ∷ q) rest) ∙ first ∙
    ap (λ r. goes p r) (second ∙ ap (λ r. Goes (level k) r) (third ∙ ap (λ r. goes q r) last) ∙ ap (λ n. Goes n (goes q (run (Have (tree.Join o a b) k) rest))) hl)
    ∙ sym (goes-append p (at l (sign o) ∷ q) (run (Have (tree.Join o a b) k) rest))

runs_not : (l n : ℕ) (p : List Placed) (t : Tree) → Runs (l + 1) Neg p t → Runs l Neg (at l (tok.Tilde n) ∷ p) (tree.Not n t)
runs_not l n p t h c k rest hc hl hk he =
    let inner = h 1 (Not n ∷ k) rest (omega arith) (ap (λ n. n + 1) hl) (omega arith) he in
    let last = pops (Not n) k t rest (omega arith) he in
    rw (is_le 1 c hc, hl) (ap (λ r. Goes l r) (inner ∙ ap (λ r. goes p r) last))

runs_same : (l : ℕ) (p : List Placed) (t : Tree) → Runs l Eq p t → Runs l Neg p t
runs_same l p t h c k rest hc hl hk he = h c k rest (omega arith) hl hk he

runs_side : (l : ℕ) (p : List Placed) (t : Tree) → Runs l App p t → Runs l Eq p t
runs_side l p t h c k rest hc hl hk he = h c k rest hc hl (omega arith) (ends_weaker 1 3 rest (omega arith) he)

runs_sides : (l : ℕ) (p q : List Placed) (a b : Tree) → Runs l App p a → Runs l App q b → Runs l Eq (p ++ at l tok.Equal ∷ q) (tree.Equals a b)
runs_sides l p q a b ha hb c k rest hc hl hk he =
    let first = ha c k (tok.Equal ∷ put q rest) hc hl (omega arith) (omega arith) in
    let stay = stays 2 a k (omega arith) in
    let second : run (Have a k) (tok.Equal ∷ put q rest) ≡ Goes (level k) (run (Want 0 (Left a ∷ k)) (put q rest)) =
    ap (λ c. after (shifted tok.Equal c) (λ s. run s (put q rest))) stay ∙ rw (is_le 3 (top_rank k) hk) refl in
    let lev : level (Left a ∷ k) ≡ l = omega arith in
    let third = hb 0 (Left a ∷ k) rest (omega arith) lev (omega arith) (ends_weaker 1 3 rest (omega arith) he) in
    let last = pops (Left a) k b rest (omega arith) (ends_weaker 2 3 rest (omega arith) he) in
    ap (λ xs. run (Want c k) xs) (put-append p (at l tok.Equal ∷ q) rest) ∙ first ∙
    ap (λ r. goes p r) (second ∙ ap (λ r. Goes (level k) r) (third ∙ ap (λ r. goes q r) last) ∙ ap (λ n. Goes n (goes q (run (Have (tree.Equals a b) k) rest))) hl)
    ∙ sym (goes-append p (at l tok.Equal ∷ q) (run (Have (tree.Equals a b) k) rest))

rank_positive : (x : Tok) → 0 < rank x
rank_positive (tok.Word x) = omega arith
rank_positive (tok.Truth b n) = omega arith
rank_positive (tok.Open n) = omega arith
rank_positive tok.Equal = omega arith
rank_positive tok.Amp = omega arith
rank_positive tok.Bar = omega arith
rank_positive tok.Imp = omega arith
rank_positive _ = omega arith

pub always : (xs : List Tok) → Ends 0 xs
always [] = tt
always (x ∷ xs) = rank_positive x

runs_head : (l : ℕ) (p q : List Placed) (f t : Tree) → Runs l Atom p f → Runs l (Args f) q t → Runs l App (p ++ q) t
runs_head l p q f t hf ht c k rest hc hl hk he =
    let first = hf c k (put q rest) hc hl (omega arith) (always (put q rest)) in
    let second = ht c k rest hc hl hk he in
    ap (λ xs. run (Want c k) xs) (put-append p q rest) ∙ first ∙ ap (λ r. goes p r) second ∙ sym (goes-append p q (run (Have t k) rest))

-- an atom behind a head is read as an operand below the head
pub arg_start : {l : ℕ} {p : List Placed} {x : Tree} → Derives l Atom p x → (f : Tree) (k : List Frame) (xs : List Tok) → 1 ≤ top_rank k →
    run (Have f k) (put p xs) ≡ run (Want 0 (Head f ∷ k)) (put p xs)
arg_start (name {x = y}) f k xs h = ap (λ c. after (shifted (tok.Word y) c) (λ s. run s xs)) (stays 1 f k h) ∙
    (let lev : level k ≡ level (Head f ∷ k) = omega arith in ap (λ n. Goes n (run (Have (tree.Name y) (Head f ∷ k)) xs)) lev)
arg_start (truth_ {n = n} {b = b}) f k xs h = ap (λ c. after (shifted (tok.Truth b n) c) (λ s. run s xs)) (stays 1 f k h) ∙
    (let lev : level k ≡ level (Head f ∷ k) = omega arith in ap (λ i. Goes i (run (Have (tree.Truth b n) (Head f ∷ k)) xs)) lev)
arg_start (round {l = l} {n = m} {p = p} d) f k xs h =
    ap (λ c. after (shifted (tok.Open m) c) (λ s. run s (put (p ++ at (l + 1) tok.Close ∷ []) xs))) (stays 1 f k h) ∙
    (let lev : level k ≡ level (Head f ∷ k) = omega arith in ap (λ n. Goes n (run (Want 2 (Round m ∷ Head f ∷ k)) (put (p ++ at (l + 1) tok.Close ∷ []) xs))) lev)

runs_arg : (l : ℕ) (p q : List Placed) (f x t : Tree) → Derives l Atom p x → Runs l Atom p x → Runs l (Args (extend f x)) q t → Runs l (Args f) (p ++ q) t
runs_arg l p q f x t d hx ht c k rest hc hl hk he =
    let entry = arg_start d f k (put q rest) hk in
    let lev : level (Head f ∷ k) ≡ l = omega arith in
    let first = hx 0 (Head f ∷ k) (put q rest) (omega arith) lev (omega arith) (always (put q rest)) in
    let popped = pops (Head f) k x (put q rest) (omega arith) (always (put q rest)) in
    let second = ht c k rest hc hl hk he in
    ap (λ xs. run (Have f k) xs) (put-append p q rest) ∙ entry ∙ first ∙ ap (λ r. goes p r) (popped ∙ second) ∙ sym (goes-append p q (run (Have t k) rest))

runs_name : (l : ℕ) (x : Word) → Runs l Atom (at l (tok.Word x) ∷ []) (tree.Name x)
runs_name l x c k rest hc hl hk he = ap (λ n. Goes n (run (Have (tree.Name x) k) rest)) hl

runs_truth : (l n : ℕ) (b : Bool) → Runs l Atom (at l (tok.Truth b n) ∷ []) (tree.Truth b n)
runs_truth l n b c k rest hc hl hk he = ap (λ i. Goes i (run (Have (tree.Truth b n) k) rest)) hl

runs_round : (l m : ℕ) (p : List Placed) (t : Tree) → Runs (l + 1) Formula p t → Runs l Atom (at l (tok.Open m) ∷ p ++ at (l + 1) tok.Close ∷ []) (tree.Round m t)
runs_round l m p t h c k rest hc hl hk he =
    let lev : level (Round m ∷ k) ≡ l + 1 = omega arith in
    let inner = h 2 (Round m ∷ k) (tok.Close ∷ rest) (omega arith) lev (omega arith) (omega arith) in
    let whole = run (Have (tree.Round m t) k) rest in
    let closing : run (Have t (Round m ∷ k)) (tok.Close ∷ rest) ≡ Goes (l + 1) whole = ap (λ n. Goes n whole) lev in
    ap (λ xs. Goes (level k) (run (Want 2 (Round m ∷ k)) xs)) (put-append p (at (l + 1) tok.Close ∷ []) rest) ∙
    ap (λ n. Goes n (run (Want 2 (Round m ∷ k)) (put p (tok.Close ∷ rest)))) hl ∙
    ap (λ r. Goes l r) (inner ∙ ap (λ r. goes p r) closing ∙ sym (goes-append p (at (l + 1) tok.Close ∷ []) whole))

-- ---- types

pub pops_ty : (a b : TyTree) (k : List Frame) (rest : List Tok) → EndsTy Whole rest → run (HaveTy b (Arrow a ∷ k)) rest ≡ run (HaveTy (ty.Arrow a b) k) rest
pops_ty a b k [] e = refl
pops_ty a b k (tok.Arrow ∷ xs) e = absurd e
pops_ty a b k (_ ∷ xs) e = refl

pub complete_ty : {l : ℕ} {w : TypeSort} {p : List Placed} {a : TyTree} → IsType l w p a → RunsTy l w p a
complete_ty {l = l} truth_ty = λ k rest hl he. ap (λ n. Goes n (run (HaveTy ty.Bool k) rest)) hl
complete_ty {l = l} (base {x = x}) = λ k rest hl he. ap (λ n. Goes n (run (HaveTy (ty.Named x) k) rest)) hl
complete_ty {l = l} (bracket {n = m} {p = p} {a = a} d) = λ k rest hl he.
    let lev : level (Bracket ∷ k) ≡ l + 1 = omega arith in
    let inner = complete_ty d (Bracket ∷ k) (tok.Close ∷ rest) lev tt in
    let closing : run (HaveTy a (Bracket ∷ k)) (tok.Close ∷ rest) ≡ Goes (l + 1) (run (HaveTy a k) rest) = ap (λ n. Goes n (run (HaveTy a k) rest)) lev in
    ap (λ xs. Goes (level k) (run (WantTy (Bracket ∷ k)) xs)) (put-append p (at (l + 1) tok.Close ∷ []) rest) ∙
    ap (λ n. Goes n (run (WantTy (Bracket ∷ k)) (put p (tok.Close ∷ rest)))) hl ∙
    ap (λ r. Goes l r) (inner ∙ ap (λ r. goes p r) closing ∙ sym (goes-append p (at (l + 1) tok.Close ∷ []) (run (HaveTy a k) rest)))
complete_ty {l = l} (single d) = λ k rest hl he. complete_ty d k rest hl tt
complete_ty {l = l} (arrow {p = p} {q = q} {a = a} {b = b} d e) = λ k rest hl he.
    let first = complete_ty d k (tok.Arrow ∷ put q rest) hl tt in
    let lev : level (Arrow a ∷ k) ≡ l + 1 = omega arith in
    let second = complete_ty e (Arrow a ∷ k) rest lev he in
    let last = pops_ty a b k rest he in
    let whole = run (HaveTy (ty.Arrow a b) k) rest in
    ap (λ xs. run (WantTy k) xs) (put-append p (at l tok.Arrow ∷ q) rest) ∙ first ∙
    ap (λ r. goes p r) (ap (λ n. Goes n (run (WantTy (Arrow a ∷ k)) (put q rest))) hl ∙ ap (λ r. Goes l r) (second ∙ ap (λ r. goes q r) last))
    ∙ sym (goes-append p (at l tok.Arrow ∷ q) whole)

runs_bind : (l m : ℕ) (i : Quant) (x : Word) (p q : List Placed) (a : TyTree) (b : Tree) → RunsTy l Whole p a → Runs (l + 1) Formula q b →
    Runs l Formula (at l (tok.Quant i m) ∷ at l (tok.Word x) ∷ at l tok.Colon ∷ p ++ at l tok.Dot ∷ q) (tree.Bind i m x a b)
runs_bind l m i x p q a b ht h c k rest hc hl hk he =
    let typed : level (Typed i m x ∷ k) ≡ l = omega arith in
    let lev : level (Bind i m x a ∷ k) ≡ l + 1 = omega arith in
    let first = ht (Typed i m x ∷ k) (tok.Dot ∷ put q rest) typed tt in
    let inner = h 2 (Bind i m x a ∷ k) rest (omega arith) lev (omega arith) he in
    let last = pops (Bind i m x a) k b rest (omega arith) he in
    let whole = run (Have (tree.Bind i m x a b) k) rest in
    let body : run (WantTy (Typed i m x ∷ k)) (put (p ++ at l tok.Dot ∷ q) rest) ≡ goes (p ++ at l tok.Dot ∷ q) whole =
    ap (λ xs. run (WantTy (Typed i m x ∷ k)) xs) (put-append p (at l tok.Dot ∷ q) rest) ∙ first ∙
    ap (λ r. goes p r) (ap (λ n. Goes n (run (Want 2 (Bind i m x a ∷ k)) (put q rest))) hl ∙ ap (λ r. Goes l r) (inner ∙ ap (λ r. goes q r) last))
    ∙ sym (goes-append p (at l tok.Dot ∷ q) whole) in
    rw (is_le 2 c hc, hl) (ap (λ r. Goes l (Goes l (Goes l r))) body)

runs_plain : (l : ℕ) (p : List Placed) (t : Tree) → Runs l (Chain op.Imp) p t → Runs l Formula p t
runs_plain l p t h c k rest hc hl hk he = h c k rest (omega arith) hl hk he

pub complete : {l : ℕ} {s : Sort} {p : List Placed} {t : Tree} → Derives l s p t → Runs l s p t
complete (bind d e) = runs_bind _ _ _ _ _ _ _ _ (complete_ty d) (complete e)
complete (plain d) = runs_plain _ _ _ (complete d)
complete (one d) = runs_one _ _ _ _ (complete d)
complete (more d e) = runs_more _ _ _ _ _ _ (complete d) (complete e)
complete (not d) = runs_not _ _ _ _ (complete d)
complete (same d) = runs_same _ _ _ (complete d)
complete (side d) = runs_side _ _ _ (complete d)
complete (sides d e) = runs_sides _ _ _ _ _ (complete d) (complete e)
complete (head d e) = runs_head _ _ _ _ _ (complete d) (complete e)
complete none = λ c k rest hc hl hk he. refl
complete (arg d e) = runs_arg _ _ _ _ _ _ d (complete d) (complete e)
complete name = runs_name _ _
complete truth_ = runs_truth _ _ _
complete (round d) = runs_round _ _ _ _ (complete d)
