-- Each line of a refutation follows from those before it.
use Rattle.std.proofs.Common.{◌≡◌, ℕ, zero, suc, ◌+◌, ◌<◌, List, [], ◌∷◌, ◌++◌, map, length, Option, Some, slice_get, refl, sym, ap, subst, ◌∙◌, ◌⊎◌, inl, inr, arith, length-append}
use Rattle.std.proofs.lemmas.List.{append_assoc, get_or_append_left}
use Rattle.std.proofs.lemmas.Option.{slice_get_within, get_or_from_slice_get, slice_get-get_or}
use Rattle.fo_terms.specs.declared.clause.Clause.{Clause}
use Rattle.fo_infer.specs.declared.refutation.Line.{Line}
use Rattle.fo_infer.specs.declared.refutation.Origin.{Origin}
use Rattle.fo_infer.specs.declared.refutation.Origin.TheVariants.{Input, Alone, Pair}
use Rattle.fo_infer.specs.Inferences.{plain_position}
use Rattle.fo_infer.specs.Lines.{Follows, FollowFrom, FollowsInput}
use Rattle.metis_core.specs.Stock.{clauses}
use Rattle.tstp_print.specs.Used.{IsParent, AreDrawn}

pub item_stays : {X : Type 0} (xs ys : List X) (n : ℕ) (x : X) → slice_get xs n ≡ Some x → slice_get (xs ++ ys) n ≡ Some x
item_stays xs ys n x is =
    let within = slice_get_within xs n x is in
    slice_get-get_or (xs ++ ys) n x (omega (arith, length-append xs ys)) ∙ ap Some (get_or_append_left xs ys x n within ∙ get_or_from_slice_get xs n x x is)

-- the clauses before a line, from which it follows
pub record FollowsAt (inputs earlier whole : List Clause) (k : ℕ) (l : Line) : Type 0 where
  pub before : List Clause
  pub follows : Follows plain_position inputs before l.origin l.clause
  pub size : length before ≡ length earlier + k
  pub prefix : (i : ℕ) (c : Clause) → slice_get before i ≡ Some c → slice_get whole i ≡ Some c

longer : {X : Type 0} (xs : List X) (x : X) (k : ℕ) → length (xs ++ x ∷ []) + k ≡ length xs + suc k
longer [] x k = omega arith
longer (y ∷ xs) x k = let rest = longer xs x k in omega (arith, rest)

pub follow_at : (inputs earlier : List Clause) (ls : List Line) → FollowFrom plain_position inputs earlier ls → (k : ℕ) (l : Line) → slice_get ls k ≡ Some l → FollowsAt inputs earlier (earlier ++ clauses ls) k l
follow_at inputs earlier [] f k l g = absurd cc
follow_at inputs earlier (m ∷ ls) f zero l g =
    let same : m ≡ l = cc in
    record { before = earlier; follows = subst (λ z. Follows plain_position inputs earlier z.origin z.clause) same f.0; size = omega arith; prefix = λ i c h. item_stays earlier (clauses (m ∷ ls)) i c h }
follow_at inputs earlier (m ∷ ls) f (suc k) l g =
    let r = follow_at inputs (earlier ++ m.clause ∷ []) ls f.1 k l g in
    record { before = r.before; follows = r.follows; size = r.size ∙ longer earlier m.clause k; prefix = λ i c h. subst (λ zs. slice_get zs i ≡ Some c) (append_assoc earlier (m.clause ∷ []) (clauses ls)) (r.prefix i c h) }

before_it : (inputs before : List Clause) (o : Origin) (c : Clause) → Follows plain_position inputs before o c → (j : ℕ) → IsParent o j → j < length before
before_it inputs before (Input n) c f j h = absurd h
before_it inputs before (Alone of rule) c f j h = let w = slice_get_within before of f.parent f.parent_is in omega arith
before_it inputs before (Pair left right rule) c f j (inl h) = let w = slice_get_within before left f.left_parent f.left_is in omega arith
before_it inputs before (Pair left right rule) c f j (inr h) = let w = slice_get_within before right f.right_parent f.right_is in omega arith

pub are_drawn : (inputs : List Clause) (ls : List Line) → FollowFrom plain_position inputs [] ls → AreDrawn ls
are_drawn inputs ls f n l is m p =
    let r = follow_at inputs [] ls f n l is in
    let w = before_it inputs r.before l.origin l.clause r.follows m p in
    let s = r.size in
    omega arith

by_input : (inputs before : List Clause) (o : Origin) (c : Clause) → Follows plain_position inputs before o c → (k : ℕ) → o ≡ Input k → FollowsInput inputs k c
by_input inputs before (Input n) c f k e = let same : n ≡ k = cc in subst (λ j. FollowsInput inputs j c) same f
by_input inputs before (Alone of rule) c f k e = absurd cc
by_input inputs before (Pair left right rule) c f k e = absurd cc

-- an input's line follows from that input
pub follows_input : (inputs : List Clause) (ls : List Line) → FollowFrom plain_position inputs [] ls → (n : ℕ) (l : Line) → slice_get ls n ≡ Some l → (k : ℕ) → l.origin ≡ Input k → FollowsInput inputs k l.clause
follows_input inputs ls f n l is k e = let r = follow_at inputs [] ls f n l is in by_input inputs r.before l.origin l.clause r.follows k e
