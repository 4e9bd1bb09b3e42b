-- The leaves of statements are those of what the private reader makes of them.
use Rattle.std.proofs.Common.{◌≡◌, ℕ, ◌+◌, ◌-◌, ◌<◌, ◌≤◌, Bool, true, false, List, [], ◌∷◌, ◌++◌, length, refl, sym, ◌∙◌, ap, subst, arith, inl, inr}
use Rattle.std.specs.Prelude.{All, map, ◌⊎◌, ◌↔◌, Contains}
use Rattle.std.proofs.lemmas.List.Elements.{All-append, All-cons, All-nil, All-head, All-tail, All-contains, Contains-append_left, Contains-append_right}
use Rattle.tstp_read.specs.declared.sources.Parent.{Parent}
use Rattle.tstp_read.specs.declared.sources.Parent.TheVariants as parent
use Rattle.tstp_read.specs.declared.sources.Part.{Part}
use Rattle.tstp_read.specs.declared.statements.Entry.{Entry}
use Rattle.tstp_read.specs.Statements.{Forest, Statement, IsStatement, parts, Refutes, MAX_DEPTH}
use Rattle.tstp_read.specs.Sources.{Gives, FromParts, HasParent}
use Rattle.tstp_read.specs.Reached as reached
use Rattle.tstp_read.specs.Used.{called, AreLeaves}
use Rattle.tstp_read.specs.inner.Leaves.{HasEntry, RefutesEntry, named}
use Rattle.tstp_read.specs.inner.Machine.{parents_of, all_parts, given}
use Rattle.tstp_read.proofs.Lists.{only, none_in, Contains-here, Contains-there, Contains-cons_cases, All-front, All-back}
use Rattle.tstp_read.proofs.Walk.{group_of, entry, entries}
use Rattle.tstp_read.proofs.Prefixes.{entries-append}
use Rattle.tstp_read.proofs.Shapes.{part_of, shape_of, parts_are, CommaFree, parts_free}
use Rattle.tstp_read.proofs.Giving.{gives_iff}
use Rattle.tstp_read.proofs.Bares.{refutes_iff}

-- ---- one statement

from_parts : (n : List ℕ) (fs : List Forest) → All CommaFree fs → (p : Parent) → Contains (parents_of n (map (part_of false) fs)) p ↔ FromParts n fs p
from_parts n [] free p = ((λ h. sym (only p (parent.Leaf n) h)), (λ e. subst (Contains (parent.Leaf n ∷ [])) (sym e) (Contains-here (parent.Leaf n) [])))
from_parts n (f ∷ []) free p = ((λ h. sym (only p (parent.Leaf n) h)), (λ e. subst (Contains (parent.Leaf n ∷ [])) (sym e) (Contains-here (parent.Leaf n) [])))
from_parts n (f ∷ source ∷ fs) free p = gives_iff source (All-head CommaFree source fs (All-tail CommaFree f (source ∷ fs) free)) p

pub parent_iff : (s : Statement) (p : Parent) → HasEntry (entry s) p ↔ HasParent s p
parent_iff s p =
    let same = ap (parents_of s.name.said) (parts_are false s.body) in
    let iff = from_parts s.name.said (parts s.body) (parts_free s.body) p in
    ((λ h. iff.0 (subst (λ ps. Contains ps p) same h)), (λ h. subst (λ ps. Contains ps p) (sym same) (iff.1 h)))

pub refutes_entry : (s : Statement) → IsStatement s → RefutesEntry (entry s) ↔ Refutes s
refutes_entry s is = refutes_iff s (MAX_DEPTH - 1) is.nests

-- ---- lists of them

entry_in : (ss : List Statement) (s : Statement) → Contains ss s → Contains (entries ss) (entry s)
entry_in [] s h = absurd (none_in s h)
entry_in (x ∷ ss) s h = at (Contains-cons_cases x ss s h) (entry_in ss s)
  where
    at : (x ≡ s) ⊎ Contains ss s → (Contains ss s → Contains (entries ss) (entry s)) → Contains (entries (x ∷ ss)) (entry s)
    at (inl e) go = subst (λ y. Contains (entry y ∷ entries ss) (entry s)) (sym e) (Contains-here (entry s) (entries ss))
    at (inr h) go = Contains-there (entry x) (entries ss) (entry s) (go h)

record Of (ss : List Statement) (e : Entry) : Type 0 where
  pub statement : Statement
  pub among : Contains ss statement
  pub is : entry statement ≡ e

of_entry : (ss : List Statement) (e : Entry) → Contains (entries ss) e → Of ss e
of_entry [] e h = absurd (none_in e h)
of_entry (x ∷ ss) e h = at (Contains-cons_cases (entry x) (entries ss) e h) (of_entry ss e)
  where
    at : (entry x ≡ e) ⊎ Contains (entries ss) e → (Contains (entries ss) e → Of ss e) → Of (x ∷ ss) e
    at (inl is) go = record { statement = x; among = Contains-here x ss; is = is }
    at (inr h) go = let o = go h in record { statement = o.statement; among = Contains-there x ss o.statement o.among; is = o.is }

-- ---- what is reached

abbrev pub ReachedEntry : List Entry → Entry → Parent → Type 0
ReachedEntry es root p = reached.Reached Entry named HasEntry es root p

abbrev pub ReachedTree : List Statement → Statement → Parent → Type 0
ReachedTree ss root p = reached.Reached Statement called HasParent ss root p

module _ (ss : List Statement) (root : Statement) where
  to_entry : (p : Parent) → ReachedTree ss root p → ReachedEntry (entries ss) (entry root) p
  to_entry p (reached.own h) = reached.own ((parent_iff root p).1 h)
  to_entry p (reached.from {n} {s} r among is h) = reached.from {n = n} {s = entry s} (to_entry (parent.Reference n) r) (entry_in ss s among) is ((parent_iff s p).1 h)

  to_tree : (p : Parent) → ReachedEntry (entries ss) (entry root) p → ReachedTree ss root p
  to_tree p (reached.own h) = reached.own ((parent_iff root p).0 h)
  to_tree p (reached.from {n} {s = e} r among is h) =
      let o = of_entry ss e among in
      reached.from {n = n} {s = o.statement} (to_tree (parent.Reference n) r) o.among (ap named o.is ∙ is)
      ((parent_iff o.statement p).0 (subst (λ x. HasEntry x p) (sym o.is) h))

  unknown_entry : (n : List ℕ) → reached.IsUnknown Statement called HasParent ss n → reached.IsUnknown Entry named HasEntry (entries ss) n
  unknown_entry n none e among is = let o = of_entry ss e among in none o.statement o.among (ap named o.is ∙ is)

  unknown_tree : (n : List ℕ) → reached.IsUnknown Entry named HasEntry (entries ss) n → reached.IsUnknown Statement called HasParent ss n
  unknown_tree n none s among is = none (entry s) (entry_in ss s among) is

  leaf_entry : (n : List ℕ) → reached.IsLeaf Statement called HasParent ss root n → reached.IsLeaf Entry named HasEntry (entries ss) (entry root) n
  leaf_entry n (inl r) = inl (to_entry (parent.Leaf n) r)
  leaf_entry n (inr r) = inr (to_entry (parent.Reference n) r.0, unknown_entry n r.1)

  leaf_tree : (n : List ℕ) → reached.IsLeaf Entry named HasEntry (entries ss) (entry root) n → reached.IsLeaf Statement called HasParent ss root n
  leaf_tree n (inl r) = inl (to_tree (parent.Leaf n) r)
  leaf_tree n (inr r) = inr (to_tree (parent.Reference n) r.0, unknown_tree n r.1)

  pub leaves_entry : (names : List (List ℕ)) → AreLeaves ss root names → reached.AreLeaves Entry named HasEntry (entries ss) (entry root) names
  leaves_entry names are = record {
    ascending = are.ascending;
    members = λ n. ((λ h. leaf_entry n ((are.members n).0 h)), (λ l. (are.members n).1 (leaf_tree n l)));
  }

  pub leaves_tree : (names : List (List ℕ)) → reached.AreLeaves Entry named HasEntry (entries ss) (entry root) names → AreLeaves ss root names
  leaves_tree names are = record {
    ascending = are.ascending;
    members = λ n. ((λ h. leaf_tree n ((are.members n).0 h)), (λ l. (are.members n).1 (leaf_entry n l)));
  }

-- ---- roots

abbrev pub RootEntry : List Entry → Entry → Type 0
RootEntry es e = reached.IsRoot Entry RefutesEntry es e

abbrev pub RootTree : List Statement → Statement → Type 0
RootTree ss s = reached.IsRoot Statement Refutes ss s

none_entry : (ss : List Statement) → All IsStatement ss → All (λ s. Refutes s → ⊥) ss → All (λ e. RefutesEntry e → ⊥) (entries ss)
none_entry [] sound none = All-nil (λ e. RefutesEntry e → ⊥)
none_entry (s ∷ ss) sound none =
    All-cons (λ e. RefutesEntry e → ⊥) (entry s) (entries ss)
    (λ r. All-head (λ s. Refutes s → ⊥) s ss none ((refutes_entry s (All-head IsStatement s ss sound)).0 r))
    (none_entry ss (All-tail IsStatement s ss sound) (All-tail (λ s. Refutes s → ⊥) s ss none))

none_tree : (ss : List Statement) → All IsStatement ss → All (λ e. RefutesEntry e → ⊥) (entries ss) → All (λ s. Refutes s → ⊥) ss
none_tree [] sound none = All-nil (λ s. Refutes s → ⊥)
none_tree (s ∷ ss) sound none =
    All-cons (λ s. Refutes s → ⊥) s ss
    (λ r. All-head (λ e. RefutesEntry e → ⊥) (entry s) (entries ss) none ((refutes_entry s (All-head IsStatement s ss sound)).1 r))
    (none_tree ss (All-tail IsStatement s ss sound) (All-tail (λ e. RefutesEntry e → ⊥) (entry s) (entries ss) none))

pub no_root_entry : (ss : List Statement) → All IsStatement ss → reached.NoRoot Statement Refutes ss → reached.NoRoot Entry RefutesEntry (entries ss)
no_root_entry = none_entry

pub no_root_tree : (ss : List Statement) → All IsStatement ss → reached.NoRoot Entry RefutesEntry (entries ss) → reached.NoRoot Statement Refutes ss
no_root_tree = none_tree

pub root_entry : (ss : List Statement) (s : Statement) → All IsStatement ss → RootTree ss s → RootEntry (entries ss) (entry s)
root_entry ss s sound root = record {
  front = entries root.front;
  rest = entries root.rest;
  stands = ap entries root.stands ∙ entries-append root.front (s ∷ root.rest);
  refutes = (refutes_entry s here).1 root.refutes;
  none = none_entry root.front (All-front IsStatement root.front (s ∷ root.rest) split) root.none;
}
  where
    split : All IsStatement (root.front ++ s ∷ root.rest)
    split = subst (All IsStatement) root.stands sound

    here : IsStatement s
    here = All-head IsStatement s root.rest (All-back IsStatement root.front (s ∷ root.rest) split)

record Parted (ss : List Statement) (front : List Entry) (e : Entry) (rest : List Entry) : Type 0 where
  pub before : List Statement
  pub statement : Statement
  pub behind : List Statement
  pub stands : ss ≡ before ++ statement ∷ behind
  pub front_is : entries before ≡ front
  pub is : entry statement ≡ e

parted : (ss : List Statement) (front : List Entry) (e : Entry) (rest : List Entry) → entries ss ≡ front ++ e ∷ rest → Parted ss front e rest
parted [] [] e rest h = absurd cc
parted [] (x ∷ front) e rest h = absurd cc
parted (s ∷ ss) [] e rest h = let same : entry s ≡ e = cc in record { before = []; statement = s; behind = ss; stands = refl; front_is = refl; is = same }
parted (s ∷ ss) (x ∷ front) e rest h =
    let head : entry s ≡ x = cc in
    let tail : entries ss ≡ front ++ e ∷ rest = cc in
    let p = parted ss front e rest tail in
    record {
      before = s ∷ p.before;
      statement = p.statement;
      behind = p.behind;
      stands = ap (λ xs. s ∷ xs) p.stands;
      front_is = ap (λ y. y ∷ entries p.before) head ∙ ap (λ ys. x ∷ ys) p.front_is;
      is = p.is;
    }

pub record RootOf (ss : List Statement) (e : Entry) : Type 0 where
  pub statement : Statement
  pub root : RootTree ss statement
  pub is : entry statement ≡ e

pub root_tree : (ss : List Statement) (e : Entry) → All IsStatement ss → RootEntry (entries ss) e → RootOf ss e
root_tree ss e sound root = from (parted ss root.front e root.rest root.stands)
  where
    from : Parted ss root.front e root.rest → RootOf ss e
    from p =
        let split : All IsStatement (p.before ++ p.statement ∷ p.behind) = subst (All IsStatement) p.stands sound in
        record {
          statement = p.statement;
          root = record {
            front = p.before;
            rest = p.behind;
            stands = p.stands;
            refutes = (refutes_entry p.statement (All-head IsStatement p.statement p.behind (All-back IsStatement p.before (p.statement ∷ p.behind) split))).0 (subst RefutesEntry (sym p.is) root.refutes);
            none = none_tree p.before (All-front IsStatement p.before (p.statement ∷ p.behind) split) (subst (All (λ e. RefutesEntry e → ⊥)) (sym p.front_is) root.none);
          };
          is = p.is;
        }
