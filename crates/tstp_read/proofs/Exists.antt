-- Each output has an answer.
use Rattle.std.proofs.Common.{◌≡◌, ◌≢◌, ℕ, ◌+◌, ◌<◌, ◌≤◌, Bool, true, false, List, [], ◌∷◌, ◌++◌, length, refl, sym, ◌∙◌, ap, subst, arith, inl, inr, Option, Some, None, zero, suc}
use Rattle.std.specs.Prelude.{All, ◌⊎◌, ◌↔◌, Contains, if◌then◌else◌, MatchBool}
use Rattle.std.specs.Ordering.{nat_cmp, is_eq, match_ordering, ordering_reverse}
use Rattle.std.specs.declared.cmp.Ordering.{Ordering}
use Rattle.std.specs.declared.cmp.Ordering.TheVariants.{Less, Equal, Greater}
use Rattle.std.specs.Cmp.Lexicographic.{slice_cmp}
use Rattle.std.specs.List.{AllByRecursion}
use Rattle.std.specs.List.Sorted.{IsStrictlySortedBy}
use Rattle.std.proofs.lemmas.Cmp.{nat_list_cmp_total}
use Rattle.std.proofs.lemmas.Map.Lookups.{exact_bytes}
use Rattle.std.proofs.lemmas.Bool.{cases_Bool}
use Rattle.std.proofs.lemmas.List.Elements.{All-append, All-cons, All-nil}
use Rattle.tstp_read.specs.declared.answer.UsedFault.TheVariants as fault
use Rattle.tstp_read.specs.declared.lines.Span.{Span}
use Rattle.tstp_read.specs.declared.tokens.Token.{Token}
use Rattle.tstp_read.specs.declared.sources.Parent.{Parent}
use Rattle.tstp_read.specs.declared.sources.Parent.TheVariants as parent
use Rattle.tstp_read.specs.declared.statements.Entry.{Entry}
use Rattle.tstp_read.specs.Lines.{succeeds, part_of, bytes_of}
use Rattle.tstp_read.specs.Tokens.{Cut, Into, BadAt, cut, Tok, tokens_of}
use Rattle.tstp_read.specs.Statements.{Statement, IsList, IsFault, Refutes}
use Rattle.tstp_read.specs.inner.Machine.{joined}
use Rattle.tstp_read.specs.Reached as reached
use Rattle.tstp_read.specs.inner.Leaves.{HasEntry, RefutesEntry, named, AreEntryLeaves, IsEntryRoot, HasNoRoot}
use Rattle.tstp_read.specs.inner.Table.{Table, same, look, weight, listed, Puts, Adds, Notes, IsTable, Search, Follows, Goes, Visits, with_todo, Searches, idle, turn}
use Rattle.tstp_read.specs.inner.Read.{Finishes}
use Rattle.tstp_read.specs.Used.{Answer, NoStatus, NoProof, BadText, Leaves, IsAnswer, PartSays, BytesSay, CutSays, TokensSay, Says, faulty, place_of}
use Rattle.tstp_read.proofs.Lists.{none_in, Contains-here, Contains-there, Contains-cons_cases}
use Rattle.tstp_read.proofs.Faults as faults
use Rattle.tstp_read.proofs.Together as together
use Rattle.tstp_read.proofs.Searching.{SoFar, begins, after, members, load, lighter, Leaf_of, noted, same_self, not_same, same_is}

-- ---- a name is put into a table

record Put (t : Table) (n : List ℕ) (ps : List Parent) : Type 0 where
  pub table : Table
  pub puts : Puts t table n ps

abbrev put : Table → List ℕ → List Parent → Table
put [] n ps = (n, ps) ∷ []
put (e ∷ t) n ps = if same n e.0 then (e.0, ps) ∷ t else e ∷ put t n ps

put_puts : (t : Table) (n : List ℕ) (ps : List Parent) → Puts t (put t n ps) n ps
put_puts [] n ps = record {
  here = ap (λ b. if b then Some ps else None) (same_self n);
  others = λ m apart. ap (λ b. if b then Some ps else None) (not_same m n apart);
  lighter = omega arith;
}
put_puts (e ∷ t) n ps = by (same n e.0) refl (put_puts t n ps)
  where
    by : (b : Bool) → same n e.0 ≡ b → Puts t (put t n ps) n ps → Puts (e ∷ t) (if b then (e.0, ps) ∷ t else e ∷ put t n ps) n ps
    by true is below = record {
      here = ap (λ b. if b then Some ps else look t n) is;
      others = λ m apart. (let other : same m e.0 ≡ false = not_same m e.0 (λ i. apart (i ∙ sym (same_is n e.0 is))) in
          ap (λ b. if b then Some ps else look t m) other ∙ ap (λ b. if b then Some e.1 else look t m) (sym other));
      lighter = (let len : length (listed (look (e ∷ t) n)) ≡ length e.1 = ap (λ b. length (listed (if b then Some e.1 else look t n))) is in omega (arith, len));
    }
    by false is below = record {
      here = ap (λ b. if b then Some e.1 else look (put t n ps) n) is ∙ below.here;
      others = λ m apart. ap (λ o. if same m e.0 then Some e.1 else o) (below.others m apart);
      lighter = (let len : length (listed (look (e ∷ t) n)) ≡ length (listed (look t n)) = ap (λ b. length (listed (if b then Some e.1 else look t n))) is in let less = below.lighter in omega (arith, len));
    }

table_for : (es : List Entry) → (t : Table) × IsTable es t
table_for [] = ([], λ n. refl)
table_for (e ∷ es) =
    let below = table_for es in
    let ps : List Parent = joined (listed (look below.0 e.name)) e.parents in
    let p = put_puts below.0 e.name ps in
    (put below.0 e.name ps, noted es below.0 (put below.0 e.name ps) e below.1 (record { here = p.here; others = p.others }))

-- ---- a search that ends

adds_front : (ns : List (List ℕ)) (n : List ℕ) → Adds ns (n ∷ ns) n
adds_front ns n = record {
  here = Contains-here n ns;
  stays = λ m h. Contains-there n ns m h;
  only = λ m h. flip m (Contains-cons_cases n ns m h);
}
  where
    flip : (m : List ℕ) → (n ≡ m) ⊎ Contains ns m → (m ≡ n) ⊎ Contains ns m
    flip m (inl e) = inl (sym e)
    flip m (inr h) = inr h

record Next (s : Search) (p : Parent) : Type 0 where
  pub search : Search
  pub visits : Visits s search p

next : (s : Search) (p : Parent) → Next s p
next s (parent.Leaf n) = record { search = record { table = s.table; names = n ∷ s.names; todo = s.todo }; visits = (adds_front s.names n, refl, refl) }
next s (parent.Reference n) = at (look s.table n) refl
  where
    at : (o : Option (List Parent)) → look s.table n ≡ o → Next s (parent.Reference n)
    at None is = record {
      search = record { table = put s.table n []; names = n ∷ s.names; todo = s.todo };
      visits = (put_puts s.table n [], subst (λ o. Goes s.names (n ∷ s.names) s.todo s.todo n o) (sym is) (adds_front s.names n, refl));
    }
    at (Some ps) is = record {
      search = record { table = put s.table n []; names = s.names; todo = joined s.todo ps };
      visits = (put_puts s.table n [], subst (λ o. Goes s.names s.names s.todo (joined s.todo ps) n o) (sym is) (refl, refl));
    }

record Ending (xs : List Parent) : Type 0 where
  pub front : List Parent
  pub item : Parent
  pub is : xs ≡ front ++ item ∷ []

ending : (x : Parent) (xs : List Parent) → Ending (x ∷ xs)
ending x [] = record { front = []; item = x; is = refl }
ending x (y ∷ ys) = let e = ending y ys in record { front = x ∷ e.front; item = e.item; is = ap (λ zs. x ∷ zs) e.is }

record Ended (s : Search) : Type 0 where
  pub search : Search
  pub searched : Searches s search

ends : (k : ℕ) (s : Search) → load s < k → Ended s
ends zero s lt = absurd (omega arith)
ends (suc k) s lt = at s.todo refl (λ t less. ends k t (omega arith))
  where
    at : (todo : List Parent) → s.todo ≡ todo → ((t : Search) → load t < load s → Ended t) → Ended s
    at [] is go = record { search = s; searched = idle is }
    at (x ∷ xs) is go =
        let e = ending x xs in
        let last : s.todo ≡ e.front ++ e.item ∷ [] = is ∙ e.is in
        let n = next (with_todo s e.front) e.item in
        let more = go n.search (lighter s e.front e.item last n.search n.visits) in
        record { search = more.search; searched = turn e.front e.item last n.visits more.searched }

-- ---- names in order

abbrev below : List ℕ → List ℕ → Ordering
below x y = slice_cmp nat_cmp x y

abbrev insert_name : List ℕ → List (List ℕ) → List (List ℕ)
insert_name k [] = k ∷ []
insert_name k (x ∷ xs) = match_ordering (below k x) (k ∷ x ∷ xs) (x ∷ xs) (x ∷ insert_name k xs)

insert_here : (k : List ℕ) (xs : List (List ℕ)) → Contains (insert_name k xs) k
insert_here k [] = Contains-here k []
insert_here k (x ∷ xs) = at (below k x) refl (insert_here k xs)
  where
    at : (o : Ordering) → below k x ≡ o → Contains (insert_name k xs) k → Contains (match_ordering o (k ∷ x ∷ xs) (x ∷ xs) (x ∷ insert_name k xs)) k
    at Less is h = Contains-here k (x ∷ xs)
    at Equal is h = subst (λ n. Contains (x ∷ xs) n) (sym (exact_bytes k x is)) (Contains-here x xs)
    at Greater is h = Contains-there x (insert_name k xs) k h

insert_stays : (k : List ℕ) (xs : List (List ℕ)) (m : List ℕ) → Contains xs m → Contains (insert_name k xs) m
insert_stays k [] m h = absurd (none_in m h)
insert_stays k (x ∷ xs) m h = at (below k x) (Contains-cons_cases x xs m h) (insert_stays k xs m)
  where
    at : (o : Ordering) → (x ≡ m) ⊎ Contains xs m → (Contains xs m → Contains (insert_name k xs) m) → Contains (match_ordering o (k ∷ x ∷ xs) (x ∷ xs) (x ∷ insert_name k xs)) m
    at Less c go = Contains-there k (x ∷ xs) m h
    at Equal c go = h
    at Greater (inl e) go = subst (λ n. Contains (x ∷ insert_name k xs) n) e (Contains-here x (insert_name k xs))
    at Greater (inr g) go = Contains-there x (insert_name k xs) m (go g)

insert_only : (k : List ℕ) (xs : List (List ℕ)) (m : List ℕ) → Contains (insert_name k xs) m → (k ≡ m) ⊎ Contains xs m
insert_only k [] m h = Contains-cons_cases k [] m h
insert_only k (x ∷ xs) m h = at (below k x) h (insert_only k xs m)
  where
    deeper : (x ≡ m) ⊎ Contains (insert_name k xs) m → (Contains (insert_name k xs) m → (k ≡ m) ⊎ Contains xs m) → (k ≡ m) ⊎ Contains (x ∷ xs) m
    deeper (inl e) go = inr (subst (λ n. Contains (x ∷ xs) n) e (Contains-here x xs))
    deeper (inr g) go = wider (go g)
      where
        wider : (k ≡ m) ⊎ Contains xs m → (k ≡ m) ⊎ Contains (x ∷ xs) m
        wider (inl e) = inl e
        wider (inr g) = inr (Contains-there x xs m g)

    at : (o : Ordering) → Contains (match_ordering o (k ∷ x ∷ xs) (x ∷ xs) (x ∷ insert_name k xs)) m → (Contains (insert_name k xs) m → (k ≡ m) ⊎ Contains xs m) → (k ≡ m) ⊎ Contains (x ∷ xs) m
    at Less h go = Contains-cons_cases k (x ∷ xs) m h
    at Equal h go = inr h
    at Greater h go = deeper (Contains-cons_cases x (insert_name k xs) m h) go

all_below : (k x : List ℕ) (xs : List (List ℕ)) → below k x ≡ Less → AllByRecursion (λ y. below x y ≡ Less) xs → AllByRecursion (λ y. below k y ≡ Less) xs
all_below k x [] less all = tt
all_below k x (y ∷ xs) less all = (nat_list_cmp_total.trans k x y less all.0, all_below k x xs less all.1)

insert_below : (x k : List ℕ) (xs : List (List ℕ)) → below x k ≡ Less → AllByRecursion (λ y. below x y ≡ Less) xs → AllByRecursion (λ y. below x y ≡ Less) (insert_name k xs)
insert_below x k [] less all = (less, tt)
insert_below x k (y ∷ xs) less all = at (below k y) (insert_below x k xs less all.1)
  where
    at : (o : Ordering) → AllByRecursion (λ z. below x z ≡ Less) (insert_name k xs) → AllByRecursion (λ z. below x z ≡ Less) (match_ordering o (k ∷ y ∷ xs) (y ∷ xs) (y ∷ insert_name k xs))
    at Less h = (less, all)
    at Equal h = all
    at Greater h = (all.0, h)

insert_sorted : (k : List ℕ) (xs : List (List ℕ)) → IsStrictlySortedBy below xs → IsStrictlySortedBy below (insert_name k xs)
unfolding IsStrictlySortedBy
insert_sorted k [] sorted = (tt, tt)
insert_sorted k (x ∷ xs) sorted = at (below k x) refl (insert_sorted k xs sorted.1)
  where
    at : (o : Ordering) → below k x ≡ o → IsStrictlySortedBy below (insert_name k xs) → IsStrictlySortedBy below (match_ordering o (k ∷ x ∷ xs) (x ∷ xs) (x ∷ insert_name k xs))
    at Less is h = ((is, all_below k x xs is sorted.0), sorted)
    at Equal is h = sorted
    at Greater is h = (insert_below x k xs (nat_list_cmp_total.antisymm x k ∙ ap ordering_reverse is) sorted.0, h)

record InOrder (ns : List (List ℕ)) : Type 0 where
  pub names : List (List ℕ)
  pub ascends : IsStrictlySortedBy below names
  pub all : (m : List ℕ) → Contains ns m → Contains names m
  pub only : (m : List ℕ) → Contains names m → Contains ns m

nothing_sorted : IsStrictlySortedBy below []
unfolding IsStrictlySortedBy
nothing_sorted = tt

in_order : (ns : List (List ℕ)) → InOrder ns
in_order [] = record { names = []; ascends = nothing_sorted; all = λ m h. h; only = λ m h. h }
in_order (n ∷ ns) =
    let o = in_order ns in
    record {
      names = insert_name n o.names;
      ascends = insert_sorted n o.names o.ascends;
      all = λ m h. into m o (Contains-cons_cases n ns m h);
      only = λ m h. out m o (insert_only n o.names m h);
    }
  where
    into : (m : List ℕ) (o : InOrder ns) → (n ≡ m) ⊎ Contains ns m → Contains (insert_name n o.names) m
    into m o (inl e) = subst (λ k. Contains (insert_name n o.names) k) e (insert_here n o.names)
    into m o (inr h) = insert_stays n o.names m (o.all m h)

    out : (m : List ℕ) (o : InOrder ns) → (n ≡ m) ⊎ Contains o.names m → Contains (n ∷ ns) m
    out m o (inl e) = subst (λ k. Contains (n ∷ ns) k) e (Contains-here n ns)
    out m o (inr h) = Contains-there n ns m (o.only m h)

-- ---- entries have leaves, or no root

record SomeLeaves (es : List Entry) (root : Entry) : Type 0 where
  pub names : List (List ℕ)
  pub leaves : AreEntryLeaves es root names

some_leaves : (es : List Entry) (root : Entry) → SomeLeaves es root
some_leaves es root =
    let t = table_for es in
    let start : Search = record { table = t.0; names = []; todo = root.parents } in
    let e = ends (suc (load start)) start (omega arith) in
    let a = after es root start e.search (begins es root t.0 t.1) e.searched in
    let o = in_order e.search.names in
    record {
      names = o.names;
      leaves = record {
        ascending = o.ascends;
        members = λ n. (let iff = members es root e.search a.0 a.1 n in ((λ h. iff.0 (o.only n h)), (λ l. o.all n (iff.1 l))));
      };
    }

data Rooted (es : List Entry) : Type 0 where
  root : {e : Entry} → IsEntryRoot es e → Rooted es
  none : HasNoRoot es → Rooted es

rooted : (es : List Entry) → Rooted es
rooted [] = none (All-nil (λ e. RefutesEntry e → ⊥))
rooted (e ∷ es) = elim (cases_Bool e.refutes) [
  | inl yes_root ↦ root {e = e} (record { front = []; rest = es; stands = refl; refutes = yes_root; none = All-nil (λ e. RefutesEntry e → ⊥) })
  | inr plain ↦ later plain (rooted es)
]
  where
    not_here : e.refutes ≡ false → RefutesEntry e → ⊥
    not_here plain refutes = let wrong : true ≡ false = sym refutes ∙ plain in cc

    later : e.refutes ≡ false → Rooted es → Rooted (e ∷ es)
    later plain (root {e = r} is) = root {e = r} (record {
      front = e ∷ is.front;
      rest = is.rest;
      stands = ap (λ xs. e ∷ xs) is.stands;
      refutes = is.refutes;
      none = All-cons (λ e. RefutesEntry e → ⊥) e is.front (not_here plain) is.none;
    })
    later plain (none is) = none (All-cons (λ e. RefutesEntry e → ⊥) e es (not_here plain) is)

-- ---- each output has an answer

tokens_say : (from : ℕ) (bytes : List ℕ) (ts : List Token) → (a : Answer) × TokensSay from bytes ts a
tokens_say from bytes ts = at (faults.ends (tokens_of bytes ts))
  where
    roots : (es : List Entry) → Finishes (tokens_of bytes ts) es → Rooted es → (a : Answer) × TokensSay from bytes ts a
    roots es done (root {e} is) = let l = some_leaves es e in (Leaves l.names, together.found from bytes ts es done l.names (record { root = e; is_root = is; leaves = l.leaves }))
    roots es done (none is) = (NoProof, together.not_found from bytes ts es done fault.NoProof is)

    at : faults.Ends (tokens_of bytes ts) → (a : Answer) × TokensSay from bytes ts a
    at (faults.finished {es} done) = roots es done (rooted es)
    at (faults.stuck {place} stuck) = (BadText (from + place_of (length bytes) ts place), faulty (faults.sticks (tokens_of bytes ts) place stuck))

cut_says : (from : ℕ) (bytes : List ℕ) (c : Cut) → (a : Answer) × CutSays from bytes c a
cut_says from bytes (BadAt at) = (BadText (from + at), refl)
cut_says from bytes (Into ts) = tokens_say from bytes ts

part_says : (text : List ℕ) (o : Option Span) → (a : Answer) × PartSays text o a
part_says text None = (NoProof, refl)
part_says text (Some part) = cut_says part.from (bytes_of text part) (cut 0 0 (bytes_of text part))

pub some_answer : (text : List ℕ) → (a : Answer) × IsAnswer text a
some_answer text = by (succeeds text)
  where
    by : (b : Bool) → (a : Answer) × MatchBool b (PartSays text (part_of text) a) (a ≡ NoStatus)
    by true = part_says text (part_of text)
    by false = (NoStatus, refl)
