-- A search that has nothing left to look at has found the leaves that are reached.
use Rattle.std.proofs.Common.{◌≡◌, ◌≢◌, ℕ, ◌+◌, ◌<◌, ◌≤◌, Bool, true, false, List, [], ◌∷◌, ◌++◌, length, refl, sym, ◌∙◌, ap, subst, arith, inl, inr, Option, Some, None, length-append, take, drop, zero, suc, get_or, drop-cons, take-append-drop}
use Rattle.std.specs.Prelude.{◌⊎◌, ◌↔◌, Contains, if◌then◌else◌, nat_lt, slice_get, Result, Ok, Err, IfOk}
use Rattle.std.specs.List.Sorted.{IsStrictlySortedBy}
use Rattle.std.proofs.lemmas.Option.{get_or_from_slice_get}
use Rattle.std.specs.Ordering.{nat_cmp, is_eq, ordering_reverse}
use Rattle.std.specs.declared.cmp.Ordering.{Ordering}
use Rattle.std.specs.declared.cmp.Ordering.TheVariants.{Less, Equal, Greater}
use Rattle.std.specs.Cmp.Lexicographic.{slice_cmp}
use Rattle.std.proofs.lemmas.Cmp.{nat_list_cmp_total}
use Rattle.std.proofs.lemmas.Map.Lookups.{exact_bytes}
use Rattle.std.proofs.lemmas.Bool.{cases_Bool}
use Rattle.std.proofs.lemmas.List.Elements.{Contains-append_left, Contains-append_right, Contains-append_cases, Contains-push, Contains-push_cases}
use Rattle.tstp_read.specs.declared.sources.Parent.{Parent}
use Rattle.tstp_read.specs.declared.sources.Parent.TheVariants as parent
use Rattle.tstp_read.specs.declared.statements.Entry.{Entry}
use Rattle.tstp_read.specs.inner.Machine.{joined}
use Rattle.tstp_read.specs.Reached as reached
use Rattle.tstp_read.specs.inner.Leaves.{HasEntry, RefutesEntry, named, AreEntryLeaves, IsEntryRoot, HasNoRoot, Found}
use Rattle.tstp_read.specs.inner.Table.{Table, same, look, weight, listed, Puts, Adds, gathered, IsTable, Search, Follows, Visits, with_todo, Notes, Searches, idle, turn as one_turn}
use Rattle.tstp_read.proofs.Lists.{none_in, Contains-here, Contains-there, Contains-cons_cases}
use Rattle.tstp_read.proofs.Giving.{joined_left, joined_right, joined_either}
use Rattle.tstp_read.proofs.Bridge.{ReachedEntry}

-- ---- equal names

is_equal : (o : Ordering) → is_eq o ≡ true → o ≡ Equal
is_equal Less e = absurd cc
is_equal Equal e = refl
is_equal Greater e = absurd cc

pub same_is : (a b : List ℕ) → same a b ≡ true → a ≡ b
same_is a b e = exact_bytes a b (is_equal (slice_cmp nat_cmp a b) e)

pub same_self : (a : List ℕ) → same a a ≡ true
same_self a = at (slice_cmp nat_cmp a a) (nat_list_cmp_total.antisymm a a)
  where
    at : (o : Ordering) → o ≡ ordering_reverse o → is_eq o ≡ true
    at Less e = cc
    at Equal e = refl
    at Greater e = cc

pub not_same : (a b : List ℕ) → a ≢ b → same a b ≡ false
not_same a b apart = elim (cases_Bool (same a b)) [ inl e ↦ absurd (apart (same_is a b e)) | inr e ↦ e ]

pub either_name : (a b : List ℕ) → (a ≡ b) ⊎ (a ≢ b)
either_name a b = elim (cases_Bool (same a b)) [
  | inl e ↦ inl (same_is a b e)
  | inr e ↦ inr (λ is. let yes_same : same a b ≡ true = ap (same a) (sym is) ∙ same_self a in cc)
]

-- ---- what is gathered for a name

abbrev pub In : Option (List Parent) → Parent → Type 0
In o p = Contains (listed o) p

record Source (es : List Entry) (n : List ℕ) (p : Parent) : Type 0 where
  pub entry : Entry
  pub among : Contains es entry
  pub called : entry.name ≡ n
  pub gives : Contains entry.parents p

gathered_from : (es : List Entry) (n : List ℕ) (p : Parent) → In (gathered n es) p → Source es n p
gathered_from [] n p h = absurd (none_in p h)
gathered_from (e ∷ es) n p h = by (same n e.name) refl h (gathered_from es n p)
  where
    more : Source es n p → Source (e ∷ es) n p
    more s = record { entry = s.entry; among = Contains-there e es s.entry s.among; called = s.called; gives = s.gives }

    either : n ≡ e.name → In (gathered n es) p ⊎ Contains e.parents p → (In (gathered n es) p → Source es n p) → Source (e ∷ es) n p
    either is (inl h) go = more (go h)
    either is (inr h) go = record { entry = e; among = Contains-here e es; called = sym is; gives = h }

    by : (b : Bool) → same n e.name ≡ b → In (if b then Some (joined (listed (gathered n es)) e.parents) else gathered n es) p → (In (gathered n es) p → Source es n p) → Source (e ∷ es) n p
    by true is h go = either (same_is n e.name is) (joined_either (listed (gathered n es)) e.parents p h) go
    by false is h go = more (go h)

gathered_all : (es : List Entry) (n : List ℕ) (e : Entry) (p : Parent) → Contains es e → e.name ≡ n → Contains e.parents p → In (gathered n es) p
gathered_all [] n e p among is h = absurd (none_in e among)
gathered_all (x ∷ es) n e p among is h = at (Contains-cons_cases x es e among) (λ a. gathered_all es n e p a is h)
  where
    here : x ≡ e → same n x.name ≡ true
    here f = ap (same n) (ap named f ∙ is) ∙ same_self n

    by : (b : Bool) → In (gathered n es) p → In (if b then Some (joined (listed (gathered n es)) x.parents) else gathered n es) p
    by true g = joined_left (listed (gathered n es)) x.parents p g
    by false g = g

    at : (x ≡ e) ⊎ Contains es e → (Contains es e → In (gathered n es) p) → In (gathered n (x ∷ es)) p
    at (inl f) go = subst (λ b. In (if b then Some (joined (listed (gathered n es)) x.parents) else gathered n es) p) (sym (here f))
        (joined_right (listed (gathered n es)) x.parents p (subst (λ (y : Entry). Contains y.parents p) (sym f) h))
    at (inr a) go = by (same n x.name) (go a)

abbrev pub Unknown : List Entry → List ℕ → Type 0
Unknown es n = reached.IsUnknown Entry named HasEntry es n

gathered_none : (es : List Entry) (n : List ℕ) → gathered n es ≡ None → Unknown es n
gathered_none [] n none e among is = none_in e among
gathered_none (x ∷ es) n none e among is = by (same n x.name) refl none (gathered_none es n)
  where
    at : same n x.name ≡ false → (x ≡ e) ⊎ Contains es e → gathered n es ≡ None → (gathered n es ≡ None → Unknown es n) → ⊥
    at apart (inl f) rest go = let wrong : same n x.name ≡ true = ap (same n) (ap named f ∙ is) ∙ same_self n in cc
    at apart (inr a) rest go = go rest e a is

    by : (b : Bool) → same n x.name ≡ b → (if b then Some (joined (listed (gathered n es)) x.parents) else gathered n es) ≡ None → (gathered n es ≡ None → Unknown es n) → ⊥
    by true eq none go = cc
    by false eq none go = at eq (Contains-cons_cases x es e among) none go

gathered_unknown : (es : List Entry) (n : List ℕ) → Unknown es n → gathered n es ≡ None
gathered_unknown [] n unknown = refl
gathered_unknown (x ∷ es) n unknown =
    let apart : same n x.name ≡ false = not_same n x.name (λ is. unknown x (Contains-here x es) (sym is)) in
    ap (λ b. if b then Some (joined (listed (gathered n es)) x.parents) else gathered n es) apart
    ∙ gathered_unknown es n (λ e among is. unknown e (Contains-there x es e among) is)

-- ---- a search so far

abbrev pub Leaf_of : List Entry → Entry → List ℕ → Type 0
Leaf_of es root n = reached.IsLeaf Entry named HasEntry es root n

abbrev pub Done : Search → Parent → Type 0
Done s (parent.Leaf n) = Contains s.names n
Done s (parent.Reference n) = look s.table n ≡ Some []

abbrev pub Covered : Search → Parent → Type 0
Covered s p = Contains s.todo p ⊎ Done s p

-- the reference has been looked at
pub record Opened (es : List Entry) (s : Search) (n : List ℕ) : Type 0 where
  pub empty : look s.table n ≡ Some []
  pub covered : (p : Parent) → In (gathered n es) p → Covered s p
  pub unknown : gathered n es ≡ None → Contains s.names n

pub record SoFar (es : List Entry) (root : Entry) (s : Search) : Type 0 where
  pub own : (p : Parent) → Contains root.parents p → Covered s p
  pub groups : (n : List ℕ) → (look s.table n ≡ gathered n es) ⊎ Opened es s n
  pub to_do : (p : Parent) → Contains s.todo p → ReachedEntry es root p
  pub found : (n : List ℕ) → Contains s.names n → Leaf_of es root n

pub begins : (es : List Entry) (root : Entry) (t : Table) → IsTable es t → SoFar es root (record { table = t; names = []; todo = root.parents })
begins es root t is = record {
  own = λ p h. inl h;
  groups = λ n. inl (is n);
  to_do = λ p h. reached.own h;
  found = λ n h. absurd (none_in n h);
}

-- all is done at the end
module _ (es : List Entry) (root : Entry) (s : Search) (so_far : SoFar es root s) (idle : s.todo ≡ []) where
  done : (p : Parent) → Covered s p → Done s p
  done p (inl h) = absurd (none_in p (subst (λ ps. Contains ps p) idle h))
  done p (inr d) = d

  in_group : (n : List ℕ) (e : Entry) (p : Parent) → Contains es e → e.name ≡ n → Contains e.parents p → look s.table n ≡ Some [] →
      (look s.table n ≡ gathered n es) ⊎ Opened es s n → Done s p
  in_group n e p among is h empty (inl same) = absurd (none_in p (subst (λ o. In o p) (sym same ∙ empty) (gathered_all es n e p among is h)))
  in_group n e p among is h empty (inr o) = done p (o.covered p (gathered_all es n e p among is h))

  all_done : (p : Parent) → ReachedEntry es root p → Done s p
  all_done p (reached.own h) = done p (so_far.own p h)
  all_done p (reached.from {n} {s = e} r among is h) = in_group n e p among is h (all_done (parent.Reference n) r) (so_far.groups n)

  unknown_found : (n : List ℕ) → Unknown es n → look s.table n ≡ Some [] → (look s.table n ≡ gathered n es) ⊎ Opened es s n → Contains s.names n
  unknown_found n none empty (inl same) = let wrong : Some [] ≡ None = sym empty ∙ same ∙ gathered_unknown es n none in absurd cc
  unknown_found n none empty (inr o) = o.unknown (gathered_unknown es n none)

  leaf_found : (n : List ℕ) → Leaf_of es root n → Contains s.names n
  leaf_found n (inl r) = all_done (parent.Leaf n) r
  leaf_found n (inr r) = unknown_found n r.1 (all_done (parent.Reference n) r.0) (so_far.groups n)

  pub members : (n : List ℕ) → Contains s.names n ↔ Leaf_of es root n
  members n = ((λ h. so_far.found n h), (λ l. leaf_found n l))

-- ---- a turn: the last one to look at is taken out and looked at

module _ (es : List Entry) (root : Entry) (s : Search) (so_far : SoFar es root s) (rest : List Parent) where
  module _ (n : List ℕ) (is : s.todo ≡ rest ++ parent.Leaf n ∷ []) (new : Search) (adds : Adds s.names new.names n) (table : new.table ≡ s.table) (todo : new.todo ≡ rest) where
    leaf_todo : (q : Parent) → Contains rest q ⊎ (parent.Leaf n ≡ q) → Covered new q
    leaf_todo q (inl h) = inl (subst (λ ps. Contains ps q) (sym todo) h)
    leaf_todo q (inr e) = inr (subst (Done new) e adds.here)

    leaf_done : (q : Parent) → Done s q → Done new q
    leaf_done (parent.Leaf m) h = adds.stays m h
    leaf_done (parent.Reference m) h = ap (λ t. look t m) table ∙ h

    leaf_keeps : (q : Parent) → Covered s q → Covered new q
    leaf_keeps q (inl h) = leaf_todo q (Contains-push_cases rest (parent.Leaf n) q (subst (λ ps. Contains ps q) is h))
    leaf_keeps q (inr d) = inr (leaf_done q d)

    leaf_group : (m : List ℕ) → (look s.table m ≡ gathered m es) ⊎ Opened es s m → (look new.table m ≡ gathered m es) ⊎ Opened es new m
    leaf_group m (inl e) = inl (ap (λ t. look t m) table ∙ e)
    leaf_group m (inr o) = inr (record { empty = ap (λ t. look t m) table ∙ o.empty; covered = λ p h. leaf_keeps p (o.covered p h); unknown = λ e. adds.stays m (o.unknown e) })

    leaf_named : (m : List ℕ) → (m ≡ n) ⊎ Contains s.names m → Leaf_of es root m
    leaf_named m (inl e) = subst (Leaf_of es root) (sym e) (inl (so_far.to_do (parent.Leaf n) (subst (λ ps. Contains ps (parent.Leaf n)) (sym is) (Contains-push rest (parent.Leaf n)))))
    leaf_named m (inr h) = so_far.found m h

    pub leaf_turn : SoFar es root new
    leaf_turn = record {
      own = λ p h. leaf_keeps p (so_far.own p h);
      groups = λ m. leaf_group m (so_far.groups m);
      to_do = λ p h. so_far.to_do p (subst (λ ps. Contains ps p) (sym is) (Contains-append_left rest (parent.Leaf n ∷ []) p (subst (λ ps. Contains ps p) todo h)));
      found = λ m h. leaf_named m (adds.only m h);
    }

  -- what a turn at a reference does to the names and to what is to be done
  record Reaches (n : List ℕ) (new : Search) : Type 0 where
    pub stays : (m : List ℕ) → Contains s.names m → Contains new.names m
    pub found : (m : List ℕ) → Contains new.names m → ((m ≡ n) × (look s.table n ≡ None)) ⊎ Contains s.names m
    pub unknown : look s.table n ≡ None → Contains new.names n
    pub keeps : (q : Parent) → Contains rest q → Contains new.todo q
    pub goes : (q : Parent) → In (look s.table n) q → Contains new.todo q
    pub only : (q : Parent) → Contains new.todo q → Contains rest q ⊎ In (look s.table n) q

  module _ (n : List ℕ) (is : s.todo ≡ rest ++ parent.Reference n ∷ []) (new : Search) (puts : Puts s.table new.table n []) (reaches : Reaches n new) where
    looked : (m : List ℕ) → (m ≡ n) ⊎ (m ≢ n) → look s.table m ≡ Some [] → look new.table m ≡ Some []
    looked m (inl e) h = ap (look new.table) e ∙ puts.here
    looked m (inr apart) h = puts.others m apart ∙ h

    ref_todo : (q : Parent) → Contains rest q ⊎ (parent.Reference n ≡ q) → Covered new q
    ref_todo q (inl h) = inl (reaches.keeps q h)
    ref_todo q (inr e) = inr (subst (Done new) e puts.here)

    ref_done : (q : Parent) → Done s q → Done new q
    ref_done (parent.Leaf m) h = reaches.stays m h
    ref_done (parent.Reference m) h = looked m (either_name m n) h

    ref_keeps : (q : Parent) → Covered s q → Covered new q
    ref_keeps q (inl h) = ref_todo q (Contains-push_cases rest (parent.Reference n) q (subst (λ ps. Contains ps q) is h))
    ref_keeps q (inr d) = inr (ref_done q d)

    opened_here : (look s.table n ≡ gathered n es) ⊎ Opened es s n → Opened es new n
    opened_here (inl e) = record {
      empty = puts.here;
      covered = λ p h. inl (reaches.goes p (subst (λ o. In o p) (sym e) h));
      unknown = λ none. reaches.unknown (e ∙ none);
    }
    opened_here (inr o) = record { empty = puts.here; covered = λ p h. ref_keeps p (o.covered p h); unknown = λ none. reaches.stays n (o.unknown none) }

    ref_group : (m : List ℕ) → (m ≡ n) ⊎ (m ≢ n) → (look s.table m ≡ gathered m es) ⊎ Opened es s m → (look new.table m ≡ gathered m es) ⊎ Opened es new m
    ref_group m (inl e) g = inr (subst (Opened es new) (sym e) (opened_here (so_far.groups n)))
    ref_group m (inr apart) (inl e) = inl (puts.others m apart ∙ e)
    ref_group m (inr apart) (inr o) = inr (record { empty = puts.others m apart ∙ o.empty; covered = λ p h. ref_keeps p (o.covered p h); unknown = λ none. reaches.stays m (o.unknown none) })

    reached_here : ReachedEntry es root (parent.Reference n)
    reached_here = so_far.to_do (parent.Reference n) (subst (λ ps. Contains ps (parent.Reference n)) (sym is) (Contains-push rest (parent.Reference n)))

    ref_found : (m : List ℕ) → ((m ≡ n) × (look s.table n ≡ None)) ⊎ Contains s.names m → Leaf_of es root m
    ref_found m (inr h) = so_far.found m h
    ref_found m (inl h) = subst (Leaf_of es root) (sym h.0) (inr (reached_here, at (so_far.groups n)))
      where
        at : (look s.table n ≡ gathered n es) ⊎ Opened es s n → Unknown es n
        at (inl e) = gathered_none es n (sym e ∙ h.1)
        at (inr o) = let wrong : Some [] ≡ None = sym o.empty ∙ h.1 in absurd cc

    from_group : (q : Parent) → In (look s.table n) q → (look s.table n ≡ gathered n es) ⊎ Opened es s n → ReachedEntry es root q
    from_group q h (inl e) =
        let src = gathered_from es n q (subst (λ o. In o q) e h) in
        reached.from {n = n} {s = src.entry} reached_here src.among src.called src.gives
    from_group q h (inr o) = absurd (none_in q (subst (λ x. In x q) o.empty h))

    ref_reached : (q : Parent) → Contains rest q ⊎ In (look s.table n) q → ReachedEntry es root q
    ref_reached q (inl h) = so_far.to_do q (subst (λ ps. Contains ps q) (sym is) (Contains-append_left rest (parent.Reference n ∷ []) q h))
    ref_reached q (inr h) = from_group q h (so_far.groups n)

    ref_turn : SoFar es root new
    ref_turn = record {
      own = λ p h. ref_keeps p (so_far.own p h);
      groups = λ m. ref_group m (either_name m n) (so_far.groups m);
      to_do = λ p h. ref_reached p (reaches.only p h);
      found = λ m h. ref_found m (reaches.found m h);
    }

  reaches_all : (n : List ℕ) (new : Search) → Follows (with_todo s rest) new n (look s.table n) → Reaches n new
  reaches_all n new = at (look s.table n) refl
    where
      at : (o : Option (List Parent)) → look s.table n ≡ o → Follows (with_todo s rest) new n o → Reaches n new
      at None none f = record {
        stays = f.0.stays;
        found = λ m h. unknown_here m (f.0.only m h);
        unknown = λ e. f.0.here;
        keeps = λ q h. subst (λ ps. Contains ps q) (sym f.1) h;
        goes = λ q h. absurd (none_in q (subst (λ o. In o q) none h));
        only = λ q h. inl (subst (λ ps. Contains ps q) f.1 h);
      }
        where
          unknown_here : (m : List ℕ) → (m ≡ n) ⊎ Contains s.names m → ((m ≡ n) × (look s.table n ≡ None)) ⊎ Contains s.names m
          unknown_here m (inl e) = inl (e, none)
          unknown_here m (inr h) = inr h
      at (Some ps) some f = record {
        stays = λ m h. subst (λ ns. Contains ns m) (sym f.0) h;
        found = λ m h. inr (subst (λ ns. Contains ns m) f.0 h);
        unknown = λ e. (let wrong : Some ps ≡ None = sym some ∙ e in absurd cc);
        keeps = λ q h. subst (λ qs. Contains qs q) (sym f.1) (joined_left rest ps q h);
        goes = λ q h. subst (λ qs. Contains qs q) (sym f.1) (joined_right rest ps q (subst (λ o. In o q) some h));
        only = λ q h. given_here q (joined_either rest ps q (subst (λ qs. Contains qs q) f.1 h));
      }
        where
          given_here : (q : Parent) → Contains rest q ⊎ Contains ps q → Contains rest q ⊎ In (look s.table n) q
          given_here q (inl h) = inl h
          given_here q (inr h) = inr (subst (λ o. In o q) (sym some) h)

  pub turn : (p : Parent) → s.todo ≡ rest ++ p ∷ [] → (new : Search) → Visits (with_todo s rest) new p → SoFar es root new
  turn (parent.Leaf n) is new v = leaf_turn n is new v.0 v.1 v.2
  turn (parent.Reference n) is new v = ref_turn n is new v.0 (reaches_all n new v.1)

-- ---- each turn leaves less to do

abbrev pub load : Search → ℕ
load s = weight s.table + length s.todo

joined_length : (ps qs : List Parent) → length (joined ps qs) ≡ length ps + length qs
joined_length ps qs = by (nat_lt (length ps) (length qs))
  where
    by : (b : Bool) → length (if b then qs ++ ps else ps ++ qs) ≡ length ps + length qs
    by true = omega (arith, length-append qs ps)
    by false = omega (arith, length-append ps qs)

pub lighter : (s : Search) (rest : List Parent) (p : Parent) → s.todo ≡ rest ++ p ∷ [] → (new : Search) → Visits (with_todo s rest) new p → load new < load s
lighter s rest (parent.Leaf n) is new v = omega (arith, ap weight v.1, ap (λ (xs : List Parent). length xs) v.2, ap (λ (xs : List Parent). length xs) is, length-append rest (parent.Leaf n ∷ []))
lighter s rest (parent.Reference n) is new v = at (look s.table n) refl v.1
  where
    count : length s.todo ≡ length rest + 1
    count = ap (λ (xs : List Parent). length xs) is ∙ length-append rest (parent.Reference n ∷ [])

    at : (o : Option (List Parent)) → look s.table n ≡ o → Follows (with_todo s rest) new n o → load new < load s
    at None none f = let less = v.0.lighter in omega (arith, count, ap (λ (xs : List Parent). length xs) f.1)
    at (Some ps) some f =
        let less : weight new.table + length ps ≤ weight s.table + 0 = subst (λ o. weight new.table + length (listed o) ≤ weight s.table + 0) some v.0.lighter in
        let grown : length new.todo ≡ length rest + length ps = ap (λ (xs : List Parent). length xs) f.1 ∙ joined_length rest ps in
        omega (arith, count)

pub after : (es : List Entry) (root : Entry) (s u : Search) → SoFar es root s → Searches s u → SoFar es root u × (u.todo ≡ [])
after es root s u so_far (idle e) = (so_far, e)
after es root s u so_far (one_turn {t} rest p is visits more) = after es root t u (turn es root s so_far rest p is t visits) more

-- ---- the table of all entries

pub noted : (done : List Entry) (t u : Table) (e : Entry) → IsTable done t → Notes t u e → IsTable (e ∷ done) u
noted done t u e is notes n = at (either_name n e.name)
  where
    at : (n ≡ e.name) ⊎ (n ≢ e.name) → look u n ≡ gathered n (e ∷ done)
    at (inl i) =
        ap (look u) i ∙ notes.here ∙ ap (λ o. Some (joined (listed o) e.parents)) (is e.name ∙ ap (λ m. gathered m done) (sym i))
        ∙ ap (λ b. if b then Some (joined (listed (gathered n done)) e.parents) else gathered n done) (sym (ap (same n) (sym i) ∙ same_self n))
    at (inr apart) =
        notes.others n apart ∙ is n ∙ ap (λ b. if b then Some (joined (listed (gathered n done)) e.parents) else gathered n done) (sym (not_same n e.name apart))

-- ---- what the search has found

pub leaves_found : (es : List Entry) (root : Entry) (t : Table) (u : Search) (names : List (List ℕ)) → IsTable es t →
    Searches (record { table = t; names = []; todo = root.parents }) u → u.names ≡ names → IsStrictlySortedBy (slice_cmp nat_cmp) names → AreEntryLeaves es root names
leaves_found es root t u names is searched same_names ascends =
    let a = after es root (record { table = t; names = []; todo = root.parents }) u (begins es root t is) searched in
    record { ascending = ascends; members = λ n. subst (λ ns. Contains ns n ↔ Leaf_of es root n) same_names (members es root u a.0 a.1 n) }

pub root_at : (es : List Entry) (at : ℕ) (e : Entry) → HasNoRoot (take at es) → at < length es → slice_get es at ≡ Some e → RefutesEntry e → IsEntryRoot es e
root_at es at e none lt is refutes = record {
  front = take at es;
  rest = drop (suc at) es;
  stands = sym (take-append-drop at es) ∙ ap (λ xs. take at es ++ xs) (drop-cons es at e lt ∙ ap (λ x. x ∷ drop (suc at) es) (get_or_from_slice_get es at e e is));
  refutes = refutes;
  none = none;
}

pub refutes_at : (es : List Entry) (at : ℕ) (e x : Entry) → slice_get es at ≡ Some e → x ≡ get_or es at x → x.refutes ≡ true → RefutesEntry e
refutes_at es at e x is here refutes = subst RefutesEntry (here ∙ get_or_from_slice_get es at e x is) refutes

pub placed : (es : List Entry) (at : ℕ) → at < length es → (e : Entry) × (slice_get es at ≡ Some e)
placed [] at lt = absurd (omega arith)
placed (e ∷ es) zero lt = (e, refl)
placed (e ∷ es) (suc at) lt = placed es at (omega arith)

pub when_ordered : {E : Type 0} (r : Result (List (List ℕ)) E) (ns : List (List ℕ)) {Q : List (List ℕ) → Type 0} → IfOk r (λ out. out ≡ ns) → IfOk r (λ out. IsStrictlySortedBy (slice_cmp nat_cmp) out) →
    ((out : List (List ℕ)) → out ≡ ns → IsStrictlySortedBy (slice_cmp nat_cmp) out → Q out) → IfOk r Q
when_ordered (Ok out) ns same ascends go = go out same ascends
when_ordered (Err e) ns same ascends go = tt

pub leaves_at : (es : List Entry) (at : ℕ) (root : Entry) → slice_get es at ≡ Some root → (t : Table) (todo : List Parent) → todo ≡ root.parents → (u : Search) (names : List (List ℕ)) → IsTable es t →
    Searches (record { table = t; names = []; todo = todo }) u → u.names ≡ names → IsStrictlySortedBy (slice_cmp nat_cmp) names → (e : Entry) → slice_get es at ≡ Some e → AreEntryLeaves es e names
leaves_at es at root here t todo own u names is searched same_names ascends e there =
    let same_root : root ≡ e = some_same (sym here ∙ there) in
    subst (λ x. AreEntryLeaves es x names) same_root
    (leaves_found es root t u names is (subst (λ ps. Searches (record { table = t; names = []; todo = ps }) u) own searched) same_names ascends)
  where
    some_same : {A : Type 0} {x y : A} → Some x ≡ Some y → x ≡ y
    some_same e = cc

pub found_at : (es fs : List Entry) → fs ≡ es → (at : ℕ) → at < length fs → ((e : Entry) → slice_get fs at ≡ Some e → IsEntryRoot fs e) → (names : List (List ℕ)) →
    ((e : Entry) → slice_get es at ≡ Some e → AreEntryLeaves es e names) → Found es names
found_at es fs same at lt roots names leaves =
    let p = placed fs at lt in
    record {
      root = p.0;
      is_root = subst (λ xs. IsEntryRoot xs p.0) same (roots p.0 p.1);
      leaves = leaves p.0 (ap (λ xs. slice_get xs at) (sym same) ∙ p.1);
    }
