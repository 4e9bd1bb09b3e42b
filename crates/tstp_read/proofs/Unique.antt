-- No output has two answers.
use Rattle.std.proofs.Common.{◌≡◌, ℕ, ◌+◌, ◌<◌, ◌≤◌, Bool, true, false, List, [], ◌∷◌, ◌++◌, length, refl, sym, ◌∙◌, ap, subst, arith, inl, inr, Option, Some, None}
use Rattle.std.specs.Prelude.{All, ◌⊎◌, ◌↔◌, Contains, MatchBool}
use Rattle.std.specs.Ordering.{nat_cmp, ordering_reverse}
use Rattle.std.proofs.lemmas.Cmp.{nat_list_cmp_total}
use Rattle.std.specs.declared.cmp.Ordering.{Ordering}
use Rattle.std.specs.declared.cmp.Ordering.TheVariants.{Less, Equal, Greater}
use Rattle.std.specs.Cmp.Lexicographic.{slice_cmp}
use Rattle.std.specs.List.{AllByRecursion}
use Rattle.std.specs.List.Sorted.{IsStrictlySortedBy}
use Rattle.std.proofs.lemmas.List.Elements.{All-append, All-cons, All-nil, All-head, All-tail, All-contains, Contains-append_left, Contains-append_right, Contains-push, All-from_recursion}
use Rattle.std.proofs.lemmas.Map.Keys.{sorted_head, sorted_tail}
use Rattle.tstp_read.specs.declared.lines.Span.{Span}
use Rattle.tstp_read.specs.declared.tokens.Token.{Token}
use Rattle.tstp_read.specs.declared.sources.Parent.{Parent}
use Rattle.tstp_read.specs.declared.statements.Entry.{Entry}
use Rattle.tstp_read.specs.declared.statements.Reader.{Reader}
use Rattle.tstp_read.specs.Lines.{succeeds, part_of, bytes_of}
use Rattle.tstp_read.specs.Tokens.{Cut, Into, BadAt, cut, Tok, tokens_of}
use Rattle.tstp_read.specs.Statements.{Statement, IsStatement, IsList, IsFault, Refutes}
use Rattle.tstp_read.specs.Reached as reached
use Rattle.tstp_read.specs.inner.Leaves.{HasEntry, RefutesEntry, named}
use Rattle.tstp_read.specs.Used.{Answer, NoStatus, NoProof, BadText, Leaves, IsAnswer, PartSays, BytesSay, CutSays, TokensSay, Says, faulty, rootless, rooted, place_of, AreLeaves}
use Rattle.tstp_read.proofs.Lists.{none_in, Contains-here, Contains-there, Contains-cons_cases, All-front, All-back}
use Rattle.tstp_read.proofs.Walk.{entry, entries, complete}
use Rattle.tstp_read.proofs.Faults.{no_fault, one_fault}
use Rattle.tstp_read.proofs.Bridge.{RootEntry, RootTree, root_entry, no_root_entry, leaves_entry}

some_same : {A : Type 0} {x y : A} → Some x ≡ Some y → x ≡ y
some_same e = cc

-- two readings of the same tokens tell the same
pub same_entries : (ts : List Tok) (ss rr : List Statement) → IsList ts ss → IsList ts rr → entries ss ≡ entries rr
same_entries ts ss rr a b =
    let x = complete ts ss a in
    let y = complete ts rr b in
    sym x.between.read ∙ ap (λ (r : Reader). r.statements) (some_same (sym x.ran ∙ y.ran)) ∙ y.between.read

-- ---- roots

abbrev NoneRefutes : List Entry → Type 0
NoneRefutes es = All (λ e. RefutesEntry e → ⊥) es

no_root_root : (es : List Entry) (e : Entry) → NoneRefutes es → RootEntry es e → ⊥
no_root_root es e none root =
    All-contains (λ e. RefutesEntry e → ⊥) es e none
    (subst (λ xs. Contains xs e) (sym root.stands) (Contains-append_right root.front (e ∷ root.rest) e (Contains-here e root.rest))) root.refutes

first_root : (front rest others more : List Entry) (a b : Entry) → front ++ a ∷ rest ≡ others ++ b ∷ more → RefutesEntry a → RefutesEntry b → NoneRefutes front → NoneRefutes others → a ≡ b
first_root [] rest [] more a b e r s none nothing = cc
first_root [] rest (y ∷ others) more a b e r s none nothing =
    let same : a ≡ y = cc in absurd (All-head (λ e. RefutesEntry e → ⊥) y others nothing (subst RefutesEntry same r))
first_root (x ∷ front) rest [] more a b e r s none nothing =
    let same : x ≡ b = cc in absurd (All-head (λ e. RefutesEntry e → ⊥) x front none (subst RefutesEntry (sym same) s))
first_root (x ∷ front) rest (y ∷ others) more a b e r s none nothing =
    let tails : front ++ a ∷ rest ≡ others ++ b ∷ more = cc in
    first_root front rest others more a b tails r s (All-tail (λ e. RefutesEntry e → ⊥) x front none) (All-tail (λ e. RefutesEntry e → ⊥) y others nothing)

one_root : (es : List Entry) (a b : Entry) → RootEntry es a → RootEntry es b → a ≡ b
one_root es a b r s = first_root r.front r.rest s.front s.rest a b (sym r.stands ∙ s.stands) r.refutes s.refutes r.none s.none

-- ---- ascending lists with the same members are the same

abbrev below : List ℕ → List ℕ → Ordering
below x y = slice_cmp nat_cmp x y

above : (x : List ℕ) (xs : List (List ℕ)) → IsStrictlySortedBy below (x ∷ xs) → (y : List ℕ) → Contains xs y → below x y ≡ Less
above x xs sorted y h = All-contains (λ y. below x y ≡ Less) xs y (All-from_recursion (λ y. below x y ≡ Less) xs (sorted_head below x xs sorted)) h

never_both : (x y : List ℕ) → below x y ≡ Less → below y x ≡ Less → ⊥
never_both x y a b = let flipped = nat_list_cmp_total.antisymm x y in let wrong : Less ≡ Greater = sym a ∙ flipped ∙ ap ordering_reverse b in cc

heads_same : (x y : List ℕ) (xs ys : List (List ℕ)) → IsStrictlySortedBy below (x ∷ xs) → IsStrictlySortedBy below (y ∷ ys) → Contains (y ∷ ys) x → Contains (x ∷ xs) y → x ≡ y
heads_same x y xs ys s t a b = at (Contains-cons_cases y ys x a) (Contains-cons_cases x xs y b)
  where
    at : (y ≡ x) ⊎ Contains ys x → (x ≡ y) ⊎ Contains xs y → x ≡ y
    at (inl e) h = sym e
    at (inr g) (inl e) = e
    at (inr g) (inr h) = absurd (never_both x y (above x xs s y h) (above y ys t x g))

tail_in : (x : List ℕ) (xs ys : List (List ℕ)) → IsStrictlySortedBy below (x ∷ xs) → ((n : List ℕ) → Contains (x ∷ xs) n → Contains (x ∷ ys) n) → (n : List ℕ) → Contains xs n → Contains ys n
tail_in x xs ys s all n h = at (Contains-cons_cases x ys n (all n (Contains-there x xs n h)))
  where
    at : (x ≡ n) ⊎ Contains ys n → Contains ys n
    at (inl e) = let less : below x x ≡ Less = subst (λ m. below x m ≡ Less) (sym e) (above x xs s n h) in absurd (never_both x x less less)
    at (inr g) = g

pub same_list : (xs ys : List (List ℕ)) → IsStrictlySortedBy below xs → IsStrictlySortedBy below ys → ((n : List ℕ) → Contains xs n → Contains ys n) → ((n : List ℕ) → Contains ys n → Contains xs n) → xs ≡ ys
same_list [] [] s t a b = refl
same_list [] (y ∷ ys) s t a b = absurd (none_in y (b y (Contains-here y ys)))
same_list (x ∷ xs) [] s t a b = absurd (none_in x (a x (Contains-here x xs)))
same_list (x ∷ xs) (y ∷ ys) s t a b =
    let e : x ≡ y = heads_same x y xs ys s t (a x (Contains-here x xs)) (b y (Contains-here y ys)) in
    let a' : (n : List ℕ) → Contains (x ∷ xs) n → Contains (x ∷ ys) n = λ n h. subst (λ z. Contains (z ∷ ys) n) (sym e) (a n h) in
    let b' : (n : List ℕ) → Contains (y ∷ ys) n → Contains (y ∷ xs) n = λ n h. subst (λ z. Contains (z ∷ xs) n) e (b n h) in
    ap (λ z. z ∷ xs) e ∙ ap (λ zs. y ∷ zs) (same_list xs ys (sorted_tail below x xs s) (sorted_tail below y ys t) (tail_in x xs ys s a') (tail_in y ys xs t b'))

one_leaves : (es : List Entry) (root : Entry) (xs ys : List (List ℕ)) → reached.AreLeaves Entry named HasEntry es root xs → reached.AreLeaves Entry named HasEntry es root ys → xs ≡ ys
one_leaves es root xs ys a b = same_list xs ys a.ascending b.ascending (λ n h. (b.members n).1 ((a.members n).0 h)) (λ n h. (a.members n).1 ((b.members n).0 h))

-- ---- one answer

one_rooted : (toks : List Tok) (ss rr : List Statement) (r s : Statement) (xs ys : List (List ℕ)) → IsList toks ss → IsList toks rr →
    RootTree ss r → RootTree rr s → AreLeaves ss r xs → AreLeaves rr s ys → xs ≡ ys
one_rooted toks ss rr r s xs ys a b c d e f =
    let same = same_entries toks ss rr a b in
    let root_is : entry r ≡ entry s = one_root (entries rr) (entry r) (entry s) (subst (λ es. RootEntry es (entry r)) same (root_entry ss r a.sound c)) (root_entry rr s b.sound d) in
    let first = subst (λ es. reached.AreLeaves Entry named HasEntry es (entry s) xs) same (subst (λ q. reached.AreLeaves Entry named HasEntry (entries ss) q xs) root_is (leaves_entry ss r xs e)) in
    one_leaves (entries rr) (entry s) xs ys first (leaves_entry rr s ys f)

root_or_none : (toks : List Tok) (ss rr : List Statement) (r : Statement) → IsList toks ss → IsList toks rr → reached.NoRoot Statement Refutes ss → RootTree rr r → ⊥
root_or_none toks ss rr r a b none root =
    no_root_root (entries rr) (entry r) (subst NoneRefutes (same_entries toks ss rr a b) (no_root_entry ss a.sound none)) (root_entry rr r b.sound root)

one_says : (from len : ℕ) (ts : List Token) (toks : List Tok) (a b : Answer) → Says from len ts toks a → Says from len ts toks b → a ≡ b
one_says from len ts toks a b (faulty {i} f) (faulty {i = j} g) = ap (λ k. BadText (from + place_of len ts k)) (one_fault toks i j f g)
one_says from len ts toks a b (faulty {i} f) (rootless {ss} l n) = absurd (no_fault toks ss i l f)
one_says from len ts toks a b (faulty {i} f) (rooted {ss} l r n) = absurd (no_fault toks ss i l f)
one_says from len ts toks a b (rootless {ss} l n) (faulty {i} f) = absurd (no_fault toks ss i l f)
one_says from len ts toks a b (rootless l n) (rootless m o) = refl
one_says from len ts toks a b (rootless {ss} l n) (rooted {ss = rr} {root} m r o) = absurd (root_or_none toks ss rr root l m n r)
one_says from len ts toks a b (rooted {ss} l r n) (faulty {i} f) = absurd (no_fault toks ss i l f)
one_says from len ts toks a b (rooted {ss} {root} l r n) (rootless {ss = rr} m o) = absurd (root_or_none toks rr ss root m l o r)
one_says from len ts toks a b (rooted {ss} {root} {names} l r n) (rooted {ss = rr} {root = s} {names = others} m t o) =
    ap Leaves (one_rooted toks ss rr root s names others l m r t n o)

one_cut : (from : ℕ) (bytes : List ℕ) (c : Cut) (a b : Answer) → CutSays from bytes c a → CutSays from bytes c b → a ≡ b
one_cut from bytes (BadAt at) a b e f = e ∙ sym f
one_cut from bytes (Into ts) a b e f = one_says from (length bytes) ts (tokens_of bytes ts) a b e f

one_part : (text : List ℕ) (o : Option Span) (a b : Answer) → PartSays text o a → PartSays text o b → a ≡ b
one_part text None a b e f = e ∙ sym f
one_part text (Some part) a b e f = one_cut part.from (bytes_of text part) (cut 0 0 (bytes_of text part)) a b e f

pub one_answer : (text : List ℕ) (a b : Answer) → IsAnswer text a → IsAnswer text b → a ≡ b
one_answer text a b e f = by (succeeds text) e f
  where
    by : (c : Bool) → MatchBool c (PartSays text (part_of text) a) (a ≡ NoStatus) → MatchBool c (PartSays text (part_of text) b) (b ≡ NoStatus) → a ≡ b
    by true e f = one_part text (part_of text) a b e f
    by false e f = e ∙ sym f
