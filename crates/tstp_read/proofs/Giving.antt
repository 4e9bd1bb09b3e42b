-- A source gives exactly the references and leaves that the private reader makes of it.
use Rattle.std.proofs.Common.{◌≡◌, ℕ, ◌+◌, ◌<◌, ◌≤◌, Bool, true, false, List, [], ◌∷◌, ◌++◌, length, refl, sym, ◌∙◌, ap, subst, arith, inl, inr}
use Rattle.std.specs.Prelude.{All, if◌then◌else◌, map, ◌⊎◌, ◌&&◌, ◌||◌, codes, nat_eq, nat_lt, not, Contains, ◌↔◌}
use Rattle.std.specs.Cmp.Lexicographic.{pointwise, same_text}
use Rattle.std.proofs.lemmas.Bool.{cases_Bool}
use Rattle.std.proofs.lemmas.List.Elements.{All-append, All-cons, All-nil, All-head, All-tail, All-contains, Contains-push, Contains-append_left, Contains-append_right, Contains-append_cases}
use Rattle.tstp_read.specs.declared.tokens.Kind.{Kind}
use Rattle.tstp_read.specs.declared.tokens.Kind.TheVariants as kind
use Rattle.tstp_read.specs.declared.sources.Parent.{Parent}
use Rattle.tstp_read.specs.declared.sources.Parent.TheVariants as parent
use Rattle.tstp_read.specs.declared.sources.Shape.{Shape}
use Rattle.tstp_read.specs.declared.sources.Shape.TheVariants as shape
use Rattle.tstp_read.specs.declared.sources.Part.{Part}
use Rattle.tstp_read.specs.declared.sources.Group.{Group}
use Rattle.tstp_read.specs.Tokens.{Tok}
use Rattle.tstp_read.specs.Statements.{Forest, Start, Then, Round, Square, last, before, parts, is_comma, is_mark, is_name, is_mark_kind}
use Rattle.tstp_read.specs.Sources.{has_colon, before_colon, IsCalled, Gives, name, file, member, inference}
use Rattle.tstp_read.specs.inner.Machine.{given, one_token, shape_with_token, shape_then, joined, all_given, leaf_of, of_file, members_of, of_inference, of_call, shape_around}
use Rattle.tstp_read.proofs.Lists.{only, none_in, Contains-here, Contains-there, Contains-cons_cases}
use Rattle.tstp_read.proofs.Shapes.{part_of, shape_of, plain_part, CommaFree, parts_free, NameIs, ListIs, name_is, list_is, empty_is, then_plain, round_shape, square_shape, call_cut, token_list, token_given, last_free, free_last, comma_before, comma_last, plain_before, plain_last}

-- ---- colons

then_shape : (square : Bool) (f : Forest) (t : Tok) → is_comma t ≡ false → shape_of square (Then f t) ≡ shape_then square (shape_of square f) t
then_shape square f t e = ap (λ (p : Part). p.shape) (plain_part square f t e)

colon_shape : (s : Shape) (t : Tok) → is_mark 58 t ≡ true → shape_then true s t ≡ shape.Behind (given s)
colon_shape s t e = ap (λ b. if b then shape.Behind (given s) else shape_with_token s t) e

no_colon_shape : (s : Shape) (t : Tok) → is_mark 58 t ≡ false → shape_then true s t ≡ shape_with_token s t
no_colon_shape s t e = ap (λ b. if b then shape.Behind (given s) else shape_with_token s t) e

same_shape : (f : Forest) → CommaFree f → has_colon f ≡ false → shape_of true f ≡ shape_of false f
same_shape Start free none = refl
same_shape (Then f t) free none =
    let both = or_false (has_colon f) (is_mark 58 t) none in
    then_shape true f t free.1 ∙ no_colon_shape (shape_of true f) t both.1 ∙ ap (λ s. shape_with_token s t) (same_shape f free.0 both.0) ∙ sym (then_plain f t free.1)
  where
    or_false : (a b : Bool) → (a || b) ≡ false → (a ≡ false) × (b ≡ false)
    or_false true b h = absurd cc
    or_false false b h = (refl, h)
same_shape (Round f g) free none = round_shape true f g ∙ ap (λ s. shape_around false s (map (part_of false) (parts g))) (same_shape f free none) ∙ sym (round_shape false f g)
same_shape (Square f g) free none = square_shape true f g ∙ ap (λ s. shape_around true s (map (part_of true) (parts g))) (same_shape f free none) ∙ sym (square_shape false f g)

-- the colon has been passed
abbrev Cut : Forest → Type 0
Cut f = shape_of true f ≡ shape.Behind (given (shape_of false (before_colon f)))

cut_then : (f : Forest) (t : Tok) (qs : List Parent) → is_comma t ≡ false → shape_of true f ≡ shape.Behind qs → shape_of true (Then f t) ≡ shape.Behind qs
cut_then f t qs free is = then_shape true f t free ∙ ap (λ s. shape_then true s t) is ∙ (elim (cases_Bool (is_mark 58 t)) [ inl e ↦ colon_shape (shape.Behind qs) t e | inr e ↦ no_colon_shape (shape.Behind qs) t e ])

at_colon : (f : Forest) → CommaFree f → has_colon f ≡ true → Cut f
at_colon Start free some = absurd cc
at_colon (Then f t) free some = elim (cases_Bool (has_colon f)) [
  | inl e ↦ cut_then f t (given (shape_of false (before_colon f))) free.1 (at_colon f free.0 e)
      ∙ ap (λ h. shape.Behind (given (shape_of false h))) (ap (λ b. if b then before_colon f else (if is_mark 58 t then f else Then f t)) (sym e))
  | inr e ↦ (let here : is_mark 58 t ≡ true = sym (ap (λ b. b || is_mark 58 t) e) ∙ some in
      then_shape true f t free.1 ∙ colon_shape (shape_of true f) t here ∙ ap (λ s. shape.Behind (given s)) (same_shape f free.0 e)
      ∙ ap (λ h. shape.Behind (given (shape_of false h))) (ap (λ b. if b then f else Then f t) (sym here) ∙ ap (λ b. if b then before_colon f else (if is_mark 58 t then f else Then f t)) (sym e)))
]
at_colon (Round f g) free some =
    round_shape true f g ∙ ap (λ s. shape_around false s (map (part_of false) (parts g))) (at_colon f free some)
    ∙ ap (λ h. shape.Behind (given (shape_of false h))) (ap (λ b. if b then before_colon f else Round f g) (sym some))
at_colon (Square f g) free some =
    square_shape true f g ∙ ap (λ s. shape_around true s (map (part_of true) (parts g))) (at_colon f free some)
    ∙ ap (λ h. shape.Behind (given (shape_of false h))) (ap (λ b. if b then before_colon f else Square f g) (sym some))

no_cut : (f : Forest) → has_colon f ≡ false → before_colon f ≡ f
no_cut Start none = refl
no_cut (Then f t) none = by (has_colon f) (is_mark 58 t) none
  where
    by : (a b : Bool) → (a || b) ≡ false → (if a then before_colon f else (if b then f else Then f t)) ≡ Then f t
    by true b h = cc
    by false true h = cc
    by false false h = refl
no_cut (Round f g) none = ap (λ b. if b then before_colon f else Round f g) none
no_cut (Square f g) none = ap (λ b. if b then before_colon f else Square f g) none

-- what a member of a list gives is what stands before its colon gives
member_given : (f : Forest) → CommaFree f → given (shape_of true f) ≡ given (shape_of false (before_colon f))
member_given f free = elim (cases_Bool (has_colon f)) [
  | inl e ↦ ap given (at_colon f free e)
  | inr e ↦ ap given (same_shape f free e ∙ ap (shape_of false) (sym (no_cut f e)))
]

-- ---- lists of members

joined_cases : (ps qs : List Parent) (p : Parent) → Contains (joined ps qs) p → Contains ps p ⊎ Contains qs p
joined_cases ps qs p = by (nat_lt (length ps) (length qs))
  where
    flip : Contains qs p ⊎ Contains ps p → Contains ps p ⊎ Contains qs p
    flip (inl h) = inr h
    flip (inr h) = inl h

    by : (b : Bool) → Contains (if b then qs ++ ps else ps ++ qs) p → Contains ps p ⊎ Contains qs p
    by true h = flip (Contains-append_cases qs ps p h)
    by false h = Contains-append_cases ps qs p h

pub joined_left : (ps qs : List Parent) (p : Parent) → Contains ps p → Contains (joined ps qs) p
joined_left ps qs p h = by (nat_lt (length ps) (length qs))
  where
    by : (b : Bool) → Contains (if b then qs ++ ps else ps ++ qs) p
    by true = Contains-append_right qs ps p h
    by false = Contains-append_left ps qs p h

pub joined_right : (ps qs : List Parent) (p : Parent) → Contains qs p → Contains (joined ps qs) p
joined_right ps qs p h = by (nat_lt (length ps) (length qs))
  where
    by : (b : Bool) → Contains (if b then qs ++ ps else ps ++ qs) p
    by true = Contains-append_left qs ps p h
    by false = Contains-append_right ps qs p h

pub joined_either : (ps qs : List Parent) (p : Parent) → Contains (joined ps qs) p → Contains ps p ⊎ Contains qs p
joined_either = joined_cases

record From (ms : List Forest) (p : Parent) : Type 0 where
  pub member : Forest
  pub among : Contains ms member
  pub gives : Contains (given (shape_of true member)) p

from_members : (ms : List Forest) (p : Parent) → Contains (all_given (map (part_of true) ms)) p → From ms p
from_members [] p h = absurd (none_in p h)
from_members (m ∷ ms) p h = at (joined_cases (all_given (map (part_of true) ms)) (given (shape_of true m)) p h) (from_members ms p)
  where
    at : Contains (all_given (map (part_of true) ms)) p ⊎ Contains (given (shape_of true m)) p → (Contains (all_given (map (part_of true) ms)) p → From ms p) → From (m ∷ ms) p
    at (inl h) go = let f = go h in record { member = f.member; among = Contains-there m ms f.member f.among; gives = f.gives }
    at (inr h) go = record { member = m; among = Contains-here m ms; gives = h }

among_members : (ms : List Forest) (m : Forest) (p : Parent) → Contains ms m → Contains (given (shape_of true m)) p → Contains (all_given (map (part_of true) ms)) p
among_members [] m p h g = absurd (none_in m h)
among_members (x ∷ ms) m p h g = at (Contains-cons_cases x ms m h) (λ h. among_members ms m p h g)
  where
    at : (x ≡ m) ⊎ Contains ms m → (Contains ms m → Contains (all_given (map (part_of true) ms)) p) → Contains (all_given (map (part_of true) (x ∷ ms))) p
    at (inl e) go = joined_right (all_given (map (part_of true) ms)) (given (shape_of true x)) p (subst (λ y. Contains (given (shape_of true y)) p) (sym e) g)
    at (inr h) go = joined_left (all_given (map (part_of true) ms)) (given (shape_of true x)) p (go h)

-- ---- whatever a source gives is read

name_no_comma : (t : Tok) → is_name t ≡ true → is_comma t ≡ false
name_no_comma t h = by (is_mark_kind t.kind) (pointwise nat_eq t.said (44 ∷ [])) h
  where
    by : (a b : Bool) → not a ≡ true → (a && b) ≡ false
    by true b h = cc
    by false b h = refl

name_shape : (t : Tok) → is_name t ≡ true → shape_of false (Then Start t) ≡ shape.Name t.said
name_shape t h = then_plain Start t (name_no_comma t h) ∙ ap (λ b. if b then shape.Name t.said else shape.Other) h

call_shape : (t : Tok) (g : Forest) → is_name t ≡ true → shape_of false (Round (Then Start t) g) ≡ of_call t.said (map (part_of false) (parts g))
call_shape t g h = round_shape false (Then Start t) g ∙ ap (λ s. shape_around false s (map (part_of false) (parts g))) (name_shape t h)

list_shape : (g : Forest) → shape_of false (Square Start g) ≡ shape.Members (all_given (map (part_of true) (parts g)))
list_shape g = square_shape false Start g

pub gives_all : (f : Forest) (p : Parent) → Gives f p → Contains (given (shape_of false f)) p
gives_all f p (name {t} h) = subst (λ s. Contains (given s) (parent.Reference t.said)) (sym (name_shape t h)) (Contains-here (parent.Reference t.said) [])
gives_all f p (file {t} {u} {a} {g} {others} called second h) =
    let shapes : shape_of false (Round (Then Start t) g) ≡ shape.Given (parent.Leaf u.said ∷ []) =
    call_shape t g called.named
    ∙ ap (λ n. of_call n (map (part_of false) (parts g))) called.says
    ∙ ap (λ ms. of_file (map (part_of false) ms)) second
    ∙ ap leaf_of (name_shape u h) in
    subst (λ s. Contains (given s) (parent.Leaf u.said)) (sym shapes) (Contains-here (parent.Leaf u.said) [])
gives_all f p (member {g} {m} among gives) =
    let below = gives_all (before_colon m) p gives in
    let free : CommaFree m = All-contains CommaFree (parts g) m (parts_free g) among in
    let here : Contains (given (shape_of true m)) p = subst (λ ps. Contains ps p) (sym (member_given m free)) below in
    subst (λ s. Contains (given s) p) (sym (list_shape g)) (among_members (parts g) m p among here)
gives_all f p (inference {t} {a} {b} {g} {h} called three gives) =
    let below : Contains (given (shape_of false (Square Start h))) p = gives_all (Square Start h) p gives in
    let shapes : shape_of false (Round (Then Start t) g) ≡ members_of (shape_of false (Square Start h)) =
    call_shape t g called.named
    ∙ ap (λ n. of_call n (map (part_of false) (parts g))) called.says
    ∙ ap (λ ms. of_inference (map (part_of false) ms)) three in
    subst (λ s. Contains (given s) p) (sym (shapes ∙ ap members_of (list_shape h))) (subst (λ s. Contains (given s) p) (list_shape h) below)

-- ---- and nothing else

abbrev Sound : Forest → Type 0
Sound f = (p : Parent) → Contains (given (shape_of false f)) p → Gives f p

-- of a part, and of what stands before its colon
record Sounds (f : Forest) : Type 0 where
  pub whole : Sound f
  pub cut : Sound (before_colon f)

nothing : (f : Forest) → given (shape_of false f) ≡ [] → Sound f
nothing f e p h = absurd (none_in p (subst (λ ps. Contains ps p) e h))

-- the shape of a part that isn't in a list is no cut one
never_cut : (f : Forest) (qs : List Parent) → CommaFree f → shape_of false f ≡ shape.Behind qs → ⊥
never_cut Start qs free e = cc
never_cut (Then f t) qs free e = at (shape_of false f) refl (sym (then_plain f t free.1) ∙ e) (λ rs is. never_cut f rs free.0 is)
  where
    by : (b : Bool) → (if b then shape.Name t.said else shape.Other) ≡ shape.Behind qs → ⊥
    by true e = cc
    by false e = cc

    at : (s : Shape) → shape_of false f ≡ s → shape_with_token s t ≡ shape.Behind qs → ((rs : List Parent) → shape_of false f ≡ shape.Behind rs → ⊥) → ⊥
    at shape.Empty is e below = by (is_name t) e
    at (shape.Name m) is e below = cc
    at (shape.Members rs) is e below = cc
    at (shape.Given rs) is e below = cc
    at (shape.Behind rs) is e below = below rs is
    at shape.Other is e below = cc
never_cut (Round f g) qs free e = at (shape_of false f) refl (sym (round_shape false f g) ∙ e) (λ rs is. never_cut f rs free is)
  where
    at : (s : Shape) → shape_of false f ≡ s → shape_around false s (map (part_of false) (parts g)) ≡ shape.Behind qs → ((rs : List Parent) → shape_of false f ≡ shape.Behind rs → ⊥) → ⊥
    at shape.Empty is e below = cc
    at (shape.Name m) is e below = call_cut m (map (part_of false) (parts g)) qs e
    at (shape.Members rs) is e below = cc
    at (shape.Given rs) is e below = cc
    at (shape.Behind rs) is e below = below rs is
    at shape.Other is e below = cc
never_cut (Square f g) qs free e = at (shape_of false f) refl (sym (square_shape false f g) ∙ e) (λ rs is. never_cut f rs free is)
  where
    at : (s : Shape) → shape_of false f ≡ s → shape_around true s (map (part_of true) (parts g)) ≡ shape.Behind qs → ((rs : List Parent) → shape_of false f ≡ shape.Behind rs → ⊥) → ⊥
    at shape.Empty is e below = cc
    at (shape.Name m) is e below = cc
    at (shape.Members rs) is e below = cc
    at (shape.Given rs) is e below = cc
    at (shape.Behind rs) is e below = below rs is
    at shape.Other is e below = cc

-- the calls
file_gives : (t : Tok) (g : Forest) (p : Parent) → IsCalled (codes "file") t → (ms : List Forest) → parts g ≡ ms → All CommaFree ms →
    Contains (given (of_file (map (part_of false) ms))) p → Gives (Round (Then Start t) g) p
file_gives t g p called [] is free h = absurd (none_in p h)
file_gives t g p called (a ∷ []) is free h = absurd (none_in p h)
file_gives t g p called (a ∷ b ∷ ms) is free h = at (shape_of false b) refl h
  where
    free_b : CommaFree b
    free_b = All-head CommaFree b ms (All-tail CommaFree a (b ∷ ms) free)

    leaf : (n : List ℕ) → NameIs b n → Contains (parent.Leaf n ∷ []) p → Gives (Round (Then Start t) g) p
    leaf n named h =
        let made : Gives (Round (Then Start t) g) (parent.Leaf named.token.said) =
        file {u = named.token} {a = a} {others = ms} called (is ∙ ap (λ f. a ∷ f ∷ ms) named.is) named.named in
        subst (λ q. Gives (Round (Then Start t) g) q) (ap (λ n. parent.Leaf n) named.says ∙ only p (parent.Leaf n) h) made

    at : (s : Shape) → shape_of false b ≡ s → Contains (given (leaf_of s)) p → Gives (Round (Then Start t) g) p
    at (shape.Name n) same h = leaf n (name_is b n free_b same) h
    at shape.Empty same h = absurd (none_in p h)
    at (shape.Members qs) same h = absurd (none_in p h)
    at (shape.Given qs) same h = absurd (none_in p h)
    at (shape.Behind qs) same h = absurd (none_in p h)
    at shape.Other same h = absurd (none_in p h)

inference_gives : (t : Tok) (g : Forest) (p : Parent) → IsCalled (codes "inference") t → (ms : List Forest) → parts g ≡ ms → All CommaFree ms → All Sounds ms →
    Contains (given (of_inference (map (part_of false) ms))) p → Gives (Round (Then Start t) g) p
inference_gives t g p called [] is free sounds h = absurd (none_in p h)
inference_gives t g p called (a ∷ []) is free sounds h = absurd (none_in p h)
inference_gives t g p called (a ∷ b ∷ []) is free sounds h = absurd (none_in p h)
inference_gives t g p called (a ∷ b ∷ c ∷ d ∷ ms) is free sounds h = absurd (none_in p h)
inference_gives t g p called (a ∷ b ∷ c ∷ []) is free sounds h = at (shape_of false c) refl h
  where
    free_c : CommaFree c
    free_c = All-head CommaFree c [] (All-tail CommaFree b (c ∷ []) (All-tail CommaFree a (b ∷ c ∷ []) free))

    sound_c : Sounds c
    sound_c = All-head Sounds c [] (All-tail Sounds b (c ∷ []) (All-tail Sounds a (b ∷ c ∷ []) sounds))

    list : (qs : List Parent) → shape_of false c ≡ shape.Members qs → ListIs c qs → Contains qs p → Gives (Round (Then Start t) g) p
    list qs same is_list h =
        let below : Gives c p = sound_c.whole p (subst (λ s. Contains (given s) p) (sym same) h) in
        inference {a = a} {b = b} {h = is_list.within} called (is ∙ ap (λ f. a ∷ b ∷ f ∷ []) is_list.is) (subst (λ f. Gives f p) is_list.is below)

    at : (s : Shape) → shape_of false c ≡ s → Contains (given (members_of s)) p → Gives (Round (Then Start t) g) p
    at (shape.Members qs) same h = list qs same (list_is c qs free_c same) h
    at (shape.Name n) same h = absurd (none_in p h)
    at shape.Empty same h = absurd (none_in p h)
    at (shape.Given qs) same h = absurd (none_in p h)
    at (shape.Behind qs) same h = absurd (none_in p h)
    at shape.Other same h = absurd (none_in p h)

call_gives : (t : Tok) (g : Forest) (p : Parent) → is_name t ≡ true → All Sounds (parts g) → Contains (given (of_call t.said (map (part_of false) (parts g)))) p →
    Gives (Round (Then Start t) g) p
call_gives t g p named sounds h = by (pointwise nat_eq t.said (codes "file")) (pointwise nat_eq t.said (codes "inference")) refl refl h
  where
    by : (a b : Bool) → pointwise nat_eq t.said (codes "file") ≡ a → pointwise nat_eq t.said (codes "inference") ≡ b →
        Contains (given (if a then of_file (map (part_of false) (parts g)) else (if b then of_inference (map (part_of false) (parts g)) else shape.Other))) p → Gives (Round (Then Start t) g) p
    by true b e f h = file_gives t g p (record { named = named; says = same_text t.said (codes "file") (sym e) }) (parts g) refl (parts_free g) h
    by false true e f h = inference_gives t g p (record { named = named; says = same_text t.said (codes "inference") (sym f) }) (parts g) refl (parts_free g) sounds h
    by false false e f h = absurd (none_in p h)

round_gives : (f g : Forest) → CommaFree f → All Sounds (parts g) → Sound (Round f g)
round_gives f g free sounds p h = at (shape_of false f) refl (subst (λ s. Contains (given s) p) (round_shape false f g) h)
  where
    named : (n : List ℕ) → NameIs f n → Contains (given (of_call n (map (part_of false) (parts g)))) p → Gives (Round f g) p
    named n is h =
        let made : Gives (Round (Then Start is.token) g) p =
        call_gives is.token g p is.named sounds (subst (λ m. Contains (given (of_call m (map (part_of false) (parts g)))) p) (sym is.says) h) in
        subst (λ k. Gives (Round k g) p) (sym is.is) made

    at : (s : Shape) → shape_of false f ≡ s → Contains (given (shape_around false s (map (part_of false) (parts g)))) p → Gives (Round f g) p
    at (shape.Name n) same h = named n (name_is f n free same) h
    at shape.Empty same h = absurd (none_in p h)
    at (shape.Members qs) same h = absurd (none_in p h)
    at (shape.Given qs) same h = absurd (none_in p h)
    at (shape.Behind qs) same h = absurd (never_cut f qs free same)
    at shape.Other same h = absurd (none_in p h)

square_gives : (f g : Forest) → CommaFree f → All Sounds (parts g) → Sound (Square f g)
square_gives f g free sounds p h = at (shape_of false f) refl (subst (λ s. Contains (given s) p) (square_shape false f g) h)
  where
    listed : f ≡ Start → From (parts g) p → Gives (Square f g) p
    listed start found =
        let free_m = All-contains CommaFree (parts g) found.member (parts_free g) found.among in
        let sound_m = All-contains Sounds (parts g) found.member sounds found.among in
        let below : Gives (before_colon found.member) p = sound_m.cut p (subst (λ ps. Contains ps p) (member_given found.member free_m) found.gives) in
        subst (λ k. Gives (Square k g) p) (sym start) (member found.among below)

    at : (s : Shape) → shape_of false f ≡ s → Contains (given (shape_around true s (map (part_of true) (parts g)))) p → Gives (Square f g) p
    at shape.Empty same h = listed (empty_is false f free same) (from_members (parts g) p h)
    at (shape.Name n) same h = absurd (none_in p h)
    at (shape.Members qs) same h = absurd (none_in p h)
    at (shape.Given qs) same h = absurd (none_in p h)
    at (shape.Behind qs) same h = absurd (never_cut f qs free same)
    at shape.Other same h = absurd (none_in p h)

then_gives : (f : Forest) (t : Tok) → CommaFree (Then f t) → Sound (Then f t)
then_gives f t free p h = at (shape_of false (Then f t)) refl h
  where
    named : (n : List ℕ) → NameIs (Then f t) n → Contains (parent.Reference n ∷ []) p → Gives (Then f t) p
    named n is h =
        let made : Gives (Then Start is.token) (parent.Reference is.token.said) = name is.named in
        subst (λ k. Gives k p) (sym is.is) (subst (λ q. Gives (Then Start is.token) q) (ap (λ n. parent.Reference n) is.says ∙ only p (parent.Reference n) h) made)

    at : (s : Shape) → shape_of false (Then f t) ≡ s → Contains (given s) p → Gives (Then f t) p
    at (shape.Name n) same h = named n (name_is (Then f t) n free same) h
    at shape.Empty same h = absurd (none_in p h)
    at (shape.Members qs) same h = absurd (token_list (shape_of false f) t qs (sym (then_plain f t free.1) ∙ same))
    at (shape.Given qs) same h = absurd (token_given (shape_of false f) t qs (sym (then_plain f t free.1) ∙ same))
    at (shape.Behind qs) same h = absurd (never_cut (Then f t) qs free same)
    at shape.Other same h = absurd (none_in p h)

start_sounds : Sounds Start
start_sounds = record { whole = λ p h. absurd (none_in p h); cut = λ p h. absurd (none_in p h) }

then_sounds : (f : Forest) (t : Tok) → CommaFree (Then f t) → Sounds f → Sounds (Then f t)
then_sounds f t free sounds = record { whole = then_gives f t free; cut = by (has_colon f) (is_mark 58 t) }
  where
    by : (a b : Bool) → Sound (if a then before_colon f else (if b then f else Then f t))
    by true b = sounds.cut
    by false true = sounds.whole
    by false false = then_gives f t free

pair_sounds : (f k : Forest) (b : Bool) → Sounds f → Sound k → Sound (if b then before_colon f else k)
pair_sounds f k true sounds whole = sounds.cut
pair_sounds f k false sounds whole = whole

record AllSound (f : Forest) : Type 0 where
  pub earlier : All Sounds (before f)
  pub latest : Sounds (last f)

parts_sound : (f : Forest) → AllSound f → All Sounds (parts f)
parts_sound f s = All-append Sounds (before f) (last f ∷ []) s.earlier (All-cons Sounds (last f) [] s.latest (All-nil Sounds))

all_sound : (f : Forest) → AllSound f
all_sound Start = record { earlier = All-nil Sounds; latest = start_sounds }
all_sound (Then f t) =
    let s = all_sound f in
    elim (cases_Bool (is_comma t)) [
      | inl e ↦ record { earlier = subst (All Sounds) (sym (comma_before f t e)) (parts_sound f s); latest = subst Sounds (sym (comma_last f t e)) start_sounds }
      | inr e ↦ record { earlier = subst (All Sounds) (sym (plain_before f t e)) s.earlier; latest = subst Sounds (sym (plain_last f t e)) (then_sounds (last f) t (last_free f, e) s.latest) }
    ]
all_sound (Round f g) =
    let s = all_sound f in
    let whole = round_gives (last f) g (last_free f) (parts_sound g (all_sound g)) in
    record { earlier = s.earlier; latest = record { whole = whole; cut = pair_sounds (last f) (Round (last f) g) (has_colon (last f)) s.latest whole } }
all_sound (Square f g) =
    let s = all_sound f in
    let whole = square_gives (last f) g (last_free f) (parts_sound g (all_sound g)) in
    record { earlier = s.earlier; latest = record { whole = whole; cut = pair_sounds (last f) (Square (last f) g) (has_colon (last f)) s.latest whole } }

-- what a part gives is what its shape gives
pub gives_iff : (f : Forest) → CommaFree f → (p : Parent) → Contains (given (shape_of false f)) p ↔ Gives f p
gives_iff f free p = ((λ h. sound.whole p h), (λ h. gives_all f p h))
  where
    sound : Sounds f
    sound = subst Sounds (free_last f free) (all_sound f).latest
