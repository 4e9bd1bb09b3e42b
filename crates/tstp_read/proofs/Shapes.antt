-- What the private reader makes of a part is what the part gives.
use Rattle.std.proofs.Common.{◌≡◌, ℕ, ◌+◌, ◌<◌, ◌≤◌, Bool, true, false, List, [], ◌∷◌, ◌++◌, length, refl, sym, ◌∙◌, ap, subst, arith, inl, inr}
use Rattle.std.specs.Prelude.{All, if◌then◌else◌, map, ◌⊎◌, ◌&&◌, ◌||◌, codes, nat_eq, nat_lt, Contains}
use Rattle.std.specs.Cmp.Lexicographic.{pointwise, same_text}
use Rattle.std.proofs.lemmas.Bool.{cases_Bool}
use Rattle.std.proofs.lemmas.List.{map-append}
use Rattle.std.proofs.lemmas.List.Elements.{All-append, All-cons, All-nil, All-head, All-tail, All-contains, Contains-push, Contains-append_left, Contains-append_right, Contains-append_cases}
use Rattle.tstp_read.specs.declared.tokens.Kind.{Kind}
use Rattle.tstp_read.specs.declared.tokens.Kind.TheVariants as kind
use Rattle.tstp_read.specs.declared.sources.Parent.{Parent}
use Rattle.tstp_read.specs.declared.sources.Parent.TheVariants as parent
use Rattle.tstp_read.specs.declared.sources.Shape.{Shape}
use Rattle.tstp_read.specs.declared.sources.Shape.TheVariants as shape
use Rattle.tstp_read.specs.declared.sources.Part.{Part}
use Rattle.tstp_read.specs.declared.sources.Group.{Group}
use Rattle.tstp_read.specs.Tokens.{Tok}
use Rattle.tstp_read.specs.Statements.{Forest, Start, Then, Round, Square, last, before, parts, is_comma, is_mark, is_name, is_mark_kind}
use Rattle.tstp_read.specs.Sources.{has_colon, before_colon, IsCalled, Gives, name, file, member, inference}
use Rattle.tstp_read.specs.inner.Machine.{given, one_token, shape_with_token, shape_then, joined, all_given, leaf_of, of_file, members_of, of_inference, of_call, shape_around, no_part, fresh, part_then, all_parts, group_then, group_around, is_empty}
use Rattle.tstp_read.proofs.Walk.{group_of, group_square, then_full, around_full, call_full}

-- ---- a part by itself

abbrev pub part_of : Bool → Forest → Part
part_of square m = (group_of square m).part

abbrev pub shape_of : Bool → Forest → Shape
shape_of square m = (part_of square m).shape

pub comma_group : (g : Group) (t : Tok) → is_comma t ≡ true → group_then g t ≡ record { square = g.square; done = all_parts g; part = no_part }
comma_group g t e = ap (λ b. if b then (let u : Group = record { square = g.square; done = all_parts g; part = no_part } in u) else (let u : Group = record { square = g.square; done = g.done; part = part_then g.square g.part t } in u)) e

pub plain_group : (g : Group) (t : Tok) → is_comma t ≡ false → group_then g t ≡ record { square = g.square; done = g.done; part = part_then g.square g.part t }
plain_group g t e = ap (λ b. if b then (let u : Group = record { square = g.square; done = all_parts g; part = no_part } in u) else (let u : Group = record { square = g.square; done = g.done; part = part_then g.square g.part t } in u)) e

pub comma_last : (f : Forest) (t : Tok) → is_comma t ≡ true → last (Then f t) ≡ Start
comma_last f t e = ap (λ b. if b then Start else Then (last f) t) e

pub plain_last : (f : Forest) (t : Tok) → is_comma t ≡ false → last (Then f t) ≡ Then (last f) t
plain_last f t e = ap (λ b. if b then Start else Then (last f) t) e

pub comma_before : (f : Forest) (t : Tok) → is_comma t ≡ true → before (Then f t) ≡ before f ++ last f ∷ []
comma_before f t e = ap (λ b. if b then before f ++ last f ∷ [] else before f) e

pub plain_before : (f : Forest) (t : Tok) → is_comma t ≡ false → before (Then f t) ≡ before f
plain_before f t e = ap (λ b. if b then before f ++ last f ∷ [] else before f) e

pub plain_part : (square : Bool) (f : Forest) (t : Tok) → is_comma t ≡ false → part_of square (Then f t) ≡ part_then square (part_of square f) t
plain_part square f t e = ap (λ (g : Group). g.part) (plain_group (group_of square f) t e) ∙ ap (λ s. part_then s (part_of square f) t) (group_square square f)

pub last_part : (square : Bool) (f : Forest) → part_of square f ≡ part_of square (last f)
last_part square Start = refl
last_part square (Then f t) = elim (cases_Bool (is_comma t)) [
  | inl e ↦ ap (λ (g : Group). g.part) (comma_group (group_of square f) t e) ∙ ap (part_of square) (sym (comma_last f t e))
  | inr e ↦ plain_part square f t e ∙ ap (λ p. part_then square p t) (last_part square f) ∙ sym (plain_part square (last f) t e) ∙ ap (part_of square) (sym (plain_last f t e))
]
last_part square (Round f g) = ap (λ p. (group_around (let u : Group = record { square = square; done = []; part = p } in u) (group_of false g)).part) (last_part square f)
last_part square (Square f g) = ap (λ p. (group_around (let u : Group = record { square = square; done = []; part = p } in u) (group_of true g)).part) (last_part square f)

pub done_parts : (square : Bool) (f : Forest) → (group_of square f).done ≡ map (part_of square) (before f)
done_parts square Start = refl
done_parts square (Then f t) = elim (cases_Bool (is_comma t)) [
  | inl e ↦ ap (λ (g : Group). g.done) (comma_group (group_of square f) t e)
      ∙ ap (λ ps. ps ++ part_of square f ∷ []) (done_parts square f)
      ∙ ap (λ p. map (part_of square) (before f) ++ p ∷ []) (last_part square f)
      ∙ sym (map-append (part_of square) (before f) (last f ∷ []))
      ∙ ap (map (part_of square)) (sym (comma_before f t e))
  | inr e ↦ ap (λ (g : Group). g.done) (plain_group (group_of square f) t e) ∙ done_parts square f ∙ ap (map (part_of square)) (sym (plain_before f t e))
]
done_parts square (Round f g) = done_parts square f
done_parts square (Square f g) = done_parts square f

pub parts_are : (square : Bool) (f : Forest) → all_parts (group_of square f) ≡ map (part_of square) (parts f)
parts_are square f =
    ap (λ ps. ps ++ part_of square f ∷ []) (done_parts square f)
    ∙ ap (λ p. map (part_of square) (before f) ++ p ∷ []) (last_part square f)
    ∙ sym (map-append (part_of square) (before f) (last f ∷ []))

-- ---- parts have no comma outside brackets

abbrev pub CommaFree : Forest → Type 0
CommaFree Start = Unit {0}
CommaFree (Then f t) = CommaFree f × (is_comma t ≡ false)
CommaFree (Round f g) = CommaFree f
CommaFree (Square f g) = CommaFree f

pub last_free : (f : Forest) → CommaFree (last f)
last_free Start = tt
last_free (Then f t) = elim (cases_Bool (is_comma t)) [ inl e ↦ subst CommaFree (sym (comma_last f t e)) tt | inr e ↦ subst CommaFree (sym (plain_last f t e)) (last_free f, e) ]
last_free (Round f g) = last_free f
last_free (Square f g) = last_free f

before_free : (f : Forest) → All CommaFree (before f)
before_free Start = All-nil CommaFree
before_free (Then f t) = elim (cases_Bool (is_comma t)) [
  | inl e ↦ subst (All CommaFree) (sym (comma_before f t e)) (All-append CommaFree (before f) (last f ∷ []) (before_free f) (All-cons CommaFree (last f) [] (last_free f) (All-nil CommaFree)))
  | inr e ↦ subst (All CommaFree) (sym (plain_before f t e)) (before_free f)
]
before_free (Round f g) = before_free f
before_free (Square f g) = before_free f

pub parts_free : (f : Forest) → All CommaFree (parts f)
parts_free f = All-append CommaFree (before f) (last f ∷ []) (before_free f) (All-cons CommaFree (last f) [] (last_free f) (All-nil CommaFree))

pub free_before : (f : Forest) → CommaFree f → before f ≡ []
free_before Start free = refl
free_before (Then f t) free = plain_before f t free.1 ∙ free_before f free.0
free_before (Round f g) free = free_before f free
free_before (Square f g) free = free_before f free

pub free_last : (f : Forest) → CommaFree f → last f ≡ f
free_last Start free = refl
free_last (Then f t) free = plain_last f t free.1 ∙ ap (λ h. Then h t) (free_last f free.0)
free_last (Round f g) free = ap (λ h. Round h g) (free_last f free)
free_last (Square f g) free = ap (λ h. Square h g) (free_last f free)

-- ---- which parts are read so

same_empty : (s : Shape) → s ≡ shape.Empty → is_empty s ≡ true
same_empty s e = ap is_empty e

apart : {b : Bool} → b ≡ true → b ≡ false → ⊥
apart e f = cc

pub empty_is : (square : Bool) (f : Forest) → CommaFree f → shape_of square f ≡ shape.Empty → f ≡ Start
empty_is square Start free e = refl
empty_is square (Then f t) free e =
    let is : is_empty (shape_then square (shape_of square f) t) ≡ true = same_empty (shape_then square (shape_of square f) t) (ap (λ (p : Part). p.shape) (sym (plain_part square f t free.1)) ∙ e) in
    let full = then_full square (shape_of square f) t in absurd (apart is full)
empty_is square (Round f g) free e =
    absurd (apart (same_empty (shape_of square (Round f g)) e) (around_full (group_of false g).square (shape_of square f) (all_parts (group_of false g))))
empty_is square (Square f g) free e =
    absurd (apart (same_empty (shape_of square (Square f g)) e) (around_full (group_of true g).square (shape_of square f) (all_parts (group_of true g))))

-- outside lists
pub then_plain : (f : Forest) (t : Tok) → is_comma t ≡ false → shape_of false (Then f t) ≡ shape_with_token (shape_of false f) t
then_plain f t no_comma = ap (λ (p : Part). p.shape) (plain_part false f t no_comma)

pub round_shape : (square : Bool) (f g : Forest) → shape_of square (Round f g) ≡ shape_around false (shape_of square f) (map (part_of false) (parts g))
round_shape square f g = ap (λ s. shape_around s (shape_of square f) (all_parts (group_of false g))) (group_square false g) ∙ ap (λ ps. shape_around false (shape_of square f) ps) (parts_are false g)

pub square_shape : (square : Bool) (f g : Forest) → shape_of square (Square f g) ≡ shape_around true (shape_of square f) (map (part_of true) (parts g))
square_shape square f g = ap (λ s. shape_around s (shape_of square f) (all_parts (group_of true g))) (group_square true g) ∙ ap (λ ps. shape_around true (shape_of square f) ps) (parts_are true g)

pub record NameIs (f : Forest) (n : List ℕ) : Type 0 where
  pub token : Tok
  pub is : f ≡ Then Start token
  pub named : is_name token ≡ true
  pub says : token.said ≡ n

pub record ListIs (f : Forest) (ps : List Parent) : Type 0 where
  pub within : Forest
  pub is : f ≡ Square Start within
  pub gives : ps ≡ all_given (map (part_of true) (parts within))

-- no call is a name, a list or what stands before a colon
data CallIs : Shape → Type 0 where
  gives : {ps : List Parent} → CallIs (shape.Given ps)
  other : CallIs shape.Other

leaf_call : (s : Shape) → CallIs (leaf_of s)
leaf_call (shape.Name n) = gives
leaf_call shape.Empty = other
leaf_call (shape.Members ps) = other
leaf_call (shape.Given ps) = other
leaf_call (shape.Behind ps) = other
leaf_call shape.Other = other

file_call : (ps : List Part) → CallIs (of_file ps)
file_call [] = other
file_call (a ∷ []) = other
file_call (a ∷ b ∷ ps) = leaf_call b.shape

members_call : (s : Shape) → CallIs (members_of s)
members_call (shape.Name n) = other
members_call shape.Empty = other
members_call (shape.Members ps) = gives
members_call (shape.Given ps) = other
members_call (shape.Behind ps) = other
members_call shape.Other = other

inference_call : (ps : List Part) → CallIs (of_inference ps)
inference_call [] = other
inference_call (a ∷ []) = other
inference_call (a ∷ b ∷ []) = other
inference_call (a ∷ b ∷ c ∷ []) = members_call c.shape
inference_call (a ∷ b ∷ c ∷ d ∷ ps) = other

call_is : (n : List ℕ) (ps : List Part) → CallIs (of_call n ps)
call_is n ps = elim (cases_Bool (pointwise nat_eq n (codes "file"))) [
  | inl e ↦ rw e (file_call ps)
  | inr e ↦ rw e (elim (cases_Bool (pointwise nat_eq n (codes "inference"))) [ inl d ↦ rw d (inference_call ps) | inr d ↦ rw d other ])
]

call_name : (s : Shape) (n : List ℕ) → CallIs s → s ≡ shape.Name n → ⊥
call_name _ n gives e = cc
call_name _ n other e = cc

call_list : (s : Shape) (qs : List Parent) → CallIs s → s ≡ shape.Members qs → ⊥
call_list _ qs gives e = cc
call_list _ qs other e = cc

cut_call : (s : Shape) (qs : List Parent) → CallIs s → s ≡ shape.Behind qs → ⊥
cut_call _ qs gives e = cc
cut_call _ qs other e = cc

pub call_cut : (n : List ℕ) (ps : List Part) (qs : List Parent) → of_call n ps ≡ shape.Behind qs → ⊥
call_cut n ps qs e = cut_call (of_call n ps) qs (call_is n ps) e

around_name : (square : Bool) (s : Shape) (ps : List Part) (n : List ℕ) → shape_around square s ps ≡ shape.Name n → ⊥
around_name true shape.Empty ps n e = cc
around_name false shape.Empty ps n e = cc
around_name true (shape.Name m) ps n e = cc
around_name false (shape.Name m) ps n e = call_name (of_call m ps) n (call_is m ps) e
around_name true (shape.Members qs) ps n e = cc
around_name false (shape.Members qs) ps n e = cc
around_name true (shape.Given qs) ps n e = cc
around_name false (shape.Given qs) ps n e = cc
around_name true (shape.Behind qs) ps n e = cc
around_name false (shape.Behind qs) ps n e = cc
around_name true shape.Other ps n e = cc
around_name false shape.Other ps n e = cc

round_list : (s : Shape) (ps : List Part) (qs : List Parent) → shape_around false s ps ≡ shape.Members qs → ⊥
round_list shape.Empty ps qs e = cc
round_list (shape.Name m) ps qs e = call_list (of_call m ps) qs (call_is m ps) e
round_list (shape.Members rs) ps qs e = cc
round_list (shape.Given rs) ps qs e = cc
round_list (shape.Behind rs) ps qs e = cc
round_list shape.Other ps qs e = cc

pub token_list : (s : Shape) (t : Tok) (qs : List Parent) → shape_with_token s t ≡ shape.Members qs → ⊥
token_list shape.Empty t qs e = by (is_name t) e
  where
    by : (b : Bool) → (if b then shape.Name t.said else shape.Other) ≡ shape.Members qs → ⊥
    by true e = cc
    by false e = cc
token_list (shape.Name m) t qs e = cc
token_list (shape.Members rs) t qs e = cc
token_list (shape.Given rs) t qs e = cc
token_list (shape.Behind rs) t qs e = cc
token_list shape.Other t qs e = cc

pub token_given : (s : Shape) (t : Tok) (qs : List Parent) → shape_with_token s t ≡ shape.Given qs → ⊥
token_given shape.Empty t qs e = by (is_name t) e
  where
    by : (b : Bool) → (if b then shape.Name t.said else shape.Other) ≡ shape.Given qs → ⊥
    by true e = cc
    by false e = cc
token_given (shape.Name m) t qs e = cc
token_given (shape.Members rs) t qs e = cc
token_given (shape.Given rs) t qs e = cc
token_given (shape.Behind rs) t qs e = cc
token_given shape.Other t qs e = cc

pub name_is : (f : Forest) (n : List ℕ) → CommaFree f → shape_of false f ≡ shape.Name n → NameIs f n
name_is Start n free e = absurd cc
name_is (Then f t) n free e = at (shape_of false f) refl (sym (then_plain f t free.1) ∙ e)
  where
    by : (b : Bool) → is_name t ≡ b → f ≡ Start → (if b then shape.Name t.said else shape.Other) ≡ shape.Name n → NameIs (Then f t) n
    by true is start e = let says : t.said ≡ n = cc in record { token = t; is = ap (λ h. Then h t) start; named = is; says = says }
    by false is start e = absurd cc

    at : (s : Shape) → shape_of false f ≡ s → shape_with_token s t ≡ shape.Name n → NameIs (Then f t) n
    at shape.Empty is e = by (is_name t) refl (empty_is false f free.0 is) e
    at (shape.Name m) is e = absurd cc
    at (shape.Members rs) is e = absurd cc
    at (shape.Given rs) is e = absurd cc
    at (shape.Behind rs) is e = absurd cc
    at shape.Other is e = absurd cc
name_is (Round f g) n free e = absurd (around_name (group_of false g).square (shape_of false f) (all_parts (group_of false g)) n e)
name_is (Square f g) n free e = absurd (around_name (group_of true g).square (shape_of false f) (all_parts (group_of true g)) n e)

pub list_is : (f : Forest) (qs : List Parent) → CommaFree f → shape_of false f ≡ shape.Members qs → ListIs f qs
list_is Start qs free e = absurd cc
list_is (Then f t) qs free e = absurd (token_list (shape_of false f) t qs (sym (then_plain f t free.1) ∙ e))
list_is (Round f g) qs free e = absurd (round_list (shape_of false f) (map (part_of false) (parts g)) qs (sym (round_shape false f g) ∙ e))
list_is (Square f g) qs free e = at (shape_of false f) refl (sym (square_shape false f g) ∙ e)
  where
    at : (s : Shape) → shape_of false f ≡ s → shape_around true s (map (part_of true) (parts g)) ≡ shape.Members qs → ListIs (Square f g) qs
    at shape.Empty is e = let same : all_given (map (part_of true) (parts g)) ≡ qs = cc in record { within = g; is = ap (λ h. Square h g) (empty_is false f free is); gives = sym same }
    at (shape.Name m) is e = absurd cc
    at (shape.Members rs) is e = absurd cc
    at (shape.Given rs) is e = absurd cc
    at (shape.Behind rs) is e = absurd cc
    at shape.Other is e = absurd cc
