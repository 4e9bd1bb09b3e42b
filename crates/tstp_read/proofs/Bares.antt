-- A formula is `$false` without its brackets exactly where the private reader says so.
use Rattle.std.proofs.Common.{◌≡◌, ℕ, ◌+◌, ◌-◌, ◌<◌, ◌≤◌, Bool, true, false, List, [], ◌∷◌, ◌++◌, length, refl, sym, ◌∙◌, ap, subst, arith, inl, inr}
use Rattle.std.specs.Prelude.{All, if◌then◌else◌, map, ◌⊎◌, ◌&&◌, ◌||◌, codes, nat_eq, not, ◌↔◌}
use Rattle.std.specs.List.{filter}
use Rattle.std.specs.Cmp.Lexicographic.{pointwise, same_text}
use Rattle.std.proofs.lemmas.Bool.{cases_Bool, and_parts}
use Rattle.std.proofs.lemmas.List.Elements.{All-append, All-cons, All-nil, All-head, filter-append}
use Rattle.std.proofs.lemmas.List.{append-nil}
use Rattle.tstp_read.specs.declared.tokens.Kind.{Kind}
use Rattle.tstp_read.specs.declared.tokens.Kind.TheVariants as kind
use Rattle.tstp_read.specs.declared.sources.Bare.{Bare}
use Rattle.tstp_read.specs.declared.sources.Bare.TheVariants as bare
use Rattle.tstp_read.specs.declared.sources.Part.{Part}
use Rattle.tstp_read.specs.declared.sources.Group.{Group}
use Rattle.tstp_read.specs.Tokens.{Tok}
use Rattle.tstp_read.specs.Statements.{Forest, Start, Then, Round, Square, flat, Nests, last, before, parts, first, formula, Refutes, Statement, is_comma, is_mark, is_bracket, is_no_bracket, is_word_kind, word, mark, opening, ending}
use Rattle.tstp_read.specs.inner.Machine.{bare_of, bare_then, bare_within, is_false, refutes, all_parts, group_then, group_around, part_then}
use Rattle.tstp_read.proofs.Walk.{group_of}
use Rattle.tstp_read.proofs.Prefixes.{mark_is, word_is}
use Rattle.tstp_read.proofs.Shapes.{part_of, parts_are, comma_group, plain_group, CommaFree, parts_free, done_parts, free_before, comma_before, plain_before, comma_last, plain_last}

-- what is left of tokens without brackets
abbrev bare_all : List Tok → Bare
bare_all [] = bare.Nothing
bare_all (t ∷ []) = bare_of t
bare_all (t ∷ u ∷ ts) = bare.Other

abbrev kept : List Tok → List Tok
kept ts = filter is_no_bracket ts

bare_token : (t : Tok) → (bare_of t ≡ bare.False) ⊎ (bare_of t ≡ bare.Other)
bare_token t = by (is_word_kind t.kind && pointwise nat_eq t.said (codes "$false"))
  where
    by : (b : Bool) → ((if b then bare.False else bare.Other) ≡ bare.False) ⊎ ((if b then bare.False else bare.Other) ≡ bare.Other)
    by true = inl refl
    by false = inr refl

then_nothing : (b : Bare) → bare_then b bare.Nothing ≡ b
then_nothing bare.Nothing = refl
then_nothing bare.False = refl
then_nothing bare.Other = refl

then_other : (b : Bare) → bare_then b bare.Other ≡ bare.Other
then_other bare.Nothing = refl
then_other bare.False = refl
then_other bare.Other = refl

other_then : (b : Bare) → bare_then bare.Other b ≡ bare.Other
other_then bare.Nothing = refl
other_then bare.False = refl
other_then bare.Other = refl

two_tokens : (t u : Tok) → bare_then (bare_of t) (bare_of u) ≡ bare.Other
two_tokens t u = at (bare_of t) (bare_of u) (bare_token t) (bare_token u)
  where
    at : (a b : Bare) → (a ≡ bare.False) ⊎ (a ≡ bare.Other) → (b ≡ bare.False) ⊎ (b ≡ bare.Other) → bare_then a b ≡ bare.Other
    at bare.Nothing b (inl e) g = absurd cc
    at bare.Nothing b (inr e) g = absurd cc
    at bare.False bare.Nothing e (inl g) = absurd cc
    at bare.False bare.Nothing e (inr g) = absurd cc
    at bare.False bare.False e g = refl
    at bare.False bare.Other e g = refl
    at bare.Other b e g = other_then b

bare_all-append : (xs ys : List Tok) → bare_all (xs ++ ys) ≡ bare_then (bare_all xs) (bare_all ys)
bare_all-append [] ys = refl
bare_all-append (x ∷ []) [] = sym (then_nothing (bare_of x))
bare_all-append (x ∷ []) (y ∷ []) = sym (two_tokens x y)
bare_all-append (x ∷ []) (y ∷ z ∷ ys) = sym (then_other (bare_of x))
bare_all-append (x ∷ u ∷ xs) ys = sym (other_then (bare_all ys))

-- whether the parts read so far are one
abbrev Tells : List Part → Bare → Bare → Type 0
Tells [] b x = b ≡ x
Tells (p ∷ ps) b x = x ≡ bare.Other

tells_more : (ps : List Part) (p : Part) (b x : Bare) → x ≡ bare.Other → Tells (ps ++ p ∷ []) b x
tells_more [] p b x e = e
tells_more (q ∷ ps) p b x e = e

tells_then : (ps : List Part) (b x c : Bare) → Tells ps b x → Tells ps (bare_then b c) (bare_then x c)
tells_then [] b x c e = ap (λ z. bare_then z c) e
tells_then (q ∷ ps) b x c e = ap (λ z. bare_then z c) e ∙ other_then c

tells_within : (ps : List Part) (p : Part) (x : Bare) → Tells ps p.bare x → bare_within (ps ++ p ∷ []) ≡ x
tells_within [] p x e = e
tells_within (q ∷ []) p x e = sym e
tells_within (q ∷ r ∷ ps) p x e = sym e

abbrev TellsOf : Bool → Forest → Type 0
TellsOf square f = Tells (group_of square f).done (part_of square f).bare (bare_all (kept (flat f)))

kept_token : (t : Tok) → is_bracket t ≡ false → kept (t ∷ []) ≡ t ∷ []
kept_token t h = ap (λ b. if not b then t ∷ [] else []) h

left_then : (f : Forest) (t : Tok) → is_bracket t ≡ false → bare_all (kept (flat (Then f t))) ≡ bare_then (bare_all (kept (flat f))) (bare_of t)
left_then f t h =
    ap bare_all (filter-append is_no_bracket (flat f) (t ∷ []))
    ∙ bare_all-append (kept (flat f)) (kept (t ∷ []))
    ∙ ap (λ ts. bare_then (bare_all (kept (flat f))) (bare_all ts)) (kept_token t h)

kept_pair : (square : Bool) (xs ys : List Tok) → kept (xs ++ (opening square ∷ ys) ++ ending square ∷ []) ≡ kept xs ++ kept ys
kept_pair square xs ys =
    filter-append is_no_bracket (xs ++ (opening square ∷ ys)) (ending square ∷ [])
    ∙ ap (λ ts. ts ++ kept (ending square ∷ [])) (filter-append is_no_bracket xs (opening square ∷ ys))
    ∙ brackets square
  where
    brackets : (square : Bool) → (kept xs ++ kept (opening square ∷ ys)) ++ kept (ending square ∷ []) ≡ kept xs ++ kept ys
    brackets true = append-nil (kept xs ++ kept ys)
    brackets false = append-nil (kept xs ++ kept ys)

left_pair : (square : Bool) (xs ys : List Tok) → bare_all (kept (xs ++ (opening square ∷ ys) ++ ending square ∷ [])) ≡ bare_then (bare_all (kept xs)) (bare_all (kept ys))
left_pair square xs ys = ap bare_all (kept_pair square xs ys) ∙ bare_all-append (kept xs) (kept ys)

comma_other : (t : Tok) → is_comma t ≡ true → bare_of t ≡ bare.Other
comma_other t e = ap bare_of (mark_is 44 t e)

tells_of : (square : Bool) (f : Forest) (deep : ℕ) → Nests deep f → TellsOf square f
tells_of square Start deep nests = refl
tells_of square (Then f t) deep nests = elim (cases_Bool (is_comma t)) [
  | inl e ↦ subst (λ (g : Group). Tells g.done g.part.bare (bare_all (kept (flat (Then f t))))) (sym (comma_group (group_of square f) t e))
      (tells_more (group_of square f).done (part_of square f) bare.Nothing (bare_all (kept (flat (Then f t))))
      (left_then f t nests.1 ∙ ap (λ c. bare_then (bare_all (kept (flat f))) c) (comma_other t e) ∙ then_other (bare_all (kept (flat f)))))
  | inr e ↦ subst (λ (g : Group). Tells g.done g.part.bare (bare_all (kept (flat (Then f t))))) (sym (plain_group (group_of square f) t e))
      (subst (λ x. Tells (group_of square f).done (bare_then (part_of square f).bare (bare_of t)) x) (sym (left_then f t nests.1))
      (tells_then (group_of square f).done (part_of square f).bare (bare_all (kept (flat f))) (bare_of t) (tells_of square f deep nests.0)))
]
tells_of square (Round f g) deep nests =
    let within = tells_within (group_of false g).done (part_of false g) (bare_all (kept (flat g))) (tells_of false g (deep - 1) nests.2) in
    subst (λ x. Tells (group_of square f).done (bare_then (part_of square f).bare (bare_within (all_parts (group_of false g)))) x) (sym (left_pair false (flat f) (flat g)))
    (subst (λ c. Tells (group_of square f).done (bare_then (part_of square f).bare (bare_within (all_parts (group_of false g)))) (bare_then (bare_all (kept (flat f))) c)) within
    (tells_then (group_of square f).done (part_of square f).bare (bare_all (kept (flat f))) (bare_within (all_parts (group_of false g))) (tells_of square f deep nests.0)))
tells_of square (Square f g) deep nests =
    let within = tells_within (group_of true g).done (part_of true g) (bare_all (kept (flat g))) (tells_of true g (deep - 1) nests.2) in
    subst (λ x. Tells (group_of square f).done (bare_then (part_of square f).bare (bare_within (all_parts (group_of true g)))) x) (sym (left_pair true (flat f) (flat g)))
    (subst (λ c. Tells (group_of square f).done (bare_then (part_of square f).bare (bare_within (all_parts (group_of true g)))) (bare_then (bare_all (kept (flat f))) c)) within
    (tells_then (group_of square f).done (part_of square f).bare (bare_all (kept (flat f))) (bare_within (all_parts (group_of true g))) (tells_of square f deep nests.0)))

-- parts nest as the whole does
last_nests : (deep : ℕ) (f : Forest) → Nests deep f → Nests deep (last f)
last_nests deep Start nests = tt
last_nests deep (Then f t) nests = elim (cases_Bool (is_comma t)) [
  | inl e ↦ subst (Nests deep) (sym (comma_last f t e)) tt
  | inr e ↦ subst (Nests deep) (sym (plain_last f t e)) (last_nests deep f nests.0, nests.1)
]
last_nests deep (Round f g) nests = (last_nests deep f nests.0, nests.1, nests.2)
last_nests deep (Square f g) nests = (last_nests deep f nests.0, nests.1, nests.2)

before_nests : (deep : ℕ) (f : Forest) → Nests deep f → All (Nests deep) (before f)
before_nests deep Start nests = All-nil (Nests deep)
before_nests deep (Then f t) nests = elim (cases_Bool (is_comma t)) [
  | inl e ↦ subst (All (Nests deep)) (sym (comma_before f t e))
      (All-append (Nests deep) (before f) (last f ∷ []) (before_nests deep f nests.0) (All-cons (Nests deep) (last f) [] (last_nests deep f nests.0) (All-nil (Nests deep))))
  | inr e ↦ subst (All (Nests deep)) (sym (plain_before f t e)) (before_nests deep f nests.0)
]
before_nests deep (Round f g) nests = before_nests deep f nests.0
before_nests deep (Square f g) nests = before_nests deep f nests.0

parts_nest : (deep : ℕ) (f : Forest) → Nests deep f → All (Nests deep) (parts f)
parts_nest deep f nests = All-append (Nests deep) (before f) (last f ∷ []) (before_nests deep f nests) (All-cons (Nests deep) (last f) [] (last_nests deep f nests) (All-nil (Nests deep)))

part_bare : (deep : ℕ) (m : Forest) → CommaFree m → Nests deep m → (part_of false m).bare ≡ bare_all (kept (flat m))
part_bare deep m free nests = subst (λ ps. Tells ps (part_of false m).bare (bare_all (kept (flat m)))) (done_parts false m ∙ ap (map (part_of false)) (free_before m free)) (tells_of false m deep nests)

false_token : (t : Tok) → bare_of t ≡ bare.False → t ≡ word (codes "$false")
false_token t e = by (is_word_kind t.kind && pointwise nat_eq t.said (codes "$false")) refl e
  where
    by : (b : Bool) → (is_word_kind t.kind && pointwise nat_eq t.said (codes "$false")) ≡ b → (if b then bare.False else bare.Other) ≡ bare.False → t ≡ word (codes "$false")
    by true is e = let ps = and_parts (is_word_kind t.kind) (pointwise nat_eq t.said (codes "$false")) is in
        word_is t ps.0 ∙ ap word (same_text t.said (codes "$false") (sym ps.1))
    by false is e = absurd cc

is_false_is : (b : Bare) → is_false b ≡ true → b ≡ bare.False
is_false_is bare.Nothing e = absurd cc
is_false_is bare.False e = refl
is_false_is bare.Other e = absurd cc

false_alone : (ts : List Tok) → (is_false (bare_all ts) ≡ true) ↔ (ts ≡ word (codes "$false") ∷ [])
false_alone [] = ((λ h. absurd cc), (λ e. absurd cc))
false_alone (t ∷ []) = (
  (λ h. ap (λ u. u ∷ []) (false_token t (is_false_is (bare_of t) h))),
  (λ e. ap (λ us. is_false (bare_all us)) e),
)
false_alone (t ∷ u ∷ ts) = ((λ h. absurd cc), (λ e. absurd cc))

pub refutes_iff : (s : Statement) (deep : ℕ) → Nests deep s.body → (refutes (all_parts (group_of false s.body)) ≡ true) ↔ Refutes s
refutes_iff s deep nests = by (parts s.body) refl (parts_free s.body) (parts_nest deep s.body nests)
  where
    at : (m : Forest) (ms : List Forest) → parts s.body ≡ m ∷ ms → CommaFree m → Nests deep m → (refutes (all_parts (group_of false s.body)) ≡ true) ↔ Refutes s
    at m ms is free nests =
        let told : refutes (all_parts (group_of false s.body)) ≡ is_false (bare_all (kept (flat m))) =
        ap refutes (parts_are false s.body) ∙ ap (λ fs. refutes (map (part_of false) fs)) is ∙ ap is_false (part_bare deep m free nests) in
        let alone = false_alone (kept (flat m)) in
        let same : kept (flat (formula s)) ≡ kept (flat m) = ap (λ fs. kept (flat (first fs))) is in
        ((λ h. same ∙ alone.0 (sym told ∙ h)), (λ r. told ∙ alone.1 (sym same ∙ r)))

    by : (fs : List Forest) → parts s.body ≡ fs → All CommaFree fs → All (Nests deep) fs → (refutes (all_parts (group_of false s.body)) ≡ true) ↔ Refutes s
    by [] is free nests = (
      (λ h. let wrong : false ≡ true = sym (ap refutes (parts_are false s.body) ∙ ap (λ fs. refutes (map (part_of false) fs)) is) ∙ h in absurd cc),
      (λ r. let wrong : [] ≡ word (codes "$false") ∷ [] = sym (ap (λ fs. kept (flat (first fs))) is) ∙ r in absurd cc),
    )
    by (m ∷ ms) is free nests = at m ms is (All-head CommaFree m ms free) (All-head (Nests deep) m ms nests)
