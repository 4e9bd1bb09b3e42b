-- Copies of clauses with raised variables stay right when lines are added and copies are made.
use Rattle.std.proofs.Common.{◌≡◌, ◌≢◌, ℕ, ◌+◌, ◌<◌, ◌⊎◌, inl, inr, List, [], ◌∷◌, ◌++◌, length, get_or, subst, sym, ap, ◌∙◌, arith, Some, slice_get}
use Rattle.std.specs.Prelude.{slice_set}
use Rattle.std.proofs.lemmas.Bool.{cases_order}
use Rattle.std.proofs.lemmas.List.{map-append, length_push, get_or-set_same, get_or-set_other, length-set}
use Rattle.std.proofs.lemmas.Option.{slice_get_within, get_or_from_slice_get, slice_get-get_or}
use Rattle.fo_terms.specs.declared.clause.Clause.{Clause}
use Rattle.fo_terms.specs.declared.literal.Literal.{Literal}
use Rattle.fo_terms.specs.Substitution.{var, put_literals}
use Rattle.fo_infer.specs.declared.refutation.Line.{Line}
use Rattle.fo_infer.specs.Inferences.{renamed_apart}
use Rattle.metis_core.specs.declared.raised.Raised.{Raised}
use Rattle.metis_core.specs.Raised.{IsRaised, AreRaised}
use Rattle.metis_core.specs.Stock.{clauses}
use Rattle.metis_core.proofs.Stocks.{item_before, item_last, held_as_many}
use Rattle.metis_core.proofs.Indexes.{some_same}

-- one line more, of which there is no copy yet
pub raised_grows : (lines : List Line) (line : Line) (all : List Raised) (one : Raised) → IsRaised line.clause one → AreRaised lines all → AreRaised (lines ++ line ∷ []) (all ++ one ∷ [])
raised_grows lines line all one is held = record {
  as_many = (let left = length_push all one in let right = length_push lines line in let many = held.as_many in omega arith);
  each = λ n c r at there. at_place n c r at there (cases n (let size = length_push all one in let inside = slice_get_within (all ++ one ∷ []) n r there in omega arith));
}
  where
    cases : (n : ℕ) → n < length all + 1 → (n < length all) ⊎ (n ≡ length all)
    cases n h = grind (arith, h)

    whole : clauses (lines ++ line ∷ []) ≡ clauses lines ++ line.clause ∷ []
    whole = map-append (λ l. l.clause) lines (line ∷ [])

    at_place : (n : ℕ) (c : Clause) (r : Raised) → slice_get (clauses (lines ++ line ∷ [])) n ≡ Some c → slice_get (all ++ one ∷ []) n ≡ Some r → (n < length all) ⊎ (n ≡ length all) → IsRaised c r
    at_place n c r at there (inl less) =
        let inside : n < length (clauses lines) = (let many = held.as_many in let few = held_as_many lines in omega arith) in
        held.each n c r (item_before (clauses lines) c line.clause n inside (subst (λ cs. slice_get cs n ≡ Some c) whole at)) (item_before all r one n less there)
    at_place n c r at there (inr last) =
        let end : n ≡ length (clauses lines) = (let many = held.as_many in let few = held_as_many lines in omega arith) in
        let same : c ≡ line.clause = item_last (clauses lines) c line.clause n end (subst (λ cs. slice_get cs n ≡ Some c) whole at) in
        subst (λ d. IsRaised d r) (sym same) (subst (IsRaised line.clause) (sym (item_last all r one n last there)) is)

-- another value for one of them
pub raised_set : (lines : List Line) (all : List Raised) (m : ℕ) (c : Clause) (one : Raised) → m < length all → slice_get (clauses lines) m ≡ Some c → IsRaised c one → AreRaised lines all → AreRaised lines (slice_set all m one)
raised_set lines all m c one within there is held = record {
  as_many = length-set all m one ∙ held.as_many;
  each = λ n d r at item. at_place n d r at item (cases n);
}
  where
    cases : (n : ℕ) → (n ≡ m) ⊎ (n ≢ m)
    cases n = elim (cases_order n m) [ inl same ↦ inl same | inr other ↦ elim other [ inl less ↦ inr (λ e. omega arith) | inr more ↦ inr (λ e. omega arith) ] ]

    at_place : (n : ℕ) (d : Clause) (r : Raised) → slice_get (clauses lines) n ≡ Some d → slice_get (slice_set all m one) n ≡ Some r → (n ≡ m) ⊎ (n ≢ m) → IsRaised d r
    at_place n d r at item (inl same) =
        let clause : c ≡ d = some_same c d (sym there ∙ ap (slice_get (clauses lines)) (sym same) ∙ at) in
        let value : r ≡ one = sym (get_or_from_slice_get (slice_set all m one) n r r item) ∙ ap (λ k. get_or (slice_set all m one) k r) same ∙ get_or-set_same all m one r within in
        subst (λ e. IsRaised e r) clause (subst (IsRaised c) (sym value) is)
    at_place n d r at item (inr other) =
        let inside : n < length all = (let size = length-set all m one in let less = slice_get_within (slice_set all m one) n r item in omega arith) in
        let value : get_or all n r ≡ r = sym (get_or-set_other all m n one r other) ∙ get_or_from_slice_get (slice_set all m one) n r r item in
        held.each n d r at (slice_get-get_or all n r inside ∙ ap Some value)

-- the one at a line's number is its clause's
pub raised_at : (lines : List Line) (all : List Raised) (n : ℕ) (c : Clause) (r : Raised) → n < length lines → slice_get (clauses lines) n ≡ Some c → r ≡ get_or all n r → AreRaised lines all → IsRaised c r
raised_at lines all n c r within at is held = held.each n c r at (slice_get-get_or all n r (omega (arith, held.as_many)) ∙ ap Some (sym is))

pub number_within : (lines : List Line) (n : ℕ) (c : Clause) → slice_get (clauses lines) n ≡ Some c → n < length lines
number_within lines n c at = omega (arith, slice_get_within (clauses lines) n c at, held_as_many lines)

-- the right clause raised above the left one's variables is renamed apart from it
pub raised_apart : (p q : Clause) (r : Raised) (ls : List Literal) → IsRaised p r → ls ≡ put_literals (λ x. var (x + r.above)) q.literals → ls ≡ renamed_apart p q
raised_apart p q r ls held is = is ∙ ap (λ n. put_literals (λ x. var (x + n)) q.literals) held.above
