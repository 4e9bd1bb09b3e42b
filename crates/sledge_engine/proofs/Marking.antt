-- Marks of the facts of fact steps, and the names that are marked.
use Rattle.std.proofs.Common.{inl, inr, ℕ, ◌≡◌, ◌≢◌, ◌∙◌, ◌+◌, ◌<◌, Bool, true, false, List, [], ◌∷◌, ◌++◌, length, take, get_or, set, refl, sym, ap, subst, length-append, arith, append_assoc}
use Rattle.std.specs.Prelude.{◌||◌, ◌==◌, Some, slice_get}
use Rattle.std.proofs.Math.ListN.{get_or-append}
use Rattle.std.proofs.Math.Seq.{get_or-append_seam}
use Rattle.std.proofs.lemmas.List.{append-nil, length-set, get_or-set_same, get_or-set_other, take_more}
use Rattle.std.proofs.lemmas.Option.{get_or_from_slice_get, slice_get_within}
use Rattle.std.proofs.lemmas.List.Folds.{list_any-append}
use Rattle.std.proofs.lemmas.Bool.Decides.{eqb_tells}
use Rattle.kernel_rules.specs.declared.step.Step.{Step}
use Rattle.kernel_rules.specs.Derivations.{leaf, leaves}
use Rattle.sledge_engine.specs.inner.Marks.{Marks}
use Rattle.sledge_engine.specs.Used.{is_listed}

-- no number is marked
none_at : (marks : List Bool) (i : ℕ) → ((j : ℕ) → j < length marks → get_or marks j false ≡ false) → i < length marks + 1 → get_or (marks ++ false ∷ []) i false ≡ false
none_at marks i all lt =
    elim (eqb_tells i (length marks)) as (λ _. get_or (marks ++ false ∷ []) i false ≡ false) [
      | inl here ↦ ap (λ k. get_or (marks ++ false ∷ []) k false) here.1 ∙ get_or-append_seam marks false [] false
      | inr other ↦
          let apart : i ≢ length marks = other.1 in
          let before : i < length marks = omega (arith, apart, lt) in
          get_or-append marks (false ∷ []) false i before ∙ all i before
    ]

pub one_unmarked : (k : ℕ) (marks : List Bool) → Marks k [] marks → Marks (k + 1) [] (marks ++ false ∷ [])
one_unmarked k marks m =
    let long : length marks ≡ k = m.all in
    record {
      all = length-append marks (false ∷ []) ∙ ap (λ n. n + 1) long;
      says = λ i lt. none_at marks i (λ j before. m.says j (subst (λ n. j < n) long before)) (subst (λ n. i < n + 1) (sym long) lt);
    }

one_more : (numbers : List ℕ) (n i : ℕ) → is_listed (numbers ++ n ∷ []) i ≡ (is_listed numbers i || ((n == i) || false))
one_more numbers n i = list_any-append (λ m. m == i) numbers (n ∷ [])

or_true : (a : Bool) → (a || (true || false)) ≡ true
or_true true = refl
or_true false = refl

or_false : (a : Bool) → (a || (false || false)) ≡ a
or_false true = refl
or_false false = refl

-- the number is marked
pub one_marked : (count : ℕ) (numbers : List ℕ) (marks : List Bool) (n : ℕ) → n < length marks → Marks count numbers marks →
    Marks count (numbers ++ n ∷ []) (set marks n true)
one_marked count numbers marks n within m =
    record {
      all = length-set marks n true ∙ m.all;
      says = λ i lt.
          elim (eqb_tells n i) as (λ _. get_or (set marks n true) i false ≡ is_listed (numbers ++ n ∷ []) i) [
            | inl here ↦
                ap (λ k. get_or (set marks n true) k false) (sym here.1) ∙ get_or-set_same marks n true false within
                ∙ sym (one_more numbers n i ∙ ap (λ b. is_listed numbers i || (b || false)) here.0 ∙ or_true (is_listed numbers i))
            | inr other ↦
                get_or-set_other marks n i true false (λ e. other.1 (sym e)) ∙ m.says i lt
                ∙ sym (one_more numbers n i ∙ ap (λ b. is_listed numbers i || (b || false)) other.0 ∙ or_false (is_listed numbers i))
          ];
    }

leaves_append : (s t : List Step) → leaves (s ++ t) ≡ leaves s ++ leaves t
leaves_append [] t = refl
leaves_append (x ∷ s) t = ap (λ l. leaf x ++ l) (leaves_append s t) ∙ sym (append_assoc (leaf x) (leaves s) (leaves t))

pub leaves_more : (steps : List Step) (i : ℕ) (s : Step) → i < length steps → s ≡ get_or steps i s → leaves (take i steps) ++ leaf s ≡ leaves (take (i + 1) steps)
leaves_more steps i s lt is =
    sym (ap leaves (take_more steps i s lt ∙ ap (λ x. take i steps ++ x ∷ []) (sym is)) ∙ leaves_append (take i steps) (s ∷ [])
    ∙ ap (λ l. leaves (take i steps) ++ l) (append-nil (leaf s)))

-- a mark that is read
pub mark_at : (count : ℕ) (numbers : List ℕ) (marks : List Bool) (i : ℕ) (b : Bool) → Marks count numbers marks → slice_get marks i ≡ Some b →
    b ≡ is_listed numbers i
mark_at count numbers marks i b m is =
    sym (get_or_from_slice_get marks i b false is) ∙ m.says i (subst (λ n. i < n) m.all (slice_get_within marks i b is))
