-- The literals that found inferences name are there.
use Rattle.std.proofs.Common.{true, false, ◌≡◌, ◌<◌, ℕ, zero, suc, refl, arith, List, [], ◌∷◌, All, Some, slice_get, length, sym, subst}
use Rattle.std.proofs.lemmas.List.Elements.{All-cons, All-head, All-tail, All-nil}
use Rattle.std.proofs.lemmas.Option.{slice_get_within}
use Rattle.fo_terms.specs.declared.literal.Literal.{Literal}
use Rattle.fo_terms.specs.declared.clause.Clause.{Clause}
use Rattle.fo_terms.specs.declared.atom.Atom.TheVariants.{Holds, Eq}
use Rattle.fo_infer.specs.declared.made.Made.{Made}
use Rattle.fo_infer.specs.declared.made.Rule.{Rule}
use Rattle.fo_infer.specs.declared.made.Rule.TheVariants.{Resolve, Para, Factor, Reflex}
use Rattle.fo_infer.specs.declared.finding.Finding.{Finding}
use Rattle.fo_infer.specs.Inferences.{Position, renamed_apart, AloneGives, PairGives, Listed, done, skip, give}
use Rattle.fo_infer.specs.inner.Findings.{IsPlaced, made_of, all_made}

listed_all : (Gives : Rule → Clause → Type 0) (P : Rule → Type 0) → ((r : Rule) (c : Clause) → Gives r c → P r) → {rs : List Rule} {ms : List Made} → Listed Gives rs ms → All (λ m. P m.rule) ms
listed_all Gives P each done = All-nil (λ m. P m.rule)
listed_all Gives P each (skip none rest) = listed_all Gives P each rest
listed_all Gives P each (give {r} {c} {rs} {ms} gives rest) = All-cons (λ m. P m.rule) (record { clause = c; rule = r }) ms (each r c gives) (listed_all Gives P each rest)

found_all : (p : Clause) (apart : List Literal) (fs : List Finding) → All (λ m. IsPlaced p apart m.rule) (all_made p apart fs) → All (λ f. IsPlaced p apart f.rule) fs
found_all p apart [] h = All-nil (λ f. IsPlaced p apart f.rule)
found_all p apart (f ∷ fs) h =
    All-cons (λ g. IsPlaced p apart g.rule) f fs (All-head (λ m. IsPlaced p apart m.rule) (made_of p apart f) (all_made p apart fs) h)
    (found_all p apart fs (All-tail (λ m. IsPlaced p apart m.rule) (made_of p apart f) (all_made p apart fs) h))

pair_gives : (position : Position) (p q : Clause) (apart : List Literal) → apart ≡ renamed_apart p q → (r : Rule) (c : Clause) → PairGives position p q r c → IsPlaced p apart r
pair_gives position p q apart is (Resolve i j) c h = (
  slice_get_within p.literals i (record { positive = true; atom = Holds h.s }) h.left_is,
  subst (λ ls. j < length ls) (sym is) (slice_get_within (renamed_apart p q) j (record { positive = false; atom = Holds h.t }) h.right_is),
)
pair_gives position p q apart is (Para i swapped j path) c h = (
  slice_get_within p.literals i (record { positive = true; atom = Eq h.a h.b }) h.left_is,
  subst (λ ls. j < length ls) (sym is) (slice_get_within (renamed_apart p q) j h.into h.right_is),
  (h.a, h.b, h.left_is),
)
pair_gives position p q apart is (Factor i j) c h = absurd h
pair_gives position p q apart is (Reflex i) c h = absurd h

alone_gives : (p : Clause) (r : Rule) (c : Clause) → AloneGives p r c → IsPlaced p [] r
alone_gives p (Factor i j) c h = slice_get_within p.literals j h.second h.second_is
alone_gives p (Reflex i) c h = slice_get_within p.literals i (record { positive = false; atom = Eq h.s h.t }) h.literal_is
alone_gives p (Resolve i j) c h = absurd h
alone_gives p (Para i swapped j path) c h = absurd h

pub pair_placed : (position : Position) (p q : Clause) (apart : List Literal) → apart ≡ renamed_apart p q → (fs : List Finding) (rs : List Rule) → Listed (PairGives position p q) rs (all_made p apart fs) → All (λ f. IsPlaced p apart f.rule) fs
pair_placed position p q apart is fs rs h = found_all p apart fs (listed_all (PairGives position p q) (IsPlaced p apart) (pair_gives position p q apart is) h)

pub alone_placed : (p : Clause) (fs : List Finding) (rs : List Rule) → Listed (AloneGives p) rs (all_made p [] fs) → All (λ f. IsPlaced p [] f.rule) fs
alone_placed p fs rs h = found_all p [] fs (listed_all (AloneGives p) (IsPlaced p []) (alone_gives p) h)

pub there : {X : Type 0} (xs : List X) (i : ℕ) → i < length xs → (x : X) × (slice_get xs i ≡ Some x)
there [] i within = absurd (omega arith)
there (x ∷ xs) zero within = (x, refl)
there (x ∷ xs) (suc i) within = let inside : i < length xs = omega arith in there xs i inside
