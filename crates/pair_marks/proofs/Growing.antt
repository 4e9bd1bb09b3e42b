-- What went into a set of marks stays in it.
use Rattle.std.proofs.Common.{◌≡◌, ℕ, ◌+◌, ◌<◌, ◌≤◌, Bool, true, List, [], ◌∷◌, length, get_or, Option, Some, None, slice_get, refl, sym, ap, subst, ◌∙◌, arith, below_more}
use Rattle.std.specs.Prelude.{option_and_then}
use Rattle.std.proofs.lemmas.Option.{get_or_from_slice_get, slice_get_within}
use Rattle.fo_terms.specs.declared.term.FoTerm.{FoTerm}
use Rattle.fo_terms.specs.declared.term.FoTerm.TheVariants.{outs-Var, outs-Fun}
use Rattle.fo_terms.specs.declared.atom.Atom.{Atom}
use Rattle.fo_terms.specs.declared.atom.Atom.TheVariants.{Holds, Eq}
use Rattle.fo_terms.specs.declared.literal.Literal.{Literal}
use Rattle.fo_terms.specs.Substitution.{var, fun}
use Rattle.fo_infer.specs.Paths.{at_path, arguments, layer_arguments}
use Rattle.fo_infer.proofs.Resolvents.{some_same}
use Rattle.pair_marks.specs.declared.marks.Marks.{Marks}
use Rattle.pair_marks.specs.Tops.{term_top, is_position}
use Rattle.pair_marks.specs.Sets.{offer, Within}
use Rattle.pair_marks.specs.Marking.{HasParts, HasAtomParts, HasHeld, HasNegative}
use Rattle.pair_marks.proofs.Bits.{through}

pub within_through : (k m n : Marks) → Within k m → Within m n → Within k n
within_through k m n h g = record { a = through k.a m.a n.a h.a g.a; b = through k.b m.b n.b h.b g.b; c = through k.c m.c n.c h.c g.c; symbols = through k.symbols m.symbols n.symbols h.symbols g.symbols }

-- ---- in larger sets

module _ (plain : Bool) (old new : Marks) (grown : Within old new) where
  pub parts_grown : (t : FoTerm) → HasParts plain old t → HasParts plain new t
  parts_grown t h path u at is = within_through (offer (term_top u)) old new (h path u at is) grown

  pub atom_parts_grown : (a : Atom) → HasAtomParts plain old a → HasAtomParts plain new a
  atom_parts_grown (Holds t) h = parts_grown t h
  atom_parts_grown (Eq s t) h = (parts_grown s h.0, parts_grown t h.1)

held_grown : (old new : Marks) → Within old new → (a : Atom) → HasHeld old a → HasHeld new a
held_grown old new grown (Holds t) h = within_through (offer (term_top t)) old new h grown
held_grown old new grown (Eq s t) h = tt

pub negative_grown : (old new : Marks) → Within old new → (l : Literal) → HasNegative old l → HasNegative new l
negative_grown old new grown l h is = held_grown old new grown l.atom (h is)

-- ---- one item after another

pub more_grown : {X : Type 0} (P Q : X → Type 0) (xs : List X) (n : ℕ) (d item : X) → item ≡ get_or xs n d → ((x : X) → P x → Q x) → Q item
    → ((k : ℕ) → k < n → (x : X) → slice_get xs k ≡ Some x → P x) → (k : ℕ) → k < n + 1 → (x : X) → slice_get xs k ≡ Some x → Q x
more_grown {X} P Q xs n d item is grown here each =
    below_more (λ k. (x : X) → slice_get xs k ≡ Some x → Q x) n (λ k less x at. grown x (each k less x at)) (λ x at. subst Q (is ∙ get_or_from_slice_get xs n x d at) here)

pub all_at : {X : Type 0} (P : X → Type 0) (xs : List X) (n : ℕ) → length xs ≤ n → ((k : ℕ) → k < n → (x : X) → slice_get xs k ≡ Some x → P x) → (k : ℕ) (x : X) → slice_get xs k ≡ Some x → P x
all_at P xs n over each k x at = each k (let within = slice_get_within xs k x at in omega arith) x at

-- ---- a term's own position, and those below it

module _ (plain : Bool) (m : Marks) (t : FoTerm) (here : is_position plain (term_top t) ≡ true → Within (offer (term_top t)) m) where
  step : (o : Option FoTerm) (path : List ℕ) (u : FoTerm) → ((a : FoTerm) → o ≡ Some a → HasParts plain m a) → option_and_then (at_path path) o ≡ Some u → is_position plain (term_top u) ≡ true → Within (offer (term_top u)) m
  step None path u each at is = cc
  step (Some a) path u each at is = each a refl path u at is

  below : (args : List FoTerm) → arguments t ≡ args → ((k : ℕ) (a : FoTerm) → slice_get args k ≡ Some a → HasParts plain m a) → HasParts plain m t
  below args are each [] u at is = let same = some_same t u at in subst (λ z. Within (offer (term_top z)) m) same (here (ap (λ z. is_position plain (term_top z)) same ∙ is))
  below args are each (k ∷ path) u at is = step (slice_get args k) path u (each k) (ap (λ l. option_and_then (at_path path) (slice_get l k)) (sym are) ∙ at) is

  pub parts_var : (x : ℕ) → t ≡ var x → HasParts plain m t
  parts_var x it = below [] (ap arguments it ∙ ap layer_arguments (outs-Var x)) (λ k a at. cc)

  pub parts_fun : (f : ℕ) (args : List FoTerm) → t ≡ fun f args → ((k : ℕ) (a : FoTerm) → slice_get args k ≡ Some a → HasParts plain m a) → HasParts plain m t
  parts_fun f args it each = below args (ap arguments it ∙ ap layer_arguments (outs-Fun f args)) each
