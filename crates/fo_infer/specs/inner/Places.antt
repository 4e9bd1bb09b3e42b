-- Where a walk of paramodulation stands.
use Rattle.std.specs.Prelude.{◌≡◌, ℕ, ◌<◌, Bool, true, if◌then◌else◌, List, ◌++◌, map, length, Some, slice_get, IsTrue}
use Rattle.fo_terms.specs.declared.term.FoTerm.{FoTerm}
use Rattle.fo_terms.specs.declared.atom.Atom.TheVariants.{Eq}
use Rattle.fo_terms.specs.Substitution.{put}
use Rattle.fo_unify.specs.declared.subst.Bind.{Bind}
use Rattle.fo_unify.specs.Lookup.{term_of}
use Rattle.fo_order.specs.KnuthBendix.{Above}
use Rattle.fo_order.specs.Eligible.{IsEligible}
use Rattle.fo_infer.specs.declared.made.Rule.{Rule}
use Rattle.fo_infer.specs.declared.made.Rule.TheVariants.{Para}
use Rattle.fo_infer.specs.declared.source.Source.{Source}
use Rattle.fo_infer.specs.inner.Slight.{StaysLess}
use Rattle.fo_infer.specs.Inferences.{Position, tagged_position, plain_position, renamed_apart, sought, put_in}

-- the kind of position that a walk looks for
abbrev pub position_of : Bool → Position
position_of plain = if plain then plain_position else tagged_position

-- under the substitution the one term isn't less than or equal to the other
abbrev pub NotBelow : List Bind → FoTerm → FoTerm → Type 0
NotBelow binds s t = (put (term_of binds) s ≡ put (term_of binds) t → ⊥) × (Above (put (term_of binds) t) (put (term_of binds) s) → ⊥)

-- an eligible positive equation in one direction, and the right clause's literals renamed apart
pub record IsSource (from : Source) : Type 0 where
  pub apart : from.apart.now ≡ renamed_apart from.p.now from.q.now
  pub within : from.i < length from.p.now.literals
  pub eligible : IsEligible from.p.now from.i
  pub a : FoTerm
  pub b : FoTerm
  pub equation : slice_get from.p.now.literals from.i ≡ Some (record { positive = true; atom = Eq a b })
  pub sought_is : from.sought.now ≡ sought from.swapped a b
  pub put_in_is : from.put_in.now ≡ put_in from.swapped a b
  pub less : IsTrue from.stays_less → StaysLess from.sought.now from.put_in.now

-- the rules at these paths, each behind the given one
abbrev pub rules_behind : ℕ → Bool → ℕ → List ℕ → List (List ℕ) → List Rule
rules_behind i swapped j path paths = map (λ rest. Para i swapped j (path ++ rest)) paths
