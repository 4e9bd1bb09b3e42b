-- A log grows.
use Rattle.std.proofs.Common.{◌≡◌, ℕ, List, [], ◌∷◌, ◌++◌, length, Some, refl, sym, ◌∙◌, ap, subst, append_assoc, append-nil, length-append, arith}
use Rattle.kernel_rules.specs.declared.step.Step.{Step}
use Rattle.kernel_rules.specs.declared.sequent.Sequent.{Sequent}
use Rattle.kernel_rules.specs.Derivations.{derived, sequent}
use Rattle.hol_kernel.specs.Logs.{Logged, seq_at, IsThm}
use Rattle.hol_kernel.specs.Growth.{Extends, Gives, Appends}
use Rattle.hol_kernel.proofs.Places.{seq_at_front, seq_at_next}
use Rattle.hol_kernel.proofs.Following.{derived_push}

pub extends_refl : (log : Logged) → Extends log log
extends_refl log = record { env = refl; steps = ([], sym (append-nil log.steps)); longer = omega arith; earlier = λ i h. refl }

pub extends_same : (old new : Logged) → new ≡ old → Extends old new
extends_same old new e = subst (λ l. Extends old l) (sym e) (extends_refl old)

pub extends_trans : (a b c : Logged) → Extends a b → Extends b c → Extends a c
extends_trans a b c f g = record {
  env = g.env ∙ f.env;
  steps = (f.steps.0 ++ g.steps.0, g.steps.1 ∙ ap (λ z. z ++ g.steps.0) f.steps.1 ∙ joined a.steps f.steps.0 g.steps.0);
  longer = omega (arith, f.longer, g.longer);
  earlier = λ i h. g.earlier i (omega (arith, h, f.longer)) ∙ f.earlier i h;
} where
  joined : (x y z : List Step) → (x ++ y) ++ z ≡ x ++ (y ++ z)
  joined x y z = simp append_assoc

-- a theorem stays one, and stays what it is
pub thm_stays : (a b : Logged) (i : ℕ) → Extends a b → IsThm a i → IsThm b i
thm_stays a b i f h = omega (arith, h, f.longer)

pub gives_stays : (a b : Logged) (i : ℕ) (q : Sequent) → Extends a b → Gives a i q → Gives b i q
gives_stays a b i q f g = record { is_thm = thm_stays a b i f g.is_thm; is = f.earlier i g.is_thm ∙ g.is }

module _ (old new : Logged) (s : Step) (r : ℕ) (grown : Appends old new s r) where
  pub appends_extends : Extends old new
  appends_extends = record {
    env = grown.env;
    steps = (s ∷ [], grown.steps);
    longer = omega (arith, ap length grown.sequents.1.1, length-append old.sequents (grown.sequents.0 ∷ []));
    earlier = λ i h. ap (λ z. seq_at z i) grown.sequents.1.1 ∙ seq_at_front old.sequents (grown.sequents.0 ∷ []) i h;
  }

  -- a log with a derivation keeps one
  pub appends_derives : derived old.env old.steps ≡ Some old.sequents → derived new.env new.steps ≡ Some new.sequents
  appends_derives h =
      (λ i. derived (grown.env i) (grown.steps i)) ∙ derived_push old.env old.steps s old.sequents grown.sequents.0 h grown.sequents.1.0 ∙ ap (λ l. Some l) (sym grown.sequents.1.1)

  -- the new theorem is the step's sequent
  pub appends_gives : (q : Sequent) → sequent old.env s old.sequents ≡ Some q → Gives new r q
  appends_gives q is =
      let same : grown.sequents.0 ≡ q = cc (is, grown.sequents.1.0) in record {
        is_thm = omega (arith, grown.at, ap length grown.sequents.1.1, length-append old.sequents (grown.sequents.0 ∷ []));
        is = ap (λ z. seq_at z r) grown.sequents.1.1 ∙ ap (seq_at (old.sequents ++ grown.sequents.0 ∷ [])) grown.at ∙ seq_at_next old.sequents grown.sequents.0 ∙ same;
      }
