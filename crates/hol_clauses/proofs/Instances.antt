-- A theorem whose variables are replaced one after another.
use Rattle.std.proofs.Common.{◌≡◌, ℕ, ◌<◌, ◌≤◌, ◌+◌, zero, suc, List, [], ◌∷◌, ◌++◌, take, length, get_or, IsTrue, refl, sym, ◌∙◌, ap, subst, arith}
use Rattle.std.proofs.lemmas.List.{take_more, take_all}
use Rattle.std.specs.FinSet as set
use Rattle.hol_terms.specs.declared.sig.Sig.{Sig}
use Rattle.hol_terms.specs.declared.term.Term.{Term}
use Rattle.hol_terms.specs.Types.{ty_fits}
use Rattle.hyp_sets.specs.Sets.{TermSet, Holds, image}
use Rattle.hyp_sets.proofs.Images.{holds_image, in_image, image_fixed}
use Rattle.hyp_sets.proofs.Members.{same_members}
use Rattle.kernel_rules.specs.Rules.{seq}
use Rattle.hol_kernel.specs.Logs.{Logged, IsThm, thm}
use Rattle.hol_kernel.specs.Growth.{Extends, Gives, SameFacts}
use Rattle.hol_kernel.specs.Conditions.{IsGiven}
use Rattle.hol_kernel.proofs.Growing.{extends_refl, extends_trans}
use Rattle.hol_clauses.specs.declared.binding.Binding.{Binding}
use Rattle.hol_clauses.specs.Bindings.{put_one, in_turn, AllGiven}

-- what is reached once these bindings are put in
pub record Reached (old new : Logged) (done : List Binding) (th r : ℕ) : Type 0 where
  pub kept : Extends old new
  pub facts : SameFacts old new
  pub gives : Gives new r (seq (image (in_turn done) (thm old th).hyps) (in_turn done (thm old th).concl))

pub reached_start : (old : Logged) (th : ℕ) → IsThm old th → Reached old old [] th th
reached_start old th is_thm = record {
  kept = extends_refl old;
  facts = refl;
  gives = record { is_thm = is_thm; is = ap (λ s. seq s (thm old th).concl) (image_fixed (in_turn []) (thm old th).hyps (λ x h. refl)) };
}

in_turn_more : (bs : List Binding) (b : Binding) (t : Term) → in_turn (bs ++ b ∷ []) t ≡ put_one b (in_turn bs t)
in_turn_more [] b t = refl
in_turn_more (c ∷ bs) b t = in_turn_more bs b (put_one c t)

pub image_twice : (f g h : Term → Term) (s : TermSet) → ((x : Term) → h x ≡ g (f x)) → image g (image f s) ≡ image h s
image_twice f g h s same =
    same_members (image g (image f s)) (image h s)
    (λ y k. let outer = holds_image g (image f s) y k in let inner = holds_image f s outer.0 outer.1.0 in
    subst (Holds (image h s)) (same inner.0 ∙ ap g inner.1.1 ∙ outer.1.1) (in_image h s inner.0 inner.1.0))
    (λ y k. let from = holds_image h s y k in subst (Holds (image g (image f s))) (sym (same from.0) ∙ from.1.1) (in_image g (image f s) (f from.0) (in_image f s from.0 from.1.0)))

pub reached_step : (old mid new : Logged) (bs : List Binding) (i : ℕ) (b : Binding) (th at r : ℕ) → i < length bs → b ≡ get_or bs i b → Reached old mid (take i bs) th at → Extends mid new → SameFacts mid new →
    Gives new r (seq (image (put_one b) (thm mid at).hyps) (put_one b (thm mid at).concl)) → Reached old new (take (i + 1) bs) th r
reached_step old mid new bs i b th at r within is reached kept facts g = record {
  kept = extends_trans old mid new reached.kept kept;
  facts = facts ∙ reached.facts;
  gives = record { is_thm = g.is_thm; is = g.is ∙ (λ k. seq (image (put_one b) ((reached.gives.is k).hyps)) (put_one b ((reached.gives.is k).concl))) ∙ whole ∙ (λ k. seq (image (in_turn (more k)) (thm old th).hyps) (in_turn (more k) (thm old th).concl)) };
} where
  more : take i bs ++ b ∷ [] ≡ take (i + 1) bs
  more = ap (λ z. take i bs ++ z ∷ []) is ∙ sym (take_more bs i b within)

  whole : seq (image (put_one b) (image (in_turn (take i bs)) (thm old th).hyps)) (put_one b (in_turn (take i bs) (thm old th).concl)) ≡ seq (image (in_turn (take i bs ++ b ∷ [])) (thm old th).hyps) (in_turn (take i bs ++ b ∷ []) (thm old th).concl)
  whole = λ k. seq (image_twice (in_turn (take i bs)) (put_one b) (in_turn (take i bs ++ b ∷ [])) (thm old th).hyps (in_turn_more (take i bs) b) k) (sym (in_turn_more (take i bs) b (thm old th).concl) k)

given_at : (sig : Sig) (bs : List Binding) (i : ℕ) (b : Binding) → AllGiven sig bs → i < length bs → b ≡ get_or bs i b → IsTrue (ty_fits sig.types b.ty) × IsGiven sig b.term b.ty
given_at sig [] i b all within is = absurd (omega (arith, within))
given_at sig (c ∷ bs) zero b all within is = subst (λ z. IsTrue (ty_fits sig.types z.ty) × IsGiven sig z.term z.ty) (sym is) all.0
given_at sig (c ∷ bs) (suc i) b all within is = given_at sig bs i b all.1 (omega (arith, within)) is

pub given_still : (old mid : Logged) (bs : List Binding) (i : ℕ) (b : Binding) → Extends old mid → AllGiven old.env.sig bs → i < length bs → b ≡ get_or bs i b →
    IsTrue (ty_fits mid.env.sig.types b.ty) × IsGiven mid.env.sig b.term b.ty
given_still old mid bs i b kept all within is = subst (λ e. IsTrue (ty_fits e.sig.types b.ty) × IsGiven e.sig b.term b.ty) (sym kept.env) (given_at old.env.sig bs i b all within is)

pub reached_all : (old new : Logged) (bs : List Binding) (i th r : ℕ) → length bs ≤ i → Reached old new (take i bs) th r → Gives new r (seq (image (in_turn bs) (thm old th).hyps) (in_turn bs (thm old th).concl))
reached_all old new bs i th r h reached = subst (λ ds. Gives new r (seq (image (in_turn ds) (thm old th).hyps) (in_turn ds (thm old th).concl))) (take_all i bs h) reached.gives
