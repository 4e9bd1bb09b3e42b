-- What a turn makes of the facts, by what the replay answered.
use Rattle.std.proofs.Common.{◌≡◌, ℕ, ◌+◌, ◌-◌, ◌*◌, ◌/◌, ◌<◌, ◌≤◌, Bool, true, false, List, [], ◌∷◌, length, refl, sym, ap, ◌∙◌, subst, arith, zero, suc, inl, inr}
use Rattle.std.specs.Prelude.{◌↔◌, Contains, slice_index, if◌then◌else◌}
use Rattle.std.proofs.lemmas.Bool.{false≢true, eqb-true}
use Rattle.std.proofs.lemmas.Bool.Decides.{eqb_tells}
use Rattle.std.proofs.lemmas.List.{get_or_default}
use Rattle.std.proofs.lemmas.List.Elements.{Contains-append_cases}
use Rattle.fact_minimise.specs.declared.turn.MinTurn.{MinTurn}
use Rattle.fact_minimise.specs.declared.turn.MinTurn.TheVariants.{More, Done}
use Rattle.fact_minimise.specs.declared.stage.Stage.{Stage}
use Rattle.fact_minimise.specs.declared.stage.Stage.TheVariants.{Blocks, Facts}
use Rattle.fact_minimise.specs.Sublists.{IsSublist, without}
use Rattle.fact_minimise.specs.Minimal.{IsMinimal}
use Rattle.fact_minimise.specs.Progress.{Progress, IsSound, Tries, Drops, Keeps}
use Rattle.fact_minimise.specs.Stages.{IsStageOf, is_over, needed_of, left_of, progress_of, shorter_of, stage_kept, stage_dropped, place_of, block_end, ring_part}
use Rattle.fact_minimise.proofs.Shorter.{sublist-self, sublist-cut, sublist-without, shorter-cut, shorter-without}
use Rattle.fact_minimise.proofs.Rings.{place-within, ring-more, ring-length, ring-all}
use Rattle.fact_minimise.proofs.Counts.{blocks-fit, blocks-need, blocks-left, block-kept-fewer, square-falls, block-is}

-- facts are left to try
not-all : (n from tried : ℕ) → IsStageOf n (Facts from tried) → is_over n (Facts from tried) ≡ false → tried < n
not-all n from tried stage more =
    elim (eqb_tells tried n) [
      | inl p ↦ absurd (false≢true (sym more ∙ p.0))
      | inr p ↦ omega (arith, stage.1, p.1)
    ]

-- the fact that is tried next is one of the kept
next-is-kept : (kept : List ℕ) (from tried : ℕ) → from ≤ length kept → tried < length kept → Contains kept (slice_index kept (place_of (length kept) from tried))
next-is-kept kept from tried first more =
    let within = place-within (length kept) from tried first more in
    (place_of (length kept) from tried, within, get_or_default kept (place_of (length kept) from tried) _ 0 within)

-- what is tried comes of the kept facts by leaving out
pub tried-sublist : (kept : List ℕ) (stage : Stage) → IsStageOf (length kept) stage → IsSublist (shorter_of kept stage) kept
tried-sublist kept (Blocks parts next) stage =
    let at = block-is (length kept) parts next stage.0 stage.1 in
    sublist-cut (next * (length kept / parts)) (block_end (length kept) parts next) kept (omega (arith, at.0))
tried-sublist kept (Facts from tried) stage = sublist-without (slice_index kept (place_of (length kept) from tried)) kept

pub tried-shorter : (kept : List ℕ) (stage : Stage) → IsStageOf (length kept) stage → is_over (length kept) stage ≡ false → length (shorter_of kept stage) < length kept
tried-shorter kept (Blocks parts next) stage more =
    let at = block-is (length kept) parts next stage.0 stage.1 in
    shorter-cut (next * (length kept / parts)) (block_end (length kept) parts next) kept at.0 at.1
tried-shorter kept (Facts from tried) stage more =
    shorter-without _ kept (next-is-kept kept from tried stage.0 (not-all (length kept) from tried stage more))

-- the stage behind a list that was found
pub dropped-fits : (n m : ℕ) (stage : Stage) → IsStageOf m (stage_dropped n m stage)
dropped-fits n m (Blocks parts next) = blocks-fit m (parts - 1) next
dropped-fits n m (Facts from tried) = (omega arith, omega arith)

pub dropped-need : (n m : ℕ) (stage : Stage) (kept : List ℕ) → needed_of kept (stage_dropped n m stage) ≡ []
dropped-need n m (Blocks parts next) kept = blocks-need m (parts - 1) next kept
dropped-need n m (Facts from tried) kept = refl

pub dropped-fewer : (n m : ℕ) (stage : Stage) → IsStageOf n stage → is_over n stage ≡ false → m < n → left_of m (stage_dropped n m stage) < left_of n stage
dropped-fewer n m (Blocks parts next) stage more less =
    omega (arith, blocks-left m (parts - 1) next, square-falls m n less)
dropped-fewer n m (Facts from tried) stage more less =
    omega (arith, square-falls m n less, not-all n from tried stage more)

-- the stage behind a list that wasn't found
pub kept-fits : (n : ℕ) (stage : Stage) → IsStageOf n stage → is_over n stage ≡ false → IsStageOf n (stage_kept n stage)
kept-fits n (Blocks parts next) stage more = blocks-fit n parts (next + 1)
kept-fits n (Facts from tried) stage more = (stage.0, omega (arith, not-all n from tried stage more))

pub kept-fewer : (n : ℕ) (stage : Stage) → IsStageOf n stage → is_over n stage ≡ false → left_of n (stage_kept n stage) < left_of n stage
kept-fewer n (Blocks parts next) stage more = block-kept-fewer n parts next stage.0 stage.1
kept-fewer n (Facts from tried) stage more =
    let few = not-all n from tried stage more in
    let some : n ≤ n * n = one-side n in
    omega arith
  where
    one-side : (n : ℕ) → n ≤ n * n
    one-side zero = omega arith
    one-side (suc n) = omega arith

pub kept-keeps : (kept : List ℕ) (stage : Stage) → IsStageOf (length kept) stage → is_over (length kept) stage ≡ false → Keeps (progress_of kept stage) (progress_of kept (stage_kept (length kept) stage)) (shorter_of kept stage)
kept-keeps kept (Blocks parts next) stage more = (refl, inl (blocks-need (length kept) parts (next + 1) kept))
kept-keeps kept (Facts from tried) stage more =
    (refl, inr (slice_index kept (place_of (length kept) from tried), refl, ring-more kept from tried stage.0 (not-all (length kept) from tried stage more)))

only : (x y : ℕ) → Contains (x ∷ []) y → x ≡ y
only x y (zero, within, same) = same
only x y (suc k, within, same) = absurd (omega arith)

none-in : (x : ℕ) → Contains [] x → ⊥
none-in x (k, within, same) = omega arith

-- what wasn't found without a fact makes the fact needed
pub kept-sound : (finds : List ℕ → Type 0) (kept : List ℕ) (stage : Stage) → IsStageOf (length kept) stage → is_over (length kept) stage ≡ false → (finds (shorter_of kept stage) → ⊥) → IsSound finds (progress_of kept stage) → IsSound finds (progress_of kept (stage_kept (length kept) stage))
kept-sound finds kept (Blocks parts next) stage more missed sound = record {
  found = sound.found;
  needed = λ fact h. (let P : List ℕ → Type 0 = λ l. Contains l fact in absurd (none-in fact (subst P (blocks-need (length kept) parts (next + 1) kept) h)));
}
kept-sound finds kept (Facts from tried) stage more missed sound = record {
  found = sound.found;
  needed = λ fact h.
      (let x = slice_index kept (place_of (length kept) from tried) in
      let P : List ℕ → Type 0 = λ l. Contains l fact in
      elim (Contains-append_cases (ring_part kept from tried) (x ∷ []) fact (subst P (ring-more kept from tried stage.0 (not-all (length kept) from tried stage more)) h)) [
        | inl p ↦ sound.needed fact p
        | inr p ↦ (let N : ℕ → Type 0 = λ y. finds (without y kept) → ⊥ in subst N (only x fact p) missed)
      ]);
}

-- one replay of a shorter list
pub found-tries : (finds : List ℕ → Type 0) (kept shorter : List ℕ) (stage : Stage) → IsStageOf (length kept) stage → is_over (length kept) stage ≡ false → shorter ≡ shorter_of kept stage → finds shorter → Tries finds (progress_of kept stage) (progress_of shorter (stage_dropped (length kept) (length shorter) stage))
found-tries finds kept shorter stage fits more is found = record {
  tried = shorter;
  sublist = (let P : List ℕ → Type 0 = λ l. IsSublist l kept in subst P (sym is) (tried-sublist kept stage fits));
  shorter = (let Q : List ℕ → Type 0 = λ l. length l < length kept in subst Q (sym is) (tried-shorter kept stage fits more));
  outcome = inl (found, (refl, dropped-need (length kept) (length shorter) stage shorter));
}

pub missed-tries : (finds : List ℕ → Type 0) (kept : List ℕ) (stage : Stage) → IsStageOf (length kept) stage → is_over (length kept) stage ≡ false → (finds (shorter_of kept stage) → ⊥) → Tries finds (progress_of kept stage) (progress_of kept (stage_kept (length kept) stage))
missed-tries finds kept stage fits more missed = record {
  tried = shorter_of kept stage;
  sublist = tried-sublist kept stage fits;
  shorter = tried-shorter kept stage fits more;
  outcome = inr (missed, kept-keeps kept stage fits more);
}

-- the pass isn't over
pub under-way : (kept : List ℕ) (stage : Stage) → IsStageOf (length kept) stage → is_over (length kept) stage ≡ false → length (needed_of kept stage) < length kept
under-way kept (Blocks parts next) stage more = omega (arith, stage.0, stage.1)
under-way kept (Facts from tried) stage more =
    omega (arith, ring-length kept from tried, not-all (length kept) from tried stage more)

-- where each fact was tried in vain none can be spared
pub over-minimal : (finds : List ℕ → Type 0) (kept : List ℕ) (stage : Stage) → IsStageOf (length kept) stage → is_over (length kept) stage ≡ true → IsSound finds (progress_of kept stage) → IsMinimal finds kept
over-minimal finds kept (Blocks parts next) stage over sound = absurd (false≢true over)
over-minimal finds kept (Facts from tried) stage over sound = record {
  found = sound.found;
  none_to_spare = λ fact h.
      (let P : ℕ → Type 0 = λ n. Contains (ring_part kept from n) fact in
      sound.needed fact (subst P (sym (eqb-true tried (length kept) over)) (ring-all kept from fact stage.0 h)));
}

-- what an answer says of its stage
pub answer-more : (answer : MinTurn) (n m : ℕ) (stage : Stage) → answer ≡ (if is_over n stage then Done else More) → n ≡ m → answer ≡ More → is_over m stage ≡ false
answer-more answer n m stage is same more = ap (λ x. is_over x stage) (sym same) ∙ go (is_over n stage) (sym is ∙ more)
  where
    go : (b : Bool) → (if b then Done else More) ≡ More → b ≡ false
    go true e = cc
    go false e = refl

pub answer-done : (answer : MinTurn) (n m : ℕ) (stage : Stage) → answer ≡ (if is_over n stage then Done else More) → n ≡ m → answer ≡ Done → is_over m stage ≡ true
answer-done answer n m stage is same done = ap (λ x. is_over x stage) (sym same) ∙ go (is_over n stage) (sym is ∙ done)
  where
    go : (b : Bool) → (if b then Done else More) ≡ Done → b ≡ true
    go true e = refl
    go false e = cc

-- a turn whose shorter list was found
pub record AfterFound (finds : List ℕ → Type 0) (old : Progress) (shorter : List ℕ) (next : Stage) : Type 0 where
  pub fits : IsStageOf (length shorter) next
  pub sublist : IsSublist shorter old.kept
  pub tries : finds shorter → Tries finds old (progress_of shorter next)
  pub fewer : left_of (length shorter) next < old.left

pub after-found : (finds : List ℕ → Type 0) (old : Progress) (kept shorter : List ℕ) (stage next : Stage) (n m : ℕ) → progress_of kept stage ≡ old → IsStageOf (length kept) stage → is_over (length kept) stage ≡ false → shorter ≡ shorter_of kept stage → n ≡ length kept → m ≡ length shorter → next ≡ stage_dropped n m stage → AfterFound finds old shorter next
after-found finds old kept shorter stage next n m view fits more is len left step =
    let goes : stage_dropped (length kept) (length shorter) stage ≡ next = ap (λ x. stage_dropped x (length shorter) stage) (sym len) ∙ ap (λ x. stage_dropped n x stage) (sym left) ∙ sym step in
    let O : Progress → Type 0 = λ x. AfterFound finds x shorter next in
    let N : Stage → Type 0 = λ x. AfterFound finds (progress_of kept stage) shorter x in
    let less : length shorter < length kept = (let Q : List ℕ → Type 0 = λ l. length l < length kept in subst Q (sym is) (tried-shorter kept stage fits more)) in
    subst O view (subst N goes (record {
      fits = dropped-fits (length kept) (length shorter) stage;
      sublist = (let P : List ℕ → Type 0 = λ l. IsSublist l kept in subst P (sym is) (tried-sublist kept stage fits));
      tries = λ found. found-tries finds kept shorter stage fits more is found;
      fewer = dropped-fewer (length kept) (length shorter) stage fits more less;
    }))

-- a turn whose shorter list wasn't found
pub record AfterMissed (finds : List ℕ → Type 0) (old : Progress) (kept : List ℕ) (next : Stage) : Type 0 where
  pub fits : IsStageOf (length kept) next
  pub sound : IsSound finds (progress_of kept next)
  pub sublist : IsSublist kept old.kept
  pub tries : Tries finds old (progress_of kept next)
  pub fewer : left_of (length kept) next < old.left

pub after-missed : (finds : List ℕ → Type 0) (old : Progress) (kept shorter : List ℕ) (stage next : Stage) (n : ℕ) → progress_of kept stage ≡ old → IsStageOf (length kept) stage → is_over (length kept) stage ≡ false → shorter ≡ shorter_of kept stage → (finds shorter → ⊥) → IsSound finds old → n ≡ length kept → next ≡ stage_kept n stage → AfterMissed finds old kept next
after-missed finds old kept shorter stage next n view fits more is missed sound len step =
    let goes : stage_kept (length kept) stage ≡ next = ap (λ x. stage_kept x stage) (sym len) ∙ sym step in
    let O : Progress → Type 0 = λ x. AfterMissed finds x kept next in
    let N : Stage → Type 0 = λ x. AfterMissed finds (progress_of kept stage) kept x in
    let S : Progress → Type 0 = λ x. IsSound finds x in
    let was : IsSound finds (progress_of kept stage) = subst S (sym view) sound in
    let not : finds (shorter_of kept stage) → ⊥ = (let M : List ℕ → Type 0 = λ x. finds x → ⊥ in subst M is missed) in
    subst O view (subst N goes (record {
      fits = kept-fits (length kept) stage fits more;
      sound = kept-sound finds kept stage fits more not was;
      sublist = sublist-self kept;
      tries = missed-tries finds kept stage fits more not;
      fewer = kept-fewer (length kept) stage fits more;
    }))

-- two relations that find the same lists keep the same lists sound, and minimal
pub sound-alike : (finds others : List ℕ → Type 0) (now : Progress) → ((facts : List ℕ) → finds facts ↔ others facts) → IsSound others now → IsSound finds now
sound-alike finds others now same sound = record {
  found = (same now.kept).1 sound.found;
  needed = λ fact h found. sound.needed fact h ((same (without fact now.kept)).0 found);
}
