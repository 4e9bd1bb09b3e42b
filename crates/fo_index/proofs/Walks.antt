-- A front is gathered along a walk.
use Rattle.std.proofs.Common.{◌≡◌, ℕ, ◌+◌, ◌<◌, ◌≤◌, Bool, true, false, List, [], ◌∷◌, ◌++◌, length, get_or, map, take, drop, suc, refl, sym, ap, ◌∙◌, subst}
use Rattle.std.specs.List.{concat}
use Rattle.std.proofs.lemmas.List.{append-nil, append_assoc, map-append, take_more, take_all, take-append-le, take-append-drop}
use Rattle.std.proofs.lemmas.List.Folds.{concat-append}
use Rattle.fo_terms.specs.declared.term.FoTerm.{FoTerm}
use Rattle.fo_terms.specs.declared.term.FoTerm.TheVariants.{rolls-Var, rolls-Fun}
use Rattle.fo_terms.specs.declared.term.FoTerm.TheOpen.{FoTerm-F}
use Rattle.fo_terms.specs.declared.term.FoTerm.TheFolds.{fold-roll-FoTerm}
use Rattle.fo_terms.specs.Substitution.{var, fun}
use Rattle.fo_index.specs.Fronts.{marks, marks_step, until_variable, front}
use Rattle.fo_index.specs.inner.Gathered.{Gathers}

pub marks_var : (x : ℕ) → marks (var x) ≡ 0 ∷ []
marks_var x = ap marks (sym (rolls-Var x)) ∙ fold-roll-FoTerm (List ℕ) marks_step (FoTerm-F.Var x)

pub marks_fun : (f : ℕ) (args : List FoTerm) → marks (fun f args) ≡ suc f ∷ concat (map marks args)
marks_fun f args = ap marks (sym (rolls-Fun f args)) ∙ fold-roll-FoTerm (List ℕ) marks_step (FoTerm-F.Fun f args)

-- nothing to be walked
pub gathers-none : (done : List ℕ) → length done ≤ 16 → Gathers done [] true done
gathers-none done few = record { front = λ rest. refl; few = few }

-- two walks, the second behind the first
pub gathers-on : (done mid now marks more : List ℕ) (on : Bool) → Gathers done marks true mid → Gathers mid more on now → Gathers done (marks ++ more) on now
gathers-on done mid now marks more on first second = record {
  front = λ rest. ap (λ ms. take 16 (done ++ until_variable ms)) (append_assoc marks more rest) ∙ first.front (more ++ rest) ∙ second.front rest;
  few = second.few;
}

-- a walk that is over is over whatever comes
pub gathers-over : (done now marks more : List ℕ) → Gathers done marks false now → Gathers done (marks ++ more) false now
gathers-over done now marks more walk = record {
  front = λ rest. ap (λ ms. take 16 (done ++ until_variable ms)) (append_assoc marks more rest) ∙ walk.front (more ++ rest);
  few = walk.few;
}

-- a variable ends it
pub gathers-var : (done marks : List ℕ) → marks ≡ 0 ∷ [] → length done ≤ 16 → Gathers done marks false done
gathers-var done marks is few =
    let P : List ℕ → Type 0 = λ ms. Gathers done ms false done in
    subst P (sym is) (record { front = λ rest. refl; few = few })

-- so do 16 symbols
pub gathers-full : (done marks : List ℕ) → 16 ≤ length done → length done ≤ 16 → Gathers done marks false done
gathers-full done marks full few = record {
  front = λ rest. take-append-le 16 done (until_variable (marks ++ rest)) full ∙ sym (take-append-le 16 done [] full);
  few = few;
}

-- a symbol and its arguments
pub gathers-fun : (done pushed now marks : List ℕ) (f : ℕ) (on : Bool) (args : List ℕ) → marks ≡ suc f ∷ args → pushed ≡ done ++ f ∷ [] → Gathers pushed args on now → Gathers done marks on now
gathers-fun done pushed now marks f on args is pushed_is walk =
    let P : List ℕ → Type 0 = λ ms. Gathers done ms on now in
    subst P (sym is) (record {
      front = λ rest.
          ap (take 16) (sym (append_assoc done (f ∷ []) (until_variable (args ++ rest))) ∙ ap (λ l. l ++ until_variable (args ++ rest)) (sym pushed_is)) ∙ walk.front rest;
      few = walk.few;
    })

pub marks-more : (ts : List FoTerm) (i : ℕ) (t : FoTerm) → i < length ts → t ≡ get_or ts i t → concat (map marks (take (i + 1) ts)) ≡ concat (map marks (take i ts)) ++ marks t
marks-more ts i t within is =
    ap (λ l. concat (map marks l)) (take_more ts i t within) ∙ ap concat (map-append marks (take i ts) (get_or ts i t ∷ [])) ∙ concat-append (map marks (take i ts)) (marks (get_or ts i t) ∷ [])
    ∙ ap (λ l. concat (map marks (take i ts)) ++ l) (append-nil (marks (get_or ts i t)) ∙ ap marks (sym is))

pub gathers-more : (ts : List FoTerm) (i : ℕ) (t : FoTerm) (done mid now : List ℕ) (on : Bool) → i < length ts → t ≡ get_or ts i t → Gathers done (concat (map marks (take i ts))) true mid
    → Gathers mid (marks t) on now → Gathers done (concat (map marks (take (i + 1) ts))) on now
gathers-more ts i t done mid now on within is before step =
    let P : List ℕ → Type 0 = λ ms. Gathers done ms on now in
    subst P (sym (marks-more ts i t within is)) (gathers-on done mid now (concat (map marks (take i ts))) (marks t) on before step)

pub marks-split : (ts : List FoTerm) (i : ℕ) → concat (map marks ts) ≡ concat (map marks (take i ts)) ++ concat (map marks (drop i ts))
marks-split ts i = ap (λ l. concat (map marks l)) (sym (take-append-drop i ts)) ∙ ap concat (map-append marks (take i ts) (drop i ts)) ∙ concat-append (map marks (take i ts)) (map marks (drop i ts))

-- the walk was over in the middle of a list
pub gathers-stop : (ts : List FoTerm) (i : ℕ) (t : FoTerm) (done mid now : List ℕ) → i < length ts → t ≡ get_or ts i t → Gathers done (concat (map marks (take i ts))) true mid
    → Gathers mid (marks t) false now → Gathers done (concat (map marks ts)) false now
gathers-stop ts i t done mid now within is before step =
    let P : List ℕ → Type 0 = λ ms. Gathers done ms false now in
    subst P (sym (marks-split ts (i + 1))) (gathers-over done now (concat (map marks (take (i + 1) ts))) (concat (map marks (drop (i + 1) ts))) (gathers-more ts i t done mid now false within is before step))

pub gathers-all : (ts : List FoTerm) (i : ℕ) (done now : List ℕ) → length ts ≤ i → Gathers done (concat (map marks (take i ts))) true now → Gathers done (concat (map marks ts)) true now
gathers-all ts i done now past walk =
    let P : List FoTerm → Type 0 = λ l. Gathers done (concat (map marks l)) true now in
    subst P (take_all i ts past) walk

whole : (t : FoTerm) (now : List ℕ) → take 16 (until_variable (marks t ++ [])) ≡ take 16 (now ++ []) → length now ≤ 16 → now ≡ take 16 (until_variable (marks t))
whole t now is few =
    sym (take_all 16 now few) ∙ ap (take 16) (sym (append-nil now)) ∙ sym is ∙ ap (λ ms. take 16 (until_variable ms)) (append-nil (marks t))

-- a walk of a whole term gives its front
pub gathers-front : (t : FoTerm) (now : List ℕ) (on : Bool) → Gathers [] (marks t) on now → now ≡ front t
unfolding front
gathers-front t now true walk = whole t now (walk.front []) walk.few
gathers-front t now false walk = whole t now (walk.front []) walk.few
