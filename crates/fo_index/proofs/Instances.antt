-- Terms with one instance have fronts of which one begins the other.
use Rattle.std.proofs.Common.{◌≡◌, ℕ, List, [], ◌∷◌, ◌++◌, map, take, drop, suc, refl, sym, ap, ◌∙◌, subst, inl, inr}
use Rattle.std.specs.List.{concat}
use Rattle.std.proofs.lemmas.List.{append-nil, append_assoc, take-append-drop}
use Rattle.fo_terms.specs.declared.term.FoTerm.{FoTerm}
use Rattle.fo_terms.specs.Substitution.{var, fun, put}
use Rattle.fo_terms.proofs.Induction.{by_cases, Each}
use Rattle.fo_terms.proofs.Substitution.{put_fun}
use Rattle.fo_index.specs.Fronts.{marks, until_variable, front, Begins, Meets, HaveOneInstance}
use Rattle.fo_index.proofs.Walks.{marks_var, marks_fun}

begins-trans : (a b c : List ℕ) → Begins a b → Begins b c → Begins a c
begins-trans a b c ab bc = (ab.0 ++ bc.0, bc.1 ∙ ap (λ l. l ++ bc.0) ab.1 ∙ append_assoc a ab.0 bc.0)

begins-cons : (f : ℕ) (a b : List ℕ) → Begins a b → Begins (f ∷ a) (f ∷ b)
begins-cons f a b ab = (ab.0, ap (λ l. f ∷ l) ab.1)

-- the symbols before the first variable begin those of an instance, whatever comes behind
abbrev Refines : List ℕ → List ℕ → Type 0
Refines ms ns = (rest more : List ℕ) → Begins (until_variable rest) (until_variable more) → Begins (until_variable (ms ++ rest)) (until_variable (ns ++ more))

refines-append : (ms ns ms' ns' : List ℕ) → Refines ms ns → Refines ms' ns' → Refines (ms ++ ms') (ns ++ ns')
refines-append ms ns ms' ns' first second rest more h =
    let P : List ℕ → List ℕ → Type 0 = λ x y. Begins (until_variable x) (until_variable y) in
    let both = first (ms' ++ rest) (ns' ++ more) (second rest more h) in
    let Q : List ℕ → Type 0 = λ x. P x (ns ++ (ns' ++ more)) in
    let R : List ℕ → Type 0 = λ y. P ((ms ++ ms') ++ rest) y in
    subst R (sym (append_assoc ns ns' more)) (subst Q (sym (append_assoc ms ms' rest)) both)

abbrev Instance : (ℕ → FoTerm) → FoTerm → Type 0
Instance v t = Refines (marks t) (marks (put v t))

refines-all : (v : ℕ → FoTerm) (ts : List FoTerm) → Each (Instance v) ts → Refines (concat (map marks ts)) (concat (map marks (map (put v) ts)))
refines-all v [] each = λ rest more h. h
refines-all v (t ∷ ts) each = refines-append (marks t) (marks (put v t)) (concat (map marks ts)) (concat (map marks (map (put v) ts))) each.0 (refines-all v ts each.1)

refines-var : (v : ℕ → FoTerm) (x : ℕ) → Instance v (var x)
refines-var v x =
    let P : List ℕ → Type 0 = λ ms. Refines ms (marks (put v (var x))) in
    subst P (sym (marks_var x)) (λ rest more h. (until_variable (marks (put v (var x)) ++ more), refl))

refines-symbol : (f : ℕ) (ms ns : List ℕ) → Refines ms ns → Refines (suc f ∷ ms) (suc f ∷ ns)
refines-symbol f ms ns h rest more k = begins-cons f (until_variable (ms ++ rest)) (until_variable (ns ++ more)) (h rest more k)

refines-fun : (v : ℕ → FoTerm) (f : ℕ) (args : List FoTerm) → Each (Instance v) args → Instance v (fun f args)
refines-fun v f args each =
    let P : List ℕ → Type 0 = λ ms. Refines ms (marks (put v (fun f args))) in
    let Q : List ℕ → Type 0 = λ ns. Refines (suc f ∷ concat (map marks args)) ns in
    let same : marks (put v (fun f args)) ≡ suc f ∷ concat (map marks (map (put v) args)) = ap marks (put_fun v f args) ∙ marks_fun f (map (put v) args) in
    subst P (sym (marks_fun f args)) (subst Q (sym same) (refines-symbol f (concat (map marks args)) (concat (map marks (map (put v) args))) (refines-all v args each)))

pub begins-instance : (v : ℕ → FoTerm) (t : FoTerm) → Begins (front t) (until_variable (marks (put v t)))
unfolding front
begins-instance v t =
    let h = by_cases (Instance v) (refines-var v) (refines-fun v) t [] [] ([], refl) in
    let P : List ℕ → List ℕ → Type 0 = λ x y. Begins (until_variable x) (until_variable y) in
    let Q : List ℕ → Type 0 = λ x. P x (marks (put v t) ++ []) in
    let R : List ℕ → Type 0 = λ y. P (marks t) y in
    let whole = subst R (append-nil (marks (put v t))) (subst Q (append-nil (marks t)) h) in
    let all = until_variable (marks t) in
    begins-trans (take 16 all) all (until_variable (marks (put v t))) (drop 16 all, sym (take-append-drop 16 all)) whole

-- two beginnings of one list
pub meet : (a b c : List ℕ) → Begins a c → Begins b c → Meets a b
meet [] b c ac bc = inl (b, refl)
meet (x ∷ a) [] c ac bc = inr (x ∷ a, refl)
meet (x ∷ a) (y ∷ b) [] ac bc = (let e = ac.1 in cc)
meet (x ∷ a) (y ∷ b) (z ∷ c) ac bc =
    let first = ac.1 in
    let second = bc.1 in
    let same : y ≡ x = cc in
    let P : ℕ → Type 0 = λ w. Meets (x ∷ a) (w ∷ b) in
    subst P (sym same) (elim (meet a b c (ac.0, cc) (bc.0, cc)) [ inl h ↦ inl (begins-cons x a b h) | inr h ↦ inr (begins-cons x b a h) ])

pub instances-meet : (s t : FoTerm) → HaveOneInstance s t → Meets (front s) (front t)
instances-meet s t h =
    let P : FoTerm → Type 0 = λ x. Begins (front t) (until_variable (marks x)) in
    meet (front s) (front t) (until_variable (marks (put h.0 s))) (begins-instance h.0 s) (subst P (sym h.2) (begins-instance h.1 t))
