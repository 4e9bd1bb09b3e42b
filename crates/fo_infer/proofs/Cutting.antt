-- What a most general unifier puts for a variable is a variable, or what it makes of a part of one of the two terms that is no variable.
-- Else that could be cut out of all images, and a variable put in its place, which a unifier that is more general would do.
use Rattle.std.proofs.Common.{◌≡◌, ℕ, ◌≤◌, Bool, true, false, if◌then◌else◌, List, [], ◌∷◌, map, sum, ◌⊎◌, inl, inr, refl, sym, ap, subst, ◌∙◌, arith}
use Rattle.std.specs.List.{concat}
use Rattle.std.proofs.lemmas.List.{map-id}
use Rattle.fo_terms.specs.declared.term.FoTerm.{FoTerm}
use Rattle.fo_terms.specs.declared.term.FoTerm.TheOpen.{FoTerm-F}
use Rattle.fo_terms.specs.declared.term.FoTerm.TheFolds.{fold-FoTerm, fold-roll-FoTerm}
use Rattle.fo_terms.specs.declared.term.FoTerm.TheVariants.{rolls-Var, rolls-Fun}
use Rattle.fo_terms.specs.Weight.{size_of}
use Rattle.fo_terms.specs.Same.{is_term}
use Rattle.fo_terms.specs.Substitution.{var, fun, put}
use Rattle.fo_terms.specs.Normal.{variables_of}
use Rattle.fo_terms.proofs.Heads.{fun_no_var}
use Rattle.fo_terms.proofs.Induction.{Each, by_cases}
use Rattle.fo_terms.proofs.Sameness.{is_term_itself, is_term_sound}
use Rattle.fo_terms.proofs.Substitution.{put_var, put_fun, size_fun, sum_cons, map_map, map_each}
use Rattle.fo_terms.proofs.Renaming.{each_left, each_right, variables_fun}
use Rattle.fo_unify.specs.declared.subst.Bind.{Bind}
use Rattle.fo_unify.specs.Lookup.{term_of}
use Rattle.fo_unify.specs.Unifier.{IsMostGeneral}

-- ---- a term cut out of others

-- the term as it is, and with a variable in the place of each part that is the whole one
abbrev both_step : FoTerm → FoTerm-F (FoTerm × FoTerm) → FoTerm × FoTerm
both_step whole (FoTerm-F.Var y) = (var y, var y)
both_step whole (FoTerm-F.Fun f ps) = (fun f (map (λ p. p.0) ps), if is_term (fun f (map (λ p. p.0) ps)) whole then var 0 else fun f (map (λ p. p.1) ps))

abbrev both : FoTerm → FoTerm → FoTerm × FoTerm
both whole = fold-FoTerm (FoTerm × FoTerm) (both_step whole)

abbrev cut : FoTerm → FoTerm → FoTerm
cut whole t = (both whole t).1

both_var : (whole : FoTerm) (y : ℕ) → both whole (var y) ≡ (var y, var y)
both_var whole y = ap (both whole) (sym (rolls-Var y)) ∙ fold-roll-FoTerm (FoTerm × FoTerm) (both_step whole) (FoTerm-F.Var y)

both_fun : (whole : FoTerm) (f : ℕ) (args : List FoTerm) → both whole (fun f args) ≡ both_step whole (FoTerm-F.Fun f (map (both whole) args))
both_fun whole f args = ap (both whole) (sym (rolls-Fun f args)) ∙ fold-roll-FoTerm (FoTerm × FoTerm) (both_step whole) (FoTerm-F.Fun f args)

firsts_of : (whole : FoTerm) (args : List FoTerm) → Each (λ t. (both whole t).0 ≡ t) args → map (λ p. p.0) (map (both whole) args) ≡ args
firsts_of whole args each = map_map (λ p. p.0) (both whole) args ∙ map_each (λ t. (both whole t).0) (λ t. t) args each ∙ map-id args

first_is : (whole t : FoTerm) → (both whole t).0 ≡ t
first_is whole = by_cases (λ t. (both whole t).0 ≡ t)
    (λ y. ap (λ p. p.0) (both_var whole y))
    (λ f args each. ap (λ p. p.0) (both_fun whole f args) ∙ ap (fun f) (firsts_of whole args each))

all_first : (whole : FoTerm) (args : List FoTerm) → Each (λ t. (both whole t).0 ≡ t) args
all_first whole [] = tt
all_first whole (t ∷ ts) = (first_is whole t, all_first whole ts)

-- a term with arguments is cut as the test says
cut_fun : (whole : FoTerm) (f : ℕ) (args : List FoTerm) → cut whole (fun f args) ≡ (if is_term (fun f args) whole then var 0 else fun f (map (cut whole) args))
cut_fun whole f args =
    ap (λ p. p.1) (both_fun whole f args)
    ∙ ap (λ l. if is_term (fun f l) whole then var 0 else fun f (map (λ p. p.1) (map (both whole) args))) (firsts_of whole args (all_first whole args))
    ∙ ap (λ l. if is_term (fun f args) whole then var 0 else fun f l) (map_map (λ p. p.1) (both whole) args)

cut_itself : (f : ℕ) (args : List FoTerm) → cut (fun f args) (fun f args) ≡ var 0
cut_itself f args = cut_fun (fun f args) f args ∙ ap (λ b. if b then var 0 else fun f (map (cut (fun f args)) args)) (is_term_itself (fun f args))

cut_other : (whole : FoTerm) (f : ℕ) (args : List FoTerm) → is_term (fun f args) whole ≡ false → cut whole (fun f args) ≡ fun f (map (cut whole) args)
cut_other whole f args other = cut_fun whole f args ∙ ap (λ b. if b then var 0 else fun f (map (cut whole) args)) other

-- ---- a part of a term that a substitution makes the whole one

module _ (Q : ℕ → Type 0) (v : ℕ → FoTerm) (whole : FoTerm) where
  pub record Part (t : FoTerm) : Type 0 where
    pub f : ℕ
    pub args : List FoTerm
    pub same : put v (fun f args) ≡ whole
    pub light : size_of (fun f args) ≤ size_of t
    pub inside : Each Q (variables_of (fun f args))

  record PartOfSome (ts : List FoTerm) : Type 0 where
    t : FoTerm
    part : Part t
    light : size_of t ≤ sum (map size_of ts)

  abbrev cutting : ℕ → FoTerm
  cutting y = cut whole (v y)

  abbrev Sought : FoTerm → Type 0
  Sought t = Each Q (variables_of t) → Part t ⊎ (put cutting t ≡ cut whole (put v t))

  in_front : (t : FoTerm) (ts : List FoTerm) → Part t → PartOfSome (t ∷ ts)
  in_front t ts part = let split = sum_cons (size_of t) (map size_of ts) in record { t = t; part = part; light = omega arith }

  behind : (t : FoTerm) (ts : List FoTerm) → PartOfSome ts → PartOfSome (t ∷ ts)
  behind t ts some = let split = sum_cons (size_of t) (map size_of ts) in let less = some.light in record { t = some.t; part = some.part; light = omega arith }

  sought_all : (ts : List FoTerm) → Each Sought ts → Each Q (concat (map variables_of ts)) → PartOfSome ts ⊎ (map (put cutting) ts ≡ map (cut whole) (map (put v) ts))
  sought_all [] each inside = inr refl
  sought_all (t ∷ ts) each inside =
      elim (each.0 (each_left Q (variables_of t) (concat (map variables_of ts)) inside)) [
        | inl part ↦ inl (in_front t ts part)
        | inr here ↦ elim (sought_all ts each.1 (each_right Q (variables_of t) (concat (map variables_of ts)) inside)) [
          | inl some ↦ inl (behind t ts some)
          | inr rest ↦ inr (λ i. here i ∷ rest i)
        ]
      ]

  outer : (f : ℕ) (args : List FoTerm) → PartOfSome args → Part (fun f args)
  outer f args some =
      let size = size_fun f args in
      let less = some.light in
      let part = some.part in
      let small = part.light in
      record { f = part.f; args = part.args; same = part.same; light = omega arith; inside = part.inside }

  sought_fun : (f : ℕ) (args : List FoTerm) → Each Sought args → (test : Bool) → is_term (fun f (map (put v) args)) whole ≡ test → Sought (fun f args)
  sought_fun f args each true is inside = inl (record { f = f; args = args; same = put_fun v f args ∙ is_term_sound (fun f (map (put v) args)) whole is; light = omega arith; inside = inside })
  sought_fun f args each false other inside =
      elim (sought_all args each (subst (Each Q) (variables_fun f args) inside)) [
        | inl some ↦ inl (outer f args some)
        | inr rest ↦ inr (put_fun cutting f args ∙ ap (fun f) rest ∙ sym (cut_other whole f (map (put v) args) other) ∙ sym (ap (cut whole) (put_fun v f args)))
      ]

  sought_in : (t : FoTerm) → Sought t
  sought_in = by_cases Sought
      (λ y inside. inr (put_var cutting y ∙ sym (ap (cut whole) (put_var v y))))
      (λ f args each. sought_fun f args each (is_term (fun f (map (put v) args)) whole) refl)

-- a part of one of two terms
pub image_of_part : (Q : ℕ → Type 0) (s t : FoTerm) (binds : List Bind) → IsMostGeneral ((s, t) ∷ []) binds → Each Q (variables_of s) → Each Q (variables_of t)
    → (x g : ℕ) (bs : List FoTerm) → term_of binds x ≡ fun g bs → Part Q (term_of binds) (fun g bs) s ⊎ Part Q (term_of binds) (fun g bs) t
image_of_part Q s t binds general in_s in_t x g bs is =
    let v = term_of binds in
    let whole = fun g bs in
    elim (sought_in Q v whole s in_s) [
      | inl part ↦ inl part
      | inr left ↦ elim (sought_in Q v whole t in_t) [
        | inl part ↦ inr part
        | inr right ↦
            let w : ℕ → FoTerm = λ y. cut whole (v y) in
            let unifies : put w s ≡ put w t = left ∙ ap (cut whole) general.unifies.0 ∙ sym right in
            let through : w x ≡ put w (v x) = general.general w (unifies, tt) x in
            let here : w x ≡ var 0 = ap (cut whole) is ∙ cut_itself g bs in
            let there : put w (v x) ≡ fun g (map (put w) bs) = ap (put w) is ∙ put_fun w g bs in
            absurd (fun_no_var g 0 (map (put w) bs) (sym there ∙ sym through ∙ here))
      ]
    ]
