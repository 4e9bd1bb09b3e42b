-- The text of the steps so far, one step more.
use Rattle.std.proofs.Common.{◌≡◌, ℕ, ◌+◌, ◌<◌, true, IsTrue, List, [], ◌∷◌, ◌++◌, length, take, get_or, refl, sym, ap, ◌∙◌, append_assoc, arith}
use Rattle.std.proofs.lemmas.List.{append-nil, take_more, length-take-le}
use Rattle.std.proofs.lemmas.List.Folds.{list_all-append}
use Rattle.hol_terms.proofs.Both.{and_true}
use Rattle.kernel_rules.specs.declared.step.Step.{Step}
use Rattle.proof_syntax.specs.Names.{Names}
use Rattle.proof_syntax.specs.Forms.{form}
use Rattle.proof_syntax.specs.Texts.{step_text, steps_text}
use Rattle.proof_text.specs.inner.Fitting.{args_fit, steps_fit}

one_more : (names : Names) (n : ℕ) (xs : List Step) (s : Step) → steps_text names n (xs ++ s ∷ []) ≡ steps_text names n xs ++ step_text names (n + length xs) s
one_more names n [] s = let e : n ≡ n + 0 = omega arith in append-nil (step_text names n s) ∙ ap (λ m. step_text names m s) e
one_more names n (x ∷ xs) s =
    let e : n + 1 + length xs ≡ n + length (x ∷ xs) = omega arith in
    ap (λ z. step_text names n x ++ z) (one_more names (n + 1) xs s ∙ ap (λ m. steps_text names (n + 1) xs ++ step_text names m s) e)
    ∙ sym (append_assoc (step_text names n x) (steps_text names (n + 1) xs) (step_text names (n + length (x ∷ xs)) s))

module _ (steps : List Step) (i : ℕ) (s : Step) (within : i < length steps) (is : s ≡ get_or steps i s) where
  split : take (i + 1) steps ≡ take i steps ++ s ∷ []
  split = take_more steps i s within ∙ ap (λ x. take i steps ++ x ∷ []) (sym is)

  pub next_text : (names : Names) (start now next : List ℕ) → now ≡ start ++ steps_text names 0 (take i steps) → next ≡ now ++ step_text names i s →
      next ≡ start ++ steps_text names 0 (take (i + 1) steps)
  next_text names start now next h k =
      let e : 0 + length (take i steps) ≡ i = let f = length-take-le i steps (omega arith) in omega arith in
      let more = ap (steps_text names 0) split ∙ one_more names 0 (take i steps) s ∙ ap (λ m. steps_text names 0 (take i steps) ++ step_text names m s) e in
      k ∙ ap (λ z. z ++ step_text names i s) h ∙ append_assoc start (steps_text names 0 (take i steps)) (step_text names i s) ∙ ap (λ z. start ++ z) (sym more)

  pub next_fits : IsTrue (steps_fit (take i steps)) → IsTrue (args_fit (form s).args) → IsTrue (steps_fit (take (i + 1) steps))
  next_fits h k =
      ap steps_fit split ∙ list_all-append (λ x. args_fit (form x).args) (take i steps) (s ∷ [])
      ∙ and_true (steps_fit (take i steps)) (steps_fit (s ∷ [])) h (and_true (args_fit (form s).args) true k refl)
