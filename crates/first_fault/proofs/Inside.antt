-- How a fault of a part is a fault of what stands around it.
use Rattle.std.proofs.Common.{◌≡◌, ℕ, ◌+◌, ◌<◌, List, [], ◌∷◌, ◌++◌, length, refl, sym, ap, subst, append_assoc, ◌∙◌, arith}
use Rattle.first_fault.specs.declared.fault.Fault.{Fault}
use Rattle.first_fault.specs.declared.fault.Fault.TheVariants as fault
use Rattle.first_fault.specs.Levels.{Placed, put, Within}
use Rattle.first_fault.specs.Walk.{goes, Run}
use Rattle.first_fault.specs.Fails.{Fails, end_of}
use Rattle.first_fault.proofs.Fronts.{put-append, goes-append, within-append}

abbrev at : {T : Type 0} → ℕ → T → Placed T
at l x = record { tok = x; level = l }

module _ (T V : Type 0) (m : ℕ) (B B' : List (Placed T) → Type 0) (I I' : Type 0) (st : I → List T → Run V) (st' : I' → List T → Run V) where
  -- the inner part begins behind `p`
  pub inside : (p : List (Placed T)) (ts us : List T) → ts ≡ put p us → Within m p → ((q : List (Placed T)) → B' q → B (p ++ q)) →
      ((i : I) → (j : I') × (st i ts ≡ goes p (st' j us))) → (e : Fault) → Fails T V m B' I' st' us e → Fails T V m B I st ts e
  inside p ts us eq low lift walk (fault.Syntax left) h = record {
    before = p ++ h.before;
    rest = h.rest;
    tokens = eq ∙ ap (λ xs. put p xs) h.tokens ∙ sym (put-append p h.before h.rest);
    count = h.count;
    within = within-append m p h.before low h.within;
    begins = lift h.before h.begins;
    stuck = λ i. (walk i).1 ∙ ap (λ r. goes p r) (h.stuck (walk i).0) ∙ sym (goes-append p h.before (end_of h.rest));
  }
  inside p ts us eq low lift walk (fault.TooDeep left) h = record {
    before = p ++ h.before;
    token = h.token;
    level = h.level;
    rest = h.rest;
    tokens = eq ∙ ap (λ xs. put p xs) h.tokens ∙ sym (put-append p h.before (h.token ∷ h.rest));
    count = h.count;
    within = within-append m p h.before low h.within;
    begins = subst B (sym (append_assoc p h.before (at h.level h.token ∷ []))) (lift (h.before ++ at h.level h.token ∷ []) h.begins);
    above = h.above;
  }
  inside p ts us eq low lift walk fault.NoMemory h = tt

-- nothing goes on behind `p`
module _ (T V : Type 0) (m : ℕ) (B : List (Placed T) → Type 0) (I : Type 0) (st : I → List T → Run V) where
  pub here : (p : List (Placed T)) (ts bad : List T) → ts ≡ put p bad → Within m p → B p → ((i : I) → st i ts ≡ goes p (end_of bad)) → Fails T V m B I st ts (fault.Syntax (length bad))
  here p ts bad eq low begins stuck = record { before = p; rest = bad; tokens = eq; count = refl; within = low; begins = begins; stuck = stuck }

  pub deep_here : (x : T) (l : ℕ) (ts rest : List T) → ts ≡ x ∷ rest → m < l → B (at l x ∷ []) → Fails T V m B I st ts (fault.TooDeep (length ts))
  deep_here x l ts rest eq above begins =
      let same = ap (λ xs. length xs) eq in
      let len : length rest + 1 ≡ length ts = omega arith in
      record { before = []; token = x; level = l; rest = rest; tokens = eq; count = len; within = tt; begins = begins; above = above }
