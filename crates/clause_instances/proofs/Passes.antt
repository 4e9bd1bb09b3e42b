-- Two passes of replacements, one after another, are one replacement of all variables.
use Rattle.std.proofs.Common.{◌≡◌, ℕ, ◌<◌, ◌≤◌, ◌+◌, max, Bool, true, false, ◌&&◌, ◌||◌, ◌==◌, if◌then◌else◌, IsTrue, List, [], ◌∷◌, ◌++◌, map, take, length, get_or, refl, sym, ap, subst, ◌∙◌, arith, Some, None}
use Rattle.std.proofs.lemmas.List.{take_more}
use Rattle.std.specs.Prelude.{Result, IfOk}
use Rattle.hol_terms.specs.declared.ty.Ty.{Ty}
use Rattle.hol_terms.specs.declared.sig.Sig.{Sig}
use Rattle.hol_terms.specs.declared.term.Term.{Term, roll-Term}
use Rattle.hol_terms.specs.declared.term.Term.TheOpen.{Term-F}
use Rattle.hol_terms.specs.declared.term.Term.TheFolds.{fold-roll-Term}
use Rattle.hol_terms.specs.Types.{is_ty, ty_fits}
use Rattle.hol_terms.specs.Substitution.{put_free, one_put}
use Rattle.hol_terms.proofs.Both.{both_true, true_or_false}
use Rattle.hol_terms.proofs.TyCases.{is_ty_same}
use Rattle.hol_terms.proofs.TermCases.{by_cases}
use Rattle.hol_terms.proofs.Equations.{put_free-bound, put_free-free, put_free-con, put_free-app, put_free-lam, type-free, aux_free-free}
use Rattle.fo_terms.proofs.Substitution.{equal_true, equal_from, unequal}
use Rattle.hyp_sets.specs.Sets.{image}
use Rattle.kernel_rules.specs.declared.step.ThmId.{ThmId}
use Rattle.kernel_rules.specs.Rules.{seq}
use Rattle.hol_kernel.specs.Logs.{Logged, thm}
use Rattle.hol_kernel.specs.Growth.{Gives}
use Rattle.hol_kernel.specs.Conditions.{IsGiven}
use Rattle.hol_clauses.specs.declared.binding.Binding.{Binding}
use Rattle.hol_clauses.specs.Bindings.{in_turn, looked_up, Solved, AllGiven}
use Rattle.hol_clauses.proofs.InTurn.{joins, solved_at_once}
use Rattle.hol_clauses.proofs.Instances.{image_twice}
use Rattle.hol_derived.proofs.ContextLaws.{given_from}
use Rattle.clause_instances.proofs.Answered.{if_ok_map}
use Rattle.clause_instances.specs.AtOnce.{is_bound, PutAtOnce}
use Rattle.clause_instances.specs.inner.Passes.{moved, placed, above_step, above_term, above_all}

-- ---- numbers above

above-free : (n : ℕ) (a : Ty) → above_term (roll-Term (Term-F.Free n a)) ≡ n + 1
above-free n a = fold-roll-Term ℕ above_step (Term-F.Free n a)

above-app : (f x : Term) → above_term (roll-Term (Term-F.App f x)) ≡ max (above_term f) (above_term x)
above-app f x = fold-roll-Term ℕ above_step (Term-F.App f x)

above-lam : (a : Ty) (b : Term) → above_term (roll-Term (Term-F.Lam a b)) ≡ above_term b
above-lam a b = fold-roll-Term ℕ above_step (Term-F.Lam a b)

max_assoc : (a b c : ℕ) → max (max a b) c ≡ max a (max b c)
max_assoc a b c = omega arith

above_all-append : (xs ys : List Binding) → above_all (xs ++ ys) ≡ max (above_all xs) (above_all ys)
above_all-append [] ys = omega arith
above_all-append (b ∷ bs) ys = ap (max (max (b.number + 1) (above_term b.term))) (above_all-append bs ys) ∙ sym (max_assoc (max (b.number + 1) (above_term b.term)) (above_all bs) (above_all ys))

pub above_more : (now past next : ℕ) (bs : List Binding) (i : ℕ) (b : Binding) → i < length bs → b ≡ get_or bs i b → now ≡ above_all (take i bs) → past ≡ max now (b.number + 1) → next ≡ max past (above_term b.term)
    → next ≡ above_all (take (i + 1) bs)
above_more now past next bs i b within is so first second =
    second ∙ ap (λ m. max m (above_term b.term)) first ∙ max_assoc now (b.number + 1) (above_term b.term) ∙ joined now (max (b.number + 1) (above_term b.term)) (above_all (take i bs)) so
    ∙ sym (above_all-append (take i bs) (b ∷ [])) ∙ ap (λ z. above_all (take i bs ++ z ∷ [])) is ∙ ap above_all (sym (take_more bs i b within))
  where
    joined : (m n p : ℕ) → m ≡ p → max m n ≡ max p (max n 0)
    joined m n p e = ap (λ z. max z n) e ∙ omega arith

pub above_parts : (floor mid next a b : ℕ) → mid ≡ max floor a → next ≡ max mid b → next ≡ max floor (max a b)
above_parts floor mid next a b first second = second ∙ ap (λ m. max m b) first ∙ max_assoc floor a b

-- ---- variables that a replacement leaves

left_alone : (n m : ℕ) (a b : Ty) (u : Term) → (m ≡ n → ⊥) → put_free (one_put n a u) (roll-Term (Term-F.Free m b)) ≡ roll-Term (Term-F.Free m b)
left_alone n m a b u apart = put_free-free (one_put n a u) m b ∙ ap (λ t. if t && is_ty b a then u else roll-Term (Term-F.Free m b)) (unequal m n apart)

module _ (n : ℕ) (a : Ty) (u : Term) where
  abbrev v : ℕ → Ty → Term
  v = one_put n a u

  abbrev Untouched : Term → Type 0
  Untouched t = above_term t ≤ n → put_free v t ≡ t

  free_case : (m : ℕ) (b : Ty) → Untouched (roll-Term (Term-F.Free m b))
  free_case m b h = let low : m + 1 ≤ n = subst (λ z. z ≤ n) (above-free m b) h in left_alone n m a b u (λ e. omega (arith, low, e))

  app_case : (f x : Term) → Untouched f → Untouched x → Untouched (roll-Term (Term-F.App f x))
  app_case f x hf hx h =
      let low : max (above_term f) (above_term x) ≤ n = subst (λ z. z ≤ n) (above-app f x) h in
      put_free-app v f x ∙ (λ i. roll-Term (Term-F.App (hf (omega (arith, low)) i) (hx (omega (arith, low)) i)))

  lam_case : (s : Ty) (b : Term) → Untouched b → Untouched (roll-Term (Term-F.Lam s b))
  lam_case s b hb h = put_free-lam v s b ∙ (λ i. roll-Term (Term-F.Lam s (hb (subst (λ z. z ≤ n) (above-lam s b) h) i)))

  -- a variable above those of a term isn't in it
  untouched : (t : Term) → Untouched t
  untouched = by_cases Untouched (λ i h. put_free-bound v i) free_case (λ k h. put_free-con v k) app_case lam_case

-- ---- each pass is settled

module _ (by : ℕ) where
  moved_stays : (bs : List Binding) (k : ℕ) (s : Ty) → above_all bs ≤ k → in_turn (map (moved by) bs) (roll-Term (Term-F.Free k s)) ≡ roll-Term (Term-F.Free k s)
  moved_stays [] k s h = refl
  moved_stays (b ∷ bs) k s h =
      ap (in_turn (map (moved by) bs)) (left_alone b.number k b.ty s (roll-Term (Term-F.Free (b.number + by) b.ty)) (λ e. omega (arith, h, e)))
      ∙ moved_stays bs k s (omega (arith, h))

  moved_solved : (bs : List Binding) → above_all bs ≤ by → Solved (map (moved by) bs)
  moved_solved [] h = tt
  moved_solved (b ∷ bs) h = (moved_stays bs (b.number + by) b.ty (omega (arith, h)), moved_solved bs (omega (arith, h)))

  placed_stays : (bs : List Binding) (t : Term) → above_term t ≤ by → in_turn (map (placed by) bs) t ≡ t
  placed_stays [] t h = refl
  placed_stays (b ∷ bs) t h = ap (in_turn (map (placed by) bs)) (untouched (b.number + by) b.ty b.term t (omega (arith, h))) ∙ placed_stays bs t h

  placed_solved : (bs : List Binding) → above_all bs ≤ by → Solved (map (placed by) bs)
  placed_solved [] h = tt
  placed_solved (b ∷ bs) h = (placed_stays bs b.term (omega (arith, h)), placed_solved bs (omega (arith, h)))

-- ---- what is put for a bound variable

shifted : (n m k : ℕ) → (n + k == m + k) ≡ (n == m)
shifted n m k = by_test (n == m) refl
  where
    by_test : (test : Bool) → (n == m) ≡ test → (n + k == m + k) ≡ test
    by_test true e = subst (λ z. (n + k == z + k) ≡ true) (equal_from n m e) (equal_true (n + k))
    by_test false e = unequal (n + k) (m + k) (λ h. let same : n ≡ m = omega (arith, h) in true_or_false (n == m) (subst (λ z. (n == z) ≡ true) same (equal_true n)) e)

moved_step : (b : Binding) (by n : ℕ) (a : Ty) (rest : Term) (test more : Bool) → (n == b.number && is_ty a b.ty) ≡ test → IsTrue (test || more) → (IsTrue more → rest ≡ roll-Term (Term-F.Free (n + by) a))
    → (if test then roll-Term (Term-F.Free (b.number + by) b.ty) else rest) ≡ roll-Term (Term-F.Free (n + by) a)
moved_step b by n a rest true more e h k =
    let same = both_true (n == b.number) (is_ty a b.ty) e in
    λ i. roll-Term (Term-F.Free (sym (equal_from n b.number same.0) i + by) (sym (is_ty_same a b.ty same.1) i))
moved_step b by n a rest false more e h k = k h

moved_at : (bs : List Binding) (by n : ℕ) (a : Ty) → IsTrue (is_bound bs n a) → looked_up (map (moved by) bs) n a ≡ roll-Term (Term-F.Free (n + by) a)
moved_at [] by n a h = absurd cc
moved_at (b ∷ bs) by n a h = moved_step b by n a (looked_up (map (moved by) bs) n a) (n == b.number && is_ty a b.ty) (is_bound bs n a) refl h (moved_at bs by n a)

placed_step : (t rest own : Term) (test more : Bool) → IsTrue (test || more) → (IsTrue more → rest ≡ own) → (if test then t else rest) ≡ (if test then t else own)
placed_step t rest own true more h k = refl
placed_step t rest own false more h k = k h

placed_at : (bs : List Binding) (by n : ℕ) (a : Ty) → IsTrue (is_bound bs n a) → looked_up (map (placed by) bs) (n + by) a ≡ looked_up bs n a
placed_at [] by n a h = absurd cc
placed_at (b ∷ bs) by n a h =
    ap (λ t. if t && is_ty a b.ty then b.term else looked_up (map (placed by) bs) (n + by) a) (shifted n b.number by)
    ∙ placed_step b.term (looked_up (map (placed by) bs) (n + by) a) (looked_up bs n a) (n == b.number && is_ty a b.ty) (is_bound bs n a) h (placed_at bs by n a)

-- ---- both passes

module _ (bs : List Binding) (by : ℕ) (high : above_all bs ≤ by) where
  abbrev M : List Binding
  M = map (moved by) bs

  abbrev P : List Binding
  P = map (placed by) bs

  abbrev put_both : ℕ → Ty → Term
  put_both n a = put_free (looked_up P) (looked_up M n a)

  both_are : (d : Term) → in_turn P (in_turn M d) ≡ put_free put_both d
  both_are d = ap (in_turn P) (solved_at_once M d (moved_solved by bs high)) ∙ solved_at_once P (put_free (looked_up M) d) (placed_solved by bs high) ∙ joins (looked_up M) (looked_up P) d

  bound_is : (n : ℕ) (a : Ty) → IsTrue (is_bound bs n a) → put_both n a ≡ looked_up bs n a
  bound_is n a h = ap (put_free (looked_up P)) (moved_at bs by n a h) ∙ put_free-free (looked_up P) (n + by) a ∙ placed_at bs by n a h

  pub put_at_once : (old one new : Logged) (th mid r : ℕ) → Gives one mid (seq (image (in_turn M) (thm old th).hyps) (in_turn M (thm old th).concl))
      → Gives new r (seq (image (in_turn P) (thm one mid).hyps) (in_turn P (thm one mid).concl)) → PutAtOnce old new bs th r
  put_at_once old one new th mid r first second = record {
    put = put_both;
    bound = bound_is;
    gives = record {
      is_thm = second.is_thm;
      is = second.is ∙ (λ i. seq (image (in_turn P) ((first.is i).hyps)) (in_turn P ((first.is i).concl)))
          ∙ (λ i. seq (image_twice (in_turn M) (in_turn P) (put_free put_both) (thm old th).hyps (λ x. sym (both_are x)) i) (both_are (thm old th).concl i));
    };
  }

-- what two calls give
pub put_all_at_once : {E : Type 0} (bs : List Binding) (by : ℕ) → by ≡ above_all bs → (ms ps : List Binding) → ms ≡ map (moved by) bs → ps ≡ map (placed by) bs
    → (old one new : Logged) (th mid : ℕ) (r : Result ThmId E) → Gives one mid (seq (image (in_turn ms) (thm old th).hyps) (in_turn ms (thm old th).concl))
    → IfOk r (λ s. Gives new s.0 (seq (image (in_turn ps) (thm one mid).hyps) (in_turn ps (thm one mid).concl))) → IfOk r (λ s. PutAtOnce old new bs th s.0)
put_all_at_once bs by above ms ps first second old one new th mid r g k =
    let h = subst (λ zs. Gives one mid (seq (image (in_turn zs) (thm old th).hyps) (in_turn zs (thm old th).concl))) first g in
    if_ok_map r (λ s. Gives new s.0 (seq (image (in_turn ps) (thm one mid).hyps) (in_turn ps (thm one mid).concl))) (λ s. PutAtOnce old new bs th s.0)
    (λ s q. put_at_once bs by (omega (arith, above)) old one new th mid s.0 h (subst (λ zs. Gives new s.0 (seq (image (in_turn zs) (thm one mid).hyps) (in_turn zs (thm one mid).concl))) second q)) k

-- ---- what is put in is given to rules

module _ (sig : Sig) (by : ℕ) where
  free_typed : (k : ℕ) (a : Ty) → IsTrue (ty_fits sig.types a) → IsGiven sig (roll-Term (Term-F.Free k a)) a
  free_typed k a h = given_from sig (roll-Term (Term-F.Free k a)) a (type-free sig k a [] ∙ ap (λ t. if t then Some a else None) h) (aux_free-free k a)

  pub moved_given : (bs : List Binding) → AllGiven sig bs → AllGiven sig (map (moved by) bs)
  moved_given [] h = tt
  moved_given (b ∷ bs) h = ((h.0.0, free_typed (b.number + by) b.ty h.0.0), moved_given bs h.1)

  pub placed_given : (bs : List Binding) → AllGiven sig bs → AllGiven sig (map (placed by) bs)
  placed_given [] h = tt
  placed_given (b ∷ bs) h = (h.0, placed_given bs h.1)
