-- Taking one equation apart.
use Rattle.std.proofs.Common.{◌≡◌, ◌≢◌, ℕ, zero, suc, ◌+◌, ◌<◌, true, false, List, [], ◌∷◌, ◌++◌, map, sum, take, length, get_or, refl, sym, ap, subst, ◌∙◌, arith, add-one}
use Rattle.std.proofs.lemmas.List.{map-append, append_assoc, length-map}
use Rattle.std.proofs.lemmas.List.Sums.{sum_by-append}
use Rattle.std.specs.List.{zip}
use Rattle.fo_terms.specs.declared.term.FoTerm.{FoTerm}
use Rattle.fo_terms.specs.Weight.{size_of}
use Rattle.fo_unify.specs.declared.subst.Bind.{Bind}
use Rattle.fo_unify.specs.declared.triangle.Equation.{Equation}
use Rattle.fo_unify.specs.declared.triangle.Found.{Found}
use Rattle.fo_unify.specs.declared.triangle.Found.TheVariants.{Done, Clash, Binds}
use Rattle.fo_terms.specs.Substitution.{var, fun, put, occurs_in}
use Rattle.fo_unify.specs.Unifier.{Equates, Unifies}
use Rattle.fo_unify.specs.inner.Triangle.{IsRoot, solution, Good, walked, Solves, left_size}
use Rattle.fo_unify.specs.Shown.{shown}
use Rattle.fo_unify.specs.Unified.{put_sides, bound_by, Unified}
use Rattle.fo_unify.specs.inner.Leads.{Under, Next, Carries, Binding, BoundTo, Goes}
use Rattle.fo_terms.proofs.Heads.{fun_same}
use Rattle.fo_terms.proofs.Induction.{by_cases}
use Rattle.fo_terms.proofs.Substitution.{put_var, put_fun, occurs_var, size_var, sum_cons, no_cycle, equal_from}
use Rattle.fo_unify.proofs.Triangles.{walk_root, walk_value, walk_same, put_general}
use Rattle.fo_unify.proofs.Reaching.{put_to_var, put_to_fun, reach_size}
use Rattle.fo_unify.proofs.RuleSteps.{carries_same, carries_parts, binding_left, binding_right}

-- ---- equations

pub meets_join : (v : ℕ → FoTerm) (es fs : List (FoTerm × FoTerm)) → Unifies v es → Unifies v fs → Unifies v (es ++ fs)
meets_join v [] fs m n = n
meets_join v (e ∷ es) fs m n = (m.0, meets_join v es fs m.1 n)

pub meets_split : (v : ℕ → FoTerm) (es fs : List (FoTerm × FoTerm)) → Unifies v (es ++ fs) → Unifies v es × Unifies v fs
meets_split v [] fs m = (tt, m)
meets_split v (e ∷ es) fs m = let rest = meets_split v es fs m.1 in ((m.0, rest.0), rest.1)

pub zip_meets : (v : ℕ → FoTerm) (xs ys : List FoTerm) → map (put v) xs ≡ map (put v) ys → Unifies v (zip xs ys)
zip_meets v [] ys h = tt
zip_meets v (x ∷ xs) [] h = tt
zip_meets v (x ∷ xs) (y ∷ ys) h =
    let first : put v x ≡ put v y = cc in
    let rest : map (put v) xs ≡ map (put v) ys = cc in
    (first, zip_meets v xs ys rest)

pub meets_zip : (v : ℕ → FoTerm) (xs ys : List FoTerm) → length xs ≡ length ys → Unifies v (zip xs ys) → map (put v) xs ≡ map (put v) ys
meets_zip v [] [] l m = refl
meets_zip v [] (y ∷ ys) l m = absurd (omega arith)
meets_zip v (x ∷ xs) [] l m = absurd (omega arith)
meets_zip v (x ∷ xs) (y ∷ ys) l m =
    let shorter : length xs ≡ length ys = omega arith in
    let rest = meets_zip v xs ys shorter m.1 in
    λ i. m.0 i ∷ rest i

pub left_size-append : (u : ℕ → FoTerm) (es fs : List (FoTerm × FoTerm)) → left_size u (es ++ fs) ≡ left_size u es + left_size u fs
left_size-append u es fs = ap sum (map-append (λ e. size_of (put u e.0)) es fs) ∙ sum_by-append (λ n. n) (map (λ e. size_of (put u e.0)) es) (map (λ e. size_of (put u e.0)) fs)

zip_lefts : (u : ℕ → FoTerm) (xs ys : List FoTerm) → length xs ≡ length ys → map (λ e. size_of (put u e.0)) (zip xs ys) ≡ map size_of (map (put u) xs)
zip_lefts u [] ys l = refl
zip_lefts u (x ∷ xs) [] l = absurd (omega arith)
zip_lefts u (x ∷ xs) (y ∷ ys) l = let shorter : length xs ≡ length ys = omega arith in let rest = zip_lefts u xs ys shorter in λ i. size_of (put u x) ∷ rest i

pub left_size-zip : (u : ℕ → FoTerm) (xs ys : List FoTerm) → length xs ≡ length ys → left_size u (zip xs ys) ≡ sum (map size_of (map (put u) xs))
left_size-zip u xs ys l = ap sum (zip_lefts u xs ys l)

zip_more : {X : Type 0} (xs ys : List X) (i : ℕ) (d e : X) → i < length xs → length xs ≡ length ys → zip (take (suc i) xs) (take (suc i) ys) ≡ zip (take i xs) (take i ys) ++ (get_or xs i d, get_or ys i e) ∷ []
zip_more [] ys i d e h l = absurd (omega arith)
zip_more (x ∷ xs) [] i d e h l = absurd (omega arith)
zip_more (x ∷ xs) (y ∷ ys) zero d e h l = refl
zip_more (x ∷ xs) (y ∷ ys) (suc i) d e h l =
    let within : i < length xs = omega arith in
    let same : length xs ≡ length ys = omega arith in
    ap (λ p. (x, y) ∷ p) (zip_more xs ys i d e within same)

pub push_pair : (w next : List Equation) (e : Equation) (first : List (FoTerm × FoTerm)) (l r : List FoTerm) (i : ℕ)
    → next ≡ w ++ e ∷ [] → shown w ≡ first ++ zip (take i l) (take i r) → i < length l → length l ≡ length r
    → e.left.now ≡ get_or l i e.left.now → e.right.now ≡ get_or r i e.right.now
    → shown next ≡ first ++ zip (take (i + 1) l) (take (i + 1) r)
push_pair w next e first l r i is so within same left right =
    let a = e.left.now in let b = e.right.now in
    let more : zip (take (suc i) l) (take (suc i) r) ≡ zip (take i l) (take i r) ++ (get_or l i a, get_or r i b) ∷ [] = zip_more l r i a b within same in
    let pair : (get_or l i a, get_or r i b) ≡ (a, b) = λ j. (sym left j, sym right j) in
    let pushed : shown next ≡ shown w ++ (a, b) ∷ [] = ap shown is ∙ map-append (λ f. (f.left.now, f.right.now)) w (e ∷ []) in
    rw add-one (pushed ∙ ap (λ p. p ++ (a, b) ∷ []) so ∙ append_assoc first (zip (take i l) (take i r)) ((a, b) ∷ [])
    ∙ ap (λ p. first ++ (zip (take i l) (take i r) ++ p ∷ [])) (sym pair) ∙ ap (λ p. first ++ p) (sym more))

-- ---- one equation

module _ (bs : List Bind) (good : Good bs) (s t : FoTerm) (old : List (FoTerm × FoTerm)) where
  -- both end at one variable
  pub same_var : (x : ℕ) → walked bs s ≡ var x → walked bs t ≡ var x → Goes bs s t old old Done
  same_var x is it =
      let size : size_of (put (solution bs) s) ≡ 1 = ap size_of (put_to_var bs good s x is) ∙ size_var x in (
        λ v solves. (λ h. h.0, λ m. (m, sym (walk_value v bs s solves) ∙ ap (put v) (is ∙ sym it) ∙ walk_value v bs t solves)),
        omega arith,
        carries_same (solution bs) s t old (put_to_var bs good s x is ∙ sym (put_to_var bs good t x it)),
      )

  -- ends at different heads
  pub other_heads : (f g : ℕ) (xs ys : List FoTerm) → walked bs s ≡ fun f xs → walked bs t ≡ fun g ys → (f ≡ g → length xs ≡ length ys → ⊥) → Goes bs s t old old Clash
  other_heads f g xs ys is it apart v solves u =
      let left : put v s ≡ fun f (map (put v) xs) = sym (walk_value v bs s solves) ∙ ap (put v) is ∙ put_fun v f xs in
      let right : put v t ≡ fun g (map (put v) ys) = sym (walk_value v bs t solves) ∙ ap (put v) it ∙ put_fun v g ys in
      let same = fun_same f g (map (put v) xs) (map (put v) ys) (sym left ∙ u ∙ right) in
      apart same.0 (sym (length-map xs (put v)) ∙ ap length same.1 ∙ length-map ys (put v))

  -- the same head
  pub same_heads : (f g : ℕ) (xs ys : List FoTerm) (new : List (FoTerm × FoTerm)) → walked bs s ≡ fun f xs → walked bs t ≡ fun g ys → f ≡ g → length xs ≡ length ys
      → new ≡ old ++ zip xs ys → Goes bs s t old new Done
  same_heads f g xs ys new is it heads lengths e =
      let size = reach_size bs good s f xs is in
      let grown : left_size (solution bs) new ≡ left_size (solution bs) old + sum (map size_of (map (put (solution bs)) xs)) =
      ap (left_size (solution bs)) e ∙ left_size-append (solution bs) old (zip xs ys) ∙ ap (λ n. left_size (solution bs) old + n) (left_size-zip (solution bs) xs ys lengths) in (
        λ v solves.
            let left : put v s ≡ fun f (map (put v) xs) = sym (walk_value v bs s solves) ∙ ap (put v) is ∙ put_fun v f xs in
            let right : put v t ≡ fun g (map (put v) ys) = sym (walk_value v bs t solves) ∙ ap (put v) it ∙ put_fun v g ys in (
              λ h. (let same = fun_same f g (map (put v) xs) (map (put v) ys) (sym left ∙ h.1 ∙ right) in
                  subst (Unifies v) (sym e) (meets_join v old (zip xs ys) h.0 (zip_meets v xs ys same.1))),
              λ m. (let parts = meets_split v old (zip xs ys) (subst (Unifies v) e m) in
                  let each = meets_zip v xs ys lengths parts.1 in
                  let heads_and : fun f (map (put v) xs) ≡ fun g (map (put v) ys) = λ i. fun (heads i) (each i) in
                  (parts.0, left ∙ heads_and ∙ sym right)),
            ),
        omega arith,
        subst (Carries (solution bs) (old ++ (s, t) ∷ [])) (sym e)
            (carries_parts (solution bs) s t old f xs ys (put_to_fun bs good s f xs is) (put_to_fun bs good t g ys it ∙ ap (λ h. fun h (map (put (solution bs)) ys)) (sym heads)) lengths),
      )

-- a root that holds the variable never equals it
clash_var : (bs : List Bind) (x y : ℕ) → IsRoot (solution bs) (var y) → var y ≢ var x → occurs_in x (put (solution bs) (var y)) ≡ true → ⊥
clash_var bs x y root other occurs =
    let itself : put (solution bs) (var y) ≡ var y = put_var (solution bs) y ∙ root y refl in
    let same : x ≡ y = equal_from x y (sym (occurs_var x y) ∙ sym (ap (occurs_in x) itself) ∙ occurs) in
    other (ap var (sym same))

clash_fun : (bs : List Bind) (x f : ℕ) (args : List FoTerm) (v : ℕ → FoTerm) → Solves v bs → occurs_in x (put (solution bs) (fun f args)) ≡ true → v x ≡ put v (fun f args) → ⊥
clash_fun bs x f args v solves occurs e =
    let inner = map (put (solution bs)) args in
    let whole : put (solution bs) (fun f args) ≡ fun f inner = put_fun (solution bs) f args in
    no_cycle x f inner v (sym (ap (occurs_in x) whole) ∙ occurs) (e ∙ put_general v bs solves (fun f args) ∙ ap (put v) whole)

pub clash : (bs : List Bind) (x : ℕ) (v : ℕ → FoTerm) → Solves v bs → (w : FoTerm) → IsRoot (solution bs) w → w ≢ var x → occurs_in x (put (solution bs) w) ≡ true → v x ≡ put v w → ⊥
clash bs x v solves = by_cases (λ w. IsRoot (solution bs) w → w ≢ var x → occurs_in x (put (solution bs) w) ≡ true → v x ≡ put v w → ⊥)
    (λ y root other occurs e. clash_var bs x y root other occurs)
    (λ f args each root other occurs e. clash_fun bs x f args v solves occurs e)

-- a free variable against a root
module _ (bs : List Bind) (s t w : FoTerm) (old : List (FoTerm × FoTerm)) (x : ℕ)
    (free : solution bs x ≡ var x) (root : IsRoot (solution bs) w) (other : w ≢ var x)
    (says : Under bs (λ v. Equates v s t) (λ v. v x ≡ put v w))
    (rule : occurs_in x (put (solution bs) w) ≡ false → Binding (solution bs) (record { var = x; term = w }) (old ++ (s, t) ∷ []) old) where
  next : occurs_in x (put (solution bs) w) ≡ false → Next bs (λ v. Equates v s t) (λ v. Unit {0}) (record { var = x; term = w })
  next apart = record {
    ready = record { free = free; root = root; apart = apart };
    same = λ v solves. (λ u. (tt, (says v solves).0 u), λ h. (says v solves).1 h.1);
  }

  pub binding : (r : Found) → BoundTo bs x w r → Goes bs s t old old r
  binding Done h = absurd h
  binding Clash h = λ v solves u. clash bs x v solves w root other h ((says v solves).0 u)
  binding (Binds y r) h =
      let same : record { var = x; term = w } ≡ record { var = y; term = r.now } = λ i. record { var = sym h.0 i; term = sym h.1 i } in (
        refl,
        subst (Next bs (λ v. Equates v s t) (λ v. Unit {0})) same (next h.2),
        subst (λ b. Binding (solution bs) b (old ++ (s, t) ∷ []) old) same (rule h.2),
      )

var_says : (bs : List Bind) (s t : FoTerm) (x : ℕ) → walked bs s ≡ var x → Under bs (λ v. Equates v s t) (λ v. v x ≡ put v (walked bs t))
var_says bs s t x is v solves = (
  λ u. sym (put_var v x) ∙ sym (ap (put v) is) ∙ walk_value v bs s solves ∙ u ∙ sym (walk_value v bs t solves),
  λ h. sym (walk_value v bs s solves) ∙ ap (put v) is ∙ put_var v x ∙ h ∙ walk_value v bs t solves,
)

pub bind_left : (bs : List Bind) → Good bs → (s t w : FoTerm) (old : List (FoTerm × FoTerm)) (x : ℕ) → walked bs s ≡ var x → w ≡ walked bs t → w ≢ var x → (r : Found) → BoundTo bs x w r → Goes bs s t old old r
bind_left bs good s t w old x is end other r h =
    binding bs s t w old x (walk_root bs s good x is) (subst (IsRoot (solution bs)) (sym end) (walk_root bs t good)) other
    (λ v solves. let says = var_says bs s t x is v solves in (λ u. says.0 u ∙ ap (put v) (sym end), λ g. says.1 (g ∙ ap (put v) end)))
    (λ lacks. binding_left (solution bs) s t old x w lacks (put_to_var bs good s x is) (sym (walk_same bs t good) ∙ ap (put (solution bs)) (sym end))) r h

pub bind_right : (bs : List Bind) → Good bs → (s t w : FoTerm) (old : List (FoTerm × FoTerm)) (y : ℕ) → walked bs t ≡ var y → w ≡ walked bs s → w ≢ var y → (r : Found) → BoundTo bs y w r → Goes bs s t old old r
bind_right bs good s t w old y is end other r h =
    binding bs s t w old y (walk_root bs t good y is) (subst (IsRoot (solution bs)) (sym end) (walk_root bs s good)) other
    (λ v solves. let says = var_says bs t s y is v solves in (λ u. says.0 (sym u) ∙ ap (put v) (sym end), λ g. sym (says.1 (g ∙ ap (put v) end))))
    (λ lacks. binding_right (solution bs) s t old y w lacks (put_to_var bs good t y is) (sym (walk_same bs s good) ∙ ap (put (solution bs)) (sym end))) r h

-- ---- all equations

module _ (bs : List Bind) (first now rest : List (FoTerm × FoTerm)) (e : FoTerm × FoTerm)
    (same : Under bs (λ v. Unifies v first) (λ v. Unifies v now)) (carries : Carries (solution bs) first now) (popped : now ≡ rest ++ e ∷ []) where
  pub apart : Under bs (λ v. Unifies v first) (λ v. Unifies v rest × Equates v e.0 e.1)
  apart v solves = (
    λ m. (let parts = meets_split v rest (e ∷ []) (subst (Unifies v) popped ((same v solves).0 m)) in (parts.0, parts.1.0)),
    λ p. (same v solves).1 (subst (Unifies v) (sym popped) (meets_join v rest (e ∷ []) p.0 (p.1, tt))),
  )

  pub goes_done : (new : List (FoTerm × FoTerm)) → Goes bs e.0 e.1 rest new Done → Under bs (λ v. Unifies v first) (λ v. Unifies v new)
  goes_done new goes v solves = (λ m. (goes.0 v solves).0 ((apart v solves).0 m), λ n. (apart v solves).1 ((goes.0 v solves).1 n))

  pub goes_carries : (new : List (FoTerm × FoTerm)) → Goes bs e.0 e.1 rest new Done → Carries (solution bs) first new
  goes_carries new goes later h = carries later (subst (λ es. Unified (put_sides (solution bs) es) later) (sym popped) (goes.2 later h))

  pub goes_binding : (new : List (FoTerm × FoTerm)) (b : Bind) → Binding (solution bs) b (rest ++ e ∷ []) new → Binding (solution bs) b first new
  goes_binding new b rule later h =
      carries (bound_by later b.var (put (solution bs) b.term) ∷ later)
      (subst (λ es. Unified (put_sides (solution bs) es) (bound_by later b.var (put (solution bs) b.term) ∷ later)) (sym popped) (rule later h))

  pub goes_smaller : (new : List (FoTerm × FoTerm)) → Goes bs e.0 e.1 rest new Done → left_size (solution bs) new < left_size (solution bs) now
  goes_smaller new goes =
      let whole : left_size (solution bs) now ≡ left_size (solution bs) rest + left_size (solution bs) (e ∷ []) = ap (left_size (solution bs)) popped ∙ left_size-append (solution bs) rest (e ∷ []) in
      let single : left_size (solution bs) (e ∷ []) ≡ size_of (put (solution bs) e.0) = sum_cons (size_of (put (solution bs) e.0)) [] ∙ omega arith in
      let less = goes.1 in
      omega arith

  pub goes_clash : (new : List (FoTerm × FoTerm)) → Goes bs e.0 e.1 rest new Clash → (v : ℕ → FoTerm) → Solves v bs → Unifies v first → ⊥
  goes_clash new goes v solves m = goes v solves ((apart v solves).0 m).1

  pub goes_binds : (new : List (FoTerm × FoTerm)) (b : Bind) → new ≡ rest → Next bs (λ v. Equates v e.0 e.1) (λ v. Unit {0}) b → Next bs (λ v. Unifies v first) (λ v. Unifies v new) b
  goes_binds new b kept next = record {
    ready = next.ready;
    same = λ v solves. (
      λ m. (let parts = (apart v solves).0 m in (subst (Unifies v) (sym kept) parts.0, ((next.same v solves).0 parts.1).1)),
      λ p. (apart v solves).1 (subst (Unifies v) kept p.0, (next.same v solves).1 (tt, p.1)),
    );
  }

pub shown_push : (w rest : List Equation) (e : Equation) → w ≡ rest ++ e ∷ [] → shown w ≡ shown rest ++ (e.left.now, e.right.now) ∷ []
shown_push w rest e is = ap shown is ∙ map-append (λ f. (f.left.now, f.right.now)) rest (e ∷ [])
