-- The types of terms that a lift makes.
use Rattle.std.proofs.Common.{◌≡◌, ℕ, zero, suc, ◌+◌, ◌-◌, ◌<◌, ◌≤◌, Bool, true, false, ◌&&◌, ◌||◌, ◌==◌, nat_lt, if◌then◌else◌, IsTrue, List, [], ◌∷◌, ◌++◌, map, length, slice_get, Some, None, refl, sym, ap, subst, ◌∙◌, rules, arith, append_assoc}
use Rattle.std.specs.Prelude.{Option}
use Rattle.std.proofs.lemmas.Bool.Decides.{nat_tests}
use Rattle.std.proofs.lemmas.List.{append-nil, length-append, map-append}
use Rattle.std.proofs.lemmas.Option.{slice_get_past}
use Rattle.hol_terms.specs.declared.ty.Ty.{Ty}
use Rattle.hol_terms.specs.declared.konst.Konst.{Konst}
use Rattle.hol_terms.specs.declared.konst.Konst.TheVariants as konst
use Rattle.hol_terms.specs.declared.sig.Sig.{Sig}
use Rattle.hol_terms.specs.declared.term.Term.{Term, roll-Term}
use Rattle.hol_terms.specs.declared.term.Term.TheOpen.{Term-F}
use Rattle.hol_terms.specs.declared.term.Term.TheFolds.{fold-roll-Term}
use Rattle.hol_terms.specs.Types.{ty_fits, function_ty}
use Rattle.hol_terms.specs.Typing.{type_in, applied, under, fitting, konst_type}
use Rattle.hol_terms.specs.Formulas.{aux_free, var_free, no_aux}
use Rattle.hol_terms.proofs.TermCases.{by_cases}
use Rattle.hol_terms.proofs.Both.{both_true, and_true}
use Rattle.hol_terms.proofs.Preserves.{slice_get_front}
use Rattle.hol_terms.proofs.Substitutes.{get_middle}
use Rattle.hol_terms.proofs.TypedParts.{applied_fits, applied_parts, under_parts, under_so}
use Rattle.hol_terms.proofs.Equations.{type-bound, type-free, type-con, type-app, type-lam, aux_free-bound, aux_free-con, aux_free-app, aux_free-lam, var_free-bound, var_free-app, var_free-lam}
use Rattle.lambda_lift.specs.declared.table.Aux.{Aux}
use Rattle.lambda_lift.specs.Closing.{occurs_behind, occurs_step, occurs_in, variables, lambda_of, renamed, lambdas, ty_at, applied_to, closed_over}
use Rattle.lambda_lift.specs.Standing.{over, konst_below, aux_below, below_step}
use Rattle.lambda_lift.proofs.Lifts.{app, lam, con}
use Rattle.lambda_lift.proofs.Chains.{renamed_bound, renamed_free, renamed_con, renamed_app, renamed_lam, taken_place, beyond_place}
use Rattle.lambda_lift.proofs.Occurring.{occurs_bound}
use Rattle.lambda_lift.proofs.Expansions.{Grows, within}

abbrev bound : ℕ → Term
bound i = roll-Term (Term-F.Bound i)

-- ---- a longer table keeps types
fitting_grows : (types : ℕ) (o q : Option Ty) (a : Ty) → ((t : Ty) → o ≡ Some t → q ≡ Some t) → fitting types o ≡ Some a → fitting types q ≡ Some a
fitting_grows types None q a f h = cc
fitting_grows types (Some t) q a f h = ap (fitting types) (f t refl) ∙ h

module _ (sig : Sig) (old new : List Aux) (grows : Grows old new) where
  tys_grow : (k : ℕ) (t : Ty) → slice_get (map (λ e. e.ty) old) k ≡ Some t → slice_get (map (λ e. e.ty) new) k ≡ Some t
  tys_grow k t h =
      ap (λ l. slice_get l k) (ap (map (λ (e : Aux). e.ty)) grows.is ∙ map-append (λ (e : Aux). e.ty) old grows.more)
      ∙ within (map (λ (e : Aux). e.ty) old) k t h (map (λ (e : Aux). e.ty) grows.more)

  konst_grows : (k : Konst) (a : Ty) → konst_type (over sig old) k ≡ Some a → konst_type (over sig new) k ≡ Some a
  konst_grows (konst.Aux n) a h = fitting_grows sig.types (slice_get (map (λ e. e.ty) old) n) (slice_get (map (λ e. e.ty) new) n) a (tys_grow n) h
  konst_grows (konst.Named n) a h = h
  konst_grows konst.True a h = h
  konst_grows konst.False a h = h
  konst_grows konst.Not a h = h
  konst_grows konst.And a h = h
  konst_grows konst.Or a h = h
  konst_grows konst.Imp a h = h
  konst_grows (konst.Eq b) a h = h
  konst_grows (konst.All b) a h = h
  konst_grows (konst.Ex b) a h = h
  konst_grows (konst.Eps b) a h = h

  abbrev Later : Term → Type 0
  Later t = (c : List Ty) (a : Ty) → type_in (over sig old) t c ≡ Some a → type_in (over sig new) t c ≡ Some a

  later_app : (f x : Term) → Later f → Later x → Later (app f x)
  later_app f x hf hx c a h =
      let from = applied_parts (type_in (over sig old) f c) (type_in (over sig old) x c) a (sym (type-app (over sig old) f x c) ∙ h) in
      type-app (over sig new) f x c ∙ (λ i. applied (hf c _ from.1.0 i) (hx c _ from.1.1 i)) ∙ applied_fits from.0 a

  later_lam : (b : Ty) (t : Term) → Later t → Later (lam b t)
  later_lam b t ht c a h =
      let from = under_parts sig.types b (type_in (over sig old) t (b ∷ c)) a (sym (type-lam (over sig old) b t c) ∙ h) in
      type-lam (over sig new) b t c ∙ under_so sig.types b (type_in (over sig new) t (b ∷ c)) from.0 (ht (b ∷ c) from.0 from.1.0) from.1.1.1 ∙ ap Some (sym from.1.1.0)

  pub later : (t : Term) → Later t
  later =
      by_cases Later (λ i c a h. type-bound (over sig new) i c ∙ sym (type-bound (over sig old) i c) ∙ h)
      (λ n b c a h. type-free (over sig new) n b c ∙ sym (type-free (over sig old) n b c) ∙ h)
      (λ k c a h. type-con (over sig new) k c ∙ konst_grows k a (sym (type-con (over sig old) k c) ∙ h)) later_app later_lam

-- ---- without auxiliary constants the table makes no difference
module _ (sig : Sig) (table : List Aux) where
  konst_same : (k : Konst) → IsTrue (no_aux k) → konst_type (over sig table) k ≡ konst_type sig k
  konst_same (konst.Aux n) h = cc
  konst_same (konst.Named n) h = refl
  konst_same konst.True h = refl
  konst_same konst.False h = refl
  konst_same konst.Not h = refl
  konst_same konst.And h = refl
  konst_same konst.Or h = refl
  konst_same konst.Imp h = refl
  konst_same (konst.Eq b) h = refl
  konst_same (konst.All b) h = refl
  konst_same (konst.Ex b) h = refl
  konst_same (konst.Eps b) h = refl

  abbrev Same : Term → Type 0
  Same t = (c : List Ty) → IsTrue (aux_free t) → type_in (over sig table) t c ≡ type_in sig t c

  same_app : (f x : Term) → Same f → Same x → Same (app f x)
  same_app f x hf hx c h =
      let both = both_true (aux_free f) (aux_free x) (subst IsTrue (aux_free-app f x) h) in
      type-app (over sig table) f x c ∙ (λ i. applied (hf c both.0 i) (hx c both.1 i)) ∙ sym (type-app sig f x c)

  pub same_type : (t : Term) → Same t
  same_type =
      by_cases Same (λ i c h. type-bound (over sig table) i c ∙ sym (type-bound sig i c)) (λ n b c h. type-free (over sig table) n b c ∙ sym (type-free sig n b c))
      (λ k c h. type-con (over sig table) k c ∙ konst_same k (subst IsTrue (aux_free-con k) h) ∙ sym (type-con sig k c)) same_app
      (λ b t ht c h. type-lam (over sig table) b t c ∙ ap (under sig.types b) (ht (b ∷ c) (subst IsTrue (aux_free-lam b t) h)) ∙ sym (type-lam sig b t c))

  -- a typed term's auxiliary constants are the table's
  below-con : (n : ℕ) (k : Konst) → aux_below n (con k) ≡ konst_below n k
  below-con n k = fold-roll-Term Bool (below_step n) (Term-F.Con k)

  got_below : (o : Option Ty) (xs : List Ty) (k : ℕ) → slice_get xs k ≡ o → (a : Ty) → fitting sig.types o ≡ Some a → IsTrue (nat_lt k (length xs))
  got_below None xs k e a h = cc
  got_below (Some t) [] k e a h = cc
  got_below (Some t) (x ∷ xs) zero e a h = search rules
  got_below (Some t) (x ∷ xs) (suc k) e a h = let inner = got_below (Some t) xs k e a h in search (rules, inner)

  as_long : (t : List Aux) → length (map (λ e. e.ty) t) ≡ length t
  as_long [] = refl
  as_long (e ∷ t) = ap suc (as_long t)

  konst_known : (k : Konst) (a : Ty) → konst_type (over sig table) k ≡ Some a → IsTrue (konst_below (length table) k)
  konst_known (konst.Aux n) a h = subst (λ m. IsTrue (nat_lt n m)) (as_long table) (got_below (slice_get (map (λ e. e.ty) table) n) (map (λ e. e.ty) table) n refl a h)
  konst_known (konst.Named n) a h = refl
  konst_known konst.True a h = refl
  konst_known konst.False a h = refl
  konst_known konst.Not a h = refl
  konst_known konst.And a h = refl
  konst_known konst.Or a h = refl
  konst_known konst.Imp a h = refl
  konst_known (konst.Eq b) a h = refl
  konst_known (konst.All b) a h = refl
  konst_known (konst.Ex b) a h = refl
  konst_known (konst.Eps b) a h = refl

  abbrev Known : Term → Type 0
  Known t = (c : List Ty) (a : Ty) → type_in (over sig table) t c ≡ Some a → IsTrue (aux_below (length table) t)

  known_app : (f x : Term) → Known f → Known x → Known (app f x)
  known_app f x hf hx c a h =
      let n = length table in
      let from = applied_parts (type_in (over sig table) f c) (type_in (over sig table) x c) a (sym (type-app (over sig table) f x c) ∙ h) in
      fold-roll-Term Bool (below_step n) (Term-F.App f x) ∙ and_true (aux_below n f) (aux_below n x) (hf c _ from.1.0) (hx c _ from.1.1)

  known_lam : (b : Ty) (t : Term) → Known t → Known (lam b t)
  known_lam b t ht c a h =
      let from = under_parts sig.types b (type_in (over sig table) t (b ∷ c)) a (sym (type-lam (over sig table) b t c) ∙ h) in
      fold-roll-Term Bool (below_step (length table)) (Term-F.Lam b t) ∙ ht (b ∷ c) from.0 from.1.0

  pub typed_known : (t : Term) → Known t
  typed_known =
      by_cases Known (λ i c a h. fold-roll-Term Bool (below_step (length table)) (Term-F.Bound i)) (λ n b c a h. fold-roll-Term Bool (below_step (length table)) (Term-F.Free n b))
      (λ k c a h. below-con (length table) k ∙ konst_known k a (sym (type-con (over sig table) k c) ∙ h)) known_app known_lam

-- ---- renaming keeps what occurs besides variables of binders
module _ (r : ℕ → ℕ) where
  pub var_free_renamed : (t : Term) (d : ℕ) → var_free (renamed r t d) ≡ var_free t
  var_free_renamed =
      by_cases (λ t. (d : ℕ) → var_free (renamed r t d) ≡ var_free t)
      (λ i d. ap var_free (renamed_bound r i d) ∙ var_free-bound (if nat_lt i d then i else d + r (i - d)) ∙ sym (var_free-bound i)) (λ n a d. ap var_free (renamed_free r n a d))
      (λ k d. ap var_free (renamed_con r k d))
      (λ f x hf hx d. ap var_free (renamed_app r f x d) ∙ var_free-app (renamed r f d) (renamed r x d) ∙ (λ i. hf d i && hx d i) ∙ sym (var_free-app f x))
      (λ a b hb d. ap var_free (renamed_lam r a b d) ∙ var_free-lam a (renamed r b (d + 1)) ∙ hb (d + 1) ∙ sym (var_free-lam a b))

  pub aux_free_renamed : (t : Term) (d : ℕ) → aux_free (renamed r t d) ≡ aux_free t
  aux_free_renamed =
      by_cases (λ t. (d : ℕ) → aux_free (renamed r t d) ≡ aux_free t)
      (λ i d. ap aux_free (renamed_bound r i d) ∙ aux_free-bound (if nat_lt i d then i else d + r (i - d)) ∙ sym (aux_free-bound i)) (λ n a d. ap aux_free (renamed_free r n a d))
      (λ k d. ap aux_free (renamed_con r k d))
      (λ f x hf hx d. ap aux_free (renamed_app r f x d) ∙ aux_free-app (renamed r f d) (renamed r x d) ∙ (λ i. hf d i && hx d i) ∙ sym (aux_free-app f x))
      (λ a b hb d. ap aux_free (renamed_lam r a b d) ∙ aux_free-lam a (renamed r b (d + 1)) ∙ hb (d + 1) ∙ sym (aux_free-lam a b))

pub var_free_lambdas : (types : List Ty) (t : Term) → var_free (lambdas types t) ≡ var_free t
var_free_lambdas [] t = refl
var_free_lambdas (a ∷ types) t = var_free-lam a (lambdas types t) ∙ var_free_lambdas types t

pub var_free_applied : (vs : List ℕ) (f : Term) → IsTrue (var_free f) → IsTrue (var_free (applied_to f vs))
var_free_applied [] f h = h
var_free_applied (v ∷ vs) f h = var_free_applied vs (app f (bound v)) (var_free-app f (bound v) ∙ and_true (var_free f) (var_free (bound v)) h (var_free-bound v))

-- ---- the type of a renamed term
get_beyond : {X : Type 0} (c d : List X) (k : ℕ) → slice_get (c ++ d) (length c + k) ≡ slice_get d k
get_beyond [] d k = let none : 0 + k ≡ k = omega arith in ap (slice_get d) none
get_beyond (x ∷ c) d k = let next : suc (length c) + k ≡ suc (length c + k) = omega arith in ap (slice_get (x ∷ (c ++ d))) next ∙ get_beyond c d k

or_left : (a b : Bool) → a ≡ true → (a || b) ≡ true
or_left true b h = refl
or_left false b h = cc

or_right : (a b : Bool) → b ≡ true → (a || b) ≡ true
or_right true b h = refl
or_right false b h = h

module _ (sig : Sig) (r : ℕ → ℕ) (binders news : List Ty) where
  abbrev pub Agrees : Term → ℕ → Type 0
  Agrees t d = (v : ℕ) → occurs_behind v t d ≡ true → slice_get news (r v) ≡ slice_get binders v

  abbrev Kept : Term → Type 0
  Kept t = (c : List Ty) → Agrees t (length c) → type_in sig (renamed r t (length c)) (c ++ news) ≡ type_in sig t (c ++ binders)

  kept_bound : (i : ℕ) → Kept (bound i)
  kept_bound i c h = ap (λ t. type_in sig t (c ++ news)) (renamed_bound r i (length c)) ∙ by (nat_lt i (length c)) refl ∙ sym (type-bound sig i (c ++ binders))
    where
      by : (b : Bool) → nat_lt i (length c) ≡ b → type_in sig (bound (if b then i else length c + r (i - length c))) (c ++ news) ≡ slice_get (c ++ binders) i
      by true e = type-bound sig i (c ++ news) ∙ slice_get_front c news i e ∙ sym (slice_get_front c binders i e)
      by false e =
          let v = i - length c in
          let whole : length c + (i - length c) ≡ i = grind (arith, nat_tests) in
          let here : (i == length c + (i - length c)) ≡ true = grind (arith, nat_tests, whole) in
          type-bound sig (length c + r v) (c ++ news) ∙ get_beyond c news (r v) ∙ h v (occurs_bound v i (length c) ∙ here) ∙ sym (get_beyond c binders v) ∙ ap (slice_get (c ++ binders)) whole

  kept_app : (f x : Term) → Kept f → Kept x → Kept (app f x)
  kept_app f x hf hx c h =
      let n = length c in
      let occurs : (v : ℕ) → occurs_behind v (app f x) n ≡ (occurs_behind v f n || occurs_behind v x n) = λ v. ap (λ g. g n) (fold-roll-Term (ℕ → Bool) (occurs_step v) (Term-F.App f x)) in
      let left = hf c (λ v o. h v (occurs v ∙ or_left (occurs_behind v f n) (occurs_behind v x n) o)) in
      let right = hx c (λ v o. h v (occurs v ∙ or_right (occurs_behind v f n) (occurs_behind v x n) o)) in
      ap (λ t. type_in sig t (c ++ news)) (renamed_app r f x n) ∙ type-app sig (renamed r f n) (renamed r x n) (c ++ news) ∙ (λ i. applied (left i) (right i)) ∙ sym (type-app sig f x (c ++ binders))

  kept_lam : (a : Ty) (b : Term) → Kept b → Kept (lam a b)
  kept_lam a b hb c h =
      let n = length c in
      let longer : length (a ∷ c) ≡ n + 1 = omega arith in
      let occurs : (v : ℕ) → occurs_behind v (lam a b) n ≡ occurs_behind v b (n + 1) = λ v. ap (λ g. g n) (fold-roll-Term (ℕ → Bool) (occurs_step v) (Term-F.Lam a b)) in
      let inner = hb (a ∷ c) (λ v o. h v (occurs v ∙ subst (λ m. occurs_behind v b m ≡ true) longer o)) in
      ap (λ t. type_in sig t (c ++ news)) (renamed_lam r a b n) ∙ type-lam sig a (renamed r b (n + 1)) (c ++ news)
      ∙ ap (under sig.types a) (subst (λ m. type_in sig (renamed r b m) (a ∷ (c ++ news)) ≡ type_in sig b (a ∷ (c ++ binders))) longer inner) ∙ sym (type-lam sig a b (c ++ binders))

  pub type_renamed : (t : Term) → Agrees t 0 → type_in sig (renamed r t 0) news ≡ type_in sig t binders
  type_renamed t h =
      by_cases Kept kept_bound (λ n a c _. ap (λ t. type_in sig t (c ++ news)) (renamed_free r n a (length c)) ∙ type-free sig n a (c ++ news) ∙ sym (type-free sig n a (c ++ binders)))
      (λ k c _. ap (λ t. type_in sig t (c ++ news)) (renamed_con r k (length c)) ∙ type-con sig k (c ++ news) ∙ sym (type-con sig k (c ++ binders))) kept_app kept_lam t [] h

-- ---- functions of several arguments
abbrev pub arrows : List Ty → Ty → Ty
arrows [] b = b
arrows (a ∷ types) b = function_ty a (arrows types b)

-- the binders of lambdas over the variables that pass, the innermost first
abbrev pub inner : (ℕ → Bool) → (ℕ → Ty) → ℕ → List Ty
inner p of zero = []
inner p of (suc n) = if p n then inner p of n ++ of n ∷ [] else inner p of n

module _ (p : ℕ → Bool) (of : ℕ → Ty) where
  sized_step : (n : ℕ) (b : Bool) → length (inner p of n) ≡ length (variables p n) → length (if b then inner p of n ++ of n ∷ [] else inner p of n) ≡ length (if b then n ∷ variables p n else variables p n)
  sized_step n true h = simp length-append (omega (arith, h))
  sized_step n false h = h

  pub sized : (n : ℕ) → length (inner p of n) ≡ length (variables p n)
  sized zero = refl
  sized (suc n) = sized_step n (p n) (sized n)

  placed_step : (n v : ℕ) (b : Bool) → p n ≡ b → (c : Bool) → (v == n) ≡ c → v < suc n → p v ≡ true → (v < n → slice_get (inner p of n) (length (variables p v)) ≡ Some (of v)) →
      slice_get (if b then inner p of n ++ of n ∷ [] else inner p of n) (length (variables p v)) ≡ Some (of v)
  placed_step n v true en true ev h e rest =
      let same : v ≡ n = grind (arith, nat_tests) in
      ap (λ u. slice_get (inner p of n ++ of n ∷ []) (length (variables p u))) same ∙ ap (slice_get (inner p of n ++ of n ∷ [])) (sym (sized n)) ∙ get_middle (inner p of n) [] (of n)
      ∙ ap (λ u. Some (of u)) (sym same)
  placed_step n v true en false ev h e rest =
      let less : v < n = grind (arith, nat_tests) in within (inner p of n) (length (variables p v)) (of v) (rest less) (of n ∷ [])
  placed_step n v false en true ev h e rest = let same : v ≡ n = grind (arith, nat_tests) in absurd (let t : true ≡ false = sym e ∙ ap p same ∙ en in cc)
  placed_step n v false en false ev h e rest = let less : v < n = grind (arith, nat_tests) in rest less

  pub placed : (n v : ℕ) → v < n → p v ≡ true → slice_get (inner p of n) (length (variables p v)) ≡ Some (of v)
  placed zero v h e = absurd (omega arith)
  placed (suc n) v h e = placed_step n v (p n) refl (v == n) refl h e (λ less. placed n v less e)

  module _ (sig : Sig) where
    typed_step : (n : ℕ) (t : Term) (acc : List Ty) (b : Ty) (c : Bool) → IsTrue (ty_fits sig.types (of n)) →
        ((acc : List Ty) → type_in sig t (inner p of n ++ acc) ≡ Some b → type_in sig (lambdas (map of (variables p n)) t) acc ≡ Some (arrows (map of (variables p n)) b)) →
        type_in sig t ((if c then inner p of n ++ of n ∷ [] else inner p of n) ++ acc) ≡ Some b →
        type_in sig (lambdas (map of (if c then n ∷ variables p n else variables p n)) t) acc ≡ Some (arrows (map of (if c then n ∷ variables p n else variables p n)) b)
    typed_step n t acc b true fits rest h =
        type-lam sig (of n) (lambdas (map of (variables p n)) t) acc
        ∙ under_so sig.types (of n) (type_in sig (lambdas (map of (variables p n)) t) (of n ∷ acc)) (arrows (map of (variables p n)) b)
        (rest (of n ∷ acc) (ap (type_in sig t) (sym (append_assoc (inner p of n) (of n ∷ []) acc)) ∙ h)) fits
    typed_step n t acc b false fits rest h = rest acc h

    pub typed_lambdas : (n : ℕ) (t : Term) (b : Ty) → ((v : ℕ) → v < n → IsTrue (ty_fits sig.types (of v))) → (acc : List Ty) → type_in sig t (inner p of n ++ acc) ≡ Some b →
        type_in sig (lambdas (map of (variables p n)) t) acc ≡ Some (arrows (map of (variables p n)) b)
    typed_lambdas zero t b fits acc h = h
    typed_lambdas (suc n) t b fits acc h = typed_step n t acc b (p n) (fits n (omega arith)) (typed_lambdas n t b (λ v l. fits v (omega arith))) h

-- ---- a term applied to variables
abbrev pub Got : (ℕ → Ty) → List Ty → List ℕ → Type 0
Got of binders [] = Unit {0}
Got of binders (v ∷ vs) = (slice_get binders v ≡ Some (of v)) × Got of binders vs

pub applied_typed : (sig : Sig) (of : ℕ → Ty) (binders : List Ty) (vs : List ℕ) (f : Term) (b : Ty) → Got of binders vs → type_in sig f binders ≡ Some (arrows (map of vs) b) → type_in sig (applied_to f vs) binders ≡ Some b
applied_typed sig of binders [] f b got h = h
applied_typed sig of binders (v ∷ vs) f b got h =
    applied_typed sig of binders vs (app f (bound v)) b got.1
    (type-app sig f (bound v) binders ∙ (λ i. applied (h i) ((type-bound sig v binders ∙ got.0) i)) ∙ applied_fits (of v) (arrows (map of vs) b))

got_step : (p : ℕ → Bool) (of : ℕ → Ty) (binders : List Ty) (n : ℕ) (b : Bool) → slice_get binders n ≡ Some (of n) → Got of binders (variables p n) → Got of binders (if b then n ∷ variables p n else variables p n)
got_step p of binders n true h rest = (h, rest)
got_step p of binders n false h rest = rest

pub got_variables : (p : ℕ → Bool) (of : ℕ → Ty) (binders : List Ty) (n : ℕ) → ((v : ℕ) → v < n → slice_get binders v ≡ Some (of v)) → Got of binders (variables p n)
got_variables p of binders zero h = tt
got_variables p of binders (suc n) h = got_step p of binders n (p n) (h n (omega arith)) (got_variables p of binders n (λ v l. h v (omega arith)))

pub got_ty : (binders : List Ty) (v : ℕ) → v < length binders → slice_get binders v ≡ Some (ty_at binders v)
got_ty [] v h = absurd (omega arith)
got_ty (a ∷ c) zero h = refl
got_ty (a ∷ c) (suc v) h = got_ty c v (omega arith)

-- ---- closed terms of lambdas
module _ (sig : Sig) (binders : List Ty) (t : Term) where
  place_step : (v : ℕ) → occurs_in t v ≡ true → (b : Bool) → nat_lt v (length binders) ≡ b →
      slice_get (inner (occurs_in t) (ty_at binders) (length binders)) (lambda_of (occurs_in t) (length binders) v) ≡ slice_get binders v
  place_step v o true e =
      let within : v < length binders = grind (arith, nat_tests) in
      ap (slice_get (inner (occurs_in t) (ty_at binders) (length binders))) (taken_place (occurs_in t) (length binders) v e o)
      ∙ placed (occurs_in t) (ty_at binders) (length binders) v within o ∙ sym (got_ty binders v within)
  place_step v o false e =
      let past : length binders ≤ v = grind (arith, nat_tests) in
      let long : length (inner (occurs_in t) (ty_at binders) (length binders)) ≤ v + length (variables (occurs_in t) (length binders)) = omega (arith, sized (occurs_in t) (ty_at binders) (length binders)) in
      ap (slice_get (inner (occurs_in t) (ty_at binders) (length binders))) (beyond_place (occurs_in t) (length binders) v (ap (λ b. b && occurs_in t v) e))
      ∙ slice_get_past (inner (occurs_in t) (ty_at binders) (length binders)) (v + length (variables (occurs_in t) (length binders))) long ∙ sym (slice_get_past binders v past)

  pub closed_typed : (a : Ty) → ((v : ℕ) → v < length binders → IsTrue (ty_fits sig.types (ty_at binders v))) → type_in sig t binders ≡ Some a →
      type_in sig (closed_over binders t) [] ≡ Some (arrows (map (ty_at binders) (variables (occurs_in t) (length binders))) a)
  closed_typed a fits h =
      let news = inner (occurs_in t) (ty_at binders) (length binders) in
      let r = lambda_of (occurs_in t) (length binders) in
      let body : type_in sig (renamed r t 0) news ≡ Some a = type_renamed sig r binders news t (λ v o. place_step v o (nat_lt v (length binders)) refl) ∙ h in
      typed_lambdas (occurs_in t) (ty_at binders) sig (length binders) (renamed r t 0) a fits [] (ap (type_in sig (renamed r t 0)) (append-nil news) ∙ body)
