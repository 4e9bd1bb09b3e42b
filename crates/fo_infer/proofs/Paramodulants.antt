-- What paramodulation gives at one place, and where it gives nothing.
use Rattle.std.proofs.Common.{◌≡◌, ◌↔◌, ◌⊎◌, inl, inr, not, ℕ, zero, suc, ◌+◌, ◌<◌, ◌≤◌, sum, Bool, true, false, IsTrue, List, [], ◌∷◌, ◌++◌, map, take, length, get_or, Option, Some, None, slice_get, refl, sym, ap, subst, ◌∙◌, arith}
use Rattle.std.specs.Prelude.{slice_set, MatchBool, MatchOption, option_and_then}
use Rattle.std.specs.List.{remove, flat_map}
use Rattle.std.specs.Prelude.{sum_by}
use Rattle.std.proofs.lemmas.List.Sums.{sum-map, get_or-le-sum_by}
use Rattle.fo_terms.specs.Weight.{size_of}
use Rattle.fo_terms.proofs.Substitution.{size_fun, map_map}
use Rattle.fo_terms.proofs.Induction.{Each}
use Rattle.std.proofs.lemmas.List.{append_assoc, append-nil, map-append, length-append, length-map, length-take, take_more}
use Rattle.fo_terms.specs.declared.term.FoTerm.{FoTerm, Var, Fun}
use Rattle.fo_terms.specs.declared.term.FoTerm.TheOpen.{FoTerm-F}
use Rattle.fo_terms.specs.declared.term.FoTerm.TheFolds.{fold-roll-FoTerm}
use Rattle.fo_terms.specs.declared.term.FoTerm.TheVariants.{rolls-Var, rolls-Fun, outs-Fun}
use Rattle.fo_terms.specs.declared.atom.Atom.{Atom}
use Rattle.fo_terms.specs.declared.atom.Atom.TheVariants.{Holds, Eq}
use Rattle.fo_terms.specs.declared.literal.Literal.{Literal}
use Rattle.fo_terms.specs.declared.clause.Clause.{Clause}
use Rattle.fo_terms.specs.Substitution.{var, put, put_literal, put_literals}
use Rattle.fo_unify.specs.declared.subst.Bind.{Bind}
use Rattle.fo_unify.specs.Lookup.{term_of}
use Rattle.fo_unify.specs.Unifier.{Unifies, IsMostGeneral}
use Rattle.fo_order.specs.KnuthBendix.{Above, Outranks, heavier}
use Rattle.fo_order.specs.Eligible.{IsEligible}
use Rattle.fo_order.proofs.Ranks.{irr_rank, asym_rank, outranks}
use Rattle.fo_infer.specs.declared.source.Source.{Source}
use Rattle.fo_terms.specs.Normal.{atom_terms, clause_variables}
use Rattle.fo_infer.specs.declared.made.Made.{Made}
use Rattle.fo_infer.specs.declared.made.Rule.{Rule}
use Rattle.fo_infer.specs.declared.made.Rule.TheVariants.{Para}
use Rattle.fo_infer.specs.Paths.{at_path, at_atom_path, arguments, layer_arguments, paths_of, paths_step, behind_places, atom_paths}
use Rattle.fo_infer.specs.inner.Adding.{Answered, entry, Adds}
use Rattle.fo_infer.proofs.Listing.{adds_then, adds_one}
use Rattle.fo_infer.specs.Inferences.{Position, above_all, renamed_apart, conclusion, sought, put_in, literal_replaced, Paramodulates, upto, option_paths, position_rules, direction_rules, para_rules}
use Rattle.fo_infer.specs.inner.Places.{IsSource, NotBelow, rules_behind}
use Rattle.fo_infer.specs.inner.Slight.{Slight, SlightAtom, StaysLess}
use Rattle.fo_infer.proofs.Slights.{slight_at}
use Rattle.fo_infer.specs.inner.Findings.{left_by, side_of, replaced_in}
use Rattle.fo_infer.proofs.Resolvents.{some_same}
use Rattle.fo_infer.proofs.Factorings.{sides_same, equating}
use Rattle.fo_infer.proofs.Unifiers.{not_below_kept}

-- a heavier term, within a bound that machine numbers hold, isn't below
pub heavier_not_below : (binds : List Bind) (s t : FoTerm) → size_of (put (term_of binds) t) < size_of (put (term_of binds) s) → size_of (put (term_of binds) t) ≤ 65535 → NotBelow binds s t
heavier_not_below binds s t more within =
    let rank : Outranks (put (term_of binds) s) (put (term_of binds) t) = heavier (omega arith) in
    (λ e. irr_rank rank e, λ less. asym_rank rank (outranks less))

-- what is neither the same nor less isn't below, and what isn't below is neither
pub most_not_below : (binds : List Bind) (s t left right : FoTerm) → left ≡ put (term_of binds) s → right ≡ put (term_of binds) t → (b : Bool) → (IsTrue b ↔ ((left ≡ right) ⊎ Above right left))
    → MatchBool (not b) (NotBelow binds s t) (NotBelow binds s t → ⊥)
most_not_below binds s t left right is it true h =
    λ apart. elim (h.0 refl) [ inl same ↦ apart.0 (sym is ∙ same ∙ it) | inr less ↦ apart.1 (subst (λ r. Above r (put (term_of binds) s)) it (subst (Above right) is less)) ]
most_not_below binds s t left right is it false h =
    (λ e. (let wrong = h.1 (inl (is ∙ e ∙ sym it)) in cc), λ less. (let wrong = h.1 (inr (subst (λ r. Above r left) (sym it) (subst (Above (put (term_of binds) t)) (sym is) less))) in cc))

-- parts of a changed list, one behind another
pub pushed_parts : (v : ℕ → FoTerm) (start first second third a one b ls : List Literal) (by : Literal) → first ≡ start ++ put_literals v a → second ≡ first ++ put_literals v one → third ≡ second ++ put_literals v b
    → one ≡ by ∷ [] → ls ≡ a ++ by ∷ b → third ≡ start ++ put_literals v ls
pushed_parts v start first second third a one b ls by f s t is whole =
    t ∙ ap (λ l. l ++ put_literals v b) (s ∙ (λ k. f k ++ put_literals v (is k)))
    ∙ append_assoc (start ++ put_literals v a) (put_literals v (by ∷ [])) (put_literals v b)
    ∙ append_assoc start (put_literals v a) (put_literals v (by ∷ b))
    ∙ ap (λ l. start ++ l) (sym (map-append (put_literal v) a (by ∷ b)) ∙ ap (put_literals v) (sym whole))

module _ (position : Position) (from : Source) (source : IsSource from) (j : ℕ) (into : Literal) (path : List ℕ) (u : FoTerm)
    (literal : slice_get from.apart.now j ≡ Some into) (at : at_atom_path path into.atom ≡ Some u) where
  right : slice_get (renamed_apart from.p.now from.q.now) j ≡ Some into
  right = ap (λ ls. slice_get ls j) (sym source.apart) ∙ literal

  module _ (c : Clause) (made : Paramodulates position from.p.now from.q.now from.i from.swapped j path c) where
    same_into : made.into ≡ into
    same_into = some_same made.into into (sym made.right_is ∙ right)

    same_u : made.u ≡ u
    same_u = some_same made.u u (sym made.at ∙ ap (λ l. at_atom_path path l.atom) same_into ∙ at)

    same_sides : (made.a ≡ source.a) × (made.b ≡ source.b)
    same_sides = sides_same true made.a made.b source.a source.b (sym made.left_is ∙ source.equation)

    same_sought : sought from.swapped made.a made.b ≡ from.sought.now
    same_sought = (λ k. sought from.swapped (same_sides.0 k) (same_sides.1 k)) ∙ sym source.sought_is

    same_put_in : put_in from.swapped made.a made.b ≡ from.put_in.now
    same_put_in = (λ k. put_in from.swapped (same_sides.0 k) (same_sides.1 k)) ∙ sym source.put_in_is

    -- its unifier is one of the side sought and the subterm
    unifier : IsMostGeneral ((from.sought.now, u) ∷ []) made.binds
    unifier = subst (λ e. IsMostGeneral (e ∷ []) made.binds) (λ k. (same_sought k, same_u k)) made.unifier

    pub stays_below : StaysLess from.sought.now from.put_in.now → Slight u → ⊥
    stays_below less slight =
        let kept : Above (put (term_of made.binds) from.put_in.now) (put (term_of made.binds) from.sought.now) = less u made.binds slight unifier in
        made.not_less (subst (λ r. Above r (put (term_of made.binds) (sought from.swapped made.a made.b))) (ap (put (term_of made.binds)) (sym same_put_in))
        (subst (Above (put (term_of made.binds) from.put_in.now)) (ap (put (term_of made.binds)) (sym same_sought)) kept))

    pub no_position : position into.atom path u ≡ false → ⊥
    no_position none =
        let fits : position into.atom path u ≡ true = sym (λ k. position (same_into k).atom path (same_u k)) ∙ made.fits in
        let clash : false ≡ true = sym none ∙ fits in
        cc

    pub no_unifier : ((v : ℕ → FoTerm) → Unifies v ((from.sought.now, u) ∷ []) → ⊥) → ⊥
    no_unifier none = none (term_of made.binds) unifier.unifies

    pub is_below : (binds : List Bind) → IsMostGeneral ((from.sought.now, u) ∷ []) binds → (NotBelow binds from.sought.now from.put_in.now → ⊥) → ⊥
    is_below binds general below =
        below (not_below_kept ((from.sought.now, u) ∷ []) made.binds binds unifier general from.sought.now from.put_in.now
        (subst (NotBelow made.binds from.sought.now) same_put_in (subst (λ s. NotBelow made.binds s (put_in from.swapped made.a made.b)) same_sought (made.not_equal, made.not_less))))

  -- and what it gives
  pub gives_clause : IsTrue (position into.atom path u) → IsEligible from.q.now j → (binds : List Bind) → IsMostGeneral ((from.sought.now, u) ∷ []) binds → NotBelow binds from.sought.now from.put_in.now
      → (c : Clause) → c ≡ conclusion binds (remove from.p.now.literals from.i ++ slice_set from.apart.now j (literal_replaced path from.put_in.now into))
      → Paramodulates position from.p.now from.q.now from.i from.swapped j path c
  gives_clause fits eligible binds general above c is = record {
    a = source.a;
    b = source.b;
    into = into;
    u = u;
    left_is = source.equation;
    right_is = right;
    at = at;
    fits = fits;
    left_eligible = source.eligible;
    right_eligible = eligible;
    binds = binds;
    unifier = subst (λ s. IsMostGeneral ((s, u) ∷ []) binds) source.sought_is general;
    not_equal = (subst (NotBelow binds (sought from.swapped source.a source.b)) source.put_in_is (subst (λ s. NotBelow binds s from.put_in.now) source.sought_is above)).0;
    not_less = (subst (NotBelow binds (sought from.swapped source.a source.b)) source.put_in_is (subst (λ s. NotBelow binds s from.put_in.now) source.sought_is above)).1;
    gives = is ∙ (λ k. conclusion binds (remove from.p.now.literals from.i ++ slice_set (source.apart k) j (literal_replaced path (source.put_in_is k) into)));
  }

-- the literals that are left, as the rule tells them
pub left_para : (from : Source) (source : IsSource from) (j : ℕ) (into : Literal) (path : List ℕ) → slice_get from.apart.now j ≡ Some into → (binds : List Bind)
    → conclusion binds (left_by from.p.now from.apart.now (Para from.i from.swapped j path)) ≡ conclusion binds (remove from.p.now.literals from.i ++ slice_set from.apart.now j (literal_replaced path from.put_in.now into))
left_para from source j into path literal binds =
    let side : side_of from.swapped (slice_get from.p.now.literals from.i) ≡ from.put_in.now = ap (side_of from.swapped) source.equation ∙ sym source.put_in_is in
    λ k. conclusion binds (remove from.p.now.literals from.i ++ slice_set from.apart.now j (replaced_in path (side k) (literal k)))

-- ---- tests

pub when_not : (b : Bool) (P Q : Type 0) → b ≡ false → MatchBool b P Q → Q
when_not true P Q e h = cc
when_not false P Q e h = h

pub when_so : (b : Bool) (P Q : Type 0) → b ≡ true → MatchBool b P Q → P
when_so true P Q e h = h
when_so false P Q e h = cc

-- ---- paths

option_step : (k : ℕ) (t u : FoTerm) (o : Option FoTerm) (more : List ℕ) → option_and_then (at_path more) o ≡ Some t → slice_get (arguments t) k ≡ Some u
    → ((s : FoTerm) → at_path more s ≡ Some t → at_path (more ++ k ∷ []) s ≡ Some u) → option_and_then (at_path (more ++ k ∷ [])) o ≡ Some u
option_step k t u None more e h rest = cc
option_step k t u (Some s) more e h rest = rest s e

term_deeper : (path : List ℕ) (k : ℕ) (s t u : FoTerm) → at_path path s ≡ Some t → slice_get (arguments t) k ≡ Some u → at_path (path ++ k ∷ []) s ≡ Some u
term_deeper [] k s t u e h =
    let same : s ≡ t = some_same s t e in
    ap (λ r. option_and_then (at_path []) (slice_get (arguments r) k)) same ∙ ap (option_and_then (at_path [])) h
term_deeper (n ∷ path) k s t u e h = option_step k t u (slice_get (arguments s) n) path e h (λ r f. term_deeper path k r t u f h)

-- one step further into an atom
pub deeper : (path : List ℕ) (k f : ℕ) (a : Atom) (t u : FoTerm) (args : List FoTerm) → t ≡ Fun f args → at_atom_path path a ≡ Some t → slice_get args k ≡ Some u → at_atom_path (path ++ k ∷ []) a ≡ Some u
deeper [] k f a t u args is e h = cc
deeper (n ∷ path) k f a t u args is e h =
    let inside : slice_get (arguments t) k ≡ Some u = ap (λ r. slice_get (arguments r) k) is ∙ ap (λ l. slice_get (layer_arguments l) k) (outs-Fun f args) ∙ h in
    option_step k t u (slice_get (atom_terms a) n) path e inside (λ r g. term_deeper path k r t u g inside)

-- the paths behind one more item
pub behind_more : (n : ℕ) (rows : List (List (List ℕ))) (ps : List (List ℕ)) → behind_places n (rows ++ ps ∷ []) ≡ behind_places n rows ++ map (λ p. (n + length rows) ∷ p) ps
behind_more n [] ps = append-nil (map (λ p. n ∷ p) ps) ∙ (let e : n ≡ n + 0 = omega arith in ap (λ m. map (λ p. m ∷ p) ps) e)
behind_more n (row ∷ rows) ps =
    let e : n + 1 + length rows ≡ n + suc (length rows) = omega arith in
    ap (λ l. map (λ p. n ∷ p) row ++ l) (behind_more (n + 1) rows ps ∙ ap (λ m. behind_places (n + 1) rows ++ map (λ p. m ∷ p) ps) e)
    ∙ sym (append_assoc (map (λ p. n ∷ p) row) (behind_places (n + 1) rows) (map (λ p. (n + suc (length rows)) ∷ p) ps))

-- the rules at the paths below one item stand behind its place
pub rules_at : (i : ℕ) (swapped : Bool) (j : ℕ) (path : List ℕ) (k : ℕ) (ps : List (List ℕ)) → rules_behind i swapped j (path ++ k ∷ []) ps ≡ rules_behind i swapped j path (map (λ p. k ∷ p) ps)
rules_at i swapped j path k [] = refl
rules_at i swapped j path k (p ∷ ps) = λ n. Para i swapped j (append_assoc path (k ∷ []) p n) ∷ rules_at i swapped j path k ps n

pub rules-append : (i : ℕ) (swapped : Bool) (j : ℕ) (path : List ℕ) (ps qs : List (List ℕ)) → rules_behind i swapped j path (ps ++ qs) ≡ rules_behind i swapped j path ps ++ rules_behind i swapped j path qs
rules-append i swapped j path ps qs = map-append (λ rest. Para i swapped j (path ++ rest)) ps qs

module _ (Gives : Rule → Clause → Type 0) (i : ℕ) (swapped : Bool) (j : ℕ) (path : List ℕ) where
  -- one more argument
  pub walk_more : (terms : List FoTerm) (k : ℕ) (t : FoTerm) (old mid new : List Made) → k < length terms → t ≡ get_or terms k t
      → Adds Gives (rules_behind i swapped j path (behind_places 0 (map paths_of (take k terms)))) old mid
      → Adds Gives (rules_behind i swapped j (path ++ k ∷ []) (paths_of t)) mid new
      → Adds Gives (rules_behind i swapped j path (behind_places 0 (map paths_of (take (k + 1) terms)))) old new
  walk_more terms k t old mid new within is first second =
      let front = map paths_of (take k terms) in
      let count : 0 + length front ≡ k =
      (let a : length front ≡ length (take k terms) = length-map (take k terms) paths_of in let b : length (take k terms) ≡ k = length-take k terms ∙ omega arith in omega arith) in
      let rows : map paths_of (take (k + 1) terms) ≡ front ++ paths_of t ∷ [] =
      ap (map paths_of) (take_more terms k t within) ∙ map-append paths_of (take k terms) (get_or terms k t ∷ []) ∙ ap (λ r. front ++ paths_of r ∷ []) (sym is) in
      let whole : rules_behind i swapped j path (behind_places 0 (map paths_of (take (k + 1) terms))) ≡ rules_behind i swapped j path (behind_places 0 front) ++ rules_behind i swapped j (path ++ k ∷ []) (paths_of t) =
      ap (λ l. rules_behind i swapped j path (behind_places 0 l)) rows ∙ ap (rules_behind i swapped j path) (behind_more 0 front (paths_of t))
      ∙ rules-append i swapped j path (behind_places 0 front) (map (λ p. (0 + length front) ∷ p) (paths_of t))
      ∙ ap (λ m. rules_behind i swapped j path (behind_places 0 front) ++ rules_behind i swapped j path (map (λ p. m ∷ p) (paths_of t))) count
      ∙ ap (λ l. rules_behind i swapped j path (behind_places 0 front) ++ l) (sym (rules_at i swapped j path k (paths_of t))) in
      subst (λ rs. Adds Gives rs old new) (sym whole)
      (adds_then Gives (rules_behind i swapped j path (behind_places 0 front)) (rules_behind i swapped j (path ++ k ∷ []) (paths_of t)) old mid new first second)

  -- a term's own path, and then those below it
  pub walk_var : (x : ℕ) (t : FoTerm) (o : Option Clause) (old new : List Made) → t ≡ Var x → new ≡ old ++ entry (Para i swapped j path) o → Answered (Gives (Para i swapped j path)) o
      → Adds Gives (rules_behind i swapped j path (paths_of t)) old new
  walk_var x t o old new is pushed answer =
      let paths : paths_of t ≡ [] ∷ [] = ap paths_of (is ∙ sym (rolls-Var x)) ∙ fold-roll-FoTerm (List (List ℕ)) paths_step (FoTerm-F.Var x) in
      let here : rules_behind i swapped j path (paths_of t) ≡ Para i swapped j path ∷ [] = ap (rules_behind i swapped j path) paths ∙ ap (λ p. Para i swapped j p ∷ []) (append-nil path) in
      subst (λ rs. Adds Gives rs old new) (sym here) (adds_one Gives (Para i swapped j path) o old new pushed answer)

  pub walk_fun : (f : ℕ) (args : List FoTerm) (t : FoTerm) (o : Option Clause) (old mid new : List Made) → t ≡ Fun f args → mid ≡ old ++ entry (Para i swapped j path) o → Answered (Gives (Para i swapped j path)) o
      → Adds Gives (rules_behind i swapped j path (behind_places 0 (map paths_of args))) mid new
      → Adds Gives (rules_behind i swapped j path (paths_of t)) old new
  walk_fun f args t o old mid new is pushed answer below =
      let paths : paths_of t ≡ [] ∷ behind_places 0 (map paths_of args) = ap paths_of (is ∙ sym (rolls-Fun f args)) ∙ fold-roll-FoTerm (List (List ℕ)) paths_step (FoTerm-F.Fun f args) in
      let here : rules_behind i swapped j path (paths_of t) ≡ Para i swapped j path ∷ rules_behind i swapped j path (behind_places 0 (map paths_of args)) =
      ap (rules_behind i swapped j path) paths ∙ ap (λ p. Para i swapped j p ∷ rules_behind i swapped j path (behind_places 0 (map paths_of args))) (append-nil path) in
      subst (λ rs. Adds Gives rs old new) (sym here)
      (adds_then Gives (Para i swapped j path ∷ []) (rules_behind i swapped j path (behind_places 0 (map paths_of args))) old mid new (adds_one Gives (Para i swapped j path) o old mid pushed answer) below)

-- ---- sizes

pub part_size : (ts : List FoTerm) (i : ℕ) (t : FoTerm) → i < length ts → t ≡ get_or ts i t → size_of t ≤ sum (map size_of ts)
part_size ts i t within is =
    let whole : sum (map size_of ts) ≡ sum_by size_of ts = sum-map size_of ts in
    let part = get_or-le-sum_by size_of ts i t within in
    let same : size_of t ≡ size_of (get_or ts i t) = ap size_of is in
    omega arith

pub fun_size : (f : ℕ) (args : List FoTerm) (t : FoTerm) → t ≡ Fun f args → size_of t ≡ 1 + sum (map size_of args)
fun_size f args t is = ap size_of is ∙ size_fun f args

pub got : {X : Type 0} (xs : List X) (i : ℕ) (x : X) → i < length xs → x ≡ get_or xs i x → slice_get xs i ≡ Some x
got [] i x within is = absurd (omega arith)
got (y ∷ ys) zero x within is = ap Some (sym is)
got (y ∷ ys) (suc i) x within is = let inside : i < length ys = omega arith in got ys i x inside is

-- what is left when the last item is taken
pub popped : {X : Type 0} (xs ys : List X) (x y : X) → xs ++ x ∷ [] ≡ ys ++ y ∷ [] → xs ≡ ys
popped [] [] x y e = refl
popped [] (z ∷ ys) x y e = absurd (let sizes : length (x ∷ []) ≡ length ((z ∷ ys) ++ y ∷ []) = ap length e in let more : length (ys ++ y ∷ []) ≡ length ys + length (y ∷ []) = length-append ys (y ∷ []) in omega arith)
popped (z ∷ xs) [] x y e = absurd (let sizes : length ((z ∷ xs) ++ x ∷ []) ≡ length (y ∷ []) = ap length e in let more : length (xs ++ x ∷ []) ≡ length xs + length (x ∷ []) = length-append xs (x ∷ []) in omega arith)
popped (z ∷ xs) (w ∷ ys) x y e =
    let first : z ≡ w = cc in
    let rest : xs ++ x ∷ [] ≡ ys ++ y ∷ [] = cc in
    λ i. first i ∷ popped xs ys x y rest i

pub pop_back : {X : Type 0} (o : Option X) (old new base : List X) (x : X) → MatchOption o ((old ≡ []) × (new ≡ [])) (λ last. old ≡ new ++ last ∷ []) → old ≡ base ++ x ∷ [] → new ≡ base
pop_back None old new base x h e = absurd (let sizes : length old ≡ 0 = ap length h.0 in let more : length old ≡ length base + length (x ∷ []) = ap length e ∙ length-append base (x ∷ []) in omega arith)
pop_back (Some last) old new base x h e = popped new base last x (sym h ∙ e)

-- ---- rows of rules

each_append : {X : Type 0} (P : X → Type 0) (xs ys : List X) → Each P xs → Each P ys → Each P (xs ++ ys)
each_append P [] ys h k = k
each_append P (x ∷ xs) ys h k = (h.0, each_append P xs ys h.1 k)

module _ (P : Rule → Type 0) (i : ℕ) (into : List Literal) where
  each_path : (swapped : Bool) (j : ℕ) → ((path : List ℕ) → P (Para i swapped j path)) → (ps : List (List ℕ)) → Each P (map (λ path. Para i swapped j path) ps)
  each_path swapped j h [] = tt
  each_path swapped j h (p ∷ ps) = (h p, each_path swapped j h ps)

  pub each_position : (swapped : Bool) (j : ℕ) → ((path : List ℕ) → P (Para i swapped j path)) → Each P (position_rules into i swapped j)
  each_position swapped j h = each_path swapped j h (option_paths (slice_get into j))

  each_place : (swapped : Bool) → ((j : ℕ) (path : List ℕ) → P (Para i swapped j path)) → (js : List ℕ) → Each P (flat_map (position_rules into i swapped) js)
  each_place swapped h [] = tt
  each_place swapped h (j ∷ js) = each_append P (position_rules into i swapped j) (flat_map (position_rules into i swapped) js) (each_position swapped j (h j)) (each_place swapped h js)

  pub each_para : ((swapped : Bool) (j : ℕ) (path : List ℕ) → P (Para i swapped j path)) → Each P (para_rules into i)
  each_para h = each_append P (direction_rules into i false) (direction_rules into i true) (each_place false (h false) (upto (length into))) (each_place true (h true) (upto (length into)))

-- an atom's paths, side by side
pub sides_rules : (i : ℕ) (swapped : Bool) (j : ℕ) (s t : FoTerm) → map (λ path. Para i swapped j path) (atom_paths (Eq s t)) ≡ rules_behind i swapped j (0 ∷ []) (paths_of s) ++ rules_behind i swapped j (1 ∷ []) (paths_of t)
sides_rules i swapped j s t =
    map-append (λ path. Para i swapped j path) (map (λ p. 0 ∷ p) (paths_of s)) (map (λ p. 1 ∷ p) (paths_of t) ++ [])
    ∙ (λ k. map_map (λ path. Para i swapped j path) (λ p. 0 ∷ p) (paths_of s) k ++ map (λ path. Para i swapped j path) (append-nil (map (λ p. 1 ∷ p) (paths_of t)) k))
    ∙ ap (λ l. rules_behind i swapped j (0 ∷ []) (paths_of s) ++ l) (map_map (λ path. Para i swapped j path) (λ p. 1 ∷ p) (paths_of t))

pub term_rules : (i : ℕ) (swapped : Bool) (j : ℕ) (t : FoTerm) → map (λ path. Para i swapped j path) (atom_paths (Holds t)) ≡ rules_behind i swapped j (0 ∷ []) (paths_of t)
term_rules i swapped j t = ap (map (λ path. Para i swapped j path)) (append-nil (map (λ p. 0 ∷ p) (paths_of t))) ∙ map_map (λ path. Para i swapped j path) (λ p. 0 ∷ p) (paths_of t)

-- where the left literal is no positive equation, or one of the literals isn't eligible
pub no_source : (position : Position) (p q : Clause) (i : ℕ) (l : Literal) → slice_get p.literals i ≡ Some l → ((s t : FoTerm) → l ≡ record { positive = true; atom = Eq s t } → ⊥)
    → (swapped : Bool) (j : ℕ) (path : List ℕ) (c : Clause) → Paramodulates position p q i swapped j path c → ⊥
no_source position p q i l is none swapped j path c made = none made.a made.b (some_same l (equating true made.a made.b) (sym is ∙ made.left_is))

pub apart_length : (p q : Clause) → length (renamed_apart p q) ≡ length q.literals
apart_length p q = length-map q.literals (put_literal (λ x. var (x + above_all (clause_variables p.literals))))

-- an equation that stays turned the other way gives nothing in a slight literal
pub nothing_slight : (position : Position) (from : Source) (source : IsSource from) (j : ℕ) (into : Literal) → slice_get from.apart.now j ≡ Some into → SlightAtom into.atom → StaysLess from.sought.now from.put_in.now
    → (path : List ℕ) (c : Clause) → Paramodulates position from.p.now from.q.now from.i from.swapped j path c → ⊥
nothing_slight position from source j into literal slight less path c made =
    let same : made.into ≡ into = some_same made.into into (sym made.right_is ∙ ap (λ ls. slice_get ls j) (sym source.apart) ∙ literal) in
    let at : at_atom_path path into.atom ≡ Some made.u = ap (λ l. at_atom_path path l.atom) (sym same) ∙ made.at in
    stays_below position from source j into path made.u literal at c made less (slight_at path into.atom made.u slight at)
