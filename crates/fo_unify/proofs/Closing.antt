-- The solved form of bindings in the order in which they were made.
use Rattle.std.proofs.Common.{◌≡◌, ◌≢◌, ◌⊎◌, inl, inr, ℕ, ◌+◌, ◌<◌, Bool, true, false, ◌==◌, if◌then◌else◌, List, [], ◌∷◌, ◌++◌, map, take, drop, length, get_or, Option, Some, None, refl, sym, ap, subst, ◌∙◌, arith, rules, zero, suc}
use Rattle.std.specs.Prelude.{unwrap_or, All, AllPairs}
use Rattle.std.proofs.lemmas.List.{map-append, append-nil, append_assoc, length-map, take_more, drop_more}
use Rattle.std.proofs.lemmas.List.Elements.{All-cons, All-head, All-tail, All-nil, All-push, All-map}
use Rattle.std.proofs.lemmas.List.Quantifiers.{all_pairs_push}
use Rattle.fo_terms.specs.declared.term.FoTerm.{FoTerm}
use Rattle.fo_unify.specs.declared.subst.Bind.{Bind}
use Rattle.fo_terms.specs.Substitution.{var, put, occurs_in}
use Rattle.fo_unify.specs.Lookup.{lookup, term_of}
use Rattle.fo_unify.specs.Unifier.{Unifies, IsSolved, IsMostGeneral}
use Rattle.fo_unify.specs.inner.Triangle.{one, extended, solved_from, solution, Ready, GoodFrom, Good, resolved_bind, resolved, Solves}
use Rattle.fo_terms.proofs.Substitution.{equal_true, equal_from, put_var, put_absent, occurs_var, unequal, map_map}
use Rattle.fo_unify.proofs.Triangles.{one_other, absent_one, gone_one, general, solution_solves}

-- ---- steps of a loop over a list

pub map_more : {X Y : Type 0} (f : X → Y) (xs : List X) (i : ℕ) (x : X) → i < length xs → x ≡ get_or xs i x → map f (take (i + 1) xs) ≡ map f (take i xs) ++ f x ∷ []
map_more f xs i x within is = ap (map f) (take_more xs i x within) ∙ map-append f (take i xs) (get_or xs i x ∷ []) ∙ ap (λ y. map f (take i xs) ++ f y ∷ []) (sym is)

pub drop_read : {X : Type 0} (xs : List X) (i : ℕ) (x : X) → i < length xs → x ≡ get_or xs i x → drop i xs ≡ x ∷ drop (i + 1) xs
drop_read xs i x within is = drop_more xs i x within ∙ ap (λ y. y ∷ drop (i + 1) xs) (sym is)

-- the solved form, binding by binding
abbrev eliminated : List Bind → Bind → List Bind
eliminated binds b = map (λ c. record { var = c.var; term = put (term_of (b ∷ [])) c.term }) binds ++ b ∷ []

abbrev closed_from : List Bind → List Bind → List Bind
closed_from done [] = done
closed_from done (b ∷ bs) = closed_from (eliminated done (record { var = b.var; term = put (term_of done) b.term })) bs

abbrev closed : List Bind → List Bind
closed bs = closed_from [] bs

-- ---- what the list gives for a variable

or_itself : (test : Bool) (t u : FoTerm) → unwrap_or (if test then Some t else None) u ≡ (if test then t else u)
or_itself true t u = refl
or_itself false t u = refl

pub term_of_one : (b : Bind) → term_of (b ∷ []) ≡ one b.var b.term
term_of_one b = λ i y. or_itself (b.var == y) b.term (var y) i

step_of : (b : Bind) (test : Bool) (t u : FoTerm) (old new : Option FoTerm) → unwrap_or new u ≡ put (one b.var b.term) (unwrap_or old u)
    → unwrap_or (if test then Some (put (term_of (b ∷ [])) t) else new) u ≡ put (one b.var b.term) (unwrap_or (if test then Some t else old) u)
step_of b true t u old new h = ap (λ v. put v t) (term_of_one b)
step_of b false t u old new h = h

pub term_of_eliminated : (done : List Bind) (b : Bind) (y : ℕ) → term_of (eliminated done b) y ≡ put (one b.var b.term) (term_of done y)
term_of_eliminated [] b y = or_itself (b.var == y) b.term (var y) ∙ sym (put_var (one b.var b.term) y)
term_of_eliminated (c ∷ done) b y = step_of b (c.var == y) c.term (var y) (lookup done y) (lookup (eliminated done b) y) (term_of_eliminated done b y)

abbrev pub applied : List Bind → Bind → Bind
applied done b = record { var = b.var; term = put (term_of done) b.term }

extends : (done : List Bind) (b : Bind) → term_of (eliminated done (applied done b)) ≡ extended (term_of done) b
extends done b = λ i y. term_of_eliminated done (applied done b) y i

pub closed_is : (done bs : List Bind) (y : ℕ) → term_of (closed_from done bs) y ≡ solved_from (term_of done) bs y
closed_is done [] y = refl
closed_is done (b ∷ bs) y = closed_is (eliminated done (applied done b)) bs y ∙ ap (λ u. solved_from u bs y) (extends done b)

-- ---- it is solved

abbrev Lacks : ℕ → List Bind → Type 0
Lacks z binds = All (λ c. occurs_in z c.term ≡ false) binds

abbrev Away : ℕ → List Bind → Type 0
Away x binds = All (λ c. c.var ≢ x) binds

away_step : (x : ℕ) (c : Bind) (done : List Bind) (test : Bool) → (c.var == x) ≡ test → occurs_in c.var c.term ≡ false
    → unwrap_or (if test then Some c.term else lookup done x) (var x) ≡ var x → (term_of done x ≡ var x → Away x done) → Away x (c ∷ done)
away_step x c done true e own is rest = let here : (c.var == x) ≡ false = sym (occurs_var c.var x) ∙ sym (ap (occurs_in c.var) is) ∙ own in cc
away_step x c done false e own is rest =
    let other : c.var ≢ x = λ same. (let here : (c.var == c.var) ≡ false = subst (λ z. (c.var == z) ≡ false) (sym same) e in let there = equal_here c.var in cc) in
    All-cons (λ b. b.var ≢ x) c done other (rest is)
  where
    equal_here : (n : ℕ) → (n == n) ≡ true
    equal_here n = search rules

-- a variable that stands for itself is bound nowhere
pub away : (x : ℕ) (done : List Bind) → All (λ c. occurs_in c.var c.term ≡ false) done → term_of done x ≡ var x → Away x done
away x [] own is = All-nil (λ c. c.var ≢ x)
away x (c ∷ done) own is =
    away_step x c done (c.var == x) refl (All-head (λ b. occurs_in b.var b.term ≡ false) c done own) is (away x done (All-tail (λ b. occurs_in b.var b.term ≡ false) c done own))

own_of : (done : List Bind) → IsSolved done → All (λ c. occurs_in c.var c.term ≡ false) done
own_of done solved k d within = solved.apart k d within k d within

lacks_step : (z y : ℕ) (c : Bind) (done : List Bind) (test : Bool) → Lacks z (c ∷ done)
    → (term_of done y ≡ var y) ⊎ (occurs_in z (term_of done y) ≡ false)
    → (unwrap_or (if test then Some c.term else lookup done y) (var y) ≡ var y) ⊎ (occurs_in z (unwrap_or (if test then Some c.term else lookup done y) (var y)) ≡ false)
lacks_step z y c done true lacks rest = inr (All-head (λ b. occurs_in z b.term ≡ false) c done lacks)
lacks_step z y c done false lacks rest = rest

term_lacks : (z y : ℕ) (done : List Bind) → Lacks z done → (term_of done y ≡ var y) ⊎ (occurs_in z (term_of done y) ≡ false)
term_lacks z y [] lacks = inl refl
term_lacks z y (c ∷ done) lacks = lacks_step z y c done (c.var == y) lacks (term_lacks z y done (All-tail (λ b. occurs_in z b.term ≡ false) c done lacks))

bound_lacks : (z y : ℕ) (done : List Bind) → Lacks z done → term_of done z ≢ var z → occurs_in z (term_of done y) ≡ false
bound_lacks z y done lacks bound = elim (term_lacks z y done lacks) [
  | inl free ↦ ap (occurs_in z) free ∙ occurs_var z y ∙ unequal z y (λ same. bound (subst (λ x. term_of done x ≡ var x) (sym same) free))
  | inr h ↦ h
]

abbrev with_one : Bind → Bind → Bind
with_one b c = record { var = c.var; term = put (term_of (b ∷ [])) c.term }

lacks_kept : (z : ℕ) (done : List Bind) (b : Bind) → Lacks z done → occurs_in z b.term ≡ false → Lacks z (eliminated done b)
lacks_kept z done b lacks new =
    All-push (λ c. occurs_in z c.term ≡ false) (map (with_one b) done) b
    (All-map (λ c. occurs_in z c.term ≡ false) (with_one b) done
    (λ k d within. subst (λ v. occurs_in z (put v (get_or done k d).term) ≡ false) (sym (term_of_one b)) (absent_one z b.var b.term (get_or done k d).term new (lacks k d within))))
    new

lacks_new : (done : List Bind) (b : Bind) → occurs_in b.var b.term ≡ false → Lacks b.var (eliminated done b)
lacks_new done b new =
    All-push (λ c. occurs_in b.var c.term ≡ false) (map (with_one b) done) b
    (All-map (λ c. occurs_in b.var c.term ≡ false) (with_one b) done
    (λ k d within. subst (λ v. occurs_in b.var (put v (get_or done k d).term) ≡ false) (sym (term_of_one b)) (gone_one b.var b.term (get_or done k d).term new)))
    new

eliminated_vars : (done : List Bind) (b : Bind) → map (λ c. c.var) (eliminated done b) ≡ map (λ c. c.var) done ++ b.var ∷ []
eliminated_vars done b = map-append (λ c. c.var) (map (with_one b) done) (b ∷ []) ∙ ap (λ l. l ++ b.var ∷ []) (map_map (λ c. c.var) (with_one b) done)

pub solved_step : (done : List Bind) (b : Bind) → IsSolved done → Ready (term_of done) b → IsSolved (eliminated done (applied done b))
solved_step done b solved ready =
    let new = applied done b in
    let own = own_of done solved in
    let unbound : Away b.var done = away b.var done own ready.free in
    let bound : (k : ℕ) (d : Bind) → k < length done → term_of done (get_or done k d).var ≢ var (get_or done k d).var =
    λ k d within is. away (get_or done k d).var done own is k d within refl in
    let vars : All (λ y. y ≢ b.var) (map (λ c. c.var) done) = All-map (λ y. y ≢ b.var) (λ c. c.var) done unbound in
    record {
      distinct = subst (AllPairs ◌≢◌) (sym (eliminated_vars done new)) (all_pairs_push ◌≢◌ (map (λ c. c.var) done) b.var solved.distinct vars);
      apart = All-push (λ c. Lacks c.var (eliminated done new)) (map (with_one new) done) new
          (All-map (λ c. Lacks c.var (eliminated done new)) (with_one new) done
          (λ k d within. lacks_kept (get_or done k d).var done new (solved.apart k d within)
          (put_absent (get_or done k d).var (term_of done) b.term (λ y o. bound_lacks (get_or done k d).var y done (solved.apart k d within) (bound k d within)))))
          (lacks_new done new ready.apart);
    }

pub solved_closed : (done bs : List Bind) → IsSolved done → GoodFrom (term_of done) bs → IsSolved (closed_from done bs)
solved_closed done [] solved good = solved
solved_closed done (b ∷ bs) solved good =
    solved_closed (eliminated done (applied done b)) bs (solved_step done b solved good.0) (subst (λ u. GoodFrom u bs) (sym (extends done b)) good.1)

none_solved : IsSolved []
none_solved = record {
  distinct = λ i j d below within. absurd (omega arith);
  apart = λ k d within. absurd (omega arith);
}

-- ---- the same form, with each term built once

closed_vars : (done bs : List Bind) → map (λ c. c.var) (closed_from done bs) ≡ map (λ c. c.var) done ++ map (λ c. c.var) bs
closed_vars done [] = sym (append-nil (map (λ c. c.var) done))
closed_vars done (b ∷ bs) =
    closed_vars (eliminated done (applied done b)) bs ∙ ap (λ l. l ++ map (λ c. c.var) bs) (eliminated_vars done (applied done b))
    ∙ append_assoc (map (λ c. c.var) done) (b.var ∷ []) (map (λ c. c.var) bs)

resolved_vars : (u : ℕ → FoTerm) (bs : List Bind) → map (λ c. c.var) (map (resolved_bind u) bs) ≡ map (λ c. c.var) bs
resolved_vars u bs = map_map (λ c. c.var) (resolved_bind u) bs

-- a bound variable stands in no image of the solution
bound_absent : (done : List Bind) → IsSolved done → (k : ℕ) (d : Bind) → k < length done → (t : FoTerm) → occurs_in (get_or done k d).var (put (term_of done) t) ≡ false
bound_absent done solved k d within t =
    let own = own_of done solved in
    let bound : term_of done (get_or done k d).var ≢ var (get_or done k d).var = λ is. away (get_or done k d).var done own is k d within refl in
    put_absent (get_or done k d).var (term_of done) t (λ y o. bound_lacks (get_or done k d).var y done (solved.apart k d within) bound)

-- ---- the answer

map_get : {X Y : Type 0} (f : X → Y) (xs : List X) (i : ℕ) (d : X) (e : Y) → i < length xs → f (get_or xs i d) ≡ get_or (map f xs) i e
map_get f [] i d e h = absurd (omega arith)
map_get f (x ∷ xs) zero d e h = refl
map_get f (x ∷ xs) (suc i) d e h = let within : i < length xs = omega arith in map_get f xs i d e within

unbound : (u : ℕ → FoTerm) (bs : List Bind) (y : ℕ) → u y ≡ var y → Away y bs → solved_from u bs y ≡ var y
unbound u [] y free away_all = free
unbound u (b ∷ bs) y free away_all =
    unbound (extended u b) bs y
    (ap (put (one b.var (put u b.term))) free ∙ put_var (one b.var (put u b.term)) y ∙ one_other b.var y (put u b.term) (unequal b.var y (All-head (λ c. c.var ≢ y) b bs away_all)))
    (All-tail (λ c. c.var ≢ y) b bs away_all)

other_from : (x y : ℕ) → (x == y) ≡ false → x ≢ y
other_from x y e same = let here : (x == x) ≡ false = subst (λ z. (x == z) ≡ false) (sym same) e in let there = equal_true x in cc

look_at : (u : ℕ → FoTerm) (b : Bind) (bs : List Bind) (y : ℕ) (test : Bool) → (b.var == y) ≡ test → u b.var ≡ put u b.term → (Away y (b ∷ bs) → u y ≡ var y)
    → ((Away y bs → u y ≡ var y) → term_of (map (resolved_bind u) bs) y ≡ u y)
    → unwrap_or (if test then Some (put u b.term) else lookup (map (resolved_bind u) bs) y) (var y) ≡ u y
look_at u b bs y true e own free rest = sym own ∙ ap u (equal_from b.var y e)
look_at u b bs y false e own free rest = rest (λ away_rest. free (All-cons (λ c. c.var ≢ y) b bs (other_from b.var y e) away_rest))

look : (u : ℕ → FoTerm) (bs : List Bind) (y : ℕ) → Solves u bs → (Away y bs → u y ≡ var y) → term_of (map (resolved_bind u) bs) y ≡ u y
look u [] y solves free = sym (free (All-nil (λ c. c.var ≢ y)))
look u (b ∷ bs) y solves free = look_at u b bs y (b.var == y) refl solves.0 free (λ more. look u bs y solves.1 more)

pub resolved_is : (bs : List Bind) → Good bs → (y : ℕ) → term_of (resolved bs) y ≡ solution bs y
resolved_is bs good y = look (solution bs) bs y (solution_solves var bs good) (λ away_all. unbound var bs y refl away_all)

pub resolved_solved : (bs : List Bind) → Good bs → IsSolved (resolved bs)
resolved_solved bs good =
    let u = solution bs in
    let form = closed_from [] bs in
    let made = resolved bs in
    let solved : IsSolved form = solved_closed [] bs none_solved good in
    let same : term_of form ≡ u = λ i y. closed_is [] bs y i in
    let vars : map (λ c. c.var) form ≡ map (λ c. c.var) made = closed_vars [] bs ∙ sym (resolved_vars u bs) in
    let absent : All (λ z. (t : FoTerm) → occurs_in z (put u t) ≡ false) (map (λ c. c.var) made) =
    subst (All (λ z. (t : FoTerm) → occurs_in z (put u t) ≡ false)) vars
    (All-map (λ z. (t : FoTerm) → occurs_in z (put u t) ≡ false) (λ c. c.var) form
    (λ k d within t. subst (λ w. occurs_in (get_or form k d).var (put w t) ≡ false) same (bound_absent form solved k d within t))) in
    record {
      distinct = subst (AllPairs ◌≢◌) vars solved.distinct;
      apart = λ k d within j e inside.
          let longer : k < length (map (λ c. c.var) made) = subst (λ n. k < n) (sym (length-map made (λ c. c.var))) within in
          let shorter : j < length bs = subst (λ n. j < n) (length-map bs (resolved_bind u)) inside in
          let var_is : (get_or made k d).var ≡ get_or (map (λ c. c.var) made) k d.var = map_get (λ c. c.var) made k d d.var within in
          let bind_is : get_or made j e ≡ resolved_bind u (get_or bs j e) = sym (map_get (resolved_bind u) bs j e e shorter) in
          subst (λ z. occurs_in z (get_or made j e).term ≡ false) (sym var_is)
          (subst (λ b. occurs_in (get_or (map (λ c. c.var) made) k d.var) b.term ≡ false) (sym bind_is) (absent k d.var longer (get_or bs j e).term));
    }

pub most_general : (es : List (FoTerm × FoTerm)) (bs : List Bind) → Good bs
    → ((v : ℕ → FoTerm) → Unifies v es → Solves v bs) → ((v : ℕ → FoTerm) → Solves v bs → Unifies v es) → IsMostGeneral es (resolved bs)
most_general es bs good keeps back =
    let same : solution bs ≡ term_of (resolved bs) = λ i y. sym (resolved_is bs good y) i in
    record {
      solved = resolved_solved bs good;
      unifies = subst (λ u. Unifies u es) same (back (solution bs) (solution_solves var bs good));
      general = λ v unifies x. subst (λ u. v x ≡ put v (u x)) same (general v bs (keeps v unifies) x);
    }

-- what the bindings stand for, by the solved form
pub solution_is : (bs binds : List Bind) → Good bs → resolved bs ≡ binds → solution bs ≡ term_of binds
solution_is bs binds good is = (λ i y. sym (resolved_is bs good y) i) ∙ ap term_of is
