-- Laws of bindings in the order in which they were made.
use Rattle.std.proofs.Common.{◌≡◌, ◌≢◌, ℕ, Bool, true, false, ◌==◌, if◌then◌else◌, IsTrue, List, [], ◌∷◌, ◌++◌, refl, sym, ap, subst, ◌∙◌}
use Rattle.fo_terms.specs.declared.term.FoTerm.{FoTerm}
use Rattle.fo_terms.specs.declared.term.FoTerm.TheVariants.{outs-Var, outs-Fun}
use Rattle.fo_unify.specs.declared.subst.Bind.{Bind}
use Rattle.fo_terms.specs.Substitution.{var, fun, put, occurs_in}
use Rattle.fo_unify.specs.inner.Triangle.{one, extended, solved_from, solution, IsRoot, Ready, GoodFrom, Good, stepped_at, stepped, walked, Solves}
use Rattle.fo_terms.proofs.Heads.{fun_no_var, var_same}
use Rattle.fo_terms.proofs.Induction.{by_cases}
use Rattle.fo_terms.proofs.Substitution.{put_var, put_put, put_itself, put_agree, put_absent, occurs_var, equal_true, equal_from, unequal}

-- ---- the substitution of one variable

pub one_here : (x : ℕ) (t : FoTerm) → one x t x ≡ t
one_here x t = ap (λ b. if b then t else var x) (equal_true x)

pub one_other : (x y : ℕ) (t : FoTerm) → (x == y) ≡ false → one x t y ≡ var y
one_other x y t h = ap (λ b. if b then t else var y) h

one_on : (x y : ℕ) (r t : FoTerm) (b : Bool) → (x == y) ≡ b → occurs_in x t ≡ false → IsTrue (occurs_in y t) → one x r y ≡ var y
one_on x y r t true e absent o = let same : occurs_in y t ≡ false = subst (λ z. occurs_in z t ≡ false) (equal_from x y e) absent in cc
one_on x y r t false e absent o = one_other x y r e

-- it leaves a term without that variable
pub put_one_absent : (x : ℕ) (r t : FoTerm) → occurs_in x t ≡ false → put (one x r) t ≡ t
put_one_absent x r t absent = put_agree (one x r) var t (λ y o. one_on x y r t (x == y) refl absent o) ∙ put_itself t

absent_on : (z x y : ℕ) (r t : FoTerm) (b : Bool) → (x == y) ≡ b → occurs_in z r ≡ false → (occurs_in z t ≡ false) → IsTrue (occurs_in y t) → occurs_in z (one x r y) ≡ false
absent_on z x y r t true e lacks absent o = subst (λ b. occurs_in z (if b then r else var y) ≡ false) (sym e) lacks
absent_on z x y r t false e lacks absent o =
    let other : z ≢ y = λ same. (let here : occurs_in y t ≡ false = subst (λ w. occurs_in w t ≡ false) same absent in cc) in
    ap (occurs_in z) (one_other x y r e) ∙ occurs_var z y ∙ unequal z y other

-- a variable in neither term is not in the result
pub absent_one : (z x : ℕ) (r t : FoTerm) → occurs_in z r ≡ false → occurs_in z t ≡ false → occurs_in z (put (one x r) t) ≡ false
absent_one z x r t lacks absent = put_absent z (one x r) t (λ y o. absent_on z x y r t (x == y) refl lacks absent o)

gone_on : (x y : ℕ) (r : FoTerm) (b : Bool) → (x == y) ≡ b → occurs_in x r ≡ false → occurs_in x (one x r y) ≡ false
gone_on x y r true e lacks = subst (λ b. occurs_in x (if b then r else var y) ≡ false) (sym e) lacks
gone_on x y r false e lacks = ap (occurs_in x) (one_other x y r e) ∙ occurs_var x y ∙ e

-- the variable itself is gone
pub gone_one : (x : ℕ) (r t : FoTerm) → occurs_in x r ≡ false → occurs_in x (put (one x r) t) ≡ false
gone_one x r t lacks = put_absent x (one x r) t (λ y o. gone_on x y r (x == y) refl lacks)

-- ---- the solution solves its bindings

pub factor : (u : ℕ → FoTerm) (bs : List Bind) → (w : ℕ → FoTerm) × ((y : ℕ) → solved_from u bs y ≡ put w (u y))
factor u [] = (var, λ y. sym (put_itself (u y)))
factor u (b ∷ bs) =
    let rest = factor (extended u b) bs in
    (λ z. put rest.0 (one b.var (put u b.term) z), λ y. rest.1 y ∙ put_put rest.0 (one b.var (put u b.term)) (u y))

-- the new variable and the new term have one image
extends_var : (u : ℕ → FoTerm) (b : Bind) → Ready u b → extended u b b.var ≡ put u b.term
extends_var u b r = ap (put (one b.var (put u b.term))) r.free ∙ put_var (one b.var (put u b.term)) b.var ∙ one_here b.var (put u b.term)

pub extends_term : (u : ℕ → FoTerm) (b : Bind) → Ready u b → put (extended u b) b.term ≡ put u b.term
extends_term u b r = sym (put_put (one b.var (put u b.term)) u b.term) ∙ put_one_absent b.var (put u b.term) (put u b.term) r.apart

pub solution_solves : (u : ℕ → FoTerm) (bs : List Bind) → GoodFrom u bs → Solves (solved_from u bs) bs
solution_solves u [] good = tt
solution_solves u (b ∷ bs) good =
    let w = solved_from (extended u b) bs in
    let rest = factor (extended u b) bs in
    let left : w b.var ≡ put rest.0 (put u b.term) = rest.1 b.var ∙ ap (put rest.0) (extends_var u b good.0) in
    let whole : w ≡ (λ y. put rest.0 (extended u b y)) = λ i y. rest.1 y i in
    let right : put w b.term ≡ put rest.0 (put u b.term) = ap (λ g. put g b.term) whole ∙ sym (put_put rest.0 (extended u b) b.term) ∙ ap (put rest.0) (extends_term u b good.0) in
    (left ∙ sym right, solution_solves (extended u b) bs good.1)

-- ---- each solution of the bindings goes through it

through_one : (v : ℕ → FoTerm) (x y : ℕ) (r : FoTerm) (b : Bool) → (x == y) ≡ b → v x ≡ put v r → put v (one x r y) ≡ v y
through_one v x y r true e h = ap (λ b. put v (if b then r else var y)) e ∙ sym h ∙ ap v (equal_from x y e)
through_one v x y r false e h = ap (put v) (one_other x y r e) ∙ put_var v y

pub solution_general : (v u : ℕ → FoTerm) (bs : List Bind) → ((y : ℕ) → v y ≡ put v (u y)) → Solves v bs → (y : ℕ) → v y ≡ put v (solved_from u bs y)
solution_general v u [] h solves = h
solution_general v u (b ∷ bs) h solves =
    let x = b.var in
    let r = put u b.term in
    let whole : v ≡ (λ y. put v (u y)) = λ i y. h y i in
    let image : v x ≡ put v r = solves.0 ∙ ap (λ g. put g b.term) whole ∙ sym (put_put v u b.term) in
    let same : (λ z. put v (one x r z)) ≡ v = λ i z. through_one v x z r (x == z) refl image i in
    solution_general v (extended u b) bs (λ y. h y ∙ sym (ap (λ g. put g (u y)) same) ∙ sym (put_put v (one x r) (u y))) solves.1

pub general : (v : ℕ → FoTerm) (bs : List Bind) → Solves v bs → (y : ℕ) → v y ≡ put v (solution bs y)
general v bs solves = solution_general v var bs (λ y. sym (put_var v y)) solves

pub put_general : (v : ℕ → FoTerm) (bs : List Bind) → Solves v bs → (t : FoTerm) → put v t ≡ put v (put (solution bs) t)
put_general v bs solves t =
    let whole : v ≡ (λ y. put v (solution bs y)) = λ i y. general v bs solves y i in
    ap (λ g. put g t) whole ∙ sym (put_put v (solution bs) t)

-- ---- one more binding

pub solves_push : (v : ℕ → FoTerm) (bs : List Bind) (b : Bind) → Solves v bs → v b.var ≡ put v b.term → Solves v (bs ++ b ∷ [])
solves_push v [] b solves h = (h, tt)
solves_push v (c ∷ bs) b solves h = (solves.0, solves_push v bs b solves.1 h)

pub solves_front : (v : ℕ → FoTerm) (bs : List Bind) (b : Bind) → Solves v (bs ++ b ∷ []) → Solves v bs × (v b.var ≡ put v b.term)
solves_front v [] b solves = (tt, solves.0)
solves_front v (c ∷ bs) b solves = let rest = solves_front v bs b solves.1 in ((solves.0, rest.0), rest.1)

pub good_push : (u : ℕ → FoTerm) (bs : List Bind) (b : Bind) → GoodFrom u bs → Ready (solved_from u bs) b → GoodFrom u (bs ++ b ∷ [])
good_push u [] b good ready = (ready, tt)
good_push u (c ∷ bs) b good ready = (good.0, good_push (extended u c) bs b good.1 ready)

-- ---- a walk

pub step_var : (b : Bind) (y : ℕ) → stepped b (var y) ≡ one b.var b.term y
step_var b y = ap (stepped_at b (var y)) (outs-Var y)

pub step_fun : (b : Bind) (f : ℕ) (args : List FoTerm) → stepped b (fun f args) ≡ fun f args
step_fun b f args = ap (stepped_at b (fun f args)) (outs-Fun f args)

step_value : (v : ℕ → FoTerm) (b : Bind) → v b.var ≡ put v b.term → (t : FoTerm) → put v (stepped b t) ≡ put v t
step_value v b h = by_cases (λ t. put v (stepped b t) ≡ put v t)
    (λ y. ap (put v) (step_var b y) ∙ through_one v b.var y b.term (b.var == y) refl h ∙ sym (put_var v y))
    (λ f args each. ap (put v) (step_fun b f args))

pub walk_fun : (bs : List Bind) (f : ℕ) (args : List FoTerm) → walked bs (fun f args) ≡ fun f args
walk_fun [] f args = refl
walk_fun (b ∷ bs) f args = ap (walked bs) (step_fun b f args) ∙ walk_fun bs f args

pub walk_value : (v : ℕ → FoTerm) (bs : List Bind) (t : FoTerm) → Solves v bs → put v (walked bs t) ≡ put v t
walk_value v [] t solves = refl
walk_value v (b ∷ bs) t solves = walk_value v bs (stepped b t) solves.1 ∙ step_value v b solves.0 t

root_kept : (u : ℕ → FoTerm) (b : Bind) (t : FoTerm) → (t ≢ var b.var) → IsRoot u t → IsRoot (extended u b) t
root_kept u b t other root y e =
    let apart : b.var ≢ y = λ same. other (e ∙ ap var (sym same)) in
    ap (put (one b.var (put u b.term))) (root y e) ∙ put_var (one b.var (put u b.term)) y ∙ one_other b.var y (put u b.term) (unequal b.var y apart)

ready_other : (u : ℕ → FoTerm) (b : Bind) → Ready u b → b.term ≢ var b.var
ready_other u b ready e =
    let itself : put u b.term ≡ var b.var = ap (put u) e ∙ put_var u b.var ∙ ready.free in
    let here : (b.var == b.var) ≡ false = sym (occurs_var b.var b.var) ∙ sym (ap (occurs_in b.var) itself) ∙ ready.apart in
    let there = equal_true b.var in
    cc

step_root_var : (u : ℕ → FoTerm) (b : Bind) (y : ℕ) (test : Bool) → (b.var == y) ≡ test → Ready u b → IsRoot u (var y) → IsRoot (extended u b) (one b.var b.term y)
step_root_var u b y true e ready root = subst (λ t. IsRoot (extended u b) t) (sym (ap (λ c. if c then b.term else var y) e)) (root_kept u b b.term (ready_other u b ready) ready.root)
step_root_var u b y false e ready root =
    let other : var y ≢ var b.var = λ same. (let there = equal_true b.var in let here : y ≡ b.var = var_same y b.var same in let test : (b.var == b.var) ≡ false = subst (λ z. (b.var == z) ≡ false) here e in cc) in
    subst (λ t. IsRoot (extended u b) t) (sym (one_other b.var y b.term e)) (root_kept u b (var y) other root)

step_root : (u : ℕ → FoTerm) (b : Bind) → Ready u b → (t : FoTerm) → IsRoot u t → IsRoot (extended u b) (stepped b t)
step_root u b ready = by_cases (λ t. IsRoot u t → IsRoot (extended u b) (stepped b t))
    (λ y root. subst (λ t. IsRoot (extended u b) t) (sym (step_var b y)) (step_root_var u b y (b.var == y) refl ready root))
    (λ f args each root y e. absurd (fun_no_var f y args (sym (step_fun b f args) ∙ e)))

pub walk_root_from : (u : ℕ → FoTerm) (bs : List Bind) (t : FoTerm) → GoodFrom u bs → IsRoot u t → IsRoot (solved_from u bs) (walked bs t)
walk_root_from u [] t good root = root
walk_root_from u (b ∷ bs) t good root = walk_root_from (extended u b) bs (stepped b t) good.1 (step_root u b good.0 t root)

-- what a walk ends at is bound no more
pub walk_root : (bs : List Bind) (t : FoTerm) → Good bs → IsRoot (solution bs) (walked bs t)
walk_root bs t good = walk_root_from var bs t good (λ y e. refl)

-- and stands for the same term
pub walk_same : (bs : List Bind) (t : FoTerm) → Good bs → put (solution bs) (walked bs t) ≡ put (solution bs) t
walk_same bs t good = walk_value (solution bs) bs t (solution_solves var bs good)
