-- What terms are made of, and what the tests say of it.
use Rattle.std.proofs.Common.{◌≡◌, ℕ, Bool, true, false, refl, sym, ◌∙◌, ap, subst}
use Rattle.hol_terms.specs.declared.ty.Ty.{Ty}
use Rattle.hol_terms.specs.declared.konst.Konst.{Konst}
use Rattle.hol_terms.specs.declared.konst.Konst.TheVariants as konst
use Rattle.hol_terms.specs.declared.term.Term.{Term, roll-Term, out-Term}
use Rattle.hol_terms.specs.declared.term.Term.TheOpen.{Term-F}
use Rattle.hol_terms.specs.declared.term.Term.TheFolds.{fold-roll-Term}
use Rattle.hol_terms.specs.declared.term.Term.TheViews.{out-roll-Term, roll-out-Term}
use Rattle.kernel_rules.specs.Connectives.{constant, apply, lambda, falsum, neg, conj, disj, imp, equal, all, some, right_of, right_at, function_of, function_at, left_of, left_at, body_of, body_at, head_ty, head_ty_step, konst_ty, constant_at, one_at, two_at, is_and, is_or, is_implies, is_equals, is_not, is_every, is_exists, is_no, is_conj, is_disj, is_imp, is_equal, is_neg, is_all, is_some_of, is_falsum, is_lambda, lambda_at, is_redex, redex_at}

-- ---- taking apart

pub right_of-apply : (f x : Term) → right_of (apply f x) ≡ x
unfolding right_of
right_of-apply f x = ap (right_at (apply f x)) (out-roll-Term (Term-F.App f x))

pub function_of-apply : (f x : Term) → function_of (apply f x) ≡ f
unfolding function_of
function_of-apply f x = ap (function_at (apply f x)) (out-roll-Term (Term-F.App f x))

pub left_of-two : (h a b : Term) → left_of (apply (apply h a) b) ≡ a
unfolding left_of
left_of-two h a b = ap (left_at (apply (apply h a) b)) (out-roll-Term (Term-F.App (apply h a) b)) ∙ ap (right_at (apply (apply h a) b)) (out-roll-Term (Term-F.App h a))

pub body_of-lambda : (a : Ty) (b : Term) → body_of (lambda a b) ≡ b
unfolding body_of
body_of-lambda a b = ap (body_at (lambda a b)) (out-roll-Term (Term-F.Lam a b))

pub head_ty-apply : (f x : Term) → head_ty (apply f x) ≡ head_ty f
unfolding head_ty
head_ty-apply f x = fold-roll-Term Ty head_ty_step (Term-F.App f x)

pub head_ty-constant : (k : Konst) → head_ty (constant k) ≡ konst_ty k
unfolding head_ty
head_ty-constant k = fold-roll-Term Ty head_ty_step (Term-F.Con k)

pub head_ty-one : (k : Konst) (x : Term) → head_ty (apply (constant k) x) ≡ konst_ty k
head_ty-one k x = head_ty-apply (constant k) x ∙ head_ty-constant k

pub head_ty-two : (k : Konst) (x y : Term) → head_ty (apply (apply (constant k) x) y) ≡ konst_ty k
head_ty-two k x y = head_ty-apply (apply (constant k) x) y ∙ head_ty-one k x

-- ---- the tests of what is made

two_at-two : (p : Konst → Bool) (k : Konst) (a b : Term) → two_at p (out-Term (apply (apply (constant k) a) b)) ≡ p k
two_at-two p k a b = ap (two_at p) (out-roll-Term (Term-F.App (apply (constant k) a) b)) ∙ ap (one_at p) (out-roll-Term (Term-F.App (constant k) a)) ∙ ap (constant_at p) (out-roll-Term (Term-F.Con k))

one_at-one : (p : Konst → Bool) (k : Konst) (a : Term) → one_at p (out-Term (apply (constant k) a)) ≡ p k
one_at-one p k a = ap (one_at p) (out-roll-Term (Term-F.App (constant k) a)) ∙ ap (constant_at p) (out-roll-Term (Term-F.Con k))

pub is_conj-conj : (a b : Term) → is_conj (conj a b) ≡ true
unfolding is_conj
is_conj-conj a b = two_at-two is_and konst.And a b

pub is_disj-disj : (a b : Term) → is_disj (disj a b) ≡ true
unfolding is_disj
is_disj-disj a b = two_at-two is_or konst.Or a b

pub is_imp-imp : (a b : Term) → is_imp (imp a b) ≡ true
unfolding is_imp
is_imp-imp a b = two_at-two is_implies konst.Imp a b

pub is_equal-equal : (c : Ty) (a b : Term) → is_equal (equal c a b) ≡ true
unfolding is_equal
is_equal-equal c a b = two_at-two is_equals (konst.Eq c) a b

pub is_neg-neg : (a : Term) → is_neg (neg a) ≡ true
unfolding is_neg
is_neg-neg a = one_at-one is_not konst.Not a

pub is_all-all : (c : Ty) (f : Term) → is_all (all c f) ≡ true
unfolding is_all
is_all-all c f = one_at-one is_every (konst.All c) f

pub is_some_of-some : (c : Ty) (f : Term) → is_some_of (some c f) ≡ true
unfolding is_some_of
is_some_of-some c f = one_at-one is_exists (konst.Ex c) f

pub is_falsum-falsum : is_falsum falsum ≡ true
unfolding is_falsum
is_falsum-falsum = ap (constant_at is_no) (out-roll-Term (Term-F.Con konst.False))

pub is_lambda-lambda : (a : Ty) (b : Term) → is_lambda (lambda a b) ≡ true
unfolding is_lambda
is_lambda-lambda a b = ap lambda_at (out-roll-Term (Term-F.Lam a b))

pub is_lambda-apply : (f x : Term) → is_lambda (apply f x) ≡ false
unfolding is_lambda
is_lambda-apply f x = ap lambda_at (out-roll-Term (Term-F.App f x))

pub is_lambda-constant : (k : Konst) → is_lambda (constant k) ≡ false
unfolding is_lambda
is_lambda-constant k = ap lambda_at (out-roll-Term (Term-F.Con k))

pub is_redex-redex : (a : Ty) (b u : Term) → is_redex (apply (lambda a b) u) ≡ true
unfolding is_redex
is_redex-redex a b u = ap redex_at (out-roll-Term (Term-F.App (lambda a b) u)) ∙ ap lambda_at (out-roll-Term (Term-F.Lam a b))

-- ---- what passes a test is made so

rolled : (t : Term) (y : Term-F Term) → out-Term t ≡ y → t ≡ roll-Term y
rolled t y e = sym (roll-out-Term t) ∙ ap roll-Term e

constant_back : (p : Konst → Bool) (t : Term) (y : Term-F Term) → out-Term t ≡ y → constant_at p y ≡ true → (k : Konst) × ((t ≡ constant k) × (p k ≡ true))
constant_back p t (Term-F.Con k) e h = (k, (rolled t (Term-F.Con k) e, h))
constant_back p t (Term-F.Bound i) e h = cc
constant_back p t (Term-F.Free n a) e h = cc
constant_back p t (Term-F.App f x) e h = cc
constant_back p t (Term-F.Lam a b) e h = cc

one_back : (p : Konst → Bool) (t : Term) (y : Term-F Term) → out-Term t ≡ y → one_at p y ≡ true → (k : Konst) × ((x : Term) × ((t ≡ apply (constant k) x) × (p k ≡ true)))
one_back p t (Term-F.App f x) e h =
    let head = constant_back p f (out-Term f) refl h in (head.0, (x, (rolled t (Term-F.App f x) e ∙ ap (λ z. apply z x) head.1.0, head.1.1)))
one_back p t (Term-F.Bound i) e h = cc
one_back p t (Term-F.Free n a) e h = cc
one_back p t (Term-F.Con k) e h = cc
one_back p t (Term-F.Lam a b) e h = cc

two_back : (p : Konst → Bool) (t : Term) (y : Term-F Term) → out-Term t ≡ y → two_at p y ≡ true → (k : Konst) × ((a : Term) × ((b : Term) × ((t ≡ apply (apply (constant k) a) b) × (p k ≡ true))))
two_back p t (Term-F.App f x) e h =
    let half = one_back p f (out-Term f) refl h in (half.0, (half.1.0, (x, (rolled t (Term-F.App f x) e ∙ ap (λ z. apply z x) half.1.1.0, half.1.1.1))))
two_back p t (Term-F.Bound i) e h = cc
two_back p t (Term-F.Free n a) e h = cc
two_back p t (Term-F.Con k) e h = cc
two_back p t (Term-F.Lam a b) e h = cc

own_sides : (t h a b : Term) → t ≡ apply (apply h a) b → t ≡ apply (apply h (left_of t)) (right_of t)
own_sides t h a b e =
    let l : a ≡ left_of t = sym (ap left_of e ∙ left_of-two h a b) in
    let r : b ≡ right_of t = sym (ap right_of e ∙ right_of-apply (apply h a) b) in
    e ∙ (λ i. apply (apply h (l i)) (r i))

own_side : (t h a : Term) → t ≡ apply h a → t ≡ apply h (right_of t)
own_side t h a e = let r : a ≡ right_of t = sym (ap right_of e ∙ right_of-apply h a) in e ∙ ap (apply h) r

two_is : (p : Konst → Bool) (k : Konst) → ((c : Konst) → p c ≡ true → c ≡ k) → (t : Term) → two_at p (out-Term t) ≡ true → t ≡ apply (apply (constant k) (left_of t)) (right_of t)
two_is p k only t h =
    let made = two_back p t (out-Term t) refl h in
    own_sides t (constant k) made.1.0 made.1.1.0 (made.1.1.1.0 ∙ ap (λ c. apply (apply (constant c) made.1.0) made.1.1.0) (only made.0 made.1.1.1.1))

only_and : (c : Konst) → is_and c ≡ true → c ≡ konst.And
only_and konst.And h = refl
only_and (konst.Named n) h = cc
only_and (konst.Aux n) h = cc
only_and konst.True h = cc
only_and konst.False h = cc
only_and konst.Not h = cc
only_and konst.Or h = cc
only_and konst.Imp h = cc
only_and (konst.Eq a) h = cc
only_and (konst.All a) h = cc
only_and (konst.Ex a) h = cc
only_and (konst.Eps a) h = cc

only_or : (c : Konst) → is_or c ≡ true → c ≡ konst.Or
only_or konst.Or h = refl
only_or (konst.Named n) h = cc
only_or (konst.Aux n) h = cc
only_or konst.True h = cc
only_or konst.False h = cc
only_or konst.Not h = cc
only_or konst.And h = cc
only_or konst.Imp h = cc
only_or (konst.Eq a) h = cc
only_or (konst.All a) h = cc
only_or (konst.Ex a) h = cc
only_or (konst.Eps a) h = cc

only_implies : (c : Konst) → is_implies c ≡ true → c ≡ konst.Imp
only_implies konst.Imp h = refl
only_implies (konst.Named n) h = cc
only_implies (konst.Aux n) h = cc
only_implies konst.True h = cc
only_implies konst.False h = cc
only_implies konst.Not h = cc
only_implies konst.And h = cc
only_implies konst.Or h = cc
only_implies (konst.Eq a) h = cc
only_implies (konst.All a) h = cc
only_implies (konst.Ex a) h = cc
only_implies (konst.Eps a) h = cc

only_not : (c : Konst) → is_not c ≡ true → c ≡ konst.Not
only_not konst.Not h = refl
only_not (konst.Named n) h = cc
only_not (konst.Aux n) h = cc
only_not konst.True h = cc
only_not konst.False h = cc
only_not konst.And h = cc
only_not konst.Or h = cc
only_not konst.Imp h = cc
only_not (konst.Eq a) h = cc
only_not (konst.All a) h = cc
only_not (konst.Ex a) h = cc
only_not (konst.Eps a) h = cc

only_no : (c : Konst) → is_no c ≡ true → c ≡ konst.False
only_no konst.False h = refl
only_no (konst.Named n) h = cc
only_no (konst.Aux n) h = cc
only_no konst.True h = cc
only_no konst.Not h = cc
only_no konst.And h = cc
only_no konst.Or h = cc
only_no konst.Imp h = cc
only_no (konst.Eq a) h = cc
only_no (konst.All a) h = cc
only_no (konst.Ex a) h = cc
only_no (konst.Eps a) h = cc

only_equals : (c : Konst) → is_equals c ≡ true → c ≡ konst.Eq (konst_ty c)
only_equals (konst.Eq a) h = refl
only_equals (konst.Named n) h = cc
only_equals (konst.Aux n) h = cc
only_equals konst.True h = cc
only_equals konst.False h = cc
only_equals konst.Not h = cc
only_equals konst.And h = cc
only_equals konst.Or h = cc
only_equals konst.Imp h = cc
only_equals (konst.All a) h = cc
only_equals (konst.Ex a) h = cc
only_equals (konst.Eps a) h = cc

only_every : (c : Konst) → is_every c ≡ true → c ≡ konst.All (konst_ty c)
only_every (konst.All a) h = refl
only_every (konst.Named n) h = cc
only_every (konst.Aux n) h = cc
only_every konst.True h = cc
only_every konst.False h = cc
only_every konst.Not h = cc
only_every konst.And h = cc
only_every konst.Or h = cc
only_every konst.Imp h = cc
only_every (konst.Eq a) h = cc
only_every (konst.Ex a) h = cc
only_every (konst.Eps a) h = cc

only_exists : (c : Konst) → is_exists c ≡ true → c ≡ konst.Ex (konst_ty c)
only_exists (konst.Ex a) h = refl
only_exists (konst.Named n) h = cc
only_exists (konst.Aux n) h = cc
only_exists konst.True h = cc
only_exists konst.False h = cc
only_exists konst.Not h = cc
only_exists konst.And h = cc
only_exists konst.Or h = cc
only_exists konst.Imp h = cc
only_exists (konst.Eq a) h = cc
only_exists (konst.All a) h = cc
only_exists (konst.Eps a) h = cc

pub conj_is : (t : Term) → is_conj t ≡ true → t ≡ conj (left_of t) (right_of t)
unfolding is_conj
conj_is t h = two_is is_and konst.And only_and t h

pub disj_is : (t : Term) → is_disj t ≡ true → t ≡ disj (left_of t) (right_of t)
unfolding is_disj
disj_is t h = two_is is_or konst.Or only_or t h

pub imp_is : (t : Term) → is_imp t ≡ true → t ≡ imp (left_of t) (right_of t)
unfolding is_imp
imp_is t h = two_is is_implies konst.Imp only_implies t h

pub equal_is : (t : Term) → is_equal t ≡ true → t ≡ equal (head_ty t) (left_of t) (right_of t)
unfolding is_equal
equal_is t h =
    let made = two_back is_equals t (out-Term t) refl h in
    let whole = made.1.1.1.0 in
    let ty : konst_ty made.0 ≡ head_ty t = sym (ap head_ty whole ∙ head_ty-two made.0 made.1.0 made.1.1.0) in
    own_sides t (constant (konst.Eq (head_ty t))) made.1.0 made.1.1.0 (whole ∙ ap (λ c. apply (apply (constant c) made.1.0) made.1.1.0) (only_equals made.0 made.1.1.1.1 ∙ ap (λ z. konst.Eq z) ty))

pub neg_is : (t : Term) → is_neg t ≡ true → t ≡ neg (right_of t)
unfolding is_neg
neg_is t h =
    let made = one_back is_not t (out-Term t) refl h in own_side t (constant konst.Not) made.1.0 (made.1.1.0 ∙ ap (λ c. apply (constant c) made.1.0) (only_not made.0 made.1.1.1))

pub all_is : (t : Term) → is_all t ≡ true → t ≡ all (head_ty t) (right_of t)
unfolding is_all
all_is t h =
    let made = one_back is_every t (out-Term t) refl h in
    let ty : konst_ty made.0 ≡ head_ty t = sym (ap head_ty made.1.1.0 ∙ head_ty-one made.0 made.1.0) in
    own_side t (constant (konst.All (head_ty t))) made.1.0 (made.1.1.0 ∙ ap (λ c. apply (constant c) made.1.0) (only_every made.0 made.1.1.1 ∙ ap (λ z. konst.All z) ty))

pub some_is : (t : Term) → is_some_of t ≡ true → t ≡ some (head_ty t) (right_of t)
unfolding is_some_of
some_is t h =
    let made = one_back is_exists t (out-Term t) refl h in
    let ty : konst_ty made.0 ≡ head_ty t = sym (ap head_ty made.1.1.0 ∙ head_ty-one made.0 made.1.0) in
    own_side t (constant (konst.Ex (head_ty t))) made.1.0 (made.1.1.0 ∙ ap (λ c. apply (constant c) made.1.0) (only_exists made.0 made.1.1.1 ∙ ap (λ z. konst.Ex z) ty))

pub falsum_is : (t : Term) → is_falsum t ≡ true → t ≡ falsum
unfolding is_falsum
falsum_is t h = let made = constant_back is_no t (out-Term t) refl h in made.1.0 ∙ ap constant (only_no made.0 made.1.1)

lambda_back : (t : Term) (y : Term-F Term) → out-Term t ≡ y → lambda_at y ≡ true → (a : Ty) × ((b : Term) × (t ≡ lambda a b))
lambda_back t (Term-F.Lam a b) e h = (a, (b, rolled t (Term-F.Lam a b) e))
lambda_back t (Term-F.Bound i) e h = cc
lambda_back t (Term-F.Free n a) e h = cc
lambda_back t (Term-F.Con k) e h = cc
lambda_back t (Term-F.App f x) e h = cc

pub lambda_is : (t : Term) → is_lambda t ≡ true → (a : Ty) × (t ≡ lambda a (body_of t))
unfolding is_lambda
lambda_is t h =
    let made = lambda_back t (out-Term t) refl h in
    let own : made.1.0 ≡ body_of t = sym (ap body_of made.1.1 ∙ body_of-lambda made.0 made.1.0) in
    (made.0, made.1.1 ∙ ap (lambda made.0) own)

redex_back : (t : Term) (y : Term-F Term) → out-Term t ≡ y → redex_at y ≡ true → (f : Term) × ((x : Term) × ((t ≡ apply f x) × (lambda_at (out-Term f) ≡ true)))
redex_back t (Term-F.App f x) e h = (f, (x, (rolled t (Term-F.App f x) e, h)))
redex_back t (Term-F.Bound i) e h = cc
redex_back t (Term-F.Free n a) e h = cc
redex_back t (Term-F.Con k) e h = cc
redex_back t (Term-F.Lam a b) e h = cc

pub redex_is : (t : Term) → is_redex t ≡ true → (t ≡ apply (function_of t) (right_of t)) × (is_lambda (function_of t) ≡ true)
unfolding is_redex is_lambda
redex_is t h =
    let made = redex_back t (out-Term t) refl h in
    let f : made.0 ≡ function_of t = sym (ap function_of made.1.1.0 ∙ function_of-apply made.0 made.1.0) in
    let x : made.1.0 ≡ right_of t = sym (ap right_of made.1.1.0 ∙ right_of-apply made.0 made.1.0) in
    (made.1.1.0 ∙ (λ i. apply (f i) (x i)), subst (λ z. lambda_at (out-Term z) ≡ true) f made.1.1.1)
