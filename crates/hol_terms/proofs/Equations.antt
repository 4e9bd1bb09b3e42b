-- One equation for each definition at each constructor.
use Rattle.std.proofs.Common.{◌≡◌, ℕ, ◌+◌, ◌-◌, Bool, true, false, ◌&&◌, ◌||◌, ◌==◌, if◌then◌else◌, nat_lt, ap, List, ◌∷◌, slice_get}
use Rattle.std.specs.Prelude.{Option}
use Rattle.hol_terms.specs.declared.ty.Ty.{Ty, roll-Ty, out-Ty}
use Rattle.hol_terms.specs.declared.ty.Ty.TheOpen.{Ty-F}
use Rattle.hol_terms.specs.declared.ty.Ty.TheFolds.{fold-roll-Ty}
use Rattle.hol_terms.specs.declared.konst.Konst.{Konst}
use Rattle.hol_terms.specs.declared.sig.Sig.{Sig}
use Rattle.hol_terms.specs.declared.term.Term.{Term, roll-Term}
use Rattle.hol_terms.specs.declared.term.Term.TheOpen.{Term-F}
use Rattle.hol_terms.specs.declared.term.Term.TheFolds.{fold-roll-Term}
use Rattle.hol_terms.specs.Types.{is_ty, is_ty_step, is_base, is_function, ty_fits, ty_fits_step}
use Rattle.hol_terms.specs.Typing.{type_in, type_step, applied, under, checked, konst_type}
use Rattle.hol_terms.specs.Substitution.{closed_under, closed_step, lift, lift_step, put, put_step, abstracted_at, bind_step, put_free, put_free_step, occurs, occurs_step}
use Rattle.hol_terms.specs.Formulas.{aux_free, aux_free_step, no_aux, var_free, var_free_step}

-- ---- types
pub is_ty-base : (a : ℕ) (t : Ty) → is_ty (roll-Ty (Ty-F.Base a)) t ≡ is_base a (out-Ty t)
is_ty-base a t = ap (λ g. g t) (fold-roll-Ty (Ty → Bool) is_ty_step (Ty-F.Base a))

pub is_ty-arrow : (a b t : Ty) → is_ty (roll-Ty (Ty-F.Arrow a b)) t ≡ is_function (is_ty a) (is_ty b) (out-Ty t)
is_ty-arrow a b t = ap (λ g. g t) (fold-roll-Ty (Ty → Bool) is_ty_step (Ty-F.Arrow a b))

pub ty_fits-base : (types a : ℕ) → ty_fits types (roll-Ty (Ty-F.Base a)) ≡ nat_lt a types
ty_fits-base types a = fold-roll-Ty Bool (ty_fits_step types) (Ty-F.Base a)

pub ty_fits-arrow : (types : ℕ) (a b : Ty) → ty_fits types (roll-Ty (Ty-F.Arrow a b)) ≡ (ty_fits types a && ty_fits types b)
ty_fits-arrow types a b = fold-roll-Ty Bool (ty_fits_step types) (Ty-F.Arrow a b)

-- ---- type_in
pub type-bound : (sig : Sig) (i : ℕ) (d : List Ty) → type_in sig (roll-Term (Term-F.Bound i)) d ≡ slice_get d i
type-bound sig i d = ap (λ g. g d) (fold-roll-Term (List Ty → Option Ty) (type_step sig) (Term-F.Bound i))

pub type-free : (sig : Sig) (m : ℕ) (b : Ty) (d : List Ty) → type_in sig (roll-Term (Term-F.Free m b)) d ≡ checked sig.types b b
type-free sig m b d = ap (λ g. g d) (fold-roll-Term (List Ty → Option Ty) (type_step sig) (Term-F.Free m b))

pub type-con : (sig : Sig) (k : Konst) (d : List Ty) → type_in sig (roll-Term (Term-F.Con k)) d ≡ konst_type sig k
type-con sig k d = ap (λ g. g d) (fold-roll-Term (List Ty → Option Ty) (type_step sig) (Term-F.Con k))

pub type-app : (sig : Sig) (f x : Term) (d : List Ty) → type_in sig (roll-Term (Term-F.App f x)) d ≡ applied (type_in sig f d) (type_in sig x d)
type-app sig f x d = ap (λ g. g d) (fold-roll-Term (List Ty → Option Ty) (type_step sig) (Term-F.App f x))

pub type-lam : (sig : Sig) (c : Ty) (t : Term) (d : List Ty) → type_in sig (roll-Term (Term-F.Lam c t)) d ≡ under sig.types c (type_in sig t (c ∷ d))
type-lam sig c t d = ap (λ g. g d) (fold-roll-Term (List Ty → Option Ty) (type_step sig) (Term-F.Lam c t))

-- ---- closed_under
pub closed-bound : (i : ℕ) (n : ℕ) → closed_under (roll-Term (Term-F.Bound i)) n ≡ nat_lt i n
closed-bound i n = ap (λ g. g n) (fold-roll-Term (ℕ → Bool) closed_step (Term-F.Bound i))

pub closed-free : (m : ℕ) (b : Ty) (n : ℕ) → closed_under (roll-Term (Term-F.Free m b)) n ≡ true
closed-free m b n = ap (λ g. g n) (fold-roll-Term (ℕ → Bool) closed_step (Term-F.Free m b))

pub closed-con : (k : Konst) (n : ℕ) → closed_under (roll-Term (Term-F.Con k)) n ≡ true
closed-con k n = ap (λ g. g n) (fold-roll-Term (ℕ → Bool) closed_step (Term-F.Con k))

pub closed-app : (f x : Term) (n : ℕ) → closed_under (roll-Term (Term-F.App f x)) n ≡ (closed_under f n && closed_under x n)
closed-app f x n = ap (λ g. g n) (fold-roll-Term (ℕ → Bool) closed_step (Term-F.App f x))

pub closed-lam : (c : Ty) (t : Term) (n : ℕ) → closed_under (roll-Term (Term-F.Lam c t)) n ≡ closed_under t (n + 1)
closed-lam c t n = ap (λ g. g n) (fold-roll-Term (ℕ → Bool) closed_step (Term-F.Lam c t))

-- ---- lift
pub lift-bound : (by : ℕ) (i : ℕ) (n : ℕ) → lift by (roll-Term (Term-F.Bound i)) n ≡ roll-Term (Term-F.Bound (if nat_lt i n then i else i + by))
lift-bound by i n = ap (λ g. g n) (fold-roll-Term (ℕ → Term) (lift_step by) (Term-F.Bound i))

pub lift-free : (by : ℕ) (m : ℕ) (b : Ty) (n : ℕ) → lift by (roll-Term (Term-F.Free m b)) n ≡ roll-Term (Term-F.Free m b)
lift-free by m b n = ap (λ g. g n) (fold-roll-Term (ℕ → Term) (lift_step by) (Term-F.Free m b))

pub lift-con : (by : ℕ) (k : Konst) (n : ℕ) → lift by (roll-Term (Term-F.Con k)) n ≡ roll-Term (Term-F.Con k)
lift-con by k n = ap (λ g. g n) (fold-roll-Term (ℕ → Term) (lift_step by) (Term-F.Con k))

pub lift-app : (by : ℕ) (f x : Term) (n : ℕ) → lift by (roll-Term (Term-F.App f x)) n ≡ roll-Term (Term-F.App (lift by f n) (lift by x n))
lift-app by f x n = ap (λ g. g n) (fold-roll-Term (ℕ → Term) (lift_step by) (Term-F.App f x))

pub lift-lam : (by : ℕ) (c : Ty) (t : Term) (n : ℕ) → lift by (roll-Term (Term-F.Lam c t)) n ≡ roll-Term (Term-F.Lam c (lift by t (n + 1)))
lift-lam by c t n = ap (λ g. g n) (fold-roll-Term (ℕ → Term) (lift_step by) (Term-F.Lam c t))

-- ---- put
pub put-bound : (u : Term) (i : ℕ) (n : ℕ) → put u (roll-Term (Term-F.Bound i)) n ≡ (if nat_lt i n then roll-Term (Term-F.Bound i) else (if i == n then lift n u 0 else roll-Term (Term-F.Bound (i - 1))))
put-bound u i n = ap (λ g. g n) (fold-roll-Term (ℕ → Term) (put_step u) (Term-F.Bound i))

pub put-free : (u : Term) (m : ℕ) (b : Ty) (n : ℕ) → put u (roll-Term (Term-F.Free m b)) n ≡ roll-Term (Term-F.Free m b)
put-free u m b n = ap (λ g. g n) (fold-roll-Term (ℕ → Term) (put_step u) (Term-F.Free m b))

pub put-con : (u : Term) (k : Konst) (n : ℕ) → put u (roll-Term (Term-F.Con k)) n ≡ roll-Term (Term-F.Con k)
put-con u k n = ap (λ g. g n) (fold-roll-Term (ℕ → Term) (put_step u) (Term-F.Con k))

pub put-app : (u : Term) (f x : Term) (n : ℕ) → put u (roll-Term (Term-F.App f x)) n ≡ roll-Term (Term-F.App (put u f n) (put u x n))
put-app u f x n = ap (λ g. g n) (fold-roll-Term (ℕ → Term) (put_step u) (Term-F.App f x))

pub put-lam : (u : Term) (c : Ty) (t : Term) (n : ℕ) → put u (roll-Term (Term-F.Lam c t)) n ≡ roll-Term (Term-F.Lam c (put u t (n + 1)))
put-lam u c t n = ap (λ g. g n) (fold-roll-Term (ℕ → Term) (put_step u) (Term-F.Lam c t))

-- ---- abstracted_at
pub abstracted-bound : (v : ℕ) (a : Ty) (i : ℕ) (n : ℕ) → abstracted_at v a (roll-Term (Term-F.Bound i)) n ≡ roll-Term (Term-F.Bound (if nat_lt i n then i else i + 1))
abstracted-bound v a i n = ap (λ g. g n) (fold-roll-Term (ℕ → Term) (bind_step v a) (Term-F.Bound i))

pub abstracted-free : (v : ℕ) (a : Ty) (m : ℕ) (b : Ty) (n : ℕ) → abstracted_at v a (roll-Term (Term-F.Free m b)) n ≡ (if m == v && is_ty b a then roll-Term (Term-F.Bound n) else roll-Term (Term-F.Free m b))
abstracted-free v a m b n = ap (λ g. g n) (fold-roll-Term (ℕ → Term) (bind_step v a) (Term-F.Free m b))

pub abstracted-con : (v : ℕ) (a : Ty) (k : Konst) (n : ℕ) → abstracted_at v a (roll-Term (Term-F.Con k)) n ≡ roll-Term (Term-F.Con k)
abstracted-con v a k n = ap (λ g. g n) (fold-roll-Term (ℕ → Term) (bind_step v a) (Term-F.Con k))

pub abstracted-app : (v : ℕ) (a : Ty) (f x : Term) (n : ℕ) → abstracted_at v a (roll-Term (Term-F.App f x)) n ≡ roll-Term (Term-F.App (abstracted_at v a f n) (abstracted_at v a x n))
abstracted-app v a f x n = ap (λ g. g n) (fold-roll-Term (ℕ → Term) (bind_step v a) (Term-F.App f x))

pub abstracted-lam : (v : ℕ) (a : Ty) (c : Ty) (t : Term) (n : ℕ) → abstracted_at v a (roll-Term (Term-F.Lam c t)) n ≡ roll-Term (Term-F.Lam c (abstracted_at v a t (n + 1)))
abstracted-lam v a c t n = ap (λ g. g n) (fold-roll-Term (ℕ → Term) (bind_step v a) (Term-F.Lam c t))

-- ---- put_free
pub put_free-bound : (v : ℕ → Ty → Term) (i : ℕ) → put_free v (roll-Term (Term-F.Bound i)) ≡ roll-Term (Term-F.Bound i)
put_free-bound v i = fold-roll-Term Term (put_free_step v) (Term-F.Bound i)

pub put_free-free : (v : ℕ → Ty → Term) (m : ℕ) (b : Ty) → put_free v (roll-Term (Term-F.Free m b)) ≡ v m b
put_free-free v m b = fold-roll-Term Term (put_free_step v) (Term-F.Free m b)

pub put_free-con : (v : ℕ → Ty → Term) (k : Konst) → put_free v (roll-Term (Term-F.Con k)) ≡ roll-Term (Term-F.Con k)
put_free-con v k = fold-roll-Term Term (put_free_step v) (Term-F.Con k)

pub put_free-app : (v : ℕ → Ty → Term) (f x : Term) → put_free v (roll-Term (Term-F.App f x)) ≡ roll-Term (Term-F.App (put_free v f) (put_free v x))
put_free-app v f x = fold-roll-Term Term (put_free_step v) (Term-F.App f x)

pub put_free-lam : (v : ℕ → Ty → Term) (c : Ty) (t : Term) → put_free v (roll-Term (Term-F.Lam c t)) ≡ roll-Term (Term-F.Lam c (put_free v t))
put_free-lam v c t = fold-roll-Term Term (put_free_step v) (Term-F.Lam c t)

-- ---- occurs
pub occurs-bound : (v : ℕ) (a : Ty) (i : ℕ) → occurs v a (roll-Term (Term-F.Bound i)) ≡ false
occurs-bound v a i = fold-roll-Term Bool (occurs_step v a) (Term-F.Bound i)

pub occurs-free : (v : ℕ) (a : Ty) (m : ℕ) (b : Ty) → occurs v a (roll-Term (Term-F.Free m b)) ≡ (m == v && is_ty b a)
occurs-free v a m b = fold-roll-Term Bool (occurs_step v a) (Term-F.Free m b)

pub occurs-con : (v : ℕ) (a : Ty) (k : Konst) → occurs v a (roll-Term (Term-F.Con k)) ≡ false
occurs-con v a k = fold-roll-Term Bool (occurs_step v a) (Term-F.Con k)

pub occurs-app : (v : ℕ) (a : Ty) (f x : Term) → occurs v a (roll-Term (Term-F.App f x)) ≡ (occurs v a f || occurs v a x)
occurs-app v a f x = fold-roll-Term Bool (occurs_step v a) (Term-F.App f x)

pub occurs-lam : (v : ℕ) (a : Ty) (c : Ty) (t : Term) → occurs v a (roll-Term (Term-F.Lam c t)) ≡ occurs v a t
occurs-lam v a c t = fold-roll-Term Bool (occurs_step v a) (Term-F.Lam c t)

-- ---- aux_free
pub aux_free-bound : (i : ℕ) → aux_free (roll-Term (Term-F.Bound i)) ≡ true
aux_free-bound i = fold-roll-Term Bool aux_free_step (Term-F.Bound i)

pub aux_free-free : (m : ℕ) (b : Ty) → aux_free (roll-Term (Term-F.Free m b)) ≡ true
aux_free-free m b = fold-roll-Term Bool aux_free_step (Term-F.Free m b)

pub aux_free-con : (k : Konst) → aux_free (roll-Term (Term-F.Con k)) ≡ no_aux k
aux_free-con k = fold-roll-Term Bool aux_free_step (Term-F.Con k)

pub aux_free-app : (f x : Term) → aux_free (roll-Term (Term-F.App f x)) ≡ (aux_free f && aux_free x)
aux_free-app f x = fold-roll-Term Bool aux_free_step (Term-F.App f x)

pub aux_free-lam : (c : Ty) (t : Term) → aux_free (roll-Term (Term-F.Lam c t)) ≡ aux_free t
aux_free-lam c t = fold-roll-Term Bool aux_free_step (Term-F.Lam c t)

-- ---- var_free
pub var_free-bound : (i : ℕ) → var_free (roll-Term (Term-F.Bound i)) ≡ true
var_free-bound i = fold-roll-Term Bool var_free_step (Term-F.Bound i)

pub var_free-free : (m : ℕ) (b : Ty) → var_free (roll-Term (Term-F.Free m b)) ≡ false
var_free-free m b = fold-roll-Term Bool var_free_step (Term-F.Free m b)

pub var_free-con : (k : Konst) → var_free (roll-Term (Term-F.Con k)) ≡ true
var_free-con k = fold-roll-Term Bool var_free_step (Term-F.Con k)

pub var_free-app : (f x : Term) → var_free (roll-Term (Term-F.App f x)) ≡ (var_free f && var_free x)
var_free-app f x = fold-roll-Term Bool var_free_step (Term-F.App f x)

pub var_free-lam : (c : Ty) (t : Term) → var_free (roll-Term (Term-F.Lam c t)) ≡ var_free t
var_free-lam c t = fold-roll-Term Bool var_free_step (Term-F.Lam c t)
