-- No two terms have one key.
use Rattle.std.proofs.Common.{◌≡◌, ℕ, Bool, true, false, nat_eq, ◌==◌, if◌then◌else◌, List, [], ◌∷◌, ◌++◌, refl, sym, ap, ◌∙◌, arith, append_assoc}
use Rattle.std.specs.Cmp.Lexicographic.{bytes_decides, pointwise}
use Rattle.std.proofs.lemmas.Bool.Decides.{nat_tests}
use Rattle.hol_terms.specs.declared.ty.Ty.{Ty, roll-Ty}
use Rattle.hol_terms.specs.declared.ty.Ty.TheOpen.{Ty-F}
use Rattle.hol_terms.specs.declared.ty.Ty.TheFolds.{fold-roll-Ty}
use Rattle.hol_terms.specs.declared.konst.Konst.{Konst}
use Rattle.hol_terms.specs.declared.konst.Konst.TheVariants as konst
use Rattle.hol_terms.specs.declared.term.Term.{Term, roll-Term}
use Rattle.hol_terms.specs.declared.term.Term.TheOpen.{Term-F}
use Rattle.hol_terms.specs.declared.term.Term.TheFolds.{fold-roll-Term}
use Rattle.hol_terms.specs.Types.{is_ty}
use Rattle.hol_terms.proofs.TyCases as ty_cases
use Rattle.hol_terms.proofs.TyCases.{is_ty_same, is_ty_itself}
use Rattle.hol_terms.proofs.TermCases as term_cases
use Rattle.lambda_lift.specs.Keys.{ty_key, ty_key_step, key, key_step, kind_of, number_of, type_of, is_same}

-- ---- one equation for each constructor
base_key : (a : ℕ) → ty_key (roll-Ty (Ty-F.Base a)) ≡ 0 ∷ a ∷ []
base_key a = fold-roll-Ty (List ℕ) ty_key_step (Ty-F.Base a)

arrow_key : (a b : Ty) → ty_key (roll-Ty (Ty-F.Arrow a b)) ≡ 1 ∷ ty_key a ++ ty_key b
arrow_key a b = fold-roll-Ty (List ℕ) ty_key_step (Ty-F.Arrow a b)

bound_key : (i : ℕ) → key (roll-Term (Term-F.Bound i)) ≡ 0 ∷ i ∷ []
bound_key i = fold-roll-Term (List ℕ) key_step (Term-F.Bound i)

free_key : (n : ℕ) (a : Ty) → key (roll-Term (Term-F.Free n a)) ≡ 1 ∷ n ∷ ty_key a
free_key n a = fold-roll-Term (List ℕ) key_step (Term-F.Free n a)

con_key : (k : Konst) → key (roll-Term (Term-F.Con k)) ≡ 2 ∷ kind_of k ∷ number_of k ∷ ty_key (type_of k)
con_key k = fold-roll-Term (List ℕ) key_step (Term-F.Con k)

app_key : (f x : Term) → key (roll-Term (Term-F.App f x)) ≡ 3 ∷ key f ++ key x
app_key f x = fold-roll-Term (List ℕ) key_step (Term-F.App f x)

lam_key : (a : Ty) (b : Term) → key (roll-Term (Term-F.Lam a b)) ≡ 4 ∷ ty_key a ++ key b
lam_key a b = fold-roll-Term (List ℕ) key_step (Term-F.Lam a b)

-- ---- lists
heads : (m n : ℕ) (r q : List ℕ) → m ∷ r ≡ n ∷ q → m ≡ n
heads m n r q h = cc

tails : (m n : ℕ) (r q : List ℕ) → m ∷ r ≡ n ∷ q → r ≡ q
tails m n r q h = cc

apart : (m n : ℕ) (r q : List ℕ) → nat_eq m n ≡ false → m ∷ r ≡ n ∷ q → ⊥
apart m n r q e h = let same : m ≡ n = heads m n r q h in grind (arith, nat_tests)

-- ---- types
abbrev TyTold : Ty → Type 0
TyTold a = (b : Ty) (r q : List ℕ) → ty_key a ++ r ≡ ty_key b ++ q → (a ≡ b) × (r ≡ q)

base_base : (a b : ℕ) (r q : List ℕ) → (0 ∷ a ∷ []) ++ r ≡ (0 ∷ b ∷ []) ++ q → (a ≡ b) × (r ≡ q)
base_base a b r q h = (heads a b r q (tails 0 0 _ _ h), tails a b r q (tails 0 0 _ _ h))

told_base : (a : ℕ) → TyTold (roll-Ty (Ty-F.Base a))
told_base a b =
    ty_cases.by_cases (λ b. (r q : List ℕ) → ty_key (roll-Ty (Ty-F.Base a)) ++ r ≡ ty_key b ++ q → (roll-Ty (Ty-F.Base a) ≡ b) × (r ≡ q))
    (λ b r q h. let both = base_base a b r q (sym (ap (λ l. l ++ r) (base_key a)) ∙ h ∙ ap (λ l. l ++ q) (base_key b)) in (ap (λ n. roll-Ty (Ty-F.Base n)) both.0, both.1))
    (λ c d _ _ r q h. absurd (apart 0 1 _ _ refl (sym (ap (λ l. l ++ r) (base_key a)) ∙ h ∙ ap (λ l. l ++ q) (arrow_key c d)))) b

told_arrow : (a b : Ty) → TyTold a → TyTold b → TyTold (roll-Ty (Ty-F.Arrow a b))
told_arrow a b ha hb =
    ty_cases.by_cases (λ t. (r q : List ℕ) → ty_key (roll-Ty (Ty-F.Arrow a b)) ++ r ≡ ty_key t ++ q → (roll-Ty (Ty-F.Arrow a b) ≡ t) × (r ≡ q))
    (λ c r q h. absurd (apart 1 0 _ _ refl (sym (ap (λ l. l ++ r) (arrow_key a b)) ∙ h ∙ ap (λ l. l ++ q) (base_key c))))
    (λ c d _ _ r q h.
    let inner : (ty_key a ++ ty_key b) ++ r ≡ (ty_key c ++ ty_key d) ++ q = tails 1 1 _ _ (sym (ap (λ l. l ++ r) (arrow_key a b)) ∙ h ∙ ap (λ l. l ++ q) (arrow_key c d)) in
    let first = ha c (ty_key b ++ r) (ty_key d ++ q) (sym (append_assoc (ty_key a) (ty_key b) r) ∙ inner ∙ append_assoc (ty_key c) (ty_key d) q) in
    let second = hb d r q first.1 in
    ((λ i. roll-Ty (Ty-F.Arrow (first.0 i) (second.0 i))), second.1))

ty_told : (a : Ty) → TyTold a
ty_told = ty_cases.by_cases TyTold told_base told_arrow

pub ty_key_told : (a b : Ty) → ty_key a ≡ ty_key b → a ≡ b
ty_key_told a b h = (ty_told a b [] [] (ap (λ l. l ++ []) h)).0

same_step : (a b : Ty) (c : Bool) → is_ty a b ≡ c → (d : Bool) → pointwise nat_eq (ty_key a) (ty_key b) ≡ d → d ≡ c
same_step a b true e d h = sym h ∙ (bytes_decides (ty_key a) (ty_key b)).1 (ap ty_key (is_ty_same a b e))
same_step a b false e true h = sym (sym e ∙ ap (is_ty a) (sym (ty_key_told a b ((bytes_decides (ty_key a) (ty_key b)).0 h))) ∙ is_ty_itself a)
same_step a b false e false h = refl

-- types have one key exactly where they are one
pub same_ty_key : (a b : Ty) → pointwise nat_eq (ty_key a) (ty_key b) ≡ is_ty a b
same_ty_key a b = same_step a b (is_ty a b) refl (pointwise nat_eq (ty_key a) (ty_key b)) refl

-- ---- constants
rebuilt : ℕ → ℕ → Ty → Konst
rebuilt k n a =
    if k == 0 then konst.Named n else (if k == 1 then konst.Aux n else (if k == 2 then konst.True else (if k == 3 then konst.False else (if k == 4 then konst.Not else
    (if k == 5 then konst.And else (if k == 6 then konst.Or else (if k == 7 then konst.Imp else (if k == 8 then konst.Eq a else (if k == 9 then konst.All a else
    (if k == 10 then konst.Ex a else konst.Eps a))))))))))

rebuilt_is : (k : Konst) → rebuilt (kind_of k) (number_of k) (type_of k) ≡ k
unfolding rebuilt
rebuilt_is (konst.Named n) = refl
rebuilt_is (konst.Aux n) = refl
rebuilt_is konst.True = refl
rebuilt_is konst.False = refl
rebuilt_is konst.Not = refl
rebuilt_is konst.And = refl
rebuilt_is konst.Or = refl
rebuilt_is konst.Imp = refl
rebuilt_is (konst.Eq a) = refl
rebuilt_is (konst.All a) = refl
rebuilt_is (konst.Ex a) = refl
rebuilt_is (konst.Eps a) = refl

pub konst_told : (k c : Konst) (r q : List ℕ) → (2 ∷ kind_of k ∷ number_of k ∷ ty_key (type_of k)) ++ r ≡ (2 ∷ kind_of c ∷ number_of c ∷ ty_key (type_of c)) ++ q → (k ≡ c) × (r ≡ q)
konst_told k c r q h =
    let one = tails 2 2 _ _ h in
    let two = tails (kind_of k) (kind_of c) _ _ one in
    let kind : kind_of k ≡ kind_of c = heads _ _ _ _ one in
    let number : number_of k ≡ number_of c = heads _ _ _ _ two in
    let last = ty_told (type_of k) (type_of c) r q (tails (number_of k) (number_of c) _ _ two) in
    (sym (rebuilt_is k) ∙ (λ i. rebuilt (kind i) (number i) (last.0 i)) ∙ rebuilt_is c, last.1)

-- ---- terms
abbrev Told : Term → Type 0
Told s = (t : Term) (r q : List ℕ) → key s ++ r ≡ key t ++ q → (s ≡ t) × (r ≡ q)

module _ (r q : List ℕ) where
  onto : (s t : List ℕ) (k l : List ℕ) → k ≡ s → l ≡ t → k ++ r ≡ l ++ q → s ++ r ≡ t ++ q
  onto s t k l e d h = sym (ap (λ l. l ++ r) e) ∙ h ∙ ap (λ l. l ++ q) d

told_bound : (i : ℕ) → Told (roll-Term (Term-F.Bound i))
told_bound i =
    term_cases.by_cases (λ t. (r q : List ℕ) → key (roll-Term (Term-F.Bound i)) ++ r ≡ key t ++ q → (roll-Term (Term-F.Bound i) ≡ t) × (r ≡ q))
    (λ j r q h. let both = base_base i j r q (onto r q _ _ _ _ (bound_key i) (bound_key j) h) in (ap (λ n. roll-Term (Term-F.Bound n)) both.0, both.1))
    (λ n a r q h. absurd (apart 0 1 _ _ refl (onto r q _ _ _ _ (bound_key i) (free_key n a) h)))
    (λ k r q h. absurd (apart 0 2 _ _ refl (onto r q _ _ _ _ (bound_key i) (con_key k) h)))
    (λ f x _ _ r q h. absurd (apart 0 3 _ _ refl (onto r q _ _ _ _ (bound_key i) (app_key f x) h)))
    (λ a b _ r q h. absurd (apart 0 4 _ _ refl (onto r q _ _ _ _ (bound_key i) (lam_key a b) h)))

told_free : (n : ℕ) (a : Ty) → Told (roll-Term (Term-F.Free n a))
told_free n a =
    term_cases.by_cases (λ t. (r q : List ℕ) → key (roll-Term (Term-F.Free n a)) ++ r ≡ key t ++ q → (roll-Term (Term-F.Free n a) ≡ t) × (r ≡ q))
    (λ j r q h. absurd (apart 1 0 _ _ refl (onto r q _ _ _ _ (free_key n a) (bound_key j) h)))
    (λ m b r q h.
    let one = tails 1 1 _ _ (onto r q _ _ _ _ (free_key n a) (free_key m b) h) in
    let last = ty_told a b r q (tails n m _ _ one) in
    let number : n ≡ m = heads n m _ _ one in
    ((λ i. roll-Term (Term-F.Free (number i) (last.0 i))), last.1))
    (λ k r q h. absurd (apart 1 2 _ _ refl (onto r q _ _ _ _ (free_key n a) (con_key k) h)))
    (λ f x _ _ r q h. absurd (apart 1 3 _ _ refl (onto r q _ _ _ _ (free_key n a) (app_key f x) h)))
    (λ c b _ r q h. absurd (apart 1 4 _ _ refl (onto r q _ _ _ _ (free_key n a) (lam_key c b) h)))

told_con : (k : Konst) → Told (roll-Term (Term-F.Con k))
told_con k =
    term_cases.by_cases (λ t. (r q : List ℕ) → key (roll-Term (Term-F.Con k)) ++ r ≡ key t ++ q → (roll-Term (Term-F.Con k) ≡ t) × (r ≡ q))
    (λ j r q h. absurd (apart 2 0 _ _ refl (onto r q _ _ _ _ (con_key k) (bound_key j) h)))
    (λ n a r q h. absurd (apart 2 1 _ _ refl (onto r q _ _ _ _ (con_key k) (free_key n a) h)))
    (λ c r q h. let both = konst_told k c r q (onto r q _ _ _ _ (con_key k) (con_key c) h) in (ap (λ c. roll-Term (Term-F.Con c)) both.0, both.1))
    (λ f x _ _ r q h. absurd (apart 2 3 _ _ refl (onto r q _ _ _ _ (con_key k) (app_key f x) h)))
    (λ a b _ r q h. absurd (apart 2 4 _ _ refl (onto r q _ _ _ _ (con_key k) (lam_key a b) h)))

told_app : (f x : Term) → Told f → Told x → Told (roll-Term (Term-F.App f x))
told_app f x hf hx =
    term_cases.by_cases (λ t. (r q : List ℕ) → key (roll-Term (Term-F.App f x)) ++ r ≡ key t ++ q → (roll-Term (Term-F.App f x) ≡ t) × (r ≡ q))
    (λ j r q h. absurd (apart 3 0 _ _ refl (onto r q _ _ _ _ (app_key f x) (bound_key j) h)))
    (λ n a r q h. absurd (apart 3 1 _ _ refl (onto r q _ _ _ _ (app_key f x) (free_key n a) h)))
    (λ k r q h. absurd (apart 3 2 _ _ refl (onto r q _ _ _ _ (app_key f x) (con_key k) h)))
    (λ g y _ _ r q h.
    let inner : (key f ++ key x) ++ r ≡ (key g ++ key y) ++ q = tails 3 3 _ _ (onto r q _ _ _ _ (app_key f x) (app_key g y) h) in
    let first = hf g (key x ++ r) (key y ++ q) (sym (append_assoc (key f) (key x) r) ∙ inner ∙ append_assoc (key g) (key y) q) in
    let second = hx y r q first.1 in
    ((λ i. roll-Term (Term-F.App (first.0 i) (second.0 i))), second.1))
    (λ a b _ r q h. absurd (apart 3 4 _ _ refl (onto r q _ _ _ _ (app_key f x) (lam_key a b) h)))

told_lam : (a : Ty) (b : Term) → Told b → Told (roll-Term (Term-F.Lam a b))
told_lam a b hb =
    term_cases.by_cases (λ t. (r q : List ℕ) → key (roll-Term (Term-F.Lam a b)) ++ r ≡ key t ++ q → (roll-Term (Term-F.Lam a b) ≡ t) × (r ≡ q))
    (λ j r q h. absurd (apart 4 0 _ _ refl (onto r q _ _ _ _ (lam_key a b) (bound_key j) h)))
    (λ n c r q h. absurd (apart 4 1 _ _ refl (onto r q _ _ _ _ (lam_key a b) (free_key n c) h)))
    (λ k r q h. absurd (apart 4 2 _ _ refl (onto r q _ _ _ _ (lam_key a b) (con_key k) h)))
    (λ f x _ _ r q h. absurd (apart 4 3 _ _ refl (onto r q _ _ _ _ (lam_key a b) (app_key f x) h)))
    (λ c d _ r q h.
    let inner : (ty_key a ++ key b) ++ r ≡ (ty_key c ++ key d) ++ q = tails 4 4 _ _ (onto r q _ _ _ _ (lam_key a b) (lam_key c d) h) in
    let first = ty_told a c (key b ++ r) (key d ++ q) (sym (append_assoc (ty_key a) (key b) r) ∙ inner ∙ append_assoc (ty_key c) (key d) q) in
    let second = hb d r q first.1 in
    ((λ i. roll-Term (Term-F.Lam (first.0 i) (second.0 i))), second.1))

pub key_told : (s t : Term) → key s ≡ key t → s ≡ t
key_told s t h = (term_cases.by_cases Told told_bound told_free told_con told_app told_lam s t [] [] (ap (λ l. l ++ []) h)).0

-- ---- the test
pub same_told : (s t : Term) → is_same s t ≡ true → s ≡ t
unfolding is_same
same_told s t h = key_told s t ((bytes_decides (key s) (key t)).0 h)

pub same_itself : (t : Term) → is_same t t ≡ true
unfolding is_same
same_itself t = (bytes_decides (key t) (key t)).1 refl
