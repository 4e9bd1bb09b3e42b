-- Lambdas that are applied to variables, contracted one after another.
use Rattle.std.proofs.Common.{◌≡◌, ℕ, zero, suc, ◌+◌, ◌-◌, ◌<◌, ◌≤◌, Bool, true, false, ◌&&◌, ◌==◌, nat_lt, if◌then◌else◌, List, [], ◌∷◌, map, length, refl, sym, ap, ◌∙◌, arith}
use Rattle.std.proofs.lemmas.Bool.Decides.{nat_tests}
use Rattle.std.proofs.lemmas.List.{length-map}
use Rattle.hol_terms.specs.declared.ty.Ty.{Ty}
use Rattle.hol_terms.specs.declared.konst.Konst.{Konst}
use Rattle.hol_terms.specs.declared.term.Term.{Term, roll-Term, out-Term}
use Rattle.hol_terms.specs.declared.term.Term.TheOpen.{Term-F}
use Rattle.hol_terms.specs.declared.term.Term.TheFolds.{fold-roll-Term}
use Rattle.hol_terms.specs.declared.term.Term.TheViews.{out-roll-Term}
use Rattle.hol_terms.specs.Substitution.{put, instantiated, lift}
use Rattle.hol_terms.proofs.TermCases.{by_cases}
use Rattle.hol_terms.proofs.Equations.{put-bound, put-free, put-con, put-app, put-lam, lift-bound}
use Rattle.lambda_lift.specs.Closing.{variables, lambda_of, renamed, rename_step, lambdas}
use Rattle.lambda_lift.specs.Contractions.{beta_at, beta_here}

abbrev bound : ℕ → Term
bound i = roll-Term (Term-F.Bound i)

abbrev app : Term → Term → Term
app f x = roll-Term (Term-F.App f x)

abbrev lam : Ty → Term → Term
lam a b = roll-Term (Term-F.Lam a b)

-- ---- renaming, one equation for each constructor
pub renamed_bound : (r : ℕ → ℕ) (i d : ℕ) → renamed r (bound i) d ≡ bound (if nat_lt i d then i else d + r (i - d))
renamed_bound r i d = ap (λ g. g d) (fold-roll-Term (ℕ → Term) (rename_step r) (Term-F.Bound i))

pub renamed_free : (r : ℕ → ℕ) (n : ℕ) (a : Ty) (d : ℕ) → renamed r (roll-Term (Term-F.Free n a)) d ≡ roll-Term (Term-F.Free n a)
renamed_free r n a d = ap (λ g. g d) (fold-roll-Term (ℕ → Term) (rename_step r) (Term-F.Free n a))

pub renamed_con : (r : ℕ → ℕ) (k : Konst) (d : ℕ) → renamed r (roll-Term (Term-F.Con k)) d ≡ roll-Term (Term-F.Con k)
renamed_con r k d = ap (λ g. g d) (fold-roll-Term (ℕ → Term) (rename_step r) (Term-F.Con k))

pub renamed_app : (r : ℕ → ℕ) (f x : Term) (d : ℕ) → renamed r (app f x) d ≡ app (renamed r f d) (renamed r x d)
renamed_app r f x d = ap (λ g. g d) (fold-roll-Term (ℕ → Term) (rename_step r) (Term-F.App f x))

pub renamed_lam : (r : ℕ → ℕ) (a : Ty) (b : Term) (d : ℕ) → renamed r (lam a b) d ≡ lam a (renamed r b (d + 1))
renamed_lam r a b d = ap (λ g. g d) (fold-roll-Term (ℕ → Term) (rename_step r) (Term-F.Lam a b))

-- ---- renaming that changes nothing
abbrev Same : Term → Type 0
Same t = (d : ℕ) → renamed (λ v. v) t d ≡ t

same_index : (i d : ℕ) → (if nat_lt i d then i else d + (i - d)) ≡ i
same_index i d = by (nat_lt i d) refl
  where
    by : (b : Bool) → nat_lt i d ≡ b → (if b then i else d + (i - d)) ≡ i
    by true e = refl
    by false e = let above : d ≤ i = grind (arith, nat_tests) in omega arith

pub renamed_same : (t : Term) → Same t
renamed_same =
    by_cases Same (λ i d. renamed_bound (λ v. v) i d ∙ ap bound (same_index i d)) (λ n a d. renamed_free (λ v. v) n a d) (λ k d. renamed_con (λ v. v) k d)
    (λ f x hf hx d. renamed_app (λ v. v) f x d ∙ (λ i. app (hf d i) (hx d i))) (λ a b hb d. renamed_lam (λ v. v) a b d ∙ ap (lam a) (hb (d + 1)))

-- ---- a variable put into a renamed term
abbrev pub shifted : ℕ → ℕ → ℕ → ℕ
shifted k w v = if nat_lt v k then v else (if v == k then w + k else v - 1)

module _ (k w : ℕ) where
  abbrev index_put : ℕ → ℕ → Term
  index_put j n = if nat_lt j n then bound j else (if j == n then lift n (bound w) 0 else bound (j - 1))

  put_index : (j n : ℕ) → put (bound w) (bound j) n ≡ index_put j n
  put_index j n = put-bound (bound w) j n

  lifted_index : (n : ℕ) → lift n (bound w) 0 ≡ bound (w + n)
  lifted_index n = lift-bound n w 0 ∙ ap bound (by (nat_lt w 0) refl)
    where
      by : (b : Bool) → nat_lt w 0 ≡ b → (if b then w else w + n) ≡ w + n
      by true e = absurd (let impossible : w < 0 = grind (arith, nat_tests) in omega arith)
      by false e = refl

  below_index : (i d n : ℕ) → i < n → index_put i n ≡ bound i
  below_index i d n h = let lt : nat_lt i n ≡ true = grind (arith, nat_tests) in ap (λ b. if b then bound i else (if i == n then lift n (bound w) 0 else bound (i - 1))) lt

  here_index : (n : ℕ) → index_put n n ≡ bound (w + n)
  here_index n =
      let lt : nat_lt n n ≡ false = grind (arith, nat_tests) in
      let eq : (n == n) ≡ true = grind (arith, nat_tests) in
      (λ i. if lt i then bound n else (if eq i then lift n (bound w) 0 else bound (n - 1))) ∙ lifted_index n

  above_index : (j n : ℕ) → n < j → index_put j n ≡ bound (j - 1)
  above_index j n h =
      let lt : nat_lt j n ≡ false = grind (arith, nat_tests) in
      let eq : (j == n) ≡ false = grind (arith, nat_tests) in
      (λ i. if lt i then bound j else (if eq i then lift n (bound w) 0 else bound (j - 1)))

  -- a renamed variable
  variable_put : (d v : ℕ) → index_put (d + v) (d + k) ≡ bound (d + shifted k w v)
  variable_put d v = by (nat_lt v k) refl
    where
      at_or_above : (b : Bool) → (v == k) ≡ b → nat_lt v k ≡ false → index_put (d + v) (d + k) ≡ bound (d + (if b then w + k else v - 1))
      at_or_above true e l =
          let same : v ≡ k = grind (arith, nat_tests) in
          ap (λ u. index_put (d + u) (d + k)) same ∙ here_index (d + k) ∙ ap bound (omega arith)
      at_or_above false e l =
          let more : k < v = grind (arith, nat_tests) in
          above_index (d + v) (d + k) (omega arith) ∙ ap bound (omega arith)

      by : (b : Bool) → nat_lt v k ≡ b → index_put (d + v) (d + k) ≡ bound (d + (if b then v else (if v == k then w + k else v - 1)))
      by true e = let less : v < k = grind (arith, nat_tests) in below_index (d + v) d (d + k) (omega arith)
      by false e = at_or_above (v == k) refl e

  module _ (r : ℕ → ℕ) where
    abbrev Put : Term → Type 0
    Put t = (d : ℕ) → put (bound w) (renamed r t d) (d + k) ≡ renamed (λ v. shifted k w (r v)) t d

    put_bound : (i : ℕ) → Put (bound i)
    put_bound i d = ap (λ t. put (bound w) t (d + k)) (renamed_bound r i d) ∙ by (nat_lt i d) refl ∙ sym (renamed_bound (λ v. shifted k w (r v)) i d)
      where
        by : (b : Bool) → nat_lt i d ≡ b → put (bound w) (bound (if b then i else d + r (i - d))) (d + k) ≡ bound (if b then i else d + shifted k w (r (i - d)))
        by true e = let less : i < d = grind (arith, nat_tests) in put_index i (d + k) ∙ below_index i d (d + k) (omega arith)
        by false e = put_index (d + r (i - d)) (d + k) ∙ variable_put d (r (i - d))

    put_lam : (a : Ty) (b : Term) → Put b → Put (lam a b)
    put_lam a b hb d =
        let next : (d + 1) + k ≡ (d + k) + 1 = omega arith in
        ap (λ t. put (bound w) t (d + k)) (renamed_lam r a b d) ∙ put-lam (bound w) a (renamed r b (d + 1)) (d + k)
        ∙ ap (λ n. lam a (put (bound w) (renamed r b (d + 1)) n)) (sym next) ∙ ap (lam a) (hb (d + 1)) ∙ sym (renamed_lam (λ v. shifted k w (r v)) a b d)

    pub put_renamed : (t : Term) → Put t
    put_renamed =
        by_cases Put put_bound
        (λ n a d. ap (λ t. put (bound w) t (d + k)) (renamed_free r n a d) ∙ put-free (bound w) n a (d + k) ∙ sym (renamed_free (λ v. shifted k w (r v)) n a d))
        (λ c d. ap (λ t. put (bound w) t (d + k)) (renamed_con r c d) ∙ put-con (bound w) c (d + k) ∙ sym (renamed_con (λ v. shifted k w (r v)) c d))
        (λ f x hf hx d. ap (λ t. put (bound w) t (d + k)) (renamed_app r f x d) ∙ put-app (bound w) (renamed r f d) (renamed r x d) (d + k) ∙ (λ i. app (hf d i) (hx d i)) ∙ sym (renamed_app (λ v. shifted k w (r v)) f x d))
        put_lam

-- ---- through lambdas
through : (u : Term) (types : List Ty) (t : Term) (n : ℕ) → put u (lambdas types t) n ≡ lambdas types (put u t (n + length types))
through u [] t n = let same : n ≡ n + 0 = omega arith in ap (put u t) same
through u (a ∷ types) t n =
    let next : (n + 1) + length types ≡ n + suc (length types) = omega arith in
    put-lam u a (lambdas types t) n ∙ ap (lam a) (through u types t (n + 1) ∙ ap (λ m. lambdas types (put u t m)) next)

-- ---- chains
abbrev pub chain : Term → List ℕ → Term
chain t [] = t
chain t (v ∷ vs) = chain (beta_here (app t (bound v)) (out-Term (app t (bound v)))) vs

beta_lam : (a : Ty) (b u : Term) → beta_here (app (lam a b) u) (out-Term (app (lam a b) u)) ≡ instantiated b u
beta_lam a b u = ap (beta_here (app (lam a b) u)) (out-roll-Term (Term-F.App (lam a b) u)) ∙ ap (beta_at (app (lam a b) u) u) (out-roll-Term (Term-F.Lam a b))

module _ (p : ℕ → Bool) where
  smaller_step : (n v : ℕ) (b : Bool) → p n ≡ b → (c : Bool) → (v == n) ≡ c → v < suc n → p v ≡ true → (v < n → length (variables p v) < length (variables p n)) →
      length (variables p v) < length (if b then n ∷ variables p n else variables p n)
  smaller_step n v true en true ev h e rest =
      let same : v ≡ n = grind (arith, nat_tests) in let all : length (variables p v) ≡ length (variables p n) = ap (λ u. length (variables p u)) same in omega arith
  smaller_step n v true en false ev h e rest =
      let less : v < n = grind (arith, nat_tests) in let more : length (variables p v) < length (variables p n) = rest less in omega arith
  smaller_step n v false en true ev h e rest = let same : v ≡ n = grind (arith, nat_tests) in absurd (let t : true ≡ false = sym e ∙ ap p same ∙ en in cc)
  smaller_step n v false en false ev h e rest = let less : v < n = grind (arith, nat_tests) in rest less

  smaller : (n v : ℕ) → v < n → p v ≡ true → length (variables p v) < length (variables p n)
  smaller zero v h e = absurd (omega arith)
  smaller (suc n) v h e = smaller_step n v (p n) refl (v == n) refl h e (λ less. smaller n v less e)

  pub taken_place : (m v : ℕ) → nat_lt v m ≡ true → p v ≡ true → lambda_of p m v ≡ length (variables p v)
  taken_place m v l b = (λ i. if l i && b i then length (variables p v) else v + length (variables p m))

  pub beyond_place : (m v : ℕ) → (nat_lt v m && p v) ≡ false → lambda_of p m v ≡ v + length (variables p m)
  beyond_place m v h = ap (λ b. if b then length (variables p v) else v + length (variables p m)) h

  passed_over : (b c : Bool) → c ≡ false → (b && c) ≡ false
  passed_over true c h = h
  passed_over false c h = refl

  module _ (n : ℕ) where
    abbrev rest : ℕ
    rest = length (variables p n)

    shifted_below : (j : ℕ) → j < rest → shifted rest n j ≡ j
    shifted_below j h = let lt : nat_lt j rest ≡ true = grind (arith, nat_tests) in ap (λ b. if b then j else (if j == rest then n + rest else j - 1)) lt

    shifted_here : shifted rest n rest ≡ n + rest
    shifted_here =
        let lt : nat_lt rest rest ≡ false = grind (arith, nat_tests) in
        let eq : (rest == rest) ≡ true = grind (arith, nat_tests) in
        (λ i. if lt i then rest else (if eq i then n + rest else rest - 1))

    shifted_above : (j : ℕ) → rest < j → shifted rest n j ≡ j - 1
    shifted_above j h =
        let lt : nat_lt j rest ≡ false = grind (arith, nat_tests) in
        let eq : (j == rest) ≡ false = grind (arith, nat_tests) in
        (λ i. if lt i then j else (if eq i then n + rest else j - 1))

    module _ (e : p n ≡ true) where
      first : length (variables p (suc n)) ≡ suc rest
      first = ap (λ b. length (if b then n ∷ variables p n else variables p n)) e

      beyond : (v : ℕ) → (nat_lt v (suc n) && p v) ≡ false → (nat_lt v n && p v) ≡ false → shifted rest n (lambda_of p (suc n) v) ≡ lambda_of p n v
      beyond v more less =
          let at : lambda_of p (suc n) v ≡ v + suc rest = beyond_place (suc n) v more ∙ ap (λ k. v + k) first in
          ap (shifted rest n) at ∙ shifted_above (v + suc rest) (omega arith) ∙ (let down : (v + suc rest) - 1 ≡ v + rest = omega arith in down) ∙ sym (beyond_place n v less)

      place_step : (v : ℕ) (l : Bool) → nat_lt v n ≡ l → (b : Bool) → p v ≡ b → (c : Bool) → (v == n) ≡ c → shifted rest n (lambda_of p (suc n) v) ≡ lambda_of p n v
      place_step v true el true eb c ec =
          let within : v < n = grind (arith, nat_tests) in
          let more : nat_lt v (suc n) ≡ true = grind (arith, nat_tests) in
          let fewer : length (variables p v) < rest = smaller n v within eb in
          ap (shifted rest n) (taken_place (suc n) v more eb) ∙ shifted_below (length (variables p v)) fewer ∙ sym (taken_place n v el eb)
      place_step v true el false eb c ec = beyond v (passed_over (nat_lt v (suc n)) (p v) eb) (passed_over (nat_lt v n) (p v) eb)
      place_step v false el b eb true ec =
          let same : v ≡ n = grind (arith, nat_tests) in
          let more : nat_lt n (suc n) ≡ true = grind (arith, nat_tests) in
          let past : nat_lt n n ≡ false = grind (arith, nat_tests) in
          ap (λ u. shifted rest n (lambda_of p (suc n) u)) same ∙ ap (shifted rest n) (taken_place (suc n) n more e) ∙ shifted_here
          ∙ sym (beyond_place n n (ap (λ t. t && p n) past)) ∙ ap (lambda_of p n) (sym same)
      place_step v false el b eb false ec =
          let more : nat_lt v (suc n) ≡ false = grind (arith, nat_tests) in
          beyond v (ap (λ t. t && p v) more) (ap (λ t. t && p v) el)

      -- the places once the outermost variable is put in
      next_place : (v : ℕ) → shifted rest n (lambda_of p (suc n) v) ≡ lambda_of p n v
      next_place v = place_step v (nat_lt v n) refl (p v) refl (v == n) refl

    module _ (e : p n ≡ false) where
      none : length (variables p (suc n)) ≡ rest
      none = ap (λ b. length (if b then n ∷ variables p n else variables p n)) e

      skip_step : (v : ℕ) (l : Bool) → nat_lt v n ≡ l → (c : Bool) → (v == n) ≡ c → lambda_of p (suc n) v ≡ lambda_of p n v
      skip_step v true el c ec =
          let more : nat_lt v (suc n) ≡ true = grind (arith, nat_tests) in
          (λ i. if more i && p v then length (variables p v) else v + none i) ∙ sym (λ i. if el i && p v then length (variables p v) else v + rest)
      skip_step v false el true ec =
          let same : v ≡ n = grind (arith, nat_tests) in
          beyond_place (suc n) v (passed_over (nat_lt v (suc n)) (p v) (ap p same ∙ e)) ∙ ap (λ k. v + k) none ∙ sym (beyond_place n v (ap (λ t. t && p v) el))
      skip_step v false el false ec =
          let more : nat_lt v (suc n) ≡ false = grind (arith, nat_tests) in
          beyond_place (suc n) v (ap (λ t. t && p v) more) ∙ ap (λ k. v + k) none ∙ sym (beyond_place n v (ap (λ t. t && p v) el))

      skipped_place : (v : ℕ) → lambda_of p (suc n) v ≡ lambda_of p n v
      skipped_place v = skip_step v (nat_lt v n) refl (v == n) refl

  module _ (of : ℕ → Ty) (t : Term) where
    abbrev closed : ℕ → Term
    closed n = lambdas (map of (variables p n)) (renamed (lambda_of p n) t 0)

    put_in : (n : ℕ) → p n ≡ true → instantiated (lambdas (map of (variables p n)) (renamed (lambda_of p (suc n)) t 0)) (bound n) ≡ closed n
    put_in n e =
        let types = map of (variables p n) in
        let sized : 0 + length types ≡ 0 + rest n = ap (λ k. 0 + k) (length-map (variables p n) of) in
        through (bound n) types (renamed (lambda_of p (suc n)) t 0) 0 ∙ ap (λ k. lambdas types (put (bound n) (renamed (lambda_of p (suc n)) t 0) k)) sized
        ∙ ap (lambdas types) (put_renamed (rest n) n (lambda_of p (suc n)) t 0) ∙ (λ i. lambdas types (renamed (λ v. next_place n e v i) t 0))

    chain_step : (n : ℕ) (b : Bool) → p n ≡ b → chain (closed n) (variables p n) ≡ t →
        chain (lambdas (map of (if b then n ∷ variables p n else variables p n)) (renamed (lambda_of p (suc n)) t 0)) (if b then n ∷ variables p n else variables p n) ≡ t
    chain_step n true e rest = ap (λ u. chain u (variables p n)) (beta_lam (of n) (lambdas (map of (variables p n)) (renamed (lambda_of p (suc n)) t 0)) (bound n) ∙ put_in n e) ∙ rest
    chain_step n false e rest = (λ i. chain (lambdas (map of (variables p n)) (renamed (λ v. skipped_place n e v i) t 0)) (variables p n)) ∙ rest

    no_place : (v : ℕ) → lambda_of p 0 v ≡ v
    no_place v =
        let none : nat_lt v 0 ≡ false = grind (arith, nat_tests) in
        beyond_place 0 v (ap (λ b. b && p v) none) ∙ (let same : v + 0 ≡ v = omega arith in same)

    -- lambdas over the variables that pass, applied to these and contracted, give the term back
    pub chain_is : (n : ℕ) → chain (closed n) (variables p n) ≡ t
    chain_is zero = (λ i. renamed (λ v. no_place v i) t 0) ∙ renamed_same t 0
    chain_is (suc n) = chain_step n (p n) refl (chain_is n)

  -- the same for lambdas of any types, as many
  module _ (t : Term) where
    nowhere : (v : ℕ) → lambda_of p 0 v ≡ v
    nowhere v =
        let none : nat_lt v 0 ≡ false = grind (arith, nat_tests) in
        beyond_place 0 v (ap (λ b. b && p v) none) ∙ (let same : v + 0 ≡ v = omega arith in same)

    any_put : (n : ℕ) (types : List Ty) → p n ≡ true → length types ≡ rest n → instantiated (lambdas types (renamed (lambda_of p (suc n)) t 0)) (bound n) ≡ lambdas types (renamed (lambda_of p n) t 0)
    any_put n types e sized =
        through (bound n) types (renamed (lambda_of p (suc n)) t 0) 0 ∙ ap (λ k. lambdas types (put (bound n) (renamed (lambda_of p (suc n)) t 0) (0 + k))) sized
        ∙ ap (lambdas types) (put_renamed (rest n) n (lambda_of p (suc n)) t 0) ∙ (λ i. lambdas types (renamed (λ v. next_place n e v i) t 0))

    any_step : (n : ℕ) (b : Bool) → p n ≡ b → ((types : List Ty) → length types ≡ length (variables p n) → chain (lambdas types (renamed (lambda_of p n) t 0)) (variables p n) ≡ t) →
        (types : List Ty) → length types ≡ length (if b then n ∷ variables p n else variables p n) →
        chain (lambdas types (renamed (lambda_of p (suc n)) t 0)) (if b then n ∷ variables p n else variables p n) ≡ t
    any_step n true e more [] sized = absurd (let h : 0 ≡ suc (rest n) = sized in omega arith)
    any_step n true e more (a ∷ types) sized =
        let as_many : length types ≡ rest n = omega (arith, sized) in
        ap (λ u. chain u (variables p n)) (beta_lam a (lambdas types (renamed (lambda_of p (suc n)) t 0)) (bound n) ∙ any_put n types e as_many) ∙ more types as_many
    any_step n false e more types sized = (λ i. chain (lambdas types (renamed (λ v. skipped_place n e v i) t 0)) (variables p n)) ∙ more types sized

    pub chain_types : (n : ℕ) (types : List Ty) → length types ≡ length (variables p n) → chain (lambdas types (renamed (lambda_of p n) t 0)) (variables p n) ≡ t
    chain_types zero [] sized = (λ i. renamed (λ v. nowhere v i) t 0) ∙ renamed_same t 0
    chain_types zero (a ∷ types) sized = absurd (let h : suc (length types) ≡ 0 = sized in omega arith)
    chain_types (suc n) types sized = any_step n (p n) refl (chain_types n) types sized
