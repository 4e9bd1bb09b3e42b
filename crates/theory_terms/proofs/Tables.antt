-- The table of function types: one number a type, and one type a number.
use Rattle.std.proofs.Common.{◌≡◌, ℕ, ◌+◌, ◌-◌, ◌<◌, ◌≤◌, Bool, true, false, cond, nat_lt, nat_eq, List, [], ◌∷◌, ◌++◌, map, length, get_or, refl, sym, ap, subst, ◌∙◌, arith, rules, suc, zero}
use Rattle.std.specs.Prelude.{Option, Some, None, position, slice_get}
use Rattle.std.specs.Option.{option_map}
use Rattle.std.specs.Ordering.{is_eq, nat_cmp, ordering_then}
use Rattle.std.specs.declared.cmp.Ordering.{Ordering}
use Rattle.std.specs.declared.cmp.Ordering.TheVariants.{Less, Equal, Greater}
use Rattle.std.proofs.lemmas.Bool.Decides.{nat_tests}
use Rattle.std.proofs.lemmas.Grind.{common_steps}
use Rattle.std.proofs.lemmas.Option.{slice_get-map, slice_get_within, slice_get-get_or}
use Rattle.theory_terms.proofs.KeyPlaces.{position_last, or_else}
use Rattle.std.proofs.lemmas.List.{length-map, length-append, map-append}
use Rattle.std.proofs.lemmas.List.Quantifiers.{position-Some}
use Rattle.hol_terms.specs.declared.ty.Ty.{Ty, roll-Ty, out-Ty}
use Rattle.hol_terms.specs.declared.ty.Ty.TheFolds.{the_lemmas}
use Rattle.hol_terms.proofs.TypedParts.{function_parts}
use Rattle.hol_terms.specs.declared.ty.Ty.TheOpen.{Ty-F}
use Rattle.hol_terms.specs.declared.ty.Ty.TheVariants as types
use Rattle.hol_terms.specs.Types.{function_ty, is_ty}
use Rattle.hol_terms.proofs.TyCases.{by_cases, is_ty_itself, is_ty_same}
use Rattle.std.specs.Prelude.{if◌then◌else◌, Result, Ok, Err, IfOk, OnOk, OnErr}
use Rattle.text_kit.specs.declared.NoMemory.{NoMemory}
use Rattle.theory_terms.specs.declared.numbered.Numbered.{Numbered}
use Rattle.theory_terms.specs.declared.fault.TheoryKind.TheVariants as kind
use Rattle.theory_terms.specs.Answers.{Good, Bad}
use Rattle.theory_terms.specs.Meanings.{target}
use Rattle.theory_terms.specs.Numbers.{type_at, IsNumbered, Keeps}
use Rattle.theory_terms.specs.inner.Tables.{function_of, AreFunctions, compared, AreApart}

-- ---- one key a comparison

ranks_same : (a b : ℕ) (o : Ordering) → o ≡ nat_cmp a b → is_eq o ≡ true → a ≡ b
ranks_same a b o e h = grind (arith, nat_tests)

first_same : (a b : ℕ) (o p : Ordering) → o ≡ nat_cmp a b → is_eq (ordering_then o p) ≡ true → (a ≡ b) × (is_eq p ≡ true)
first_same a b Less p e h = cc
first_same a b Equal p e h = (ranks_same a b Equal e refl, h)
first_same a b Greater p e h = cc

pub same_sides : (s t : ℕ × ℕ) → is_eq (compared s t) ≡ true → s ≡ t
same_sides s t h =
    let one = first_same s.0 t.0 (nat_cmp s.0 t.0) (nat_cmp s.1 t.1) refl h in
    let a : s.0 ≡ t.0 = one.0 in
    let b : s.1 ≡ t.1 = ranks_same s.1 t.1 (nat_cmp s.1 t.1) refl one.1 in
    λ i. (a i, b i)

-- ---- numbers

low : (table : List Ty) (n : ℕ) → n < 4294967296 → type_at table n ≡ Some (roll-Ty (Ty-F.Base n))
low table n h = grind (arith, nat_tests)

pub high : (table : List Ty) (n : ℕ) → 4294967296 ≤ n → type_at table n ≡ slice_get table (n - 4294967296)
high table n h = grind (arith, nat_tests)

kept_at : (table more : List Ty) (i : ℕ) (a : Ty) → slice_get table i ≡ Some a → slice_get (table ++ more) i ≡ Some a
kept_at [] more i a h = cc
kept_at (x ∷ xs) more zero a h = h
kept_at (x ∷ xs) more (suc i) a h = kept_at xs more i a h

last_at : (table : List Ty) (a : Ty) → slice_get (table ++ a ∷ []) (length table) ≡ Some a
last_at [] a = refl
last_at (x ∷ xs) a = last_at xs a

kept : (table more : List Ty) (n : ℕ) (a : Ty) (b : Bool) → nat_lt n 4294967296 ≡ b → type_at table n ≡ Some a → type_at (table ++ more) n ≡ Some a
kept table more n a true e h = rw e (sym (ap (λ b. cond b (Some (roll-Ty (Ty-F.Base n))) (slice_get table (n - 4294967296))) e) ∙ h)
kept table more n a false e h = rw e (kept_at table more (n - 4294967296) a (sym (ap (λ b. cond b (Some (roll-Ty (Ty-F.Base n))) (slice_get table (n - 4294967296))) e) ∙ h))

pub keeps_more : (table more : List Ty) → Keeps table (table ++ more)
keeps_more table more n a h = kept table more n a (nat_lt n 4294967296) refl h

-- ---- sides

sides_parts : (o p : Option Ty) (a b : Ty) → function_of o p ≡ Some (function_ty a b) → (o ≡ Some a) × (p ≡ Some b)
sides_parts None p a b h = cc
sides_parts (Some x) None a b h = cc
sides_parts (Some x) (Some y) a b h =
    let e : function_ty x y ≡ function_ty a b = cc in
    let parts = function_parts x y a b e in
    (λ i. Some (parts.0 i), λ i. Some (parts.1 i))

no_base : (o p : Option Ty) (k : ℕ) → function_of o p ≡ Some (roll-Ty (Ty-F.Base k)) → ⊥
no_base None p k h = cc
no_base (Some x) None k h = cc
no_base (Some x) (Some y) k h =
    let e : function_ty x y ≡ roll-Ty (Ty-F.Base k) = cc in
    let out : out-Ty (function_ty x y) ≡ out-Ty (roll-Ty (Ty-F.Base k)) = ap out-Ty e in
    search (rules, the_lemmas, out)

keeps_sides : (old new : List Ty) → Keeps old new → (s : ℕ × ℕ) (a : Ty) → Some a ≡ function_of (type_at old s.0) (type_at old s.1) → Some a ≡ function_of (type_at new s.0) (type_at new s.1)
keeps_sides old new keeps s a h = by (type_at old s.0) (type_at old s.1) refl refl h
  where
    by : (o p : Option Ty) → type_at old s.0 ≡ o → type_at old s.1 ≡ p → Some a ≡ function_of o p → Some a ≡ function_of (type_at new s.0) (type_at new s.1)
    by None p e f h = absurd (let q : Some a ≡ None = h in cc)
    by (Some x) None e f h = absurd (let q : Some a ≡ None = h in cc)
    by (Some x) (Some y) e f h = h ∙ sym (ap (λ o. function_of o (type_at new s.1)) (keeps s.0 x e) ∙ ap (function_of (Some x)) (keeps s.1 y f))

functions_keep : (old new : List Ty) → Keeps old new → (done : List Ty) (sides : List (ℕ × ℕ)) →
    map (λ a. Some a) done ≡ map (λ s. function_of (type_at old s.0) (type_at old s.1)) sides → map (λ a. Some a) done ≡ map (λ s. function_of (type_at new s.0) (type_at new s.1)) sides
functions_keep old new keeps [] [] h = refl
functions_keep old new keeps [] (s ∷ sides) h = cc
functions_keep old new keeps (a ∷ done) [] h = cc
functions_keep old new keeps (a ∷ done) (s ∷ sides) h =
    let first : Some a ≡ function_of (type_at old s.0) (type_at old s.1) = cc in
    let rest : map (λ a. Some a) done ≡ map (λ s. function_of (type_at old s.0) (type_at old s.1)) sides = cc in
    let one = keeps_sides old new keeps s a first in
    let two = functions_keep old new keeps done sides rest in
    λ i. one i ∷ two i

-- a function more
pub functions_more : (table : List Ty) (sides : List (ℕ × ℕ)) (s : ℕ × ℕ) (a b : Ty) → AreFunctions table sides → type_at table s.0 ≡ Some a → type_at table s.1 ≡ Some b →
    AreFunctions (table ++ function_ty a b ∷ []) (sides ++ s ∷ [])
functions_more table sides s a b h from to =
    let new = table ++ function_ty a b ∷ [] in
    let keeps = keeps_more table (function_ty a b ∷ []) in
    let front = functions_keep table new keeps table sides h in
    let one : Some (function_ty a b) ≡ function_of (type_at new s.0) (type_at new s.1) =
    sym (ap (λ o. function_of o (type_at new s.1)) (keeps s.0 a from) ∙ ap (function_of (Some a)) (keeps s.1 b to)) in
    map-append (λ a. Some a) table (function_ty a b ∷ []) ∙ (λ i. front i ++ one i ∷ []) ∙ sym (map-append (λ s. function_of (type_at new s.0) (type_at new s.1)) sides (s ∷ []))

module _ (table : List Ty) (sides : List (ℕ × ℕ)) (functions : AreFunctions table sides) where
  pub as_many : length table ≡ length sides
  as_many = sym (length-map table (λ a. Some a)) ∙ ap length functions ∙ length-map sides (λ s. function_of (type_at table s.0) (type_at table s.1))

  at_place : (i : ℕ) → option_map (λ a. Some a) (slice_get table i) ≡ option_map (λ s. function_of (type_at table s.0) (type_at table s.1)) (slice_get sides i)
  at_place i = sym (slice_get-map (λ a. Some a) table i) ∙ ap (λ l. slice_get l i) functions ∙ slice_get-map (λ s. function_of (type_at table s.0) (type_at table s.1)) sides i

  -- a type of the table has sides
  pub has_sides : (i : ℕ) (a : Ty) → slice_get table i ≡ Some a → (s : ℕ × ℕ) × (slice_get sides i ≡ Some s) × (function_of (type_at table s.0) (type_at table s.1) ≡ Some a)
  has_sides i a h = by (slice_get sides i) refl (sym (ap (option_map (λ a. Some a)) h) ∙ at_place i)
    where
      by : (o : Option (ℕ × ℕ)) → slice_get sides i ≡ o → Some (Some a) ≡ option_map (λ s. function_of (type_at table s.0) (type_at table s.1)) o →
          (s : ℕ × ℕ) × (slice_get sides i ≡ Some s) × (function_of (type_at table s.0) (type_at table s.1) ≡ Some a)
      by None e g = absurd (let q : Some (Some a) ≡ None = g in cc)
      by (Some s) e g = (s, e, (let q : Some (Some a) ≡ Some (function_of (type_at table s.0) (type_at table s.1)) = g in cc))

  -- and sides have a type
  pub has_type : (i : ℕ) (s : ℕ × ℕ) (a b c : Ty) → slice_get sides i ≡ Some s → type_at table s.0 ≡ Some a → type_at table s.1 ≡ Some b → slice_get table i ≡ Some c → c ≡ function_ty a b
  has_type i s a b c h from to e =
      let g : Some (Some c) ≡ Some (function_of (type_at table s.0) (type_at table s.1)) = sym (ap (option_map (λ a. Some a)) e) ∙ at_place i ∙ ap (option_map (λ s. function_of (type_at table s.0) (type_at table s.1))) h in
      let f : Some c ≡ function_of (type_at table s.0) (type_at table s.1) = cc in
      let d : Some c ≡ Some (function_ty a b) = f ∙ ap (λ o. function_of o (type_at table s.1)) from ∙ ap (function_of (Some a)) to in cc

  -- the number of a function type is one of the table's, and has the numbers of its sides
  pub goes_between : (n : ℕ) (a b : Ty) → type_at table n ≡ Some (function_ty a b) →
      (4294967296 ≤ n) × ((s : ℕ × ℕ) × (slice_get sides (n - 4294967296) ≡ Some s) × (type_at table s.0 ≡ Some a) × (type_at table s.1 ≡ Some b))
  goes_between n a b h = by (nat_lt n 4294967296) refl
    where
      by : (c : Bool) → nat_lt n 4294967296 ≡ c → (4294967296 ≤ n) × ((s : ℕ × ℕ) × (slice_get sides (n - 4294967296) ≡ Some s) × (type_at table s.0 ≡ Some a) × (type_at table s.1 ≡ Some b))
      by true e =
          let base : Some (roll-Ty (Ty-F.Base n)) ≡ Some (function_ty a b) = sym (ap (λ b. cond b (Some (roll-Ty (Ty-F.Base n))) (slice_get table (n - 4294967296))) e) ∙ h in
          let f : function_ty a b ≡ roll-Ty (Ty-F.Base n) = cc in
          let out : out-Ty (function_ty a b) ≡ out-Ty (roll-Ty (Ty-F.Base n)) = ap out-Ty f in
          absurd (search (rules, the_lemmas, out))
      by false e =
          let large : 4294967296 ≤ n = grind (arith, nat_tests) in
          let s = has_sides (n - 4294967296) (function_ty a b) (sym (high table n large) ∙ h) in
          let p = sides_parts (type_at table s.0.0) (type_at table s.0.1) a b s.2 in
          (large, (s.0, s.1, p.0, p.1))

  module _ (apart : AreApart sides) where
    abbrev One : Ty → Type 0
    One a = (n m : ℕ) → type_at table n ≡ Some a → type_at table m ≡ Some a → n ≡ m

    base_number : (k n : ℕ) → type_at table n ≡ Some (roll-Ty (Ty-F.Base k)) → n ≡ k
    base_number k n h = by (nat_lt n 4294967296) refl
      where
        by : (c : Bool) → nat_lt n 4294967296 ≡ c → n ≡ k
        by true e =
            let base : Some (roll-Ty (Ty-F.Base n)) ≡ Some (roll-Ty (Ty-F.Base k)) = sym (ap (λ b. cond b (Some (roll-Ty (Ty-F.Base n))) (slice_get table (n - 4294967296))) e) ∙ h in
            let f : roll-Ty (Ty-F.Base n) ≡ roll-Ty (Ty-F.Base k) = cc in
            let out : out-Ty (roll-Ty (Ty-F.Base n)) ≡ out-Ty (roll-Ty (Ty-F.Base k)) = ap out-Ty f in
            search (rules, the_lemmas, out)
        by false e =
            let large : 4294967296 ≤ n = grind (arith, nat_tests) in
            let s = has_sides (n - 4294967296) (roll-Ty (Ty-F.Base k)) (sym (high table n large) ∙ h) in
            absurd (no_base (type_at table s.0.0) (type_at table s.0.1) k s.2)

    one_base : (k : ℕ) → One (roll-Ty (Ty-F.Base k))
    one_base k n m h g = base_number k n h ∙ sym (base_number k m g)

    one_function : (a b : Ty) → One a → One b → One (roll-Ty (Ty-F.Arrow a b))
    one_function a b first second n m h g =
        let s = goes_between n a b h in
        let t = goes_between m a b g in
        let from = first s.1.0.0 t.1.0.0 s.1.2 t.1.2 in
        let to = second s.1.0.1 t.1.0.1 s.1.3 t.1.3 in
        let same : s.1.0 ≡ t.1.0 = λ i. (from i, to i) in
        let place : Some (n - 4294967296) ≡ Some (m - 4294967296) =
        sym (apart (n - 4294967296) s.1.0 s.1.1) ∙ ap (λ u. position (λ k. is_eq (compared u k)) sides) same ∙ apart (m - 4294967296) t.1.0 t.1.1 in
        let equal : n - 4294967296 ≡ m - 4294967296 = cc in
        let one : 4294967296 ≤ n = s.0 in let two : 4294967296 ≤ m = t.0 in omega arith

    -- a type has one number
    pub one_number : (a : Ty) (n m : ℕ) → type_at table n ≡ Some a → type_at table m ≡ Some a → n ≡ m
    one_number = by_cases One one_base one_function

-- ---- what is added

distinct_position : (sides : List (ℕ × ℕ)) (s x : ℕ × ℕ) (i : ℕ) → position (λ k. is_eq (compared s k)) sides ≡ Some i → position (λ k. is_eq (compared s k)) (sides ++ x ∷ []) ≡ Some i
distinct_position sides s x i h = position_last (λ k. is_eq (compared s k)) x sides ∙ ap (λ o. or_else o (cond (is_eq (compared s x)) (Some (length sides)) None)) h

-- sides that aren't there yet stay apart from the others
pub apart_more : (sides : List (ℕ × ℕ)) (x : ℕ × ℕ) → AreApart sides → position (λ k. is_eq (compared x k)) sides ≡ None → AreApart (sides ++ x ∷ [])
apart_more sides x apart absent i s h = by (nat_lt i (length sides)) refl
  where
    none : (i : ℕ) → nat_lt i 0 ≡ true → ⊥
    none i e = grind (arith, nat_tests)

    own : is_eq (compared x x) ≡ true
    own = grind (arith, nat_tests)

    last : (y : ℕ × ℕ) → x ≡ y → position (λ k. is_eq (compared y k)) (sides ++ x ∷ []) ≡ Some (length sides)
    last y e = subst (λ z. position (λ k. is_eq (compared z k)) (sides ++ x ∷ []) ≡ Some (length sides)) e
        (position_last (λ k. is_eq (compared x k)) x sides ∙ ap (λ o. or_else o (cond (is_eq (compared x x)) (Some (length sides)) None)) absent ∙ ap (λ b. cond b (Some (length sides)) None) own)

    by : (b : Bool) → nat_lt i (length sides) ≡ b → position (λ k. is_eq (compared s k)) (sides ++ x ∷ []) ≡ Some i
    by true e = distinct_position sides s x i (apart i s (before sides x i e h))
      where
        before : (xs : List (ℕ × ℕ)) (x : ℕ × ℕ) (i : ℕ) → nat_lt i (length xs) ≡ true → slice_get (xs ++ x ∷ []) i ≡ Some s → slice_get xs i ≡ Some s
        before [] x i e h = absurd (none i e)
        before (y ∷ ys) x zero e h = h
        before (y ∷ ys) x (suc i) e h = let less : nat_lt i (length ys) ≡ true = grind (arith, nat_tests) in before ys x i less h
    by false e =
        let within : i < length (sides ++ x ∷ []) = slice_get_within (sides ++ x ∷ []) i s h in
        let large : length sides ≤ i = grind (arith, nat_tests) in
        let at_end : i ≡ length sides = omega (arith, length-append sides (x ∷ [])) in
        let same : Some x ≡ Some s = sym (end sides) ∙ ap (slice_get (sides ++ x ∷ [])) (sym at_end) ∙ h in
        let one : x ≡ s = cc in last s one ∙ ap Some (sym at_end)
      where
        end : (xs : List (ℕ × ℕ)) → slice_get (xs ++ x ∷ []) (length xs) ≡ Some x
        end [] = refl
        end (y ∷ ys) = end ys

-- ---- what the calls answer

pub as_function : (t a b : Ty) → t ≡ types.Arrow a b → t ≡ function_ty a b
as_function t a b e = e ∙ search (rules, the_lemmas)

abbrev IsSidesOf : List (ℕ × ℕ) → ℕ → Option (ℕ × ℕ) → Type 0
IsSidesOf sides n r = r ≡ (if nat_lt n 4294967296 then None else slice_get sides (n - 4294967296))

pub target_function : (head_at arg_at : ℕ) (head a b arg : Ty) → head ≡ function_ty a b → target head_at head arg_at arg ≡ (if is_ty a arg then Good b else Bad arg_at kind.IllTyped)
target_function head_at arg_at head a b arg e = ap (λ h. target head_at h arg_at arg) e ∙ search (rules, the_lemmas)

module _ (table : List Ty) (sides : List (ℕ × ℕ)) (functions : AreFunctions table sides) (n : ℕ) (a b : Ty) (h : type_at table n ≡ Some (function_ty a b)) (r : Option (ℕ × ℕ))
    (is : IsSidesOf sides n r) where
  pub found_sides : (s : ℕ × ℕ) × (r ≡ Some s) × (type_at table s.0 ≡ Some a) × (type_at table s.1 ≡ Some b)
  found_sides =
      let g = goes_between table sides functions n a b h in
      let large : 4294967296 ≤ n = g.0 in
      let not_low : nat_lt n 4294967296 ≡ false = grind (arith, nat_tests) in
      (g.1.0, is ∙ ap (λ c. cond c None (slice_get sides (n - 4294967296))) not_low ∙ g.1.1, g.1.2, g.1.3)

  pub no_sides : r ≡ None → ⊥
  no_sides e = let f : Some found_sides.0 ≡ None = sym found_sides.1 ∙ e in cc

  -- the sides that are found, by their numbers
  pub sides_numbers : (from into : ℕ) → r ≡ Some (from, into) → (type_at table from ≡ Some a) × (type_at table into ≡ Some b)
  sides_numbers from into e =
      let f : Some found_sides.0 ≡ Some (from, into) = sym found_sides.1 ∙ e in
      let s : found_sides.0 ≡ (from, into) = cc in
      subst (λ s. (type_at table s.0 ≡ Some a) × (type_at table s.1 ≡ Some b)) s (found_sides.2, found_sides.3)

  -- an argument of the same number as the left side fits, and none of another
  pub fits_by_number : (m : ℕ) (x : Ty) → type_at table m ≡ Some a → type_at table m ≡ Some x → is_ty a x ≡ true
  fits_by_number m x e f = let s : Some a ≡ Some x = sym e ∙ f in let t : a ≡ x = cc in subst (λ y. is_ty a y ≡ true) t (is_ty_itself a)

  pub unfit_by_number : AreApart sides → (m k : ℕ) (x : Ty) → type_at table m ≡ Some a → type_at table k ≡ Some x → (m ≡ k → ⊥) → is_ty a x ≡ false
  unfit_by_number apart m k x e f differ = by (is_ty a x) refl
    where
      by : (c : Bool) → is_ty a x ≡ c → c ≡ false
      by true g = absurd (differ (one_number table sides functions apart a m k e (f ∙ ap Some (sym (is_ty_same a x g)))))
      by false g = refl

at_number : (table : List Ty) (i : ℕ) → type_at table (4294967296 + i) ≡ slice_get table i
at_number table i = let large : 4294967296 ≤ 4294967296 + i = omega arith in let less : 4294967296 + i - 4294967296 ≡ i = omega arith in high table (4294967296 + i) large ∙ ap (slice_get table) less

module _ (table : List Ty) (sides : List (ℕ × ℕ)) (functions : AreFunctions table sides) (key : ℕ × ℕ) (a b : Ty) (from : type_at table key.0 ≡ Some a) (to : type_at table key.1 ≡ Some b) where
  -- sides that are there are those of their function type
  pub held_function : (i : ℕ) → Some i ≡ position (λ k. is_eq (compared key k)) sides → (r : Result Numbered NoMemory) →
      IfOk r (λ t. (slice_get table i ≡ Some t.ty) × (t.number ≡ 4294967296 + i)) → IfOk r (λ t. (t.ty ≡ function_ty a b) × IsNumbered table t)
  held_function i h (Err e) k = tt
  held_function i h (Ok t) k =
      let p = position-Some (λ k. is_eq (compared key k)) sides i (0, 0) (sym h) in
      let same : key ≡ get_or sides i (0, 0) = same_sides key (get_or sides i (0, 0)) p.1 in
      let stands : slice_get sides i ≡ Some key = slice_get-get_or sides i (0, 0) p.0 ∙ ap Some (sym same) in
      (has_type table sides functions i key a b t.ty stands from to k.0, ap (type_at table) k.1 ∙ at_number table i ∙ k.0)

  module _ (apart : AreApart sides) (absent : position (λ k. is_eq (compared key k)) sides ≡ None) (ty : Ty) (is : ty ≡ function_ty a b) (new : List Ty) (more : List (ℕ × ℕ)) where
    -- what a call that appends a function leaves
    pub grown : (r : Result Numbered NoMemory) → IfOk r (λ t. new ≡ table ++ ty ∷ []) → OnOk r (more ≡ sides ++ key ∷ []) → OnErr r ((new ≡ table) × (more ≡ sides)) →
        AreFunctions new more × AreApart more
    grown (Ok t) types ends err =
        let e : new ≡ table ++ function_ty a b ∷ [] = types ∙ ap (λ x. table ++ x ∷ []) is in (
          subst (λ n. AreFunctions n more) (sym e) (subst (AreFunctions (table ++ function_ty a b ∷ [])) (sym ends) (functions_more table sides key a b functions from to)),
          subst AreApart (sym ends) (apart_more sides key apart absent),
        )
    grown (Err e) types ends err = (subst (λ n. AreFunctions n more) (sym err.0) (subst (AreFunctions table) (sym err.1) functions), subst AreApart (sym err.1) apart)

    pub grown_number : (r : Result Numbered NoMemory) → IfOk r (λ t. new ≡ table ++ ty ∷ []) → IfOk r (λ t. (t.ty ≡ ty) × (t.number ≡ 4294967296 + length sides)) →
        IfOk r (λ t. (t.ty ≡ function_ty a b) × IsNumbered new t)
    grown_number (Err e) types made = tt
    grown_number (Ok t) types made =
        let many : 4294967296 + length sides ≡ 4294967296 + length table = ap (λ n. 4294967296 + n) (sym (as_many table sides functions)) in
        (made.0 ∙ is, ap (type_at new) (made.1 ∙ many) ∙ at_number new (length table) ∙ ap (λ n. slice_get n (length table)) types ∙ last_at table ty ∙ ap Some (sym made.0))

    pub grown_keeps : (r : Result Numbered NoMemory) → IfOk r (λ t. new ≡ table ++ ty ∷ []) → OnErr r ((new ≡ table) × (more ≡ sides)) → Keeps table new
    grown_keeps (Ok t) types err = subst (Keeps table) (sym types) (keeps_more table (ty ∷ []))
    grown_keeps (Err e) types err = subst (Keeps table) (sym err.0) (λ n x h. h)
