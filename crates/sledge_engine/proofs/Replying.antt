-- A reply from what a call says of its status and its text.
use Rattle.std.proofs.Common.{ℕ, ◌≡◌, List, Result, Ok, Err, refl, sym, subst}
use Rattle.std.specs.Prelude.{MatchOption, None, OnOk, Option, Some}
use Rattle.std.specs.Result.{IfOk}
use Rattle.text_kit.specs.declared.NoMemory.{NoMemory}
use Rattle.sledge_engine.specs.Files.{Outside}
use Rattle.sledge_engine.specs.Replies.{Told, Reply, Answered, told, cut_off}
use Rattle.sledge_engine.specs.inner.Sinking.{IsPut, whole, part}

pub if_ok_map : {T E : Type 0} (r : Result T E) (P Q : T → Type 0) → ((x : T) → P x → Q x) → IfOk r P → IfOk r Q
if_ok_map (Ok x) P Q f h = f x h
if_ok_map (Err e) P Q f h = tt

-- what holds of each value that a call may give
pub if_ok_by : {T E : Type 0} (r : Result T E) (P : T → Type 0) → ((x : T) → r ≡ Ok x → P x) → IfOk r P
if_ok_by (Ok x) P f = f x refl
if_ok_by (Err e) P f = tt

-- and of the one that it gave
pub if_ok_at : {T E : Type 0} (r : Result T E) (P : T → Type 0) (x : T) → r ≡ Ok x → IfOk r P → P x
if_ok_at (Ok y) P x is h = let same : y ≡ x = cc in subst P same h
if_ok_at (Err e) P x is h = absurd cc

pub on_ok_map : {T E : Type 0} (r : Result T E) (P Q : Type 0) → (P → Q) → OnOk r P → OnOk r Q
on_ok_map (Ok x) P Q f h = f h
on_ok_map (Err e) P Q f h = tt

pub match_option_map : {T : Type 0} (o : Option T) (P R : Type 0) (Q S : T → Type 0) → (P → R) → ((x : T) → Q x → S x) → MatchOption o P Q → MatchOption o R S
match_option_map None P R Q S none some h = none h
match_option_map (Some x) P R Q S none some h = some x h

-- `R status text` holds of the status and the text that a call gives
pub reply_with : (R : ℕ → List ℕ → Type 0) (r : Result ℕ NoMemory) (status : ℕ) (text new : List ℕ) → R status text →
    IfOk r (λ x. (x ≡ status) × (new ≡ text)) → IfOk r (λ x. R x new)
reply_with R r status text new holds =
    if_ok_map r (λ x. (x ≡ status) × (new ≡ text)) (λ x. R x new) (λ x h. subst (λ y. R y new) (sym h.0) (subst (R status) (sym h.1) holds))

-- the answer to words from a reply and what became of its text
pub answered_by : (words : List (List ℕ)) (o : Outside) (t : Told) (status result : ℕ) (text : List ℕ) → Reply words o status text → IsPut t text status result →
    Answered words o t result
answered_by words o t status result text reply (whole h) = told status text reply h
answered_by words o t status result text reply (part h rose) = cut_off status text reply h rose
