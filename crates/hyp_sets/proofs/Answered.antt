-- What a call answers, where it is known to be another's value.
use Rattle.std.proofs.Common.{◌≡◌, ◌∙◌, Ok, Err}
use Rattle.std.specs.Prelude.{Result, IfOk, OnOk}

pub if_ok_is : {T E : Type 0} (r : Result T E) (a b : T) → a ≡ b → IfOk r (λ s. s ≡ a) → IfOk r (λ s. s ≡ b)
if_ok_is (Ok x) a b e h = h ∙ e
if_ok_is (Err x) a b e h = tt

pub on_ok_map : {T E : Type 0} (r : Result T E) (P Q : Type 0) → (P → Q) → OnOk r P → OnOk r Q
on_ok_map (Ok x) P Q f h = f h
on_ok_map (Err x) P Q f h = tt

pub if_ok_map : {T E : Type 0} (r : Result T E) (P Q : T → Type 0) → ((x : T) → P x → Q x) → IfOk r P → IfOk r Q
if_ok_map (Ok x) P Q f h = f x h
if_ok_map (Err x) P Q f h = tt
