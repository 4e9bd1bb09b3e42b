-- A list whose first elements are mapped.
use Rattle.std.proofs.Common.{◌≡◌, ℕ, ◌+◌, List, [], ◌∷◌, length, map, refl, ap, sym, ◌∙◌, arith, Some, zero, suc}
use Rattle.std.specs.Prelude.{slice_get, slice_set}

abbrev pub mapped_to : {A : Type 0} → (A → A) → ℕ → List A → List A
mapped_to f zero xs = xs
mapped_to f (suc k) [] = []
mapped_to f (suc k) (x ∷ xs) = f x ∷ mapped_to f k xs

pub mapped-get : {A : Type 0} (f : A → A) (k : ℕ) (xs : List A) → slice_get (mapped_to f k xs) k ≡ slice_get xs k
mapped-get f zero xs = refl
mapped-get f (suc k) [] = refl
mapped-get f (suc k) (x ∷ xs) = mapped-get f k xs

pub mapped-length : {A : Type 0} (f : A → A) (k : ℕ) (xs : List A) → length (mapped_to f k xs) ≡ length xs
mapped-length f zero xs = refl
mapped-length f (suc k) [] = refl
mapped-length f (suc k) (x ∷ xs) = ap suc (mapped-length f k xs)

pub mapped-set : {A : Type 0} (f : A → A) (k : ℕ) (xs : List A) (x : A) → slice_get xs k ≡ Some x → slice_set (mapped_to f k xs) k (f x) ≡ mapped_to f (suc k) xs
mapped-set f zero [] x e = cc
mapped-set f zero (y ∷ xs) x e = cc
mapped-set f (suc k) [] x e = cc
mapped-set f (suc k) (y ∷ xs) x e = ap (λ t. f y ∷ t) (mapped-set f k xs x e)

pub mapped-all : {A : Type 0} (f : A → A) (k : ℕ) (xs : List A) → k ≡ length xs → mapped_to f k xs ≡ map f xs
mapped-all f zero [] e = refl
mapped-all f zero (x ∷ xs) e = cc
mapped-all f (suc k) [] e = refl
mapped-all f (suc k) (x ∷ xs) e = ap (λ t. f x ∷ t) (mapped-all f k xs (omega arith))

pub mapped-step : {A : Type 0} (f : A → A) (k : ℕ) (xs now next : List A) (x y : A) → now ≡ mapped_to f k xs → slice_get now k ≡ Some x → y ≡ f x → next ≡ slice_set now k y → next ≡ mapped_to f (k + 1) xs
mapped-step f k xs now next x y is at made set =
    let found : slice_get xs k ≡ Some x = sym (mapped-get f k xs) ∙ ap (λ l. slice_get l k) (sym is) ∙ at in
    let put : next ≡ slice_set (mapped_to f k xs) k (f x) = cc in
    let more : suc k ≡ k + 1 = omega arith in
    put ∙ mapped-set f k xs x found ∙ ap (λ n. mapped_to f n xs) more

pub ruleset mapping = (mapped-get, mapped-length, mapped-set, mapped-all)
