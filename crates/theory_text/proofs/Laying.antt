-- One step of a loop that appends lexemes.
use Rattle.std.proofs.Common.{◌≡◌, ℕ, zero, suc, ◌+◌, ◌<◌, ◌∙◌, List, [], ◌∷◌, ◌++◌, take, drop, length, get_or, ap, sym, append_assoc}
use Rattle.std.proofs.lemmas.List.{append-nil, at_drop_more}
use Rattle.std.specs.Prelude.{Result, Ok, Err, IfOk}
use Rattle.theory_terms.specs.Signature.{Declared}
use Rattle.theory_reader.specs.declared.statement.Goal.{Goal}
use Rattle.theory_reader.specs.Declarations.{Declarations, known}
use Rattle.theory_text.specs.Printed.{type_items, const_items, statements, GoalsWritten, theory_lexemes}
use Rattle.theory_print.specs.Lexemes.{Lexeme, Name, Colon, laid}
use Rattle.theory_print.proofs.Laid.{laid-append}

pub step : (start now next : List ℕ) (whole x rest : List Lexeme) → start ++ laid whole ≡ now ++ laid (x ++ rest) → next ≡ now ++ laid x →
    start ++ laid whole ≡ next ++ laid rest
step start now next whole x rest h k =
    h ∙ ap (λ z. now ++ z) (laid-append x rest) ∙ sym (append_assoc now (laid x) (laid rest)) ∙ ap (λ z. z ++ laid rest) (sym k)

pub ended : (start now : List ℕ) (whole : List Lexeme) → start ++ laid whole ≡ now ++ laid [] → now ≡ start ++ laid whole
ended start now whole h = sym (h ∙ append-nil now)

-- the element at a place, and those behind it
module _ {X : Type 0} (xs : List X) (i : ℕ) (x : X) (within : i < length xs) (is : x ≡ get_or xs i x) where
  pub opened : {Y : Type 0} (F : List X → Y) → F (drop i xs) ≡ F (x ∷ drop (i + 1) xs)
  opened F = at_drop_more F xs i x within ∙ ap (λ y. F (y ∷ drop (i + 1) xs)) (sym is)

-- two pieces appended in turn
pub two : (a b c : List ℕ) (xs ys : List Lexeme) → b ≡ a ++ laid xs → c ≡ b ++ laid ys → c ≡ a ++ laid (xs ++ ys)
two a b c xs ys h k =
    k ∙ ap (λ z. z ++ laid ys) h ∙ append_assoc a (laid xs) (laid ys) ∙ ap (λ z. a ++ z) (sym (laid-append xs ys))

-- a heading with another spelling of its name
pub renamed : (now next : List ℕ) (w : Lexeme) (n m : List ℕ) (xs : List Lexeme) → n ≡ m → next ≡ now ++ laid (w ∷ Name n ∷ Colon ∷ xs) →
    next ≡ now ++ laid (w ∷ Name m ∷ Colon ∷ xs)
renamed now next w n m xs e h = h ∙ ap (λ s. now ++ laid (w ∷ Name s ∷ Colon ∷ xs)) e

module _ (k : ℕ) (all : Declared) where
  pub goals_parted : (n : ℕ) (gs : List Goal) → GoalsWritten k all gs → GoalsWritten k all (take n gs) × GoalsWritten k all (drop n gs)
  goals_parted zero gs h = (tt, h)
  goals_parted (suc n) [] h = (tt, tt)
  goals_parted (suc n) (g ∷ gs) h = let rest = goals_parted n gs h.1 in ((h.0, rest.0), rest.1)

-- all pieces of a theory
pub whole : (k : ℕ) (d : Declarations) (a b c e : List ℕ) → a ≡ [] → b ≡ a ++ laid (type_items k (known d) d.types) →
    c ≡ b ++ laid (const_items k (known d) d.consts) → e ≡ c ++ laid (statements k (known d) 0 d.facts d.goals) → e ≡ laid (theory_lexemes k d)
whole k d a b c e none h i j =
    let back = two b c e (const_items k (known d) d.consts) (statements k (known d) 0 d.facts d.goals) i j in
    two a b e (type_items k (known d) d.types) (const_items k (known d) d.consts ++ statements k (known d) 0 d.facts d.goals) h back ∙
    ap (λ z. z ++ laid (theory_lexemes k d)) none

pub if_ok : {A E : Type 0} (r : Result A E) (P Q : A → Type 0) → ((x : A) → P x → Q x) → IfOk r P → IfOk r Q
if_ok (Ok x) P Q f h = f x h
if_ok (Err e) P Q f h = tt
