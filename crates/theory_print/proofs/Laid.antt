-- The bytes of lexemes one after the other.
use Rattle.std.proofs.Common.{◌≡◌, ℕ, Bool, true, false, if◌then◌else◌, codes, List, [], ◌∷◌, ◌++◌, append_assoc, append-nil, refl, sym, ap, ◌∙◌}
use Rattle.hol_terms.specs.declared.ty.Ty.{Ty}
use Rattle.hol_terms.specs.declared.ty.Ty as views
use Rattle.hol_terms.specs.declared.ty.Ty.TheVariants as ty
use Rattle.hol_terms.specs.Types.{function_ty}
use Rattle.theory_syntax.specs.Grammar.{Whole, Single}
use Rattle.theory_print.specs.Lexemes.{Lexeme, Open, Close, Arrow, spelling, behind, laid}
use Rattle.theory_print.specs.Types.{type_lexemes, type_sort, bracketed_type}
use Rattle.theory_print.proofs.Equations.{arrow_lexemes}

pub laid-append : (xs ys : List Lexeme) → laid (xs ++ ys) ≡ laid xs ++ laid ys
laid-append [] ys = refl
laid-append (x ∷ xs) ys = ap (λ bs. spelling x ++ behind x ∷ bs) (laid-append xs ys) ∙ sym (append_assoc (spelling x) (behind x ∷ laid xs) (laid ys))

-- what is appended, and then what is appended to that
pub then_laid : (a b c : List ℕ) (xs ys : List Lexeme) → b ≡ a ++ laid xs → c ≡ b ++ laid ys → c ≡ a ++ laid (xs ++ ys)
then_laid a b c xs ys h k = k ∙ ap (λ z. z ++ laid ys) h ∙ append_assoc a (laid xs) (laid ys) ∙ ap (λ z. a ++ z) (sym (laid-append xs ys))

in_brackets : (b : Bool) (o p s n : List ℕ) (xs : List Lexeme) → p ≡ o ++ (if b then codes "(" ++ 32 ∷ [] else []) → s ≡ p ++ laid xs →
    n ≡ s ++ (if b then codes ")" ++ 32 ∷ [] else []) → n ≡ o ++ laid (bracketed_type (type_sort b) xs)
in_brackets true o p s n xs hp hs hn = then_laid o p n (Open ∷ []) (xs ++ Close ∷ []) hp (then_laid p s n xs (Close ∷ []) hs hn)
in_brackets false o p s n xs hp hs hn = hn ∙ append-nil s ∙ hs ∙ ap (λ z. z ++ laid xs) (hp ∙ append-nil o)

-- a type of functions, piece after piece
function_laid : (types : List (List ℕ)) (x y : Ty) (b : Bool) (o p q r s n : List ℕ) → p ≡ o ++ (if b then codes "(" ++ 32 ∷ [] else []) →
    q ≡ p ++ laid (type_lexemes types x Single) → r ≡ q ++ (codes "->" ++ 32 ∷ []) → s ≡ r ++ laid (type_lexemes types y Whole) →
    n ≡ s ++ (if b then codes ")" ++ 32 ∷ [] else []) → n ≡ o ++ laid (type_lexemes types (function_ty x y) (type_sort b))
function_laid types x y b o p q r s n hp hq hr hs hn =
    let inner : s ≡ p ++ laid (type_lexemes types x Single ++ Arrow ∷ type_lexemes types y Whole) =
    then_laid p q s (type_lexemes types x Single) (Arrow ∷ type_lexemes types y Whole) hq (then_laid q r s (Arrow ∷ []) (type_lexemes types y Whole) hr hs) in
    in_brackets b o p s n (type_lexemes types x Single ++ Arrow ∷ type_lexemes types y Whole) hp inner hn ∙ ap (λ xs. o ++ laid xs) (sym (arrow_lexemes types x y (type_sort b)))

pub function_bytes : (types : List (List ℕ)) (x y c d t : Ty) (b : Bool) (o p q r s n : List ℕ) → t ≡ ty.Arrow x y → c ≡ x → d ≡ y →
    p ≡ o ++ (if b then codes "(" ++ 32 ∷ [] else []) → q ≡ p ++ laid (type_lexemes types c Single) → r ≡ q ++ (codes "->" ++ 32 ∷ []) →
    s ≡ r ++ laid (type_lexemes types d Whole) → n ≡ s ++ (if b then codes ")" ++ 32 ∷ [] else []) → n ≡ o ++ laid (type_lexemes types t (type_sort b))
unfolding views.roll-Ty denote.Hole.Carrier.roll
function_bytes types x y c d t b o p q r s n is left right hp hq hr hs hn =
    function_laid types x y b o p q r s n hp (hq ∙ ap (λ z. p ++ laid (type_lexemes types z Single)) left) hr (hs ∙ ap (λ z. r ++ laid (type_lexemes types z Whole)) right) hn
    ∙ ap (λ z. o ++ laid (type_lexemes types z (type_sort b))) (sym is)
