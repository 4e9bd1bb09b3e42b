-- What is appended of a term, piece after piece.
use Rattle.std.proofs.Common.{◌≡◌, ℕ, ◌+◌, Bool, true, false, nat_le, if◌then◌else◌, List, [], ◌∷◌, ◌++◌, append_assoc, append-nil, refl, ap, subst, ◌∙◌}
use Rattle.std.specs.Prelude.{Some, codes}
use Rattle.std.specs.Option.{option_map}
use Rattle.hol_terms.specs.declared.ty.Ty.{Ty}
use Rattle.theory_syntax.specs.declared.tokens.Quant.{Quant}
use Rattle.theory_syntax.specs.declared.tree.Op.{Op}
use Rattle.theory_syntax.specs.Grammar.{Whole}
use Rattle.theory_print.specs.declared.sort.Sort.{Sort}
use Rattle.theory_print.specs.declared.sort.Sort.TheVariants as sort
use Rattle.theory_print.specs.declared.vocabulary.Vocabulary.{Vocabulary}
use Rattle.theory_print.specs.Lexemes.{Lexeme, Open, Close, Equal, Tilde, Sign, Dot, Binder, Name, Colon, laid}
use Rattle.theory_print.specs.Types.{type_lexemes}
use Rattle.theory_print.specs.Names.{variable}
use Rattle.theory_print.specs.Shapes.{Shape, Apply, Equals, Not, Join, Bind, Part, Whole as Whole_}
use Rattle.theory_print.specs.Views.{whole, both_whole}
use Rattle.theory_print.specs.Written.{rank, left_of, right_of, within, binder_lexemes, lexemes}
use Rattle.theory_print.specs.Printing.{declared_in, opening, closing, Writes}
use Rattle.theory_print.proofs.Laid.{then_laid}

enclosed_at : (b : Bool) (o p q n : List ℕ) (xs : List Lexeme) → p ≡ o ++ laid (if b then [] else Open ∷ []) → q ≡ p ++ laid xs → n ≡ q ++ laid (if b then [] else Close ∷ []) →
    n ≡ o ++ laid (if b then xs else Open ∷ xs ++ Close ∷ [])
enclosed_at true o p q n xs hp hq hn = hn ∙ append-nil q ∙ hq ∙ ap (λ z. z ++ laid xs) (hp ∙ append-nil o)
enclosed_at false o p q n xs hp hq hn = then_laid o p n (Open ∷ []) (xs ++ Close ∷ []) hp (then_laid p q n xs (Close ∷ []) hq hn)

-- the brackets that are wanted around lexemes
enclosed : (own s : Sort) (o p q n : List ℕ) (xs : List Lexeme) → p ≡ o ++ laid (opening own s) → q ≡ p ++ laid xs → n ≡ q ++ laid (closing own s) → n ≡ o ++ laid (within own s xs)
enclosed own s o p q n xs hp hq hn = enclosed_at (nat_le (rank own) (rank s)) o p q n xs hp hq hn

module _ (v : Vocabulary) (d : ℕ) (s : Sort) (o p : List ℕ) where
  abbrev Bytes_of : List ℕ → Shape → Type 0
  Bytes_of n z = n ≡ o ++ laid (lexemes v.number (declared_in v) z d s)

  known : (n : List ℕ) (y z : Shape) → Some y ≡ Some z → Bytes_of n y → Bytes_of n z
  known n y z e h = let same : y ≡ z = cc in subst (Bytes_of n) same h

  two : (make : Shape → Shape → Shape) (A B : Part) (LA LB : Type 0) (n : List ℕ) →
      ((a b : Shape) → A ≡ Whole_ a → B ≡ Whole_ b → LA → LB → Bytes_of n (make a b)) → Writes v d s (both_whole make A B) (LA × LB) o n
  two make (Whole_ a) (Whole_ b) LA LB n h z e low = known n (make a b) z e (h a b refl refl low.0 low.1)
  two make (Whole_ a) _ LA LB n h z e low = cc
  two make _ B LA LB n h z e low = cc

  one : (make : Shape → Shape) (A : Part) (LA : Type 0) (n : List ℕ) → ((a : Shape) → A ≡ Whole_ a → LA → Bytes_of n (make a)) → Writes v d s (option_map make (whole A)) LA o n
  one make (Whole_ a) LA n h z e low = known n (make a) z e (h a refl low)
  one make _ LA n h z e low = cc

  pub apply_writes : (A B : Part) (LA LB : Type 0) (q r n : List ℕ) → p ≡ o ++ laid (opening sort.App s) → Writes v d sort.App (whole A) LA p q → Writes v d sort.Atom (whole B) LB q r →
      n ≡ r ++ laid (closing sort.App s) → Writes v d s (both_whole Apply A B) (LA × LB) o n
  apply_writes A B LA LB q r n hp ha hb hn =
      two Apply A B LA LB n (λ a b ea eb la lb.
      let xs = lexemes v.number (declared_in v) a d sort.App in
      let ys = lexemes v.number (declared_in v) b d sort.Atom in
      enclosed sort.App s o p r n (xs ++ ys) hp (then_laid p q r xs ys (ha a (ap whole ea) la) (hb b (ap whole eb) lb)) hn)

  pub equals_writes : (A B : Part) (LA LB : Type 0) (q r t n : List ℕ) → p ≡ o ++ laid (opening sort.Eq s) → Writes v d sort.App (whole A) LA p q → r ≡ q ++ (codes "=" ++ 32 ∷ []) →
      Writes v d sort.App (whole B) LB r t → n ≡ t ++ laid (closing sort.Eq s) → Writes v d s (both_whole Equals A B) (LA × LB) o n
  equals_writes A B LA LB q r t n hp ha hr hb hn =
      two Equals A B LA LB n (λ a b ea eb la lb.
      let xs = lexemes v.number (declared_in v) a d sort.App in
      let ys = lexemes v.number (declared_in v) b d sort.App in
      enclosed sort.Eq s o p t n (xs ++ Equal ∷ ys) hp (then_laid p q t xs (Equal ∷ ys) (ha a (ap whole ea) la) (then_laid q r t (Equal ∷ []) ys hr (hb b (ap whole eb) lb))) hn)

  pub not_writes : (A : Part) (LA : Type 0) (q r n : List ℕ) → p ≡ o ++ laid (opening sort.Neg s) → q ≡ p ++ (codes "~" ++ 32 ∷ []) → Writes v d sort.Neg (whole A) LA q r →
      n ≡ r ++ laid (closing sort.Neg s) → Writes v d s (option_map Not (whole A)) LA o n
  not_writes A LA q r n hp hq ha hn =
      one Not A LA n (λ a ea la.
      let xs = lexemes v.number (declared_in v) a d sort.Neg in
      enclosed sort.Neg s o p r n (Tilde ∷ xs) hp (then_laid p q r (Tilde ∷ []) xs hq (ha a (ap whole ea) la)) hn)

  pub join_writes : (g : Op) (A B : Part) (LA LB : Type 0) (q r t n : List ℕ) (e f : Sort) → e ≡ left_of g → f ≡ right_of g → p ≡ o ++ laid (opening (sort.Chain g) s) →
      Writes v d e (whole A) LA p q → r ≡ q ++ laid (Sign g ∷ []) → Writes v d f (whole B) LB r t → n ≡ t ++ laid (closing (sort.Chain g) s) →
      Writes v d s (both_whole (Join g) A B) (LA × LB) o n
  join_writes g A B LA LB q r t n e f he hf hp ha hr hb hn =
      two (Join g) A B LA LB n (λ a b ea eb la lb.
      let xs = lexemes v.number (declared_in v) a d (left_of g) in
      let ys = lexemes v.number (declared_in v) b d (right_of g) in
      let first = ha a (ap whole ea) la ∙ ap (λ z. p ++ laid (lexemes v.number (declared_in v) a d z)) he in
      let second = hb b (ap whole eb) lb ∙ ap (λ z. r ++ laid (lexemes v.number (declared_in v) b d z)) hf in
      enclosed (sort.Chain g) s o p t n (xs ++ Sign g ∷ ys) hp (then_laid p q t xs (Sign g ∷ ys) first (then_laid q r t (Sign g ∷ []) ys hr second)) hn)

  pub bind_writes : (g : Quant) (a : Ty) (A : Part) (LA : Type 0) (q r n : List ℕ) → p ≡ o ++ laid (opening sort.Formula s) → q ≡ p ++ laid (binder_lexemes v.number (declared_in v) d g a) →
      Writes v (d + 1) sort.Formula (whole A) LA q r → n ≡ r ++ laid (closing sort.Formula s) → Writes v d s (option_map (Bind g a) (whole A)) LA o n
  bind_writes g a A LA q r n hp hq ha hn =
      one (Bind g a) A LA n (λ b eb lb.
      let ys = lexemes v.number (declared_in v) b (d + 1) sort.Formula in
      let ts = type_lexemes v.types.now a Whole in
      let whole_ = binder_lexemes v.number (declared_in v) d g a ++ ys in
      let same : whole_ ≡ Binder g ∷ Name (variable v.number d) ∷ Colon ∷ ts ++ Dot ∷ ys = ap (λ zs. Binder g ∷ Name (variable v.number d) ∷ Colon ∷ zs) (append_assoc ts (Dot ∷ []) ys) in
      enclosed sort.Formula s o p r n (Binder g ∷ Name (variable v.number d) ∷ Colon ∷ ts ++ Dot ∷ ys) hp
      (then_laid p q r (binder_lexemes v.number (declared_in v) d g a) ys hq (ha b (ap whole eb) lb) ∙ ap (λ zs. p ++ laid zs) same) hn)

pub binder_bytes : (v : Vocabulary) (d : ℕ) (g : Quant) (a : Ty) (o p q r t n : List ℕ) → p ≡ o ++ laid (Binder g ∷ []) → q ≡ p ++ laid (Name (variable v.number d) ∷ []) →
    r ≡ q ++ (codes ":" ++ 32 ∷ []) → t ≡ r ++ laid (type_lexemes v.types.now a Whole) → n ≡ t ++ (codes "." ++ 32 ∷ []) → n ≡ o ++ laid (binder_lexemes v.number (declared_in v) d g a)
binder_bytes v d g a o p q r t n hp hq hr ht hn =
    let ts = type_lexemes v.types.now a Whole in
    let name = Name (variable v.number d) in
    then_laid o p n (Binder g ∷ []) (name ∷ Colon ∷ ts ++ Dot ∷ []) hp
    (then_laid p q n (name ∷ []) (Colon ∷ ts ++ Dot ∷ []) hq (then_laid q r n (Colon ∷ []) (ts ++ Dot ∷ []) hr (then_laid r t n ts (Dot ∷ []) ht hn)))
