-- The text of a term is derivable.
use Rattle.std.proofs.Common.{◌≡◌, ℕ, ◌+◌, ◌^◌, ◌<◌, ◌≤◌, ◌&&◌, max, nat_lt, Bool, IsTrue, List, [], ◌∷◌, ◌++◌, length, codes, decimal, refl, sym, ap, subst, ◌∙◌, append_assoc, rules, arith}
use Rattle.text_kit.specs.Tokens.{is_word_byte, StopsAt}
use Rattle.hol_terms.specs.declared.ty.Ty.{Ty}
use Rattle.hol_terms.specs.declared.konst.Konst.{Konst}
use Rattle.hol_terms.specs.declared.konst.Konst.TheVariants as konst
use Rattle.hol_terms.specs.declared.term.Term.{Term, roll-Term}
use Rattle.hol_terms.specs.declared.term.Term as views
use Rattle.hol_terms.specs.declared.term.Term.TheVariants as terms
use Rattle.hol_terms.specs.declared.term.Term.TheOpen.{Term-F}
use Rattle.hol_terms.specs.declared.term.Term.TheFolds.{fold-roll-Term}
use Rattle.hol_terms.specs.Types.{ty_fits}
use Rattle.hol_terms.proofs.Both.{both_true}
use Rattle.hol_terms.proofs.TermCases.{by_cases}
use Rattle.proof_syntax.specs.Names.{Names, name_in}
use Rattle.proof_syntax.specs.Forms.{Plain, Truth, Falsity, Not, And, Or, Imp, plain_word, plain_konst, Typed, Eq, All, Ex, Eps, typed_word, typed_konst}
use Rattle.proof_syntax.specs.Tokens.{Word, hash, dollar, dot, colon, open_square, close_square, open_round, close_round, space, open_brace, close_brace}
use Rattle.proof_syntax.specs.Grammar.{Placed, at, most, name, IsTerm, bound, free, named, plain, typed, apply, lambda}
use Rattle.proof_syntax.specs.Texts.{type_text, with_type, konst_text, term_step, term_text, nesting_step, nesting}
use Rattle.proof_text.specs.inner.Fitting.{fits, term_fits_step, term_fits}
use Rattle.proof_text.proofs.Wordy.{IsWordy, number_wordy}
use Rattle.proof_text.proofs.Places.{IsDeclared}
use Rattle.proof_text.proofs.Lying.{Lies, joined, word_lies, word_then, sign_lies, sign_then, between}
use Rattle.proof_text.proofs.Naming.{konst_named, term_named, named-free, named-con, named-app, named-lam}
use Rattle.proof_text.proofs.TypesLie.{name_lies, name_number, type_lies}

-- ---- the forms of terms

pub bound_is : (n : ℕ) → terms.Bound n ≡ roll-Term (Term-F.Bound n)
unfolding views.roll-Term denote.Hole.Carrier.roll
bound_is n = refl

pub free_is : (n : ℕ) (a : Ty) → terms.Free n a ≡ roll-Term (Term-F.Free n a)
unfolding views.roll-Term denote.Hole.Carrier.roll
free_is n a = refl

pub con_is : (k : Konst) → terms.Con k ≡ roll-Term (Term-F.Con k)
unfolding views.roll-Term denote.Hole.Carrier.roll
con_is k = refl

pub app_is : (f x : Term) → terms.App f x ≡ roll-Term (Term-F.App f x)
unfolding views.roll-Term denote.Hole.Carrier.roll
app_is f x = refl

pub lam_is : (a : Ty) (b : Term) → terms.Lam a b ≡ roll-Term (Term-F.Lam a b)
unfolding views.roll-Term denote.Hole.Carrier.roll
lam_is a b = refl

fits-bound : (n : ℕ) → term_fits (roll-Term (Term-F.Bound n)) ≡ fits n
fits-bound n = fold-roll-Term Bool term_fits_step (Term-F.Bound n)

fits-free : (n : ℕ) (a : Ty) → term_fits (roll-Term (Term-F.Free n a)) ≡ fits n
fits-free n a = fold-roll-Term Bool term_fits_step (Term-F.Free n a)

fits-app : (f x : Term) → term_fits (roll-Term (Term-F.App f x)) ≡ (term_fits f && term_fits x)
fits-app f x = fold-roll-Term Bool term_fits_step (Term-F.App f x)

fits-lam : (a : Ty) (b : Term) → term_fits (roll-Term (Term-F.Lam a b)) ≡ term_fits b
fits-lam a b = fold-roll-Term Bool term_fits_step (Term-F.Lam a b)

nesting-app : (f x : Term) → nesting (roll-Term (Term-F.App f x)) ≡ max (nesting f) (nesting x) + 1
nesting-app f x = fold-roll-Term ℕ nesting_step (Term-F.App f x)

nesting-lam : (a : Ty) (b : Term) → nesting (roll-Term (Term-F.Lam a b)) ≡ nesting b + 1
nesting-lam a b = fold-roll-Term ℕ nesting_step (Term-F.Lam a b)

-- ---- words

plain_wordy : (k : Plain) → IsWordy (plain_word k)
plain_wordy Truth = record { some = omega arith; bytes = refl }
plain_wordy Falsity = record { some = omega arith; bytes = refl }
plain_wordy Not = record { some = omega arith; bytes = refl }
plain_wordy And = record { some = omega arith; bytes = refl }
plain_wordy Or = record { some = omega arith; bytes = refl }
plain_wordy Imp = record { some = omega arith; bytes = refl }

typed_wordy : (k : Typed) → IsWordy (typed_word k)
typed_wordy Eq = record { some = omega arith; bytes = refl }
typed_wordy All = record { some = omega arith; bytes = refl }
typed_wordy Ex = record { some = omega arith; bytes = refl }
typed_wordy Eps = record { some = omega arith; bytes = refl }

module _ (names : Names) where
  pub record TermLies (l : ℕ) (t : Term) (text rest : List ℕ) : Type 0 where
    pub placed : List Placed
    pub derived : IsTerm names l placed t
    pub lies : Lies (text ++ rest) placed rest

  -- the same term and the same text
  made : (l : ℕ) (t s : Term) (text bytes whole rest : List ℕ) (p : List Placed) → t ≡ s → text ≡ bytes → bytes ++ rest ≡ whole → IsTerm names l p t → Lies whole p rest → TermLies l s text rest
  made l t s text bytes whole rest p is said same d h =
      record { placed = p; derived = subst (λ u. IsTerm names l p u) is d; lies = subst (λ bs. Lies bs p rest) (sym (ap (λ w. w ++ rest) said ∙ same)) h }

  pub text-bound : (n : ℕ) → term_text names (roll-Term (Term-F.Bound n)) ≡ codes "#" ++ decimal n
  text-bound n = fold-roll-Term (List ℕ) (term_step names) (Term-F.Bound n)

  pub text-free : (n : ℕ) (a : Ty) → term_text names (roll-Term (Term-F.Free n a)) ≡ codes "$" ++ decimal n ++ codes ":" ++ type_text names a
  text-free n a = fold-roll-Term (List ℕ) (term_step names) (Term-F.Free n a)

  pub text-con : (k : Konst) → term_text names (roll-Term (Term-F.Con k)) ≡ konst_text names k
  text-con k = fold-roll-Term (List ℕ) (term_step names) (Term-F.Con k)

  pub text-app : (f x : Term) → term_text names (roll-Term (Term-F.App f x)) ≡ codes "(" ++ term_text names f ++ codes " " ++ term_text names x ++ codes ")"
  text-app f x = fold-roll-Term (List ℕ) (term_step names) (Term-F.App f x)

  pub text-lam : (a : Ty) (b : Term) → term_text names (roll-Term (Term-F.Lam a b)) ≡ codes "{" ++ type_text names a ++ codes "}" ++ term_text names b
  text-lam a b = fold-roll-Term (List ℕ) (term_step names) (Term-F.Lam a b)

  module _ (each_type : (n : ℕ) → n < length names.types → IsDeclared names.types n) (each_const : (n : ℕ) → n < length names.consts → IsDeclared names.consts n) where
    abbrev Lie : Term → Type 0
    Lie t = (l : ℕ) (rest : List ℕ) → IsTrue (term_named (length names.types) (length names.consts) t) → IsTrue (term_fits t) → l + nesting t ≤ most → StopsAt is_word_byte rest →
        TermLies l t (term_text names t) rest

    bound_lies : (n : ℕ) → Lie (roll-Term (Term-F.Bound n))
    bound_lies n l rest named_ fit low stops =
        let small : IsTrue (nat_lt n (2 ^ 64)) = sym (fits-bound n) ∙ fit in
        let lv : l ≤ most = omega arith in
        made l (terms.Bound n) (roll-Term (Term-F.Bound n)) _ (codes "#" ++ decimal n) (35 ∷ (decimal n ++ rest)) rest (at l hash ∷ at l (Word (decimal n)) ∷ []) (bound_is n) (text-bound n) refl
        (bound (search (rules, small)))
        (sign_then l 35 (decimal n ++ rest) rest (at l (Word (decimal n)) ∷ []) lv refl (word_lies l (decimal n) rest lv (number_wordy n) stops))

    free_pieces : (n a rest : List ℕ) → (codes "$" ++ n ++ codes ":" ++ a) ++ rest ≡ 36 ∷ (n ++ 58 ∷ (a ++ rest))
    free_pieces n a rest = simp append_assoc

    free_lies : (n : ℕ) (a : Ty) → Lie (roll-Term (Term-F.Free n a))
    free_lies n a l rest named_ fit low stops =
        let small : IsTrue (nat_lt n (2 ^ 64)) = sym (fits-free n a) ∙ fit in
        let lv : l ≤ most = omega arith in
        let x = type_lies names each_type a l rest (sym (named-free (length names.types) (length names.consts) n a) ∙ named_) lv stops in
        let behind = type_text names a ++ rest in
        made l (terms.Free n a) (roll-Term (Term-F.Free n a)) _ (codes "$" ++ decimal n ++ codes ":" ++ type_text names a) (36 ∷ (decimal n ++ 58 ∷ behind)) rest
        (at l dollar ∷ at l (Word (decimal n)) ∷ at l colon ∷ x.placed) (free_is n a) (text-free n a) (free_pieces (decimal n) (type_text names a) rest)
        (free (search (rules, small)) x.derived)
        (sign_then l 36 (decimal n ++ 58 ∷ behind) rest (at l (Word (decimal n)) ∷ at l colon ∷ x.placed) lv refl
        (word_then l (decimal n) (58 ∷ behind) rest (at l colon ∷ x.placed) lv (number_wordy n) refl (sign_then l 58 behind rest x.placed lv refl x.lies)))

    -- ---- constants

    abbrev KonstLie : Konst → Type 0
    KonstLie k = (l : ℕ) (rest : List ℕ) → IsTrue (konst_named (length names.types) (length names.consts) k) → l ≤ most → StopsAt is_word_byte rest →
        TermLies l (terms.Con k) (konst_text names k) rest

    named_lies : (n : ℕ) → KonstLie (konst.Named n)
    named_lies n l rest h low stops =
        let is = each_const n (search (rules, h)) in
        let x = name l (name_in names.consts n) names.consts in
        record {
          placed = at l dot ∷ x ∷ [];
          derived = subst (λ m. IsTerm names l (at l dot ∷ x ∷ []) (terms.Con (konst.Named m))) (name_number names.consts n is) named;
          lies = sign_then l 46 (name_in names.consts n ++ rest) rest (x ∷ []) low refl (name_lies names.consts n l rest is low stops);
        }

    plain_lies : (k : Plain) (l : ℕ) (rest : List ℕ) → l ≤ most → StopsAt is_word_byte rest → TermLies l (terms.Con (plain_konst k)) (plain_word k) rest
    plain_lies k l rest low stops =
        record { placed = at l (Word (plain_word k)) ∷ []; derived = plain k; lies = word_lies l (plain_word k) rest low (plain_wordy k) stops }

    typed_pieces : (w a rest : List ℕ) → (w ++ codes "[" ++ a ++ codes "]") ++ rest ≡ w ++ 91 ∷ (a ++ 93 ∷ rest)
    typed_pieces w a rest = simp append_assoc

    typed_lies : (k : Typed) (a : Ty) (l : ℕ) (rest : List ℕ) → IsTrue (ty_fits (length names.types) a) → l ≤ most →
        TermLies l (terms.Con (typed_konst k a)) (with_type names (typed_word k) a) rest
    typed_lies k a l rest h low =
        let x = type_lies names each_type a l (93 ∷ rest) h low refl in
        let behind = type_text names a ++ 93 ∷ rest in
        let p = at l (Word (typed_word k)) ∷ at l open_square ∷ x.placed ++ at l close_square ∷ [] in
        let front = word_then l (typed_word k) (91 ∷ behind) (93 ∷ rest) (at l open_square ∷ x.placed) low (typed_wordy k) refl (sign_then l 91 behind (93 ∷ rest) x.placed low refl x.lies) in
        let all = joined (typed_word k ++ 91 ∷ behind) (93 ∷ rest) rest (at l (Word (typed_word k)) ∷ at l open_square ∷ x.placed) (at l close_square ∷ []) front (sign_lies l 93 rest low refl) in
        record { placed = p; derived = typed k x.derived; lies = subst (λ bs. Lies bs p rest) (sym (typed_pieces (typed_word k) (type_text names a) rest)) all }

    konst_lies : (k : Konst) → KonstLie k
    konst_lies (konst.Named n) l rest h low stops = named_lies n l rest h low stops
    konst_lies (konst.Aux n) l rest h low stops = cc
    konst_lies konst.True l rest h low stops = plain_lies Truth l rest low stops
    konst_lies konst.False l rest h low stops = plain_lies Falsity l rest low stops
    konst_lies konst.Not l rest h low stops = plain_lies Not l rest low stops
    konst_lies konst.And l rest h low stops = plain_lies And l rest low stops
    konst_lies konst.Or l rest h low stops = plain_lies Or l rest low stops
    konst_lies konst.Imp l rest h low stops = plain_lies Imp l rest low stops
    konst_lies (konst.Eq a) l rest h low stops = typed_lies Eq a l rest h low
    konst_lies (konst.All a) l rest h low stops = typed_lies All a l rest h low
    konst_lies (konst.Ex a) l rest h low stops = typed_lies Ex a l rest h low
    konst_lies (konst.Eps a) l rest h low stops = typed_lies Eps a l rest h low

    con_lies : (k : Konst) → Lie (roll-Term (Term-F.Con k))
    con_lies k l rest named_ fit low stops =
        let x = konst_lies k l rest (sym (named-con (length names.types) (length names.consts) k) ∙ named_) (omega arith) stops in
        made l (terms.Con k) (roll-Term (Term-F.Con k)) _ (konst_text names k) (konst_text names k ++ rest) rest x.placed (con_is k) (text-con k) refl x.derived x.lies

    -- ---- applications and lambdas

    app_pieces : (f x rest : List ℕ) → (codes "(" ++ f ++ codes " " ++ x ++ codes ")") ++ rest ≡ 40 ∷ (f ++ 32 ∷ (x ++ 41 ∷ rest))
    app_pieces f x rest = simp append_assoc

    app_lies : (f x : Term) → Lie f → Lie x → Lie (roll-Term (Term-F.App f x))
    app_lies f x hf hx l rest named_ fit low stops =
        let are = both_true (term_named (length names.types) (length names.consts) f) (term_named (length names.types) (length names.consts) x) (sym (named-app (length names.types) (length names.consts) f x) ∙ named_) in
        let both = both_true (term_fits f) (term_fits x) (sym (fits-app f x) ∙ fit) in
        let deep = nesting-app f x in
        let ft = term_text names f in
        let xt = term_text names x in
        let a = hf (l + 1) (32 ∷ (xt ++ 41 ∷ rest)) are.0 both.0 (omega arith) refl in
        let b = hx (l + 1) (41 ∷ rest) are.1 both.1 (omega arith) refl in
        let lv : l + 1 ≤ most = omega arith in
        made l (terms.App f x) (roll-Term (Term-F.App f x)) _ (codes "(" ++ ft ++ codes " " ++ xt ++ codes ")") (40 ∷ (ft ++ 32 ∷ (xt ++ 41 ∷ rest))) rest
        (at (l + 1) open_round ∷ a.placed ++ at (l + 1) space ∷ b.placed ++ at (l + 1) close_round ∷ []) (app_is f x) (text-app f x) (app_pieces ft xt rest) (apply a.derived b.derived)
        (between (l + 1) 40 32 41 ft xt rest a.placed b.placed lv refl refl refl a.lies b.lies)

    lam_pieces : (a b rest : List ℕ) → (codes "{" ++ a ++ codes "}" ++ b) ++ rest ≡ 123 ∷ (a ++ 125 ∷ (b ++ rest))
    lam_pieces a b rest = simp append_assoc

    lam_lies : (a : Ty) (b : Term) → Lie b → Lie (roll-Term (Term-F.Lam a b))
    lam_lies a b hb l rest named_ fit low stops =
        let are = both_true (ty_fits (length names.types) a) (term_named (length names.types) (length names.consts) b) (sym (named-lam (length names.types) (length names.consts) a b) ∙ named_) in
        let deep = nesting-lam a b in
        let lv : l + 1 ≤ most = omega arith in
        let at_ = type_text names a in
        let bt = term_text names b in
        let x = type_lies names each_type a (l + 1) (125 ∷ (bt ++ rest)) are.0 lv refl in
        let y = hb (l + 1) rest are.1 (sym (fits-lam a b) ∙ fit) (omega arith) stops in
        made l (terms.Lam a b) (roll-Term (Term-F.Lam a b)) _ (codes "{" ++ at_ ++ codes "}" ++ bt) (123 ∷ (at_ ++ 125 ∷ (bt ++ rest))) rest
        (at (l + 1) open_brace ∷ x.placed ++ at (l + 1) close_brace ∷ y.placed) (lam_is a b) (text-lam a b) (lam_pieces at_ bt rest) (lambda x.derived y.derived)
        (joined (123 ∷ (at_ ++ 125 ∷ (bt ++ rest))) (125 ∷ (bt ++ rest)) rest (at (l + 1) open_brace ∷ x.placed) (at (l + 1) close_brace ∷ y.placed)
        (sign_then (l + 1) 123 (at_ ++ 125 ∷ (bt ++ rest)) (125 ∷ (bt ++ rest)) x.placed lv refl x.lies)
        (sign_then (l + 1) 125 (bt ++ rest) rest y.placed lv refl y.lies))

    pub term_lies : (t : Term) → Lie t
    term_lies t = by_cases Lie bound_lies free_lies con_lies app_lies lam_lies t
