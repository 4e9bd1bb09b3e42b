-- Laws of the cells of terms.
use Rattle.std.proofs.Common.{◌≡◌, ℕ, suc, ◌+◌, ◌<◌, Bool, true, false, List, [], ◌∷◌, ◌++◌, length, map, take, drop, get_or, fold, sum, refl, sym, ap, ◌∙◌, arith}
use Rattle.std.proofs.lemmas.List.{append_assoc, append-nil, append_cancel_left, length-append, length-map, map-append, take_more}
use Rattle.std.proofs.lemmas.List.Sums.{fold-append}
use Rattle.fo_terms.specs.declared.term.FoTerm.{FoTerm}
use Rattle.fo_terms.specs.declared.term.FoTerm.TheOpen.{FoTerm-F}
use Rattle.fo_terms.specs.declared.term.FoTerm.TheFolds.{fold-roll-FoTerm}
use Rattle.fo_terms.specs.declared.term.FoTerm.TheVariants.{rolls-Var, rolls-Fun}
use Rattle.fo_terms.specs.Weight.{size_of}
use Rattle.fo_terms.specs.Substitution.{var, fun}
use Rattle.fo_terms.specs.declared.atom.Atom.TheVariants.{Eq}
use Rattle.fo_terms.specs.Same.{is_term}
use Rattle.fo_terms.specs.Normal.{is_refuted}
use Rattle.fo_terms.proofs.Sameness.{is_term_sound, is_term_itself, test_is}
use Rattle.fo_terms.proofs.Induction.{Each, by_cases}
use Rattle.fo_terms.proofs.Substitution.{size_var, size_fun, sum_cons}
use Rattle.fo_cells.specs.declared.cell.Cell.{Cell}
use Rattle.fo_cells.specs.declared.cell.Cell.TheVariants.{Var, Fun}
use Rattle.fo_cells.specs.Cells.{joined, symbol_cells, cells_step, cells_of}
use Rattle.fo_cells.proofs.Lists.{take_front, drop_front}
use Rattle.fo_cells.specs.inner.Seen.{cell_terms, terms_of, first_len}

-- ---- one equation a constructor

pub cells_var : (x : ℕ) → cells_of (var x) ≡ Var x ∷ []
cells_var x = ap cells_of (sym (rolls-Var x)) ∙ fold-roll-FoTerm (List Cell) cells_step (FoTerm-F.Var x)

pub cells_fun : (f : ℕ) (args : List FoTerm) → cells_of (fun f args) ≡ symbol_cells f (map cells_of args)
cells_fun f args = ap cells_of (sym (rolls-Fun f args)) ∙ fold-roll-FoTerm (List Cell) cells_step (FoTerm-F.Fun f args)

pub joined-append : {X : Type 0} (xs ys : List (List X)) → joined (xs ++ ys) ≡ joined xs ++ joined ys
joined-append [] ys = refl
joined-append (x ∷ xs) ys = ap (λ l. x ++ l) (joined-append xs ys) ∙ sym (append_assoc x (joined xs) (joined ys))

-- ---- read from the end, the cells of a term give the term

abbrev Reads : FoTerm → Type 0
Reads t = (rest : List Cell) → terms_of (cells_of t ++ rest) ≡ t ∷ terms_of rest

reads_symbol : (f size : ℕ) (args ts rest : List FoTerm) → ts ≡ args ++ rest → cell_terms (Fun (length (map cells_of args)) size f) ts ≡ fun f args ∷ rest
reads_symbol f size args ts rest is =
    ap (λ n. fun f (take n ts) ∷ drop n ts) (length-map args cells_of) ∙ ap (λ l. fun f (take (length args) l) ∷ drop (length args) l) is
    ∙ ap (λ l. fun f l ∷ drop (length args) (args ++ rest)) (take_front args rest) ∙ ap (λ l. fun f args ∷ l) (drop_front args rest)

reads_each : (ts : List FoTerm) → Each Reads ts → (rest : List Cell) → terms_of (joined (map cells_of ts) ++ rest) ≡ ts ++ terms_of rest
reads_each [] each rest = refl
reads_each (t ∷ ts) each rest =
    ap terms_of (append_assoc (cells_of t) (joined (map cells_of ts)) rest)
    ∙ each.0 (joined (map cells_of ts) ++ rest) ∙ ap (λ l. t ∷ l) (reads_each ts each.1 rest)

pub reads : (t : FoTerm) (rest : List Cell) → terms_of (cells_of t ++ rest) ≡ t ∷ terms_of rest
reads = by_cases Reads
    (λ x rest. ap (λ c. terms_of (c ++ rest)) (cells_var x))
    (λ f args each rest. ap (λ c. terms_of (c ++ rest)) (cells_fun f args)
    ∙ reads_symbol f (length (joined (map cells_of args)) + 1) args (terms_of (joined (map cells_of args) ++ rest)) (terms_of rest) (reads_each args each rest))

same_head : (s t : FoTerm) (ss ts : List FoTerm) → s ∷ ss ≡ t ∷ ts → s ≡ t
same_head s t ss ts h = cc

-- of two rows of cells that begin with a term's and are the same, the terms are the same, and what stands behind them
pub cells_apart : (s t : FoTerm) (a b : List Cell) → cells_of s ++ a ≡ cells_of t ++ b → (s ≡ t) × (a ≡ b)
cells_apart s t a b h =
    let same : s ≡ t = same_head s t (terms_of a) (terms_of b) (sym (reads s a) ∙ ap terms_of h ∙ reads t b) in
    (same, append_cancel_left (cells_of t) a b (ap (λ x. cells_of x ++ a) (sym same) ∙ h))

pub cells_injective : (s t : FoTerm) → cells_of s ≡ cells_of t → s ≡ t
cells_injective s t h = (cells_apart s t [] [] (ap (λ l. l ++ []) h)).0

-- ---- a cell for each symbol and variable

each_size : (ts : List FoTerm) → Each (λ t. length (cells_of t) ≡ size_of t) ts → length (joined (map cells_of ts)) ≡ sum (map size_of ts)
each_size [] each = refl
each_size (t ∷ ts) each =
    let rest : length (joined (map cells_of ts)) ≡ sum (map size_of ts) = each_size ts each.1 in
    omega (arith, each.0, length-append (cells_of t) (joined (map cells_of ts)), sum_cons (size_of t) (map size_of ts))

pub cells_size : (t : FoTerm) → length (cells_of t) ≡ size_of t
cells_size = by_cases (λ t. length (cells_of t) ≡ size_of t)
    (λ x. ap length (cells_var x) ∙ sym (size_var x))
    (λ f args each. ap length (cells_fun f args) ∙ omega (arith, each_size args each, size_fun f args))

pub all_size : (ts : List FoTerm) → length (joined (map cells_of ts)) ≡ sum (map size_of ts)
all_size [] = refl
all_size (t ∷ ts) = omega (arith, all_size ts, cells_size t, length-append (cells_of t) (joined (map cells_of ts)), sum_cons (size_of t) (map size_of ts))

-- ---- how many cells the first term takes

more_is_suc : (n : ℕ) → n + 1 ≡ suc n
more_is_suc n = omega arith

pub front_len : (t : FoTerm) (rest : List Cell) → first_len (cells_of t ++ rest) ≡ length (cells_of t)
front_len = by_cases (λ t. (rest : List Cell) → first_len (cells_of t ++ rest) ≡ length (cells_of t))
    (λ x rest. ap (λ c. first_len (c ++ rest)) (cells_var x) ∙ sym (ap length (cells_var x)))
    (λ f args each rest. ap (λ c. first_len (c ++ rest)) (cells_fun f args) ∙ more_is_suc (length (joined (map cells_of args))) ∙ sym (ap length (cells_fun f args)))

-- ---- what a fold makes of cells in a row

pub joined_more : {X : Type 0} (f : X → List Cell) (xs : List X) (i : ℕ) (x : X) → i < length xs → x ≡ get_or xs i x
    → joined (map f (take (i + 1) xs)) ≡ joined (map f (take i xs)) ++ f x
joined_more f xs i x within is =
    ap (λ l. joined (map f l)) (take_more xs i x within) ∙ ap joined (map-append f (take i xs) (get_or xs i x ∷ []))
    ∙ joined-append (map f (take i xs)) (f (get_or xs i x) ∷ []) ∙ ap (λ l. joined (map f (take i xs)) ++ l) (append-nil (f (get_or xs i x)) ∙ ap f (sym is))

pub fold_joined_more : {X A : Type 0} (g : A → Cell → A) (f : X → List Cell) (start now next : A) (xs : List X) (i : ℕ) (x : X) → i < length xs → x ≡ get_or xs i x
    → now ≡ fold g start (joined (map f (take i xs))) → next ≡ fold g now (f x) → next ≡ fold g start (joined (map f (take (i + 1) xs)))
fold_joined_more g f start now next xs i x within is so step =
    step ∙ ap (λ a. fold g a (f x)) so ∙ sym (fold-append g start (joined (map f (take i xs))) (f x)) ∙ ap (fold g start) (sym (joined_more f xs i x within is))

-- ---- two terms in a row

term_test : (b : Bool) (s t : FoTerm) → (b ≡ true → s ≡ t) → (s ≡ t → b ≡ true) → b ≡ is_term s t
term_test b s t from to = test_is is_term is_term_sound is_term_itself b s t from to

bools_apart : false ≡ true → ⊥
bools_apart h = cc

pub doubled_short : (s t : FoTerm) (cells : List Cell) (n : ℕ) → cells_of s ++ cells_of t ≡ cells → n ≡ length (cells_of s) → length cells < n → false ≡ is_term s t
doubled_short s t cells n is len short =
    absurd (omega (arith, ap length is, length-append (cells_of s) (cells_of t)))

pub doubled : (s t : FoTerm) (cells : List Cell) (n : ℕ) (r : Bool) → cells_of s ++ cells_of t ≡ cells → n ≡ length (cells_of s)
    → (r ≡ true → take n cells ≡ drop n cells) → (take n cells ≡ drop n cells → r ≡ true) → r ≡ is_term s t
doubled s t cells n r is len from to =
    let front : take n cells ≡ cells_of s = ap (λ k. take k cells) len ∙ ap (take (length (cells_of s))) (sym is) ∙ take_front (cells_of s) (cells_of t) in
    let back : drop n cells ≡ cells_of t = ap (λ k. drop k cells) len ∙ ap (drop (length (cells_of s))) (sym is) ∙ drop_front (cells_of s) (cells_of t) in
    term_test r s t (λ h. cells_injective s t (sym front ∙ from h ∙ back)) (λ e. to (front ∙ ap cells_of e ∙ sym back))

pub refuted_never : (positive : Bool) (s t : FoTerm) → positive ≡ true → false ≡ is_refuted (record { positive = positive; atom = Eq s t })
refuted_never true s t h = refl
refuted_never false s t h = absurd (bools_apart h)

pub refuted_sides : (positive : Bool) (s t : FoTerm) (left right : List Cell) (r : Bool) → positive ≡ false → cells_of s ≡ left → cells_of t ≡ right
    → (r ≡ true → left ≡ right) → (left ≡ right → r ≡ true) → r ≡ is_refuted (record { positive = positive; atom = Eq s t })
refuted_sides true s t left right r h is so from to = absurd (bools_apart (sym h))
refuted_sides false s t left right r h is so from to =
    term_test r s t (λ e. cells_injective s t (is ∙ from e ∙ sym so)) (λ e. to (sym is ∙ ap cells_of e ∙ so))
