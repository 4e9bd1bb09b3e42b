-- Lexemes of terms are derivable as terms.
use Rattle.std.proofs.Common.{◌≡◌, inl, inr, ℕ, zero, suc, ◌+◌, ◌≤◌, ◌<◌, nat_eq, Bool, true, false, ◌||◌, List, [], ◌∷◌, ◌++◌, length, map, refl, sym, ap, subst, ◌∙◌, arith, if◌then◌else◌, append_assoc, eq-eqb}
use Rattle.std.specs.Prelude.{codes, decimal}
use Rattle.std.specs.List.{list_any}
use Rattle.std.proofs.lemmas.List.{append-nil, append_cancel_left}
use Rattle.std.proofs.lemmas.Bool.{cases_lt, ne_eqb}
use Rattle.std.proofs.lemmas.Fmt.{decimal_injective}
use Rattle.first_fault.specs.Levels.{put, Within}
use Rattle.first_fault.proofs.Fronts.{put-append, within-append}
use Rattle.fo_terms.specs.declared.term.FoTerm.{FoTerm, Var, Fun}
use Rattle.tptp_syntax.specs.declared.tokens.Tok.TheVariants as tok
use Rattle.tptp_syntax.specs.Grammar.{Placed, at, most, Table, symbol_number, with_symbol, is_bound, bound_number, with_variable, Term, IsTerm, variable, constant, applied, argument, another, last}
use Rattle.problem_laws.proofs.Places.{or_true, noted, noted_more, stays}
use Rattle.problem_laws.proofs.Lexemes.{Open, Close, Comma, Lexeme, Name, Variable, Sign, variable_word}
use Rattle.problem_laws.proofs.Words.{num, tok_of, IsKnown, Below, one_number}
use Rattle.problem_laws.proofs.Pages.{Front}
use Rattle.problem_laws.proofs.Sounds.{Sound, closed}

abbrev pub tab : List ℕ → List ℕ → Table
tab ns vs = record { symbols = ns; variables = vs }

-- ---- symbols
abbrev pub Grown : List ℕ → List ℕ → Type 0
Grown ns ms = (more : List ℕ) × (ms ≡ ns ++ more)

pub grown_on : (ns ms ks : List ℕ) → Grown ns ms → Grown ms ks → Grown ns ks
grown_on ns ms ks h k = (h.0 ++ k.0, k.1 ∙ ap (λ l. l ++ k.0) h.1 ∙ append_assoc ns h.0 k.0)

-- what a symbol's number is stays so
pub number_stays : (x : ℕ) (ns S : List ℕ) → Grown (noted (nat_eq x) x ns) S → symbol_number x ns ≡ symbol_number x S
number_stays x ns S h = sym (stays (nat_eq x) x (eq-eqb x x refl) ns h.0) ∙ ap (symbol_number x) (sym h.1)

below_append : (m : ℕ) (xs ys : List ℕ) → Below m xs → Below m ys → Below m (xs ++ ys)
below_append m [] ys hx hy = hy
below_append m (x ∷ xs) ys hx hy = (hx.0, below_append m xs ys hx.1 hy)

below_noted : (m x : ℕ) (ns : List ℕ) → x < m → Below m ns → Below m (noted (nat_eq x) x ns)
below_noted m x ns less h = by (list_any (nat_eq x) ns)
  where
    by : (b : Bool) → Below m (if b then ns else ns ++ x ∷ [])
    by true = h
    by false = below_append m ns (x ∷ []) h (less, tt)

module _ (W : List (List ℕ)) where
  -- ---- variables: of `n` quantifiers around, the innermost first
  abbrev pub vars : ℕ → List ℕ
  vars zero = []
  vars (suc n) = num W (variable_word n) ∷ vars n

  pub record Scope (l n : ℕ) : Type 0 where
    pub fewer : n < l
    pub room : l ≤ 4096
    pub known : (k : ℕ) → k < n → IsKnown W (variable_word k)

  pub deeper : (l n : ℕ) → Scope l n → l + 1 ≤ most → Scope (l + 1) n
  deeper l n s h = let f = s.fewer in record { fewer = omega arith; room = h; known = s.known }

  pub vars_length : (n : ℕ) → length (vars n) ≡ n
  vars_length zero = refl
  vars_length (suc n) = ap suc (vars_length n)

  is_among : (n k : ℕ) → k < n → is_bound (num W (variable_word k)) (vars n) ≡ true
  is_among zero k h = absurd (omega arith)
  is_among (suc n) k h = elim (cases_lt k n) [
    | inl before ↦ or_true (nat_eq (num W (variable_word k)) (num W (variable_word n))) (is_bound (num W (variable_word k)) (vars n)) (is_among n k before)
    | inr behind ↦
        let same : k ≡ n = omega arith in
        ap (λ b. b || is_bound (num W (variable_word k)) (vars n)) (eq-eqb (num W (variable_word k)) (num W (variable_word n)) (ap (λ j. num W (variable_word j)) same))
  ]

  other : (n k : ℕ) → k < n → n < 4096 → IsKnown W (variable_word k) → IsKnown W (variable_word n) → num W (variable_word k) ≡ num W (variable_word n) → ⊥
  other n k less few hk hn e =
      let words = one_number W (variable_word k) (variable_word n) hk hn e in
      let same : k ≡ n = decimal_injective k n (omega arith) (omega arith) (append_cancel_left (codes "X") (decimal k) (decimal n) words) in
      absurd (omega arith)

  number_among : (n k : ℕ) → k < n → n ≤ 4096 → ((j : ℕ) → j < n → IsKnown W (variable_word j)) → bound_number (num W (variable_word k)) (vars n) ≡ k
  number_among zero k h few known = absurd (omega arith)
  number_among (suc n) k h few known = elim (cases_lt k n) [
    | inl before ↦
        let differ = ne_eqb (num W (variable_word k)) (num W (variable_word n)) (other n k before (omega arith) (known k (omega arith)) (known n (omega arith))) in
        ap (λ b. if b then length (vars n) else bound_number (num W (variable_word k)) (vars n)) differ ∙ number_among n k before (omega arith) (λ j less. known j (omega arith))
    | inr behind ↦
        let same : k ≡ n = omega arith in
        let alike = eq-eqb (num W (variable_word k)) (num W (variable_word n)) (ap (λ j. num W (variable_word j)) same) in
        ap (λ b. if b then length (vars n) else bound_number (num W (variable_word k)) (vars n)) alike ∙ vars_length n ∙ sym same
  ]

  -- ---- a term, with its symbols numbered in a list that goes on from those behind it
  pub record TermRead (l n : ℕ) (ns : List ℕ) (u : List ℕ → FoTerm) (xs ys : List Lexeme) : Type 0 where
    pub placed : List Placed
    pub behind : List ℕ
    pub grown : Grown ns behind
    pub below : Below (length W) behind
    pub derives : (S : List ℕ) → Grown behind S → IsTerm false l Term (tab ns (vars n)) placed (u S) (tab behind (vars n))
    pub tokens : map (tok_of W) xs ≡ put placed (map (tok_of W) ys)
    pub within : Within most placed
    pub sound : Sound W l ys

  abbrev pub TermReads : ℕ → Front → (List ℕ → FoTerm) → Type 0
  TermReads n front u = (l : ℕ) (ns : List ℕ) (ys : List Lexeme) → Scope l n → Below (length W) ns → Sound W l (front ys) → TermRead l n ns u (front ys) ys

  low : 0 ≤ most
  low = omega arith

  pub variable_reads : (n k : ℕ) → k < n → TermReads n (λ ys. Variable k ∷ ys) (λ S. Var k)
  variable_reads n k h l ns ys s be so =
      let x = num W (variable_word k) in
      let ps : List Placed = at 0 (tok.Upper x) ∷ [] in
      let fewer = s.fewer in
      let room = s.room in
      let among = is_among n k h in
      let number = ap (λ b. if b then bound_number x (vars n) else length (vars n)) among ∙ number_among n k h (omega arith) s.known in
      let table = ap (λ b. tab ns (if b then vars n else x ∷ vars n)) among in
      record {
        placed = ps;
        behind = ns;
        grown = ([], sym (append-nil ns));
        below = be;
        derives = λ S g.
            subst (λ t. IsTerm false l Term (tab ns (vars n)) ps (Var k) t) table
            (subst (λ j. IsTerm false l Term (tab ns (vars n)) ps (Var j) (with_variable x (tab ns (vars n)))) number (variable among));
        tokens = refl;
        within = (low, tt);
        sound = so.1;
      }

  pub constant_reads : (n : ℕ) (w : List ℕ) → TermReads n (λ ys. Name w ∷ ys) (λ S. Fun (symbol_number (num W w) S) [])
  constant_reads n w l ns ys s be so =
      let x = num W w in
      let ps : List Placed = at 0 (tok.Name false x) ∷ [] in
      record {
        placed = ps;
        behind = noted (nat_eq x) x ns;
        grown = noted_more (nat_eq x) x ns;
        below = below_noted (length W) x ns so.0 be;
        derives = λ S g. subst (λ j. IsTerm false l Term (tab ns (vars n)) ps (Fun j []) (with_symbol x (tab ns (vars n)))) (number_stays x ns S g) constant;
        tokens = refl;
        within = (low, tt);
        sound = so.1;
      }

  -- a symbol with one argument
  pub applied_reads : (n : ℕ) (w : List ℕ) (f : Front) (u : List ℕ → FoTerm) → TermReads n f u →
      TermReads n (λ ys. Name w ∷ Sign Open ∷ f (Sign Close ∷ ys)) (λ S. Fun (symbol_number (num W w) S) (u S ∷ []))
  applied_reads n w f u hf l ns ys s be so =
      let x = num W w in
      let ns' = noted (nat_eq x) x ns in
      let end : List Placed = at 0 (tok.Close false) ∷ [] in
      let r = hf (l + 1) ns' (Sign Close ∷ ys) (deeper l n s so.1.0) (below_noted (length W) x ns so.0 be) so.1.1 in
      let ps : List Placed = at 0 (tok.Name false x) ∷ at (l + 1) (tok.Open false) ∷ (r.placed ++ end) in
      record {
        placed = ps;
        behind = r.behind;
        grown = grown_on ns ns' r.behind (noted_more (nat_eq x) x ns) r.grown;
        below = r.below;
        derives = λ S g.
            subst (λ j. IsTerm false l Term (tab ns (vars n)) ps (Fun j (u S ∷ [])) (tab r.behind (vars n))) (number_stays x ns S (grown_on ns' r.behind S r.grown g))
            (applied (argument (r.derives S g) last));
        tokens = ap (λ ts. tok.Name false x ∷ tok.Open false ∷ ts) (r.tokens ∙ sym (put-append r.placed end (map (tok_of W) ys)));
        within = (low, (so.1.0, within-append most r.placed end r.within (low, tt)));
        sound = closed W l ys r.sound;
      }

  -- a symbol with two arguments
  pub two_read : (n : ℕ) (w : List ℕ) (f g : Front) (u v : List ℕ → FoTerm) → TermReads n f u → TermReads n g v →
      TermReads n (λ ys. Name w ∷ Sign Open ∷ f (Sign Comma ∷ g (Sign Close ∷ ys))) (λ S. Fun (symbol_number (num W w) S) (u S ∷ v S ∷ []))
  two_read n w f g u v hf hg l ns ys s be so =
      let x = num W w in
      let ns' = noted (nat_eq x) x ns in
      let end : List Placed = at 0 (tok.Close false) ∷ [] in
      let inner = deeper l n s so.1.0 in
      let r = hf (l + 1) ns' (Sign Comma ∷ g (Sign Close ∷ ys)) inner (below_noted (length W) x ns so.0 be) so.1.1 in
      let q = hg (l + 1) r.behind (Sign Close ∷ ys) inner r.below r.sound in
      let rest : List Placed = at 0 tok.Comma ∷ (q.placed ++ end) in
      let ps : List Placed = at 0 (tok.Name false x) ∷ at (l + 1) (tok.Open false) ∷ (r.placed ++ rest) in
      record {
        placed = ps;
        behind = q.behind;
        grown = grown_on ns ns' q.behind (noted_more (nat_eq x) x ns) (grown_on ns' r.behind q.behind r.grown q.grown);
        below = q.below;
        derives = λ S h.
            let first = grown_on r.behind q.behind S q.grown h in
            subst (λ j. IsTerm false l Term (tab ns (vars n)) ps (Fun j (u S ∷ v S ∷ [])) (tab q.behind (vars n))) (number_stays x ns S (grown_on ns' r.behind S r.grown first))
            (applied (argument (r.derives S first) (another (argument (q.derives S h) last))));
        tokens = ap (λ ts. tok.Name false x ∷ tok.Open false ∷ ts)
            (r.tokens ∙ ap (λ ts. put r.placed (tok.Comma ∷ ts)) (q.tokens ∙ sym (put-append q.placed end (map (tok_of W) ys)))
            ∙ sym (put-append r.placed rest (map (tok_of W) ys)));
        within = (low, (so.1.0, within-append most r.placed rest r.within (low, within-append most q.placed end q.within (low, tt))));
        sound = closed W l ys q.sound;
      }
