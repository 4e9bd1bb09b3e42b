-- Lexemes of formulas are derivable as formulas.
use Rattle.std.proofs.Common.{◌≡◌, inl, inr, ℕ, suc, ◌+◌, ◌-◌, ◌≤◌, ◌<◌, Bool, true, false, List, [], ◌∷◌, ◌++◌, length, map, refl, sym, ap, subst, ◌∙◌, arith}
use Rattle.std.proofs.lemmas.Bool.{cases_lt}
use Rattle.std.proofs.lemmas.List.{append-nil}
use Rattle.first_fault.specs.Levels.{put, Within}
use Rattle.first_fault.proofs.Fronts.{put-append, within-append}
use Rattle.fo_terms.specs.declared.term.FoTerm.{FoTerm}
use Rattle.fo_terms.specs.declared.atom.Atom.TheVariants.{Holds, Eq}
use Rattle.fo_terms.specs.declared.formula.FoFormula.{FoFormula}
use Rattle.fo_terms.specs.declared.formula.FoFormula.TheVariants as formula
use Rattle.tptp_syntax.specs.declared.tokens.Quant.{Quant}
use Rattle.tptp_syntax.specs.declared.tokens.Quant.TheVariants as quant
use Rattle.tptp_syntax.specs.declared.tokens.Chain.{Chain}
use Rattle.tptp_syntax.specs.declared.tokens.Chain.TheVariants as chain
use Rattle.tptp_syntax.specs.declared.tokens.Pair.{Pair}
use Rattle.tptp_syntax.specs.declared.tokens.Pair.TheVariants as pair
use Rattle.tptp_syntax.specs.declared.tokens.Tok.TheVariants as tok
use Rattle.tptp_syntax.specs.declared.sorts.Kind.TheVariants as kind
use Rattle.tptp_syntax.specs.declared.sorts.Mode.TheVariants as mode
use Rattle.tptp_syntax.specs.Grammar as g
use Rattle.tptp_syntax.specs.Grammar.{Placed, at, most, truth, join, couple, quantified, is_symbol, Sort, Start, Formula, IsFormula, may_join}
use Rattle.problem_laws.proofs.Lexemes.{Mark, Open, Close, SquareOpen, SquareClose, Colon, Tilde, Each, One, And, Or, Imp, Iff, Equal, Lexeme, Variable, Truth, Sign, variable_word, mark_tok}
use Rattle.problem_laws.proofs.Words.{num, tok_of, IsKnown, Below}
use Rattle.problem_laws.proofs.Pages.{Front}
use Rattle.problem_laws.proofs.Sounds.{Sound, closed}
use Rattle.problem_laws.proofs.TermsRead.{tab, Grown, grown_on, vars, vars_length, Scope, deeper, TermReads}

abbrev pub Unit_ : Sort
Unit_ = Start kind.Unit

module _ (W : List (List ℕ)) where
  pub record FormulaRead (s : Sort) (l n : ℕ) (ns : List ℕ) (a : List ℕ → FoFormula) (xs ys : List Lexeme) : Type 0 where
    pub placed : List Placed
    pub behind : List ℕ
    pub grown : Grown ns behind
    pub below : Below (length W) behind
    pub derives : (S : List ℕ) → Grown behind S → IsFormula l s (tab ns (vars W n)) placed (a S) (tab behind (vars W n))
    pub tokens : map (tok_of W) xs ≡ put placed (map (tok_of W) ys)
    pub within : Within most placed
    pub sound : Sound W l ys

  -- below so many brackets more than there are quantifiers, and `e` more than that
  abbrev pub Reads : Sort → ℕ → ℕ → Front → (List ℕ → FoFormula) → Type 0
  Reads s e n front a = (l : ℕ) (ns : List ℕ) (ys : List Lexeme) → Scope W l n → n + e < l → Below (length W) ns → Sound W l (front ys) → FormulaRead s l n ns a (front ys) ys

  low : 0 ≤ most
  low = omega arith

  pub deep : (s : Sort) (n : ℕ) (f : Front) (a : List ℕ → FoFormula) → Reads s 0 n f a → Reads s 1 n f a
  deep s n f a h l ns ys sc few be so = h l ns ys sc (omega arith) be so

  pub whole : (e n : ℕ) (f : Front) (a : List ℕ → FoFormula) → Reads Unit_ e n f a → Reads (Formula false) e n f a
  whole e n f a h l ns ys sc few be so =
      let r = h l ns ys sc few be so in
      record {
        placed = r.placed ++ [];
        behind = r.behind;
        grown = r.grown;
        below = r.below;
        derives = λ S k. g.joined (r.derives S k) g.nothing;
        tokens = r.tokens ∙ sym (put-append r.placed [] (map (tok_of W) ys));
        within = within-append most r.placed [] r.within tt;
        sound = r.sound;
      }

  pub rounded : (n : ℕ) (f : Front) (a : List ℕ → FoFormula) → Reads (Formula false) 1 n f a → Reads Unit_ 0 n (λ ys. Sign Open ∷ f (Sign Close ∷ ys)) a
  rounded n f a h l ns ys sc few be so =
      let end : List Placed = at 0 (tok.Close false) ∷ [] in
      let r = h (l + 1) ns (Sign Close ∷ ys) (deeper W l n sc so.0) (omega arith) be so.1 in
      record {
        placed = at (l + 1) (tok.Open false) ∷ (r.placed ++ end);
        behind = r.behind;
        grown = r.grown;
        below = r.below;
        derives = λ S k. g.round (r.derives S k);
        tokens = ap (λ ts. tok.Open false ∷ ts) (r.tokens ∙ sym (put-append r.placed end (map (tok_of W) ys)));
        within = (so.0, within-append most r.placed end r.within (low, tt));
        sound = closed W l ys r.sound;
      }

  pub negated : (e n : ℕ) (f : Front) (a : List ℕ → FoFormula) → Reads Unit_ e n f a → Reads Unit_ e n (λ ys. Sign Tilde ∷ f ys) (λ S. formula.Not (a S))
  negated e n f a h l ns ys sc few be so =
      let r = h l ns ys sc few be so in
      record {
        placed = at 0 tok.Tilde ∷ r.placed;
        behind = r.behind;
        grown = r.grown;
        below = r.below;
        derives = λ S k. g.negation refl (r.derives S k);
        tokens = ap (λ ts. tok.Tilde ∷ ts) r.tokens;
        within = (low, r.within);
        sound = r.sound;
      }

  -- ---- a sign between two formulas
  module _ (n : ℕ) (f h : Front) (a b : List ℕ → FoFormula) (hf : Reads Unit_ 0 n f a) (hh : Reads Unit_ 0 n h b) where
    chains : (m : Mark) (o : Chain) → mark_tok m ≡ tok.Chain o → ((l : ℕ) (ys : List Lexeme) → Sound W l (Sign m ∷ ys) → Sound W l ys) → may_join false mode.Fresh o ≡ true →
        Reads (Formula false) 1 n (λ ys. f (Sign m ∷ h ys)) (λ S. join o (a S) (b S))
    chains m o is pass may l ns ys sc few be so =
        let r = hf l ns (Sign m ∷ h ys) sc (omega arith) be so in
        let q = hh l r.behind ys sc (omega arith) r.below (pass l (h ys) r.sound) in
        let rest : List Placed = at 0 (tok.Chain o) ∷ (q.placed ++ []) in
        record {
          placed = r.placed ++ rest;
          behind = q.behind;
          grown = grown_on ns r.behind q.behind r.grown q.grown;
          below = q.below;
          derives = λ S k. g.joined (r.derives S (grown_on r.behind q.behind S q.grown k)) (g.chained may (q.derives S k) g.nothing);
          tokens = r.tokens
              ∙ (λ i. put r.placed (is i ∷ (q.tokens ∙ sym (put-append q.placed [] (map (tok_of W) ys))) i))
              ∙ sym (put-append r.placed rest (map (tok_of W) ys));
          within = within-append most r.placed rest r.within (low, within-append most q.placed [] q.within tt);
          sound = q.sound;
        }

    couples : (m : Mark) (o : Pair) → mark_tok m ≡ tok.Pair o → ((l : ℕ) (ys : List Lexeme) → Sound W l (Sign m ∷ ys) → Sound W l ys) →
        Reads (Formula false) 1 n (λ ys. f (Sign m ∷ h ys)) (λ S. couple o (a S) (b S))
    couples m o is pass l ns ys sc few be so =
        let r = hf l ns (Sign m ∷ h ys) sc (omega arith) be so in
        let q = hh l r.behind ys sc (omega arith) r.below (pass l (h ys) r.sound) in
        let rest : List Placed = at 0 (tok.Pair o) ∷ q.placed in
        record {
          placed = r.placed ++ rest;
          behind = q.behind;
          grown = grown_on ns r.behind q.behind r.grown q.grown;
          below = q.below;
          derives = λ S k. g.joined (r.derives S (grown_on r.behind q.behind S q.grown k)) (g.coupled (q.derives S k));
          tokens = r.tokens ∙ (λ i. put r.placed (is i ∷ q.tokens i)) ∙ sym (put-append r.placed rest (map (tok_of W) ys));
          within = within-append most r.placed rest r.within (low, q.within);
          sound = q.sound;
        }

    pub both_and : Reads (Formula false) 1 n (λ ys. f (Sign And ∷ h ys)) (λ S. formula.And (a S) (b S))
    both_and = chains And chain.And refl (λ l ys s. s) refl

    pub both_or : Reads (Formula false) 1 n (λ ys. f (Sign Or ∷ h ys)) (λ S. formula.Or (a S) (b S))
    both_or = chains Or chain.Or refl (λ l ys s. s) refl

    pub both_imp : Reads (Formula false) 1 n (λ ys. f (Sign Imp ∷ h ys)) (λ S. formula.Imp (a S) (b S))
    both_imp = couples Imp pair.Imp refl (λ l ys s. s)

    pub both_iff : Reads (Formula false) 1 n (λ ys. f (Sign Iff ∷ h ys)) (λ S. formula.Iff (a S) (b S))
    both_iff = couples Iff pair.Iff refl (λ l ys s. s)

  -- ---- quantifiers
  abbrev quant_mark : Quant → Mark
  quant_mark quant.Each = Each
  quant_mark quant.One = One

  scoped : (l n : ℕ) → Scope W l n → n + 1 < l → IsKnown W (variable_word n) → Scope W l (suc n)
  scoped l n s few here = record {
    fewer = omega arith;
    room = s.room;
    known = λ k less. elim (cases_lt k n) [
      | inl before ↦ s.known k before
      | inr behind ↦ let same : n ≡ k = omega arith in subst (λ j. IsKnown W (variable_word j)) same here
    ];
  }

  module _ (n : ℕ) (f : Front) (a : List ℕ → FoFormula) (h : Reads Unit_ 0 (suc n) f a) where
    bound_over : (q : Quant) (l : ℕ) (ns : List ℕ) (ys : List Lexeme) → Scope W l n → n + 1 < l → Below (length W) ns → l + 1 ≤ most → IsKnown W (variable_word n) → Sound W l (f ys) → (x : Mark) →
        mark_tok x ≡ tok.Quant q →
        FormulaRead Unit_ l n ns (λ S. quantified q n (a S)) (Sign x ∷ Sign SquareOpen ∷ Variable n ∷ Sign SquareClose ∷ Sign Colon ∷ f ys) ys
    bound_over q l ns ys sc few be room here so x is =
        let r = h l ns ys (scoped l n sc few here) (omega arith) be so in
        let y = num W (variable_word n) in
        let ps : List Placed = at 0 (tok.Quant q) ∷ at (l + 1) (tok.Open true) ∷ at 0 (tok.Upper y) ∷ at 0 (tok.Close true) ∷ at 0 tok.Colon ∷ r.placed in
        record {
          placed = ps;
          behind = r.behind;
          grown = r.grown;
          below = r.below;
          derives = λ S k.
              subst (λ j. IsFormula l Unit_ (tab ns (vars W n)) ps (quantified q j (a S)) (tab r.behind (vars W n))) (vars_length W n)
              (g.quantifier (g.last (r.derives S k)));
          tokens = λ i. is i ∷ tok.Open true ∷ tok.Upper y ∷ tok.Close true ∷ tok.Colon ∷ r.tokens i;
          within = (low, (room, (low, (low, (low, r.within)))));
          sound = r.sound;
        }

    back : (l : ℕ) (ys : List Lexeme) → Sound W (l + 1 - 1) (f ys) → Sound W l (f ys)
    back l ys = closed W l (f ys)

    pub each_read : Reads Unit_ 1 n (λ ys. Sign Each ∷ Sign SquareOpen ∷ Variable n ∷ Sign SquareClose ∷ Sign Colon ∷ f ys) (λ S. formula.Each n (a S))
    each_read l ns ys sc few be so = bound_over quant.Each l ns ys sc few be so.0 so.1.0 (back l ys so.1.1) Each refl

    pub one_read : Reads Unit_ 1 n (λ ys. Sign One ∷ Sign SquareOpen ∷ Variable n ∷ Sign SquareClose ∷ Sign Colon ∷ f ys) (λ S. formula.One n (a S))
    one_read l ns ys sc few be so = bound_over quant.One l ns ys sc few be so.0 so.1.0 (back l ys so.1.1) One refl

  -- ---- atoms
  pub truth_read : (b : Bool) (n : ℕ) → Reads Unit_ 0 n (λ ys. Truth b ∷ ys) (λ S. truth b)
  truth_read b n l ns ys sc few be so =
      let ps : List Placed = at 0 (tok.Truth b) ∷ [] in
      record { placed = ps; behind = ns; grown = ([], sym (append-nil ns)); below = be; derives = λ S k. g.truth_word b; tokens = refl; within = (low, tt); sound = so }

  pub holds_read : (n : ℕ) (f : Front) (u : List ℕ → FoTerm) → TermReads W n f u → ((S : List ℕ) → is_symbol (u S) ≡ true) → Reads Unit_ 0 n f (λ S. formula.Atom (Holds (u S)))
  holds_read n f u h is l ns ys sc few be so =
      let r = h l ns ys sc be so in
      record { placed = r.placed; behind = r.behind; grown = r.grown; below = r.below; derives = λ S k. g.holds (r.derives S k) (is S); tokens = r.tokens; within = r.within; sound = r.sound }

  pub equal_read : (n : ℕ) (f h : Front) (u v : List ℕ → FoTerm) → TermReads W n f u → TermReads W n h v → Reads Unit_ 1 n (λ ys. f (Sign Equal ∷ h ys)) (λ S. formula.Atom (Eq (u S) (v S)))
  equal_read n f h u v hf hh l ns ys sc few be so =
      let r = hf l ns (Sign Equal ∷ h ys) sc be so in
      let q = hh l r.behind ys sc r.below r.sound in
      let rest : List Placed = at 0 (tok.Equal true) ∷ q.placed in
      record {
        placed = r.placed ++ rest;
        behind = q.behind;
        grown = grown_on ns r.behind q.behind r.grown q.grown;
        below = q.below;
        derives = λ S k. g.equal (r.derives S (grown_on r.behind q.behind S q.grown k)) true refl (q.derives S k);
        tokens = r.tokens ∙ ap (λ ts. put r.placed (tok.Equal true ∷ ts)) q.tokens ∙ sym (put-append r.placed rest (map (tok_of W) ys));
        within = within-append most r.placed rest r.within (low, q.within);
        sound = q.sound;
      }
