-- What is printed of a formula are lexemes that are cut again, and derivable as the formula.
use Rattle.std.proofs.Common.{◌≡◌, ℕ, suc, Bool, true, false, ◌&&◌, IsTrue, List, [], ◌∷◌, ◌++◌, length, refl, sym, ap, subst}
use Rattle.std.specs.Prelude.{codes, Option, Some, None}
use Rattle.std.specs.List.{list_all}
use Rattle.hol_terms.specs.declared.ty.Ty.{Ty}
use Rattle.hol_terms.specs.declared.term.Term.{Term}
use Rattle.hol_terms.proofs.Both.{both_true, and_true}
use Rattle.hol_formulas.specs.Atoms.{sides}
use Rattle.hol_formulas.specs.declared.formula.Junction.{Junction}
use Rattle.hol_formulas.specs.declared.formula.Junction.TheVariants as junctions
use Rattle.hol_formulas.specs.declared.formula.Quantifier.{Quantifier}
use Rattle.hol_formulas.specs.declared.formula.Quantifier.TheVariants as quantifiers
use Rattle.hol_formulas.specs.declared.formula.Formula.{Formula, roll-Formula}
use Rattle.hol_formulas.specs.declared.formula.Formula.TheOpen.{Formula-F}
use Rattle.hol_formulas.specs.declared.formula.Formula.TheFolds.{fold-roll-Formula, map-Formula}
use Rattle.lambda_lift.specs.declared.table.Aux.{Aux}
use Rattle.theory_terms.specs.declared.decl.Decl.{Decl}
use Rattle.tptp_print.specs.declared.page.Page.{Page}
use Rattle.tptp_print.specs.Pages.{word, pieces}
use Rattle.tptp_print.specs.Terms.{Part, part, variable}
use Rattle.tptp_print.specs.Terms as printed
use Rattle.tptp_print.specs.Formulas.{sign, quantifier_sign, formula_text}
use Rattle.tptp_print.specs.Formulas as printing
use Rattle.fo_terms.specs.declared.term.FoTerm.{FoTerm, Fun}
use Rattle.fo_terms.specs.declared.term.FoTerm.TheVariants.{outs-Fun}
use Rattle.fo_terms.specs.declared.atom.Atom.TheVariants.{Eq}
use Rattle.fo_terms.specs.declared.formula.FoFormula.{FoFormula}
use Rattle.fo_terms.specs.declared.formula.FoFormula.TheVariants as formula
use Rattle.tptp_syntax.specs.Grammar.{is_symbol_at, truth, Formula as Whole}
use Rattle.problem_laws.specs.inner.Readable.{readable_term, atom_readable, readable}
use Rattle.problem_laws.specs.inner.Readable as readings
use Rattle.problem_laws.specs.Formulas.{Core, tagged, core_of, atom_of, joined, bound, formula_step, formula_named}
use Rattle.problem_laws.proofs.Lexemes.{Mark, Open, Close, SquareOpen, SquareClose, Colon, Tilde, Each, One, And, Or, Imp, Iff, Equal, Lexeme, Name, Variable, Truth, Sign, laid, sign_first, cuttable}
use Rattle.problem_laws.proofs.Pages.{Front, Writes, also, said, varied}
use Rattle.problem_laws.proofs.TermsRead.{applied_reads}
use Rattle.problem_laws.proofs.FormulasRead.{Reads, Unit_, deep, whole, rounded, negated, both_and, both_or, both_imp, both_iff, each_read, one_read, truth_read, holds_read, equal_read}
use Rattle.hol_clausify.proofs.FormulaCases.{formula_by_cases}
use Rattle.problem_laws.proofs.Printing.{Cuts, named_well, number, tag_front, tag_writes, tag_cuts, tag_reads, term_ok}

abbrev junction_mark : Junction → Mark
junction_mark junctions.And = And
junction_mark junctions.Or = Or
junction_mark junctions.Imp = Imp
junction_mark junctions.Iff = Iff

sign_laid : (j : Junction) (ys : List Lexeme) → sign j ++ laid ys ≡ laid (Sign (junction_mark j) ∷ ys)
sign_laid junctions.And ys = refl
sign_laid junctions.Or ys = refl
sign_laid junctions.Imp ys = refl
sign_laid junctions.Iff ys = refl

abbrev quantifier_mark : Quantifier → Mark
quantifier_mark quantifiers.All = Each
quantifier_mark quantifiers.Ex = One

quantifier_laid : (q : Quantifier) (ys : List Lexeme) → quantifier_sign q ++ laid ys ≡ laid (Sign Open ∷ Sign (quantifier_mark q) ∷ Sign SquareOpen ∷ ys)
quantifier_laid quantifiers.All ys = refl
quantifier_laid quantifiers.Ex ys = refl

module _ (T : List Ty) (consts : List Decl) (W : List (List ℕ)) (named : IsTrue (list_all named_well consts)) where
  pub record FormulaOk (n : ℕ) (put : Page → Page) (a : (List ℕ → ℕ) → FoFormula) (r : Bool) : Type 0 where
    pub front : Front
    pub writes : Writes T put front
    pub cuts : Cuts front
    pub reads : IsTrue r → Reads W Unit_ 0 n front (λ S. a (number W S))

  change : (n : ℕ) (p q : Page → Page) (k j : (List ℕ → ℕ) → FoFormula) (r s : Bool) → p ≡ q → k ≡ j → r ≡ s → FormulaOk n p k r → FormulaOk n q j s
  change n p q k j r s e f g h = subst (λ b. FormulaOk n q j b) g (subst (λ z. FormulaOk n q z r) f (subst (λ z. FormulaOk n z k r) e h))

  closing : Writes T (word (codes ")")) (λ ys. Sign Close ∷ ys)
  closing = said T (codes ")") (λ ys. Sign Close ∷ ys) (λ ys. refl)

  opening : Writes T (word (codes "(")) (λ ys. Sign Open ∷ ys)
  opening = said T (codes "(") (λ ys. Sign Open ∷ ys) (λ ys. refl)

  not_ok : (n : ℕ) (p : Page → Page) (k : (List ℕ → ℕ) → FoFormula) (r : Bool) → FormulaOk n p k r → FormulaOk n (pieces (word (codes "(~ ") ∷ p ∷ word (codes ")") ∷ [])) (λ m. formula.Not (k m)) r
  not_ok n p k r h = record {
    front = λ ys. Sign Open ∷ Sign Tilde ∷ h.front (Sign Close ∷ ys);
    writes =
        also T (word (codes "(~ ")) (pieces (p ∷ word (codes ")") ∷ [])) (λ ys. Sign Open ∷ Sign Tilde ∷ ys) (λ ys. h.front (Sign Close ∷ ys))
        (said T (codes "(~ ") (λ ys. Sign Open ∷ Sign Tilde ∷ ys) (λ ys. refl)) (also T p (word (codes ")")) h.front (λ ys. Sign Close ∷ ys) h.writes closing);
    cuts = λ ys first cut. h.cuts (Sign Close ∷ ys) refl cut;
    reads = λ so.
        let a : List ℕ → FoFormula = λ S. k (number W S) in
        rounded W n (λ ys. Sign Tilde ∷ h.front ys) (λ S. formula.Not (a S))
        (whole W 1 n (λ ys. Sign Tilde ∷ h.front ys) (λ S. formula.Not (a S)) (negated W 1 n h.front a (deep W Unit_ n h.front a (h.reads so))));
  }

  two_body : (j : Junction) (n : ℕ) (f g : Front) (a b : List ℕ → FoFormula) → Reads W Unit_ 0 n f a → Reads W Unit_ 0 n g b →
      Reads W (Whole false) 1 n (λ ys. f (Sign (junction_mark j) ∷ g ys)) (λ S. joined j (a S) (b S))
  two_body junctions.And n f g a b hf hg = both_and W n f g a b hf hg
  two_body junctions.Or n f g a b hf hg = both_or W n f g a b hf hg
  two_body junctions.Imp n f g a b hf hg = both_imp W n f g a b hf hg
  two_body junctions.Iff n f g a b hf hg = both_iff W n f g a b hf hg

  module _ (table : List Aux) where
    two_ok : (n : ℕ) (j : Junction) (p q : Page → Page) (k l : (List ℕ → ℕ) → FoFormula) (r s : Bool) → FormulaOk n p k r → FormulaOk n q l s →
        FormulaOk n (pieces (word (codes "(") ∷ p ∷ word (sign j) ∷ q ∷ word (codes ")") ∷ [])) (λ m. joined j (k m) (l m)) (r && s)
    two_ok n j p q k l r s hp hq = record {
      front = λ ys. Sign Open ∷ hp.front (Sign (junction_mark j) ∷ hq.front (Sign Close ∷ ys));
      writes =
          also T (word (codes "(")) (pieces (p ∷ word (sign j) ∷ q ∷ word (codes ")") ∷ [])) (λ ys. Sign Open ∷ ys) (λ ys. hp.front (Sign (junction_mark j) ∷ hq.front (Sign Close ∷ ys))) opening
          (also T p (pieces (word (sign j) ∷ q ∷ word (codes ")") ∷ [])) hp.front (λ ys. Sign (junction_mark j) ∷ hq.front (Sign Close ∷ ys)) hp.writes
          (also T (word (sign j)) (pieces (q ∷ word (codes ")") ∷ [])) (λ ys. Sign (junction_mark j) ∷ ys) (λ ys. hq.front (Sign Close ∷ ys)) (said T (sign j) (λ ys. Sign (junction_mark j) ∷ ys) (sign_laid j))
          (also T q (word (codes ")")) hq.front (λ ys. Sign Close ∷ ys) hq.writes closing)));
      cuts = λ ys first cut. hp.cuts (Sign (junction_mark j) ∷ hq.front (Sign Close ∷ ys)) refl (hq.cuts (Sign Close ∷ ys) refl cut);
      reads = λ so.
          let both = both_true r s so in
          let a : List ℕ → FoFormula = λ S. k (number W S) in
          let b : List ℕ → FoFormula = λ S. l (number W S) in
          rounded W n (λ ys. hp.front (Sign (junction_mark j) ∷ hq.front ys)) (λ S. joined j (a S) (b S))
          (two_body j n hp.front hq.front a b (hp.reads both.0) (hq.reads both.1));
    }

    quantified_body : (q : Quantifier) (n : ℕ) (f : Front) (a : List ℕ → FoFormula) → Reads W Unit_ 0 (suc n) f a →
        Reads W Unit_ 1 n (λ ys. Sign (quantifier_mark q) ∷ Sign SquareOpen ∷ Variable n ∷ Sign SquareClose ∷ Sign Colon ∷ f ys) (λ S. bound q n (a S))
    quantified_body quantifiers.All n f a h = each_read W n f a h
    quantified_body quantifiers.Ex n f a h = one_read W n f a h

    quantified_ok : (n : ℕ) (q : Quantifier) (p : Page → Page) (k : (List ℕ → ℕ) → FoFormula) (r : Bool) → FormulaOk (suc n) p k r →
        FormulaOk n (pieces (word (quantifier_sign q) ∷ variable n ∷ word (codes "] : ") ∷ p ∷ word (codes ")") ∷ [])) (λ m. bound q n (k m)) r
    quantified_ok n q p k r h =
        let inner : Front = λ ys. Sign (quantifier_mark q) ∷ Sign SquareOpen ∷ Variable n ∷ Sign SquareClose ∷ Sign Colon ∷ h.front ys in
        record {
          front = λ ys. Sign Open ∷ inner (Sign Close ∷ ys);
          writes =
              also T (word (quantifier_sign q)) (pieces (variable n ∷ word (codes "] : ") ∷ p ∷ word (codes ")") ∷ [])) (λ ys. Sign Open ∷ Sign (quantifier_mark q) ∷ Sign SquareOpen ∷ ys)
              (λ ys. Variable n ∷ Sign SquareClose ∷ Sign Colon ∷ h.front (Sign Close ∷ ys)) (said T (quantifier_sign q) (λ ys. Sign Open ∷ Sign (quantifier_mark q) ∷ Sign SquareOpen ∷ ys) (quantifier_laid q))
              (also T (variable n) (pieces (word (codes "] : ") ∷ p ∷ word (codes ")") ∷ [])) (λ ys. Variable n ∷ ys) (λ ys. Sign SquareClose ∷ Sign Colon ∷ h.front (Sign Close ∷ ys)) (varied T n)
              (also T (word (codes "] : ")) (pieces (p ∷ word (codes ")") ∷ [])) (λ ys. Sign SquareClose ∷ Sign Colon ∷ ys) (λ ys. h.front (Sign Close ∷ ys))
              (said T (codes "] : ") (λ ys. Sign SquareClose ∷ Sign Colon ∷ ys) (λ ys. refl)) (also T p (word (codes ")")) h.front (λ ys. Sign Close ∷ ys) h.writes closing)));
          cuts = λ ys first cut. h.cuts (Sign Close ∷ ys) refl cut;
          reads = λ so.
              let a : List ℕ → FoFormula = λ S. k (number W S) in
              rounded W n inner (λ S. bound q n (a S))
              (whole W 1 n inner (λ S. bound q n (a S)) (quantified_body q n h.front a (h.reads so)));
        }

    truth_ok : (n : ℕ) (b : Bool) (w : List ℕ) (k : FoFormula) → ((ys : List Lexeme) → w ++ laid ys ≡ laid (Truth b ∷ ys)) → truth b ≡ k →
        FormulaOk n (word w) (λ m. k) true
    truth_ok n b w k is same = record {
      front = λ ys. Truth b ∷ ys;
      writes = said T w (λ ys. Truth b ∷ ys) is;
      cuts = λ ys first cut. and_true (sign_first ys) (cuttable ys) first cut;
      reads = λ so. subst (λ z. Reads W Unit_ 0 n (λ ys. Truth b ∷ ys) (λ S. z)) same (truth_read W b n);
    }

    -- ---- atoms
    abbrev core : Term → List Ty → (List ℕ → ℕ) → Core
    core t c m = core_of m T consts table t c

    holds_ok : (t : Term) (c : List Ty) →
        FormulaOk (length c) (pieces (word (codes "holds(") ∷ printed.tagged (part consts table t c) ∷ word (codes ")") ∷ [])) (λ m. atom_of m T consts table None t c) (readable_term t (length c))
    holds_ok t c =
        let n = length c in
        let p = part consts table t c in
        let h = term_ok T consts W named table t c in
        let f = tag_front T p.ty h.front in
        let whole_front : Front = λ ys. Name (codes "holds") ∷ Sign Open ∷ f (Sign Close ∷ ys) in
        record {
          front = whole_front;
          writes =
              also T (word (codes "holds(")) (pieces (printed.tagged p ∷ word (codes ")") ∷ [])) (λ ys. Name (codes "holds") ∷ Sign Open ∷ ys) (λ ys. f (Sign Close ∷ ys))
              (said T (codes "holds(") (λ ys. Name (codes "holds") ∷ Sign Open ∷ ys) (λ ys. refl))
              (also T (printed.tagged p) (word (codes ")")) f (λ ys. Sign Close ∷ ys) (tag_writes T consts W named n p (core t c) (readable_term t n) h) closing);
          cuts = λ ys first cut. tag_cuts T consts W named n p (core t c) (readable_term t n) h (Sign Close ∷ ys) refl cut;
          reads = λ so.
              let u : List ℕ → FoTerm = λ S. tagged (number W S) T (core t c (number W S)) in
              holds_read W n whole_front (λ S. Fun (number W S (codes "holds")) (u S ∷ [])) (applied_reads W n (codes "holds") f u (tag_reads T consts W named n p (core t c) (readable_term t n) h so))
              (λ S. ap is_symbol_at (outs-Fun (number W S (codes "holds")) (u S ∷ [])));
        }

    equal_ok : (s t : Term) (c : List Ty) →
        FormulaOk (length c) (pieces (word (codes "(") ∷ printed.tagged (part consts table s c) ∷ word (codes " = ") ∷ printed.tagged (part consts table t c) ∷ word (codes ")") ∷ []))
        (λ m. atom_of m T consts table (Some (s, t)) s c) (readable_term s (length c) && readable_term t (length c))
    equal_ok s t c =
        let n = length c in
        let p = part consts table s c in
        let q = part consts table t c in
        let hp = term_ok T consts W named table s c in
        let hq = term_ok T consts W named table t c in
        let f = tag_front T p.ty hp.front in
        let g = tag_front T q.ty hq.front in
        record {
          front = λ ys. Sign Open ∷ f (Sign Equal ∷ g (Sign Close ∷ ys));
          writes =
              also T (word (codes "(")) (pieces (printed.tagged p ∷ word (codes " = ") ∷ printed.tagged q ∷ word (codes ")") ∷ [])) (λ ys. Sign Open ∷ ys) (λ ys. f (Sign Equal ∷ g (Sign Close ∷ ys))) opening
              (also T (printed.tagged p) (pieces (word (codes " = ") ∷ printed.tagged q ∷ word (codes ")") ∷ [])) f (λ ys. Sign Equal ∷ g (Sign Close ∷ ys)) (tag_writes T consts W named n p (core s c) (readable_term s n) hp)
              (also T (word (codes " = ")) (pieces (printed.tagged q ∷ word (codes ")") ∷ [])) (λ ys. Sign Equal ∷ ys) (λ ys. g (Sign Close ∷ ys)) (said T (codes " = ") (λ ys. Sign Equal ∷ ys) (λ ys. refl))
              (also T (printed.tagged q) (word (codes ")")) g (λ ys. Sign Close ∷ ys) (tag_writes T consts W named n q (core t c) (readable_term t n) hq) closing)));
          cuts = λ ys first cut.
              tag_cuts T consts W named n p (core s c) (readable_term s n) hp (Sign Equal ∷ g (Sign Close ∷ ys)) refl
              (tag_cuts T consts W named n q (core t c) (readable_term t n) hq (Sign Close ∷ ys) refl cut);
          reads = λ so.
              let both = both_true (readable_term s n) (readable_term t n) so in
              let u : List ℕ → FoTerm = λ S. tagged (number W S) T (core s c (number W S)) in
              let v : List ℕ → FoTerm = λ S. tagged (number W S) T (core t c (number W S)) in
              let a : List ℕ → FoFormula = λ S. formula.Atom (Eq (u S) (v S)) in
              rounded W n (λ ys. f (Sign Equal ∷ g ys)) a
              (whole W 1 n (λ ys. f (Sign Equal ∷ g ys)) a
              (equal_read W n f g u v (tag_reads T consts W named n p (core s c) (readable_term s n) hp both.0) (tag_reads T consts W named n q (core t c) (readable_term t n) hq both.1)));
        }

    atom_by : (o : Option (Term × Term)) (t : Term) (c : List Ty) → FormulaOk (length c) (printing.atom_of consts table o t c) (λ m. atom_of m T consts table o t c) (atom_readable o t (length c))
    atom_by None t c = holds_ok t c
    atom_by (Some e) t c = equal_ok e.0 e.1 c

    -- ---- any formula
    abbrev Prints : Formula → Type 0
    Prints f = (c : List Ty) → FormulaOk (length c) (formula_text consts table f c) (λ m. formula_named m T consts table f c) (readable f (length c))

    made : (x : Formula-F Formula) (c : List Ty) (y : Page → Page) (k : (List ℕ → ℕ) → FoFormula) (r : Bool) → formula_text consts table (roll-Formula x) c ≡ y →
        ((m : List ℕ → ℕ) → formula_named m T consts table (roll-Formula x) c ≡ k m) → readable (roll-Formula x) (length c) ≡ r → FormulaOk (length c) y k r →
        FormulaOk (length c) (formula_text consts table (roll-Formula x) c) (λ m. formula_named m T consts table (roll-Formula x) c) (readable (roll-Formula x) (length c))
    made x c y k r e f g h =
        change (length c) y (formula_text consts table (roll-Formula x) c) k (λ m. formula_named m T consts table (roll-Formula x) c) r (readable (roll-Formula x) (length c)) (sym e) (λ i m. sym (f m) i) (sym g) h

    abbrev text : Formula → List Ty → Page → Page
    text = formula_text consts table

    abbrev named_in : Formula → List Ty → (List ℕ → ℕ) → FoFormula
    named_in f c m = formula_named m T consts table f c

    module _ (x : Formula-F Formula) (c : List Ty) where
      text_folds : text (roll-Formula x) c ≡ printing.formula_step consts table (map-Formula Formula (List Ty → Page → Page) text x) c
      text_folds = ap (λ g. g c) (fold-roll-Formula (List Ty → Page → Page) (printing.formula_step consts table) x)

      named_folds : (m : List ℕ → ℕ) → named_in (roll-Formula x) c m ≡ formula_step m T consts table (map-Formula Formula (List Ty → FoFormula) (formula_named m T consts table) x) c
      named_folds m = ap (λ g. g c) (fold-roll-Formula (List Ty → FoFormula) (formula_step m T consts table) x)

      readable_folds : readable (roll-Formula x) (length c) ≡ readings.formula_step (map-Formula Formula (ℕ → Bool) readable x) (length c)
      readable_folds = ap (λ g. g (length c)) (fold-roll-Formula (ℕ → Bool) readings.formula_step x)

    true_prints : Prints (roll-Formula Formula-F.True)
    true_prints c =
        made Formula-F.True c (word (codes "$true")) (λ m. formula.True) true (text_folds Formula-F.True c) (named_folds Formula-F.True c) (readable_folds Formula-F.True c)
        (truth_ok (length c) true (codes "$true") formula.True (λ ys. refl) refl)

    false_prints : Prints (roll-Formula Formula-F.False)
    false_prints c =
        made Formula-F.False c (word (codes "$false")) (λ m. formula.False) true (text_folds Formula-F.False c) (named_folds Formula-F.False c) (readable_folds Formula-F.False c)
        (truth_ok (length c) false (codes "$false") formula.False (λ ys. refl) refl)

    atom_prints : (t : Term) → Prints (roll-Formula (Formula-F.Atom t))
    atom_prints t c =
        made (Formula-F.Atom t) c (printing.atom_of consts table (sides t) t c) (λ m. atom_of m T consts table (sides t) t c) (atom_readable (sides t) t (length c)) (text_folds (Formula-F.Atom t) c)
        (named_folds (Formula-F.Atom t) c) (readable_folds (Formula-F.Atom t) c) (atom_by (sides t) t c)

    not_prints : (f : Formula) → Prints f → Prints (roll-Formula (Formula-F.Not f))
    not_prints f hf c =
        made (Formula-F.Not f) c (pieces (word (codes "(~ ") ∷ text f c ∷ word (codes ")") ∷ [])) (λ m. formula.Not (named_in f c m)) (readable f (length c)) (text_folds (Formula-F.Not f) c)
        (named_folds (Formula-F.Not f) c) (readable_folds (Formula-F.Not f) c) (not_ok (length c) (text f c) (named_in f c) (readable f (length c)) (hf c))

    two_prints : (j : Junction) (f h : Formula) → Prints f → Prints h → Prints (roll-Formula (Formula-F.Two j f h))
    two_prints j f h hf hh c =
        made (Formula-F.Two j f h) c (pieces (word (codes "(") ∷ text f c ∷ word (sign j) ∷ text h c ∷ word (codes ")") ∷ [])) (λ m. joined j (named_in f c m) (named_in h c m))
        (readable f (length c) && readable h (length c)) (text_folds (Formula-F.Two j f h) c) (named_folds (Formula-F.Two j f h) c) (readable_folds (Formula-F.Two j f h) c)
        (two_ok (length c) j (text f c) (text h c) (named_in f c) (named_in h c) (readable f (length c)) (readable h (length c)) (hf c) (hh c))

    quantified_prints : (q : Quantifier) (a : Ty) (t : Term) (f : Formula) → Prints f → Prints (roll-Formula (Formula-F.Quantified q a t f))
    quantified_prints q a t f hf c =
        made (Formula-F.Quantified q a t f) c (pieces (word (quantifier_sign q) ∷ variable (length c) ∷ word (codes "] : ") ∷ text f (a ∷ c) ∷ word (codes ")") ∷ []))
        (λ m. bound q (length c) (named_in f (a ∷ c) m)) (readable f (suc (length c))) (text_folds (Formula-F.Quantified q a t f) c) (named_folds (Formula-F.Quantified q a t f) c)
        (readable_folds (Formula-F.Quantified q a t f) c) (quantified_ok (length c) q (text f (a ∷ c)) (named_in f (a ∷ c)) (readable f (suc (length c))) (hf (a ∷ c)))

    pub formula_ok : (f : Formula) → Prints f
    formula_ok = formula_by_cases Prints true_prints false_prints atom_prints not_prints two_prints quantified_prints
