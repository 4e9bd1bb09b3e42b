-- The statements of a problem, as they are written, are derivable as statements.
use Rattle.std.proofs.Common.{◌≡◌, ℕ, ◌+◌, ◌≤◌, Bool, true, false, IsTrue, List, [], ◌∷◌, ◌++◌, length, map, refl, sym, ap, subst, ◌∙◌, arith}
use Rattle.std.specs.Prelude.{codes}
use Rattle.std.specs.List.{list_all}
use Rattle.std.proofs.lemmas.Bool.{ne_eqb}
use Rattle.std.proofs.lemmas.List.{append-nil}
use Rattle.hol_terms.specs.declared.ty.Ty.{Ty}
use Rattle.hol_terms.specs.declared.sig.Sig.{Sig}
use Rattle.hol_terms.proofs.Both.{and_true}
use Rattle.lambda_lift.specs.declared.table.Aux.{Aux}
use Rattle.theory_terms.specs.declared.decl.Decl.{Decl}
use Rattle.theory_reader.specs.declared.statement.Fact.{Fact}
use Rattle.theory_reader.specs.declared.statement.Goal.{Goal}
use Rattle.tptp_print.specs.declared.page.Page.{Page}
use Rattle.tptp_print.specs.Pages.{word, pieces}
use Rattle.tptp_print.specs.Formulas.{formula_text}
use Rattle.tptp_print.specs.Problems.{role, fact_statements, goal_statement}
use Rattle.first_fault.specs.Levels.{put, Within}
use Rattle.first_fault.proofs.Fronts.{put-append, within-append}
use Rattle.tptp_syntax.specs.declared.tokens.Tok.TheVariants as tok
use Rattle.tptp_syntax.specs.declared.claim.Claimed.{Claimed}
use Rattle.tptp_syntax.specs.Tokens.{known_words, number_of}
use Rattle.tptp_syntax.specs.Grammar as g
use Rattle.tptp_syntax.specs.Grammar.{Placed, at, most, head, head_word, is_conjecture, IsList}
use Rattle.problem_laws.specs.Formulas.{formula_named}
use Rattle.problem_laws.specs.inner.Readable.{readable}
use Rattle.problem_laws.specs.Statements.{Item, item, fact_item, items}
use Rattle.problem_laws.proofs.Lexemes.{Open, Close, NextPart, Dot, Lexeme, Name, Sign, laid, is_lower_word, cuttable}
use Rattle.problem_laws.proofs.Words.{Grows, num, tok_of, IsKnown, Below}
use Rattle.problem_laws.proofs.Pages.{Front, Writes, also, said}
use Rattle.problem_laws.proofs.Sounds.{Sound}
use Rattle.problem_laws.proofs.TermsRead.{Grown, grown_on, Scope}
use Rattle.problem_laws.proofs.FormulasRead.{FormulaRead, whole}
use Rattle.problem_laws.proofs.Printing.{named_well, number}
use Rattle.problem_laws.proofs.PrintedFormulas.{formula_ok, FormulaOk}

abbrev pub role_word : Bool → List ℕ
role_word false = codes "axiom"
role_word true = codes "conjecture"

abbrev role_front : Bool → Front
role_front b ys = Sign NextPart ∷ Name (role_word b) ∷ Sign NextPart ∷ ys

role_laid : (b : Bool) (ys : List Lexeme) → role b ++ laid ys ≡ laid (role_front b ys)
role_laid false ys = refl
role_laid true ys = refl

role_fine : (b : Bool) (ys : List Lexeme) → cuttable (role_front b ys) ≡ cuttable ys
role_fine false ys = refl
role_fine true ys = refl

abbrev pub statement_front : List ℕ → Bool → Front → Front
statement_front name b f ys = Name (codes "fof") ∷ Sign Open ∷ Name name ∷ role_front b (f (Sign Close ∷ Sign Dot ∷ ys))

module _ (T : List Ty) (consts : List Decl) (W : List (List ℕ)) (named : IsTrue (list_all named_well consts)) where
  -- what an item's formula is printed as
  pub printed : (i : Item) → FormulaOk T consts W named 0 (formula_text consts i.table i.formula []) (λ m. formula_named m T consts i.table i.formula []) (readable i.formula 0)
  printed i = formula_ok T consts W named i.table i.formula []

  -- ---- what is written
  abbrev pub put_item : Item → Page → Page
  put_item i = pieces (word (codes "fof(") ∷ word i.name ∷ word (role i.conjecture) ∷ formula_text consts i.table i.formula [] ∷ word (codes ").\n") ∷ [])

  abbrev pub item_front : Item → Front
  item_front i = statement_front i.name i.conjecture (printed i).front

  item_writes : (i : Item) → Writes T (put_item i) (item_front i)
  item_writes i =
      let f = (printed i).front in
      let tail : Front = λ ys. f (Sign Close ∷ Sign Dot ∷ ys) in
      let b = i.conjecture in
      also T (word (codes "fof(")) (pieces (word i.name ∷ word (role b) ∷ formula_text consts i.table i.formula [] ∷ word (codes ").\n") ∷ [])) (λ ys. Name (codes "fof") ∷ Sign Open ∷ ys)
      (λ ys. Name i.name ∷ role_front b (tail ys)) (said T (codes "fof(") (λ ys. Name (codes "fof") ∷ Sign Open ∷ ys) (λ ys. refl))
      (also T (word i.name) (pieces (word (role b) ∷ formula_text consts i.table i.formula [] ∷ word (codes ").\n") ∷ [])) (λ ys. Name i.name ∷ ys) (λ ys. role_front b (tail ys))
      (said T i.name (λ ys. Name i.name ∷ ys) (λ ys. refl))
      (also T (word (role b)) (pieces (formula_text consts i.table i.formula [] ∷ word (codes ").\n") ∷ [])) (role_front b) tail (said T (role b) (role_front b) (role_laid b))
      (also T (formula_text consts i.table i.formula []) (word (codes ").\n")) f (λ ys. Sign Close ∷ Sign Dot ∷ ys) (printed i).writes
      (said T (codes ").\n") (λ ys. Sign Close ∷ Sign Dot ∷ ys) (λ ys. refl)))))

  item_cuts : (i : Item) → IsTrue (is_lower_word i.name) → (ys : List Lexeme) → IsTrue (cuttable ys) → IsTrue (cuttable (item_front i ys))
  item_cuts i h ys cut =
      let inner = (printed i).cuts (Sign Close ∷ Sign Dot ∷ ys) refl cut in
      and_true (is_lower_word i.name) (cuttable (role_front i.conjecture ((printed i).front (Sign Close ∷ Sign Dot ∷ ys)))) h (role_fine i.conjecture ((printed i).front (Sign Close ∷ Sign Dot ∷ ys)) ∙ inner)

  abbrev pub front_of : List Item → Front
  front_of [] ys = ys
  front_of (i ∷ is) ys = item_front i (front_of is ys)

  -- ---- each formula is readable, each name a word; the conjecture is the last
  abbrev pub IsGood : Item → Type 0
  IsGood i = IsTrue (is_lower_word i.name) × IsTrue (readable i.formula 0)

  abbrev pub AreGood : List Item → Type 0
  AreGood [] = Unit {0}
  AreGood (i ∷ is) = IsGood i × AreGood is

  pub all_cut : (is : List Item) → AreGood is → IsTrue (cuttable (front_of is []))
  all_cut [] h = refl
  all_cut (i ∷ is) h = item_cuts i h.0.0 (front_of is []) (all_cut is h.1)

  -- ---- what is read
  abbrev pub claim : List ℕ → Item → Claimed
  claim S i = record { name = num W i.name; conjecture = i.conjecture; formula = formula_named (number W S) T consts i.table i.formula [] }

  abbrev pub NamesKnown : List Item → Type 0
  NamesKnown [] = Unit {0}
  NamesKnown (i ∷ is) = IsKnown W i.name × NamesKnown is

  pub record ListRead (ns : List ℕ) (is : List Item) : Type 0 where
    pub placed : List Placed
    pub behind : List ℕ
    pub grown : Grown ns behind
    pub below : Below (length W) behind
    pub derives : (S : List ℕ) → Grown behind S → IsList false ns placed (record { symbols = behind; statements = map (claim S) is })
    pub tokens : map (tok_of W) (front_of is []) ≡ put placed []
    pub within : Within most placed
    pub names : NamesKnown is

  module _ (known : Grows known_words W) where
    fof_number : num W (codes "fof") ≡ 0
    fof_number = ap (number_of (codes "fof")) known.1

    conjecture_number : num W (codes "conjecture") ≡ 2
    conjecture_number = ap (number_of (codes "conjecture")) known.1

    axiom_other : is_conjecture (num W (codes "axiom")) ≡ false
    axiom_other =
        let far : num W (codes "axiom") ≡ 1 + (1 + (1 + number_of (codes "axiom") known.0)) = ap (number_of (codes "axiom")) known.1 in
        ne_eqb (num W (codes "axiom")) 2 (λ e. absurd (omega arith))

    role_is : (b : Bool) → is_conjecture (num W (role_word b)) ≡ b
    role_is false = axiom_other
    role_is true = ap is_conjecture conjecture_number

    low : 0 ≤ most
    low = omega arith

    outer : Scope W 1 0
    outer = record { fewer = omega arith; room = omega arith; known = λ k h. absurd (omega arith) }

    -- one statement in front of others, which are read over the symbols behind it
    module _ (i : Item) (is : List Item) (ns : List ℕ) (good : IsGood i) (below : Below (length W) ns) (sound : Sound W 0 (item_front i (front_of is []))) where
      abbrev rest : List Lexeme
      rest = front_of is []

      formula_read : FormulaRead W (g.Formula false) 1 0 ns (λ S. formula_named (number W S) T consts i.table i.formula []) ((printed i).front (Sign Close ∷ Sign Dot ∷ rest)) (Sign Close ∷ Sign Dot ∷ rest)
      formula_read = whole W 0 0 (printed i).front (λ S. formula_named (number W S) T consts i.table i.formula []) ((printed i).reads good.1) 1 ns (Sign Close ∷ Sign Dot ∷ rest) outer (omega arith) below sound.1.1.1.1

      abbrev heading : List Placed
      heading = head false false (num W i.name) (num W (role_word i.conjecture))

      abbrev front : List Placed
      front = (heading ++ formula_read.placed) ++ []

      abbrev whole_placed : List Placed → List Placed
      whole_placed r = front ++ (at 0 (tok.Close false) ∷ at 0 tok.Dot ∷ r)

      stated : (S : List ℕ) (r : List Placed) (v : g.Listed) → IsList i.conjecture formula_read.behind r v → Grown formula_read.behind S →
          IsList false ns (whole_placed r) (record { symbols = v.symbols; statements = claim S i ∷ v.statements })
      stated S r v d k =
          subst (λ b. IsList false ns (whole_placed r) (record { symbols = v.symbols; statements = record { name = num W i.name; conjecture = b; formula = formula_named (number W S) T consts i.table i.formula [] } ∷ v.statements }))
          (role_is i.conjecture)
          (g.statement {clausal = false} {quoted = false} {name = num W i.name} {role = num W (role_word i.conjecture)} {p = formula_read.placed} {q = []} {r = r} {v = v} refl (formula_read.derives S k) (g.end refl) (subst (λ b. IsList b formula_read.behind r v) (sym (role_is i.conjecture)) d))

      put_in_front : (r : List Placed) → map (tok_of W) rest ≡ put r [] → map (tok_of W) (item_front i rest) ≡ put (whole_placed r) []
      put_in_front r e =
          let end : List Placed = at 0 (tok.Close false) ∷ at 0 tok.Dot ∷ r in
          let inner = formula_read.tokens ∙ ap (λ ts. put formula_read.placed (tok.Close false ∷ tok.Dot ∷ ts)) e in
          (λ j. tok.Name false (fof_number j) ∷ tok.Open false ∷ tok.Name false (num W i.name) ∷ tok.Comma ∷ tok.Name false (num W (role_word i.conjecture)) ∷ tok.Comma ∷ inner j)
          ∙ sym (put-append (heading ++ formula_read.placed) [] (put end [])) ∙ sym (put-append front end [])

      all_within : (r : List Placed) → Within most r → Within most (whole_placed r)
      all_within r h =
          within-append most front (at 0 (tok.Close false) ∷ at 0 tok.Dot ∷ r)
          (within-append most (heading ++ formula_read.placed) [] (low, (omega arith, (low, (low, (low, (low, formula_read.within)))))) tt) (low, (low, h))

      statement_read : (r : List Placed) (behind : List ℕ) → Grown formula_read.behind behind → Below (length W) behind → ((S : List ℕ) → Grown behind S →
          IsList i.conjecture formula_read.behind r (record { symbols = behind; statements = map (claim S) is })) → map (tok_of W) rest ≡ put r [] → Within most r → NamesKnown is → ListRead ns (i ∷ is)
      statement_read r behind grown low_ derives tokens within names = record {
        placed = whole_placed r;
        behind = behind;
        grown = grown_on ns formula_read.behind behind formula_read.grown grown;
        below = low_;
        derives = λ S k. stated S r (record { symbols = behind; statements = map (claim S) is }) (derives S k) (grown_on formula_read.behind behind S grown k);
        tokens = put_in_front r tokens;
        within = all_within r within;
        names = (sound.1.1.0, names);
      }

    pub list_read : (sig : Sig) (goal : Goal) (fs : List Fact) (table : List Aux) (ns : List ℕ) → AreGood (items sig goal fs table) → Below (length W) ns → Sound W 0 (front_of (items sig goal fs table) []) →
        ListRead ns (items sig goal fs table)
    list_read sig goal [] table ns good below sound =
        let i = item sig true (codes "goal") goal.formula table in
        let r = formula_read i [] ns good.0 below sound in
        statement_read i [] ns good.0 below sound [] r.behind ([], sym (append-nil r.behind)) r.below (λ S k. g.end) refl tt tt
    list_read sig goal (f ∷ fs) table ns good below sound =
        let i = fact_item sig f table in
        let is = items sig goal fs i.table in
        let r = formula_read i is ns good.0 below sound in
        let q = list_read sig goal fs i.table r.behind good.1 r.below r.sound in
        statement_read i is ns good.0 below sound q.placed q.behind q.grown q.below q.derives q.tokens q.within q.names

  -- ---- the whole text
  pub text_writes : (sig : Sig) (goal : Goal) (fs : List Fact) (table : List Aux) →
      Writes T (λ page. (goal_statement sig consts goal (fact_statements sig consts fs (record { table = table; page = page }))).page) (front_of (items sig goal fs table))
  text_writes sig goal [] table = item_writes (item sig true (codes "goal") goal.formula table)
  text_writes sig goal (f ∷ fs) table =
      let i = fact_item sig f table in
      also T (put_item i) (λ page. (goal_statement sig consts goal (fact_statements sig consts fs (record { table = i.table; page = page }))).page) (item_front i) (front_of (items sig goal fs i.table))
      (item_writes i) (text_writes sig goal fs i.table)
