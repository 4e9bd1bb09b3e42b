-- A whole text is read as its statements.
use Rattle.std.proofs.Common.{◌≡◌, ℕ, IsTrue, List, [], ◌∷◌, map, refl, sym, subst, ◌∙◌}
use Rattle.std.specs.List.{list_all}
use Rattle.std.proofs.lemmas.List.{append-nil}
use Rattle.hol_terms.specs.declared.ty.Ty.{Ty}
use Rattle.hol_terms.specs.declared.sig.Sig.{Sig}
use Rattle.theory_terms.specs.declared.decl.Decl.{Decl}
use Rattle.theory_reader.specs.declared.statement.Fact.{Fact}
use Rattle.theory_reader.specs.declared.statement.Goal.{Goal}
use Rattle.tptp_print.specs.declared.page.Page.{Page}
use Rattle.tptp_print.specs.Pages.{blank}
use Rattle.tptp_print.specs.Problems.{fact_statements, goal_statement}
use Rattle.tptp_syntax.specs.declared.problem.Statement.{Statement}
use Rattle.tptp_syntax.specs.Tokens.{lexed, known_words}
use Rattle.tptp_syntax.specs.Reading.{said, statement_of as read_statement, IsProblem}
use Rattle.problem_laws.specs.Formulas.{formula_named}
use Rattle.problem_laws.specs.Statements.{Item, items, place_of, statement_of, problem_over}
use Rattle.problem_laws.specs.Laws.{nests}
use Rattle.problem_laws.proofs.Lexemes.{Lexeme, laid}
use Rattle.problem_laws.proofs.Cutting.{toks, names, cuts}
use Rattle.problem_laws.proofs.Words.{Grows, tok_of, AreOnce, grows, toks_are, all_known, said_is, names_once, known_once, place_is}
use Rattle.problem_laws.proofs.Sounds.{Sound, all_sound}
use Rattle.problem_laws.proofs.Printing.{named_well, number}
use Rattle.problem_laws.proofs.Texts.{AreGood, all_cut, front_of, claim, NamesKnown, ListRead, list_read, text_writes}

module _ (sig : Sig) (consts : List Decl) (named : IsTrue (list_all named_well consts)) (goal : Goal) (fs : List Fact) where
  abbrev pub page_of : Page
  page_of = (goal_statement sig consts goal (fact_statements sig consts fs (record { table = []; page = blank }))).page

  abbrev pub T : List Ty
  T = page_of.types

  abbrev pub text : List ℕ
  text = page_of.bytes

  abbrev pub W : List (List ℕ)
  W = (lexed text).words

  abbrev pub is : List Item
  is = items sig goal fs []

  module _ (good : AreGood T consts W named is) (nested : IsTrue (nests 0 (lexed text).tokens)) where
    abbrev pub xs : List Lexeme
    xs = front_of T consts W named is []

    pub text_is : text ≡ laid xs
    text_is = sym (append-nil text) ∙ (text_writes T consts W named sig goal fs []).bytes blank [] (sym (append-nil T)) []

    abbrev pub Into : List ℕ → Type 0
    Into bytes = ((lexed bytes).tokens ≡ toks known_words xs) × ((lexed bytes).words ≡ names known_words xs)

    pub into : Into text
    into = let c = cuts xs (all_cut T consts W named is good) known_words 0 in subst Into (sym text_is) (c.tokens, c.words)

    pub once : AreOnce W
    once = subst AreOnce (sym into.1) (names_once xs known_words known_once)

    pub known : Grows known_words W
    known = let m = grows xs known_words in (m.0, into.1 ∙ m.1)

    pub tokens : (lexed text).tokens ≡ map (tok_of W) xs
    tokens = into.0 ∙ toks_are W xs known_words into.1

    pub sound : Sound W 0 xs
    sound = all_sound W xs 0 (all_known W xs known_words into.1) (subst (λ ts. IsTrue (nests 0 ts)) tokens nested)

    pub read : ListRead T consts W named [] is
    read = list_read T consts W named known sig goal fs [] [] good tt sound

    abbrev pub S : List ℕ
    S = read.behind

    abbrev pub symbol_names : List (List ℕ)
    symbol_names = map (said W) S

    same_formula : (i : Item) → formula_named (number W S) T consts i.table i.formula [] ≡ formula_named (place_of symbol_names) T consts i.table i.formula []
    same_formula i = λ j. formula_named (λ w. place_is W once w S read.below j) T consts i.table i.formula []

    statements_are : (js : List Item) → NamesKnown T consts W named js → map (read_statement W) (map (claim T consts W named S) js) ≡ map (statement_of symbol_names T consts) js
    statements_are [] h = refl
    statements_are (i ∷ js) h =
        let name = said_is W i.name h.0 in
        let rest = statements_are js h.1 in
        λ j. (let s : Statement = record { name = name j; conjecture = i.conjecture; formula = same_formula i j } in s) ∷ rest j

    pub is_problem : IsProblem text (problem_over symbol_names T consts is)
    is_problem = record {
      listed = record { symbols = S; statements = map (claim T consts W named S) is };
      reads = record { placed = read.placed; derived = read.derives S ([], sym (append-nil S)); within = read.within; tokens = tokens ∙ read.tokens };
      is = λ j. record { names = symbol_names; statements = sym (statements_are is read.names) j };
    }
