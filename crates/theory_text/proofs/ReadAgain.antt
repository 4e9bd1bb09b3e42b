-- A theory that some text reads as is read again from its print.
use Rattle.std.proofs.Common.{◌≡◌, ℕ, ◌∙◌, IsTrue, List, [], ◌++◌, sym, subst, arith}
use Rattle.std.specs.List.{list_all}
use Rattle.std.proofs.lemmas.List.Folds.{list_all-map}
use Rattle.hol_terms.proofs.Both.{both_true}
use Rattle.theory_syntax.specs.declared.tokens.Tok.{Tok}
use Rattle.theory_terms.specs.declared.decl.Decl.{Decl}
use Rattle.theory_print.specs.Lexemes.{Lexeme, laid, Spells, names_pass}
use Rattle.theory_print.specs.Names.{IsFresh}
use Rattle.theory_print.proofs.Spelling.{split}
use Rattle.theory_print.proofs.Lexing.{tokens_at}
use Rattle.theory_reader.specs.declared.statement.Fact.{Fact}
use Rattle.theory_reader.specs.declared.statement.Goal.{Goal}
use Rattle.theory_reader.specs.Names.{is_name}
use Rattle.theory_reader.specs.Sound.{const_names, fact_names}
use Rattle.theory_reader.specs.Toks.{toks_of}
use Rattle.theory_reader.specs.Declarations.{Declarations, known}
use Rattle.theory_reader.specs.Declaring.{nothing}
use Rattle.theory_reader.specs.Reading.{Reads}
use Rattle.theory_reader.specs.inner.Stages.{IsSound}
use Rattle.theory_reader.proofs.Kept.{goal_named}
use Rattle.theory_reader.proofs.Named.{declares_names}
use Rattle.theory_reader.proofs.Sound.{theory_sound}
use Rattle.theory_text.specs.Printed.{type_items, const_items, statements, FactsWritten, GoalsWritten, theory_lexemes}
use Rattle.theory_text.proofs.Rows.{both_pass}
use Rattle.theory_text.proofs.Builds.{Builds, joined}
use Rattle.theory_text.proofs.Again.{Again, all_again}
use Rattle.theory_text.proofs.Lexed.{variable_name, printed_cuts, printed_spells}

abbrev mk : List (List ℕ) → List Decl → List Fact → List Goal → Declarations
mk ts cs fs gs = record { types = ts; consts = cs; facts = fs; goals = gs }

module _ (text : List ℕ) (k : ℕ) (e : Declarations) (fresh : IsFresh k e.consts) (r : Reads text e) where
  abbrev xs : List Lexeme
  xs = theory_lexemes k e

  abbrev out : List ℕ
  out = laid xs

  sound : IsSound e
  sound = theory_sound text r.items e r.read r.declared

  pub first_two : IsTrue (list_all is_name e.types) × IsTrue (list_all is_name (const_names e.consts))
  first_two =
      let three = both_true _ (list_all goal_named e.goals) sound.named in
      let two = both_true _ (list_all is_name (fact_names e.facts)) three.0 in
      both_true (list_all is_name e.types) (list_all is_name (const_names e.consts)) two.0

  pub again : Again text out k e fresh first_two.0 (sym (list_all-map is_name (λ c. c.name) e.consts) ∙ first_two.1)
      (λ i h. variable_name k i fresh.0 (omega arith)) nothing
  again = all_again text out k e fresh first_two.0 (sym (list_all-map is_name (λ c. c.name) e.consts) ∙ first_two.1)
      (λ i h. variable_name k i fresh.0 (omega arith)) r.read.derived.placed r.items r.read.derived.derived r.read.derived.within
      (declares_names text r.items r.read) nothing r.declared

  laid_out : xs ≡ type_items k (known e) again.types ++ (const_items k (known e) again.consts ++ statements k (known e) 0 again.facts again.goals)
  laid_out =
      λ i. type_items k (known e) (again.types_are i) ++ (const_items k (known e) (again.consts_are i) ++ statements k (known e) 0 (again.facts_are i) (again.goals_are i))

  pass : IsTrue (names_pass is_name xs)
  pass = subst (λ ys. IsTrue (names_pass is_name ys)) (sym laid_out)
      (both_pass is_name (type_items k (known e) again.types) (const_items k (known e) again.consts ++ statements k (known e) 0 again.facts again.goals) again.types_pass
      (both_pass is_name (const_items k (known e) again.consts) (statements k (known e) 0 again.facts again.goals) again.consts_pass again.statements_pass))

  abbrev us : List Tok
  us = toks_of out (tokens_at 0 xs)

  built : Builds out nothing us e
  built =
      let s = split out (type_items k (known e) again.types) (const_items k (known e) again.consts ++ statements k (known e) 0 again.facts again.goals) us
      (subst (λ ys. Spells out ys us) laid_out (printed_spells xs pass)) in
      let t = split out (const_items k (known e) again.consts) (statements k (known e) 0 again.facts again.goals) s.back s.second in
      joined out nothing (mk e.types [] [] []) e s.front s.back us (again.types_again s.front s.first)
      (joined out (mk e.types [] [] []) (mk e.types e.consts [] []) e t.front t.back s.back (again.consts_again t.front t.first) (again.statements_again t.back t.second) t.joined)
      s.joined

  pub reads_again : Reads out e
  reads_again = record {
    items = built.items;
    read = record {
      tokens = tokens_at 0 xs;
      cut = printed_cuts xs pass;
      derived = record { placed = built.placed; derived = built.derived; within = built.within; tokens = built.tokens };
    };
    declared = built.made;
  }

  pub facts_are_written : FactsWritten k (known e) e.facts
  facts_are_written = subst (FactsWritten k (known e)) (sym again.facts_are) again.facts_written

  pub goals_are_written : GoalsWritten k (known e) e.goals
  goals_are_written = subst (GoalsWritten k (known e)) (sym again.goals_are) again.goals_written
