-- What some text declares is declared again by the printed one.
use Rattle.std.proofs.Common.{◌≡◌, ℕ, ◌+◌, ◌≤◌, ◌∙◌, false, ◌||◌, nat_le, IsTrue, List, [], ◌∷◌, ◌++◌, length, None, ap, sym, subst, refl, arith, append_assoc}
use Rattle.std.specs.Prelude.{is_some}
use Rattle.std.specs.List.{list_all}
use Rattle.std.specs.Str.{bytes_eq}
use Rattle.std.proofs.lemmas.List.{append-nil, length-append}
use Rattle.hol_terms.proofs.Both.{both_true, and_true}
use Rattle.hol_terms.specs.declared.ty.Ty.{Ty}
use Rattle.hol_terms.specs.declared.term.Term.{Term}
use Rattle.theory_syntax.specs.declared.tokens.Tok.{Tok}
use Rattle.theory_syntax.specs.declared.tokens.Tok.TheVariants as tok
use Rattle.theory_syntax.specs.declared.tree.Hyp.{Hyp}
use Rattle.theory_syntax.specs.declared.tree.Item.{Item}
use Rattle.theory_syntax.specs.Grammar.{Placed, IsTheory, Declares, AreHyps, IsType, Whole, Derives, Formula}
use Rattle.theory_syntax.specs.Grammar as grammar
use Rattle.theory_syntax.specs.Machine.{put}
use Rattle.theory_syntax.specs.Reading.{Within}
use Rattle.theory_terms.specs.declared.decl.Decl.{Decl}
use Rattle.theory_terms.specs.Answers.{Good}
use Rattle.theory_terms.specs.Words.{word_at, place}
use Rattle.theory_terms.specs.Signature.{Declared, found}
use Rattle.theory_terms.proofs.Openings.{opened, good_same}
use Rattle.theory_print.specs.Lexemes.{Semi, Spells, names_pass}
use Rattle.theory_print.specs.Types.{type_lexemes}
use Rattle.theory_print.specs.Names.{variable, IsFresh}
use Rattle.theory_print.specs.Laws.{Extends, ReadsType, ReadsSentence, Prints}
use Rattle.theory_print.proofs.Spelling.{split, within_split}
use Rattle.theory_print.proofs.ReadAgain.{types_are_read_again, sentences_are_read_again}
use Rattle.theory_reader.specs.declared.statement.Fact.{Fact}
use Rattle.theory_reader.specs.declared.statement.Goal.{Goal}
use Rattle.theory_reader.specs.Names.{is_name}
use Rattle.theory_reader.specs.Sound.{fact_names}
use Rattle.theory_reader.specs.Declarations.{Declarations, known}
use Rattle.theory_reader.specs.Declaring.{is_stated, fact_of, goal_of, with_type, with_const, with_fact, with_goal, assumption, assumptions, declared, declared_all}
use Rattle.theory_reader.proofs.Passes.{head_passes, tail_passes}
use Rattle.theory_reader.proofs.Named.{named, hyp_named, item_named}
use Rattle.theory_text.specs.Printed.{or_none, shown, type_item, type_items, const_item, const_items, fact_item, assumption_items, goal_item, statements, IsWritten, FactsWritten, GoalsWritten}
use Rattle.theory_text.proofs.Inverted.{type_made, const_made, fact_made, assumption_made, goal_made}
use Rattle.theory_text.proofs.Rows.{Later, later_less, both_pass, fact_first, goal_first}
use Rattle.theory_text.proofs.Builds.{Builds, none_builds, joined, type_builds, const_builds, fact_builds, Assumes, none_assumed, one_assumed, goal_builds}

abbrev mk : List (List ℕ) → List Decl → List Fact → List Goal → Declarations
mk ts cs fs gs = record { types = ts; consts = cs; facts = fs; goals = gs }

module _ (text out : List ℕ) (k : ℕ) (e : Declarations) (fresh : IsFresh k e.consts) (types_named : IsTrue (list_all is_name e.types))
    (consts_named : IsTrue (list_all (λ c. is_name c.name) e.consts)) (variables : (i : ℕ) → i ≤ 256 → IsTrue (is_name (variable k i))) where
  abbrev all : Declared
  all = known e

  pub record Again (d : Declarations) : Type 0 where
    pub types : List (List ℕ)
    pub consts : List Decl
    pub facts : List Fact
    pub goals : List Goal
    pub types_are : e.types ≡ d.types ++ types
    pub consts_are : e.consts ≡ d.consts ++ consts
    pub facts_are : e.facts ≡ d.facts ++ facts
    pub goals_are : e.goals ≡ d.goals ++ goals
    pub later : Later (length d.facts) goals
    pub types_pass : IsTrue (names_pass is_name (type_items k all types))
    pub consts_pass : IsTrue (names_pass is_name (const_items k all consts))
    pub statements_pass : IsTrue (names_pass is_name (statements k all (length d.facts) facts goals))
    pub facts_written : FactsWritten k all facts
    pub goals_written : GoalsWritten k all goals
    pub types_again : (us : List Tok) → Spells out (type_items k all types) us → Builds out (mk d.types [] [] []) us (mk e.types [] [] [])
    pub consts_again : (us : List Tok) → Spells out (const_items k all consts) us → Builds out (mk e.types d.consts [] []) us (mk e.types e.consts [] [])
    pub statements_again : (us : List Tok) → Spells out (statements k all (length d.facts) facts goals) us →
        Builds out (mk e.types e.consts d.facts d.goals) us (mk e.types e.consts e.facts e.goals)

  nothing_more : Again e
  nothing_more = record {
    types = [];
    consts = [];
    facts = [];
    goals = [];
    types_are = sym (append-nil e.types);
    consts_are = sym (append-nil e.consts);
    facts_are = sym (append-nil e.facts);
    goals_are = sym (append-nil e.goals);
    later = tt;
    types_pass = refl;
    consts_pass = refl;
    statements_pass = refl;
    facts_written = tt;
    goals_written = tt;
    types_again = λ us h. none_builds out (mk e.types [] [] []) us h;
    consts_again = λ us h. none_builds out (mk e.types e.consts [] []) us h;
    statements_again = λ us h. none_builds out (mk e.types e.consts e.facts e.goals) us h;
  }

  -- one of these lists goes on from the other
  goes_on : {X : Type 0} (xs ys zs : List X) (x : X) → zs ≡ (xs ++ x ∷ []) ++ ys → zs ≡ xs ++ x ∷ ys
  goes_on xs ys zs x h = h ∙ append_assoc xs (x ∷ []) ys

  type_step : (d : Declarations) (n : List ℕ) → IsTrue (is_name n) → place n d.types ≡ None → Again (with_type d n) → Again d
  type_step d n is new a = record {
    types = n ∷ a.types;
    consts = a.consts;
    facts = a.facts;
    goals = a.goals;
    types_are = goes_on d.types a.types e.types n a.types_are;
    consts_are = a.consts_are;
    facts_are = a.facts_are;
    goals_are = a.goals_are;
    later = a.later;
    types_pass = and_true (is_name n) (names_pass is_name (type_items k all a.types)) is a.types_pass;
    consts_pass = a.consts_pass;
    statements_pass = a.statements_pass;
    facts_written = a.facts_written;
    goals_written = a.goals_written;
    types_again = λ us h.
        let s = split out (type_item k all n) (type_items k all a.types) us h in
        joined out (mk d.types [] [] []) (mk (d.types ++ n ∷ []) [] [] []) (mk e.types [] [] []) s.front s.back us
        (type_builds out (mk d.types [] [] []) n s.front new s.first) (a.types_again s.back s.second) s.joined;
    consts_again = a.consts_again;
    statements_again = a.statements_again;
  }

  const_step : (d : Declarations) (n : List ℕ) (ty : Ty) (vs : List Tok) → IsTrue (is_name n) → found n d.consts ≡ None → ReadsType 256 text (known d) vs ty →
      Again (with_const d n ty) → Again d
  const_step d n ty vs is new read a =
      let later : Declared = record { types = e.types; consts = d.consts } in
      let more : Extends (known d) later = record { more_types = a.types; more_consts = []; types = a.types_are; consts = sym (append-nil d.consts) } in
      let law = types_are_read_again 256 text (known d) vs ty read later more in
      let c : Decl = record { name = n; ty = ty } in
      record {
        types = a.types;
        consts = c ∷ a.consts;
        facts = a.facts;
        goals = a.goals;
        types_are = a.types_are;
        consts_are = goes_on d.consts a.consts e.consts c a.consts_are;
        facts_are = a.facts_are;
        goals_are = a.goals_are;
        later = a.later;
        types_pass = a.types_pass;
        consts_pass = both_pass is_name (const_item k all c) (const_items k all a.consts)
            (and_true (is_name n) (names_pass is_name (type_lexemes e.types ty Whole ++ Semi ∷ [])) is
            (both_pass is_name (type_lexemes e.types ty Whole) (Semi ∷ []) (law.0 is_name types_named) refl)) a.consts_pass;
        statements_pass = a.statements_pass;
        facts_written = a.facts_written;
        goals_written = a.goals_written;
        types_again = a.types_again;
        consts_again = λ us h.
            let s = split out (const_item k all c) (const_items k all a.consts) us h in
            joined out (mk e.types d.consts [] []) (mk e.types (d.consts ++ c ∷ []) [] []) (mk e.types e.consts [] []) s.front s.back us
            (const_builds out (mk e.types d.consts [] []) n ty (type_lexemes e.types ty Whole) s.front new (λ ws g. law.1 out ws g) s.first) (a.consts_again s.back s.second) s.joined;
        statements_again = a.statements_again;
      }

  -- ---- sentences

  prints : (d : Declarations) (t : Term) (vs : List Tok) → Extends (known d) all → ReadsSentence 256 text (known d) vs t → Prints 256 k all t
  prints d t vs more read = sentences_are_read_again 256 text (known d) vs t (omega arith) read all more k fresh

  shown_is : (t : Term) (p : Prints 256 k all t) → shown k all t ≡ p.lexemes
  shown_is t p = ap or_none p.written

  shown_again : (t : Term) → Prints 256 k all t → (us : List Tok) → Spells out (shown k all t) us → ReadsSentence 256 out all us t
  shown_again t p us h = p.again out us (subst (λ xs. Spells out xs us) (shown_is t p) h)

  shown_passes : (t : Term) → Prints 256 k all t → IsTrue (names_pass is_name (shown k all t))
  shown_passes t p = subst (λ xs. IsTrue (names_pass is_name xs)) (sym (shown_is t p)) (p.names is_name types_named consts_named variables)

  is_written : (t : Term) → Prints 256 k all t → IsWritten k all t
  is_written t p = (p.lexemes, p.written, p.shallow)

  fact_step : (d : Declarations) (n : List ℕ) (t : Term) (vs : List Tok) → IsTrue (is_name n) → is_stated d n ≡ false → nat_le 20000 (length d.facts) ≡ false →
      ReadsSentence 256 text (known d) vs t → Again (with_fact d n t) → Again d
  fact_step d n t vs is new few read a =
      let more : Extends (known d) all = record { more_types = a.types; more_consts = a.consts; types = a.types_are; consts = a.consts_are } in
      let p = prints d t vs more read in
      let f : Fact = fact_of n t in
      let next : length (d.facts ++ f ∷ []) ≡ length d.facts + 1 = length-append d.facts (f ∷ []) in
      let after : Later (length d.facts + 1) a.goals = subst (λ i. Later i a.goals) next a.later in
      let row : statements k all (length d.facts) (f ∷ a.facts) a.goals ≡ fact_item k all f ++ statements k all (length (d.facts ++ f ∷ [])) a.facts a.goals =
      fact_first k all (length d.facts) f a.facts a.goals after ∙ ap (λ i. fact_item k all f ++ statements k all i a.facts a.goals) (sym next) in
      record {
        types = a.types;
        consts = a.consts;
        facts = f ∷ a.facts;
        goals = a.goals;
        types_are = a.types_are;
        consts_are = a.consts_are;
        facts_are = goes_on d.facts a.facts e.facts f a.facts_are;
        goals_are = a.goals_are;
        later = later_less (length d.facts) a.goals after;
        types_pass = a.types_pass;
        consts_pass = a.consts_pass;
        statements_pass = subst (λ xs. IsTrue (names_pass is_name xs)) (sym row)
            (both_pass is_name (fact_item k all f) (statements k all (length (d.facts ++ f ∷ [])) a.facts a.goals)
            (and_true (is_name n) (names_pass is_name (shown k all t ++ Semi ∷ [])) is (both_pass is_name (shown k all t) (Semi ∷ []) (shown_passes t p) refl)) a.statements_pass);
        facts_written = (is_written t p, a.facts_written);
        goals_written = a.goals_written;
        types_again = a.types_again;
        consts_again = a.consts_again;
        statements_again = λ us h.
            let s = split out (fact_item k all f) (statements k all (length (d.facts ++ f ∷ [])) a.facts a.goals) us (subst (λ xs. Spells out xs us) row h) in
            joined out (mk e.types e.consts d.facts d.goals) (mk e.types e.consts (d.facts ++ f ∷ []) d.goals) (mk e.types e.consts e.facts e.goals) s.front s.back us
            (fact_builds out (mk e.types e.consts d.facts d.goals) n t (shown k all t) s.front new few (shown_again t p) s.first) (a.statements_again s.back s.second) s.joined;
      }

  -- the assumptions of a goal in turn
  record AssumesAgain (d : Declarations) (goal : List ℕ) (before more : List Fact) : Type 0 where
    new : List Fact
    are : more ≡ before ++ new
    pass : IsTrue (names_pass is_name (assumption_items k all new))
    written : FactsWritten k all new
    again : (us : List Tok) → Spells out (assumption_items k all new) us → Assumes out (mk e.types e.consts d.facts d.goals) goal before us more

  assumed_nothing : (d : Declarations) (goal : List ℕ) (before : List Fact) → AssumesAgain d goal before before
  assumed_nothing d goal before = record {
    new = [];
    are = sym (append-nil before);
    pass = refl;
    written = tt;
    again = λ us h. none_assumed out (mk e.types e.consts d.facts d.goals) goal before us h;
  }

  assumed_step : (d : Declarations) (goal : List ℕ) (before more : List Fact) (n : List ℕ) (t : Term) → IsTrue (is_name n) →
      (is_stated d n || (bytes_eq n goal || is_some (place n (fact_names before)))) ≡ false → nat_le 64 (length before) ≡ false → Prints 256 k all t →
      AssumesAgain d goal (before ++ fact_of n t ∷ []) more → AssumesAgain d goal before more
  assumed_step d goal before more n t is new few p a = record {
    new = fact_of n t ∷ a.new;
    are = goes_on before a.new more (fact_of n t) a.are;
    pass = and_true (is_name n) (names_pass is_name (shown k all t ++ assumption_items k all a.new)) is
        (both_pass is_name (shown k all t) (assumption_items k all a.new) (shown_passes t p) a.pass);
    written = (is_written t p, a.written);
    again = λ us h. one_assumed out (mk e.types e.consts d.facts d.goals) goal before more n t (shown k all t) (assumption_items k all a.new) us new few
        (shown_again t p) a.again h;
  }

  assumed : (d : Declarations) → Extends (known d) all → (goal : List ℕ) (before more : List Fact) (ps : List Placed) (hs : List Hyp) → AreHyps ps hs → Within 256 ps →
      IsTrue (list_all (hyp_named text) hs) → assumptions text d goal before hs ≡ Good more → AssumesAgain d goal before more
  assumed d ext goal before more _ _ grammar.no_hyp w is h = subst (AssumesAgain d goal before) (good_same before more h) (assumed_nothing d goal before)
  assumed d ext goal before more _ _ (grammar.hyp {x = x} {p = p} {q = q} {t = t} {hs = hs} a rest) w is h =
      let hyp : Hyp = record { name = x; tree = t } in
      let one = opened (assumption text d goal before hyp) (λ now. assumptions text d goal now hs) more h in
      let m = assumption_made text d goal before hyp one.0 one.1.0 in
      let parts = within_split 256 p q w.1.1.1 in
      let read : ReadsSentence 256 text (known d) (put p []) m.formula = record { placed = p; tree = t; derived = a; within = parts.0; tokens = refl; means = m.read } in
      let later = assumed d ext goal one.0 more q hs rest parts.1 (tail_passes (hyp_named text) hyp hs is) one.1.1 in
      assumed_step d goal before more (word_at text x) m.formula (head_passes (hyp_named text) hyp hs is) m.new m.few (prints d m.formula (put p []) ext read)
      (subst (λ now. AssumesAgain d goal now more) (sym m.made) later)

  goal_step : (d : Declarations) (n : List ℕ) (t : Term) (vs : List Tok) (assumes : List Fact) → IsTrue (is_name n) → is_stated d n ≡ false →
      ReadsSentence 256 text (known d) vs t → (Extends (known d) all → AssumesAgain d n [] assumes) → Again (with_goal d n t assumes) → Again d
  goal_step d n t vs assumes is new read them a =
      let more : Extends (known d) all = record { more_types = a.types; more_consts = a.consts; types = a.types_are; consts = a.consts_are } in
      let p = prints d t vs more read in
      let b = them more in
      let g : Goal = goal_of n t (length d.facts) assumes in
      let same : assumption_items k all assumes ≡ assumption_items k all b.new = ap (assumption_items k all) b.are in
      let row : statements k all (length d.facts) a.facts (g ∷ a.goals) ≡ goal_item k all g ++ statements k all (length d.facts) a.facts a.goals =
      goal_first k all (length d.facts) a.facts g a.goals (omega arith) in
      let back_passes = both_pass is_name (assumption_items k all assumes) (Semi ∷ []) (subst (λ xs. IsTrue (names_pass is_name xs)) (sym same) b.pass) refl in
      let item_passes : IsTrue (names_pass is_name (goal_item k all g)) =
      and_true (is_name n) (names_pass is_name (shown k all t ++ (assumption_items k all assumes ++ Semi ∷ []))) is
      (both_pass is_name (shown k all t) (assumption_items k all assumes ++ Semi ∷ []) (shown_passes t p) back_passes) in
      record {
        types = a.types;
        consts = a.consts;
        facts = a.facts;
        goals = g ∷ a.goals;
        types_are = a.types_are;
        consts_are = a.consts_are;
        facts_are = a.facts_are;
        goals_are = goes_on d.goals a.goals e.goals g a.goals_are;
        later = omega arith;
        types_pass = a.types_pass;
        consts_pass = a.consts_pass;
        statements_pass = subst (λ xs. IsTrue (names_pass is_name xs)) (sym row)
            (both_pass is_name (goal_item k all g) (statements k all (length d.facts) a.facts a.goals) item_passes a.statements_pass);
        facts_written = a.facts_written;
        goals_written = ((is_written t p, subst (FactsWritten k all) (sym b.are) b.written), a.goals_written);
        types_again = a.types_again;
        consts_again = a.consts_again;
        statements_again = λ us h.
            let s = split out (goal_item k all g) (statements k all (length d.facts) a.facts a.goals) us (subst (λ xs. Spells out xs us) row h) in
            joined out (mk e.types e.consts d.facts d.goals) (mk e.types e.consts d.facts (d.goals ++ g ∷ [])) (mk e.types e.consts e.facts e.goals) s.front s.back us
            (goal_builds out (mk e.types e.consts d.facts d.goals) n t assumes (shown k all t) (assumption_items k all assumes) s.front new (shown_again t p)
            (λ ws z. b.again ws (subst (λ xs. Spells out xs ws) same z)) s.first)
            (a.statements_again s.back s.second) s.joined;
      }

  -- ---- declarations

  item_step : (ps : List Placed) (x : Item) → Declares ps x → Within 256 ps → IsTrue (item_named text x) → (d next : Declarations) → declared text d x ≡ Good next →
      Again next → Again d
  item_step _ _ (grammar.a_type {x = x}) w is d next h a =
      let m = type_made text d x next h in type_step d (word_at text x) is m.new (subst Again (sym m.made) a)
  item_step _ _ (grammar.a_const {x = x} {p = p} {a = ty} der) w is d next h a =
      let m = const_made text d x ty next h in
      let parts = within_split 256 p (grammar.at 0 tok.Semi ∷ []) w.1.1.1 in
      let read : ReadsType 256 text (known d) (put p []) m.ty = record { placed = p; tree = ty; derived = der; within = parts.0; tokens = refl; means = m.read } in
      const_step d (word_at text x) m.ty (put p []) is m.new read (subst Again (sym m.made) a)
  item_step _ _ (grammar.a_fact {x = x} {p = p} {t = t} der) w is d next h a =
      let m = fact_made text d x t next h in
      let parts = within_split 256 p (grammar.at 0 tok.Semi ∷ []) w.1.1.1 in
      let read : ReadsSentence 256 text (known d) (put p []) m.formula = record { placed = p; tree = t; derived = der; within = parts.0; tokens = refl; means = m.read } in
      fact_step d (word_at text x) m.formula (put p []) is m.new m.few read (subst Again (sym m.made) a)
  item_step _ _ (grammar.a_goal {x = x} {p = p} {q = q} {t = t} {hs = hs} der hyps) w is d next h a =
      let m = goal_made text d x t hs next h in
      let end = grammar.at 0 tok.Semi ∷ [] in
      let parts = within_split 256 p (q ++ end) w.1.1.1 in
      let rest = within_split 256 q end parts.1 in
      let names = both_true (named text x) (list_all (hyp_named text) hs) is in
      let read : ReadsSentence 256 text (known d) (put p []) m.formula = record { placed = p; tree = t; derived = der; within = parts.0; tokens = refl; means = m.read } in
      goal_step d (word_at text x) m.formula (put p []) m.assumes names.0 m.new read
      (λ ext. assumed d ext (word_at text x) [] m.assumes q hs hyps rest.0 names.1 m.assumed) (subst Again (sym m.made) a)

  pub all_again : (ps : List Placed) (items : List Item) → IsTheory ps items → Within 256 ps → IsTrue (list_all (item_named text) items) → (d : Declarations) →
      declared_all text d items ≡ Good e → Again d
  all_again _ _ grammar.empty w is d h = subst Again (sym (good_same d e h)) nothing_more
  all_again _ _ (grammar.decl {p = p} {q = q} {d = x} {ds = xs} a rest) w is d h =
      let one = opened (declared text d x) (λ next. declared_all text next xs) e h in
      let parts = within_split 256 p q w in
      item_step p x a parts.0 (head_passes (item_named text) x xs is) d one.0 one.1.0
      (all_again q xs rest parts.1 (tail_passes (item_named text) x xs is) one.0 one.1.1)
