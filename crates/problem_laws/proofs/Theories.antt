-- The statements of a theory's problem are good ones: their names are words, and their formulas readable.
use Rattle.std.proofs.Common.{◌≡◌, ℕ, ◌+◌, ◌<◌, Bool, true, false, ◌&&◌, IsTrue, List, [], ◌∷◌, length, take, slice_get, Some, sym, ap, subst, ◌∙◌, refl, arith}
use Rattle.std.specs.Prelude.{All, nat_le}
use Rattle.std.specs.Option.{option_map_or}
use Rattle.std.specs.List.{list_all}
use Rattle.std.specs.Char.{is_ascii_alphabetic}
use Rattle.std.proofs.lemmas.Grind.{common_steps}
use Rattle.std.proofs.lemmas.List.Folds.{list_all-map}
use Rattle.std.proofs.lemmas.List.Elements.{All-head, All-tail}
use Rattle.text_kit.specs.Tokens as text
use Rattle.hol_terms.specs.declared.ty.Ty.{Ty}
use Rattle.hol_terms.specs.declared.sig.Sig.{Sig}
use Rattle.hol_terms.specs.Formulas.{is_sentence}
use Rattle.hol_terms.proofs.Both.{both_true, and_true}
use Rattle.lambda_lift.specs.declared.table.Aux.{Aux}
use Rattle.lambda_lift.specs.Standing.{Each, StandsAlone}
use Rattle.lambda_lift.proofs.Standings.{lifted_stand}
use Rattle.theory_terms.specs.declared.decl.Decl.{Decl}
use Rattle.theory_terms.specs.Signature.{sig_of}
use Rattle.theory_reader.specs.declared.statement.Fact.{Fact}
use Rattle.theory_reader.specs.declared.statement.Goal.{Goal}
use Rattle.theory_reader.specs.declared.theory.Theory.{Theory}
use Rattle.theory_reader.specs.Names.{is_name, is_word}
use Rattle.theory_reader.specs.Sound.{fact_names, const_names, seen_from, facts_hold_sentences}
use Rattle.theory_reader.specs.Declarations.{known}
use Rattle.theory_reader.specs.Seen.{seen, declarations}
use Rattle.theory_reader.proofs.Passes.{passes_at, take_passes, both_pass, all_weaker}
use Rattle.theory_reader.proofs.Envs.{goal_sentences}
use Rattle.tptp_print.specs.Problems.{fact_at, chosen, no_fact}
use Rattle.tptp_print.proofs.Stating as stating
use Rattle.tptp_syntax.specs.Tokens.{is_word_byte}
use Rattle.problem_laws.specs.Statements.{fact_item, items}
use Rattle.problem_laws.proofs.Printing.{named_well}
use Rattle.problem_laws.proofs.Readable.{whole_readable}
use Rattle.problem_laws.proofs.Texts.{AreGood}

-- ---- names
alpha_byte : (b : ℕ) → IsTrue (is_ascii_alphabetic b) → IsTrue (is_word_byte b)
alpha_byte b h = grind (arith, common_steps)

word_byte : (b : ℕ) → IsTrue (text.is_word_byte b) → IsTrue (is_word_byte b)
word_byte b h = grind (arith, common_steps)

word_passes : (w : List ℕ) → IsTrue (is_word w) → IsTrue (list_all is_word_byte w)
word_passes [] h = refl
word_passes (b ∷ bs) h =
    let outer = both_true (is_ascii_alphabetic b && list_all text.is_word_byte bs) (nat_le (length (b ∷ bs)) 64) h in
    let inner = both_true (is_ascii_alphabetic b) (list_all text.is_word_byte bs) outer.0 in
    and_true (is_word_byte b) (list_all is_word_byte bs) (alpha_byte b inner.0) (all_weaker text.is_word_byte is_word_byte word_byte bs inner.1)

pub name_passes : (w : List ℕ) → IsTrue (is_name w) → IsTrue (list_all is_word_byte w)
unfolding is_name
name_passes w h = word_passes w (both_true (is_word w) _ h).0

-- ---- facts
abbrev good_fact : Sig → Fact → Bool
good_fact sig f = is_sentence sig f.formula && is_name f.name

both_all : (sig : Sig) (fs : List Fact) → IsTrue (facts_hold_sentences sig fs) → IsTrue (list_all is_name (fact_names fs)) → IsTrue (list_all (good_fact sig) fs)
both_all sig [] h k = refl
both_all sig (f ∷ fs) h k =
    let hs = both_true (is_sentence sig f.formula) (facts_hold_sentences sig fs) h in
    let ks = both_true (is_name f.name) (list_all is_name (fact_names fs)) k in
    and_true (good_fact sig f) (list_all (good_fact sig) fs) (and_true (is_sentence sig f.formula) (is_name f.name) hs.0 ks.0) (both_all sig fs hs.1 ks.1)

chosen_good : (sig : Sig) (fs : List Fact) (numbers : List ℕ) → IsTrue (list_all (good_fact sig) fs) → All (λ n. n < length fs) numbers → IsTrue (list_all (good_fact sig) (chosen fs numbers))
chosen_good sig fs [] h k = refl
chosen_good sig fs (n ∷ ns) h k =
    and_true (good_fact sig (fact_at fs n)) (list_all (good_fact sig) (chosen fs ns)) (stating.passes_at (good_fact sig) fs n no_fact h (All-head (λ m. m < length fs) n ns k))
    (chosen_good sig fs ns h (All-tail (λ m. m < length fs) n ns k))

-- ---- statements
module _ (T : List Ty) (consts : List Decl) (W : List (List ℕ)) (named : IsTrue (list_all named_well consts)) (sig : Sig) (has_bool : 0 < sig.types) (goal : Goal) (sentence : IsTrue (is_sentence sig goal.formula)) where
  pub all_good : (fs : List Fact) (table : List Aux) → Each (StandsAlone sig) table → IsTrue (list_all (good_fact sig) fs) → AreGood T consts W named (items sig goal fs table)
  all_good [] table alone h = ((refl, whole_readable sig table goal.formula true (lifted_stand sig has_bool table goal.formula alone sentence)), tt)
  all_good (f ∷ fs) table alone h =
      let both = both_true (good_fact sig f) (list_all (good_fact sig) fs) h in
      let here = both_true (is_sentence sig f.formula) (is_name f.name) both.0 in
      let stands = lifted_stand sig has_bool table f.formula alone here.0 in
      ((name_passes f.name here.1, whole_readable sig table f.formula false stands), all_good fs (fact_item sig f table).table stands.entries both.1)

-- ---- theories
module _ (t : Theory) (n : ℕ) (g : Goal) (at : slice_get t.goals n ≡ Some g) where
  abbrev sig : Sig
  sig = sig_of (known (declarations t))

  goal_ok : IsTrue (is_sentence sig g.formula) × IsTrue (facts_hold_sentences sig g.assumes)
  goal_ok = goal_sentences sig t.goals n g t.goals_are_sentences at

  all_named : IsTrue (list_all is_name t.types && list_all is_name (const_names t.consts) && list_all is_name (fact_names t.facts)) × IsTrue (list_all (λ h. is_name h.name && list_all is_name (fact_names h.assumes)) t.goals)
  all_named = both_true (list_all is_name t.types && list_all is_name (const_names t.consts) && list_all is_name (fact_names t.facts)) _ t.names_are_words

  pub consts_named : IsTrue (list_all named_well t.consts)
  consts_named =
      let three = both_true (list_all is_name t.types && list_all is_name (const_names t.consts)) (list_all is_name (fact_names t.facts)) all_named.0 in
      let two = both_true (list_all is_name t.types) (list_all is_name (const_names t.consts)) three.0 in
      all_weaker (λ d. is_name d.name) named_well (λ d h. name_passes d.name h) t.consts (sym (list_all-map is_name (λ (d : Decl). d.name) t.consts) ∙ two.1)

  seen_is : seen t n ≡ seen_from t.facts g
  seen_is = ap (λ o. option_map_or (seen_from t.facts) o []) at

  names_of : (fs : List Fact) → IsTrue (list_all is_name (fact_names fs)) → IsTrue (list_all (λ f. is_name f.name) fs)
  names_of fs h = sym (list_all-map is_name (λ (f : Fact). f.name) fs) ∙ h

  seen_good : IsTrue (list_all (good_fact sig) (seen_from t.facts g))
  seen_good =
      let three = both_true (list_all is_name t.types && list_all is_name (const_names t.consts)) (list_all is_name (fact_names t.facts)) all_named.0 in
      let mine = both_true (is_name g.name) (list_all is_name (fact_names g.assumes)) (passes_at (λ h. is_name h.name && list_all is_name (fact_names h.assumes)) t.goals n g all_named.1 at) in
      let before = take g.before t.facts in
      let facts = both_all sig t.facts t.facts_are_sentences three.1 in
      both_pass (good_fact sig) before g.assumes (take_passes (good_fact sig) g.before t.facts facts) (both_all sig g.assumes goal_ok.1 mine.1)

  pub chosen_facts : (numbers : List ℕ) → All (λ k. k < length (seen t n)) numbers → IsTrue (list_all (good_fact sig) (chosen (seen t n) numbers))
  chosen_facts numbers h = chosen_good sig (seen t n) numbers (subst (λ fs. IsTrue (list_all (good_fact sig) fs)) (sym seen_is) seen_good) h

  module _ (T : List Ty) (W : List (List ℕ)) (numbers : List ℕ) (within : All (λ k. k < length (seen t n)) numbers) where
    pub theory_good : AreGood T t.consts W consts_named (items sig g (chosen (seen t n) numbers) [])
    theory_good =
        all_good T t.consts W consts_named sig (let some : 0 < 1 + length t.types = omega arith in some) g goal_ok.0 (chosen (seen t n) numbers) [] (λ i x e. cc) (chosen_facts numbers within)
