-- The text of a proof whose steps check is read as the proof.
use Rattle.std.proofs.Common.{◌≡◌, inl, ℕ, zero, suc, ◌+◌, ◌<◌, ◌≤◌, ◌&&◌, not, false, IsTrue, List, [], ◌∷◌, ◌++◌, length, take, slice_get, Some, None, codes, refl, sym, ap, subst, ◌∙◌, append_assoc, arith}
use Rattle.std.specs.Prelude.{Option, Result, Ok, Err, IfOk}
use Rattle.std.specs.List.{list_any, list_all}
use Rattle.std.specs.Option.{option_map, option_map_or}
use Rattle.std.specs.Str.{bytes_eq}
use Rattle.std.proofs.lemmas.List.{length-map}
use Rattle.std.proofs.lemmas.List.Folds.{list_all-map}
use Rattle.hol_terms.specs.declared.env.Env.{Env}
use Rattle.hol_terms.specs.declared.term.Term.{Term}
use Rattle.hol_terms.proofs.Both.{both_true, and_true}
use Rattle.kernel_rules.specs.declared.step.Step.{Step}
use Rattle.kernel_rules.specs.Derivations.{Checks}
use Rattle.theory_reader.specs.declared.statement.Goal.{Goal}
use Rattle.theory_reader.specs.declared.theory.Theory.{Theory}
use Rattle.theory_reader.specs.Names.{is_name, distinct}
use Rattle.theory_reader.specs.Sound.{fact_names, goal_names, const_names, seen_from}
use Rattle.theory_reader.specs.Seen.{seen, IsEnvOf}
use Rattle.theory_reader.proofs.Passes.{passes_at, take_passes, both_pass, all_weaker}
use Rattle.proof_syntax.specs.Names.{names_of, name_in}
use Rattle.proof_syntax.specs.Forms.{form}
use Rattle.proof_syntax.specs.Tokens.{Word, space, line_end}
use Rattle.proof_syntax.specs.Grammar.{Placed, at, most, name, AreSteps, IsProof, proof}
use Rattle.proof_syntax.specs.Reading.{first_line, Reads}
use Rattle.proof_syntax.specs.Texts.{steps_text, proof_text, is_shallow}
use Rattle.proof_syntax.proofs.Numbers.{eq_false}
use Rattle.proof_text.specs.inner.Fitting.{steps_fit}
use Rattle.proof_text.proofs.Wordy.{IsWordy, name_wordy}
use Rattle.proof_text.proofs.Places.{IsDeclared, found_at, declared_at, at_place}
use Rattle.proof_text.proofs.Lying.{Lies, joined, word_then, sign_then}
use Rattle.proof_text.proofs.Naming.{args_named}
use Rattle.proof_text.proofs.Checked.{StepsNamed, checked_named}
use Rattle.proof_text.proofs.TypesLie.{name_lies, name_number}
use Rattle.proof_text.proofs.StepsLie.{StepsLie, steps_lie}

-- ---- types, bool among them

no_bool : IsTrue (is_name (codes "bool")) → ⊥
unfolding is_name
no_bool h = cc

none_bool : (types : List (List ℕ)) → IsTrue (list_all is_name types) → list_any (bytes_eq (codes "bool")) types ≡ false
none_bool [] h = refl
none_bool (x ∷ xs) h =
    let both = both_true (is_name x) (list_all is_name xs) h in
    let no = eq_false (codes "bool") x (λ e. no_bool (subst (λ w. IsTrue (is_name w)) (sym e) both.0)) in
    rw (no, none_bool xs both.1) refl

type_wordy : (types : List (List ℕ)) (n : ℕ) → IsTrue (list_all is_name types) → n < length (codes "bool" ∷ types) → IsWordy (name_in (codes "bool" ∷ types) n)
type_wordy types zero are l = record { some = omega arith; bytes = refl }
type_wordy types (suc n) are l = name_wordy (name_in types n) (passes_at is_name types n (name_in types n) are (at_place types n (omega arith)))

type_declared : (types : List (List ℕ)) (n : ℕ) → IsTrue (list_all is_name types) → IsTrue (distinct types) → n < length (codes "bool" ∷ types) → IsDeclared (codes "bool" ∷ types) n
type_declared types n are differ l =
    let own : IsTrue (not (list_any (bytes_eq (codes "bool")) types)) = ap not (none_bool types are) in
    let all : IsTrue (distinct (codes "bool" ∷ types)) = and_true (not (list_any (bytes_eq (codes "bool")) types)) (distinct types) own differ in
    record { wordy = type_wordy types n are l; found = found_at (codes "bool" ∷ types) n all l }

-- ---- the names of a theory

module _ (t : Theory) (n : ℕ) (g : Goal) (is : slice_get t.goals n ≡ Some g) where
  are_words : IsTrue (list_all is_name t.types && list_all is_name (const_names t.consts) && list_all is_name (fact_names t.facts)) × IsTrue (list_all (λ h. is_name h.name && list_all is_name (fact_names h.assumes)) t.goals)
  are_words = both_true (list_all is_name t.types && list_all is_name (const_names t.consts) && list_all is_name (fact_names t.facts)) _ t.names_are_words

  words_front : IsTrue (list_all is_name t.types && list_all is_name (const_names t.consts)) × IsTrue (list_all is_name (fact_names t.facts))
  words_front = both_true (list_all is_name t.types && list_all is_name (const_names t.consts)) (list_all is_name (fact_names t.facts)) are_words.0

  words_first : IsTrue (list_all is_name t.types) × IsTrue (list_all is_name (const_names t.consts))
  words_first = both_true (list_all is_name t.types) (list_all is_name (const_names t.consts)) words_front.0

  differ_last : IsTrue (distinct t.types && distinct (const_names t.consts) && distinct (fact_names t.facts) && distinct (goal_names t.goals)) × IsTrue (list_all (λ h. distinct (fact_names (seen_from t.facts h))) t.goals)
  differ_last = both_true (distinct t.types && distinct (const_names t.consts) && distinct (fact_names t.facts) && distinct (goal_names t.goals)) _ t.names_differ

  differ_goals : IsTrue (distinct t.types && distinct (const_names t.consts) && distinct (fact_names t.facts)) × IsTrue (distinct (goal_names t.goals))
  differ_goals = both_true (distinct t.types && distinct (const_names t.consts) && distinct (fact_names t.facts)) (distinct (goal_names t.goals)) differ_last.0

  differ_facts : IsTrue (distinct t.types && distinct (const_names t.consts)) × IsTrue (distinct (fact_names t.facts))
  differ_facts = both_true (distinct t.types && distinct (const_names t.consts)) (distinct (fact_names t.facts)) differ_goals.0

  differ_first : IsTrue (distinct t.types) × IsTrue (distinct (const_names t.consts))
  differ_first = both_true (distinct t.types) (distinct (const_names t.consts)) differ_facts.0

  each_type : (k : ℕ) → k < length (names_of t n).types → IsDeclared (names_of t n).types k
  each_type k l = type_declared t.types k words_first.0 differ_first.0 l

  each_const : (k : ℕ) → k < length (names_of t n).consts → IsDeclared (names_of t n).consts k
  each_const k l = declared_at (const_names t.consts) k words_first.1 differ_first.1 l

  -- the facts that the goal is proved from
  seen_is : seen t n ≡ seen_from t.facts g
  seen_is = ap (λ o. option_map_or (seen_from t.facts) o []) is

  goal_words : IsTrue (is_name g.name) × IsTrue (list_all is_name (fact_names g.assumes))
  goal_words = both_true (is_name g.name) (list_all is_name (fact_names g.assumes)) (passes_at (λ h. is_name h.name && list_all is_name (fact_names h.assumes)) t.goals n g are_words.1 is)

  seen_words : IsTrue (list_all is_name (fact_names (seen_from t.facts g)))
  seen_words =
      list_all-map is_name (λ f. f.name) (seen_from t.facts g)
      ∙ both_pass (λ f. is_name f.name) (take g.before t.facts) g.assumes
      (take_passes (λ f. is_name f.name) g.before t.facts (sym (list_all-map is_name (λ f. f.name) t.facts) ∙ words_front.1))
      (sym (list_all-map is_name (λ f. f.name) g.assumes) ∙ goal_words.1)

  each_fact : (k : ℕ) → k < length (names_of t n).facts → IsDeclared (names_of t n).facts k
  each_fact k l =
      declared_at (fact_names (seen t n)) k (subst (λ fs. IsTrue (list_all is_name (fact_names fs))) (sym seen_is) seen_words)
      (subst (λ fs. IsTrue (distinct (fact_names fs))) (sym seen_is) (passes_at (λ h. distinct (fact_names (seen_from t.facts h))) t.goals n g differ_last.1 is)) l

  goal_declared : n < length t.goals → IsDeclared (goal_names t.goals) n
  goal_declared l =
      declared_at (goal_names t.goals) n (list_all-map is_name (λ h. h.name) t.goals ∙ all_weaker (λ h. is_name h.name && list_all is_name (fact_names h.assumes)) (λ h. is_name h.name)
      (λ h both. (both_true (is_name h.name) (list_all is_name (fact_names h.assumes)) both).0) t.goals are_words.1) differ_goals.1 (subst (λ k. n < k) (sym (length-map t.goals (λ h. h.name))) l)

  -- ---- the whole text

  module _ (steps : List Step) (s : StepsLie (names_of t n) 0 steps) (within : n < length t.goals) where
    goal_is : IsDeclared (goal_names t.goals) n
    goal_is = goal_declared within

    abbrev text_name : List ℕ
    text_name = name_in (goal_names t.goals) n

    abbrev later : List ℕ
    later = steps_text (names_of t n) 0 steps ++ codes "end\n"

    abbrev body : List ℕ
    body = codes "goal" ++ 32 ∷ (text_name ++ 10 ∷ later)

    abbrev placed : List Placed
    placed = at 0 (Word (codes "goal")) ∷ at 0 space ∷ name 0 text_name (goal_names t.goals) ∷ at 0 line_end ∷ s.placed

    derived : IsProof t placed (record { goal = n; steps = steps })
    derived =
        let e = name_number (goal_names t.goals) n goal_is in
        subst (λ k. IsProof t placed (record { goal = k; steps = steps })) e (proof (subst (λ k. AreSteps (names_of t k) 0 s.placed steps) (sym e) s.derived))

    body_lies : Lies body placed []
    body_lies =
        let zeroth : 0 ≤ most = omega arith in
        let x = name 0 text_name (goal_names t.goals) in
        word_then 0 (codes "goal") (32 ∷ (text_name ++ 10 ∷ later)) [] (at 0 space ∷ x ∷ at 0 line_end ∷ s.placed) zeroth (record { some = omega arith; bytes = refl }) refl
        (sign_then 0 32 (text_name ++ 10 ∷ later) [] (x ∷ at 0 line_end ∷ s.placed) zeroth refl
        (joined (text_name ++ 10 ∷ later) (10 ∷ later) [] (x ∷ []) (at 0 line_end ∷ s.placed) (name_lies (goal_names t.goals) n 0 (10 ∷ later) goal_is zeroth refl)
        (sign_then 0 10 later [] s.placed zeroth refl s.lies)))

    pieces : (w st ending : List ℕ) → first_line ++ codes "goal " ++ w ++ codes "\n" ++ st ++ ending ≡ first_line ++ (codes "goal" ++ 32 ∷ (w ++ 10 ∷ (st ++ ending)))
    pieces w st ending = simp append_assoc

    pub whole_reads : Reads t (proof_text t n steps) (record { goal = n; steps = steps })
    whole_reads = record {
      before = [];
      body = body;
      starts = record { is = pieces text_name (steps_text (names_of t n) 0 steps) (codes "end\n"); lines = inl refl; earliest = λ front rest e lines. omega arith };
      read = record { placed = placed; derived = derived; within = body_lies.within; tokens = body_lies.tokens };
    }

goal_at : (o : Option Goal) (x : Term) → option_map (λ g. g.formula) o ≡ Some x → (g : Goal) × (o ≡ Some g)
goal_at None x h = cc
goal_at (Some g) x h = (g, refl)

module _ (t : Theory) (n : ℕ) (steps : List Step) where
  -- what is named in an environment is named in the texts beside its goal
  named_beside : (env : Env) → IsEnvOf t n env → StepsNamed env steps →
      IsTrue (list_all (λ s. args_named (length (names_of t n).types) (length (names_of t n).consts) (length (names_of t n).facts) (form s).args) steps)
  named_beside env is h =
      let one : 1 + length t.types ≡ length (names_of t n).types = omega arith in
      let types : env.sig.types ≡ length (names_of t n).types = ap (λ s. s.types) is.sig ∙ one in
      let consts : length env.sig.consts ≡ length (names_of t n).consts = ap (λ s. length s.consts) is.sig ∙ length-map t.consts (λ c. c.ty) ∙ sym (length-map t.consts (λ c. c.name)) in
      let facts : length env.facts ≡ length (names_of t n).facts = ap (λ fs. length fs) is.facts ∙ length-map (seen t n) (λ f. f.formula) ∙ sym (length-map (seen t n) (λ f. f.name)) in
      subst (λ k. IsTrue (list_all (λ s. args_named (length (names_of t n).types) (length (names_of t n).consts) k (form s).args) steps)) facts
      (subst (λ k. IsTrue (list_all (λ s. args_named (length (names_of t n).types) k (length env.facts) (form s).args) steps)) consts
      (subst (λ k. IsTrue (list_all (λ s. args_named k (length env.sig.consts) (length env.facts) (form s).args) steps)) types h))

  pub read_again : n < length t.goals → IsTrue (steps_fit steps) → (env : Env) → IsEnvOf t n env → Checks env steps → IsTrue (is_shallow steps) →
      Reads t (proof_text t n steps) (record { goal = n; steps = steps })
  read_again within fit env is checks shallow =
      let g = goal_at (slice_get t.goals n) env.goal is.goal in
      let s = steps_lie (names_of t n) (each_type t n g.0 g.1) (each_const t n g.0 g.1) (each_fact t n g.0 g.1) 0 steps (named_beside env is (checked_named env steps checks)) fit shallow in
      whole_reads t n g.0 g.1 steps s within

-- what two facts of a result give
pub both_ok : {A E : Type 0} (r : Result A E) (P Q R : A → Type 0) → ((x : A) → P x → Q x → R x) → IfOk r P → IfOk r Q → IfOk r R
both_ok (Ok x) P Q R f h k = f x h k
both_ok (Err e) P Q R f h k = tt
