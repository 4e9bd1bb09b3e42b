-- What is declared stays sound, declaration by declaration.
use Rattle.std.proofs.Common.{◌≡◌, ℕ, zero, suc, ◌+◌, ◌≤◌, ◌<◌, ◌∙◌, Bool, false, ◌&&◌, nat_le, IsTrue, List, [], ◌∷◌, ◌++◌, length, map, slice_get, Some, None, ap, sym, subst, refl, arith, append_assoc}
use Rattle.std.specs.List.{list_all, list_any}
use Rattle.std.specs.Str.{bytes_eq}
use Rattle.std.proofs.Math.Seq.{take-length}
use Rattle.std.proofs.lemmas.Bool.{le-leb, leb-true, or_from}
use Rattle.std.proofs.lemmas.List.{length-append, map-append, take-append-le, append-nil}
use Rattle.std.proofs.lemmas.List.Folds.{list_any-append}
use Rattle.hol_terms.proofs.Both.{both_true, and_true}
use Rattle.hol_terms.specs.declared.ty.Ty.{Ty}
use Rattle.hol_terms.specs.declared.sig.Sig.{Sig}
use Rattle.hol_terms.specs.declared.term.Term.{Term}
use Rattle.hol_terms.specs.Types.{ty_fits}
use Rattle.hol_terms.specs.Formulas.{is_sentence, IsSentence}
use Rattle.theory_terms.specs.declared.decl.Decl.{Decl}
use Rattle.theory_terms.specs.Words.{place}
use Rattle.theory_terms.specs.Signature.{sig_of, found}
use Rattle.theory_terms.proofs.Places.{none_any, place_none}
use Rattle.theory_reader.specs.declared.statement.Fact.{Fact}
use Rattle.theory_reader.specs.declared.statement.Goal.{Goal}
use Rattle.theory_reader.specs.Names.{is_name, distinct}
use Rattle.theory_reader.specs.Sound.{fact_names, goal_names, const_names, seen_from, facts_hold_sentences, goals_hold_sentences, are_behind}
use Rattle.theory_reader.specs.Declarations.{Declarations, known}
use Rattle.theory_reader.specs.Declaring.{fact_of, goal_of, with_type, with_const, with_fact, with_goal}
use Rattle.theory_reader.specs.inner.Stages.{IsSound}
use Rattle.theory_reader.proofs.Passes.{one_more_passes, all_weaker, both_weaker}
use Rattle.theory_reader.proofs.Grows.{Extends, ty_fits_more, sentence_stays}
use Rattle.theory_reader.proofs.Differ.{distinct_more}

-- a goal and its assumptions are named
abbrev pub goal_named : Goal → Bool
goal_named g = is_name g.name && list_all is_name (fact_names g.assumes)

pub record Kept (d : Declarations) : Type 0 where
  pub consts_fit : IsTrue (list_all (λ c. ty_fits (1 + length d.types) c.ty) d.consts)
  pub facts : IsTrue (facts_hold_sentences (sig_of (known d)) d.facts)
  pub goals : IsTrue (goals_hold_sentences (sig_of (known d)) d.goals)
  pub types_named : IsTrue (list_all is_name d.types)
  pub consts_named : IsTrue (list_all is_name (const_names d.consts))
  pub facts_named : IsTrue (list_all is_name (fact_names d.facts))
  pub goals_named : IsTrue (list_all goal_named d.goals)
  pub types_differ : IsTrue (distinct d.types)
  pub consts_differ : IsTrue (distinct (const_names d.consts))
  pub facts_differ : IsTrue (distinct (fact_names d.facts))
  pub goals_differ : IsTrue (distinct (goal_names d.goals))
  pub seen_differ : IsTrue (list_all (λ g. distinct (fact_names (seen_from d.facts g))) d.goals)
  pub behind : IsTrue (are_behind d.facts d.goals)
  pub few : length d.facts ≤ 20000
  pub assumes_few : IsTrue (list_all (λ g. nat_le (length g.assumes) 64) d.goals)

pub kept_sound : (d : Declarations) → Kept d → IsSound d
kept_sound d k = record {
  facts = k.facts;
  goals = k.goals;
  named = and_true _ _ (and_true _ _ (and_true _ _ k.types_named k.consts_named) k.facts_named) k.goals_named;
  distinct = and_true _ _ (and_true _ _ (and_true _ _ (and_true _ _ k.types_differ k.consts_differ) k.facts_differ) k.goals_differ) k.seen_differ;
  behind = k.behind;
  few = and_true (nat_le (length d.facts) 20000) (list_all (λ g. nat_le (length g.assumes) 64) d.goals) (le-leb (length d.facts) 20000 k.few) k.assumes_few;
}

-- ---- lists with one more

slice_get_front : {X : Type 0} (xs ys : List X) (k : ℕ) (x : X) → slice_get xs k ≡ Some x → slice_get (xs ++ ys) k ≡ Some x
slice_get_front [] ys k x e = cc
slice_get_front (y ∷ xs) ys zero x e = e
slice_get_front (y ∷ xs) ys (suc k) x e = slice_get_front xs ys k x e

module _ {X Y : Type 0} (f : X → Y) where
  mapped_more : (xs : List X) (x : X) → map f (xs ++ x ∷ []) ≡ map f xs ++ f x ∷ []
  mapped_more xs x = map-append f xs (x ∷ [])

names_more : {X : Type 0} (f : X → List ℕ) (xs : List X) (x : X) → IsTrue (list_all is_name (map f xs)) → IsTrue (is_name (f x)) →
    IsTrue (list_all is_name (map f (xs ++ x ∷ [])))
names_more f xs x h k =
    subst (λ ns. IsTrue (list_all is_name ns)) (sym (mapped_more f xs x)) (one_more_passes is_name (map f xs) (f x) h k)

differ_more : {X : Type 0} (f : X → List ℕ) (xs : List X) (x : X) → IsTrue (distinct (map f xs)) → place (f x) (map f xs) ≡ None →
    IsTrue (distinct (map f (xs ++ x ∷ [])))
differ_more f xs x h new =
    subst (λ ns. IsTrue (distinct ns)) (sym (mapped_more f xs x)) (distinct_more (map f xs) (f x) h (none_any (bytes_eq (f x)) (map f xs) new))

length_more : {X : Type 0} (xs : List X) (x : X) → length (xs ++ x ∷ []) ≡ length xs + 1
length_more xs x = length-append xs (x ∷ [])

-- ---- more types and constants

facts_stay : (small big : Sig) → Extends small big → (fs : List Fact) → IsTrue (facts_hold_sentences small fs) → IsTrue (facts_hold_sentences big fs)
facts_stay small big more fs h = all_weaker (λ f. is_sentence small f.formula) (λ f. is_sentence big f.formula) (λ f k. sentence_stays small big more f.formula k) fs h

goals_stay : (small big : Sig) → Extends small big → (gs : List Goal) → IsTrue (goals_hold_sentences small gs) → IsTrue (goals_hold_sentences big gs)
goals_stay small big more gs h =
    all_weaker (λ g. is_sentence small g.formula && facts_hold_sentences small g.assumes) (λ g. is_sentence big g.formula && facts_hold_sentences big g.assumes)
    (λ g k. let both = both_true (is_sentence small g.formula) (facts_hold_sentences small g.assumes) k in
    and_true (is_sentence big g.formula) (facts_hold_sentences big g.assumes) (sentence_stays small big more g.formula both.0) (facts_stay small big more g.assumes both.1))
    gs h

module _ (d : Declarations) (k : Kept d) where
  pub with_type_kept : (n : List ℕ) → IsTrue (is_name n) → place n d.types ≡ None → Kept (with_type d n)
  with_type_kept n named new =
      let longer : length (d.types ++ n ∷ []) ≡ length d.types + 1 = length_more d.types n in
      let le : 1 + length d.types ≤ 1 + length (d.types ++ n ∷ []) = omega arith in
      let more : Extends (sig_of (known d)) (sig_of (known (with_type d n))) = record { types = le; consts = λ i a e. e; aux = λ i a e. e } in
      record {
        consts_fit = all_weaker (λ c. ty_fits (1 + length d.types) c.ty) (λ c. ty_fits (1 + length (d.types ++ n ∷ [])) c.ty)
            (λ c h. ty_fits_more (1 + length d.types) (1 + length (d.types ++ n ∷ [])) le c.ty h) d.consts k.consts_fit;
        facts = facts_stay (sig_of (known d)) (sig_of (known (with_type d n))) more d.facts k.facts;
        goals = goals_stay (sig_of (known d)) (sig_of (known (with_type d n))) more d.goals k.goals;
        types_named = one_more_passes is_name d.types n k.types_named named;
        consts_named = k.consts_named;
        facts_named = k.facts_named;
        goals_named = k.goals_named;
        types_differ = distinct_more d.types n k.types_differ (none_any (bytes_eq n) d.types new);
        consts_differ = k.consts_differ;
        facts_differ = k.facts_differ;
        goals_differ = k.goals_differ;
        seen_differ = k.seen_differ;
        behind = k.behind;
        few = k.few;
        assumes_few = k.assumes_few;
      }

  pub with_const_kept : (n : List ℕ) (a : Ty) → IsTrue (is_name n) → found n d.consts ≡ None → IsTrue (ty_fits (1 + length d.types) a) →
      Kept (with_const d n a)
  with_const_kept n a named new fits =
      let c : Decl = record { name = n; ty = a } in
      let more : Extends (sig_of (known d)) (sig_of (known (with_const d n a))) = record {
        types = omega arith;
        consts = λ i b e. subst (λ ts. slice_get ts i ≡ Some b) (sym (mapped_more (λ c. c.ty) d.consts c)) (slice_get_front (map (λ c. c.ty) d.consts) (a ∷ []) i b e);
        aux = λ i b e. e;
      } in
      record {
        consts_fit = one_more_passes (λ c. ty_fits (1 + length d.types) c.ty) d.consts c k.consts_fit fits;
        facts = facts_stay (sig_of (known d)) (sig_of (known (with_const d n a))) more d.facts k.facts;
        goals = goals_stay (sig_of (known d)) (sig_of (known (with_const d n a))) more d.goals k.goals;
        types_named = k.types_named;
        consts_named = names_more (λ c. c.name) d.consts c k.consts_named named;
        facts_named = k.facts_named;
        goals_named = k.goals_named;
        types_differ = k.types_differ;
        consts_differ = differ_more (λ c. c.name) d.consts c k.consts_differ (place_none n d.consts new);
        facts_differ = k.facts_differ;
        goals_differ = k.goals_differ;
        seen_differ = k.seen_differ;
        behind = k.behind;
        few = k.few;
        assumes_few = k.assumes_few;
      }

  -- a goal sees the same facts where a later one is declared
  seen_stay : (f : Fact) (g : Goal) → g.before ≤ length d.facts → seen_from (d.facts ++ f ∷ []) g ≡ seen_from d.facts g
  seen_stay f g le = ap (λ fs. fs ++ g.assumes) (take-append-le g.before d.facts (f ∷ []) le)

  pub with_fact_kept : (n : List ℕ) (t : Term) → IsTrue (is_name n) → place n (fact_names d.facts) ≡ None → length d.facts < 20000 →
      IsSentence (sig_of (known d)) t → Kept (with_fact d n t)
  with_fact_kept n t named new few holds =
      let f : Fact = fact_of n t in
      let longer : length (d.facts ++ f ∷ []) ≡ length d.facts + 1 = length_more d.facts f in
      record {
        consts_fit = k.consts_fit;
        facts = one_more_passes (λ f. is_sentence (sig_of (known d)) f.formula) d.facts f k.facts holds;
        goals = k.goals;
        types_named = k.types_named;
        consts_named = k.consts_named;
        facts_named = names_more (λ f. f.name) d.facts f k.facts_named named;
        goals_named = k.goals_named;
        types_differ = k.types_differ;
        consts_differ = k.consts_differ;
        facts_differ = differ_more (λ f. f.name) d.facts f k.facts_differ new;
        goals_differ = k.goals_differ;
        seen_differ = both_weaker (λ g. distinct (fact_names (seen_from d.facts g))) (λ g. nat_le g.before (length d.facts))
            (λ g. distinct (fact_names (seen_from (d.facts ++ f ∷ []) g)))
            (λ g h b. subst (λ fs. IsTrue (distinct (fact_names fs))) (sym (seen_stay f g (leb-true g.before (length d.facts) b))) h)
            d.goals k.seen_differ k.behind;
        behind = all_weaker (λ g. nat_le g.before (length d.facts)) (λ g. nat_le g.before (length (d.facts ++ f ∷ [])))
            (λ g h. let b : g.before ≤ length d.facts = leb-true g.before (length d.facts) h in
            let c : g.before ≤ length (d.facts ++ f ∷ []) = omega arith in le-leb g.before (length (d.facts ++ f ∷ [])) c) d.goals k.behind;
        few = omega arith;
        assumes_few = k.assumes_few;
      }

  pub with_goal_kept : (n : List ℕ) (t : Term) (assumes : List Fact) → IsTrue (is_name n) → place n (goal_names d.goals) ≡ None →
      IsSentence (sig_of (known d)) t → IsTrue (facts_hold_sentences (sig_of (known d)) assumes) → IsTrue (list_all is_name (fact_names assumes)) →
      IsTrue (distinct (fact_names d.facts ++ fact_names assumes)) → length assumes ≤ 64 → Kept (with_goal d n t assumes)
  with_goal_kept n t assumes named new holds hold are_named differ few =
      let g : Goal = goal_of n t (length d.facts) assumes in
      let seen : seen_from d.facts g ≡ d.facts ++ assumes = ap (λ fs. fs ++ assumes) (take-length d.facts) in
      record {
        consts_fit = k.consts_fit;
        facts = k.facts;
        goals = one_more_passes (λ g. is_sentence (sig_of (known d)) g.formula && facts_hold_sentences (sig_of (known d)) g.assumes) d.goals g k.goals
            (and_true (is_sentence (sig_of (known d)) t) (facts_hold_sentences (sig_of (known d)) assumes) holds hold);
        types_named = k.types_named;
        consts_named = k.consts_named;
        facts_named = k.facts_named;
        goals_named = one_more_passes goal_named d.goals g k.goals_named (and_true (is_name n) (list_all is_name (fact_names assumes)) named are_named);
        types_differ = k.types_differ;
        consts_differ = k.consts_differ;
        facts_differ = k.facts_differ;
        goals_differ = differ_more (λ g. g.name) d.goals g k.goals_differ new;
        seen_differ = one_more_passes (λ g. distinct (fact_names (seen_from d.facts g))) d.goals g k.seen_differ
            (subst (λ fs. IsTrue (distinct (fact_names fs))) (sym seen) (subst (λ ns. IsTrue (distinct ns)) (sym (map-append (λ f. f.name) d.facts assumes)) differ));
        behind = one_more_passes (λ g. nat_le g.before (length d.facts)) d.goals g k.behind (le-leb (length d.facts) (length d.facts) (omega arith));
        few = k.few;
        assumes_few = one_more_passes (λ g. nat_le (length g.assumes) 64) d.goals g k.assumes_few (le-leb (length assumes) 64 few);
      }

  -- ---- the assumptions of a goal

  pub record AssumesKept (assumes : List Fact) : Type 0 where
    pub hold : IsTrue (facts_hold_sentences (sig_of (known d)) assumes)
    pub named : IsTrue (list_all is_name (fact_names assumes))
    pub differ : IsTrue (distinct (fact_names d.facts ++ fact_names assumes))
    pub few : length assumes ≤ 64

  pub none_kept : AssumesKept []
  none_kept = record {
    hold = refl;
    named = refl;
    differ = subst (λ ns. IsTrue (distinct ns)) (sym (append-nil (fact_names d.facts))) k.facts_differ;
    few = omega arith;
  }

  pub one_more_kept : (assumes : List Fact) (n : List ℕ) (t : Term) → AssumesKept assumes → IsTrue (is_name n) → place n (fact_names d.facts) ≡ None →
      place n (fact_names assumes) ≡ None → length assumes < 64 → IsSentence (sig_of (known d)) t → AssumesKept (assumes ++ fact_of n t ∷ [])
  one_more_kept assumes n t a named new fresh few holds =
      let f : Fact = fact_of n t in
      let longer : length (assumes ++ f ∷ []) ≡ length assumes + 1 = length_more assumes f in
      let regrouped : fact_names d.facts ++ fact_names (assumes ++ f ∷ []) ≡ (fact_names d.facts ++ fact_names assumes) ++ n ∷ [] =
      ap (λ ns. fact_names d.facts ++ ns) (mapped_more (λ f. f.name) assumes f) ∙ sym (append_assoc (fact_names d.facts) (fact_names assumes) (n ∷ [])) in
      let nowhere : list_any (bytes_eq n) (fact_names d.facts ++ fact_names assumes) ≡ false =
      list_any-append (bytes_eq n) (fact_names d.facts) (fact_names assumes) ∙
      or_from (list_any (bytes_eq n) (fact_names d.facts)) (list_any (bytes_eq n) (fact_names assumes)) (none_any (bytes_eq n) (fact_names d.facts) new) (none_any (bytes_eq n) (fact_names assumes) fresh) in
      record {
        hold = one_more_passes (λ f. is_sentence (sig_of (known d)) f.formula) assumes f a.hold holds;
        named = names_more (λ f. f.name) assumes f a.named named;
        differ = subst (λ ns. IsTrue (distinct ns)) (sym regrouped) (distinct_more (fact_names d.facts ++ fact_names assumes) n a.differ nowhere);
        few = omega arith;
      }
