-- What the declarations of a file make is sound.
use Rattle.std.proofs.Common.{◌≡◌, ℕ, ◌+◌, ◌<◌, Bool, true, false, ◌||◌, nat_le, IsTrue, List, [], ◌∷◌, ◌++◌, length, Some, None, subst, refl, arith}
use Rattle.std.specs.Prelude.{Option, is_some}
use Rattle.std.specs.List.{list_all}
use Rattle.std.specs.Str.{bytes_eq}
use Rattle.std.proofs.lemmas.Bool.{leb-false, or_parts}
use Rattle.std.proofs.lemmas.List.Sums.{AllPass-from_list_all}
use Rattle.hol_terms.proofs.Both.{both_true}
use Rattle.hol_terms.specs.Types.{ty_fits}
use Rattle.hol_terms.specs.Formulas.{IsSentence}
use Rattle.hol_terms.specs.declared.term.Term.{Term}
use Rattle.theory_syntax.specs.declared.tokens.Word.{Word}
use Rattle.theory_syntax.specs.declared.tree.Hyp.{Hyp}
use Rattle.theory_syntax.specs.declared.tree.Tree.{Tree}
use Rattle.theory_syntax.specs.declared.tree.TyTree.{TyTree}
use Rattle.theory_syntax.specs.declared.tree.Item.{Item}
use Rattle.theory_syntax.specs.declared.tree.Item.TheVariants as item
use Rattle.theory_terms.specs.declared.fault.TheoryKind.{TheoryKind}
use Rattle.theory_terms.specs.declared.fault.TheoryKind.TheVariants.{Repeated, TooMany}
use Rattle.theory_terms.specs.Answers.{Answer, Good, and_then}
use Rattle.theory_terms.specs.Words.{word_at, place}
use Rattle.theory_terms.specs.Signature.{sig_of, found}
use Rattle.theory_terms.specs.Types.{type_of_tree}
use Rattle.theory_terms.specs.Meanings.{sentence}
use Rattle.theory_terms.proofs.Openings.{opened, good_same}
use Rattle.theory_terms.proofs.TypeFits.{type_fits}
use Rattle.theory_terms.proofs.Typed.{sentence_is}
use Rattle.theory_reader.specs.declared.statement.Fact.{Fact}
use Rattle.theory_reader.specs.Sound.{fact_names, goal_names}
use Rattle.theory_reader.specs.Declarations.{Declarations, known}
use Rattle.theory_reader.specs.Declaring.{unless, is_stated, fact_of, with_type, with_const, with_fact, with_goal, type_declared, const_declared, fact_declared, goal_declared, assumption, assumptions, declared, declared_all, nothing, theory_of}
use Rattle.theory_reader.specs.Reading.{ReadsItems}
use Rattle.theory_reader.specs.inner.Stages.{IsSound}
use Rattle.theory_reader.proofs.Kept.{Kept, kept_sound, with_type_kept, with_const_kept, with_fact_kept, with_goal_kept, AssumesKept, none_kept, one_more_kept}
use Rattle.theory_reader.proofs.Named.{named, hyp_named, item_named, declares_names}
use Rattle.theory_reader.proofs.Passes.{head_passes, tail_passes}

-- the test failed
passed : {A : Type 0} (b : Bool) (at : ℕ) (k : TheoryKind) (a : Answer A) (v : A) → unless b at k a ≡ Good v → (b ≡ false) × (a ≡ Good v)
passed true at k a v h = cc
passed false at k a v h = (refl, h)

is_none : {A : Type 0} (o : Option A) → is_some o ≡ false → o ≡ None
is_none None h = refl
is_none (Some x) h = cc

below : (n m : ℕ) → nat_le n m ≡ false → m < n
below n m h = leb-false n m h

module _ (text : List ℕ) (d : Declarations) (k : Kept d) where
  -- a formula that is read is a sentence
  read_holds : (t : Tree) (f : Term) → sentence text (known d) t ≡ Good f → IsSentence (sig_of (known d)) f
  read_holds t f h = sentence_is text (known d) (AllPass-from_list_all (λ c. ty_fits (1 + length d.types) c.ty) d.consts k.consts_fit) t f h

  new_fact : (n : List ℕ) → is_stated d n ≡ false → place n (fact_names d.facts) ≡ None
  new_fact n h = is_none (place n (fact_names d.facts)) (or_parts (is_some (place n (fact_names d.facts))) (is_some (place n (goal_names d.goals))) h).0

  new_goal : (n : List ℕ) → is_stated d n ≡ false → place n (goal_names d.goals) ≡ None
  new_goal n h = is_none (place n (goal_names d.goals)) (or_parts (is_some (place n (fact_names d.facts))) (is_some (place n (goal_names d.goals))) h).1

  type_kept : (w : Word) (e : Declarations) → IsTrue (named text w) → type_declared text d w ≡ Good e → Kept e
  type_kept w e is h =
      let one = passed (is_some (place (word_at text w) d.types)) w.start Repeated (Good (with_type d (word_at text w))) e h in
      subst Kept (good_same (with_type d (word_at text w)) e one.1) (with_type_kept d k (word_at text w) is (is_none (place (word_at text w) d.types) one.0))

  const_kept : (w : Word) (a : TyTree) (e : Declarations) → IsTrue (named text w) → const_declared text d w a ≡ Good e → Kept e
  const_kept w a e is h =
      let n = word_at text w in
      let one = passed (is_some (found n d.consts)) w.start Repeated (and_then (type_of_tree text (known d) a) (λ ty. Good (with_const d n ty))) e h in
      let two = opened (type_of_tree text (known d) a) (λ ty. Good (with_const d n ty)) e one.1 in
      subst Kept (good_same (with_const d n two.0) e two.1.1)
      (with_const_kept d k n two.0 is (is_none (found n d.consts) one.0) (type_fits text (known d) a two.0 two.1.0))

  fact_kept : (w : Word) (t : Tree) (e : Declarations) → IsTrue (named text w) → fact_declared text d w t ≡ Good e → Kept e
  fact_kept w t e is h =
      let n = word_at text w in
      let read = and_then (sentence text (known d) t) (λ f. Good (with_fact d n f)) in
      let one = passed (is_stated d n) w.start Repeated (unless (nat_le 20000 (length d.facts)) w.start TooMany read) e h in
      let two = passed (nat_le 20000 (length d.facts)) w.start TooMany read e one.1 in
      let three = opened (sentence text (known d) t) (λ f. Good (with_fact d n f)) e two.1 in
      subst Kept (good_same (with_fact d n three.0) e three.1.1)
      (with_fact_kept d k n three.0 is (new_fact n one.0) (below 20000 (length d.facts) two.0) (read_holds t three.0 three.1.0))

  assumption_kept : (goal : List ℕ) (before : List Fact) (h : Hyp) (more : List Fact) → AssumesKept d k before → IsTrue (hyp_named text h) →
      assumption text d goal before h ≡ Good more → AssumesKept d k more
  assumption_kept goal before h more a is e =
      let n = word_at text h.name in
      let repeated = is_stated d n || (bytes_eq n goal || is_some (place n (fact_names before))) in
      let read = and_then (sentence text (known d) h.tree) (λ f. Good (before ++ fact_of n f ∷ [])) in
      let one = passed repeated h.name.start Repeated (unless (nat_le 64 (length before)) h.name.start TooMany read) more e in
      let two = passed (nat_le 64 (length before)) h.name.start TooMany read more one.1 in
      let three = opened (sentence text (known d) h.tree) (λ f. Good (before ++ fact_of n f ∷ [])) more two.1 in
      let parts = or_parts (is_stated d n) (bytes_eq n goal || is_some (place n (fact_names before))) one.0 in
      let fresh = is_none (place n (fact_names before)) (or_parts (bytes_eq n goal) (is_some (place n (fact_names before))) parts.1).1 in
      subst (AssumesKept d k) (good_same (before ++ fact_of n three.0 ∷ []) more three.1.1)
      (one_more_kept d k before n three.0 a is (new_fact n parts.0) fresh (below 64 (length before) two.0) (read_holds h.tree three.0 three.1.0))

  assumptions_kept : (goal : List ℕ) (before : List Fact) (hs : List Hyp) (more : List Fact) → AssumesKept d k before →
      IsTrue (list_all (hyp_named text) hs) → assumptions text d goal before hs ≡ Good more → AssumesKept d k more
  assumptions_kept goal before [] more a is e = subst (AssumesKept d k) (good_same before more e) a
  assumptions_kept goal before (h ∷ hs) more a is e =
      let one = opened (assumption text d goal before h) (λ now. assumptions text d goal now hs) more e in
      assumptions_kept goal one.0 hs more (assumption_kept goal before h one.0 a (head_passes (hyp_named text) h hs is) one.1.0)
      (tail_passes (hyp_named text) h hs is) one.1.1

  goal_kept : (w : Word) (t : Tree) (hs : List Hyp) (e : Declarations) → IsTrue (named text w) → IsTrue (list_all (hyp_named text) hs) →
      goal_declared text d w t hs ≡ Good e → Kept e
  goal_kept w t hs e is are h =
      let n = word_at text w in
      let assumed = λ (f : Term). and_then (assumptions text d n [] hs) (λ assumes. Good (with_goal d n f assumes)) in
      let one = passed (is_stated d n) w.start Repeated (and_then (sentence text (known d) t) assumed) e h in
      let two = opened (sentence text (known d) t) assumed e one.1 in
      let three = opened (assumptions text d n [] hs) (λ assumes. Good (with_goal d n two.0 assumes)) e two.1.1 in
      let kept = assumptions_kept n [] hs three.0 (none_kept d k) are three.1.0 in
      subst Kept (good_same (with_goal d n two.0 three.0) e three.1.1)
      (with_goal_kept d k n two.0 three.0 is (new_goal n one.0) (read_holds t two.0 two.1.0) kept.hold kept.named kept.differ kept.few)

  item_kept : (x : Item) (e : Declarations) → IsTrue (item_named text x) → declared text d x ≡ Good e → Kept e
  item_kept (item.Type w) e is h = type_kept w e is h
  item_kept (item.Const w a) e is h = const_kept w a e is h
  item_kept (item.Fact w t) e is h = fact_kept w t e is h
  item_kept (item.Goal w t hs) e is h =
      let both = both_true (named text w) (list_all (hyp_named text) hs) is in goal_kept w t hs e both.0 both.1 h

all_kept : (text : List ℕ) (d : Declarations) (items : List Item) (e : Declarations) → Kept d → IsTrue (list_all (item_named text) items) →
    declared_all text d items ≡ Good e → Kept e
all_kept text d [] e k are h = subst Kept (good_same d e h) k
all_kept text d (x ∷ items) e k are h =
    let one = opened (declared text d x) (λ next. declared_all text next items) e h in
    all_kept text one.0 items e (item_kept text d k x one.0 (head_passes (item_named text) x items are) one.1.0)
    (tail_passes (item_named text) x items are) one.1.1

nothing_kept : Kept nothing
nothing_kept = record {
  consts_fit = refl;
  facts = refl;
  goals = refl;
  types_named = refl;
  consts_named = refl;
  facts_named = refl;
  goals_named = refl;
  types_differ = refl;
  consts_differ = refl;
  facts_differ = refl;
  goals_differ = refl;
  seen_differ = refl;
  behind = refl;
  few = omega arith;
  assumes_few = refl;
}

pub theory_sound : (text : List ℕ) (items : List Item) (e : Declarations) → ReadsItems text items → theory_of text items ≡ Good e → IsSound e
theory_sound text items e r h = kept_sound e (all_kept text nothing items e nothing_kept (declares_names text items r) h)
