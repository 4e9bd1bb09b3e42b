-- What a declaration that was made rests on.
use Rattle.std.proofs.Common.{◌≡◌, ℕ, Bool, true, false, ◌||◌, nat_le, List, [], ◌∷◌, ◌++◌, length, Some, None, refl}
use Rattle.std.specs.Prelude.{Option, is_some}
use Rattle.std.specs.Str.{bytes_eq}
use Rattle.hol_terms.specs.declared.ty.Ty.{Ty}
use Rattle.hol_terms.specs.declared.term.Term.{Term}
use Rattle.theory_syntax.specs.declared.tokens.Word.{Word}
use Rattle.theory_syntax.specs.declared.tree.Hyp.{Hyp}
use Rattle.theory_syntax.specs.declared.tree.Tree.{Tree}
use Rattle.theory_syntax.specs.declared.tree.TyTree.{TyTree}
use Rattle.theory_terms.specs.declared.fault.TheoryKind.{TheoryKind}
use Rattle.theory_terms.specs.declared.fault.TheoryKind.TheVariants.{Repeated, TooMany}
use Rattle.theory_terms.specs.Answers.{Answer, Good, and_then}
use Rattle.theory_terms.specs.Words.{word_at, place}
use Rattle.theory_terms.specs.Signature.{found}
use Rattle.theory_terms.specs.Types.{type_of_tree}
use Rattle.theory_terms.specs.Meanings.{sentence}
use Rattle.theory_terms.proofs.Openings.{opened, good_same}
use Rattle.theory_reader.specs.declared.statement.Fact.{Fact}
use Rattle.theory_reader.specs.Sound.{fact_names}
use Rattle.theory_reader.specs.Declarations.{Declarations, known}
use Rattle.theory_reader.specs.Declaring.{unless, is_stated, fact_of, with_type, with_const, with_fact, with_goal, type_declared, const_declared, fact_declared, goal_declared, assumption, assumptions}

-- the test failed
passed : {A : Type 0} (b : Bool) (at : ℕ) (k : TheoryKind) (a : Answer A) (v : A) → unless b at k a ≡ Good v → (b ≡ false) × (a ≡ Good v)
passed true at k a v h = cc
passed false at k a v h = (refl, h)

pub is_none : {A : Type 0} (o : Option A) → is_some o ≡ false → o ≡ None
is_none None h = refl
is_none (Some x) h = cc

module _ (text : List ℕ) (d : Declarations) where
  pub record TypeMade (w : Word) (e : Declarations) : Type 0 where
    pub new : place (word_at text w) d.types ≡ None
    pub made : with_type d (word_at text w) ≡ e

  pub type_made : (w : Word) (e : Declarations) → type_declared text d w ≡ Good e → TypeMade w e
  type_made w e h =
      let one = passed (is_some (place (word_at text w) d.types)) w.start Repeated (Good (with_type d (word_at text w))) e h in
      record { new = is_none (place (word_at text w) d.types) one.0; made = good_same (with_type d (word_at text w)) e one.1 }

  pub record ConstMade (w : Word) (tree : TyTree) (e : Declarations) : Type 0 where
    pub new : found (word_at text w) d.consts ≡ None
    pub ty : Ty
    pub read : type_of_tree text (known d) tree ≡ Good ty
    pub made : with_const d (word_at text w) ty ≡ e

  pub const_made : (w : Word) (a : TyTree) (e : Declarations) → const_declared text d w a ≡ Good e → ConstMade w a e
  const_made w a e h =
      let n = word_at text w in
      let one = passed (is_some (found n d.consts)) w.start Repeated (and_then (type_of_tree text (known d) a) (λ ty. Good (with_const d n ty))) e h in
      let two = opened (type_of_tree text (known d) a) (λ ty. Good (with_const d n ty)) e one.1 in
      record { new = is_none (found n d.consts) one.0; ty = two.0; read = two.1.0; made = good_same (with_const d n two.0) e two.1.1 }

  pub record FactMade (w : Word) (tree : Tree) (e : Declarations) : Type 0 where
    pub new : is_stated d (word_at text w) ≡ false
    pub few : nat_le 20000 (length d.facts) ≡ false
    pub formula : Term
    pub read : sentence text (known d) tree ≡ Good formula
    pub made : with_fact d (word_at text w) formula ≡ e

  pub fact_made : (w : Word) (t : Tree) (e : Declarations) → fact_declared text d w t ≡ Good e → FactMade w t e
  fact_made w t e h =
      let n = word_at text w in
      let read = and_then (sentence text (known d) t) (λ f. Good (with_fact d n f)) in
      let one = passed (is_stated d n) w.start Repeated (unless (nat_le 20000 (length d.facts)) w.start TooMany read) e h in
      let two = passed (nat_le 20000 (length d.facts)) w.start TooMany read e one.1 in
      let three = opened (sentence text (known d) t) (λ f. Good (with_fact d n f)) e two.1 in
      record { new = one.0; few = two.0; formula = three.0; read = three.1.0; made = good_same (with_fact d n three.0) e three.1.1 }

  pub record AssumptionMade (goal : List ℕ) (before : List Fact) (h : Hyp) (more : List Fact) : Type 0 where
    pub new : (is_stated d (word_at text h.name) || (bytes_eq (word_at text h.name) goal || is_some (place (word_at text h.name) (fact_names before)))) ≡ false
    pub few : nat_le 64 (length before) ≡ false
    pub formula : Term
    pub read : sentence text (known d) h.tree ≡ Good formula
    pub made : before ++ fact_of (word_at text h.name) formula ∷ [] ≡ more

  pub assumption_made : (goal : List ℕ) (before : List Fact) (h : Hyp) (more : List Fact) → assumption text d goal before h ≡ Good more → AssumptionMade goal before h more
  assumption_made goal before h more e =
      let n = word_at text h.name in
      let repeated = is_stated d n || (bytes_eq n goal || is_some (place n (fact_names before))) in
      let read = and_then (sentence text (known d) h.tree) (λ f. Good (before ++ fact_of n f ∷ [])) in
      let one = passed repeated h.name.start Repeated (unless (nat_le 64 (length before)) h.name.start TooMany read) more e in
      let two = passed (nat_le 64 (length before)) h.name.start TooMany read more one.1 in
      let three = opened (sentence text (known d) h.tree) (λ f. Good (before ++ fact_of n f ∷ [])) more two.1 in
      record { new = one.0; few = two.0; formula = three.0; read = three.1.0; made = good_same (before ++ fact_of n three.0 ∷ []) more three.1.1 }

  pub record GoalMade (w : Word) (tree : Tree) (hs : List Hyp) (e : Declarations) : Type 0 where
    pub new : is_stated d (word_at text w) ≡ false
    pub formula : Term
    pub read : sentence text (known d) tree ≡ Good formula
    pub assumes : List Fact
    pub assumed : assumptions text d (word_at text w) [] hs ≡ Good assumes
    pub made : with_goal d (word_at text w) formula assumes ≡ e

  pub goal_made : (w : Word) (t : Tree) (hs : List Hyp) (e : Declarations) → goal_declared text d w t hs ≡ Good e → GoalMade w t hs e
  goal_made w t hs e h =
      let n = word_at text w in
      let assumed = λ (f : Term). and_then (assumptions text d n [] hs) (λ got. Good (with_goal d n f got)) in
      let one = passed (is_stated d n) w.start Repeated (and_then (sentence text (known d) t) assumed) e h in
      let two = opened (sentence text (known d) t) assumed e one.1 in
      let three = opened (assumptions text d n [] hs) (λ got. Good (with_goal d n two.0 got)) e two.1.1 in
      record { new = one.0; formula = two.0; read = two.1.0; assumes = three.0; assumed = three.1.0; made = good_same (with_goal d n two.0 three.0) e three.1.1 }
