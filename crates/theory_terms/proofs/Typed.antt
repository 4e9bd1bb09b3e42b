-- What is read is typed over the signature of what is declared.
use Rattle.std.proofs.Common.{◌≡◌, ℕ, zero, suc, ◌+◌, ◌<◌, Bool, true, false, if◌then◌else◌, IsTrue, ◌&&◌, nat_lt, List, [], ◌∷◌, map, length, slice_get, get_or, refl, sym, ap, subst, ◌∙◌, arith, Some, None}
use Rattle.std.specs.Prelude.{Option, All}
use Rattle.std.specs.Option.{option_map}
use Rattle.std.proofs.lemmas.Option.{slice_get_within, get_or_from_slice_get}
use Rattle.hol_terms.specs.declared.ty.Ty.{Ty, roll-Ty, out-Ty}
use Rattle.hol_terms.specs.declared.ty.Ty.TheOpen.{Ty-F}
use Rattle.hol_terms.specs.declared.konst.Konst.{Konst}
use Rattle.hol_terms.specs.declared.konst.Konst.TheVariants as konst
use Rattle.hol_terms.specs.declared.sig.Sig.{Sig}
use Rattle.hol_terms.specs.declared.term.Term.{Term, roll-Term}
use Rattle.hol_terms.specs.declared.term.Term.TheOpen.{Term-F}
use Rattle.hol_terms.specs.Types.{is_ty, ty_fits, bool_ty, function_ty}
use Rattle.hol_terms.specs.Typing.{type_in, applied_at, fitting, konst_type}
use Rattle.hol_terms.specs.Typing.{applied as type_applied}
use Rattle.hol_terms.specs.Formulas.{aux_free, var_free, no_aux, has_ty, typed_as, is_formula, is_sentence, IsSentence}
use Rattle.hol_terms.proofs.TyCases.{is_ty_same, is_ty_itself}
use Rattle.hol_terms.proofs.Equations.{type-bound, type-con, type-app, type-lam, aux_free-bound, aux_free-con, aux_free-app, aux_free-lam, var_free-bound, var_free-con, var_free-app, var_free-lam}
use Rattle.hol_terms.proofs.Both.{and_true}
use Rattle.hol_terms.proofs.TypedParts.{checked_so, under_so}
use Rattle.hol_terms.proofs.TypedParts.{type_fits as term_fits}
use Rattle.theory_syntax.specs.declared.tokens.Word.{Word}
use Rattle.theory_syntax.specs.declared.tokens.Quant.{Quant}
use Rattle.theory_syntax.specs.declared.tokens.Quant.TheVariants as quant
use Rattle.theory_syntax.specs.declared.tree.Op.{Op}
use Rattle.theory_syntax.specs.declared.tree.Op.TheVariants as op
use Rattle.theory_syntax.specs.declared.tree.TyTree.{TyTree}
use Rattle.theory_syntax.specs.declared.tree.Tree.{Tree, roll-Tree}
use Rattle.theory_syntax.specs.declared.tree.Tree.TheOpen.{Tree-F}
use Rattle.theory_syntax.specs.declared.tree.Tree.TheFolds.{fold-roll-Tree, map-Tree}
use Rattle.theory_terms.specs.declared.decl.Decl.{Decl}
use Rattle.theory_terms.specs.declared.fault.TheoryKind.TheVariants as kind
use Rattle.theory_terms.specs.Answers.{Answer, Good, Bad, and_then}
use Rattle.theory_terms.specs.Words.{word_at}
use Rattle.theory_terms.specs.Signature.{Declared, sig_of, found}
use Rattle.theory_terms.specs.Types.{type_of_tree}
use Rattle.theory_terms.specs.Meanings.{depth, Meaning, constant, application, lambda, made, const_as, named_as, truth, target_as, target, applied, applied_all, sign, operator_konst, operator, equality, negation, signed, between, quantifier, quantified, bound, moved, meaning, meaning_step, stated, sentence}
use Rattle.theory_terms.proofs.Openings.{opened, if_good, good_same}
use Rattle.theory_terms.proofs.Places.{found_type}
use Rattle.theory_terms.proofs.TreeCases.{Each, tree_cases}
use Rattle.theory_terms.proofs.TypeFits.{type_fits}

-- ---- lists

get_map : {X Y : Type 0} (f : X → Y) (xs : List X) (i : ℕ) → slice_get (map f xs) i ≡ option_map f (slice_get xs i)
get_map f [] i = refl
get_map f (x ∷ xs) zero = refl
get_map f (x ∷ xs) (suc i) = get_map f xs i

-- ---- the type of an application

target_layer : (at n : ℕ) (arg b : Ty) (y : Ty-F Ty) → target_as at n arg y ≡ Good b → applied_at y arg ≡ Some b
target_layer at n arg b (Ty-F.Base a) h = cc
target_layer at n arg b (Ty-F.Arrow c d) h = let both = if_good (is_ty c arg) d b n kind.IllTyped h in rw both.0 (ap Some both.1)

target_type : (at : ℕ) (head : Ty) (n : ℕ) (arg b : Ty) → target at head n arg ≡ Good b → type_applied (Some head) (Some arg) ≡ Some b
target_type at head n arg b h = target_layer at n arg b (out-Ty head) h

module _ (text : List ℕ) (known : Declared) where
  abbrev sig : Sig
  sig = sig_of known

  abbrev types_of : List Decl → List Ty
  types_of scope = map (λ d. d.ty) scope

  -- the term has the type, and neither auxiliary constants nor free variables
  pub record Typed (scope : List Decl) (m : Meaning) : Type 0 where
    pub typed : type_in sig m.term (types_of scope) ≡ Some m.ty
    pub aux : IsTrue (aux_free m.term)
    pub var : IsTrue (var_free m.term)

  abbrev pub AllFit : List Ty → Type 0
  AllFit c = (i : ℕ) (a : Ty) → slice_get c i ≡ Some a → IsTrue (ty_fits sig.types a)

  fits : (scope : List Decl) (m : Meaning) → AllFit (types_of scope) → Typed scope m → IsTrue (ty_fits sig.types m.ty)
  fits scope m each h = term_fits sig (omega arith) m.term (types_of scope) m.ty each h.typed

  made_typed : (scope : List Decl) (at : ℕ) (t : Term) (a : Ty) (m : Meaning) → Typed scope (record { at = at; term = t; ty = a }) → made at t a ≡ Good m → Typed scope m
  made_typed scope at t a m h e = subst (Typed scope) (if_good _ (record { at = at; term = t; ty = a }) m at kind.TooDeep e).1 h

  applied_typed : (scope : List Decl) (f x m : Meaning) → Typed scope f → Typed scope x → applied f x ≡ Good m → Typed scope m
  applied_typed scope f x m hf hx h =
      let whole = opened (target f.at f.ty x.at x.ty) (made f.at (application f.term x.term)) m h in
      made_typed scope f.at (application f.term x.term) whole.0 m
      (record {
        typed = type-app sig f.term x.term (types_of scope) ∙ (λ i. type_applied (hf.typed i) (hx.typed i)) ∙ target_type f.at f.ty x.at x.ty whole.0 whole.1.0;
        aux = aux_free-app f.term x.term ∙ and_true (aux_free f.term) (aux_free x.term) hf.aux hx.aux;
        var = var_free-app f.term x.term ∙ and_true (var_free f.term) (var_free x.term) hf.var hx.var;
      }) whole.1.1

  sign_typed : (scope : List Decl) (at : ℕ) (k : Konst) (a : Ty) → konst_type sig k ≡ Some a → IsTrue (no_aux k) → Typed scope (sign at k a)
  sign_typed scope at k a h plain = record {
    typed = type-con sig k (types_of scope) ∙ h;
    aux = aux_free-con k ∙ plain;
    var = var_free-con k;
  }

  -- ---- signs

  operator_typed : (scope : List Decl) (o : Op) (left : Meaning) → Typed scope (operator o left)
  operator_typed scope op.Imp left = sign_typed scope left.at konst.Imp _ refl refl
  operator_typed scope op.Or left = sign_typed scope left.at konst.Or _ refl refl
  operator_typed scope op.And left = sign_typed scope left.at konst.And _ refl refl

  equality_typed : (scope : List Decl) (left : Meaning) → IsTrue (ty_fits sig.types left.ty) → Typed scope (equality left)
  equality_typed scope left h = sign_typed scope left.at (konst.Eq left.ty) _ (checked_so sig.types left.ty _ h) refl

  negation_typed : (scope : List Decl) (at : ℕ) (part : Meaning) → Typed scope (negation at part)
  negation_typed scope at part = sign_typed scope at konst.Not _ refl refl

  between_typed : (scope : List Decl) (s : Meaning → Meaning) (a b : Answer Meaning) (m : Meaning) → ((l : Meaning) → Typed scope l → Typed scope (s l)) →
      ((l : Meaning) → a ≡ Good l → Typed scope l) → ((r : Meaning) → b ≡ Good r → Typed scope r) → between s a b ≡ Good m → Typed scope m
  between_typed scope s a b m hs ha hb h =
      let whole = opened (and_then a (signed s)) _ m h in
      let left = opened a (signed s) whole.0 whole.1.0 in
      let right = opened b (applied whole.0) m whole.1.1 in
      let l = ha left.0 left.1.0 in
      applied_typed scope whole.0 right.0 m (applied_typed scope (s left.0) left.0 whole.0 (hs left.0 l) l left.1.1) (hb right.0 right.1.0) right.1.1

  -- ---- binders

  quantified_typed : (scope : List Decl) (k : Option Meaning) (is_formula : Bool) (at : ℕ) (l m : Meaning) → ((s : Meaning) → k ≡ Some s → Typed scope s) → Typed scope l →
      quantified k is_formula at l ≡ Good m → Typed scope m
  quantified_typed scope None is_formula at l m hk hl h = subst (Typed scope) (good_same l m h) hl
  quantified_typed scope (Some k) true at l m hk hl h = applied_typed scope k l m (hk k refl) hl h
  quantified_typed scope (Some k) false at l m hk hl h = cc

  some_same : (x y : Meaning) → Some x ≡ Some y → x ≡ y
  some_same x y h = cc

  quantifier_typed : (scope : List Decl) (q : Quant) (at : ℕ) (a : Ty) → IsTrue (ty_fits sig.types a) → (s : Meaning) → quantifier q at a ≡ Some s → Typed scope s
  quantifier_typed scope quant.All at a h s e = subst (Typed scope) (some_same _ s e) (sign_typed scope at (konst.All a) _ (checked_so sig.types a _ h) refl)
  quantifier_typed scope quant.Ex at a h s e = subst (Typed scope) (some_same _ s e) (sign_typed scope at (konst.Ex a) _ (checked_so sig.types a _ h) refl)
  quantifier_typed scope quant.Eps at a h s e = subst (Typed scope) (some_same _ s e) (sign_typed scope at (konst.Eps a) _ (checked_so sig.types a _ h) refl)
  quantifier_typed scope quant.Lambda at a h s e = cc

  more : (a : Ty) (c : List Ty) → IsTrue (ty_fits sig.types a) → AllFit c → AllFit (a ∷ c)
  more a c h each zero b e = let same : a ≡ b = cc in subst (λ z. IsTrue (ty_fits sig.types z)) same h
  more a c h each (suc i) b e = each i b e

  bound_typed : (scope : List Decl) (q : Quant) (at : ℕ) (d : Decl) (body m : Meaning) → IsTrue (ty_fits sig.types d.ty) → Typed (d ∷ scope) body → bound q at d.ty body ≡ Good m → Typed scope m
  bound_typed scope q at d body m fit hb h =
      let whole = opened (made at (lambda d.ty body.term) (function_ty d.ty body.ty)) _ m h in
      let l = made_typed scope at (lambda d.ty body.term) (function_ty d.ty body.ty) whole.0
      (record {
        typed = type-lam sig d.ty body.term (types_of scope) ∙ under_so sig.types d.ty _ body.ty hb.typed fit;
        aux = aux_free-lam d.ty body.term ∙ hb.aux;
        var = var_free-lam d.ty body.term ∙ hb.var;
      }) whole.1.0 in
      quantified_typed scope (quantifier q at d.ty) (is_ty bool_ty body.ty) body.at whole.0 m (quantifier_typed scope q at d.ty fit) l whole.1.1

  -- ---- arguments

  abbrev Holds : Tree → Type 0
  Holds t = (scope : List Decl) → AllFit (types_of scope) → (m : Meaning) → meaning text known t scope ≡ Good m → Typed scope m

  all_typed : (scope : List Decl) (xs : List Tree) (head : Answer Meaning) (m : Meaning) → AllFit (types_of scope) → Each Holds xs → ((f : Meaning) → head ≡ Good f → Typed scope f) →
      applied_all head (map (meaning text known) xs) scope ≡ Good m → Typed scope m
  all_typed scope [] head m each hs hf h = hf m h
  all_typed scope (x ∷ xs) head m each hs hf h =
      all_typed scope xs (and_then head (λ f. and_then (meaning text known x scope) (applied f))) m each hs.1
      (λ g e.
      let first = opened head _ g e in
      let second = opened (meaning text known x scope) (applied first.0) g first.1.1 in
      applied_typed scope first.0 second.0 g (hf first.0 first.1.0) (hs.0 scope each second.0 second.1.0) second.1.1) h

  -- ---- names

  module _ (consts_fit : All (λ d. IsTrue (ty_fits sig.types d.ty)) known.consts) where
    const_fits : (i : ℕ) (a : Ty) (o : Option Decl) → slice_get known.consts i ≡ o → option_map (λ d. d.ty) o ≡ Some a → IsTrue (ty_fits sig.types a)
    const_fits i a None e h = cc
    const_fits i a (Some d) e h =
        let same : d.ty ≡ a = cc in
        let item : get_or known.consts i d ≡ d = get_or_from_slice_get known.consts i d d e in
        subst (λ z. IsTrue (ty_fits sig.types z)) same (subst (λ z. IsTrue (ty_fits sig.types z.ty)) item (consts_fit i d (slice_get_within known.consts i d e)))

    const_type : (i : ℕ) (a : Ty) → option_map (λ d. d.ty) (slice_get known.consts i) ≡ Some a → konst_type sig (konst.Named i) ≡ Some a
    const_type i a h =
        ap (fitting sig.types) (get_map (λ d. d.ty) known.consts i ∙ h) ∙ checked_so sig.types a a (const_fits i a (slice_get known.consts i) refl h)

    const_typed : (scope : List Decl) (at : ℕ) (name : List ℕ) (o : Option (ℕ × Ty)) (m : Meaning) → found name known.consts ≡ o → const_as at o ≡ Good m → Typed scope m
    const_typed scope at name None m e h = cc
    const_typed scope at name (Some c) m e h =
        subst (Typed scope) (good_same _ m h) (sign_typed scope at (konst.Named c.0) c.1 (const_type c.0 c.1 (found_type name known.consts c e)) refl)

    bound_name : (scope : List Decl) (at : ℕ) (name : List ℕ) (v : ℕ × Ty) → found name scope ≡ Some v → Typed scope (record { at = at; term = roll-Term (Term-F.Bound v.0); ty = v.1 })
    bound_name scope at name v e = record {
      typed = type-bound sig v.0 (types_of scope) ∙ get_map (λ d. d.ty) scope v.0 ∙ found_type name scope v e;
      aux = aux_free-bound v.0;
      var = var_free-bound v.0;
    }

    named_typed : (scope : List Decl) (at : ℕ) (name : List ℕ) (o : Option (ℕ × Ty)) (m : Meaning) → found name scope ≡ o → named_as at o (found name known.consts) ≡ Good m → Typed scope m
    named_typed scope at name None m e h = const_typed scope at name (found name known.consts) m refl h
    named_typed scope at name (Some v) m e h = subst (Typed scope) (good_same _ m h) (bound_name scope at name v e)

    truth_typed : (scope : List Decl) (b : Bool) (at : ℕ) → Typed scope (sign at (truth b) bool_ty)
    truth_typed scope true at = sign_typed scope at konst.True bool_ty refl refl
    truth_typed scope false at = sign_typed scope at konst.False bool_ty refl refl

    -- ---- trees

    step_at : (x : Tree-F Tree) (scope : List Decl) →
        meaning text known (roll-Tree x) scope ≡ meaning_step text known (map-Tree Tree (List Decl → Answer Meaning) (meaning text known) x) scope
    step_at x scope = ap (λ g. g scope) (fold-roll-Tree (List Decl → Answer Meaning) (meaning_step text known) x)

    name : (w : Word) → Holds (roll-Tree (Tree-F.Name w))
    name w scope each m h = named_typed scope w.start (word_at text w) (found (word_at text w) scope) m refl (sym (step_at (Tree-F.Name w) scope) ∙ h)

    verum : (b : Bool) (n : ℕ) → Holds (roll-Tree (Tree-F.Truth b n))
    verum b n scope each m h = subst (Typed scope) (good_same _ m (sym (step_at (Tree-F.Truth b n) scope) ∙ h)) (truth_typed scope b n)

    round : (n : ℕ) (t : Tree) → Holds t → Holds (roll-Tree (Tree-F.Round n t))
    round n t ht scope each m h =
        let inner = opened (meaning text known t scope) (moved n) m (sym (step_at (Tree-F.Round n t) scope) ∙ h) in
        let it = ht scope each inner.0 inner.1.0 in
        subst (Typed scope) (good_same _ m inner.1.1) (record { typed = it.typed; aux = it.aux; var = it.var })

    apply : (f : Tree) (xs : List Tree) → Holds f → Each Holds xs → Holds (roll-Tree (Tree-F.Apply f xs))
    apply f xs hf hxs scope each m h = all_typed scope xs (meaning text known f scope) m each hxs (hf scope each) (sym (step_at (Tree-F.Apply f xs) scope) ∙ h)

    equals : (a b : Tree) → Holds a → Holds b → Holds (roll-Tree (Tree-F.Equals a b))
    equals a b ha hb scope each m h =
        between_typed scope equality (meaning text known a scope) (meaning text known b scope) m (λ l t. equality_typed scope l (fits scope l each t)) (ha scope each) (hb scope each)
        (sym (step_at (Tree-F.Equals a b) scope) ∙ h)

    not : (n : ℕ) (a : Tree) → Holds a → Holds (roll-Tree (Tree-F.Not n a))
    not n a ha scope each m h =
        let whole = opened (meaning text known a scope) (signed (negation n)) m (sym (step_at (Tree-F.Not n a) scope) ∙ h) in
        applied_typed scope (negation n whole.0) whole.0 m (negation_typed scope n whole.0) (ha scope each whole.0 whole.1.0) whole.1.1

    join : (o : Op) (a b : Tree) → Holds a → Holds b → Holds (roll-Tree (Tree-F.Join o a b))
    join o a b ha hb scope each m h =
        between_typed scope (operator o) (meaning text known a scope) (meaning text known b scope) m (λ l t. operator_typed scope o l) (ha scope each) (hb scope each)
        (sym (step_at (Tree-F.Join o a b) scope) ∙ h)

    bind : (q : Quant) (n : ℕ) (x : Word) (ty : TyTree) (b : Tree) → Holds b → Holds (roll-Tree (Tree-F.Bind q n x ty b))
    bind q n x ty b hb scope each m h =
        let first = opened (type_of_tree text known ty) _ m (sym (step_at (Tree-F.Bind q n x ty b) scope) ∙ h) in
        let d : Decl = record { name = word_at text x; ty = first.0 } in
        let second = opened (meaning text known b (d ∷ scope)) (bound q n first.0) m first.1.1 in
        let fit = type_fits text known ty first.0 first.1.0 in
        bound_typed scope q n d second.0 m fit (hb (d ∷ scope) (more first.0 (types_of scope) fit each) second.0 second.1.0) second.1.1

    pub meaning_typed : (t : Tree) → Holds t
    meaning_typed = tree_cases Holds name verum round apply equals not join bind

    formula_is : (m : Meaning) → Typed [] m → bool_ty ≡ m.ty → IsSentence sig m.term
    unfolding is_sentence is_formula
    formula_is m h same =
        let own : IsTrue (typed_as sig m.term bool_ty) = ap (λ o. has_ty o bool_ty) h.typed ∙ subst (λ a. is_ty a bool_ty ≡ true) same (is_ty_itself bool_ty) in
        and_true (typed_as sig m.term bool_ty && aux_free m.term) (var_free m.term) (and_true (typed_as sig m.term bool_ty) (aux_free m.term) own h.aux) h.var

    pub sentence_is : (tree : Tree) (t : Term) → sentence text known tree ≡ Good t → IsSentence sig t
    sentence_is tree t h =
        let whole = opened (meaning text known tree []) stated t h in
        let both = if_good (is_ty bool_ty whole.0.ty) whole.0.term t whole.0.at kind.NotBool whole.1.1 in
        let typed = meaning_typed tree [] (λ i a e. cc) whole.0 whole.1.0 in
        subst (IsSentence sig) both.1 (formula_is whole.0 typed (is_ty_same bool_ty whole.0.ty both.0))
