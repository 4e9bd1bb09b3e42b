-- A type that is read can be printed no deeper, and what is printed is read as it.
use Rattle.std.proofs.Common.{◌≡◌, ℕ, ◌+◌, ◌≤◌, max, Bool, true, IsTrue, List, [], ◌∷◌, ◌++◌, slice_get, Option, Some, None, refl, sym, ap, subst, ◌∙◌, arith, add-one}
use Rattle.std.specs.List.{list_all}
use Rattle.first_fault.proofs.Fronts.{within-append}
use Rattle.hol_terms.specs.declared.ty.Ty.{Ty, roll-Ty}
use Rattle.hol_terms.specs.declared.ty.Ty.TheOpen.{Ty-F}
use Rattle.hol_terms.specs.Types.{bool_ty, function_ty}
use Rattle.hol_terms.proofs.Both.{and_true}
use Rattle.hol_terms.proofs.TyCases.{by_cases}
use Rattle.theory_syntax.specs.declared.tokens.Tok.{Tok}
use Rattle.theory_syntax.specs.declared.tokens.Tok.TheVariants as tok
use Rattle.theory_syntax.specs.declared.tree.TyTree.{TyTree}
use Rattle.theory_syntax.specs.declared.tree.TyTree.TheVariants as ty
use Rattle.theory_syntax.specs.Grammar.{Placed, at, TypeSort, Whole, Single, IsType, truth, base, bracket, single, arrow}
use Rattle.theory_syntax.specs.Machine.{put}
use Rattle.theory_syntax.specs.Reading.{Within}
use Rattle.theory_terms.specs.Answers.{Good, and_then}
use Rattle.theory_terms.specs.Words.{word_at, place}
use Rattle.theory_terms.specs.Signature.{Declared}
use Rattle.theory_terms.specs.Types.{type_of_tree, named_type}
use Rattle.theory_print.specs.Lexemes.{Name, Close, Arrow, Spells, names_pass}
use Rattle.theory_print.specs.Types.{type_lexemes, base_lexeme, name_in, bracketed_type}
use Rattle.theory_print.specs.Laws.{Extends}
use Rattle.theory_print.proofs.Equations.{bool_means, named_ty, arrow_ty, base_lexemes, arrow_lexemes}
use Rattle.theory_print.proofs.Depths.{ty_depth, raised_ty, base_depth, arrow_depth}
use Rattle.theory_print.proofs.Spelling.{split, put_join, within_split}
use Rattle.theory_print.proofs.Moves.{both}
use Rattle.theory_print.proofs.Finds.{placed_at, all_get}
use Rattle.theory_print.proofs.Passing.{pass_append, pass_type}

-- ---- tokens in a row

-- a sign between two parts
pub infix_tokens : (us fs bs rest : List Tok) (t : Tok) (x : Placed) (p q : List Placed) → us ≡ fs ++ bs → fs ≡ put p [] → bs ≡ t ∷ rest → t ≡ x.tok → rest ≡ put q [] →
    us ≡ put (p ++ x ∷ q) []
infix_tokens us fs bs rest t x p q e f g s h =
    let whole : bs ≡ put (x ∷ q) [] = g ∙ (λ i. s i ∷ h i) in
    e ∙ (λ i. f i ++ whole i) ∙ put_join p (x ∷ q)

-- a part in brackets
pub bracket_tokens : (us fs bs rest cs : List Tok) (t c : Tok) (x y : Placed) (p : List Placed) → us ≡ t ∷ rest → t ≡ x.tok → rest ≡ fs ++ bs → fs ≡ put p [] →
    bs ≡ c ∷ cs → c ≡ y.tok → cs ≡ [] → us ≡ put (x ∷ p ++ y ∷ []) []
bracket_tokens us fs bs rest cs t c x y p e s f g h k n =
    let inner = infix_tokens rest fs bs cs c y p [] f g h k n in
    e ∙ (λ i. s i ∷ inner i)

-- ---- depths

abbrev Round : Ty → Type 0
Round a = (ty_depth a Single ≤ ty_depth a Whole + 1) × (ty_depth a Whole ≤ ty_depth a Single)

round_base : (i : ℕ) → Round (roll-Ty (Ty-F.Base i))
round_base i = let e = base_depth i Single in let f = base_depth i Whole in (omega arith, omega arith)

round_arrow : (a b : Ty) → Round a → Round b → Round (function_ty a b)
round_arrow a b _ _ = let e = arrow_depth a b Single in let f = arrow_depth a b Whole in (omega arith, omega arith)

pub ty_round : (a : Ty) → Round a
ty_round a = by_cases Round round_base round_arrow a

module _ (limit : ℕ) (later : Declared) where
  -- tokens that are derivable as a type of this sort at this level within the limit, and mean `a`
  pub record AgainTy (out : List ℕ) (l : ℕ) (w : TypeSort) (us : List Tok) (a : Ty) : Type 0 where
    pub placed : List Placed
    pub tree : TyTree
    pub derived : IsType l w placed tree
    pub within : Within limit placed
    pub tokens : us ≡ put placed []
    pub means : type_of_tree out later tree ≡ Good a

  abbrev pub RewritesTy : Ty → Type 0
  RewritesTy a = (out : List ℕ) (l : ℕ) (w : TypeSort) (us : List Tok) → Spells out (type_lexemes later.types a w) us → l + ty_depth a w ≤ limit → AgainTy out l w us a

  -- the names are those of the types
  abbrev pub NamedTy : Ty → Type 0
  NamedTy a = (s : TypeSort) (ok : List ℕ → Bool) → IsTrue (list_all ok later.types) → IsTrue (names_pass ok (type_lexemes later.types a s))

  pub record WrittenTy (l : ℕ) (w : TypeSort) (a : Ty) : Type 0 where
    pub low : l + ty_depth a w ≤ limit
    pub again : RewritesTy a
    pub named : NamedTy a

  -- ---- base types

  one : (out : List ℕ) (l : ℕ) (w : TypeSort) (us rest : List Tok) (t u : Tok) (tree : TyTree) (a : Ty) → l ≤ limit → us ≡ t ∷ rest → rest ≡ [] → t ≡ u →
      IsType l Single (at l u ∷ []) tree → type_of_tree out later tree ≡ Good a → AgainTy out l w us a
  one out l Single us rest t u tree a low e n s d m =
      record { placed = at l u ∷ []; tree = tree; derived = d; within = (low, tt); tokens = e ∙ (λ i. s i ∷ n i); means = m }
  one out l Whole us rest t u tree a low e n s d m =
      record { placed = at l u ∷ []; tree = tree; derived = single d; within = (low, tt); tokens = e ∙ (λ i. s i ∷ n i); means = m }

  pub bool_again : RewritesTy bool_ty
  bool_again out l w us sp low =
      let s = subst (λ xs. Spells out xs us) (base_lexemes later.types 0 w) sp in
      one out l w us s.1 s.0 tok.Bool ty.Bool bool_ty (omega arith) s.2 s.4 s.3 truth (bool_means out later)

  named_again : (i : ℕ) (name : List ℕ) → name_in (slice_get later.types i) ≡ name → place name later.types ≡ Some i → RewritesTy (roll-Ty (Ty-F.Base (i + 1)))
  named_again i name held found out l w us sp low =
      let s : Spells out (Name (name_in (slice_get later.types i)) ∷ []) us =
      subst (λ xs. Spells out xs us) (base_lexemes later.types (i + 1) w ∙ ap (λ n. base_lexeme later.types n ∷ []) (add-one i)) sp in
      let x = s.3.0 in
      let says : word_at out x ≡ name = s.3.2 ∙ held in
      let means = named_ty out later x ∙ ap (named_type x.start) (ap (λ n. place n later.types) says ∙ found) in
      one out l w us s.1 s.0 (tok.Word x) (ty.Named x) (roll-Ty (Ty-F.Base (i + 1))) (omega arith) s.2 s.4 s.3.1 base means

  -- ---- function types

  whole_again : (a b : Ty) → RewritesTy a → RewritesTy b → (out : List ℕ) (l : ℕ) (us : List Tok) → Spells out (type_lexemes later.types a Single ++ Arrow ∷ type_lexemes later.types b Whole) us →
      l + ty_depth a Single ≤ limit → l + 1 + ty_depth b Whole ≤ limit → AgainTy out l Whole us (function_ty a b)
  whole_again a b ha hb out l us sp la lb =
      let s = split out (type_lexemes later.types a Single) (Arrow ∷ type_lexemes later.types b Whole) us sp in
      let x = ha out l Single s.front s.first la in
      let y = hb out (l + 1) Whole s.second.1 s.second.4 lb in
      let lv : l ≤ limit = omega arith in
      record {
        placed = x.placed ++ at l tok.Arrow ∷ y.placed;
        tree = ty.Arrow x.tree y.tree;
        derived = arrow x.derived y.derived;
        within = within-append limit x.placed (at l tok.Arrow ∷ y.placed) x.within (lv, y.within);
        tokens = infix_tokens us s.front s.back s.second.1 s.second.0 (at l tok.Arrow) x.placed y.placed s.joined x.tokens s.second.2 s.second.3 y.tokens;
        means = arrow_ty out later x.tree y.tree ∙ ap (λ z. and_then z (λ c. and_then (type_of_tree out later y.tree) (λ d. Good (function_ty c d)))) x.means ∙ ap (λ z. and_then z (λ d. Good (function_ty a d))) y.means;
      }

  arrow_at : (a b : Ty) → RewritesTy a → RewritesTy b → (out : List ℕ) (l : ℕ) (w : TypeSort) (us : List Tok) →
      Spells out (bracketed_type w (type_lexemes later.types a Single ++ Arrow ∷ type_lexemes later.types b Whole)) us →
      l + raised_ty w (max (ty_depth a Single) (ty_depth b Whole + 1)) ≤ limit → AgainTy out l w us (function_ty a b)
  arrow_at a b ha hb out l Whole us sp low = whole_again a b ha hb out l us sp (omega arith) (omega arith)
  arrow_at a b ha hb out l Single us sp low =
      let s = split out (type_lexemes later.types a Single ++ Arrow ∷ type_lexemes later.types b Whole) (Close ∷ []) sp.1 sp.4 in
      let x = whole_again a b ha hb out (l + 1) s.front s.first (omega arith) (omega arith) in
      let n = sp.3.0 in
      let lv : l ≤ limit = omega arith in
      let lw : l + 1 ≤ limit = omega arith in
      record {
        placed = at l (tok.Open n) ∷ x.placed ++ at (l + 1) tok.Close ∷ [];
        tree = x.tree;
        derived = bracket x.derived;
        within = (lv, within-append limit x.placed (at (l + 1) tok.Close ∷ []) x.within (lw, tt));
        tokens = bracket_tokens us s.front s.back sp.1 s.second.1 sp.0 s.second.0 (at l (tok.Open n)) (at (l + 1) tok.Close) x.placed sp.2 sp.3.1 s.joined x.tokens s.second.2 s.second.3 s.second.4;
        means = x.means;
      }

  pub arrow_again : (a b : Ty) → RewritesTy a → RewritesTy b → RewritesTy (function_ty a b)
  arrow_again a b ha hb out l w us sp low =
      arrow_at a b ha hb out l w us (subst (λ xs. Spells out xs us) (arrow_lexemes later.types a b w) sp) (subst (λ n. l + n ≤ limit) (arrow_depth a b w) low)

  -- ---- names

  base_named : (i : ℕ) (name : List ℕ) → slice_get later.types i ≡ Some name → NamedTy (roll-Ty (Ty-F.Base (i + 1)))
  base_named i name held s ok all =
      let e = base_lexemes later.types (i + 1) s ∙ ap (λ n. base_lexeme later.types n ∷ []) (add-one i) ∙ ap (λ n. Name (name_in n) ∷ []) held in
      subst (λ xs. IsTrue (names_pass ok xs)) (sym e) (and_true (ok name) true (all_get ok later.types i name all held) refl)

  bool_named : NamedTy bool_ty
  bool_named s ok all = subst (λ xs. IsTrue (names_pass ok xs)) (sym (base_lexemes later.types 0 s)) refl

  arrow_named : (a b : Ty) → NamedTy a → NamedTy b → NamedTy (function_ty a b)
  arrow_named a b ha hb s ok all =
      subst (λ xs. IsTrue (names_pass ok xs)) (sym (arrow_lexemes later.types a b s))
      (pass_type ok s (type_lexemes later.types a Single ++ Arrow ∷ type_lexemes later.types b Whole)
      (pass_append ok (type_lexemes later.types a Single) (Arrow ∷ type_lexemes later.types b Whole) (ha Single ok all) (hb Whole ok all)))

  -- ---- what is read

  module _ (text : List ℕ) (known : Declared) (ext : Extends known later) where
    named_written : (l : ℕ) (name : List ℕ) (at_ : ℕ) (o : Option ℕ) (a : Ty) → l ≤ limit → place name known.types ≡ o → named_type at_ o ≡ Good a → WrittenTy l Single a
    named_written l name at_ None a low e h = cc
    named_written l name at_ (Some i) a low e h =
        let p = placed_at name known.types i e in
        let here = subst (λ ts. place name ts ≡ Some i) (sym ext.types) (p.1 ext.more_types) in
        let there : slice_get later.types i ≡ Some name = ap (λ ts. slice_get ts i) ext.types ∙ p.2 ext.more_types ∙ p.0 in
        let held = ap name_in there in
        let same : roll-Ty (Ty-F.Base (i + 1)) ≡ a = cc in
        let d = base_depth (i + 1) Single in
        subst (WrittenTy l Single) same (record { low = omega arith; again = named_again i name held here; named = base_named i name there })

    bool_written : (l : ℕ) (a : Ty) → l ≤ limit → Good bool_ty ≡ Good a → WrittenTy l Single a
    bool_written l a low h =
        let same : bool_ty ≡ a = cc in
        let d = base_depth 0 Single in
        subst (WrittenTy l Single) same (record { low = omega arith; again = bool_again; named = bool_named })

    arrow_written : (l : ℕ) (x y : TyTree) (a : Ty) → ((b : Ty) → type_of_tree text known x ≡ Good b → WrittenTy l Single b) →
        ((b : Ty) → type_of_tree text known y ≡ Good b → WrittenTy (l + 1) Whole b) → type_of_tree text known (ty.Arrow x y) ≡ Good a → WrittenTy l Whole a
    arrow_written l x y a hx hy h =
        let outer = both (type_of_tree text known x) (λ c. and_then (type_of_tree text known y) (λ d. Good (function_ty c d))) a (sym (arrow_ty text known x y) ∙ h) in
        let inner = both (type_of_tree text known y) (λ d. Good (function_ty outer.mid d)) a outer.second in
        let wx = hx outer.mid outer.first in
        let wy = hy inner.mid inner.first in
        let same : function_ty outer.mid inner.mid ≡ a = cc in
        let d = arrow_depth outer.mid inner.mid Whole in
        let lx = wx.low in
        let ly = wy.low in
        subst (WrittenTy l Whole) same (record { low = omega arith; again = arrow_again outer.mid inner.mid wx.again wy.again; named = arrow_named outer.mid inner.mid wx.named wy.named })

    pub written_ty : {l : ℕ} {w : TypeSort} {p : List Placed} {x : TyTree} → IsType l w p x → (a : Ty) → type_of_tree text known x ≡ Good a → Within limit p → WrittenTy l w a
    written_ty {l = l} truth = λ a h low. bool_written l a low.0 (sym (bool_means text known) ∙ h)
    written_ty {l = l} (base {x = x}) = λ a h low. named_written l (word_at text x) x.start (place (word_at text x) known.types) a low.0 refl (sym (named_ty text known x) ∙ h)
    written_ty {l = l} (bracket {n = n} {p = p} d) = λ a h low.
        let w = written_ty d a h (within_split limit p (at (l + 1) tok.Close ∷ []) low.1).0 in
        let r = ty_round a in let b = w.low in let deep = r.0 in
        record { low = omega arith; again = w.again; named = w.named }
    written_ty {l = l} (single d) = λ a h low.
        let w = written_ty d a h low in
        let r = ty_round a in let b = w.low in let deep = r.1 in
        record { low = omega arith; again = w.again; named = w.named }
    written_ty {l = l} (arrow {p = p} {q = q} {a = x} {b = y} d e) = λ a h low.
        let s = within_split limit p (at l tok.Arrow ∷ q) low in
        arrow_written l x y a (λ b g. written_ty d b g s.0) (λ b g. written_ty e b g s.1.1) h
