-- What is printed of a term is read as it: one lemma for each form of a term.
use Rattle.std.proofs.Common.{◌≡◌, ℕ, ◌+◌, ◌-◌, ◌≤◌, ◌<◌, ◌^◌, max, Bool, true, false, nat_le, if◌then◌else◌, List, [], ◌∷◌, ◌++◌, length, slice_get, Some, refl, ap, subst, ◌∙◌, arith, rules, zero-le}
use Rattle.std.proofs.lemmas.Option.{slice_get_within}
use Rattle.first_fault.proofs.Fronts.{within-append}
use Rattle.hol_terms.specs.declared.ty.Ty.{Ty}
use Rattle.hol_terms.specs.declared.konst.Konst.TheVariants as konst
use Rattle.hol_terms.specs.declared.term.Term.{Term, roll-Term}
use Rattle.hol_terms.specs.declared.term.Term.TheOpen.{Term-F}
use Rattle.hol_terms.specs.Types.{bool_ty}
use Rattle.theory_syntax.specs.declared.tokens.Quant.{Quant}
use Rattle.theory_syntax.specs.declared.tokens.Tok.{Tok}
use Rattle.theory_syntax.specs.declared.tokens.Tok.TheVariants as tok
use Rattle.theory_syntax.specs.declared.tree.Op.{Op}
use Rattle.theory_syntax.specs.declared.tree.Op.TheVariants as op
use Rattle.theory_syntax.specs.declared.tree.Tree.{Tree}
use Rattle.theory_syntax.specs.declared.tree.Tree.TheVariants as tree
use Rattle.theory_syntax.specs.Grammar.{Placed, at, sign, extend, Whole, Derives, bind, more, not, sides as sides_, name, truth as truth_, round}
use Rattle.theory_syntax.specs.Machine.{put}
use Rattle.theory_syntax.specs.Reading.{Within}
use Rattle.theory_terms.specs.Answers.{Answer, Good, and_then}
use Rattle.theory_terms.specs.Words.{word_at}
use Rattle.theory_terms.specs.Signature.{Declared, found}
use Rattle.theory_terms.specs.Meanings.{Meaning, meaning, named_as, applied, equality, operator, negation, signed, bound, moved, constant, truth}
use Rattle.theory_print.specs.declared.sort.Sort.{Sort}
use Rattle.theory_print.specs.declared.sort.Sort.TheVariants as sort
use Rattle.theory_print.specs.Lexemes.{Lexeme, Name, Binder, Sign, Equal, Tilde, Open, Close, Colon, Dot, Spells}
use Rattle.theory_print.specs.Types.{type_lexemes}
use Rattle.theory_print.specs.Shapes.{Shape, Variable, Constant, Truth as Truth_, Apply, Equals, Not, Join, Bind}
use Rattle.theory_print.specs.Names.{beginning, variable, BeginsElse}
use Rattle.theory_print.specs.Written.{rank, left_of, right_of, within as within_sort, constant_name, lexemes}
use Rattle.theory_print.proofs.Equations.{means_name, means_truth, means_round, means_equals, means_not, means_join, means_bind}
use Rattle.theory_print.proofs.Depths.{depth, raised, ty_depth}
use Rattle.theory_print.proofs.Spelling.{split, put_join}
use Rattle.theory_print.proofs.Sorts.{of_grammar, left_same, right_same, raise, append_arg}
use Rattle.theory_print.proofs.Moves.{from, Sides, applied_moves, bound_moves}
use Rattle.theory_print.proofs.Heads.{extend_means}
use Rattle.theory_print.proofs.Finds.{scope_of, unbound, rebound}
use Rattle.theory_print.proofs.TypesAgain.{infix_tokens, bracket_tokens, RewritesTy}

rank_most : (s : Sort) → rank s ≤ 7
rank_most sort.Atom = omega arith
rank_most sort.App = omega arith
rank_most sort.Eq = omega arith
rank_most sort.Neg = omega arith
rank_most (sort.Chain op.And) = omega arith
rank_most (sort.Chain op.Or) = omega arith
rank_most (sort.Chain op.Imp) = omega arith
rank_most sort.Formula = omega arith

module _ (limit k : ℕ) (later : Declared) where
  -- tokens that are derivable as a part of this sort at this level within the limit, and mean the term with its type, where the
  -- variables around are of these types
  pub record Again (out : List ℕ) (l : ℕ) (s : Sort) (us : List Tok) (tys : List Ty) (t : Term) (a : Ty) : Type 0 where
    pub placed : List Placed
    pub tree : Tree
    pub derived : Derives l (of_grammar s) placed tree
    pub within : Within limit placed
    pub tokens : us ≡ put placed []
    pub start : ℕ
    pub means : meaning out later tree (scope_of k tys) ≡ Good (record { at = start; term = t; ty = a })

  abbrev pub Rewrites : List Ty → Shape → Term → Ty → Type 0
  Rewrites tys p t a = (out : List ℕ) (l : ℕ) (s : Sort) (us : List Tok) → Spells out (lexemes k later p (length tys) s) us → l + depth p s ≤ limit → Again out l s us tys t a

  -- ---- brackets

  -- lexemes that need this many levels more, without brackets around
  abbrev Bare : Sort → List Lexeme → ℕ → List Ty → Term → Ty → Type 0
  Bare own xs n tys t a = (out : List ℕ) (l : ℕ) (us : List Tok) → Spells out xs us → l + n ≤ limit → Again out l own us tys t a

  in_brackets : (own : Sort) (xs : List Lexeme) (n : ℕ) (tys : List Ty) (t : Term) (a : Ty) → Bare own xs n tys t a →
      (out : List ℕ) (l : ℕ) (s : Sort) (us : List Tok) → Spells out (Open ∷ xs ++ Close ∷ []) us → l + (n + 1) ≤ limit → Again out l s us tys t a
  in_brackets own xs n tys t a h out l s us sp low =
      let cut = split out xs (Close ∷ []) sp.1 sp.4 in
      let x = h out (l + 1) cut.front cut.first (omega arith) in
      let m = sp.3.0 in
      let lv : l ≤ limit = omega arith in
      let lw : l + 1 ≤ limit = omega arith in
      let whole = at l (tok.Open m) ∷ x.placed ++ at (l + 1) tok.Close ∷ [] in
      record {
        placed = whole;
        tree = tree.Round m x.tree;
        derived = raise l whole (tree.Round m x.tree) sort.Atom s zero-le (round (raise (l + 1) x.placed x.tree own sort.Formula (rank_most own) x.derived));
        within = (lv, within-append limit x.placed (at (l + 1) tok.Close ∷ []) x.within (lw, tt));
        tokens = bracket_tokens us cut.front cut.back sp.1 cut.second.1 sp.0 cut.second.0 (at l (tok.Open m)) (at (l + 1) tok.Close) x.placed sp.2 sp.3.1 cut.joined x.tokens cut.second.2 cut.second.3 cut.second.4;
        start = m;
        means = means_round out later (scope_of k tys) m x.tree ∙ ap (λ z. and_then z (moved m)) x.means;
      }

  lift_at : (own : Sort) (xs : List Lexeme) (n : ℕ) (tys : List Ty) (t : Term) (a : Ty) → Bare own xs n tys t a →
      (out : List ℕ) (l : ℕ) (s : Sort) (us : List Tok) (b : Bool) → (b ≡ true → rank own ≤ rank s) →
      Spells out (if b then xs else Open ∷ xs ++ Close ∷ []) us → l + (if b then n else n + 1) ≤ limit → Again out l s us tys t a
  lift_at own xs n tys t a h out l s us true fits sp low =
      let x = h out l us sp low in
      record { placed = x.placed; tree = x.tree; derived = raise l x.placed x.tree own s (fits refl) x.derived; within = x.within; tokens = x.tokens; start = x.start; means = x.means }
  lift_at own xs n tys t a h out l s us false fits sp low = in_brackets own xs n tys t a h out l s us sp low

  -- brackets where they are wanted
  lift : (own : Sort) (xs : List Lexeme) (n : ℕ) (tys : List Ty) (t : Term) (a : Ty) → Bare own xs n tys t a →
      (out : List ℕ) (l : ℕ) (s : Sort) (us : List Tok) → Spells out (within_sort own s xs) us → l + raised own s n ≤ limit → Again out l s us tys t a
  lift own xs n tys t a h out l s us sp low = lift_at own xs n tys t a h out l s us (nat_le (rank own) (rank s)) (λ e. search (rules, e)) sp low

  -- ---- names and truth values

  one : (out : List ℕ) (l : ℕ) (s : Sort) (us rest : List Tok) (t u : Tok) (x : Tree) (tys : List Ty) (m : Meaning) → l ≤ limit → us ≡ t ∷ rest → rest ≡ [] → t ≡ u →
      Derives l (of_grammar sort.Atom) (at l u ∷ []) x → meaning out later x (scope_of k tys) ≡ Good m → Again out l s us tys m.term m.ty
  one out l s us rest t u x tys m low e n h d g =
      record {
        placed = at l u ∷ [];
        tree = x;
        derived = raise l (at l u ∷ []) x sort.Atom s zero-le d;
        within = (low, tt);
        tokens = e ∙ (λ i. h i ∷ n i);
        start = m.at;
        means = g;
      }

  pub variable_again : (tys : List Ty) (i : ℕ) (a : Ty) → length tys < 2 ^ 64 → slice_get tys i ≡ Some a → Rewrites tys (Variable i) (roll-Term (Term-F.Bound i)) a
  variable_again tys i a few h out l s us sp low =
      let w = sp.3.0 in
      let d = length tys - (i + 1) in
      let inside = slice_get_within tys i a h in
      let here = rebound k d tys i a few (omega arith) h in
      one out l s us sp.1 sp.0 (tok.Word w) (tree.Name w) tys (record { at = w.start; term = roll-Term (Term-F.Bound i); ty = a }) (omega arith) sp.2 sp.4 sp.3.1 name
      (means_name out later (scope_of k tys) w ∙ ap (λ n. named_as w.start (found n (scope_of k tys)) (found n later.consts)) sp.3.2
      ∙ ap (λ o. named_as w.start o (found (variable k d) later.consts)) here)

  pub constant_again : (tys : List Ty) (n : List ℕ) (v : ℕ × Ty) → BeginsElse (beginning k) n → constant_name (slice_get later.consts v.0) ≡ n → found n later.consts ≡ Some v →
      Rewrites tys (Constant v.0) (constant (konst.Named v.0)) v.1
  constant_again tys n v other called here out l s us sp low =
      let w = sp.3.0 in
      let says = sp.3.2 ∙ called in
      one out l s us sp.1 sp.0 (tok.Word w) (tree.Name w) tys (record { at = w.start; term = constant (konst.Named v.0); ty = v.1 }) (omega arith) sp.2 sp.4 sp.3.1 name
      (means_name out later (scope_of k tys) w ∙ ap (λ n. named_as w.start (found n (scope_of k tys)) (found n later.consts)) says
      ∙ (λ i. named_as w.start (unbound k n tys other i) (here i)))

  pub truth_again : (tys : List Ty) (b : Bool) → Rewrites tys (Truth_ b) (constant (truth b)) bool_ty
  truth_again tys b out l s us sp low =
      let n = sp.3.0 in
      one out l s us sp.1 sp.0 (tok.Truth b n) (tree.Truth b n) tys (record { at = n; term = constant (truth b); ty = bool_ty }) (omega arith) sp.2 sp.4 sp.3.1 truth_ (means_truth out later (scope_of k tys) b n)

  -- ---- arguments

  pub apply_again : (tys : List Ty) (p q : Shape) (f x m : Meaning) → Rewrites tys p f.term f.ty → Rewrites tys q x.term x.ty → applied f x ≡ Good m → Rewrites tys (Apply p q) m.term m.ty
  apply_again tys p q f x m hf hx h =
      λ out l s us sp low. lift sort.App (lexemes k later p (length tys) sort.App ++ lexemes k later q (length tys) sort.Atom) (max (depth p sort.App) (depth q sort.Atom)) tys m.term m.ty
      (λ out l us sp low.
      let cut = split out (lexemes k later p (length tys) sort.App) (lexemes k later q (length tys) sort.Atom) us sp in
      let y = hf out l sort.App cut.front cut.first (omega arith) in
      let z = hx out l sort.Atom cut.back cut.second (omega arith) in
      record {
        placed = y.placed ++ z.placed;
        tree = extend y.tree z.tree;
        derived = append_arg y.derived z.derived;
        within = within-append limit y.placed z.placed y.within z.within;
        tokens = cut.joined ∙ (λ i. y.tokens i ++ z.tokens i) ∙ put_join y.placed z.placed;
        start = y.start;
        means = extend_means out later (scope_of k tys) y.tree z.tree ∙ ap (λ c. and_then c (λ g. and_then (meaning out later z.tree (scope_of k tys)) (applied g))) y.means
            ∙ ap (λ c. and_then c (applied (from y.start f))) z.means ∙ (applied_moves f x m y.start z.start h).0;
      })
      out l s us sp low

  -- ---- signs

  pub not_again : (tys : List Ty) (n : ℕ) (p : Shape) (x m : Meaning) → Rewrites tys p x.term x.ty → signed (negation n) x ≡ Good m → Rewrites tys (Not p) m.term m.ty
  not_again tys n p x m hx h =
      λ out l s us sp low. lift sort.Neg (Tilde ∷ lexemes k later p (length tys) sort.Neg) (depth p sort.Neg + 1) tys m.term m.ty
      (λ out l us sp low.
      let i = sp.3.0 in
      let y = hx out (l + 1) sort.Neg sp.1 sp.4 (omega arith) in
      let lv : l ≤ limit = omega arith in
      record {
        placed = at l (tok.Tilde i) ∷ y.placed;
        tree = tree.Not i y.tree;
        derived = not y.derived;
        within = (lv, y.within);
        tokens = sp.2 ∙ (λ j. sp.3.1 j ∷ y.tokens j);
        start = i;
        means = means_not out later (scope_of k tys) i y.tree ∙ ap (λ c. and_then c (signed (negation i))) y.means ∙ (applied_moves (negation n x) x m i y.start h).0;
      })
      out l s us sp low

  pub equals_again : (tys : List Ty) (p q : Shape) (c d : Answer Meaning) (m : Meaning) (e : Sides equality c d m) → Rewrites tys p e.left.term e.left.ty →
      Rewrites tys q e.right.term e.right.ty → Rewrites tys (Equals p q) m.term m.ty
  equals_again tys p q c d m e hx hy =
      λ out l s us sp low. lift sort.Eq (lexemes k later p (length tys) sort.App ++ Equal ∷ lexemes k later q (length tys) sort.App) (max (depth p sort.App) (depth q sort.App)) tys m.term m.ty
      (λ out l us sp low.
      let cut = split out (lexemes k later p (length tys) sort.App) (Equal ∷ lexemes k later q (length tys) sort.App) us sp in
      let y = hx out l sort.App cut.front cut.first (omega arith) in
      let z = hy out l sort.App cut.second.1 cut.second.4 (omega arith) in
      let lv : l ≤ limit = omega arith in
      record {
        placed = y.placed ++ at l tok.Equal ∷ z.placed;
        tree = tree.Equals y.tree z.tree;
        derived = sides_ y.derived z.derived;
        within = within-append limit y.placed (at l tok.Equal ∷ z.placed) y.within (lv, z.within);
        tokens = infix_tokens us cut.front cut.back cut.second.1 cut.second.0 (at l tok.Equal) y.placed z.placed cut.joined y.tokens cut.second.2 cut.second.3 z.tokens;
        start = y.start;
        means = means_equals out later (scope_of k tys) y.tree z.tree ∙ e.again y.start z.start (meaning out later y.tree (scope_of k tys)) (meaning out later z.tree (scope_of k tys)) y.means z.means;
      })
      out l s us sp low

  pub join_again : (tys : List Ty) (o : Op) (p q : Shape) (c d : Answer Meaning) (m : Meaning) (e : Sides (operator o) c d m) → Rewrites tys p e.left.term e.left.ty →
      Rewrites tys q e.right.term e.right.ty → Rewrites tys (Join o p q) m.term m.ty
  join_again tys o p q c d m e hx hy =
      λ out l s us sp low. lift (sort.Chain o) (lexemes k later p (length tys) (left_of o) ++ Sign o ∷ lexemes k later q (length tys) (right_of o))
      (max (depth p (left_of o)) (depth q (right_of o) + 1)) tys m.term m.ty
      (λ out l us sp low.
      let cut = split out (lexemes k later p (length tys) (left_of o)) (Sign o ∷ lexemes k later q (length tys) (right_of o)) us sp in
      let y = hx out l (left_of o) cut.front cut.first (omega arith) in
      let z = hy out (l + 1) (right_of o) cut.second.1 cut.second.4 (omega arith) in
      let lv : l ≤ limit = omega arith in
      record {
        placed = y.placed ++ at l (sign o) ∷ z.placed;
        tree = tree.Join o y.tree z.tree;
        derived = more (subst (λ s. Derives l s y.placed y.tree) (left_same o) y.derived) (subst (λ s. Derives (l + 1) s z.placed z.tree) (right_same o) z.derived);
        within = within-append limit y.placed (at l (sign o) ∷ z.placed) y.within (lv, z.within);
        tokens = infix_tokens us cut.front cut.back cut.second.1 cut.second.0 (at l (sign o)) y.placed z.placed cut.joined y.tokens cut.second.2 cut.second.3 z.tokens;
        start = y.start;
        means = means_join out later (scope_of k tys) o y.tree z.tree ∙ e.again y.start z.start (meaning out later y.tree (scope_of k tys)) (meaning out later z.tree (scope_of k tys)) y.means z.means;
      })
      out l s us sp low

  -- ---- binders

  pub bind_again : (tys : List Ty) (g : Quant) (n : ℕ) (a : Ty) (p : Shape) (x m : Meaning) → RewritesTy limit later a → Rewrites (a ∷ tys) p x.term x.ty → bound g n a x ≡ Good m →
      Rewrites tys (Bind g a p) m.term m.ty
  bind_again tys g n a p x m ha hx h =
      λ out l s us sp low. lift sort.Formula
      (Binder g ∷ Name (variable k (length tys)) ∷ Colon ∷ type_lexemes later.types a Whole ++ Dot ∷ lexemes k later p (length tys + 1) sort.Formula)
      (max (ty_depth a Whole) (depth p sort.Formula + 1)) tys m.term m.ty
      (λ out l us sp low.
      let at_name = sp.4 in
      let at_colon = at_name.4 in
      let cut = split out (type_lexemes later.types a Whole) (Dot ∷ lexemes k later p (length tys + 1) sort.Formula) at_colon.1 at_colon.4 in
      let y = ha out l Whole cut.front cut.first (omega arith) in
      let deeper : length tys + 1 ≡ length (a ∷ tys) = omega arith in
      let z = hx out (l + 1) sort.Formula cut.second.1 (subst (λ d. Spells out (lexemes k later p d sort.Formula) cut.second.1) deeper cut.second.4) (omega arith) in
      let lv : l ≤ limit = omega arith in
      let i = sp.3.0 in
      let w = at_name.3.0 in
      let body = infix_tokens at_colon.1 cut.front cut.back cut.second.1 cut.second.0 (at l tok.Dot) y.placed z.placed cut.joined y.tokens cut.second.2 cut.second.3 z.tokens in
      let typed = ap (λ c. and_then c (λ b. and_then (meaning out later z.tree (record { name = word_at out w; ty = b } ∷ scope_of k tys)) (bound g i b))) y.means in
      let called = ap (λ c. and_then (meaning out later z.tree (record { name = c; ty = a } ∷ scope_of k tys)) (bound g i a)) at_name.3.2 in
      record {
        placed = at l (tok.Quant g i) ∷ at l (tok.Word w) ∷ at l tok.Colon ∷ y.placed ++ at l tok.Dot ∷ z.placed;
        tree = tree.Bind g i w y.tree z.tree;
        derived = bind y.derived z.derived;
        within = (lv, (lv, (lv, within-append limit y.placed (at l tok.Dot ∷ z.placed) y.within (lv, z.within))));
        tokens = sp.2 ∙ (λ j. sp.3.1 j ∷ (at_name.2 ∙ (λ j. at_name.3.1 j ∷ (at_colon.2 ∙ (λ j. at_colon.3 j ∷ body j)) j)) j);
        start = i;
        means = means_bind out later (scope_of k tys) g i w y.tree z.tree ∙ typed ∙ called ∙ ap (λ c. and_then c (bound g i a)) z.means ∙ (bound_moves g n i z.start a x m h).0;
      })
      out l s us sp low
