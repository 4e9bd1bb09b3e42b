-- A term that is read can be printed no deeper, and what is printed is read as it.
use Rattle.std.proofs.Common.{◌≡◌, ℕ, ◌+◌, ◌-◌, ◌≤◌, ◌<◌, ◌^◌, max, Bool, true, false, IsTrue, List, [], ◌∷◌, ◌++◌, map, length, slice_get, Option, Some, None, refl, sym, ap, subst, ◌∙◌, arith}
use Rattle.std.specs.Prelude.{All}
use Rattle.std.specs.List.{list_all}
use Rattle.std.proofs.lemmas.List.{length-map}
use Rattle.hol_terms.specs.declared.ty.Ty.{Ty}
use Rattle.hol_terms.specs.declared.konst.Konst.{Konst}
use Rattle.hol_terms.specs.declared.konst.Konst.TheVariants as konst
use Rattle.hol_terms.specs.declared.term.Term.{Term, roll-Term}
use Rattle.hol_terms.specs.declared.term.Term.TheOpen.{Term-F}
use Rattle.hol_terms.specs.declared.term.Term.TheFolds.{fold-roll-Term}
use Rattle.hol_terms.specs.Types.{bool_ty}
use Rattle.hol_terms.proofs.Both.{and_true}
use Rattle.theory_syntax.specs.declared.tokens.Word.{Word}
use Rattle.theory_syntax.specs.declared.tokens.Quant.{Quant}
use Rattle.theory_syntax.specs.declared.tokens.Quant.TheVariants as quant
use Rattle.theory_syntax.specs.declared.tokens.Tok.TheVariants as tok
use Rattle.theory_syntax.specs.declared.tree.Op.{Op}
use Rattle.theory_syntax.specs.declared.tree.Op.TheVariants as op
use Rattle.theory_syntax.specs.declared.tree.TyTree.{TyTree}
use Rattle.theory_syntax.specs.declared.tree.Tree.{Tree}
use Rattle.theory_syntax.specs.Grammar.{Placed, at, Sort as Sort_, Formula, Chain, Neg, Eq, App, Args, Atom, sign, lower, right, extend, Whole, IsType, Derives, bind, plain, one, more, not, same, side, sides as sides_, head, none, arg, name, truth as truth_, round}
use Rattle.theory_syntax.specs.Reading.{Within}
use Rattle.theory_terms.specs.Answers.{Good, and_then}
use Rattle.theory_terms.specs.Words.{word_at}
use Rattle.theory_terms.specs.Signature.{Declared, found}
use Rattle.theory_terms.specs.Types.{type_of_tree}
use Rattle.theory_terms.specs.Meanings.{depth as term_depth, depth_step, Meaning, Scope, meaning, named, named_as, applied, between, equality, operator, operator_konst, negation, signed, bound, moved, constant, application, lambda, truth}
use Rattle.theory_print.specs.declared.sort.Sort.{Sort}
use Rattle.theory_print.specs.declared.sort.Sort.TheVariants as sort
use Rattle.theory_print.specs.Shapes.{Shape, Variable, Constant, Truth, Apply, Equals, Not, Join, Bind, Whole as Whole_, Left, applied as part_applied, under}
use Rattle.theory_print.specs.Shapes.{part_of}
use Rattle.theory_print.specs.Lexemes.{Name, Binder, Sign, Equal, Tilde, Colon, Dot, names_pass}
use Rattle.theory_print.specs.Types.{type_lexemes}
use Rattle.theory_print.specs.Names.{beginning, variable, BeginsElse}
use Rattle.theory_print.specs.Written.{rank, left_of, right_of, constant_name, lexemes}
use Rattle.theory_print.specs.Laws.{Extends}
use Rattle.theory_print.proofs.Equations.{means_name, means_truth, means_round, means_equals, means_not, means_join, means_bind, part_bound, part_con, part_app, part_lam}
use Rattle.theory_print.proofs.Depths.{depth, raised_inside, depth_mono, depth_round}
use Rattle.theory_print.proofs.Spelling.{within_split}
use Rattle.theory_print.proofs.Moves.{both, sides, applied_moves, bound_moves, wrapped, Shallow}
use Rattle.theory_print.proofs.Heads.{extend_means}
use Rattle.theory_print.proofs.Finds.{found_front, found_name, found_ty, found_else, found_ok}
use Rattle.theory_print.proofs.Passing.{pass_append, pass_within}
use Rattle.theory_print.proofs.TypesAgain.{written_ty}
use Rattle.theory_print.proofs.Again.{Rewrites, variable_again, constant_again, truth_again, apply_again, not_again, equals_again, join_again, bind_again}

-- ---- what terms are written as

abbrev Is : Term → Shape → Type 0
Is t p = part_of t ≡ Whole_ p

is_apply : (f x : Term) (p q : Shape) → Is f p → Is x q → Is (application f x) (Apply p q)
is_apply f x p q hf hx = part_app f x ∙ (λ i. part_applied (hf i) (hx i))

-- a sign with its first side
half : (c : Konst) (x : Term) (p : Shape) → Is x p → part_of (application (constant c) x) ≡ part_applied (part_of (constant c)) (Whole_ p)
half c x p hx = part_app (constant c) x ∙ ap (part_applied (part_of (constant c))) hx

is_not : (x : Term) (p : Shape) → Is x p → Is (application (constant konst.Not) x) (Not p)
is_not x p hx = half konst.Not x p hx ∙ ap (λ c. part_applied c (Whole_ p)) (part_con konst.Not)

left_half : (o : Op) (x : Term) (p : Shape) → Is x p → part_of (application (constant (operator_konst o)) x) ≡ Left o p
left_half op.And x p hx = half konst.And x p hx ∙ ap (λ c. part_applied c (Whole_ p)) (part_con konst.And)
left_half op.Or x p hx = half konst.Or x p hx ∙ ap (λ c. part_applied c (Whole_ p)) (part_con konst.Or)
left_half op.Imp x p hx = half konst.Imp x p hx ∙ ap (λ c. part_applied c (Whole_ p)) (part_con konst.Imp)

is_join : (o : Op) (x y : Term) (p q : Shape) → Is x p → Is y q → Is (application (application (constant (operator_konst o)) x) y) (Join o p q)
is_join o x y p q hx hy = part_app (application (constant (operator_konst o)) x) y ∙ (λ i. part_applied (left_half o x p hx i) (hy i))

is_equals : (a : Ty) (x y : Term) (p q : Shape) → Is x p → Is y q → Is (application (application (constant (konst.Eq a)) x) y) (Equals p q)
is_equals a x y p q hx hy =
    part_app (application (constant (konst.Eq a)) x) y
    ∙ (λ i. part_applied ((half (konst.Eq a) x p hx ∙ ap (λ c. part_applied c (Whole_ p)) (part_con (konst.Eq a))) i) (hy i))

is_lambda : (a : Ty) (x : Term) (p : Shape) → Is x p → Is (lambda a x) (Bind quant.Lambda a p)
is_lambda a x p hx = part_lam a x ∙ ap (under a) hx

is_bind : (g : Quant) (a : Ty) (x : Term) (p : Shape) → Is x p → Is (wrapped g a (lambda a x)) (Bind g a p)
is_bind quant.All a x p hx = half (konst.All a) (lambda a x) (Bind quant.Lambda a p) (is_lambda a x p hx) ∙ ap (λ c. part_applied c (Whole_ (Bind quant.Lambda a p))) (part_con (konst.All a))
is_bind quant.Ex a x p hx = half (konst.Ex a) (lambda a x) (Bind quant.Lambda a p) (is_lambda a x p hx) ∙ ap (λ c. part_applied c (Whole_ (Bind quant.Lambda a p))) (part_con (konst.Ex a))
is_bind quant.Eps a x p hx = half (konst.Eps a) (lambda a x) (Bind quant.Lambda a p) (is_lambda a x p hx) ∙ ap (λ c. part_applied c (Whole_ (Bind quant.Lambda a p))) (part_con (konst.Eps a))
is_bind quant.Lambda a x p hx = is_lambda a x p hx

is_truth : (b : Bool) → Is (constant (truth b)) (Truth b)
is_truth true = part_con konst.True
is_truth false = part_con konst.False

-- ---- names are shallow

shallow_bound : (i : ℕ) → Shallow (roll-Term (Term-F.Bound i))
shallow_bound i = let e : term_depth (roll-Term (Term-F.Bound i)) ≡ 1 = fold-roll-Term ℕ depth_step (Term-F.Bound i) in omega arith

shallow_con : (c : Konst) → Shallow (constant c)
shallow_con c = let e : term_depth (constant c) ≡ 1 = fold-roll-Term ℕ depth_step (Term-F.Con c) in omega arith

-- ---- the induction

abbrev types_of : Scope → List Ty
types_of scope = map (λ d. d.ty) scope

module _ (limit k : ℕ) (later : Declared) (text : List ℕ) (known : Declared) (ext : Extends known later) (fresh : All (λ d. BeginsElse (beginning k) d.name) later.consts)
    (small : limit < 2 ^ 64) where
  -- the names are declared, or those of bound variables
  abbrev pub Named : List Ty → Shape → Type 0
  Named tys p = (s : Sort) (ok : List ℕ → Bool) → IsTrue (list_all ok later.types) → IsTrue (list_all (λ d. ok d.name) later.consts) →
      ((d : ℕ) → d ≤ limit → IsTrue (ok (variable k d))) → IsTrue (names_pass ok (lexemes k later p (length tys) s))

  -- the term is written as a shape, no deeper than the limit where a part of this sort stands at this level, and read again
  pub record Written (l : ℕ) (s : Sort) (tys : List Ty) (t : Term) (a : Ty) : Type 0 where
    pub shape : Shape
    pub is : part_of t ≡ Whole_ shape
    pub low : l + depth shape s ≤ limit
    pub again : Rewrites limit k later tys shape t a
    pub shallow : Shallow t
    pub named : Named tys shape

  abbrev HoldsAt : ℕ → Sort → List Placed → Tree → Type 0
  HoldsAt l s p t = (scope : Scope) (m : Meaning) → length scope ≤ l → meaning text known t scope ≡ Good m → Within limit p → Written l s (types_of scope) m.term m.ty

  abbrev Holds : ℕ → Sort_ → List Placed → Tree → Type 0
  Holds l Formula p t = HoldsAt l sort.Formula p t
  Holds l (Chain o) p t = HoldsAt l (sort.Chain o) p t
  Holds l Neg p t = HoldsAt l sort.Neg p t
  Holds l Eq p t = HoldsAt l sort.Eq p t
  Holds l App p t = HoldsAt l sort.App p t
  Holds l (Args f) p t = (scope : Scope) (m : Meaning) → length scope ≤ l → meaning text known t scope ≡ Good m → Within limit p →
      (g : Meaning) × (meaning text known f scope ≡ Good g) × (Written l sort.App (types_of scope) g.term g.ty → Written l sort.App (types_of scope) m.term m.ty)
  Holds l Atom p t = HoldsAt l sort.Atom p t

  on_left : (o : Op) (l : ℕ) (p : List Placed) (t : Tree) → Holds l (lower o) p t → HoldsAt l (left_of o) p t
  on_left op.And l p t h = h
  on_left op.Or l p t h = h
  on_left op.Imp l p t h = h

  on_right : (o : Op) (l : ℕ) (p : List Placed) (t : Tree) → Holds l (right o) p t → HoldsAt l (right_of o) p t
  on_right op.And l p t h = h
  on_right op.Or l p t h = h
  on_right op.Imp l p t h = h

  left_rank : (o : Op) → rank (left_of o) ≤ rank (sort.Chain o)
  left_rank op.And = omega arith
  left_rank op.Or = omega arith
  left_rank op.Imp = omega arith

  -- the same where more may stand without brackets
  wider : (l : ℕ) (s u : Sort) (tys : List Ty) (t : Term) (a : Ty) → rank s ≤ rank u → Written l s tys t a → Written l u tys t a
  wider l s u tys t a h w =
      let m = depth_mono w.shape s u h in let low = w.low in
      record { shape = w.shape; is = w.is; low = omega arith; again = w.again; shallow = w.shallow; named = w.named }

  -- ---- names

  bound_written : (l : ℕ) (n : List ℕ) (scope : Scope) (v : ℕ × Ty) → length scope ≤ l → l ≤ limit → found n scope ≡ Some v →
      Written l sort.Atom (types_of scope) (roll-Term (Term-F.Bound v.0)) v.1
  bound_written l n scope v few low h =
      let same = length-map scope (λ d. d.ty) in
      record {
        shape = Variable v.0;
        is = part_bound v.0;
        low = omega arith;
        again = variable_again limit k later (types_of scope) v.0 v.1 (omega arith) (found_ty n scope v h);
        shallow = shallow_bound v.0;
        named = λ s ok types consts vars. and_true (ok (variable k (length (types_of scope) - (v.0 + 1)))) true (vars (length (types_of scope) - (v.0 + 1)) (omega arith)) refl;
      }

  constant_written : (l : ℕ) (n : List ℕ) (tys : List Ty) (v : ℕ × Ty) → l ≤ limit → found n known.consts ≡ Some v → Written l sort.Atom tys (constant (konst.Named v.0)) v.1
  constant_written l n tys v low h =
      let here : found n later.consts ≡ Some v = ap (found n) ext.consts ∙ found_front n known.consts ext.more_consts v h in
      record {
        shape = Constant v.0;
        is = part_con (konst.Named v.0);
        low = omega arith;
        again = constant_again limit k later tys n v (found_else (beginning k) n later.consts v fresh here) (found_name n later.consts v here) here;
        shallow = shallow_con (konst.Named v.0);
        named = λ s ok types consts vars.
            and_true (ok (constant_name (slice_get later.consts v.0))) true (subst (λ z. IsTrue (ok z)) (sym (found_name n later.consts v here)) (found_ok ok n later.consts v consts here)) refl;
      }

  name_at : (l at_ : ℕ) (n : List ℕ) (scope : Scope) (o c : Option (ℕ × Ty)) (m : Meaning) → length scope ≤ l → l ≤ limit → found n scope ≡ o → found n known.consts ≡ c →
      named_as at_ o c ≡ Good m → Written l sort.Atom (types_of scope) m.term m.ty
  name_at l at_ n scope (Some v) c m few low e f h =
      let same : record { at = at_; term = roll-Term (Term-F.Bound v.0); ty = v.1 } ≡ m = cc in
      subst (λ z. Written l sort.Atom (types_of scope) z.term z.ty) same (bound_written l n scope v few low e)
  name_at l at_ n scope None (Some v) m few low e f h =
      let same : record { at = at_; term = constant (konst.Named v.0); ty = v.1 } ≡ m = cc in
      subst (λ z. Written l sort.Atom (types_of scope) z.term z.ty) same (constant_written l n (types_of scope) v low f)
  name_at l at_ n scope None None m few low e f h = cc

  holds_name : (l : ℕ) (x : Word) (p : List Placed) → l ≤ limit → (scope : Scope) (m : Meaning) → length scope ≤ l → named text known x scope ≡ Good m →
      Written l sort.Atom (types_of scope) m.term m.ty
  holds_name l x p low scope m few h = name_at l x.start (word_at text x) scope (found (word_at text x) scope) (found (word_at text x) known.consts) m few low refl refl h

  holds_truth : (l n : ℕ) (b : Bool) → l ≤ limit → (tys : List Ty) (m : Meaning) → Good (record { at = n; term = constant (truth b); ty = bool_ty }) ≡ Good m → Written l sort.Atom tys m.term m.ty
  holds_truth l n b low tys m h =
      let same : record { at = n; term = constant (truth b); ty = bool_ty } ≡ m = cc in
      subst (λ z. Written l sort.Atom tys z.term z.ty) same (record { shape = Truth b; is = is_truth b; low = omega arith; again = truth_again limit k later tys b; shallow = shallow_con (truth b); named = λ s ok types consts vars. refl })

  -- ---- brackets, arguments

  holds_round : (l n : ℕ) (p q : List Placed) (t : Tree) → HoldsAt (l + 1) sort.Formula p t → (scope : Scope) (m : Meaning) → length scope ≤ l →
      and_then (meaning text known t scope) (moved n) ≡ Good m → Within limit p → Written l sort.Atom (types_of scope) m.term m.ty
  holds_round l n p q t h scope m few e low =
      let b = both (meaning text known t scope) (moved n) m e in
      let w = h scope b.mid (omega arith) b.first low in
      let d = depth_round w.shape sort.Atom sort.Formula in
      let deep = w.low in
      let v : Written l sort.Atom (types_of scope) b.mid.term b.mid.ty = record { shape = w.shape; is = w.is; low = omega arith; again = w.again; shallow = w.shallow; named = w.named } in
      let same : record { at = n; term = b.mid.term; ty = b.mid.ty } ≡ m = let g = b.second in cc in
      subst (λ z. Written l sort.Atom (types_of scope) z.term z.ty) same v

  put_arg : (l : ℕ) (tys : List Ty) (f x m : Meaning) → Written l sort.App tys f.term f.ty → Written l sort.Atom tys x.term x.ty → applied f x ≡ Good m → Written l sort.App tys m.term m.ty
  put_arg l tys f x m wf wx h =
      let a = wf.low in let b = wx.low in
      record {
        shape = Apply wf.shape wx.shape;
        is = ap part_of (applied_moves f x m 0 0 h).1 ∙ is_apply f.term x.term wf.shape wx.shape wf.is wx.is;
        low = omega arith;
        again = apply_again limit k later tys wf.shape wx.shape f x m wf.again wx.again h;
        shallow = (applied_moves f x m 0 0 h).2;
        named = λ s ok types consts vars. pass_within ok sort.App s (lexemes k later wf.shape (length tys) sort.App ++ lexemes k later wx.shape (length tys) sort.Atom)
            (pass_append ok (lexemes k later wf.shape (length tys) sort.App) (lexemes k later wx.shape (length tys) sort.Atom) (wf.named sort.App ok types consts vars) (wx.named sort.Atom ok types consts vars));
      }

  holds_arg : (l : ℕ) (p q : List Placed) (f x t : Tree) → HoldsAt l sort.Atom p x → Holds l (Args (extend f x)) q t → Holds l (Args f) (p ++ q) t
  holds_arg l p q f x t hx ht scope m few e low =
      let s = within_split limit p q low in
      let r = ht scope m few e s.1 in
      let b = both (meaning text known f scope) (λ g. and_then (meaning text known x scope) (applied g)) r.0 (sym (extend_means text known scope f x) ∙ r.1) in
      let c = both (meaning text known x scope) (applied b.mid) r.0 b.second in
      let w = hx scope c.mid few c.first s.0 in
      (b.mid, b.first, λ v. r.2 (put_arg l (types_of scope) b.mid c.mid r.0 v w c.second))

  holds_head : (l : ℕ) (p q : List Placed) (f t : Tree) → HoldsAt l sort.Atom p f → Holds l (Args f) q t → HoldsAt l sort.App (p ++ q) t
  holds_head l p q f t hf ht scope m few e low =
      let s = within_split limit p q low in
      let r = ht scope m few e s.1 in
      r.2 (wider l sort.Atom sort.App (types_of scope) r.0.term r.0.ty (omega arith) (hf scope r.0 few r.1 s.0))

  -- ---- signs

  holds_not : (l n : ℕ) (p : List Placed) (t : Tree) → HoldsAt (l + 1) sort.Neg p t → (scope : Scope) (m : Meaning) → length scope ≤ l →
      and_then (meaning text known t scope) (signed (negation n)) ≡ Good m → Within limit p → Written l sort.Neg (types_of scope) m.term m.ty
  holds_not l n p t h scope m few e low =
      let b = both (meaning text known t scope) (signed (negation n)) m e in
      let w = h scope b.mid (omega arith) b.first low in
      let deep = w.low in
      record {
        shape = Not w.shape;
        is = ap part_of (applied_moves (negation n b.mid) b.mid m 0 0 b.second).1 ∙ is_not b.mid.term w.shape w.is;
        low = omega arith;
        again = not_again limit k later (types_of scope) n w.shape b.mid m w.again b.second;
        shallow = (applied_moves (negation n b.mid) b.mid m 0 0 b.second).2;
        named = λ s ok types consts vars. pass_within ok sort.Neg s (Tilde ∷ lexemes k later w.shape (length (types_of scope)) sort.Neg) (w.named sort.Neg ok types consts vars);
      }

  holds_sides : (l : ℕ) (p q : List Placed) (a b : Tree) → HoldsAt l sort.App p a → HoldsAt l sort.App q b → (scope : Scope) (m : Meaning) → length scope ≤ l →
      between equality (meaning text known a scope) (meaning text known b scope) ≡ Good m → Within limit p → Within limit q → Written l sort.Eq (types_of scope) m.term m.ty
  holds_sides l p q a b ha hb scope m few h lp lq =
      let e = sides equality (λ i x. refl) (meaning text known a scope) (meaning text known b scope) m h in
      let x = ha scope e.left few e.is_left lp in
      let y = hb scope e.right few e.is_right lq in
      let dx = x.low in let dy = y.low in
      record {
        shape = Equals x.shape y.shape;
        is = ap part_of e.term ∙ is_equals e.left.ty e.left.term e.right.term x.shape y.shape x.is y.is;
        low = omega arith;
        again = equals_again limit k later (types_of scope) x.shape y.shape (meaning text known a scope) (meaning text known b scope) m e x.again y.again;
        shallow = e.shallow;
        named = λ s ok types consts vars. pass_within ok sort.Eq s (lexemes k later x.shape (length (types_of scope)) sort.App ++ Equal ∷ lexemes k later y.shape (length (types_of scope)) sort.App)
            (pass_append ok (lexemes k later x.shape (length (types_of scope)) sort.App) (Equal ∷ lexemes k later y.shape (length (types_of scope)) sort.App) (x.named sort.App ok types consts vars) (y.named sort.App ok types consts vars));
      }

  holds_more : (l : ℕ) (o : Op) (p q : List Placed) (a b : Tree) → HoldsAt l (left_of o) p a → HoldsAt (l + 1) (right_of o) q b → (scope : Scope) (m : Meaning) → length scope ≤ l →
      between (operator o) (meaning text known a scope) (meaning text known b scope) ≡ Good m → Within limit p → Within limit q → Written l (sort.Chain o) (types_of scope) m.term m.ty
  holds_more l o p q a b ha hb scope m few h lp lq =
      let e = sides (operator o) (λ i x. refl) (meaning text known a scope) (meaning text known b scope) m h in
      let x = ha scope e.left few e.is_left lp in
      let y = hb scope e.right (omega arith) e.is_right lq in
      let dx = x.low in let dy = y.low in
      let n = max (depth x.shape (left_of o)) (depth y.shape (right_of o) + 1) in
      let fits : l + n ≤ limit = omega arith in
      let own = raised_inside (sort.Chain o) (sort.Chain o) n (omega arith) in
      record {
        shape = Join o x.shape y.shape;
        is = ap part_of e.term ∙ is_join o e.left.term e.right.term x.shape y.shape x.is y.is;
        low = subst (λ n. l + n ≤ limit) (sym own) fits;
        again = join_again limit k later (types_of scope) o x.shape y.shape (meaning text known a scope) (meaning text known b scope) m e x.again y.again;
        shallow = e.shallow;
        named = λ s ok types consts vars. pass_within ok (sort.Chain o) s (lexemes k later x.shape (length (types_of scope)) (left_of o) ++ Sign o ∷ lexemes k later y.shape (length (types_of scope)) (right_of o))
            (pass_append ok (lexemes k later x.shape (length (types_of scope)) (left_of o)) (Sign o ∷ lexemes k later y.shape (length (types_of scope)) (right_of o)) (x.named (left_of o) ok types consts vars) (y.named (right_of o) ok types consts vars));
      }

  -- ---- binders

  holds_bind : (l n : ℕ) (g : Quant) (x : Word) (p q : List Placed) (a : TyTree) (b : Tree) → IsType l Whole p a → HoldsAt (l + 1) sort.Formula q b → (scope : Scope) (m : Meaning) →
      length scope ≤ l → and_then (type_of_tree text known a) (λ c. and_then (meaning text known b (record { name = word_at text x; ty = c } ∷ scope)) (bound g n c)) ≡ Good m →
      Within limit p → Within limit q → Written l sort.Formula (types_of scope) m.term m.ty
  holds_bind l n g x p q a b ta hb scope m few h lp lq =
      let outer = both (type_of_tree text known a) (λ c. and_then (meaning text known b (record { name = word_at text x; ty = c } ∷ scope)) (bound g n c)) m h in
      let c = outer.mid in
      let wide = record { name = word_at text x; ty = c } ∷ scope in
      let inner = both (meaning text known b wide) (bound g n c) m outer.second in
      let wa = written_ty limit later text known ext ta c outer.first lp in
      let wb = hb wide inner.mid (omega arith) inner.first lq in
      let da = wa.low in let db = wb.low in
      record {
        shape = Bind g c wb.shape;
        is = ap part_of (bound_moves g n 0 0 c inner.mid m inner.second).1 ∙ is_bind g c inner.mid.term wb.shape wb.is;
        low = omega arith;
        again = bind_again limit k later (types_of scope) g n c wb.shape inner.mid m wa.again wb.again inner.second;
        shallow = (bound_moves g n 0 0 c inner.mid m inner.second).2;
        named = λ s ok types consts vars.
            let tys = types_of scope in
            let ts = type_lexemes later.types c Whole in
            let deeper : length (c ∷ tys) ≡ length tys + 1 = omega arith in
            let body = subst (λ d. IsTrue (names_pass ok (lexemes k later wb.shape d sort.Formula))) deeper (wb.named sort.Formula ok types consts vars) in
            let same = length-map scope (λ d. d.ty) in
            pass_within ok sort.Formula s (Binder g ∷ Name (variable k (length tys)) ∷ Colon ∷ ts ++ Dot ∷ lexemes k later wb.shape (length tys + 1) sort.Formula)
            (and_true (ok (variable k (length tys))) (names_pass ok (ts ++ Dot ∷ lexemes k later wb.shape (length tys + 1) sort.Formula)) (vars (length tys) (omega arith))
            (pass_append ok ts (Dot ∷ lexemes k later wb.shape (length tys + 1) sort.Formula) (wa.named Whole ok types) body));
      }

  -- ---- all together

  pub written : {l : ℕ} {s : Sort_} {p : List Placed} {t : Tree} → Derives l s p t → Holds l s p t
  written {l = l} (bind {n = n} {k = g} {x = x} {p = p} {q = q} {a = a} {b = b} d e) = λ scope m few h low.
      let s = within_split limit p (at l tok.Dot ∷ q) low.1.1.1 in
      holds_bind l n g x p q a b d (written e) scope m few (sym (means_bind text known scope g n x a b) ∙ h) s.0 s.1.1
  written {l = l} (plain d) = λ scope m few h low. wider l (sort.Chain op.Imp) sort.Formula (types_of scope) m.term m.ty (omega arith) (written d scope m few h low)
  written {l = l} (one {o = o} {p = p} {t = t} d) = λ scope m few h low.
      wider l (left_of o) (sort.Chain o) (types_of scope) m.term m.ty (left_rank o) (on_left o l p t (written d) scope m few h low)
  written {l = l} (more {o = o} {p = p} {q = q} {a = a} {b = b} d e) = λ scope m few h low.
      let s = within_split limit p (at l (sign o) ∷ q) low in
      holds_more l o p q a b (on_left o l p a (written d)) (on_right o (l + 1) q b (written e)) scope m few (sym (means_join text known scope o a b) ∙ h) s.0 s.1.1
  written {l = l} (not {n = n} {p = p} {t = t} d) = λ scope m few h low. holds_not l n p t (written d) scope m few (sym (means_not text known scope n t) ∙ h) low.1
  written {l = l} (same d) = λ scope m few h low. wider l sort.Eq sort.Neg (types_of scope) m.term m.ty (omega arith) (written d scope m few h low)
  written {l = l} (side d) = λ scope m few h low. wider l sort.App sort.Eq (types_of scope) m.term m.ty (omega arith) (written d scope m few h low)
  written {l = l} (sides_ {p = p} {q = q} {a = a} {b = b} d e) = λ scope m few h low.
      let s = within_split limit p (at l tok.Equal ∷ q) low in
      holds_sides l p q a b (written d) (written e) scope m few (sym (means_equals text known scope a b) ∙ h) s.0 s.1.1
  written {l = l} (head {p = p} {q = q} {f = f} {t = t} d e) = holds_head l p q f t (written d) (written e)
  written none = λ scope m few h low. (m, h, λ w. w)
  written {l = l} (arg {f = f} {x = x} {t = t} {p = p} {q = q} d e) = holds_arg l p q f x t (written d) (written e)
  written {l = l} (name {x = x}) = λ scope m few h low. holds_name l x [] low.0 scope m few (sym (means_name text known scope x) ∙ h)
  written {l = l} (truth_ {n = n} {b = b}) = λ scope m few h low. holds_truth l n b low.0 (types_of scope) m (sym (means_truth text known scope b n) ∙ h)
  written {l = l} (round {n = n} {p = p} {t = t} d) = λ scope m few h low.
      holds_round l n p [] t (written d) scope m few (sym (means_round text known scope n t) ∙ h) (within_split limit p (at (l + 1) tok.Close ∷ []) low.1).0
