-- The walk that makes clauses keeps types: its table stands alone, and its clauses are typed over it.
use Rattle.std.proofs.Common.{◌≡◌, ℕ, zero, suc, ◌+◌, ◌<◌, Bool, true, false, ◌&&◌, not, if◌then◌else◌, IsTrue, List, [], ◌∷◌, ◌++◌, map, length, slice_get, ap, subst, refl, sym, ◌∙◌, Some, append_assoc, arith}
use Rattle.std.proofs.lemmas.List.{append-nil}
use Rattle.hol_terms.specs.declared.ty.Ty.{Ty}
use Rattle.hol_terms.specs.declared.sig.Sig.{Sig}
use Rattle.hol_terms.specs.declared.konst.Konst.TheVariants as konst
use Rattle.hol_terms.specs.declared.term.Term.{Term}
use Rattle.hol_terms.specs.declared.literal.TypedLiteral.{TypedLiteral}
use Rattle.hol_terms.specs.Types.{bool_ty, function_ty, ty_fits}
use Rattle.hol_terms.specs.Typing.{type_in, type_of_term, applied}
use Rattle.hol_terms.specs.Substitution.{is_closed, closed_under}
use Rattle.hol_terms.specs.Formulas.{var_free}
use Rattle.hol_terms.proofs.Both.{both_true}
use Rattle.hol_terms.proofs.TypedParts.{checked_some, checked_so, applied_fits, applied_parts, under_parts, under_so, function_parts}
use Rattle.hol_terms.proofs.Equations.{type-free, type-con, type-app, type-lam, closed-lam, var_free-lam}
use Rattle.kernel_rules.specs.Connectives.{apply, constant, lambda, neg}
use Rattle.lambda_lift.specs.declared.table.Aux.{Aux}
use Rattle.lambda_lift.specs.Standing.{Each, StandsAlone, over, aux_below}
use Rattle.lambda_lift.proofs.Expansions.{Grows, grows_refl, grows_trans}
use Rattle.lambda_lift.proofs.Standings.{each_first, each_more}
use Rattle.lambda_lift.proofs.Typings.{later}
use Rattle.hol_formulas.specs.declared.formula.Junction.{Junction}
use Rattle.hol_formulas.specs.declared.formula.Junction.TheVariants as junctions
use Rattle.hol_formulas.specs.declared.formula.Quantifier.{Quantifier}
use Rattle.hol_formulas.specs.declared.formula.Quantifier.TheVariants as quantifiers
use Rattle.hol_formulas.specs.declared.formula.Formula.{Formula, roll-Formula}
use Rattle.hol_formulas.specs.declared.formula.Formula.TheOpen.{Formula-F}
use Rattle.hol_formulas.specs.declared.formula.Formula.TheFolds.{fold-roll-Formula}
use Rattle.lambda_lift.specs.Tables.{place}
use Rattle.formula_clauses.specs.Choices.{put_in, variables, choice}
use Rattle.formula_clauses.specs.Walks.{Clauses, Progress, Pass, walked, leaf, truth, literal, both, joined, appended, junction_pass, quantified_pass, property, is_universal}
use Rattle.fol_encode.specs.Laws.{lambda_free}
use Rattle.hol_clausify.specs.Places.{junction, quantifier, term_of, IsRead}
use Rattle.hol_clausify.specs.Typed.{IsTypedAtom}
use Rattle.hol_clausify.specs.Variables.{each_free, has_number}
use Rattle.hol_clausify.specs.Shown.{Stands, Fits}
use Rattle.hol_clausify.specs.inner.Plain.{atoms_plain}
use Rattle.hol_clausify.proofs.LiftedPlain.{plain-atom, plain-not, plain-two, plain-quantified}
use Rattle.hol_clausify.proofs.FormulaCases.{formula_by_cases}
use Rattle.hol_clausify.proofs.Growing.{PassGrows, walk_grows, both_grows, at-true, at-false, at-atom, at-not, at-two, at-quantified}
use Rattle.hol_clausify.proofs.Opening.{free}
use Rattle.hol_clausify.proofs.Reading.{quantifier_is, quantifier_konst, junction_is, junction_konst, term-not, term-two, term-atom, term-quantified}
use Rattle.hol_clausify.proofs.Parts.{not_read, two_read, quantified_read, body_read}
use Rattle.hol_clausify.proofs.Expanding.{below-lam}
use Rattle.hol_clausify.proofs.Placed.{closed_put_in, known_put_in}
use Rattle.hol_clausify.proofs.Free.{none_free, free_put_in}
use Rattle.hol_clausify.proofs.Stepping.{more_numbered, below_longer, grows_longer}
use Rattle.hol_clausify.proofs.Shadows.{fits_later}
use Rattle.hol_clausify.proofs.Agreeing.{apart}
use Rattle.hol_clausify.proofs.Quantifying.{opening, universal_stands, chosen_stands, opening_grows, property_closed, property_numbered, tail_stands}
use Rattle.hol_clausify.proofs.PutTyped.{Scoped, scoped_long, put_typed, put_plain, plain-free, plain-con, applied_plain}
use Rattle.hol_clausify.proofs.ChosenTyped.{choice_alone, chosen_term_typed}

-- ---- lists
each_front : {X : Type 0} (P : X → Type 0) (xs ys : List X) → Each P xs → Each P ys → Each P (xs ++ ys)
each_front P [] ys h g = g
each_front P (x ∷ xs) ys h g = each_first P x (xs ++ ys) (h zero x refl) (each_front P xs ys (λ i. h (suc i)) g)

none_each : {X : Type 0} (P : X → Type 0) → Each P []
none_each P i x h = cc

tail_each : {X : Type 0} (P : X → Type 0) (x : X) (xs : List X) → Each P (x ∷ xs) → Each P xs
tail_each P x xs h i = h (suc i)

abbrev AllLiterals : (TypedLiteral → Type 0) → Clauses → Type 0
AllLiterals P cs = Each (Each P) cs

module _ (P : TypedLiteral → Type 0) where
  each_with : (c : List TypedLiteral) (ds : Clauses) → Each P c → AllLiterals P ds → AllLiterals P (map (λ d. c ++ d) ds)
  each_with c [] h g = none_each (Each P)
  each_with c (d ∷ ds) h g = each_first (Each P) (c ++ d) (map (λ d. c ++ d) ds) (each_front P c d h (g zero d refl)) (each_with c ds h (tail_each (Each P) d ds g))

  joined_each : (cs ds : Clauses) → AllLiterals P cs → AllLiterals P ds → AllLiterals P (joined cs ds)
  joined_each [] ds h g = none_each (Each P)
  joined_each (c ∷ cs) ds h g = each_front (Each P) (map (λ d. c ++ d) ds) (joined cs ds) (each_with c ds (h zero c refl) g) (joined_each cs ds (tail_each (Each P) c cs h) g)

  appended_each : (cs ds : Clauses) → AllLiterals P cs → AllLiterals P ds → AllLiterals P (appended cs ds)
  appended_each cs ds h g = each_front (Each P) cs ds h g

  truth_each : (b : Bool) → AllLiterals P (truth b)
  truth_each true = none_each (Each P)
  truth_each false = each_first (Each P) [] [] (none_each P) (none_each (Each P))

abbrev Keeps : (Clauses → Clauses → Clauses) → Type 1
Keeps make = (P : TypedLiteral → Type 0) (cs ds : Clauses) → AllLiterals P cs → AllLiterals P ds → AllLiterals P (make cs ds)

either_keeps : (c : Bool) (make other : Clauses → Clauses → Clauses) → Keeps make → Keeps other → Keeps (if c then make else other)
either_keeps true make other f g = f
either_keeps false make other f g = g

-- ---- the walk
module _ (sig : Sig) (has_bool : 0 < sig.types) where
  -- how it stands: the types of the variables are the signature's, the table stands alone, and the scope's terms have these types
  pub record At (types : List Ty) (p : Progress) (e : List Term) (scope : List Ty) : Type 0 where
    pub stands : Stands types p e
    pub alone : Each (StandsAlone sig) p.table
    pub fits : Each (λ a. IsTrue (ty_fits sig.types a)) types
    pub scoped : Scoped (over sig p.table) e scope
    pub plain : Each (λ t. IsTrue (lambda_free t)) e

  abbrev pub Typed : List Ty → List Aux → Clauses → Type 0
  Typed types table = AllLiterals (λ l. IsTypedAtom sig table types l.atom)

  pub record Goes (types : List Ty) (e : List Term) (scope : List Ty) (x : Pass) (p : Progress) : Type 0 where
    pub more : List Ty
    pub at : At (types ++ more) (x p).after e scope
    pub clauses : Typed (types ++ more) (x p).after.table (x p).clauses

  atom_later : (old new : List Aux) (types more : List Ty) (t : Term) → Grows old new → IsTypedAtom sig old types t → IsTypedAtom sig new (types ++ more) t
  atom_later old new types more t g h = record {
    typed = later sig old new g t [] bool_ty h.typed;
    without_lambda = h.without_lambda;
    numbered = more_numbered types more t h.numbered;
  }

  typed_later : (old new : List Aux) (types more : List Ty) (cs : Clauses) → Grows old new → Typed types old cs → Typed (types ++ more) new cs
  typed_later old new types more cs g h i c at j l here = atom_later old new types more l.atom g (h i c at j l here)

  both_goes : (make : Clauses → Clauses → Clauses) → Keeps make → (types : List Ty) (e : List Term) (scope : List Ty) (x y : Pass) (p : Progress) → Goes types e scope x p →
      ((more : List Ty) → At (types ++ more) (x p).after e scope → Goes (types ++ more) e scope y (x p).after) → PassGrows y → Goes types e scope (both make x y) p
  both_goes make keeps types e scope x y p left right grows =
      let w = x p in
      let w' = y w.after in
      let r = right left.more left.at in
      let all = types ++ left.more in
      let is = append_assoc types left.more r.more in
      record {
        more = left.more ++ r.more;
        at = subst (λ ts. At ts w'.after e scope) is r.at;
        clauses =
            subst (λ ts. Typed ts w'.after.table (make w.clauses w'.clauses)) is
            (keeps (λ l. IsTypedAtom sig w'.after.table (all ++ r.more) l.atom) w.clauses w'.clauses (typed_later w.after.table w'.after.table all r.more w.clauses (grows w.after) left.clauses) r.clauses);
      }

  leaf_goes : (types : List Ty) (e : List Term) (scope : List Ty) (cs : Clauses) (p : Progress) → At types p e scope → Typed types p.table cs → Goes types e scope (leaf cs) p
  leaf_goes types e scope cs p at h = record {
    more = [];
    at = subst (λ ts. At ts p e scope) (sym (append-nil types)) at;
    clauses = subst (λ ts. Typed ts p.table cs) (sym (append-nil types)) h;
  }

  -- a formula at a place: its term has type bool there, and its atoms have no lambda
  pub record Placed (f : Formula) (p : Progress) (e : List Term) (scope : List Ty) : Type 0 where
    pub fits : Fits p e (term_of f)
    pub typed : type_in (over sig p.table) (term_of f) scope ≡ Some bool_ty
    pub plain : IsTrue (atoms_plain f)

  placed_later : (f : Formula) (p q : Progress) (e : List Term) (scope : List Ty) → Grows p.table q.table → Placed f p e scope → Placed f q e scope
  placed_later f p q e scope g h = record {
    fits = fits_later p q e (term_of f) g h.fits;
    typed = later sig p.table q.table g (term_of f) scope bool_ty h.typed;
    plain = h.plain;
  }

  abbrev pub Good : Formula → Type 0
  Good f = (s : Bool) (e : List Term) (scope types : List Ty) (p : Progress) → IsRead f → At types p e scope → Placed f p e scope → Goes types e scope (walked f s e) p

  as_walked : (types : List Ty) (e : List Term) (scope : List Ty) (x z : Pass) (p : Progress) → x ≡ z → Goes types e scope z p → Goes types e scope x p
  as_walked types e scope x z p is h = subst (λ (q : Pass). Goes types e scope q p) (sym is) h

  good_true : Good (roll-Formula Formula-F.True)
  good_true s e scope types p r at h = as_walked types e scope (walked (roll-Formula Formula-F.True) s e) (leaf (truth s)) p (at-true s e) (leaf_goes types e scope (truth s) p at (truth_each (λ l. IsTypedAtom sig p.table types l.atom) s))

  good_false : Good (roll-Formula Formula-F.False)
  good_false s e scope types p r at h =
      as_walked types e scope (walked (roll-Formula Formula-F.False) s e) (leaf (truth (not s))) p (at-false s e) (leaf_goes types e scope (truth (not s)) p at (truth_each (λ l. IsTypedAtom sig p.table types l.atom) (not s)))

  -- ---- atoms
  put_atom : (types : List Ty) (e : List Term) (scope : List Ty) (p : Progress) (t : Term) → At types p e scope → type_in (over sig p.table) t scope ≡ Some bool_ty → IsTrue (var_free t) → IsTrue (lambda_free t) → IsTypedAtom sig p.table types (put_in e t 0)
  put_atom types e scope p t at typed bare plain = record {
    typed = put_typed (over sig p.table) e scope at.scoped t [] bool_ty typed;
    without_lambda = put_plain e at.plain t 0 plain;
    numbered = free_put_in (has_number types) e at.stands.numbered t 0 (none_free (has_number types) t bare);
  }

  good_atom : (t : Term) → Good (roll-Formula (Formula-F.Atom t))
  good_atom t s e scope types p r at h =
      let f = roll-Formula (Formula-F.Atom t) in
      let typed : type_in (over sig p.table) t scope ≡ Some bool_ty = subst (λ z. type_in (over sig p.table) z scope ≡ Some bool_ty) (term-atom t) h.typed in
      let bare : IsTrue (var_free t) = subst (λ z. IsTrue (var_free z)) (term-atom t) h.fits.bare in
      let P : TypedLiteral → Type 0 = λ l. IsTypedAtom sig p.table types l.atom in
      let one = put_atom types e scope p t at typed bare (sym (plain-atom t) ∙ h.plain) in
      as_walked types e scope (walked f s e) (leaf (literal s (put_in e t 0))) p (at-atom t s e)
      (leaf_goes types e scope (literal s (put_in e t 0)) p at
      (each_first (Each P) (record { positive = s; atom = put_in e t 0 } ∷ []) [] (each_first P (record { positive = s; atom = put_in e t 0 }) [] one (none_each P)) (none_each (Each P))))

  -- ---- connectives
  not_typed : (s : Sig) (t : Term) (c : List Ty) → type_in s (neg t) c ≡ Some bool_ty → type_in s t c ≡ Some bool_ty
  not_typed s t c h =
      let from = applied_parts (type_in s (constant konst.Not) c) (type_in s t c) bool_ty (sym (type-app s (constant konst.Not) t c) ∙ h) in
      let same : Some (function_ty bool_ty bool_ty) ≡ Some (function_ty from.0 bool_ty) = sym (type-con s konst.Not c) ∙ from.1.0 in
      let arrow : function_ty bool_ty bool_ty ≡ function_ty from.0 bool_ty = cc in
      from.1.1 ∙ ap Some (sym (function_parts bool_ty bool_ty from.0 bool_ty arrow).0)

  konst_two : (s : Sig) (j : Junction) (t : Ty) (c : List Ty) → type_in s (constant (junction_konst j)) c ≡ Some t → t ≡ function_ty bool_ty (function_ty bool_ty bool_ty)
  konst_two s junctions.And t c h = let same : Some (function_ty bool_ty (function_ty bool_ty bool_ty)) ≡ Some t = sym (type-con s konst.And c) ∙ h in cc
  konst_two s junctions.Or t c h = let same : Some (function_ty bool_ty (function_ty bool_ty bool_ty)) ≡ Some t = sym (type-con s konst.Or c) ∙ h in cc
  konst_two s junctions.Imp t c h = let same : Some (function_ty bool_ty (function_ty bool_ty bool_ty)) ≡ Some t = sym (type-con s konst.Imp c) ∙ h in cc
  konst_two s junctions.Iff t c h = sym (checked_some s.types bool_ty (function_ty bool_ty (function_ty bool_ty bool_ty)) t (sym (type-con s (konst.Eq bool_ty) c) ∙ h)).1

  two_typed : (s : Sig) (j : Junction) (t u : Term) (c : List Ty) → type_in s (junction j t u) c ≡ Some bool_ty → (type_in s t c ≡ Some bool_ty) × (type_in s u c ≡ Some bool_ty)
  two_typed s j t u c h =
      let k = constant (junction_konst j) in
      let outer = applied_parts (type_in s (apply k t) c) (type_in s u c) bool_ty (sym (type-app s (apply k t) u c) ∙ sym (ap (λ z. type_in s z c) (junction_is j t u)) ∙ h) in
      let inner = applied_parts (type_in s k c) (type_in s t c) (function_ty outer.0 bool_ty) (sym (type-app s k t c) ∙ outer.1.0) in
      let whole = konst_two s j (function_ty inner.0 (function_ty outer.0 bool_ty)) c inner.1.0 in
      let one = function_parts inner.0 (function_ty outer.0 bool_ty) bool_ty (function_ty bool_ty bool_ty) whole in
      let two = function_parts outer.0 bool_ty bool_ty bool_ty one.1 in
      (inner.1.1 ∙ ap Some one.0, outer.1.1 ∙ ap Some two.0)

  good_not : (a : Formula) → Good a → Good (roll-Formula (Formula-F.Not a))
  good_not a ga s e scope types p r at h =
      let f = roll-Formula (Formula-F.Not a) in
      let fits = apart p e (constant konst.Not) (term_of a) (subst (Fits p e) (term-not a) h.fits) in
      as_walked types e scope (walked f s e) (walked a (not s) e) p (at-not a s e)
      (ga (not s) e scope types p (not_read a r) at (record {
        fits = fits.1;
        typed = not_typed (over sig p.table) (term_of a) scope (subst (λ z. type_in (over sig p.table) z scope ≡ Some bool_ty) (term-not a) h.typed);
        plain = sym (plain-not a) ∙ h.plain;
      }))

  module _ (a b : Formula) (ga : Good a) (gb : Good b) (ra : IsRead a) (rb : IsRead b) (e : List Term) (scope : List Ty) where
    pair : (make : Clauses → Clauses → Clauses) → Keeps make → (s s' : Bool) (types : List Ty) (p : Progress) → At types p e scope → Placed a p e scope → Placed b p e scope →
        Goes types e scope (both make (walked a s e) (walked b s' e)) p
    pair make keeps s s' types p at fa fb =
        let q = (walked a s e p).after in
        both_goes make keeps types e scope (walked a s e) (walked b s' e) p (ga s e scope types p ra at fa)
        (λ more later. gb s' e scope (types ++ more) q rb later (placed_later b p q e scope (walk_grows a s e p) fb)) (walk_grows b s' e)

    junction_goes : (j : Junction) (s : Bool) (types : List Ty) (p : Progress) → At types p e scope → Placed a p e scope → Placed b p e scope → Goes types e scope (junction_pass j (walked a) (walked b) s e) p
    junction_goes junctions.And s types p at fa fb = pair (if s then appended else joined) (either_keeps s appended joined appended_each joined_each) s s types p at fa fb
    junction_goes junctions.Or s types p at fa fb = pair (if s then joined else appended) (either_keeps s joined appended joined_each appended_each) s s types p at fa fb
    junction_goes junctions.Imp s types p at fa fb = pair (if s then joined else appended) (either_keeps s joined appended joined_each appended_each) (not s) s types p at fa fb
    junction_goes junctions.Iff s types p at fa fb =
        let x = both joined (walked a (not s) e) (walked b true e) in
        let x' = both joined (walked a s e) (walked b false e) in
        let q = (x p).after in
        let grown = both_grows joined (walked a (not s) e) (walked b true e) (walk_grows a (not s) e) (walk_grows b true e) p in
        both_goes appended appended_each types e scope x x' p (pair joined joined_each (not s) true types p at fa fb)
        (λ more later. pair joined joined_each s false (types ++ more) q later (placed_later a p q e scope grown fa) (placed_later b p q e scope grown fb))
        (both_grows joined (walked a s e) (walked b false e) (walk_grows a s e) (walk_grows b false e))

  good_two : (j : Junction) (a b : Formula) → Good a → Good b → Good (roll-Formula (Formula-F.Two j a b))
  good_two j a b ga gb s e scope types p r at h =
      let f = roll-Formula (Formula-F.Two j a b) in
      let ta = term_of a in
      let tb = term_of b in
      let k = constant (junction_konst j) in
      let reads = two_read j a b r in
      let outer = apart p e (apply k ta) tb (subst (Fits p e) (term-two j a b ∙ junction_is j ta tb) h.fits) in
      let inner = apart p e k ta outer.0 in
      let typed = two_typed (over sig p.table) j ta tb scope (subst (λ z. type_in (over sig p.table) z scope ≡ Some bool_ty) (term-two j a b) h.typed) in
      let plain = both_true (atoms_plain a) (atoms_plain b) (sym (plain-two j a b) ∙ h.plain) in
      as_walked types e scope (walked f s e) (junction_pass j (walked a) (walked b) s e) p (at-two j a b s e)
      (junction_goes a b ga gb reads.0 reads.1 e scope j s types p at (record { fits = inner.1; typed = typed.0; plain = plain.0 }) (record { fits = outer.1; typed = typed.1; plain = plain.1 }))

  -- ---- quantifiers
  quantifier_typed : (s : Sig) (q : Quantifier) (a : Ty) (t : Term) (c : List Ty) → type_in s (quantifier q a (lambda a t)) c ≡ Some bool_ty → IsTrue (ty_fits s.types a) × (type_in s t (a ∷ c) ≡ Some bool_ty)
  quantifier_typed s q a t c h =
      let k = constant (quantifier_konst q a) in
      let outer = applied_parts (type_in s k c) (type_in s (lambda a t) c) bool_ty (sym (type-app s k (lambda a t) c) ∙ sym (ap (λ z. type_in s z c) (quantifier_is q a (lambda a t))) ∙ h) in
      let own = konst_one q (function_ty outer.0 bool_ty) outer.1.0 in
      let arg = function_parts (function_ty a bool_ty) bool_ty outer.0 bool_ty own.1 in
      let from = under_parts s.types a (type_in s t (a ∷ c)) outer.0 (sym (type-lam s a t c) ∙ outer.1.1) in
      let body = function_parts a bool_ty a from.0 (arg.0 ∙ from.1.1.0) in
      (own.0, from.1.0 ∙ ap Some (sym body.1))
    where
      konst_one : (q : Quantifier) (t : Ty) → type_in s (constant (quantifier_konst q a)) c ≡ Some t → IsTrue (ty_fits s.types a) × (function_ty (function_ty a bool_ty) bool_ty ≡ t)
      konst_one quantifiers.All t g = checked_some s.types a (function_ty (function_ty a bool_ty) bool_ty) t (sym (type-con s (konst.All a) c) ∙ g)
      konst_one quantifiers.Ex t g = checked_some s.types a (function_ty (function_ty a bool_ty) bool_ty) t (sym (type-con s (konst.Ex a) c) ∙ g)

  property_typed : (s : Sig) (q : Quantifier) (a : Ty) (u : Term) → IsTrue (ty_fits s.types a) → type_in s u (a ∷ []) ≡ Some bool_ty → type_of_term s (property q a u) ≡ Some (function_ty a bool_ty)
  property_typed s quantifiers.All a u own h =
      let denied : type_in s (neg u) (a ∷ []) ≡ Some bool_ty = type-app s (constant konst.Not) u (a ∷ []) ∙ (λ i. applied (type-con s konst.Not (a ∷ []) i) (h i)) ∙ applied_fits bool_ty bool_ty in
      type-lam s a (neg u) [] ∙ under_so s.types a (type_in s (neg u) (a ∷ [])) bool_ty denied own
  property_typed s quantifiers.Ex a u own h = type-lam s a u [] ∙ under_so s.types a (type_in s u (a ∷ [])) bool_ty h own

  scoped_later : (old new : List Aux) (e : List Term) (c : List Ty) → Grows old new → Scoped (over sig old) e c → Scoped (over sig new) e c
  scoped_later old new [] [] g h = h
  scoped_later old new [] (a ∷ c) g h = h
  scoped_later old new (t ∷ e) [] g h = h
  scoped_later old new (t ∷ e) (a ∷ c) g h = (later sig old new g t [] a h.0, scoped_later old new e c g h.1)

  record Opened (types : List Ty) (e : List Term) (scope : List Ty) (c : Bool) (a : Ty) (f : Term) (p : Progress) : Type 0 where
    more : List Ty
    at : At (types ++ more) (opening c a f p).after ((opening c a f p).value ∷ e) (a ∷ scope)

  open_at : (c : Bool) (types : List Ty) (e : List Term) (scope : List Ty) (a : Ty) (f : Term) (p : Progress) → At types p e scope → IsTrue (ty_fits sig.types a) →
      type_of_term (over sig p.table) f ≡ Some (function_ty a bool_ty) → IsTrue (is_closed f) → IsTrue (each_free (has_number types) f) → Opened types e scope c a f p
  open_at true types e scope a f p at own typed tight numbered = record {
    more = a ∷ [];
    at = record {
      stands = universal_stands types e a p at.stands;
      alone = at.alone;
      fits = each_more (λ b. IsTrue (ty_fits sig.types b)) types a at.fits own;
      scoped = (type-free (over sig p.table) p.next a [] ∙ checked_so sig.types a a own, at.scoped);
      plain = each_first (λ t. IsTrue (lambda_free t)) (free p.next a) e (plain-free p.next a) at.plain;
    };
  }
  open_at false types e scope a f p at own typed tight numbered =
      let o = opening false a f p in
      record {
        more = [];
        at = record {
          stands = subst (λ ts. Stands ts o.after (o.value ∷ e)) (sym (append-nil types)) (chosen_stands types e a f p at.stands tight numbered);
          alone = choice_alone sig has_bool p.table at.alone types at.fits a f own typed numbered;
          fits = subst (λ ts. Each (λ b. IsTrue (ty_fits sig.types b)) ts) (sym (append-nil types)) at.fits;
          scoped = (chosen_term_typed sig has_bool p.table at.alone types at.fits a f own typed numbered, scoped_later p.table o.after.table e scope (opening_grows false a f p) at.scoped);
          plain = each_first (λ t. IsTrue (lambda_free t)) o.value e (applied_plain (variables f) (constant (konst.Aux (place p.table (choice p.table a f)))) (plain-con (konst.Aux (place p.table (choice p.table a f))))) at.plain;
        };
      }

  tail_at : (types : List Ty) (p : Progress) (v : Term) (e : List Term) (a : Ty) (scope : List Ty) → At types p (v ∷ e) (a ∷ scope) → At types p e scope
  tail_at types p v e a scope at = record {
    stands = tail_stands types p v e at.stands;
    alone = at.alone;
    fits = at.fits;
    scoped = at.scoped.1;
    plain = tail_each (λ t. IsTrue (lambda_free t)) v e at.plain;
  }

  good_quantified : (q : Quantifier) (a : Ty) (t : Term) (b : Formula) → Good b → Good (roll-Formula (Formula-F.Quantified q a t b))
  good_quantified q a t b gb s e scope types p r at h =
      let f = roll-Formula (Formula-F.Quantified q a t b) in
      let n = length p.table in
      let sg = over sig p.table in
      let c = is_universal q s in
      let u = put_in e t 1 in
      let f0 = property q a u in
      let o = opening c a f0 p in
      let v = o.value in
      let read = body_read t b (quantified_read q a t b r) in
      let fits = (apart p e (constant (quantifier_konst q a)) (lambda a t) (subst (Fits p e) (term-quantified q a t b ∙ quantifier_is q a (lambda a t)) h.fits)).1 in
      let tight : IsTrue (closed_under t (length e + 1)) = subst IsTrue (closed-lam a t (length e)) fits.closed in
      let known : IsTrue (aux_below n t) = subst IsTrue (below-lam n a t) fits.known in
      let bare : IsTrue (var_free t) = subst IsTrue (var_free-lam a t) fits.bare in
      let typed = quantifier_typed sg q a t scope (subst (λ z. type_in sg z scope ≡ Some bool_ty) (term-quantified q a t b) h.typed) in
      let inner : type_in sg u (a ∷ []) ≡ Some bool_ty = put_typed sg e scope at.scoped t (a ∷ []) bool_ty typed.1 in
      let op = open_at c types e scope a f0 p at typed.0 (property_typed sg q a u typed.0 inner) (property_closed q a u (closed_put_in e at.stands.closed t 1 tight))
      (property_numbered (has_number types) q a u (free_put_in (has_number types) e at.stands.numbered t 1 (none_free (has_number types) t bare))) in
      let one : length e + 1 ≡ length (v ∷ e) = omega arith in
      let grows = opening_grows c a f0 p in
      let place : Placed b o.after (v ∷ e) (a ∷ scope) = record {
        fits = subst (Fits o.after (v ∷ e)) (sym read.1) (record {
          closed = subst (λ d. IsTrue (closed_under t d)) one tight;
          known = below_longer n (length o.after.table) (grows_longer p.table o.after.table grows) t known;
          bare = bare;
        });
        typed = subst (λ z. type_in (over sig o.after.table) z (a ∷ scope) ≡ Some bool_ty) (sym read.1) (later sig p.table o.after.table grows t (a ∷ scope) bool_ty typed.1);
        plain = sym (plain-quantified q a t b) ∙ h.plain;
      } in
      let ih = gb s (v ∷ e) (a ∷ scope) (types ++ op.more) o.after read.0 op.at place in
      let w = walked b s (v ∷ e) o.after in
      as_walked types e scope (walked f s e) (quantified_pass q a t (walked b) s e) p (at-quantified q a t b s e)
      (record {
        more = op.more ++ ih.more;
        at = subst (λ ts. At ts w.after e scope) (append_assoc types op.more ih.more) (tail_at ((types ++ op.more) ++ ih.more) w.after v e a scope ih.at);
        clauses = subst (λ ts. Typed ts w.after.table w.clauses) (append_assoc types op.more ih.more) ih.clauses;
      })

  pub walks_typed : (f : Formula) → Good f
  walks_typed = formula_by_cases Good good_true good_false good_atom good_not good_two good_quantified
