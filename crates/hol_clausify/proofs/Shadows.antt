-- The walk over the kernel's formula gives the clauses of the walk over the formula with auxiliary constants, expanded.
use Rattle.std.proofs.Common.{◌≡◌, ℕ, Bool, true, false, not, if◌then◌else◌, List, [], ◌∷◌, ◌++◌, map, length, ap, subst, refl, sym, ◌∙◌, append_assoc}
use Rattle.std.proofs.lemmas.List.{map-append}
use Rattle.hol_terms.specs.declared.ty.Ty.{Ty}
use Rattle.hol_terms.specs.declared.konst.Konst.TheVariants as konst
use Rattle.hol_terms.specs.declared.term.Term.{Term}
use Rattle.kernel_rules.specs.Connectives.{apply, constant, neg, left_of, right_of}
use Rattle.lambda_lift.specs.declared.table.Aux.{Aux}
use Rattle.lambda_lift.specs.Tables.{expand}
use Rattle.lambda_lift.proofs.Expansions.{Grows, grows_trans, expand_app, expand_con}
use Rattle.hol_formulas.specs.declared.formula.Junction.{Junction}
use Rattle.hol_formulas.specs.declared.formula.Junction.TheVariants as junctions
use Rattle.hol_formulas.specs.declared.formula.Formula.{Formula, roll-Formula}
use Rattle.hol_formulas.specs.declared.formula.Formula.TheOpen.{Formula-F}
use Rattle.hol_formulas.specs.declared.formula.Formula.TheFolds.{fold-roll-Formula}
use Rattle.hol_terms.specs.declared.literal.TypedLiteral.{TypedLiteral}
use Rattle.formula_clauses.specs.Choices.{put_in}
use Rattle.formula_clauses.specs.Walks.{Clauses, Progress, Pass, walked, both, joined, appended, junction_pass}
use Rattle.hol_clausify.specs.Places.{junction, term_of, IsRead}
use Rattle.hol_clausify.specs.Refutations.{Refuted, refuted, refuted_step}
use Rattle.hol_clausify.specs.Refutations.{Pass as KernelPass, Walk as KernelWalk, both as both_refuted, junction_pass as junction_refuted}
use Rattle.hol_clausify.specs.Laws.{ClosedTable}
use Rattle.hol_clausify.specs.Shown.{shown_literal, shown, told, Stands, Fits}
use Rattle.hol_clausify.proofs.Growing.{PassGrows, walk_grows, both_grows}
use Rattle.hol_clausify.proofs.Reading.{junction_is, junction_konst}
use Rattle.hol_clausify.proofs.Scopes.{put_in-con, put_in-app}
use Rattle.hol_clausify.proofs.Stepping.{below_longer, grows_longer}

-- ---- clauses, shown
module _ (table : List Aux) where
  abbrev h : TypedLiteral → TypedLiteral
  h = shown_literal table

  with_each : (c : List TypedLiteral) (ds : Clauses) → map (map h) (map (λ d. c ++ d) ds) ≡ map (λ d. map h c ++ d) (map (map h) ds)
  with_each c [] = refl
  with_each c (d ∷ ds) = (λ i. map-append h c d i ∷ with_each c ds i)

  pub joined_shown : (cs ds : Clauses) → shown table (joined cs ds) ≡ joined (shown table cs) (shown table ds)
  joined_shown [] ds = refl
  joined_shown (c ∷ cs) ds = map-append (map h) (map (λ d. c ++ d) ds) (joined cs ds) ∙ (λ i. with_each c ds i ++ joined_shown cs ds i)

  pub appended_shown : (cs ds : Clauses) → shown table (appended cs ds) ≡ appended (shown table cs) (shown table ds)
  appended_shown cs ds = map-append (map h) cs ds

-- ---- two walks agree
pub record Agrees (types : List Ty) (e : List Term) (x : Pass) (y : List Aux → KernelPass) (p : Progress) : Type 0 where
  pub more : List Ty
  pub stands : Stands (types ++ more) (x p).after e
  pub shows : (table : List Aux) → Grows (x p).after.table table → ClosedTable table → y table p.next ≡ told table (x p)

abbrev MakesShown : (Clauses → Clauses → Clauses) → Type 0
MakesShown make = (table : List Aux) (cs ds : Clauses) → shown table (make cs ds) ≡ make (shown table cs) (shown table ds)

abbrev finished : (Clauses → Clauses → Clauses) → Clauses → Refuted → Refuted
finished make cs r = record { next = r.next; clauses = make cs r.clauses }

abbrev counted : ℕ → Clauses → Refuted
counted n cs = record { next = n; clauses = cs }

both_agrees : (make : Clauses → Clauses → Clauses) → MakesShown make → (types : List Ty) (e : List Term) (x x' : Pass) (y y' : List Aux → KernelPass) (p : Progress) → Agrees types e x y p →
    ((more : List Ty) → Stands (types ++ more) (x p).after e → Agrees (types ++ more) e x' y' (x p).after) → PassGrows x' →
    Agrees types e (both make x x') (λ table. both_refuted make (y table) (y' table)) p
both_agrees make makes types e x x' y y' p left right grows =
    let w = x p in
    let w' = x' w.after in
    let r = right left.more left.stands in
    record {
      more = left.more ++ r.more;
      stands = subst (λ ts. Stands ts w'.after e) (append_assoc types left.more r.more) r.stands;
      shows = λ table g closed.
          ap (λ (q : Refuted). finished make q.clauses (y' table q.next)) (left.shows table (grows_trans w.after.table w'.after.table table (grows w.after) g) closed)
          ∙ ap (finished make (shown table w.clauses)) (r.shows table g closed) ∙ ap (counted w'.after.next) (sym (makes table w.clauses w'.clauses));
    }

-- ---- what is at a place
abbrev pub here : List Aux → List Term → Term → Term
here table e t = expand table (put_in e t 0)

konst_here : (table : List Aux) (j : Junction) → expand table (constant (junction_konst j)) ≡ constant (junction_konst j)
konst_here table junctions.And = expand_con table konst.And
konst_here table junctions.Or = expand_con table konst.Or
konst_here table junctions.Imp = expand_con table konst.Imp
konst_here table junctions.Iff = expand_con table (junction_konst junctions.Iff)

pub two_here : (table : List Aux) (e : List Term) (j : Junction) (s t : Term) →
    here table e (junction j s t) ≡ apply (apply (constant (junction_konst j)) (here table e s)) (here table e t)
two_here table e j s t =
    let k = constant (junction_konst j) in
    ap (here table e) (junction_is j s t)
    ∙ ap (expand table) (put_in-app e (apply k s) t 0 ∙ (λ i. apply ((put_in-app e k s 0 ∙ ap (λ c. apply c (put_in e s 0)) (put_in-con e (junction_konst j) 0)) i) (put_in e t 0)))
    ∙ expand_app table (apply k (put_in e s 0)) (put_in e t 0)
    ∙ ap (λ f. apply f (here table e t)) (expand_app table k (put_in e s 0) ∙ ap (λ c. apply c (here table e s)) (konst_here table j))

pub not_here : (table : List Aux) (e : List Term) (t : Term) → here table e (neg t) ≡ neg (here table e t)
not_here table e t =
    let k = constant konst.Not in
    ap (expand table) (put_in-app e k t 0 ∙ ap (λ c. apply c (put_in e t 0)) (put_in-con e konst.Not 0)) ∙ expand_app table k (put_in e t 0)
    ∙ ap (λ c. apply c (here table e t)) (expand_con table konst.Not)

-- ---- one equation for each constructor
pub refuted-not : (a : Formula) (s : Bool) (t : Term) → refuted (roll-Formula (Formula-F.Not a)) s t ≡ refuted a (not s) (right_of t)
unfolding refuted
refuted-not a s t = ap (λ (g : KernelWalk). g s t) (fold-roll-Formula KernelWalk refuted_step (Formula-F.Not a))

pub refuted-two : (j : Junction) (a b : Formula) (s : Bool) (t : Term) → refuted (roll-Formula (Formula-F.Two j a b)) s t ≡ junction_refuted j (refuted a) (refuted b) s (left_of t) (right_of t)
unfolding refuted
refuted-two j a b s t = ap (λ (g : KernelWalk). g s t) (fold-roll-Formula KernelWalk refuted_step (Formula-F.Two j a b))

-- ---- a junction
pub fits_later : (p q : Progress) (e : List Term) (t : Term) → Grows p.table q.table → Fits p e t → Fits q e t
fits_later p q e t g h = record { closed = h.closed; known = below_longer (length p.table) (length q.table) (grows_longer p.table q.table g) t h.known; bare = h.bare }

abbrev pub Good : Formula → Type 0
Good f = (s : Bool) (e : List Term) (types : List Ty) (p : Progress) → IsRead f → Stands types p e → Fits p e (term_of f) →
    Agrees types e (walked f s e) (λ table. refuted f s (here table e (term_of f))) p

module _ (a b : Formula) (ga : Good a) (gb : Good b) (ra : IsRead a) (rb : IsRead b) (e : List Term) where
  pair : (make : Clauses → Clauses → Clauses) → MakesShown make → (s s' : Bool) (types : List Ty) (p : Progress) → Stands types p e → Fits p e (term_of a) → Fits p e (term_of b) →
      Agrees types e (both make (walked a s e) (walked b s' e))
      (λ table. both_refuted make (refuted a s (here table e (term_of a))) (refuted b s' (here table e (term_of b)))) p
  pair make makes s s' types p st fa fb =
      let q = (walked a s e p).after in
      both_agrees make makes types e (walked a s e) (walked b s' e) (λ table. refuted a s (here table e (term_of a))) (λ table. refuted b s' (here table e (term_of b))) p
      (ga s e types p ra st fa) (λ more later. gb s' e (types ++ more) q rb later (fits_later p q e (term_of b) (walk_grows a s e p) fb)) (walk_grows b s' e)

  abbrev t : List Aux → Term
  t table = here table e (term_of a)

  abbrev u : List Aux → Term
  u table = here table e (term_of b)

  sum_agrees : (c : Bool) (make other : Clauses → Clauses → Clauses) → MakesShown make → MakesShown other → MakesShown (if c then make else other)
  sum_agrees true make other f g = f
  sum_agrees false make other f g = g

  pub junction_agrees : (j : Junction) (s : Bool) (types : List Ty) (p : Progress) → Stands types p e → Fits p e (term_of a) → Fits p e (term_of b) →
      Agrees types e (junction_pass j (walked a) (walked b) s e) (λ table. junction_refuted j (refuted a) (refuted b) s (t table) (u table)) p
  junction_agrees junctions.And s types p st fa fb = pair (if s then appended else joined) (sum_agrees s appended joined appended_shown joined_shown) s s types p st fa fb
  junction_agrees junctions.Or s types p st fa fb = pair (if s then joined else appended) (sum_agrees s joined appended joined_shown appended_shown) s s types p st fa fb
  junction_agrees junctions.Imp s types p st fa fb = pair (if s then joined else appended) (sum_agrees s joined appended joined_shown appended_shown) (not s) s types p st fa fb
  junction_agrees junctions.Iff s types p st fa fb =
      let x = both joined (walked a (not s) e) (walked b true e) in
      let x' = both joined (walked a s e) (walked b false e) in
      let q = (x p).after in
      let grown = both_grows joined (walked a (not s) e) (walked b true e) (walk_grows a (not s) e) (walk_grows b true e) p in
      both_agrees appended appended_shown types e x x' (λ table. both_refuted joined (refuted a (not s) (t table)) (refuted b true (u table)))
      (λ table. both_refuted joined (refuted a s (t table)) (refuted b false (u table))) p (pair joined joined_shown (not s) true types p st fa fb)
      (λ more later. pair joined joined_shown s false (types ++ more) q later (fits_later p q e (term_of a) grown fa) (fits_later p q e (term_of b) grown fb))
      (both_grows joined (walked a s e) (walked b false e) (walk_grows a s e) (walk_grows b false e))
