-- Each rule gives one clause at most, so the list of inferences is one.
use Rattle.std.proofs.Common.{◌≡◌, ℕ, Bool, true, false, List, [], ◌∷◌, ◌++◌, refl, sym, ap, subst, ◌∙◌}
use Rattle.std.specs.Prelude.{slice_set}
use Rattle.std.specs.List.{remove}
use Rattle.fo_terms.specs.declared.term.FoTerm.{FoTerm}
use Rattle.fo_terms.specs.declared.literal.Literal.{Literal}
use Rattle.fo_terms.specs.declared.clause.Clause.{Clause}
use Rattle.fo_unify.specs.declared.subst.Bind.{Bind}
use Rattle.fo_unify.specs.Unifier.{IsMostGeneral}
use Rattle.fo_infer.specs.declared.made.Made.{Made}
use Rattle.fo_infer.specs.declared.made.Rule.{Rule}
use Rattle.fo_infer.specs.declared.made.Rule.TheVariants.{Resolve, Para, Factor, Reflex}
use Rattle.fo_infer.specs.Paths.{at_atom_path}
use Rattle.fo_infer.specs.Inferences.{Position, renamed_apart, conclusion, atom_equations, sought, put_in, literal_replaced, Factors, Reflects, AloneGives, Resolves, Paramodulates, PairGives, Listed, done, skip, give, alone_rules, pair_rules}
use Rattle.fo_infer.specs.OneList.{HasOneList, HaveOneList}
use Rattle.fo_infer.proofs.Resolvents.{some_same, held_same}
use Rattle.fo_infer.proofs.Factorings.{sides_same}
use Rattle.fo_infer.proofs.Unifiers.{one_conclusion}

-- ---- lists

module _ (Gives : Rule → Clause → Type 0) (one : (r : Rule) (c d : Clause) → Gives r c → Gives r d → c ≡ d) where
  one_listed : (rs : List Rule) (ms ns : List Made) → Listed Gives rs ms → Listed Gives rs ns → ms ≡ ns
  one_listed [] [] [] done done = refl
  one_listed [] [] (n ∷ ns) a b = elim b [ ]
  one_listed [] (m ∷ ms) ns a b = elim a [ ]
  one_listed (r ∷ rs) ms ns (skip none rest) (skip none' rest') = one_listed rs ms ns rest rest'
  one_listed (r ∷ rs) ms (n ∷ ns) (skip none rest) (give gives rest') = absurd (none n.clause gives)
  one_listed (r ∷ rs) (m ∷ ms) ns (give gives rest) (skip none rest') = absurd (none m.clause gives)
  one_listed (r ∷ rs) (m ∷ ms) (n ∷ ns) (give gives rest) (give gives' rest') =
      let first : m.clause ≡ n.clause = one r m.clause n.clause gives gives' in
      λ i. record { clause = first i; rule = r } ∷ one_listed rs ms ns rest rest' i

-- ---- rules

-- the same equations and the same literals give the same clause
same_conclusion : (es fs : List (FoTerm × FoTerm)) (bs cs : List Bind) (ls ms : List Literal) → es ≡ fs → ls ≡ ms → IsMostGeneral es bs → IsMostGeneral fs cs → conclusion bs ls ≡ conclusion cs ms
same_conclusion es fs bs cs ls ms is it one other = one_conclusion es bs cs one (subst (λ gs. IsMostGeneral gs cs) (sym is) other) ls ∙ ap (conclusion cs) it

one_factor : (p : Clause) (i j : ℕ) (c d : Clause) → Factors p i j c → Factors p i j d → c ≡ d
one_factor p i j c d x y =
    let first : x.first ≡ y.first = some_same x.first y.first (sym x.first_is ∙ y.first_is) in
    let second : x.second ≡ y.second = some_same x.second y.second (sym x.second_is ∙ y.second_is) in
    let equations : x.equations ≡ y.equations = some_same x.equations y.equations (sym x.kinds ∙ (λ k. atom_equations (first k).atom (second k).atom) ∙ y.kinds) in
    x.gives ∙ same_conclusion x.equations y.equations x.binds y.binds (remove p.literals j) (remove p.literals j) equations refl x.unifier y.unifier ∙ sym y.gives

one_reflex : (p : Clause) (i : ℕ) (c d : Clause) → Reflects p i c → Reflects p i d → c ≡ d
one_reflex p i c d x y =
    let sides = sides_same false x.s x.t y.s y.t (sym x.literal_is ∙ y.literal_is) in
    x.gives ∙ same_conclusion ((x.s, x.t) ∷ []) ((y.s, y.t) ∷ []) x.binds y.binds (remove p.literals i) (remove p.literals i) (λ k. (sides.0 k, sides.1 k) ∷ []) refl x.unifier y.unifier ∙ sym y.gives

alone_one : (p : Clause) (r : Rule) (c d : Clause) → AloneGives p r c → AloneGives p r d → c ≡ d
alone_one p (Factor i j) c d x y = one_factor p i j c d x y
alone_one p (Reflex i) c d x y = one_reflex p i c d x y
alone_one p (Resolve i j) c d x y = absurd x
alone_one p (Para i swapped j path) c d x y = absurd x

one_resolve : (p q : Clause) (i j : ℕ) (c d : Clause) → Resolves p q i j c → Resolves p q i j d → c ≡ d
one_resolve p q i j c d x y =
    let left : x.s ≡ y.s = held_same true x.s y.s (sym x.left_is ∙ y.left_is) in
    let right : x.t ≡ y.t = held_same false x.t y.t (sym x.right_is ∙ y.right_is) in
    let ls = remove p.literals i ++ remove (renamed_apart p q) j in
    x.gives ∙ same_conclusion ((x.s, x.t) ∷ []) ((y.s, y.t) ∷ []) x.binds y.binds ls ls (λ k. (left k, right k) ∷ []) refl x.unifier y.unifier ∙ sym y.gives

one_para : (position : Position) (p q : Clause) (i : ℕ) (swapped : Bool) (j : ℕ) (path : List ℕ) (c d : Clause) → Paramodulates position p q i swapped j path c → Paramodulates position p q i swapped j path d → c ≡ d
one_para position p q i swapped j path c d x y =
    let sides = sides_same true x.a x.b y.a y.b (sym x.left_is ∙ y.left_is) in
    let into : x.into ≡ y.into = some_same x.into y.into (sym x.right_is ∙ y.right_is) in
    let u : x.u ≡ y.u = some_same x.u y.u (sym x.at ∙ ap (λ l. at_atom_path path l.atom) into ∙ y.at) in
    x.gives ∙ same_conclusion ((sought swapped x.a x.b, x.u) ∷ []) ((sought swapped y.a y.b, y.u) ∷ []) x.binds y.binds
    (remove p.literals i ++ slice_set (renamed_apart p q) j (literal_replaced path (put_in swapped x.a x.b) x.into))
    (remove p.literals i ++ slice_set (renamed_apart p q) j (literal_replaced path (put_in swapped y.a y.b) y.into))
    (λ k. (sought swapped (sides.0 k) (sides.1 k), u k) ∷ [])
    (λ k. remove p.literals i ++ slice_set (renamed_apart p q) j (literal_replaced path (put_in swapped (sides.0 k) (sides.1 k)) (into k))) x.unifier y.unifier
    ∙ sym y.gives

pair_one : (position : Position) (p q : Clause) (r : Rule) (c d : Clause) → PairGives position p q r c → PairGives position p q r d → c ≡ d
pair_one position p q (Resolve i j) c d x y = one_resolve p q i j c d x y
pair_one position p q (Para i swapped j path) c d x y = one_para position p q i swapped j path c d x y
pair_one position p q (Factor i j) c d x y = absurd x
pair_one position p q (Reflex i) c d x y = absurd x

-- ---- the lists

pub one_alone : (p : Clause) → HasOneList p
one_alone p ms ns = one_listed (AloneGives p) (alone_one p) (alone_rules p) ms ns

pub one_between : (p q : Clause) → HaveOneList p q
one_between p q position ms ns = one_listed (PairGives position p q) (pair_one position p q) (pair_rules p q) ms ns
