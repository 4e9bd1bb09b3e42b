-- Terms that match a formula: their shapes, and that they match where a value is put in or they are expanded.
use Rattle.std.proofs.Common.{◌≡◌, ℕ, Bool, ◌&&◌, IsTrue, List, ap, subst, refl, sym, ◌∙◌}
use Rattle.hol_terms.specs.declared.ty.Ty.{Ty}
use Rattle.hol_terms.specs.declared.konst.Konst.TheVariants as konst
use Rattle.hol_terms.specs.declared.term.Term.{Term}
use Rattle.hol_terms.specs.Substitution.{put}
use Rattle.hol_terms.proofs.Both.{both_true, and_true}
use Rattle.hol_terms.proofs.Equations.{put-con, put-app, put-lam}
use Rattle.hyp_sets.specs.Order.{is_same}
use Rattle.hyp_sets.proofs.OrderLaws.{tied_equal, equal_tied}
use Rattle.kernel_rules.specs.Connectives.{verum, falsum, neg, lambda, apply, constant, left_of, right_of, body_of}
use Rattle.kernel_rules.proofs.Parts.{right_of-apply, left_of-two, body_of-lambda}
use Rattle.lambda_lift.specs.declared.table.Aux.{Aux}
use Rattle.lambda_lift.specs.Tables.{expand}
use Rattle.lambda_lift.proofs.Expansions.{expand_con, expand_app, expand_lam}
use Rattle.hol_formulas.specs.declared.formula.Junction.{Junction}
use Rattle.hol_formulas.specs.declared.formula.Junction.TheVariants as junctions
use Rattle.hol_formulas.specs.declared.formula.Quantifier.{Quantifier}
use Rattle.hol_formulas.specs.declared.formula.Quantifier.TheVariants as quantifiers
use Rattle.hol_formulas.specs.declared.formula.Formula.{Formula, roll-Formula}
use Rattle.hol_formulas.specs.declared.formula.Formula.TheOpen.{Formula-F}
use Rattle.hol_formulas.specs.declared.formula.Formula.TheFolds.{fold-roll-Formula}
use Rattle.hol_clausify.specs.Places.{junction, quantifier, term_of, IsRead}
use Rattle.hol_clausify.specs.Refutations.{under_quantifier}
use Rattle.hol_clausify.specs.inner.Matching.{Test, matches, matches_step}
use Rattle.hol_clausify.proofs.FormulaCases.{formula_by_cases}
use Rattle.hol_clausify.proofs.Parts.{not_read, two_read, quantified_read, body_read}
use Rattle.hol_clausify.proofs.Reading.{term-true, term-false, term-not, term-two, term-quantified, junction_konst, quantifier_konst, junction_is, quantifier_is}

abbrev f_true : Formula
f_true = roll-Formula Formula-F.True

abbrev f_false : Formula
f_false = roll-Formula Formula-F.False

abbrev f_not : Formula → Formula
f_not a = roll-Formula (Formula-F.Not a)

abbrev f_two : Junction → Formula → Formula → Formula
f_two j a b = roll-Formula (Formula-F.Two j a b)

abbrev f_quantified : Quantifier → Ty → Term → Formula → Formula
f_quantified q a u b = roll-Formula (Formula-F.Quantified q a u b)

-- ---- one equation for each constructor
matches-true : (t : Term) → matches f_true t ≡ is_same t verum
unfolding matches
matches-true t = ap (λ (g : Test). g t) (fold-roll-Formula Test matches_step Formula-F.True)

matches-false : (t : Term) → matches f_false t ≡ is_same t falsum
unfolding matches
matches-false t = ap (λ (g : Test). g t) (fold-roll-Formula Test matches_step Formula-F.False)

matches-atom : (u t : Term) → IsTrue (matches (roll-Formula (Formula-F.Atom u)) t)
unfolding matches
matches-atom u t = ap (λ (g : Test). g t) (fold-roll-Formula Test matches_step (Formula-F.Atom u))

matches-not : (a : Formula) (t : Term) → matches (f_not a) t ≡ (is_same t (neg (right_of t)) && matches a (right_of t))
unfolding matches
matches-not a t = ap (λ (g : Test). g t) (fold-roll-Formula Test matches_step (Formula-F.Not a))

matches-two : (j : Junction) (a b : Formula) (t : Term) → matches (f_two j a b) t ≡ (is_same t (junction j (left_of t) (right_of t)) && (matches a (left_of t) && matches b (right_of t)))
unfolding matches
matches-two j a b t = ap (λ (g : Test). g t) (fold-roll-Formula Test matches_step (Formula-F.Two j a b))

matches-quantified : (q : Quantifier) (a : Ty) (u : Term) (b : Formula) (t : Term) →
    matches (f_quantified q a u b) t ≡ (is_same t (quantifier q a (lambda a (under_quantifier t))) && matches b (under_quantifier t))
unfolding matches
matches-quantified q a u b t = ap (λ (g : Test). g t) (fold-roll-Formula Test matches_step (Formula-F.Quantified q a u b))

-- ---- shapes
pub true_shape : (t : Term) → IsTrue (matches f_true t) → t ≡ verum
true_shape t h = tied_equal t verum (sym (matches-true t) ∙ h)

pub false_shape : (t : Term) → IsTrue (matches f_false t) → t ≡ falsum
false_shape t h = tied_equal t falsum (sym (matches-false t) ∙ h)

pub not_shape : (a : Formula) (t : Term) → IsTrue (matches (f_not a) t) → (t ≡ neg (right_of t)) × IsTrue (matches a (right_of t))
not_shape a t h =
    let w = neg (right_of t) in
    let both = both_true (is_same t w) (matches a (right_of t)) (sym (matches-not a t) ∙ h) in (tied_equal t w both.0, both.1)

pub two_shape : (j : Junction) (a b : Formula) (t : Term) → IsTrue (matches (f_two j a b) t) → (t ≡ junction j (left_of t) (right_of t)) × IsTrue (matches a (left_of t)) × IsTrue (matches b (right_of t))
two_shape j a b t h =
    let w = junction j (left_of t) (right_of t) in
    let both = both_true (is_same t w) (matches a (left_of t) && matches b (right_of t)) (sym (matches-two j a b t) ∙ h) in
    let parts = both_true (matches a (left_of t)) (matches b (right_of t)) both.1 in
    (tied_equal t w both.0, parts.0, parts.1)

pub quantified_shape : (q : Quantifier) (a : Ty) (u : Term) (b : Formula) (t : Term) → IsTrue (matches (f_quantified q a u b) t) → (t ≡ quantifier q a (lambda a (under_quantifier t))) × IsTrue (matches b (under_quantifier t))
quantified_shape q a u b t h =
    let w = quantifier q a (lambda a (under_quantifier t)) in
    let both = both_true (is_same t w) (matches b (under_quantifier t)) (sym (matches-quantified q a u b t) ∙ h) in (tied_equal t w both.0, both.1)

-- ---- the parts of what is made
left_of_junction : (j : Junction) (s t : Term) → left_of (junction j s t) ≡ s
left_of_junction j s t = ap left_of (junction_is j s t) ∙ left_of-two (constant (junction_konst j)) s t

right_of_junction : (j : Junction) (s t : Term) → right_of (junction j s t) ≡ t
right_of_junction j s t = ap right_of (junction_is j s t) ∙ right_of-apply (apply (constant (junction_konst j)) s) t

pub right_of_quantifier : (q : Quantifier) (a : Ty) (f : Term) → right_of (quantifier q a f) ≡ f
right_of_quantifier q a f = ap right_of (quantifier_is q a f) ∙ right_of-apply (constant (quantifier_konst q a)) f

under_made : (q : Quantifier) (a : Ty) (b : Term) → under_quantifier (quantifier q a (lambda a b)) ≡ b
under_made q a b = ap body_of (right_of_quantifier q a (lambda a b)) ∙ body_of-lambda a b

-- ---- making
true_matches : (t : Term) → t ≡ verum → IsTrue (matches f_true t)
true_matches t e = matches-true t ∙ equal_tied t verum e

false_matches : (t : Term) → t ≡ falsum → IsTrue (matches f_false t)
false_matches t e = matches-false t ∙ equal_tied t falsum e

not_matches : (a : Formula) (t r : Term) → t ≡ neg r → IsTrue (matches a r) → IsTrue (matches (f_not a) t)
not_matches a t r e h =
    let same : right_of t ≡ r = ap right_of e ∙ right_of-apply (constant konst.Not) r in
    matches-not a t ∙ and_true (is_same t (neg (right_of t))) (matches a (right_of t)) (equal_tied t (neg (right_of t)) (e ∙ ap neg (sym same))) (ap (matches a) same ∙ h)

two_matches : (j : Junction) (a b : Formula) (t l r : Term) → t ≡ junction j l r → IsTrue (matches a l) → IsTrue (matches b r) → IsTrue (matches (f_two j a b) t)
two_matches j a b t l r e h g =
    let one : left_of t ≡ l = ap left_of e ∙ left_of_junction j l r in
    let two : right_of t ≡ r = ap right_of e ∙ right_of_junction j l r in
    let whole = junction j (left_of t) (right_of t) in
    matches-two j a b t
    ∙ and_true (is_same t whole) (matches a (left_of t) && matches b (right_of t)) (equal_tied t whole (e ∙ (λ i. junction j (sym one i) (sym two i))))
    (and_true (matches a (left_of t)) (matches b (right_of t)) (ap (matches a) one ∙ h) (ap (matches b) two ∙ g))

quantified_matches : (q : Quantifier) (a : Ty) (u : Term) (b : Formula) (t r : Term) → t ≡ quantifier q a (lambda a r) → IsTrue (matches b r) → IsTrue (matches (f_quantified q a u b) t)
quantified_matches q a u b t r e h =
    let same : under_quantifier t ≡ r = ap under_quantifier e ∙ under_made q a r in
    let whole = quantifier q a (lambda a (under_quantifier t)) in
    matches-quantified q a u b t
    ∙ and_true (is_same t whole) (matches b (under_quantifier t)) (equal_tied t whole (e ∙ ap (λ z. quantifier q a (lambda a z)) (sym same))) (ap (matches b) same ∙ h)

-- ---- a value put in
module _ (v : Term) where
  abbrev PutMatches : Formula → Type 0
  PutMatches f = (t : Term) (k : ℕ) → IsTrue (matches f t) → IsTrue (matches f (put v t k))

  put_not : (t : Term) (k : ℕ) → put v (neg t) k ≡ neg (put v t k)
  put_not t k = put-app v (constant konst.Not) t k ∙ ap (λ c. apply c (put v t k)) (put-con v konst.Not k)

  put_two : (j : Junction) (s t : Term) (k : ℕ) → put v (junction j s t) k ≡ junction j (put v s k) (put v t k)
  put_two j s t k =
      let c = constant (junction_konst j) in
      ap (λ z. put v z k) (junction_is j s t) ∙ put-app v (apply c s) t k
      ∙ ap (λ h. apply h (put v t k)) (put-app v c s k ∙ ap (λ h. apply h (put v s k)) (put-con v (junction_konst j) k)) ∙ sym (junction_is j (put v s k) (put v t k))

  put_quantifier : (q : Quantifier) (a : Ty) (b : Term) (k : ℕ) → (d : ℕ) × (put v (quantifier q a (lambda a b)) k ≡ quantifier q a (lambda a (put v b d)))
  put_quantifier q a b k = (
    _,
    ap (λ z. put v z k) (quantifier_is q a (lambda a b)) ∙ put-app v (constant (quantifier_konst q a)) (lambda a b) k
        ∙ (λ i. apply (put-con v (quantifier_konst q a) k i) (put-lam v a b k i)) ∙ sym (quantifier_is q a (lambda a (put v b _))),
  )

  pub put_matches : (f : Formula) → PutMatches f
  put_matches =
      formula_by_cases PutMatches (λ t k h. true_matches (put v t k) (ap (λ z. put v z k) (true_shape t h) ∙ put-con v konst.True k))
      (λ t k h. false_matches (put v t k) (ap (λ z. put v z k) (false_shape t h) ∙ put-con v konst.False k))
      (λ u t k h. matches-atom u (put v t k))
      (λ a ha t k h.
      let shape = not_shape a t h in
      not_matches a (put v t k) (put v (right_of t) k) (ap (λ z. put v z k) shape.0 ∙ put_not (right_of t) k) (ha (right_of t) k shape.1))
      (λ j a b ha hb t k h.
      let shape = two_shape j a b t h in
      two_matches j a b (put v t k) (put v (left_of t) k) (put v (right_of t) k) (ap (λ z. put v z k) shape.0 ∙ put_two j (left_of t) (right_of t) k) (ha (left_of t) k shape.1) (hb (right_of t) k shape.2))
      (λ q a u b hb t k h.
      let shape = quantified_shape q a u b t h in
      let made = put_quantifier q a (under_quantifier t) k in
      quantified_matches q a u b (put v t k) (put v (under_quantifier t) made.0) (ap (λ z. put v z k) shape.0 ∙ made.1) (hb (under_quantifier t) made.0 shape.1))

-- ---- a formula's own term, expanded
module _ (table : List Aux) where
  abbrev ExpandedMatches : Formula → Type 0
  ExpandedMatches f = IsRead f → IsTrue (matches f (expand table (term_of f)))

  expand_not : (t : Term) → expand table (neg t) ≡ neg (expand table t)
  expand_not t = expand_app table (constant konst.Not) t ∙ ap (λ c. apply c (expand table t)) (expand_con table konst.Not)

  konst_stays : (j : Junction) → expand table (constant (junction_konst j)) ≡ constant (junction_konst j)
  konst_stays junctions.And = expand_con table konst.And
  konst_stays junctions.Or = expand_con table konst.Or
  konst_stays junctions.Imp = expand_con table konst.Imp
  konst_stays junctions.Iff = expand_con table (junction_konst junctions.Iff)

  quantifier_stays : (q : Quantifier) (a : Ty) → expand table (constant (quantifier_konst q a)) ≡ constant (quantifier_konst q a)
  quantifier_stays quantifiers.All a = expand_con table (konst.All a)
  quantifier_stays quantifiers.Ex a = expand_con table (konst.Ex a)

  expand_two : (j : Junction) (s t : Term) → expand table (junction j s t) ≡ junction j (expand table s) (expand table t)
  expand_two j s t =
      let c = constant (junction_konst j) in
      ap (expand table) (junction_is j s t) ∙ expand_app table (apply c s) t
      ∙ ap (λ h. apply h (expand table t)) (expand_app table c s ∙ ap (λ h. apply h (expand table s)) (konst_stays j)) ∙ sym (junction_is j (expand table s) (expand table t))

  expand_quantifier : (q : Quantifier) (a : Ty) (b : Term) → expand table (quantifier q a (lambda a b)) ≡ quantifier q a (lambda a (expand table b))
  expand_quantifier q a b =
      ap (expand table) (quantifier_is q a (lambda a b)) ∙ expand_app table (constant (quantifier_konst q a)) (lambda a b)
      ∙ (λ i. apply (quantifier_stays q a i) (expand_lam table a b i)) ∙ sym (quantifier_is q a (lambda a (expand table b)))

  pub expanded_matches : (f : Formula) → ExpandedMatches f
  expanded_matches =
      formula_by_cases ExpandedMatches (λ r. true_matches (expand table (term_of f_true)) (ap (expand table) term-true ∙ expand_con table konst.True))
      (λ r. false_matches (expand table (term_of f_false)) (ap (expand table) term-false ∙ expand_con table konst.False))
      (λ t r. matches-atom t (expand table (term_of (roll-Formula (Formula-F.Atom t)))))
      (λ a ha r. not_matches a (expand table (term_of (f_not a))) (expand table (term_of a)) (ap (expand table) (term-not a) ∙ expand_not (term_of a)) (ha (not_read a r)))
      (λ j a b ha hb r.
      let parts = two_read j a b r in
      two_matches j a b (expand table (term_of (f_two j a b))) (expand table (term_of a)) (expand table (term_of b)) (ap (expand table) (term-two j a b) ∙ expand_two j (term_of a) (term_of b)) (ha parts.0) (hb parts.1))
      (λ q a t b hb r.
      let inner = body_read t b (quantified_read q a t b r) in
      quantified_matches q a t b (expand table (term_of (f_quantified q a t b))) (expand table t) (ap (expand table) (term-quantified q a t b) ∙ expand_quantifier q a t) (subst (λ z. IsTrue (matches b (expand table z))) inner.1 (hb inner.0)))
