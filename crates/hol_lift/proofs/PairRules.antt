-- What the rules with two parents say of typed literals.
use Rattle.std.proofs.Common.{◌≡◌, ℕ, ◌+◌, Bool, List, [], ◌∷◌, ◌++◌, map, Some, slice_get, sym, ap, subst, ◌∙◌}
use Rattle.std.specs.Prelude.{slice_set}
use Rattle.std.specs.List.{remove}
use Rattle.std.proofs.lemmas.List.{map-append}
use Rattle.hol_terms.specs.declared.sig.Sig.{Sig}
use Rattle.fo_terms.specs.declared.term.FoTerm.{FoTerm}
use Rattle.fo_terms.specs.declared.atom.Atom.TheVariants.{Eq}
use Rattle.fo_terms.specs.declared.literal.Literal.{Literal}
use Rattle.fo_terms.specs.declared.clause.Clause.{Clause}
use Rattle.fo_terms.specs.Substitution.{put_literals}
use Rattle.fo_terms.specs.Normal.{clause_variables}
use Rattle.fo_terms.proofs.Substitution.{put_var}
use Rattle.fo_unify.specs.declared.subst.Bind.{Bind}
use Rattle.fo_unify.specs.Lookup.{term_of}
use Rattle.fo_infer.specs.Paths.{at_atom_path}
use Rattle.fo_infer.specs.Inferences.{atom_equations, above_all, renamed_apart, Resolves, Paramodulates, sought, put_in, literal_replaced, tagged_position}
use Rattle.tagged_terms.specs.Readings.{Signs, Types}
use Rattle.tagged_terms.specs.Clauses as tagged
use Rattle.tagged_lines.specs.Variables.{lasting_variables, finished, finished_apart}
use Rattle.tagged_lines.specs.Places as places
use Rattle.tagged_lines.specs.Rules.{ResolvesTo, ParamodulatesTo, to}
use Rattle.tagged_lines.specs.Lifted.{FollowTyped, resolved, paramodulated}
use Rattle.tagged_lines.proofs.Items.{map_remove, map_set}
use Rattle.tagged_lines.proofs.Resolving.{resolution_lifts}
use Rattle.tagged_lines.proofs.Paramodulating.{paramodulation_lifts}
use Rattle.kernel_rules.specs.Connectives.{equal}
use Rattle.kernel_rules.proofs.Parts.{is_equal-equal}
use Rattle.hol_kernel.specs.Logs.{Logged}
use Rattle.clause_instances.specs.Images.{image}
use Rattle.clause_instances.specs.Theorems.{as_literal, clause_of, HasInstance}
use Rattle.hol_lift.specs.inner.Typed.{Last, Joins, Opposed, Rewrites, rewritten}
use Rattle.hol_lift.specs.inner.Pairs.{Resolved, Paramodulated}
use Rattle.hol_lift.specs.Refutations.{IsTaggedClause, AreSignsOver}
use Rattle.hol_lift.specs.inner.Places.{direction}
use Rattle.hol_lift.specs.inner.Unifying.{HasUnifier, IsUnifier, AtomsUnify, SubtermUnifies}
use Rattle.hol_lift.proofs.Members.{map_got}
use Rattle.hol_lift.proofs.PathsSame.{part_directed, replaced_directed}
use Rattle.hol_lift.proofs.Singles.{last_of, types_of, tagged_so, of_so, image_finished}

-- what is put for the right parent's variables
pub image_apart : (p : Clause) (binds : List Bind) (ls : List Literal) → image (above_all (clause_variables p.literals)) binds (lasting_variables ls) ≡ finished_apart p binds ls
image_apart p binds ls = λ i x. sym (put_var (finished binds ls) (x + above_all (clause_variables p.literals))) i

module _ (sig : Sig) (signs : Signs) (serve : AreSignsOver sig signs) (p q : Clause) (tp : IsTaggedClause signs p.literals) (tq : IsTaggedClause signs q.literals) where
  abbrev TP : Types
  TP = types_of sig signs serve p.literals tp

  abbrev TQ : Types
  TQ = types_of sig signs serve q.literals tq

  module _ (c : List Literal) (u w : ℕ → FoTerm) (Rule : List tagged.TypedLiteral → List tagged.TypedLiteral → List tagged.TypedLiteral → Type 0) (f : FollowTyped signs TP TQ p.literals q.literals c u w Rule) where
    left_has : HasInstance sig signs u p.literals
    left_has = record { old = TP; new = f.types; of = f.of sig (of_so sig signs serve p.literals tp) (of_so sig signs serve q.literals tq); tagged = tagged_so sig signs serve p.literals tp; instance = f.left_parent }

    right_has : HasInstance sig signs w q.literals
    right_has = record { old = TQ; new = f.types; of = f.of sig (of_so sig signs serve p.literals tp) (of_so sig signs serve q.literals tq); tagged = tagged_so sig signs serve q.literals tq; instance = f.right_parent }

  -- ---- resolution

  module _ (i j : ℕ) (c : Clause) (binds : List Bind) (rule : Resolves p q i j c) (unifier : IsUnifier ((rule.s, rule.t) ∷ []) binds) where
    abbrev u : ℕ → FoTerm
    u = finished binds (resolved p q binds i j)

    abbrev w : ℕ → FoTerm
    w = finished_apart p binds (resolved p q binds i j)

    abbrev ps : List tagged.TypedLiteral
    ps = tagged.literals_of signs (put_literals u p.literals)

    abbrev qs : List tagged.TypedLiteral
    qs = tagged.literals_of signs (put_literals w q.literals)

    resolve_follows : FollowTyped signs TP TQ p.literals q.literals c.literals u w (ResolvesTo i j)
    resolve_follows = resolution_lifts p q i j c signs TP TQ binds serve.serve.closed (tagged_so sig signs serve p.literals tp) (tagged_so sig signs serve q.literals tq) rule unifier.general unifier.made

    pub resolve_left : HasInstance sig signs u p.literals
    resolve_left = left_has c.literals u w (ResolvesTo i j) resolve_follows

    pub resolve_right : HasInstance sig signs w q.literals
    resolve_right = right_has c.literals u w (ResolvesTo i j) resolve_follows

    pub resolve_tagged : IsTaggedClause signs c.literals
    resolve_tagged = (resolve_follows.types, resolve_follows.tagged)

    pub resolve_opposed : Opposed (clause_of signs (put_literals u p.literals)) i (clause_of signs (put_literals w q.literals)) j
    resolve_opposed = record { atom = resolve_follows.rule.atom; left = map_got as_literal ps i _ resolve_follows.rule.left; right = map_got as_literal qs j _ resolve_follows.rule.right }

    pub resolve_last : Last (remove (clause_of signs (put_literals u p.literals)) i ++ remove (clause_of signs (put_literals w q.literals)) j) (clause_of signs c.literals)
    resolve_last =
        subst (λ zs. Last zs (clause_of signs c.literals)) (map-append as_literal (remove ps i) (remove qs j) ∙ (λ k. map_remove as_literal ps i k ++ map_remove as_literal qs j k))
        (last_of (remove ps i ++ remove qs j) (tagged.literals_of signs c.literals) resolve_follows.rule.lasts)

    pub resolve_opposed_as : (u' w' : ℕ → FoTerm) (ls ms : List Literal) → u' ≡ u → ls ≡ p.literals → w' ≡ w → ms ≡ q.literals → Opposed (clause_of signs (put_literals u' ls)) i (clause_of signs (put_literals w' ms)) j
    resolve_opposed_as u' w' ls ms hu hl hw hm =
        subst (λ z. Opposed (clause_of signs (put_literals u' ls)) i z j) (λ k. clause_of signs (put_literals (sym hw k) (sym hm k)))
        (subst (λ z. Opposed z i (clause_of signs (put_literals w q.literals)) j) (λ k. clause_of signs (put_literals (sym hu k) (sym hl k))) resolve_opposed)

    pub resolve_joins : (old new : Logged) (left right r : ℕ) (u' w' : ℕ → FoTerm) (ls ms : List Literal) → u' ≡ u → ls ≡ p.literals → w' ≡ w → ms ≡ q.literals → Resolved old new signs left u' ls i right w' ms j r
        → Joins old new left (clause_of signs p.literals) right (clause_of signs q.literals) r (clause_of signs c.literals)
    resolve_joins old new left right r u' w' ls ms hu hl hw hm f =
        let a = subst (λ z. Resolved old new signs left z ls i right w' ms j r) hu f in
        let b = subst (λ z. Resolved old new signs left u z i right w' ms j r) hl a in
        let d = subst (λ z. Resolved old new signs left u p.literals i right z ms j r) hw b in
        subst (λ z. Resolved old new signs left u p.literals i right w z j r) hm d (clause_of signs c.literals) resolve_last

  -- ---- paramodulation

  module _ (i : ℕ) (swapped : Bool) (j : ℕ) (path : List ℕ) (c : Clause) (binds : List Bind) (rule : Paramodulates tagged_position p q i swapped j path c) (unifier : IsUnifier ((sought swapped rule.a rule.b, rule.u) ∷ []) binds) where
    abbrev before : List Literal
    before = paramodulated p q binds i j (literal_replaced path (put_in swapped rule.a rule.b) rule.into)

    abbrev v : ℕ → FoTerm
    v = finished binds before

    abbrev y : ℕ → FoTerm
    y = finished_apart p binds before

    abbrev ms : List tagged.TypedLiteral
    ms = tagged.literals_of signs (put_literals v p.literals)

    abbrev ns : List tagged.TypedLiteral
    ns = tagged.literals_of signs (put_literals y q.literals)

    abbrev at : List ℕ
    at = places.formula_path rule.into.atom path

    para_follows : FollowTyped signs TP TQ p.literals q.literals c.literals v y (ParamodulatesTo i swapped j at)
    para_follows = paramodulation_lifts p q i swapped j path c signs TP TQ binds serve.serve.closed (tagged_so sig signs serve p.literals tp) (tagged_so sig signs serve q.literals tq) rule unifier.general unifier.made

    pub para_left : HasInstance sig signs v p.literals
    para_left = left_has c.literals v y (ParamodulatesTo i swapped j at) para_follows

    pub para_right : HasInstance sig signs y q.literals
    para_right = right_has c.literals v y (ParamodulatesTo i swapped j at) para_follows

    pub para_tagged : IsTaggedClause signs c.literals
    para_tagged = (para_follows.types, para_follows.tagged)

    pub para_rewrites : Rewrites (clause_of signs (put_literals v p.literals)) i swapped (clause_of signs (put_literals y q.literals)) j (map direction at)
    para_rewrites =
        let f = para_follows.rule in
        record {
          equation = equal f.ty f.s f.t;
          is_equation = is_equal-equal f.ty f.s f.t;
          into = as_literal f.into;
          left = map_got as_literal ms i _ f.left;
          right = map_got as_literal ns j f.into f.right;
          part = part_directed at swapped f.ty f.s f.t f.into.atom f.part;
        }

    pub para_last : Last (remove (clause_of signs (put_literals v p.literals)) i ++ slice_set (clause_of signs (put_literals y q.literals)) j (rewritten para_rewrites.equation swapped (map direction at) para_rewrites.into)) (clause_of signs c.literals)
    unfolding para_rewrites
    para_last =
        let f = para_follows.rule in
        let m : tagged.TypedLiteral = record { positive = f.into.positive; atom = places.replaced_at at (to swapped f.s f.t) f.into.atom } in
        let same : as_literal m ≡ rewritten (equal f.ty f.s f.t) swapped (map direction at) (as_literal f.into) = λ k. record { positive = f.into.positive; atom = sym (replaced_directed at swapped f.ty f.s f.t f.into.atom f.part) k } in
        subst (λ zs. Last zs (clause_of signs c.literals))
        (map-append as_literal (remove ms i) (slice_set ns j m) ∙ (λ k. map_remove as_literal ms i k ++ map_set as_literal ns j m k) ∙ (λ k. remove (map as_literal ms) i ++ slice_set (map as_literal ns) j (same k)))
        (last_of (remove ms i ++ slice_set ns j m) (tagged.literals_of signs c.literals) f.lasts)

    pub para_rewrites_as : (u' w' : ℕ → FoTerm) (ls ms : List Literal) (l : List ℕ) → u' ≡ v → ls ≡ p.literals → w' ≡ y → ms ≡ q.literals → l ≡ map direction at
        → Rewrites (clause_of signs (put_literals u' ls)) i swapped (clause_of signs (put_literals w' ms)) j l
    para_rewrites_as u' w' ls ms l hu hl hw hm is =
        subst (λ z. Rewrites (clause_of signs (put_literals u' ls)) i swapped (clause_of signs (put_literals w' ms)) j z) (sym is)
        (subst (λ z. Rewrites (clause_of signs (put_literals u' ls)) i swapped z j (map direction at)) (λ k. clause_of signs (put_literals (sym hw k) (sym hm k)))
        (subst (λ z. Rewrites z i swapped (clause_of signs (put_literals y q.literals)) j (map direction at)) (λ k. clause_of signs (put_literals (sym hu k) (sym hl k))) para_rewrites))

    pub para_joins : (old new : Logged) (left right r : ℕ) (u' w' : ℕ → FoTerm) (ls ms : List Literal) (l : List ℕ) → u' ≡ v → ls ≡ p.literals → w' ≡ y → ms ≡ q.literals → l ≡ map direction at
        → Paramodulated old new signs left u' ls i swapped right w' ms j l r → Joins old new left (clause_of signs p.literals) right (clause_of signs q.literals) r (clause_of signs c.literals)
    para_joins old new left right r u' w' ls ms l hu hl hw hm is f =
        let a = subst (λ z. Paramodulated old new signs left z ls i swapped right w' ms j l r) hu f in
        let b = subst (λ z. Paramodulated old new signs left v z i swapped right w' ms j l r) hl a in
        let d = subst (λ z. Paramodulated old new signs left v p.literals i swapped right z ms j l r) hw b in
        let e = subst (λ z. Paramodulated old new signs left v p.literals i swapped right y z j l r) hm d in
        subst (λ z. Paramodulated old new signs left v p.literals i swapped right y q.literals j z r) is e para_rewrites (clause_of signs c.literals) para_last

-- ---- images by other names of what they are made of

pub left_is : (bs binds : List Bind) (names : List ℕ) (before : List Literal) → bs ≡ binds → names ≡ lasting_variables before → image 0 bs names ≡ finished binds before
left_is bs binds names before b n = (λ k. image 0 (b k) (n k)) ∙ image_finished binds before

pub right_is : (p : Clause) (by : ℕ) (bs binds : List Bind) (names : List ℕ) (before : List Literal) → by ≡ above_all (clause_variables p.literals) → bs ≡ binds → names ≡ lasting_variables before → image by bs names ≡ finished_apart p binds before
right_is p by bs binds names before y b n = (λ k. image (y k) (b k) (n k)) ∙ image_apart p binds before

pub has_as : (sig : Sig) (signs : Signs) (u' u : ℕ → FoTerm) (ls p : List Literal) → u' ≡ u → ls ≡ p → HasInstance sig signs u p → HasInstance sig signs u' ls
has_as sig signs u' u ls p hu hl h = subst (λ z. HasInstance sig signs u' z) (sym hl) (subst (λ z. HasInstance sig signs z p) (sym hu) h)

pub resolved_as : (p q : Clause) (binds : List Bind) (i j : ℕ) (bs : List Bind) (ls apart : List Literal) → bs ≡ binds → ls ≡ p.literals → apart ≡ renamed_apart p q
    → lasting_variables (put_literals (term_of bs) (remove ls i ++ remove apart j)) ≡ lasting_variables (resolved p q binds i j)
resolved_as p q binds i j bs ls apart b l m = λ k. lasting_variables (put_literals (term_of (b k)) (remove (l k) i ++ remove (m k) j))

pub paramodulated_as : (p q : Clause) (binds : List Bind) (i j : ℕ) (path : List ℕ) (bs : List Bind) (apart : List Literal) (r s : FoTerm) (a b : Literal) → bs ≡ binds → apart ≡ renamed_apart p q → r ≡ s → a ≡ b
    → lasting_variables (put_literals (term_of bs) (remove p.literals i ++ slice_set apart j (literal_replaced path r a))) ≡ lasting_variables (paramodulated p q binds i j (literal_replaced path s b))
paramodulated_as p q binds i j path bs apart r s a b h m t e = λ k. lasting_variables (put_literals (term_of (h k)) (remove p.literals i ++ slice_set (m k) j (literal_replaced path (t k) (e k))))

pub unifier_as : (s t u : FoTerm) (binds : List Bind) → s ≡ t → IsUnifier ((s, u) ∷ []) binds → IsUnifier ((t, u) ∷ []) binds
unifier_as s t u binds is h = subst (λ z. IsUnifier ((z, u) ∷ []) binds) is h

-- ---- that the unifiers exist

same_got : (x y : Literal) → Some x ≡ Some y → x ≡ y
same_got x y e = cc

module _ (p q : Clause) (i j : ℕ) (c : Clause) (rule : Resolves p q i j c) (a b : Literal) (first : slice_get p.literals i ≡ Some a) (second : slice_get (renamed_apart p q) j ≡ Some b) where
  pub resolves_kinds : atom_equations a.atom b.atom ≡ Some ((rule.s, rule.t) ∷ [])
  resolves_kinds = λ k. atom_equations ((same_got a _ (sym first ∙ rule.left_is) k).atom) ((same_got b _ (sym second ∙ rule.right_is) k).atom)

  pub resolves_unify : AtomsUnify a.atom b.atom
  resolves_unify = record { equations = (rule.s, rule.t) ∷ []; kinds = resolves_kinds; unifier = (term_of rule.binds, rule.unifier.unifies) }

module _ (p q : Clause) (i : ℕ) (swapped : Bool) (j : ℕ) (path : List ℕ) (c : Clause) (rule : Paramodulates tagged_position p q i swapped j path c) (a b : Literal) (first : slice_get p.literals i ≡ Some a) (second : slice_get (renamed_apart p q) j ≡ Some b) where
  pub para_equation : a.atom ≡ Eq rule.a rule.b
  para_equation = ap (λ l. l.atom) (same_got a _ (sym first ∙ rule.left_is))

  pub para_into : b ≡ rule.into
  para_into = same_got b rule.into (sym second ∙ rule.right_is)

  pub para_at : at_atom_path path b.atom ≡ Some rule.u
  para_at = ap (λ l. at_atom_path path l.atom) para_into ∙ rule.at

  pub para_unifies : (s : FoTerm) → s ≡ sought swapped rule.a rule.b → SubtermUnifies s b.atom path
  para_unifies s is = record { subterm = rule.u; at = para_at; unifier = subst (λ z. HasUnifier ((z, rule.u) ∷ [])) (sym is) (term_of rule.binds, rule.unifier.unifies) }
