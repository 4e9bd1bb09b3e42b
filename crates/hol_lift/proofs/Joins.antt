-- What is left of two clauses, without the literals that never hold.
use Rattle.std.proofs.Common.{◌≡◌, ℕ, zero, suc, Bool, true, false, if◌then◌else◌, IsTrue, List, [], ◌∷◌, ◌++◌, map, Some, slice_get, refl, sym, ap, subst, ◌∙◌, inl, inr}
use Rattle.std.specs.Prelude.{slice_set, Result, IfOk}
use Rattle.std.specs.List.{remove}
use Rattle.std.specs.FinSet as set
use Rattle.hol_terms.specs.declared.sig.Sig.{Sig}
use Rattle.hol_terms.specs.declared.term.Term.{Term}
use Rattle.hol_terms.specs.Formulas.{IsFormula}
use Rattle.hyp_sets.specs.Sets.{TermSet, set_of, only, Holds, Among}
use Rattle.hyp_sets.proofs.Members.{holds_union, in_left, in_right, among_trans}
use Rattle.kernel_rules.specs.declared.step.ThmId.{ThmId}
use Rattle.kernel_rules.specs.Connectives.{falsum, neg, equal, head_ty, is_equal, left_of, right_of, apply, constant}
use Rattle.kernel_rules.specs.Rules.{seq}
use Rattle.kernel_rules.proofs.GivenTerms.{given_typed, given_aux_free}
use Rattle.kernel_rules.proofs.Parts.{equal_is, is_equal-equal, left_of-two, right_of-apply}
use Rattle.kernel_rules.proofs.TypedTerms.{equal_sides, equal_aux_free, equal_formula, applied_formula}
use Rattle.hol_terms.specs.declared.konst.Konst.TheVariants as konst
use Rattle.hol_kernel.specs.Logs.{Logged, thm}
use Rattle.hol_kernel.specs.Growth.{Gives}
use Rattle.hol_derived.specs.Paths.{part_at, replaced_at}
use Rattle.hol_derived.proofs.ContextLaws.{context_is}
use Rattle.tagged_lines.specs.TypedLiterals.{IsIn}
use Rattle.hol_terms.specs.declared.literal.TypedLiteral.{TypedLiteral}
use Rattle.hol_clauses.specs.Literals.{denied, positive, negative, with_atom, source, target, allowed}
use Rattle.hol_clauses.proofs.Clauses.{resolvent, paramodulant}
use Rattle.clause_instances.proofs.Answered.{if_ok_map}
use Rattle.hol_lift.specs.inner.Typed.{AllFormulas, IsRefuted, Last, Drops, Joins, Opposed, Rewrites, rewritten, Paramodulated}
use Rattle.hol_lift.proofs.Identities.{refuted_negative}
use Rattle.hol_lift.proofs.Members as members
use Rattle.hol_lift.proofs.Drops.{drops_both}

-- ---- a theorem whose refuted literals were dropped

denies_atom : (l : TypedLiteral) → IsRefuted l → denied l ≡ l.atom
denies_atom l h = ap (λ b. if b then neg l.atom else l.atom) (refuted_negative l h)

-- the hypotheses are allowed for what lasts of the clause, once they lack what refuted literals leave
pub last_allowed : (base : TermSet) (olds news : List TypedLiteral) (g : TermSet) → Among g (allowed base olds) → ((l : TypedLiteral) → IsIn olds l → IsRefuted l → Holds g l.atom → ⊥) → Last olds news → Among g (allowed base news)
unfolding allowed
last_allowed base olds news g within gone last x h =
    elim (holds_union base (set_of (map denied olds)) x (within x h)) [
      | inl k ↦ in_left base (set_of (map denied news)) x k
      | inr k ↦ (let m = members.denied_held olds x k in
          elim (last m.0 m.1.0) [
            | inl n ↦ in_right base (set_of (map denied news)) x (subst (Holds (set_of (map denied news))) m.1.1 (members.held_denied news m.0 n))
            | inr r ↦ absurd (gone m.0 m.1.0 r (subst (Holds g) (sym m.1.1 ∙ denies_atom m.0 r) h))
          ])
    ]

-- ---- resolution

module _ (old one new : Logged) (left right at r : ℕ) (p q : List TypedLiteral) (i j : ℕ) (o : Opposed p i q j) (a : Term) (is : positive a ≡ positive o.atom) where
  resolved_joins : Gives one at (seq (set.union (set.remove (thm old right).hyps a) (set.remove (thm old left).hyps (neg a))) falsum) → Drops one new (p ++ q) at r
      → (c : List TypedLiteral) → Last (remove p i ++ remove q j) c → Joins old new left p right q r c
  resolved_joins g d c last = record {
    is_thm = d.is_thm;
    concl = d.concl ∙ ap (λ s. s.concl) g.is;
    lifts = λ base free hl hr.
        (let atom : a ≡ o.atom = ap (λ l. l.atom) is in
        let from_left = among_trans (thm old left).hyps (allowed base p) (allowed base (positive a ∷ remove p i)) hl (members.allowed_as p (positive a ∷ remove p i) base (λ l. members.in_taken p i (positive a) l (o.left ∙ ap (λ z. Some (positive z)) (sym atom)))) in
        let from_right = among_trans (thm old right).hyps (allowed base q) (allowed base (negative a ∷ remove q j)) hr (members.allowed_as q (negative a ∷ remove q j) base (λ l. members.in_taken q j (negative a) l (o.right ∙ ap (λ z. Some (negative z)) (sym atom)))) in
        let whole = subst (λ s. Among s.hyps (allowed base (remove p i ++ remove q j))) (sym g.is) (resolvent a (thm old left).hyps (thm old right).hyps base (remove p i) (remove q j) from_left from_right) in
        last_allowed base (remove p i ++ remove q j) c (thm new r).hyps (among_trans (thm new r).hyps (thm one at).hyps (allowed base (remove p i ++ remove q j)) d.among whole)
        (λ l k. d.gone l (elim (members.in_append (remove p i) (remove q j) l k) [ inl m ↦ members.in_left p q l (members.in_removed p i l m) | inr m ↦ members.in_right p q l (members.in_removed q j l m) ])) last);
  }

pub resolution_joins : {E : Type 0} (old one two new : Logged) (left right at less : ℕ) (p q : List TypedLiteral) (i j : ℕ) (l : TypedLiteral) (r : Result ThmId E) → Opposed p i q j → slice_get p i ≡ Some l
    → Gives one at (seq (set.union (set.remove (thm old right).hyps l.atom) (set.remove (thm old left).hyps (neg l.atom))) falsum) → Drops one two p at less → IfOk r (λ s. Drops two new q less s.0)
    → IfOk r (λ s. (c : List TypedLiteral) → Last (remove p i ++ remove q j) c → Joins old new left p right q s.0 c)
resolution_joins old one two new left right at less p q i j l r o got g d h =
    if_ok_map r (λ s. Drops two new q less s.0) (λ s. (c : List TypedLiteral) → Last (remove p i ++ remove q j) c → Joins old new left p right q s.0 c)
    (λ s e. resolved_joins old one new left right at s.0 p q i j o l.atom (ap (λ z. positive z.atom) (same_some l (positive o.atom) (sym got ∙ o.left))) g (drops_both one two new p q at less s.0 d e)) h
  where
    same_some : (x y : TypedLiteral) → Some x ≡ Some y → x ≡ y
    same_some x y e = cc

-- ---- paramodulation

module _ (old new : Logged) (e : Term) (left : ℕ) (l m : TypedLiteral) (right r : ℕ) where
  -- the paramodulant's theorem, without what the new literal leaves
  pub paramodulated : (one : Logged) (at : ℕ) → Gives one at (seq (set.union (set.union (set.remove (thm old left).hyps (neg e)) (set.remove (thm old right).hyps (denied l))) (only (denied m))) falsum) → Drops one new (m ∷ []) at r
      → Paramodulated old new e left l m right r
  paramodulated one at g d = record {
    is_thm = d.is_thm;
    concl = d.concl ∙ ap (λ s. s.concl) g.is;
    among = subst (λ s. Among (thm new r).hyps s.hyps) g.is d.among;
    gone = d.gone m (inl refl);
  }

pub paramodulated_ok : {E : Type 0} (old one new : Logged) (e : Term) (left : ℕ) (l m own : TypedLiteral) (right at : ℕ) (r : Result ThmId E) → own ≡ m
    → Gives one at (seq (set.union (set.union (set.remove (thm old left).hyps (neg e)) (set.remove (thm old right).hyps (denied l))) (only (denied m))) falsum)
    → IfOk r (λ s. Drops one new (own ∷ []) at s.0) → IfOk r (λ s. Paramodulated old new e left l m right s.0)
paramodulated_ok old one new e left l m own right at r is g h =
    if_ok_map r (λ s. Drops one new (own ∷ []) at s.0) (λ s. Paramodulated old new e left l m right s.0)
    (λ s d. paramodulated old new e left l m right s.0 one at g (subst (λ z. Drops one new (z ∷ []) at s.0) is d)) h

module _ (old one new : Logged) (left right at r : ℕ) (p q : List TypedLiteral) (i j : ℕ) (e : Term) (into m : TypedLiteral) (gl : slice_get p i ≡ Some (positive e)) (gr : slice_get q j ≡ Some into) (b : Term) (m_is : m ≡ with_atom into b) where
  -- what stays of the clauses, the new literal first
  abbrev rest : List TypedLiteral
  rest = with_atom into b ∷ (remove p i ++ remove q j)

  rest_in : (l : TypedLiteral) → IsIn rest l → IsIn (remove p i ++ slice_set q j m) l
  rest_in l (inl e) = members.in_right (remove p i) (slice_set q j m) l (members.set_in q j m into l gr (inl (m_is ∙ e)))
  rest_in l (inr h) = elim (members.in_append (remove p i) (remove q j) l h) [ inl k ↦ members.in_left (remove p i) (slice_set q j m) l k | inr k ↦ members.in_right (remove p i) (slice_set q j m) l (members.set_in q j m into l gr (inr k)) ]

  pub rewriting_joins : Paramodulated old one e left into m right at → Drops one new (p ++ q) at r
      → (c : List TypedLiteral) → Last (remove p i ++ slice_set q j m) c → Joins old new left p right q r c
  rewriting_joins g d c last = record {
    is_thm = d.is_thm;
    concl = d.concl ∙ g.concl;
    lifts = λ base free hl hr.
        (let from_left = among_trans (thm old left).hyps (allowed base p) (allowed base (positive e ∷ remove p i)) hl (members.allowed_as p (positive e ∷ remove p i) base (λ l. members.in_taken p i (positive e) l gl)) in
        let from_right = among_trans (thm old right).hyps (allowed base q) (allowed base (into ∷ remove q j)) hr (members.allowed_as q (into ∷ remove q j) base (λ l. members.in_taken q j into l gr)) in
        let made = subst (λ z. Among (thm one at).hyps (set.union (set.union (set.remove (thm old left).hyps (neg e)) (set.remove (thm old right).hyps (denied into))) (only (denied z)))) m_is g.among in
        let whole = among_trans (thm one at).hyps _ (allowed base rest) made (paramodulant e into b (thm old left).hyps (thm old right).hyps base (remove p i) (remove q j) from_left from_right) in
        let turned = among_trans (thm one at).hyps (allowed base rest) (allowed base (remove p i ++ slice_set q j m)) whole (members.allowed_as rest (remove p i ++ slice_set q j m) base rest_in) in
        last_allowed base (remove p i ++ slice_set q j m) c (thm new r).hyps (among_trans (thm new r).hyps (thm one at).hyps (allowed base (remove p i ++ slice_set q j m)) d.among turned) (gone d g) last);
  } where
    gone : Drops one new (p ++ q) at r → Paramodulated old one e left into m right at → (l : TypedLiteral) → IsIn (remove p i ++ slice_set q j m) l → IsRefuted l → Holds (thm new r).hyps l.atom → ⊥
    gone d g l k ref h =
        elim (members.in_append (remove p i) (slice_set q j m) l k) [
          | inl a ↦ d.gone l (members.in_left p q l (members.in_removed p i l a)) ref h
          | inr a ↦ elim (members.in_set q j m l a) [
            | inl n ↦ d.gone l (members.in_right p q l n) ref h
            | inr is ↦ g.gone (subst IsRefuted (sym is) ref) (d.among m.atom (subst (λ z. Holds (thm new r).hyps z.atom) (sym is) h))
          ]
        ]

pub paramodulation_joins : {E : Type 0} (old one two new : Logged) (left right at less : ℕ) (p q : List TypedLiteral) (i : ℕ) (swapped : Bool) (j : ℕ) (path : List ℕ) (k l : TypedLiteral) (r : Result ThmId E) → slice_get p i ≡ Some k → slice_get q j ≡ Some l
    → Paramodulated old one k.atom left l (rewritten k.atom swapped path l) right at → Drops one two p at less → IfOk r (λ s. Drops two new q less s.0)
    → IfOk r (λ s. (w : Rewrites p i swapped q j path) (c : List TypedLiteral) → Last (remove p i ++ slice_set q j (rewritten w.equation swapped path w.into)) c → Joins old new left p right q s.0 c)
paramodulation_joins old one two new left right at less p q i swapped j path k l r got_left got_right g d h =
    if_ok_map r (λ s. Drops two new q less s.0) (λ s. (w : Rewrites p i swapped q j path) (c : List TypedLiteral) → Last (remove p i ++ slice_set q j (rewritten w.equation swapped path w.into)) c → Joins old new left p right q s.0 c)
    (λ s e w c last.
    let first : k ≡ positive w.equation = same_some k (positive w.equation) (sym got_left ∙ w.left) in
    let second : l ≡ w.into = same_some l w.into (sym got_right ∙ w.right) in
    let m = rewritten w.equation swapped path w.into in
    let turned = subst (λ z. Paramodulated old one z.atom left l (rewritten z.atom swapped path l) right at) first g in
    let made = subst (λ z. Paramodulated old one w.equation left z (rewritten w.equation swapped path z) right at) second turned in
    rewriting_joins old one new left right at s.0 p q i j w.equation w.into m w.left w.right (replaced_at path (target swapped w.equation) w.into.atom) refl made (drops_both one two new p q at less s.0 d e) c last) h
  where
    same_some : (x y : TypedLiteral) → Some x ≡ Some y → x ≡ y
    same_some x y e = cc

-- ---- the literals that take part

abbrev Got : List TypedLiteral → ℕ → TypedLiteral → Type 0
Got p i l = slice_get p i ≡ Some l

pub all_got : (sig : Sig) (p : List TypedLiteral) (i : ℕ) (l : TypedLiteral) → AllFormulas sig p → Got p i l → IsFormula sig l.atom
all_got sig [] i l all got = absurd cc
all_got sig (k ∷ p) zero l all got = let same : k ≡ l = cc in subst (λ z. IsFormula sig z.atom) same all.0
all_got sig (k ∷ p) (suc i) l all got = all_got sig p i l all.1 got

one_got : (p : List TypedLiteral) (i : ℕ) (k l : TypedLiteral) → Got p i k → Got p i l → k ≡ l
one_got p i k l h g = same (sym h ∙ g)
  where
    same : Some k ≡ Some l → k ≡ l
    same e = cc

module _ (p : List TypedLiteral) (i : ℕ) (swapped : Bool) (q : List TypedLiteral) (j : ℕ) (path : List ℕ) (w : Rewrites p i swapped q j path) (k l : TypedLiteral) (first : Got p i k) (second : Got q j l) where
  pub got_equation : IsTrue (is_equal k.atom)
  got_equation = ap (λ z. is_equal z.atom) (one_got p i k (positive w.equation) first w.left) ∙ w.is_equation

  pub got_part : part_at path l.atom ≡ Some (source swapped k.atom)
  got_part = ap (λ z. part_at path z.atom) (one_got q j l w.into second w.right) ∙ w.part ∙ ap (λ z. Some (source swapped z.atom)) (sym (one_got p i k (positive w.equation) first w.left))

-- ---- what is rewritten is a formula

module _ (sig : Sig) (e c : Term) (path : List ℕ) (is : IsTrue (is_equal e)) (fe : IsFormula sig e) (fc : IsFormula sig c) where
  replaced_formula : part_at path c ≡ Some (left_of e) → IsFormula sig (replaced_at path (right_of e) c)
  replaced_formula part =
      let context = context_is sig e c path is fe fc part _ refl in
      let parts = subst (IsFormula sig) (equal_is e is) fe in
      let right = (equal_sides sig (head_ty e) (left_of e) (right_of e) parts).1.1 in
      subst (IsFormula sig) context.after (applied_formula sig _ (right_of e) (head_ty e) (given_typed sig _ _ context.property) right (given_aux_free sig _ _ context.property) (equal_aux_free sig (head_ty e) (left_of e) (right_of e) parts).1)

pub rewritten_formula : (sig : Sig) (e c : Term) (swapped : Bool) (path : List ℕ) → IsTrue (is_equal e) → IsFormula sig e → IsFormula sig c → part_at path c ≡ Some (source swapped e) → IsFormula sig (replaced_at path (target swapped e) c)
rewritten_formula sig e c false path is fe fc part = replaced_formula sig e c path is fe fc part
rewritten_formula sig e c true path is fe fc part =
    let a = head_ty e in
    let s = left_of e in
    let t = right_of e in
    let parts = subst (IsFormula sig) (equal_is e is) fe in
    let sides = equal_sides sig a s t parts in
    let free = equal_aux_free sig a s t parts in
    let turned = equal_formula sig a t s sides.0 sides.1.1 sides.1.0 free.1 free.0 in
    subst (λ z. IsFormula sig (replaced_at path z c)) (right_of-apply (apply (constant (konst.Eq a)) t) s)
    (replaced_formula sig (equal a t s) c path (is_equal-equal a t s) turned fc (part ∙ ap (λ z. Some z) (sym (left_of-two (constant (konst.Eq a)) t s))))
